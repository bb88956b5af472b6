use Rattle.std.proofs.Common.{rules}
use Rattle.sheet.proofs.Pushes.{line_pushed}
use Rattle.sheet.proofs.answers.push_line.Goals as goal

pub returns : goal.returns
returns c = search (rules, line_pushed)
