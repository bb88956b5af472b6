use Rattle.std.proofs.Common.{[], codes, arith}
use Rattle.refusal.specs.Numbers.{number_of}
use Rattle.sheet.proofs.Pushes.{number_fitted}
use Rattle.sheet.proofs.answers.refusal_line.Goals as goal

pub returns : goal.returns
returns c =
    number_fitted _ _ [] (codes "refused=") (number_of c.args.refusal) (cc) c.new-text.ensures (omega arith) (omega arith)
