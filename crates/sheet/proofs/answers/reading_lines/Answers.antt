use Rattle.std.proofs.Common.{◌≡◌, [], codes, arith}
use Rattle.sheet.specs.Answers.{number_line}
use Rattle.sheet.proofs.Pushes.{number_fitted, length-number_line}
use Rattle.sheet.proofs.answers.reading_lines.Goals as goal

pub returns : goal.returns
returns c =
    let low = number_line (codes "low=") c.args.low in
    let first : c.push_line.new.text ≡ low = number_fitted _ _ [] (codes "low=") c.args.low (cc) c.new-text.ensures (omega arith) (omega arith) in
    number_fitted _ _ low (codes "high=") c.args.high (cc) first (omega arith) (omega (arith, length-number_line (codes "low=") c.args.low (omega arith)))
