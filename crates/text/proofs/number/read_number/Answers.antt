use Rattle.std.proofs.Common.{◌≤◌, length, arith}
use Rattle.std.proofs.lemmas.Bool.Decides.{nat_tests}
use Rattle.text.proofs.Decimals.{no_number, spelled_by}
use Rattle.text.proofs.number.read_number.Goals as goal

pub returns-then-is_empty : goal.returns-then-is_empty
returns-then-is_empty c = no_number _ _ (grind (arith, nat_tests))

pub returns : goal.returns
returns c =
    let some : 1 ≤ length c.args.digits.now = grind (arith, nat_tests) in
    spelled_by _ _ _ some (omega arith) (cc) c.value.ensures
