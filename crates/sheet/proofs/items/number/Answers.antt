use Rattle.std.proofs.Common.{◌≡◌, ℕ, ◌^◌, ◌<◌, ◌≤◌, min, List, Some, sym, le_refl, arith, lit<}
use native.Mathlib.Nat.{pow-le-pow_right}
use Rattle.text.specs.Decimal.{spelled}
use Rattle.text.proofs.Decimals.{spelled_small}
use Rattle.sheet.proofs.items.number.Goals as goal

below : (most n k : ℕ) (ds : List ℕ) → Some n ≡ spelled most ds → most ≤ k → n < 10 ^ k
below most n k ds e few =
    let fewer : min most 16 ≤ k = omega arith in
    let p : 10 ^ min most 16 ≤ 10 ^ k = pow-le-pow_right (lit< tt) fewer in
    omega (arith, spelled_small most n ds (sym e))

pub overflow_cast-result : goal.overflow_cast-result
overflow_cast-result c = omega (arith, below c.args.most _ 9 _ c.in_ok-read_number.ensures c.requires)

pub returns-clause-bound : goal.returns-clause-bound
returns-clause-bound c = below c.args.most _ c.args.most _ c.in_ok-read_number.ensures (le_refl _)
