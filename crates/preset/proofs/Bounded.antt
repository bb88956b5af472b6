-- How many numbers can fall from a top, every other one by more than a cut. From what `steps` counts.
use Rattle.std.proofs.Common.{ℕ, zero, suc, ◌+◌, ◌-◌, ◌*◌, ◌<◌, ◌≤◌, List, [], ◌∷◌, length, le_refl, mul_comm, mul-le-mul_left, mul-zero, le-div_iff_mul-le, arith}
use Rattle.std.specs.List.{AllByRecursion}
use Rattle.preset.specs.Wanted.{fall, steps, Proper}
use Rattle.preset.proofs.Falls.{fall_lowers, steps_fall}

-- Elements that tell numbers.
module _ {X : Type 0} (told : X → ℕ) (cut : ℕ × ℕ) where
  -- of three in a row the third tells less than the first by more than the cut
  abbrev pub Apart : List X → Type 0
  Apart [] = Unit {0}
  Apart (a ∷ []) = Unit {0}
  Apart (a ∷ b ∷ []) = Unit {0}
  Apart (a ∷ b ∷ c ∷ rest) = (cut.1 * told c < (cut.1 - cut.0) * told a) × Apart (b ∷ c ∷ rest)

  apart_behind : (a b : X) (rest : List X) → Apart (a ∷ b ∷ rest) → Apart (b ∷ rest)
  apart_behind a b [] h = tt
  apart_behind a b (c ∷ rest) h = h.1

module _ (cut : ℕ × ℕ) (proper : Proper cut) where
  positive : 0 < cut.1
  positive = omega arith

  -- a number that falls by more than the cut is at or below one fall
  below_fall : (a c : ℕ) → cut.1 * c < (cut.1 - cut.0) * a → c ≤ fall cut a
  below_fall a c h = (le-div_iff_mul-le positive).1 (omega (arith, mul_comm c cut.1))

  fall_mono : (u v : ℕ) → u ≤ v → fall cut u ≤ fall cut v
  fall_mono u v h =
      let whole : fall cut u * cut.1 ≤ (cut.1 - cut.0) * u - 1 = (le-div_iff_mul-le positive).0 (le_refl (fall cut u)) in
      (le-div_iff_mul-le positive).1 (omega (arith, mul-le-mul_left (cut.1 - cut.0) h))

  steps_mono_within : (limit u v : ℕ) → v ≤ limit → u ≤ v → steps cut u ≤ steps cut v
  steps_mono_within limit zero v within h = omega arith
  steps_mono_within zero (suc u) v within h = absurd (omega arith)
  steps_mono_within (suc limit) (suc u) v within h =
      let low : fall cut v < v = fall_lowers cut proper v (omega arith) in
      omega (
        arith,
        steps_fall cut proper (suc u) (omega arith),
        steps_fall cut proper v (omega arith),
        steps_mono_within limit (fall cut (suc u)) (fall cut v) (omega arith) (fall_mono (suc u) v h),
      )

  -- a larger number takes no fewer falls
  pub steps_mono : (u v : ℕ) → u ≤ v → steps cut u ≤ steps cut v
  steps_mono u v = steps_mono_within v u v (le_refl v)

  above : (a c : ℕ) → cut.1 * c < (cut.1 - cut.0) * a → 0 < a
  above zero c h = absurd (omega (arith, mul-zero (cut.1 - cut.0)))
  above (suc a) c h = omega arith

  -- what tells more than a cut less takes one step less at least
  one_step : (a c : ℕ) → cut.1 * c < (cut.1 - cut.0) * a → steps cut c + 1 ≤ steps cut a
  one_step a c h = omega (arith, steps_mono c (fall cut a) (below_fall a c h), steps_fall cut proper a (above a c h))

  module _ {X : Type 0} (told : X → ℕ) where
    bounded_from : (a : X) (rest : List X) → Apart told cut (a ∷ rest) → length (a ∷ rest) ≤ 2 * steps cut (told a) + 2
    bounded_from a [] h = omega arith
    bounded_from a (b ∷ []) h = omega arith
    bounded_from a (b ∷ c ∷ rest) h = omega (arith, bounded_from c rest (apart_behind told cut b c rest h.1), one_step (told a) (told c) h.0)

    -- Where none tells more than a top, they are at most two more than twice the falls of the top.
    pub bounded : (top : ℕ) (xs : List X) → AllByRecursion (λ x. told x ≤ top) xs → Apart told cut xs → length xs ≤ 2 * steps cut top + 2
    bounded top [] below h = omega arith
    bounded top (a ∷ rest) below h = omega (arith, bounded_from a rest h, steps_mono (told a) top below.0)
