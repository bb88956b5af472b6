-- A fall at a proper fraction lowers v, so `steps` counts the falls whatever its limit.
use Rattle.std.proofs.Common.{◌≡◌, ℕ, zero, suc, ◌+◌, ◌-◌, ◌*◌, ◌<◌, ◌≤◌, refl, mul-le-mul_right, mul_comm, div-lt_iff_lt-mul, mul-pos, arith}
use Rattle.preset.specs.Wanted.{fall, fallen, steps_within, steps, Counts, Proper}

module _ (cut : ℕ × ℕ) (proper : Proper cut) where
  pub fall_lowers : (v : ℕ) → 0 < v → fall cut v < v
  fall_lowers v pos =
      let less : (cut.1 - cut.0) * v ≤ cut.1 * v = mul-le-mul_right v (omega arith) in
      let most : 0 < cut.1 * v = mul-pos (omega arith) pos in
      (div-lt_iff_lt-mul (omega arith)).1 (omega (arith, mul_comm cut.1 v))

  counts_within : (limit v : ℕ) → v ≤ limit → Counts cut v (steps_within limit cut v)
  counts_within zero v h = (omega arith, λ j low. absurd (omega arith))
  counts_within (suc limit) zero h = (refl, λ j low. absurd (omega arith))
  counts_within (suc limit) (suc u) h =
      let low : fall cut (suc u) < suc u = fall_lowers (suc u) (omega arith) in
      let rest = counts_within limit (fall cut (suc u)) (omega arith) in
      let later = λ (j : ℕ). j < suc (steps_within limit cut (fall cut (suc u))) → 0 < fallen j cut (suc u) in
      (rest.0, λ j. elim j as later [ zero ↦ λ less. omega arith | suc j ↦ λ less. rest.1 j (omega arith) ])

  pub steps_count : (v : ℕ) → Counts cut v (steps cut v)
  steps_count v = counts_within v v (omega arith)

  -- two counts of the falls of v are the same
  alone : (j k v : ℕ) → Counts cut v j → Counts cut v k → j ≡ k
  alone j k v a b = grind (arith, a.1 k, b.1 j, a.0, b.0)

  -- one fall is one step
  pub steps_fall : (v : ℕ) → 0 < v → steps cut v ≡ steps cut (fall cut v) + 1
  steps_fall zero pos = absurd (omega arith)
  steps_fall (suc u) pos =
      let v = fall cut (suc u) in
      let low : v < suc u = fall_lowers (suc u) pos in
      omega (arith, alone (steps_within u cut v) (steps cut v) v (counts_within u v (omega arith)) (steps_count v))
