-- When a statistic is smooth, over plain numbers and lists, so that each kind and each layer cites it. Assumes nothing.
use Rattle.std.specs.Prelude.{◌≡◌, ℕ, ◌+◌, ◌-◌, ◌*◌, ◌^◌, ◌<◌, ◌≤◌, min, true, List, [], ◌∷◌, ◌++◌}
use Rattle.std.proofs.Common.{append_assoc, append-nil, mul-add, add-mul, mul-le-mul, mul-le-mul_left, mul-le-mul_right, arith}
use Rattle.std.proofs.Math.Nat.{le_of_mul-le-mul_left}
use Rattle.statistic.specs.Model.{Model, Admitted, IsLoss, CutFits, Close}

-- the newest of a list of admitted items is admitted
pub newest_admitted : {I S : Type 0} (m : Model I S) (A : List I) (x : I) → Admitted m (A ++ x ∷ []) → m.admits x ≡ true
newest_admitted m [] x h = h.0
newest_admitted m (a ∷ A) x h = newest_admitted m A x h.1

-- and so is each older one
pub older_admitted : {I S : Type 0} (m : Model I S) (A : List I) (x : I) → Admitted m (A ++ x ∷ []) → Admitted m A
older_admitted m [] x h = tt
older_admitted m (a ∷ A) x h = (h.0, older_admitted m A x h.1)

-- the loss itself is a cut that fits
pub loss_fits : (top loss : ℕ) → top * 1000 < 2 ^ 63 → IsLoss loss → CutFits top loss (loss, 1000)
loss_fits top loss h l = (omega arith, omega arith, omega arith, h)

-- What follows adds no more to the whole than to its newer part: then a newer part that is near stays near.
stays_near : (w n newer whole newer' whole' : ℕ) → w ≤ n → newer ≤ newer' → whole' + newer ≤ whole + newer' → w * whole ≤ n * newer → w * whole' ≤ n * newer'
stays_near w n b a b' a' proper rises slower near = grind (arith, mul-le-mul_left w slower, mul-add, mul-le-mul_right (b' - b) proper)

-- An f that never falls as items come in, and to which an older item adds the less the more follows it.
pub record Slows {I : Type 0} (f : List I → ℕ) : Type 0 where
  pub grows : (A : List I) (x : I) → f A ≤ f (A ++ x ∷ [])
  pub slows : (x : I) (A C : List I) → f (x ∷ (A ++ C)) + f A ≤ f (x ∷ A) + f (A ++ C)

module _ {I : Type 0} (f : List I → ℕ) (s : Slows f) where
  pub grown : (A C : List I) → f A ≤ f (A ++ C)
  grown A [] = grind (arith, append-nil)
  grown A (x ∷ C) = grind (arith, s.grows, append_assoc, grown (A ++ x ∷ []) C)

  slowed : (X B C : List I) → f ((X ++ B) ++ C) + f B ≤ f (X ++ B) + f (B ++ C)
  slowed [] B C = grind arith
  slowed (x ∷ X) B C = grind (arith, s.slows, slowed X B C)

  pub slows_smooth : (loss : ℕ) (X B C : List I) → Close (loss, 1000) (f B) (f (X ++ B)) → (1000 - loss) * f ((X ++ B) ++ C) ≤ 1000 * f (B ++ C)
  slows_smooth loss X B C near = stays_near (1000 - loss) 1000 _ _ _ _ (omega arith) (grown B C) (slowed X B C) near

-- A cut that fits is no larger than the loss: nearness by the cut is nearness by the loss.
by_loss : (top loss : ℕ) (cut : ℕ × ℕ) (newer whole : ℕ) → IsLoss loss → CutFits top loss cut → Close cut newer whole → (1000 - loss) * whole ≤ 1000 * newer
by_loss top loss (b, d) newer whole l fits near =
    let wider : (1000 - loss) * d ≤ 1000 * (d - b) = grind (arith, add-mul (1000 - loss) loss d) in
    let times : d * ((1000 - loss) * whole) ≤ d * (1000 * newer) = grind (arith, mul-le-mul_right whole wider) in
    le_of_mul-le-mul_left times (omega arith)

-- A ceiling c keeps smoothness: where near parts stay near without it, and the newer part never falls, they do with it.
pub ceiling_smooth : (c top loss : ℕ) (cut : ℕ × ℕ) → IsLoss loss → CutFits top loss cut → (newer whole newer' whole' : ℕ) → newer ≤ newer' → (Close cut newer whole → (1000 - loss) * whole' ≤ 1000 * newer') → Close cut (min c newer) (min c whole) → (1000 - loss) * min c whole' ≤ 1000 * min c newer'
ceiling_smooth c top loss cut l fits b a b' a' rises smooth near = grind (arith, smooth, by_loss top loss cut b c l fits, mul-le-mul)
