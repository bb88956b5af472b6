-- What expiry keeps, one slot after another and as a whole. Assumes nothing.
use Rattle.std.proofs.Common.{◌≡◌, ℕ, ◌+◌, ◌-◌, ◌≤◌, true, false, cond, leb, List, [], ◌∷◌, length, take, drop, sym, refl, ap, ◌∙◌, zero-add, one-add, arith, length-drop, length-take}
use lib.Seq.{paste}
use Rattle.std.specs.List.{prefix_len}
use Rattle.std.proofs.lemmas.List.{drop-take, drop_all}
use Rattle.std.proofs.lemmas.List.Edits.{take-paste}
use Rattle.histogram.specs.declared.slot.Slot.{Slot}
use Rattle.histogram.specs.Method.{unexpired}

-- how many are passed: behind the first, as many as start at or before w
abbrev passed : {S : Type 0} → ℕ → List (Slot S) → ℕ
passed w slots = prefix_len (λ slot. leb slot.start w) (drop 1 slots)

pub drop-passed : {S : Type 0} (w : ℕ) (slots : List (Slot S)) → drop (passed w slots) slots ≡ unexpired w slots
drop-passed w [] = refl
drop-passed w (s ∷ []) = refl
drop-passed w (s ∷ t ∷ ts) =
    elim (leb t.start w) as (λ b. drop (cond b (1 + prefix_len (λ slot. leb slot.start w) ts) 0) (s ∷ t ∷ ts) ≡ cond b (unexpired w (t ∷ ts)) (s ∷ t ∷ ts))
    [ true ↦ rw one-add (drop-passed w (t ∷ ts)) | false ↦ refl ]

-- what a list keeps where its first slot goes, it keeps through expiry
module _ {S : Type 0} (Keeps : List (Slot S) → Type 0) (one_gone : (s t : Slot S) (ts : List (Slot S)) → Keeps (s ∷ t ∷ ts) → Keeps (t ∷ ts)) where
  pub behind_expiry : (w : ℕ) (slots : List (Slot S)) → Keeps slots → Keeps (unexpired w slots)
  behind_expiry w [] h = h
  behind_expiry w (s ∷ []) h = h
  behind_expiry w (s ∷ t ∷ ts) h =
      elim (leb t.start w) as (λ b. Keeps (cond b (unexpired w (t ∷ ts)) (s ∷ t ∷ ts)))
      [ true ↦ behind_expiry w (t ∷ ts) (one_gone s t ts h) | false ↦ h ]

-- Of the first n elements, those behind the first few: where they are, and moved to the front.
module _ {X : Type 0} (xs : List X) (n gone : ℕ) where
  behind : take (n - gone) (drop gone xs) ≡ drop gone (take n xs)
  behind = grind (arith, drop-take gone (n - gone) xs, drop_all gone (take n xs), length-take n xs)

  pub moved_up : n ≤ length xs → take (n - gone) (paste xs 0 (drop gone xs) (n - gone)) ≡ drop gone (take n xs)
  moved_up enough =
      let k = n - gone in
      let left : k ≤ length (drop gone xs) = simp length-drop (omega arith) in
      ap (λ j. take j (paste xs 0 (drop gone xs) k)) (sym (zero-add k)) ∙ take-paste xs 0 (drop gone xs) k (omega arith) left ∙ behind
