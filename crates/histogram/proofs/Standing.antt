-- A feed keeps what the slots stand for. From the laws of adding alone.
use Rattle.std.proofs.Common.{◌≡◌, ℕ, zero, suc, ◌+◌, ◌-◌, ◌≤◌, Bool, true, List, [], ◌∷◌, ◌++◌, map, length, drop, sym, ap, ◌∙◌, arith, length-append}
use Rattle.std.specs.List.{prefix_len, AllByRecursion}
use Rattle.std.proofs.ByRecursion.{All-drop, All-append, All-map, All-weaker}
use Rattle.std.proofs.lemmas.List.{drop-append-le, drop_at}
use Rattle.statistic.specs.Model.{Model, Admitted, Laws}
use Rattle.histogram.specs.declared.slot.Slot.{Slot}
use Rattle.histogram.specs.Method.{with_item, empty_slot, grown, onward, anchored, pruned, near, fed}
use Rattle.histogram.specs.Stands.{from, StandsFor, Stands}
use Rattle.histogram.proofs.Expiry.{behind_expiry}

-- thinning only takes elements away
module _ {X : Type 0} (P : X → Type 0) (near : X → X → Bool) where
  all_anchored : (n : ℕ) (xs : List X) → AllByRecursion P xs → AllByRecursion P (anchored near n xs)
  all_anchored zero xs h = h
  all_anchored (suc n) [] h = tt
  all_anchored (suc n) (a ∷ ts) h = (h.0, all_anchored n (onward near a ts) (All-drop P (prefix_len (near a) ts - 1) ts h.1))

module _ {I S : Type 0} (m : Model I S) where
  pub Admitted-drop : (n : ℕ) (A : List I) → Admitted m A → Admitted m (drop n A)
  Admitted-drop zero A h = h
  Admitted-drop (suc n) [] h = tt
  Admitted-drop (suc n) (x ∷ A) h = Admitted-drop n A h.1

  Admitted-append : (A B : List I) → Admitted m A → Admitted m B → Admitted m (A ++ B)
  Admitted-append [] B h k = k
  Admitted-append (x ∷ A) B h k = (h.0, Admitted-append A B h.1 k)

module _ {I S : Type 0} (m : Model I S) (laws : Laws m) (items : List I) (x : I) (held : Admitted m items) (admits : m.admits x ≡ true) where
  -- the state for some of the items, and the new one
  added : (s : Slot S) → s.start - 1 ≤ length items → s.state ≡ m.state (from m s.start items) → m.add s.state x ≡ m.state (from m s.start (items ++ x ∷ []))
  added s within is =
      let A = from m s.start items in
      ap (λ state. m.add state x) is ∙ laws.adding A x (Admitted-append m A (x ∷ []) (Admitted-drop m (s.start - 1) items held) (admits, tt))
      ∙ ap m.state (sym (drop-append-le (s.start - 1) items (x ∷ []) within))

  old : (s : Slot S) → StandsFor m items s → StandsFor m (items ++ x ∷ []) (with_item m x s)
  old s (low, high, is) = (low, simp length-append (omega arith), added s (omega arith) is)

  new : StandsFor m (items ++ x ∷ []) (with_item m x (empty_slot m (length items + 1)))
  new =
      let last : drop (length items + 1 - 1) (items ++ x ∷ []) ≡ x ∷ [] = drop_at items (x ∷ []) (length items + 1 - 1) (omega arith) in
      (omega arith, simp length-append (omega arith), laws.adding [] x (admits, tt) ∙ ap m.state (sym last))

  -- every slot stands for its items once the new one is in
  pub stands_grown : (kept : List (Slot S)) → AllByRecursion (StandsFor m items) kept
      → AllByRecursion (StandsFor m (items ++ x ∷ [])) (grown m x (length items + 1) kept)
  stands_grown kept h =
      let P = StandsFor m (items ++ x ∷ []) in
      let older : AllByRecursion P (map (with_item m x) kept) = All-map P (with_item m x) kept (All-weaker (StandsFor m items) (λ s. P (with_item m x s)) old kept h) in
      All-append P (map (with_item m x) kept) (with_item m x (empty_slot m (length items + 1)) ∷ []) older (new, tt)

  pub stands_fed : (w loss : ℕ) (kept : List (Slot S)) → AllByRecursion (StandsFor m items) kept
      → Stands m (items ++ x ∷ []) (fed m x (length items + 1) w loss kept)
  stands_fed w loss kept h =
      let P = StandsFor m (items ++ x ∷ []) in
      let slots = grown m x (length items + 1) kept in
      let left : AllByRecursion P (pruned m loss slots) = all_anchored P (near m loss) (length slots) slots (stands_grown kept h) in
      (Admitted-append m items (x ∷ []) held (admits, tt), behind_expiry (AllByRecursion P) (λ _ _ _ all. all.1) w (pruned m loss slots) left)
