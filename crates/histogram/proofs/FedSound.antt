-- A feed keeps what the kept slots satisfy. From the laws of a statistic.
use Rattle.std.proofs.Common.{◌≡◌, ℕ, ◌+◌, ◌<◌, ◌≤◌, true, leb, List, [], ◌∷◌, ◌++◌, map, length, ◌∙◌, inl, inr, le_refl, arith, length-append}
use lib.Seq.{take-length}
use Rattle.std.specs.List.{AllByRecursion}
use Rattle.std.proofs.lemmas.List.{take-append-le}
use Rattle.std.proofs.lemmas.Bool.{cond_both, leb-true, leb-false}
use Rattle.statistic.specs.Model.{Model, Admitted, Laws}
use Rattle.histogram.specs.declared.slot.Slot.{Slot}
use Rattle.histogram.specs.Method.{with_item, empty_slot, grown, pruned, unexpired, window_start, near, fed}
use Rattle.histogram.specs.Stands.{StandsFor, Stands}
use Rattle.histogram.specs.Thins.{Thins}
use Rattle.histogram.proofs.Chains.{Sparse, Linked, first_by, last_by, linked_map, last_map, linked_push, last_push, sparse_behind}
use Rattle.histogram.proofs.Expiry.{behind_expiry}
use Rattle.histogram.proofs.Soundness.{start_of, Covers, Follows, Sound}
use Rattle.histogram.proofs.Standing.{stands_grown, stands_fed}
use Rattle.histogram.proofs.Suffixes.{told_falls, near_close, no_nearer}
use Rattle.histogram.proofs.Thinned.{thins}
use Rattle.histogram.proofs.ThinnedChains.{first_thins, last_thins, linked_thins, sparse_thins}

-- ---- expiry

covers_unexpired : {S : Type 0} (w : ℕ) (slots : List (Slot S)) → first_by start_of slots ≤ w → Covers w (unexpired w slots)
covers_unexpired w [] h = tt
covers_unexpired w (s ∷ []) h = h
covers_unexpired w (s ∷ t ∷ ts) h =
    cond_both (leb t.start w) (unexpired w (t ∷ ts)) (s ∷ t ∷ ts) (Covers w)
    (λ e. covers_unexpired w (t ∷ ts) (leb-true t.start w e)) (λ e. (h, leb-false t.start w e))

covers_first : {S : Type 0} (w : ℕ) (slots : List (Slot S)) → Covers w slots → first_by start_of slots ≤ w
covers_first w [] h = omega arith
covers_first w (s ∷ []) h = h
covers_first w (s ∷ t ∷ ts) h = h.0

-- ---- what holds of two slots

abbrev Earlier : {S : Type 0} → Slot S → Slot S → Type 0
Earlier s t = s.start < t.start

earlier_still : {S : Type 0} (a b c : Slot S) → Earlier a b → Earlier b c → Earlier a c
earlier_still a b c h k = omega arith

-- slots that are near at this moment are close
near_follows : {I S : Type 0} (m : Model I S) (laws : Laws m) (loss : ℕ) (items : List I) → Admitted m items → (s t : Slot S)
    → StandsFor m items s → StandsFor m items t → Earlier s t → near m loss s t ≡ true → Follows m loss items s t
near_follows m laws loss items held s t p q later is =
    (later, inr (length items, q.1, le_refl (length items), rw take-length (near_close m laws items held loss s t p q is)))

-- one more item leaves the moments before it as they were
still_follows : {I S : Type 0} (m : Model I S) (loss : ℕ) (items : List I) (x : I) (s t : Slot S)
    → Follows m loss items s t → Follows m loss (items ++ x ∷ []) (with_item m x s) (with_item m x t)
still_follows m loss items x s t (later, inl next) = (later, inl next)
still_follows m loss items x s t (later, inr (n, seen, within, close)) =
    (later, inr (n, seen, simp length-append (omega arith), rw (take-append-le n items (x ∷ []) within) close))

-- ---- one more item x, which comes after `items`, fed to sound slots

first_grown : {I S : Type 0} (m : Model I S) (x : I) (n w : ℕ) (slots : List (Slot S))
    → first_by start_of slots ≤ w → last_by start_of slots ≡ n → 1 ≤ w → first_by start_of (grown m x (n + 1) slots) ≤ w
first_grown m x n w [] first newest some = omega arith
first_grown m x n w (s ∷ ts) first newest some = first

module _ {I S : Type 0} (m : Model I S) (laws : Laws m) (window loss : ℕ) (items : List I) (x : I) (admits : m.admits x ≡ true)
    (slots : List (Slot S)) (sound : Sound m loss items (window_start window (length items)) slots) where
  abbrev items' : List I
  items' = items ++ x ∷ []

  abbrev w : ℕ
  w = window_start window (length items + 1)

  abbrev new : Slot S
  new = with_item m x (empty_slot m (length items + 1))

  abbrev more : List (Slot S)
  more = grown m x (length items + 1) slots

  abbrev left : List (Slot S)
  left = pruned m loss more

  thin : Thins (near m loss) more left
  thin = thins (near m loss) more

  stands : Stands m items' (fed m x (length items + 1) w loss slots)
  stands = stands_fed m laws items x sound.stands.0 admits w loss slots sound.stands.1

  all_more : AllByRecursion (StandsFor m items') more
  all_more = stands_grown m laws items x sound.stands.0 admits slots sound.stands.1

  linked_more : Linked (Follows m loss items') more
  linked_more =
      linked_push start_of new (Follows m loss items') (map (with_item m x) slots) after_last
      (linked_map (with_item m x) (Follows m loss items) (Follows m loss items') (still_follows m loss items x) slots sound.linked)
    where
      after_last : (s : Slot S) → s.start ≡ last_by start_of (map (with_item m x) slots) → Follows m loss items' s new
      after_last s last =
          let before : s.start ≡ length items = last ∙ last_map (with_item m x) start_of slots ∙ sound.newest in
          (omega arith, inl (omega arith))

  linked_left : Linked (Follows m loss items') left
  linked_left =
      linked_thins (near m loss) (StandsFor m items') Earlier (Follows m loss items') earlier_still (λ s t h. h.0)
      (near_follows m laws loss items' stands.0) more left thin all_more linked_more

  sparse_left : Sparse (near m loss) left
  sparse_left =
      sparse_thins (near m loss) (StandsFor m items') Earlier (Follows m loss items') earlier_still (λ s t h. h.0)
      (λ a t u p q later. no_nearer m loss a t u (told_falls m laws items' stands.0 t u p q (omega arith)))
      more left thin all_more linked_more

  newest_left : last_by start_of left ≡ length items'
  newest_left = last_thins (near m loss) start_of more left thin ∙ last_push start_of new (map (with_item m x) slots) ∙ simp length-append

  first_left : first_by start_of left ≤ w
  first_left =
      let before : first_by start_of slots ≤ w = omega (arith, covers_first (window_start window (length items)) slots sound.window) in
      rw (first_thins (near m loss) start_of more left thin)
      (first_grown m x (length items) w slots before sound.newest (omega arith))

  pub sound_fed : Sound m loss (items ++ x ∷ []) w (fed m x (length items + 1) w loss slots)
  sound_fed = record {
    stands = stands;
    linked = behind_expiry (Linked (Follows m loss items')) (λ _ _ _ h. h.1) w left linked_left;
    newest = behind_expiry (λ l. last_by start_of l ≡ length items') (λ _ _ _ h. h) w left newest_left;
    window = covers_unexpired w left first_left;
    sparse = behind_expiry (Sparse (near m loss)) (sparse_behind (near m loss)) w left sparse_left;
  }
