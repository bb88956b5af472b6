-- What slots that stand for suffixes of the items tell. From the laws of a statistic.
use Rattle.std.proofs.Common.{◌≡◌, ℕ, zero, suc, ◌+◌, ◌-◌, ◌*◌, ◌≤◌, true, false, List, [], ◌∷◌, ◌++◌, length, take, drop, sym, ap, ◌∙◌, subst, subst₂, le_trans, le_refl, mul-le-mul_left, arith, take-append-drop}
use Rattle.std.proofs.lemmas.List.{drop-append-le, drop-drop, length-take-le}
use Rattle.std.proofs.lemmas.Bool.{leb-true, leb-false, lt-leb}
use Rattle.statistic.specs.Model.{Model, Admitted, Laws, IsLoss, Close}
use Rattle.histogram.specs.declared.slot.Slot.{Slot}
use Rattle.histogram.specs.Method.{near, told}
use Rattle.histogram.specs.Stands.{from, StandsFor}
use Rattle.histogram.proofs.Standing.{Admitted-drop}

-- behind a first part, what lies further behind
further : {X : Type 0} (i j : ℕ) (xs : List X) → i ≤ j → drop (j - i) (drop i xs) ≡ drop j xs
further i j xs h = let all : i + (j - i) ≡ j = omega arith in drop-drop (j - i) i xs ∙ ap (λ n. drop n xs) all

module _ {I S : Type 0} (m : Model I S) (laws : Laws m) where
  fewer : (n : ℕ) (A : List I) → Admitted m A → m.f (drop n A) ≤ m.f A
  fewer zero A h = le_refl (m.f A)
  fewer (suc n) [] h = le_refl (m.f [])
  fewer (suc n) (x ∷ A) h = le_trans (fewer n A h.1) (laws.oldest_out_never_raises x A h)

  module _ (items : List I) (held : Admitted m items) where
    -- f of the items from a later start on is no more
    pub falls : (s t : ℕ) → s ≤ t → m.f (from m t items) ≤ m.f (from m s items)
    falls s t later =
        subst (λ l. m.f l ≤ m.f (from m s items)) (further (s - 1) (t - 1) items (omega arith))
        (fewer (t - 1 - (s - 1)) (from m s items) (Admitted-drop m (s - 1) items held))

    -- a slot tells f of what it stands for
    pub tells : (s : Slot S) → StandsFor m items s → told m s ≡ m.f (from m s.start items)
    tells s (_, _, is) = ap m.value is ∙ laws.valuing (from m s.start items) (Admitted-drop m (s.start - 1) items held)

    pub told_falls : (s t : Slot S) → StandsFor m items s → StandsFor m items t → s.start ≤ t.start → told m t ≤ told m s
    told_falls s t p q later = subst₂ ◌≤◌ (sym (tells t q)) (sym (tells s p)) (falls s.start t.start later)

    pub near_close : (loss : ℕ) (s t : Slot S) → StandsFor m items s → StandsFor m items t → near m loss s t ≡ true
        → Close (m.cut loss) (m.f (from m t.start items)) (m.f (from m s.start items))
    near_close loss s t p q h = subst₂ (Close (m.cut loss)) (tells t q) (tells s p) (leb-true _ _ h)

    -- Once close, when n items had come, the two keep the loss whatever comes after.
    pub stays_close : (loss : ℕ) → IsLoss loss → (s t n : ℕ) → s ≤ t → t ≤ n → n ≤ length items
        → Close (m.cut loss) (m.f (from m t (take n items))) (m.f (from m s (take n items)))
        → (1000 - loss) * m.f (from m s items) ≤ 1000 * m.f (from m t items)
    stays_close loss is_loss s t n later seen within close =
        let first = t - 1 - (s - 1) in
        let X = take first (from m s (take n items)) in
        let B = from m t (take n items) in
        let C = drop n items in
        let behind : B ≡ drop first (from m s (take n items)) = sym (further (s - 1) (t - 1) (take n items) (omega arith)) in
        let whole : X ++ B ≡ from m s (take n items) = ap (λ l. X ++ l) behind ∙ take-append-drop first (from m s (take n items)) in
        let all : (X ++ B) ++ C ≡ from m s items = ap (λ l. l ++ C) whole ∙ with_later s (omega arith) in
        let close' : Close (m.cut loss) (m.f B) (m.f (X ++ B)) = rw whole close in
        let held' : Admitted m ((X ++ B) ++ C) = rw all (Admitted-drop m (s - 1) items held) in
        subst₂ (λ a b. (1000 - loss) * m.f a ≤ 1000 * m.f b) all (with_later t seen) (laws.smooth loss is_loss X B C held' close')
      where
        -- the items from u to n, and then those after n
        with_later : (u : ℕ) → u ≤ n → from m u (take n items) ++ drop n items ≡ from m u items
        with_later u h =
            let short : u - 1 ≤ length (take n items) = omega (arith, length-take-le n items within) in
            sym (drop-append-le (u - 1) (take n items) (drop n items) short) ∙ ap (drop (u - 1)) (take-append-drop n items)

-- a slot that tells no more than one that is not near is not near
pub no_nearer : {I S : Type 0} (m : Model I S) (loss : ℕ) (a t u : Slot S) → told m u ≤ told m t → near m loss a t ≡ false → near m loss a u ≡ false
no_nearer m loss a t u less far = lt-leb _ _ (le_trans (omega (arith, mul-le-mul_left (m.cut loss).1 less)) (leb-false _ _ far))
