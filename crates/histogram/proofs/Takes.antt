-- What the slots that a whole take keeps promise. From the laws of a statistic.
use Rattle.std.proofs.Common.{◌≡◌, ℕ, ◌+◌, ◌-◌, ◌≤◌, true, List, [], ◌∷◌, ◌++◌, length, sym, refl, ap, subst₂, append_assoc, append-nil, arith, length-append}
use Rattle.std.specs.List.{AllByRecursion}
use Rattle.std.proofs.ByRecursion.{All-weaker}
use Rattle.statistic.specs.Model.{Model, Admitted, Laws, IsLoss}
use Rattle.histogram.specs.declared.slot.Slot.{Slot}
use Rattle.histogram.specs.Kept.{kept_from, kept_of, Encloses, LossKept}
use Rattle.histogram.specs.Method.{fed, near, window_start, told, reading_of}
use Rattle.histogram.specs.Stands.{from, StandsFor, Stands}
use Rattle.histogram.proofs.Chains.{Sparse}
use Rattle.histogram.proofs.Enclosing.{few, reading_serves}
use Rattle.histogram.proofs.FedSound.{sound_fed}
use Rattle.histogram.proofs.Soundness.{Sound}
use Rattle.histogram.proofs.Standing.{Admitted-drop}
use Rattle.histogram.proofs.Suffixes.{tells}

module _ {I S : Type 0} (m : Model I S) (window loss : ℕ) where
  -- the slots fed an item at a position
  abbrev fed_at : ℕ → I → List (Slot S) → List (Slot S)
  fed_at position x slots = fed m x position (window_start window position) loss slots

  more_from : (x : I) (n position : ℕ) (slots : List (Slot S)) (xs : List I) → position ≡ n + length xs + 1
      → kept_from m (window, loss) n slots (xs ++ x ∷ []) ≡ fed_at position x (kept_from m (window, loss) n slots xs)
  more_from x n position slots [] is = let one : n + 1 ≡ position = omega arith in ap (λ k. fed_at k x slots) one
  more_from x n position slots (y ∷ xs) is = more_from x (n + 1) position (fed_at (n + 1) y slots) xs (omega arith)

  -- one more item is one more feed
  pub kept_more : (items : List I) (x : I)
      → kept_of m (window, loss) (items ++ x ∷ [])
      ≡ fed m x (length items + 1) (window_start window (length items + 1)) loss (kept_of m (window, loss) items)
  kept_more items x = more_from x 0 (length items + 1) [] items (omega arith)

  abbrev SoundNow : List I → List (Slot S) → Type 0
  SoundNow items slots = Sound m loss items (window_start window (length items)) slots

  module _ (laws : Laws m) where
    sound_next : (before : List I) (x : I) (n : ℕ) (slots : List (Slot S)) → n ≡ length before → m.admits x ≡ true → SoundNow before slots
        → SoundNow (before ++ x ∷ []) (fed_at (n + 1) x slots)
    sound_next before x n slots is admits sound =
        let one : length (before ++ x ∷ []) ≡ length before + 1 = length-append before (x ∷ []) in
        subst₂ (λ j k. Sound m loss (before ++ x ∷ []) (window_start window j) (fed_at k x slots)) (sym one) (ap (λ k. k + 1) (sym is))
        (sound_fed m laws window loss before x admits slots sound)

    -- slots kept at position n, with the items up to there before
    sound_from : (before xs : List I) (n : ℕ) (slots : List (Slot S)) → n ≡ length before → Admitted m xs → SoundNow before slots
        → SoundNow (before ++ xs) (kept_from m (window, loss) n slots xs)
    sound_from before [] n slots is h sound = rw append-nil sound
    sound_from before (x ∷ xs) n slots is h sound =
        let long : n + 1 ≡ length (before ++ x ∷ []) = simp length-append (omega arith) in
        let fed_one : List (Slot S) = fed_at (n + 1) x slots in
        rw append_assoc at (sound_from (before ++ x ∷ []) xs (n + 1) fed_one long h.1 (sound_next before x n slots is h.0 sound))

    module _ (items : List I) (held : Admitted m items) where
      sound_of : SoundNow items (kept_of m (window, loss) items)
      sound_of = sound_from [] items 0 [] refl held (record { stands = (tt, tt); linked = tt; newest = refl; window = tt; sparse = tt })

      -- each kept slot stands for the items from its start to now
      pub stands_of : Stands m items (kept_of m (window, loss) items)
      stands_of = sound_of.stands

      -- of three kept slots in a row the third is not near the first
      pub sparse_of : Sparse (near m loss) (kept_of m (window, loss) items)
      sparse_of = sound_of.sparse

      -- none tells more than the top
      pub below_top_of : AllByRecursion (λ s. told m s ≤ m.top) (kept_of m (window, loss) items)
      below_top_of =
          All-weaker (StandsFor m items) (λ s. told m s ≤ m.top)
          (λ s p. rw (tells m laws items held s p) (laws.below_top (from m s.start items) (Admitted-drop m (s.start - 1) items held)))
          (kept_of m (window, loss) items) stands_of.1

      module _ (some : 1 ≤ window) where
        -- no more slots are kept than the window is long
        pub few_of : length (kept_of m (window, loss) items) ≤ window
        few_of = few m window loss items some (kept_of m (window, loss) items) sound_of

        -- the reading encloses what is asked for, and keeps the loss
        pub reading_of_take : IsLoss loss
            → (let reading = reading_of m (window_start window (length items)) (kept_of m (window, loss) items) in
            Encloses m window items reading × LossKept loss reading)
        reading_of_take is_loss = reading_serves m window loss items laws is_loss some (kept_of m (window, loss) items) sound_of
