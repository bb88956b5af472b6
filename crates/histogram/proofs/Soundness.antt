-- What the kept slots satisfy at every moment of a take.
use Rattle.std.proofs.Common.{◌≡◌, ℕ, ◌+◌, ◌<◌, ◌≤◌, ◌⊎◌, List, [], ◌∷◌, length, take}
use Rattle.statistic.specs.Model.{Model, Close}
use Rattle.histogram.specs.declared.slot.Slot.{Slot}
use Rattle.histogram.specs.Method.{near}
use Rattle.histogram.specs.Stands.{from, Stands}
use Rattle.histogram.proofs.Chains.{Sparse, Linked, last_by}

abbrev pub start_of : {S : Type 0} → Slot S → ℕ
start_of s = s.start

-- the first slot starts at or before w, and the second, if any, after it
abbrev pub Covers : {S : Type 0} → ℕ → List (Slot S) → Type 0
Covers w [] = Unit {0}
Covers w (s ∷ []) = s.start ≤ w
Covers w (s ∷ t ∷ ts) = (s.start ≤ w) × (w < t.start)

module _ {I S : Type 0} (m : Model I S) (loss : ℕ) where
  -- at some moment, when n items had come, f of those from t on was close to f of those from s on
  abbrev pub WereClose : List I → ℕ → ℕ → Type 0
  WereClose items s t =
      (n : ℕ) × (t ≤ n) × (n ≤ length items) × Close (m.cut loss) (m.f (from m t (take n items))) (m.f (from m s (take n items)))

  -- neighbours: the second starts later, and where it does not start right after the first, the two were close
  abbrev pub Follows : List I → Slot S → Slot S → Type 0
  Follows items s t = (s.start < t.start) × ((t.start ≡ s.start + 1) ⊎ WereClose items s.start t.start)

  pub record Sound (items : List I) (w : ℕ) (slots : List (Slot S)) : Type 0 where
    pub stands : Stands m items slots
    pub linked : Linked (Follows items) slots
    -- the last slot starts at the newest item
    pub newest : last_by start_of slots ≡ length items
    -- the window starts with the first slot, or between it and the second
    pub window : Covers w slots
    pub sparse : Sparse (near m loss) slots
