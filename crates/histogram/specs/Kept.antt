-- What the kept slots of a whole take promise. A reader must believe that `kept_of` is what a take keeps of its items, fed one
-- after another, and that `Encloses` and `LossKept` are what a reading is for.
use Rattle.std.specs.Prelude.{ℕ, ◌+◌, ◌-◌, ◌*◌, ◌≤◌, List, [], ◌∷◌, length, drop}
use Rattle.statistic.specs.Model.{Model}
use Rattle.histogram.specs.declared.slot.Slot.{Slot}
use Rattle.histogram.specs.Method.{fed, window_start}

module _ {I S : Type 0} (m : Model I S) where
  -- the slots that the method keeps at a window and a loss after more items, from those that it keeps at position n
  abbrev pub kept_from : ℕ × ℕ → ℕ → List (Slot S) → List I → List (Slot S)
  kept_from (window, loss) n slots [] = slots
  kept_from (window, loss) n slots (x ∷ xs) = kept_from (window, loss) (n + 1) (fed m x (n + 1) (window_start window (n + 1)) loss slots) xs

  -- the slots that the method keeps of a take, from its window and loss and its items alone
  abbrev pub kept_of : ℕ × ℕ → List I → List (Slot S)
  kept_of preset items = kept_from preset 0 [] items

-- the items in the window: the last ones, as many as the window is long, or all where they are fewer
abbrev pub last_of : {I : Type 0} → ℕ → List I → List I
last_of window items = drop (length items - window) items

-- the number that is asked for lies from low to high
abbrev pub Encloses : {I S : Type 0} → Model I S → ℕ → List I → ℕ × ℕ → Type 0
Encloses m window items (low, high) = (low ≤ m.f (last_of window items)) × (m.f (last_of window items) ≤ high)

-- low falls short of high by at most the loss, in thousandths
abbrev pub LossKept : ℕ → ℕ × ℕ → Type 0
LossKept loss (low, high) = (1000 - loss) * high ≤ 1000 * low
