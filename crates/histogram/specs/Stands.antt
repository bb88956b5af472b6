-- What a kept slot means: its state stands for the items of the take from its start on. A reader must believe that this is
-- what ties the slots, which the meter keeps, to the items, which it does not.
use Rattle.std.specs.Prelude.{◌≡◌, ℕ, ◌-◌, ◌≤◌, List, length, drop}
use Rattle.std.specs.List.{AllByRecursion}
use Rattle.statistic.specs.Model.{Model, Admitted}
use Rattle.histogram.specs.declared.slot.Slot.{Slot}

module _ {I S : Type 0} (m : Model I S) where
  -- the items from a position to now, positions counted from 1
  abbrev pub from : ℕ → List I → List I
  from start items = drop (start - 1) items

  -- the slot starts at one of the items, and its state stands for those from there to now
  abbrev pub StandsFor : List I → Slot S → Type 0
  StandsFor items s = (1 ≤ s.start) × (s.start ≤ length items) × (s.state ≡ m.state (from s.start items))

  -- the items are admitted, and each slot stands for those from its start to now
  abbrev pub Stands : List I → List (Slot S) → Type 0
  Stands items slots = Admitted m items × AllByRecursion (StandsFor items) slots
