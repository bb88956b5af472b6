-- The method: which slots are kept after one more item. A reader must believe that these definitions say the five steps of a
-- feed; everything that a meter answers is worked out from the slots that they keep.
use Rattle.std.specs.Prelude.{ℕ, zero, suc, ◌+◌, ◌-◌, ◌*◌, Bool, cond, List, [], ◌∷◌, ◌++◌, map, length, take, drop, ◌==◌, nat_le}
use Rattle.std.specs.List.{prefix_len}
use Rattle.statistic.specs.Model.{Model}
use Rattle.histogram.specs.declared.slot.Slot.{Slot}

-- Thinning a list by a test of nearness, `near a t` saying that t is near a.
module _ {X : Type 0} (near : X → X → Bool) where
  -- What lies from the next anchor on, behind the anchor a. It begins with the last of the elements at the front that are
  -- near a, or with the following element where none is near.
  abbrev pub onward : X → List X → List X
  onward a ts = drop (prefix_len (near a) ts - 1) ts

  -- The first element is the anchor and stays; those between it and the next anchor go; then the next anchor has its turn.
  -- Each round passes one element at least, so as many rounds as there are elements are enough.
  abbrev pub anchored : ℕ → List X → List X
  anchored zero xs = xs
  anchored (suc rounds) [] = []
  anchored (suc rounds) (a ∷ ts) = a ∷ anchored rounds (onward a ts)

  abbrev pub thinned : List X → List X
  thinned xs = anchored (length xs) xs

-- By the cut (b, d), a value that is at least (d - b) / d of another is near it. Nothing is divided.
abbrev pub near_values : ℕ × ℕ → ℕ → ℕ → Bool
near_values (b, d) older newer = nat_le ((d - b) * older) (d * newer)

module _ {I S : Type 0} (m : Model I S) where
  -- the number that a slot tells
  abbrev pub told : Slot S → ℕ
  told s = m.value s.state

  -- is slot t near slot s, by a cut?
  abbrev pub near_by : ℕ × ℕ → Slot S → Slot S → Bool
  near_by cut s t = near_values cut (told s) (told t)

  -- and at a loss, by the statistic's own cut
  abbrev pub near : ℕ → Slot S → Slot S → Bool
  near loss = near_by (m.cut loss)

  -- the slot with one item more
  abbrev pub with_item : I → Slot S → Slot S
  with_item x s = record { start = s.start; state = m.add s.state x }

  -- a slot of no items yet
  abbrev pub empty_slot : ℕ → Slot S
  empty_slot start = record { start = start; state = m.state [] }

  -- the item goes into every kept slot, and into a new last slot that starts now and stands for this item only
  abbrev pub grown : I → ℕ → List (Slot S) → List (Slot S)
  grown x now kept = map (with_item x) kept ++ with_item x (empty_slot now) ∷ []

  -- the slots that pruning keeps, at a loss
  abbrev pub pruned : ℕ → List (Slot S) → List (Slot S)
  pruned loss slots = thinned (near loss) slots

-- the first position of the window: the larger of 1 and now - W + 1
abbrev pub window_start : ℕ → ℕ → ℕ
window_start window now = (now - window) + 1

-- the first slot goes as long as the one behind it covers the whole window too, that is, starts at or before w
abbrev pub unexpired : {S : Type 0} → ℕ → List (Slot S) → List (Slot S)
unexpired w [] = []
unexpired w (s ∷ []) = s ∷ []
unexpired w (s ∷ t ∷ ts) = cond (nat_le t.start w) (unexpired w (t ∷ ts)) (s ∷ t ∷ ts)

module _ {I S : Type 0} (m : Model I S) where
  -- The kept slots after one more item x, the take being at position now and its window starting at w.
  abbrev pub fed : I → ℕ → ℕ → ℕ → List (Slot S) → List (Slot S)
  fed x now w loss kept = unexpired w (pruned m loss (grown m x now kept))

  -- The same, of slots of which all but the last are kept and the last is free. With no slot at all, none is kept.
  abbrev pub advanced : I → ℕ → ℕ → ℕ → List (Slot S) → List (Slot S)
  advanced x now w loss slots = cond (length slots == 0) [] (fed x now w loss (take (length slots - 1) slots))

  -- The reading of the kept slots, low and high: the first slot's value for both where it starts at w, else the second's
  -- and the first's. (A lone slot that does not start at w bounds nothing from below.)
  abbrev pub reading_of : ℕ → List (Slot S) → ℕ × ℕ
  reading_of w [] = (0, 0)
  reading_of w (s ∷ []) = cond (s.start == w) (told m s, told m s) (0, told m s)
  reading_of w (s ∷ t ∷ ts) = cond (s.start == w) (told m s, told m s) (told m t, told m s)
