-- The slots that a meter wants at a preset. A reader must believe `wanted`; that its `steps` are the falls from the top to
-- 0 is proved, as `Counts`.
use Rattle.std.specs.Prelude.{◌≡◌, ℕ, zero, suc, ◌+◌, ◌-◌, ◌*◌, ◌/◌, ◌<◌, min}
use Rattle.statistic.specs.Model.{Model}

-- One fall of v at the cut (b, d), the fraction dropped.
abbrev pub fall : ℕ × ℕ → ℕ → ℕ
fall (b, d) v = ((d - b) * v - 1) / d

-- v after so many falls
abbrev pub fallen : ℕ → ℕ × ℕ → ℕ → ℕ
fallen zero cut v = v
fallen (suc k) cut v = fallen k cut (fall cut v)

-- The falls that v takes to come to 0, counted up to a limit.
abbrev pub steps_within : ℕ → ℕ × ℕ → ℕ → ℕ
steps_within zero cut v = 0
steps_within (suc limit) cut zero = 0
steps_within (suc limit) cut (suc u) = suc (steps_within limit cut (fall cut (suc u)))

-- The falls that v takes to come to 0. A fall at a proper fraction lowers v by at least one, so v is limit enough.
abbrev pub steps : ℕ × ℕ → ℕ → ℕ
steps cut v = steps_within v cut v

-- the fraction b / d is proper
abbrev pub Proper : ℕ × ℕ → Type 0
Proper (b, d) = (0 < b) × (b < d)

-- k counts the falls of v: after k of them it is 0, and after fewer it is above 0.
abbrev pub Counts : ℕ × ℕ → ℕ → ℕ → Type 0
Counts cut v k = (fallen k cut v ≡ 0) × ((j : ℕ) → j < k → 0 < fallen j cut v)

-- The smaller of the window and 2k + 2, where k counts the falls of the top.
abbrev pub most_kept : ℕ × ℕ → ℕ → ℕ → ℕ
most_kept cut top window = min window (2 * steps cut top + 2)

-- the slots that a meter wants at a window and a loss
abbrev pub wanted : {I S : Type 0} → Model I S → ℕ × ℕ → ℕ
wanted m (window, loss) = most_kept (m.cut loss) m.top window + 1
