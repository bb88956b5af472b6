-- The questions that a preset passes. A reader must believe that `asked` puts them in the right order, with the right
-- bounds and refusals: no preset comes to be but by them.
use Rattle.std.specs.Prelude.{ℕ, Bool, cond, ◌&&◌, Ok, Err, Result, nat_le}
use Rattle.refusal.specs.declared.Refusal.{Refusal}
use Rattle.refusal.specs.declared.Refusal.TheVariants.{WindowOutOfRange, LossOutOfRange}
use Rattle.preset.specs.declared.Preset.{Preset}

-- is n from low to high, both included?
abbrev pub from_to : ℕ → ℕ → ℕ → Bool
from_to low high n = nat_le low n && nat_le n high

-- The answer for a window and a loss: first the window is asked, then the loss.
abbrev pub asked : ℕ → ℕ → Result (ℕ × ℕ) Refusal
asked window loss =
    cond (from_to 1 1048576 window)
    (cond (from_to 1 999 loss) (Ok (window, loss)) (Err LossOutOfRange))
    (Err WindowOutOfRange)

-- a preset as its two numbers: the window and the loss
abbrev pub view : Preset → ℕ × ℕ
view p = (p.window, p.loss)

-- an answer with its preset as two numbers
abbrev pub plain : Result Preset Refusal → Result (ℕ × ℕ) Refusal
plain (Ok p) = Ok (view p)
plain (Err e) = Err e
