-- Printing part after part at the end of what was there.
use Rattle.std.proofs.Common.{◌≡◌, ℕ, ◌≤◌, List, ◌++◌, length, Ok, Err, vec_items, vec_capacity, Result, Vec, ap, ◌∙◌, le_trans, arith}
use Rattle.player.specs.Room.{Prints}

-- a part that is printed in the midst of a run ends it, with all that was to be printed
pub carried : {Z E : Type 0} (r : Result (Unit {0}) E) (start before after : Vec ℕ Z) (part all : List ℕ) → vec_capacity start ≤ vec_capacity before → vec_items before ++ part ≡ vec_items start ++ all → Prints before after part r → Prints start after all r
carried (Ok u) start before after part all room whole h = (h.0 ∙ whole, le_trans room h.1)
carried (Err x) start before after part all room whole h = omega (arith, h, room, ap length whole)
