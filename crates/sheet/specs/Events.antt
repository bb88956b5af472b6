-- Event lines. A reader must believe that `event_of` tells which lines are events, and which events they are.
use Rattle.std.specs.Prelude.{ℕ, cond, List, length, drop, Some, None, Option, ◌==◌, slice_index}
use Rattle.std.specs.Option.{option_map}
use Rattle.text.specs.Decimal.{spelled}
use Rattle.sheet.specs.declared.event.Event.{Event}
use Rattle.sheet.specs.declared.event.Event.TheVariants.{Feed, Read, Mark, Restart}

-- an event whose letter says all: nothing may stand behind the sign
abbrev pub alone : {I : Type 0} → Event I → List ℕ → Option (Event I)
alone event rest = cond (length rest == 0) (Some event) None

-- The event of a letter (f, r, m or z) and of what stands behind the sign.
abbrev pub by_letter : {I : Type 0} → (List ℕ → Option I) → ℕ → List ℕ → Option (Event I)
by_letter item letter rest =
    cond (letter == 102) (option_map (λ i. Feed i) (item rest))
    (cond (letter == 114) (alone Read rest)
    (cond (letter == 109) (option_map (λ n. Mark n) (spelled 16 rest)) (cond (letter == 122) (alone Restart rest) None)))

-- The event of a line, without its line end: a letter, an equals sign (byte 61), and what stands behind.
abbrev pub event_of : {I : Type 0} → (List ℕ → Option I) → List ℕ → Option (Event I)
event_of item line = cond (slice_index line 1 == 61) (by_letter item (slice_index line 0) (drop 2 line)) None
