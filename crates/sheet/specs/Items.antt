-- Items as text. A reader must believe that `sample_of` and `hit_of` tell which texts are items, and which items they are.
-- That an item is read from its own text and from no other is proved. Whether a statistic takes the item is another question.
use Rattle.std.specs.Prelude.{ℕ, zero, suc, ◌+◌, ◌^◌, ◌<◌, cond, List, ◌∷◌, ◌++◌, take, drop, ℤ, pos, negsuc, Some, None, decimal, Option, ◌==◌, slice_index}
use Rattle.std.specs.Option.{option_and_then, option_map}
use Rattle.text.specs.Decimal.{spelled}
use Rattle.statistic.specs.declared.hit.Hit.{Hit}

-- the number below 0 that a number above 0 stands for behind a minus sign
abbrev pub negative : ℕ → Option ℤ
negative zero = None
negative (suc n) = Some (negsuc n)

-- A sample: 1 to 7 digits, with a minus sign (byte 45) before them if it is negative; `-0` is none.
abbrev pub sample_of : List ℕ → Option ℤ
sample_of t = cond (slice_index t 0 == 45) (option_and_then negative (spelled 7 (drop 1 t))) (option_map pos (spelled 7 t))

-- the samples that 7 digits are enough for
abbrev pub SevenDigits : ℤ → Type 0
SevenDigits (pos n) = n < 10 ^ 7
SevenDigits (negsuc n) = suc n < 10 ^ 7

-- a hit of a note and a velocity, if there are both
abbrev pub hit_from : Option ℕ → Option ℕ → Option Hit
hit_from note velocity = option_and_then (λ n. option_map (λ v. record { note = n; velocity = v }) velocity) note

-- a note in the first k bytes, and behind one byte more a velocity, each of 1 to 3 digits
abbrev pub hit_behind : ℕ → List ℕ → Option Hit
hit_behind k t = hit_from (spelled 3 (take k t)) (spelled 3 (drop (k + 1) t))

-- A hit: a note, a comma (byte 44) and a velocity. The first comma behind a byte is the one between.
abbrev pub hit_of : List ℕ → Option Hit
hit_of t =
    cond (slice_index t 1 == 44) (hit_behind 1 t)
    (cond (slice_index t 2 == 44) (hit_behind 2 t) (cond (slice_index t 3 == 44) (hit_behind 3 t) None))

-- the text of a hit
abbrev pub hit_text : Hit → List ℕ
hit_text h = decimal h.note ++ 44 ∷ decimal h.velocity

-- the hits that 3 digits are enough for, twice
abbrev pub ThreeDigits : Hit → Type 0
ThreeDigits h = (h.note < 10 ^ 3) × (h.velocity < 10 ^ 3)
