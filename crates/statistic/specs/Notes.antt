-- Notes: how many distinct notes were hit. A reader must believe `distinct_notes`; the laws tie everything else to it.
use Rattle.std.specs.Prelude.{ℕ, ◌+◌, ◌-◌, ◌^◌, Bool, false, cond, ◌||◌, List, [], ◌∷◌, length, ◌==◌, bit_or, count_ones, nat_lt}
use Rattle.statistic.specs.Hits.{is_hit}
use Rattle.statistic.specs.Model.{Model}
use Rattle.statistic.specs.declared.hit.Hit.{Hit}
use Rattle.statistic.specs.declared.notes.Marks.{Marks}

-- has a hit of the list this note?
abbrev pub has_note : ℕ → List Hit → Bool
has_note n [] = false
has_note n (h ∷ hs) = n == h.note || has_note n hs

-- the notes of a list of hits, each once
abbrev pub distinct_notes : List Hit → List ℕ
distinct_notes [] = []
distinct_notes (h ∷ hs) = cond (has_note h.note hs) (distinct_notes hs) (h.note ∷ distinct_notes hs)

-- the number of distinct notes
abbrev pub how_many : List Hit → ℕ
how_many hs = length (distinct_notes hs)

-- The state has a mark for each note from 0 to 127: note n below 64 has the digit worth 2^n of the low word, the others
-- the digits of the high word. To mark a note that has its mark changes nothing.
abbrev pub marked : Marks → ℕ → Marks
marked m n =
    cond (nat_lt n 64) (record { low = bit_or m.low (2 ^ n); high = m.high })
    (record { low = m.low; high = bit_or m.high (2 ^ (n - 64)) })

-- no hits, no marks; and each hit has its note marked
abbrev pub marks_of : List Hit → Marks
marks_of [] = record { low = 0; high = 0 }
marks_of (h ∷ hs) = marked (marks_of hs) h.note

-- The number that a state tells is how many marks it has.
abbrev pub notes : Model Hit Marks
notes = record {
  admits = is_hit;
  f = how_many;
  state = marks_of;
  add = λ m h. cond (is_hit h) (marked m h.note) m;
  value = λ m. count_ones m.low + count_ones m.high;
  top = 128;
  cut = λ loss. (loss, 1000);
}
