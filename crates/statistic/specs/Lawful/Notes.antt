-- Notes keeps the laws. Assumes nothing.
use Rattle.std.specs.Prelude.{◌≡◌, ℕ, zero, suc, ◌+◌, ◌-◌, ◌/◌, ◌^◌, ◌<◌, ◌≤◌, cond, List, [], ◌∷◌, ◌++◌, ◌==◌, bit_or, count_ones, nat_lt, refl}
use Rattle.std.proofs.Common.{ap, pow-suc, arith, lit<}
use Rattle.std.proofs.Math.Pow.{pow-lt}
use Rattle.std.proofs.lemmas.Bool.{and_parts, leb-true}
use Rattle.std.proofs.lemmas.Nat.{ones-le, ones_le_self, or_lt, or_shr}
use Rattle.std.proofs.lemmas.Nat.Bits.{bit_at-lt, bit_at_lowest, bit_at_or, bit_at-pow_other, bit_at-pow_same, bit_at-suc, bit_at-zero, same_from_bits}
use Rattle.std.specs.Int.{bit_at}
use Rattle.std.specs.Int.Bits.{or_step, or_zero_r}
use Rattle.std.specs.Int.Count.{ones_step}
use Rattle.statistic.specs.Model.{Admitted, Laws}
use Rattle.statistic.specs.Notes.{has_note, how_many, marked, marks_of, notes}
use Rattle.statistic.specs.declared.hit.Hit.{Hit}
use Rattle.statistic.specs.declared.notes.Marks.{Marks}
use Rattle.statistic.specs.Lawful.Smooth.{Slows, loss_fits, newest_admitted, slows_smooth}

-- ---- words

-- to set a digit makes one more, unless it was set
ones_or : (w n : ℕ) → count_ones (bit_or w (2 ^ n)) ≡ (1 - bit_at w n) + count_ones w
ones_or w zero = grind (arith, ones_step, or_shr, or_zero_r, or_step, bit_at_lowest)
ones_or w (suc n) = grind (arith, ones_step, or_shr, or_step, bit_at-suc, pow-suc, ones_or (w / 2) n)

-- the order of two digits is free
digits_swap : (w a b : ℕ) → bit_or (bit_or w a) b ≡ bit_or (bit_or w b) a
digits_swap w a b = same_from_bits _ _ (λ i. grind (arith, bit_at_or))

or_fits : (w n : ℕ) → w < 2 ^ 64 → n < 64 → bit_or w (2 ^ n) < 2 ^ 64
or_fits w n h l = or_lt 64 w (2 ^ n) h (pow-lt l)

-- ---- marks

-- 1 where the note has its mark, else 0
abbrev mark : Marks → ℕ → ℕ
mark m n = cond (nat_lt n 64) (bit_at m.low n) (bit_at m.high (n - 64))

-- to mark a note makes one more, unless it had its mark
value_marked : (m : Marks) (n : ℕ) → notes.value (marked m n) ≡ (1 - mark m n) + notes.value m
value_marked m n = grind (arith, ones_or)

-- that note has its mark, and the others are as they were
mark_marked : (m : Marks) (n k : ℕ) → mark (marked m n) k ≡ cond (k == n) 1 (mark m k)
mark_marked m n k = grind (arith, bit_at_or, bit_at-pow_same, bit_at-pow_other, bit_at-lt)

-- the order of two marks is free
marked_swap : (m : Marks) (i j : ℕ) → marked (marked m i) j ≡ marked (marked m j) i
marked_swap m i j = grind (arith, digits_swap)

-- ---- lists of hits

-- 1 where no hit of the list has the note, else 0
abbrev fresh : ℕ → List Hit → ℕ
fresh n hs = cond (has_note n hs) 0 1

one_more : (h : Hit) (hs : List Hit) → how_many (h ∷ hs) ≡ fresh h.note hs + how_many hs
one_more h hs = grind arith

fresh_less : (n : ℕ) (A C : List Hit) → fresh n (A ++ C) ≤ fresh n A
fresh_less n [] C = grind arith
fresh_less n (a ∷ A) C = grind (arith, fresh_less n A C)

-- the notes that were hit have their marks, and no others
mark_of : (hs : List Hit) (n : ℕ) → mark (marks_of hs) n ≡ 1 - fresh n hs
mark_of [] n = grind (arith, bit_at-zero)
mark_of (h ∷ hs) n = grind (arith, mark_marked, mark_of hs n)

-- so the state has as many marks as there are distinct notes
valued : (hs : List Hit) → notes.value (marks_of hs) ≡ how_many hs
valued [] = grind (arith, ones_le_self)
valued (h ∷ hs) = grind (arith, value_marked, mark_of, valued hs)

-- the marks do not tell which hit came first
marks_push : (A : List Hit) (x : Hit) → marked (marks_of A) x.note ≡ marks_of (A ++ x ∷ [])
marks_push [] x = refl
marks_push (a ∷ A) x = grind (arith, marked_swap, marks_push A x)

-- a hit at the newest end adds as much as one at the oldest
pushed : (A : List Hit) (x : Hit) → how_many (A ++ x ∷ []) ≡ fresh x.note A + how_many A
pushed A x = grind (arith, valued, value_marked, mark_of, ap notes.value (marks_push A x))

-- of admitted hits, the marks fit two words of 64
fits : (A : List Hit) → Admitted notes A → ((marks_of A).low < 2 ^ 64) × ((marks_of A).high < 2 ^ 64)
fits [] h = grind arith
fits (x ∷ A) h = grind (arith, or_fits, leb-true, and_parts, fits A h.1)

slows : Slows how_many
slows = record { grows = λ A x. omega (arith, pushed A x); slows = λ x A C. omega (arith, one_more, fresh_less) }

pub notes_laws : Laws notes
notes_laws = record {
  adding = λ A x h. grind (arith, marks_push A x, newest_admitted notes A x h);
  turned_down = λ m x h. grind arith;
  valuing = λ A h. valued A;
  empty_is_nought = refl;
  oldest_out_never_raises = λ x A h. grind arith;
  newest_in_never_lowers = λ A x h. slows.grows A x;
  below_top = λ A h. grind (arith, valued A, ones-le 64, fits A h);
  cut_fits = λ loss l. loss_fits 128 loss (lit< tt) l;
  smooth = λ loss l X B C h near. slows_smooth how_many slows loss X B C near;
}
