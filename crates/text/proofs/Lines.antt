-- Taking lines one by one: what `next_line` says of the text, and how it steps `lines`.
use Rattle.std.proofs.Common.{◌≡◌, ℕ, ◌+◌, ◌^◌, ◌<◌, Bool, true, not, ◌&&◌, eqb, List, [], ◌∷◌, ◌++◌, take, drop, Some, None, decimal, Option, refl, arith, MatchOption}
use Rattle.std.specs.Prelude.{position, ◌==◌}
use Rattle.std.specs.Option.{option_map}
use Rattle.std.specs.Str.{all_ascii_digits}
use Rattle.std.proofs.lemmas.Fmt.{digits_decimal}
use Rattle.std.proofs.lemmas.Option.{MatchOption-at_some, MatchOption-at_none}
use Rattle.std.proofs.lemmas.Bool.Decides.{nat_tests}
use Rattle.text.proofs.Decimals.{digits_own}
use Rattle.text.specs.Lines.{split_once, next_line, lines}

-- no byte 10
abbrev pub one_line : List ℕ → Bool
one_line [] = true
one_line (b ∷ bs) = not (eqb b 10) && one_line bs

-- a line and its end before any text is the first line of the whole
pub first_line : (l rest : List ℕ) → one_line l ≡ true → next_line (l ++ 10 ∷ rest) ≡ Some (l, rest)
first_line [] rest h = refl
first_line (b ∷ l) rest h = grind (arith, nat_tests, first_line l rest)

-- the digits of a number are one line
one_line_digits : (ds : List ℕ) → all_ascii_digits ds ≡ true → one_line ds ≡ true
one_line_digits [] h = refl
one_line_digits (c ∷ cs) h = grind (arith, nat_tests, one_line_digits cs)

pub one_line_decimal : (n : ℕ) → n < 2 ^ 64 → one_line (decimal n) ≡ true
one_line_decimal n h = one_line_digits (decimal n) (digits_decimal digits_own n h)

-- what the first line leaves of the text and of its lines
abbrev Taken : List ℕ → Option (List ℕ × List ℕ) → Type 0
Taken t o = MatchOption o (lines t ≡ ([], t)) (λ p. (t ≡ p.0 ++ 10 ∷ p.1) × (lines t ≡ (p.0 ∷ (lines p.1).0, (lines p.1).1)))

taken : (t : List ℕ) → Taken t (next_line t)
taken [] = refl
taken (b ∷ bs) = grind (arith, nat_tests, taken bs)

-- the first line, its end and what is behind are the whole text
pub text_of_line : (t l rest : List ℕ) → next_line t ≡ Some (l, rest) → t ≡ l ++ 10 ∷ rest
text_of_line t l rest e = (MatchOption-at_some (lines t ≡ ([], t)) _ (l, rest) e (taken t)).0

-- the first line steps `lines`, and where there is none, no line is ended
pub lines_step : (t l rest : List ℕ) → next_line t ≡ Some (l, rest) → lines t ≡ (l ∷ (lines rest).0, (lines rest).1)
lines_step t l rest e = (MatchOption-at_some (lines t ≡ ([], t)) _ (l, rest) e (taken t)).1

pub lines_end : (t : List ℕ) → next_line t ≡ None → lines t ≡ ([], t)
lines_end t e = MatchOption-at_none _ _ e (taken t)

-- a text is split where the library's `position` finds the byte
pub splits_at_first : (t : List ℕ) (c : ℕ) → split_once t c ≡ option_map (λ i. (take i t, drop (i + 1) t)) (position (λ b. b == c) t)
splits_at_first [] c = refl
splits_at_first (b ∷ bs) c = grind (arith, nat_tests, splits_at_first bs c)
