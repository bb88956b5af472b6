-- Digits that are read and written: a number reads as its value, and reading and writing undo each other.
use Rattle.std.proofs.Common.{◌≡◌, ⊎_elim, cond, ℕ, ◌^◌, ◌<◌, ◌≤◌, min, true, false, List, [], ◌∷◌, ◌+◌, ◌-◌, ◌*◌, ◌%◌, length, get_or, Some, None, Option, decimal, refl, sym, ap, ◌∙◌, pow-suc, add-one, arith, lit<}
use native.Mathlib.Nat.{pow-le-pow_right}
use Rattle.std.specs.Char.{digit_value, is_ascii_digit}
use Rattle.std.specs.Int.{IsInRange}
use Rattle.std.specs.Str.{all_ascii_digits}
use Rattle.std.specs.Str.Parse.{digits_value, digits_value_after}
use Rattle.std.proofs.lemmas.Bool.{cases_Bool}
use Rattle.std.proofs.lemmas.Bool.Decides.{nat_tests}
use Rattle.std.proofs.lemmas.Fmt.{decimal_nonempty, decimal_digit, length-decimal-le, first_decimal, decimal-digits_value, digits_decimal, digits_value-decimal}
use Rattle.std.proofs.lemmas.Option.{cond_some}
use Rattle.std.proofs.lemmas.Str.{digit_value_digit}
use Rattle.std.proofs.lemmas.Str.Parse.{IsNumeralModel, numerals_by_value, tells_all_ascii_digits, digits_value_short}
use Rattle.text.specs.Decimal.{leading_zero, is_number, spelled}
use Rattle.text.proofs.Tried.{try_each}

pub no_number : (most : ℕ) (ds : List ℕ) → is_number most ds ≡ false → None ≡ spelled most ds
unfolding spelled
no_number most ds e = rw e

pub a_number : (most : ℕ) (ds : List ℕ) → is_number most ds ≡ true → Some (digits_value 10 ds) ≡ spelled most ds
unfolding spelled
a_number most ds e = rw e

-- what is spelled is a number
is_spelled : (most n : ℕ) (ds : List ℕ) → spelled most ds ≡ Some n → (is_number most ds ≡ true) × (n ≡ digits_value 10 ds)
unfolding spelled
is_spelled most n ds e = let p = cond_some (is_number most ds) (digits_value 10 ds) n e in (p.0, sym p.1)

-- the parts of the test of a number
parts : (most : ℕ) (ds : List ℕ) → is_number most ds ≡ true → (1 ≤ length ds) × (length ds ≤ min most 16) × (leading_zero ds ≡ false) × (all_ascii_digits ds ≡ true)
parts most ds y = grind (arith, nat_tests)

number_from : (most : ℕ) (ds : List ℕ) → 1 ≤ length ds → length ds ≤ min most 16 → leading_zero ds ≡ false → all_ascii_digits ds ≡ true → is_number most ds ≡ true
number_from most ds some few front all = grind (arith, nat_tests)

pub digits_own : IsNumeralModel (λ ds. all_ascii_digits ds ≡ true) (digits_value 10)
digits_own = numerals_by_value _ tells_all_ascii_digits

-- a number with one digit behind it, and none where the byte is no digit
abbrev pub with_digit : ℕ → ℕ → Option ℕ
with_digit n d = cond (is_ascii_digit d) (Some ((n * 10 % 2 ^ 64 + (d - 48)) % 2 ^ 64)) None

-- to read on behind a number of k digits at most: of sixteen digits in all, none is lost
pub reads_on : (ds : List ℕ) (n k : ℕ) → n < 10 ^ k → k + length ds ≤ 16 → try_each with_digit n ds ≡ cond (all_ascii_digits ds) (Some (digits_value_after 10 n ds)) None
reads_on [] n k small few = refl
reads_on (d ∷ ds) n k small few =
    ⊎_elim
    (λ (is : is_ascii_digit d ≡ true).
    let within : IsInRange 48 57 d = grind (arith, nat_tests) in
    let fewer : k ≤ 15 = omega arith in
    let room : 10 ^ k ≤ 10 ^ 15 = pow-le-pow_right (lit< tt) fewer in
    let longer : 10 ^ (k + 1) ≡ 10 ^ k * 10 = rw add-one (pow-suc 10 k) in
    let step : (n * 10 % 2 ^ 64 + (d - 48)) % 2 ^ 64 ≡ n * 10 + digit_value d = omega (arith, digit_value_digit d within) in
    rw (is, step) (reads_on ds (n * 10 + digit_value d) (k + 1) (omega (arith, digit_value_digit d within)) (omega arith)))
    (λ (not : is_ascii_digit d ≡ false). rw not)
    (cases_Bool (is_ascii_digit d))

-- what few digits tell is what they spell, where no 0 stands before others
pub spelled_by : (most : ℕ) (ds : List ℕ) (n : Option ℕ) → 1 ≤ length ds → length ds ≤ min most 16 → leading_zero ds ≡ false
    → (length ds ≤ 16 → n ≡ cond (all_ascii_digits ds) (Some (digits_value 10 ds)) None) → n ≡ spelled most ds
unfolding spelled
spelled_by most ds n some few front tells = let is = tells (omega arith) in grind (arith, nat_tests)

-- what is written for a number reads as that number
pub spelled_decimal : (most n : ℕ) → 0 < most → most ≤ 16 → n < 10 ^ most → spelled most (decimal n) ≡ Some n
spelled_decimal most n some few small =
    let p : 10 ^ most ≤ 10 ^ 16 = pow-le-pow_right (lit< tt) few in
    let fits : n < 2 ^ 64 = omega arith in
    let long = length-decimal-le most n some small fits in
    let own = digits_decimal digits_own n fits in
    let front : leading_zero (decimal n) ≡ false = grind (arith, nat_tests, decimal_digit n, first_decimal n) in
    sym (a_number most (decimal n) (number_from most (decimal n) (decimal_nonempty n fits) (omega arith) front own))
    ∙ ap (λ v. Some v) (digits_value-decimal digits_own n fits)

pub spelled_small : (most n : ℕ) (ds : List ℕ) → spelled most ds ≡ Some n → n < 10 ^ min most 16
spelled_small most n ds e =
    let is = is_spelled most n ds e in
    let p = parts most ds is.0 in
    rw is.1 (digits_value_short digits_own ds (min most 16) p.3 p.1)

-- what reads as a number is what is written for it
pub decimal_spelled : (most n : ℕ) (ds : List ℕ) → spelled most ds ≡ Some n → ds ≡ decimal n
decimal_spelled most n ds e =
    let is = is_spelled most n ds e in
    let p = parts most ds is.0 in
    let k : min most 16 ≤ 16 = omega arith in
    let q : 10 ^ min most 16 ≤ 10 ^ 16 = pow-le-pow_right (lit< tt) k in
    let front : get_or ds 0 0 ≡ 48 → length ds ≡ 1 = λ z. grind (arith, nat_tests, p) in
    sym (ap decimal is.1 ∙ decimal-digits_value digits_own ds p.3 p.0 front (omega (arith, is.1, spelled_small most n ds e)))
