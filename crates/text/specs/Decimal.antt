-- Numbers as decimal digits. A reader must believe that `spelled` tells which texts are numbers, and which numbers they are.
-- The digits that are written for a number are the library's `decimal`, those that `{n}` prints.
use Rattle.std.specs.Prelude.{ℕ, min, Bool, cond, not, ◌&&◌, List, length, Some, None, Option, ◌==◌, nat_le, slice_index}
use Rattle.std.specs.Str.Parse.{digits_value}
use Rattle.std.specs.Str.{all_ascii_digits}

-- a digit 0 with more behind it
abbrev pub leading_zero : List ℕ → Bool
leading_zero ds = nat_le 2 (length ds) && slice_index ds 0 == 48

-- 1 to `most` digits, and never more than 16, without a leading zero
abbrev pub is_number : ℕ → List ℕ → Bool
is_number most ds = nat_le 1 (length ds) && (nat_le (length ds) (min most 16) && (not (leading_zero ds) && all_ascii_digits ds))

-- the number that a text of at most `most` digits spells
unfoldable pub spelled : ℕ → List ℕ → Option ℕ
spelled most ds = cond (is_number most ds) (Some (digits_value 10 ds)) None
