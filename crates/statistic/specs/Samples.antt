-- Samples. A reader must believe that a sample is taken exactly from -32768 to 32767, and what its magnitude is.
use Rattle.std.specs.Prelude.{ℕ, Bool, ◌&&◌, ℤ, pos, negsuc, int_le, unsigned_abs}

-- a sample is taken from -32768 (which is `negsuc 32767`) to 32767
abbrev pub is_sample : ℤ → Bool
is_sample x = int_le (negsuc 32767) x && int_le x (pos 32767)

-- the distance from 0: 32768 for -32768
abbrev pub magnitude : ℤ → ℕ
magnitude x = unsigned_abs x
