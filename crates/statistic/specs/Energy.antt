-- Energy: the sum of the squares, up to a cap. A reader must believe `squares` and the cap; the laws tie everything else to them.
use Rattle.std.specs.Prelude.{ℕ, ◌+◌, ◌*◌, ◌^◌, min, cond, List, [], ◌∷◌, ℤ}
use Rattle.statistic.specs.Model.{Model}
use Rattle.statistic.specs.Samples.{is_sample, magnitude}

abbrev pub square : ℤ → ℕ
square x = magnitude x * magnitude x

-- the sum of the squares of a list of samples
abbrev pub squares : List ℤ → ℕ
squares [] = 0
squares (x ∷ xs) = square x + squares xs

-- the sum of the squares, or 2^50 where it passes that
abbrev pub energy_of : List ℤ → ℕ
energy_of xs = min (2 ^ 50) (squares xs)

-- The state is the energy itself.
abbrev pub energy : Model ℤ ℕ
energy = record {
  admits = is_sample;
  f = energy_of;
  state = energy_of;
  add = λ s x. cond (is_sample x) (min (2 ^ 50) (s + square x)) s;
  value = λ s. s;
  top = 2 ^ 50;
  cut = λ loss. (loss, 1000);
}
