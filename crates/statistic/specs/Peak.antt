-- Peak: the largest magnitude. A reader must believe `largest`; the laws tie everything else to it.
use Rattle.std.specs.Prelude.{ℕ, max, cond, List, [], ◌∷◌, ℤ}
use Rattle.statistic.specs.Model.{Model}
use Rattle.statistic.specs.Samples.{is_sample, magnitude}

-- the largest magnitude of a list of samples, 0 where there is none
abbrev pub largest : List ℤ → ℕ
largest [] = 0
largest (x ∷ xs) = max (magnitude x) (largest xs)

-- The state is the peak itself.
abbrev pub peak : Model ℤ ℕ
peak = record {
  admits = is_sample;
  f = largest;
  state = largest;
  add = λ s x. cond (is_sample x) (max s (magnitude x)) s;
  value = λ s. s;
  top = 32768;
  cut = λ loss. (loss, 1000);
}
