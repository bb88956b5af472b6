-- What the test of samples says of a magnitude. Assumes nothing.
use Rattle.std.specs.Prelude.{◌≡◌, ◌≤◌, true, ℤ}
use Rattle.std.proofs.Common.{arith}
use Rattle.statistic.specs.Samples.{is_sample, magnitude}

pub sample_bound : (x : ℤ) → is_sample x ≡ true → magnitude x ≤ 32768
sample_bound x h = grind arith
