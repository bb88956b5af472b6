-- Peak keeps the laws. Assumes nothing.
use Rattle.std.specs.Prelude.{◌≡◌, ◌≤◌, max, List, [], ◌∷◌, ◌++◌, ℤ, refl}
use Rattle.std.proofs.Common.{arith, lit<}
use Rattle.statistic.specs.Model.{Admitted, Laws}
use Rattle.statistic.specs.Peak.{largest, peak}
use Rattle.statistic.specs.Lawful.Samples.{sample_bound}
use Rattle.statistic.specs.Lawful.Smooth.{Slows, newest_admitted, loss_fits, slows_smooth}

largest-append : (A B : List ℤ) → largest (A ++ B) ≡ max (largest A) (largest B)
largest-append [] B = grind arith
largest-append (x ∷ A) B = grind (arith, largest-append A B)

slows : Slows largest
slows = record { grows = λ A x. grind (arith, largest-append); slows = λ x A C. grind (arith, largest-append) }

below : (A : List ℤ) → Admitted peak A → largest A ≤ 32768
below [] h = grind arith
below (x ∷ A) h = grind (arith, below A h.1, sample_bound)

pub peak_laws : Laws peak
peak_laws = record {
  adding = λ A x h. grind (arith, newest_admitted peak A x h, largest-append);
  turned_down = λ s x h. grind arith;
  valuing = λ A h. refl;
  empty_is_nought = refl;
  oldest_out_never_raises = λ x A h. grind arith;
  newest_in_never_lowers = λ A x h. slows.grows A x;
  below_top = below;
  cut_fits = λ loss l. loss_fits 32768 loss (lit< tt) l;
  smooth = λ loss l X B C h near. slows_smooth largest slows loss X B C near;
}
