-- Energy keeps the laws: the sum of the squares is smooth, and the cap is a ceiling on it. Assumes nothing.
use Rattle.std.specs.Prelude.{◌≡◌, ◌+◌, ◌^◌, List, [], ◌∷◌, ◌++◌, ℤ, refl}
use Rattle.std.proofs.Common.{arith, lit<}
use Rattle.statistic.specs.Energy.{energy, squares}
use Rattle.statistic.specs.Model.{Laws}
use Rattle.statistic.specs.Lawful.Smooth.{Slows, ceiling_smooth, grown, loss_fits, newest_admitted, slows_smooth}

squares-append : (A B : List ℤ) → squares (A ++ B) ≡ squares A + squares B
squares-append [] B = grind arith
squares-append (x ∷ A) B = grind (arith, squares-append A B)

slows : Slows squares
slows = record { grows = λ A x. grind (arith, squares-append); slows = λ x A C. grind (arith, squares-append) }

pub energy_laws : Laws energy
energy_laws = record {
  adding = λ A x h. grind (arith, newest_admitted energy A x h, squares-append);
  turned_down = λ s x h. grind arith;
  valuing = λ A h. refl;
  empty_is_nought = refl;
  oldest_out_never_raises = λ x A h. grind arith;
  newest_in_never_lowers = λ A x h. grind (arith, slows.grows A x);
  below_top = λ A h. grind arith;
  cut_fits = λ loss l. loss_fits (2 ^ 50) loss (lit< tt) l;
  smooth = λ loss l X B C h near.
      ceiling_smooth (2 ^ 50) (2 ^ 50) loss (loss, 1000) l (loss_fits (2 ^ 50) loss (lit< tt) l) _ _ _ _
      (grown squares slows B C) (slows_smooth squares slows loss X B C) near;
}
