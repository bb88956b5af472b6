-- What an accepted item leaves. From the laws of adding alone.
use Rattle.std.proofs.Common.{◌≡◌, ◌+◌, true, List, [], ◌∷◌, ◌++◌, sym, subst, arith, length-append}
use Rattle.statistic.specs.Model.{Model, Laws}
use Rattle.histogram.specs.Method.{window_start, fed}
use Rattle.histogram.specs.Stands.{Stands}
use Rattle.histogram.proofs.Standing.{stands_fed}
use Rattle.meter.specs.Take.{Take, accepted, Takes}

pub takes_accepted : {I S : Type 0} (m : Model I S) → Laws m → (t : Take S) (x : I) → m.admits x ≡ true → (items : List I) → Takes m items t → Takes m (items ++ x ∷ []) (accepted m t x)
takes_accepted m laws t x admits items (count, stands) =
    let w = window_start t.window (t.now + 1) in
    let standing = stands_fed m laws items x stands.0 admits w t.loss t.kept stands.1 in
    (simp length-append (omega arith), subst (λ n. Stands m (items ++ x ∷ []) (fed m x (n + 1) w t.loss t.kept)) (sym count) standing)
