use Rattle.std.proofs.Common.{◌≡◌, ◌+◌, ◌-◌, [], ◌∷◌, ◌++◌, take, drop, sym, subst, arith}
use Rattle.std.proofs.lemmas.Grind.{common_steps}
use Rattle.histogram.specs.Stands.{Stands}
use Rattle.meter.specs.Take.{view, accepted}
use Rattle.meter.proofs.Accepting.{takes_accepted}
use Rattle.meter.proofs.Running.accept.Goals as goal

pub returns-clause-takes : goal.returns-clause-takes
returns-clause-takes g c =
    let m = g.T.Statistic.model in
    let x = c.args.item in
    let r = c.args.self.now in
    let kept : take c.advance-self.result (c.advance-self.new.slots ++ drop (r.kept + 1 - 0) r.slots.now) ≡ (accepted m (view r) x).kept = grind (arith, common_steps) in
    λ items h. let next = takes_accepted m g.T.Statistic.laws (view r) x c.requires.admitted items h in (next.0, subst (Stands m (items ++ x ∷ [])) (sym kept) next.1)
