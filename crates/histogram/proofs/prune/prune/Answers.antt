use Rattle.std.proofs.Common.{◌≡◌, [], drop, sym, refl, subst, arith}
use Rattle.std.proofs.lemmas.List.{drop_all}
use Rattle.histogram.specs.Method.{told, near_by, near_values}
use Rattle.histogram.specs.Thins.{Thins}
use Rattle.histogram.proofs.Thinned.{thins}
use Rattle.histogram.proofs.Thinning.{pass_begins}
use Rattle.histogram.proofs.prune.prune.Goals as goal

pub loop-i-init : goal.loop-i-init
loop-i-init g c =
    let begins = pass_begins (told g.T.Statistic.model) (near_values c.args.cut) c.in-Some.first.now c.args.slots.now c.in-Some.ensures.value in
    record { some = omega arith; behind = omega arith; same = refl; kept = rw c.value-anchor.ensures begins }

pub returns-clause-thins : goal.returns-clause-thins
returns-clause-thins g c =
    let near = near_by g.T.Statistic.model c.args.cut in
    let none : drop c.loop-i.i c.args.slots.now ≡ [] = drop_all c.loop-i.i c.args.slots.now c.loop-i-test.false in
    subst (Thins near c.args.slots.now) (sym (rw none at c.loop-i.invariant.kept)) (thins near c.args.slots.now)
