use Rattle.std.proofs.Common.{arith}
use Rattle.std.proofs.lemmas.List.Edits.{map_over_more}
use Rattle.histogram.specs.Method.{with_item}
use Rattle.histogram.proofs.growth.grow.Goals as goal

pub loop-slot-preserved : goal.loop-slot-preserved
loop-slot-preserved g c =
    let more = map_over_more (with_item g.T.Statistic.model c.args.item) c.args.kept.now c.loop-slot.kept c.loop-slot.slot-index c.slot-item.result in
    grind (arith, more)
