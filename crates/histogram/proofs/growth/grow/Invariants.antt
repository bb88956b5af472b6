use Rattle.std.proofs.Common.{◌≡◌, ◌++◌, map, take, drop}
use Rattle.histogram.specs.Method.{with_item}
use Rattle.histogram.proofs.growth.grow.Given as goal

-- the slots before the index have the item, the others are as they were
abbrev pub invariant-loop-slot : goal.invariant-loop-slot
invariant-loop-slot g l = l.kept ≡ map (with_item g.T.Statistic.model l.item) (take l.slot-index l.initial.kept) ++ drop l.slot-index l.initial.kept
