use Rattle.std.proofs.Common.{◌≡◌, ◌≤◌, take, drop}
use Rattle.histogram.specs.Method.{told, near_values, near_by, thinned}
use Rattle.histogram.proofs.Thinning.{pass}
use Rattle.histogram.proofs.prune.prune.Given as goal

-- the slots from the index on are as they were, and the pass over them keeps what thinning keeps of all
abbrev pub invariant-loop-i : goal.invariant-loop-i
invariant-loop-i g l = record {
  some : 1 ≤ l.count;
  behind : l.count ≤ l.i;
  same : drop l.i l.slots ≡ drop l.i l.initial.slots;
  kept : pass (told g.T.Statistic.model) (near_values l.cut) (take l.count l.slots) l.anchor l.held (drop l.i l.initial.slots) ≡ thinned (near_by g.T.Statistic.model l.cut) l.initial.slots;
}
