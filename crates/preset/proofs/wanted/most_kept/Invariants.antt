use Rattle.std.proofs.Common.{◌≡◌, ◌+◌, ◌*◌, ◌≤◌}
use Rattle.preset.specs.Wanted.{steps}
use Rattle.preset.proofs.wanted.most_kept.Given as goal

-- the slots so far, with two for each step that v still has, are two more than two for each step of the top
abbrev pub invariant-loop-v : goal.invariant-loop-v
invariant-loop-v l =
    (l.v ≤ l.top) × (l.slots + 2 * steps (l.b, l.d) l.v ≡ 2 * steps (l.b, l.d) l.top + 2)

abbrev pub decreases-loop-v : goal.decreases-loop-v
decreases-loop-v l = l.v
