use Rattle.std.proofs.Common.{◌≡◌, ◌≤◌, ◌++◌, length, vec_items, vec_capacity}
use Rattle.preset.specs.Questions.{view as numbers}
use Rattle.meter.specs.Take.{view}
use Rattle.player.specs.Sheet.{text_plays, take_prints}
use Rattle.player.proofs.events.play_events.Given as goal

-- what is printed so far and what is left to play are, together, what was printed before and all that is played; and room is never given back
abbrev pub invariant-loop-line : goal.invariant-loop-line
invariant-loop-line g l =
    (vec_items l.out ++ text_plays g.T.Statistic.model g.T.Item.ItemText.meant (view l.meter) l.events
    ≡ vec_items l.initial.out ++ take_prints g.T.Statistic.model g.T.Item.ItemText.meant (length l.fn.slots) (numbers l.fn.preset) l.initial.events)
    × (vec_capacity l.initial.out ≤ vec_capacity l.out)

abbrev pub decreases-loop-line : goal.decreases-loop-line
decreases-loop-line g l = length l.events
