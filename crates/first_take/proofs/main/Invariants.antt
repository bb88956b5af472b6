use Rattle.first_take.specs.Held.{IsRunning}
use Rattle.first_take.proofs.main.Given as goal

-- the meter stays in its take
abbrev pub invariant-loop-sample : goal.invariant-loop-sample
invariant-loop-sample l = IsRunning l.meter
