-- A meter that a host holds in one place for both of its states. A reader must believe that `IsStopped` and `IsRunning` say in
-- which state it is, and that the others hand on what the pack promises of the meter inside.
use Rattle.std.specs.Prelude.{◌≡◌, ℕ, ℤ, length, Result}
use Rattle.preset.specs.Questions.{view as numbers}
use Rattle.preset.specs.declared.Preset.{Preset}
use Rattle.refusal.specs.declared.Refusal.{Refusal}
use Rattle.statistic.specs.Peak.{peak}
use Rattle.meter.specs.Take.{view, begun, feed_answer, after_feed, read}
use Rattle.first_take.specs.declared.held.Held.{Held}
use Rattle.first_take.specs.declared.held.Held.TheVariants.{Stopped, Running}

abbrev pub IsStopped : Held → Type 0
IsStopped (Stopped meter) = Unit {0}
IsStopped (Running meter) = ⊥

abbrev pub IsRunning : Held → Type 0
IsRunning (Stopped meter) = ⊥
IsRunning (Running meter) = Unit {0}

-- the stopped meter has the preset now, and its slots as before
abbrev pub Loads : Held → Preset → Held → Type 0
Loads (Stopped before) preset (Stopped after) = (after.preset ≡ preset) × (after.slots.now ≡ before.slots.now)
Loads (Stopped before) preset (Running after) = ⊥
Loads (Running before) preset after = ⊥

-- a take begins over the stopped meter's slots, at its preset
abbrev pub Starts : Held → Held → Type 0
Starts (Stopped before) (Running after) = view after ≡ begun (length before.slots.now) (numbers before.preset)
Starts (Stopped before) (Stopped after) = ⊥
Starts (Running before) after = ⊥

-- the running meter answers and is left as the method says
abbrev pub Feeds : Held → ℤ → Result ℕ Refusal → Held → Type 0
Feeds (Running before) sample answer (Running after) = (answer ≡ feed_answer peak (view before) sample) × (view after ≡ after_feed peak (view before) sample)
Feeds (Running before) sample answer (Stopped after) = ⊥
Feeds (Stopped before) sample answer after = ⊥

abbrev pub Reads : Held → ℕ × ℕ → Type 0
Reads (Running meter) bounds = bounds ≡ read peak (view meter)
Reads (Stopped meter) bounds = ⊥
