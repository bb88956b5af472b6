-- How a mark stands to a reading. A reader must believe `judged`.
use Rattle.std.specs.Prelude.{ℕ, cond, nat_le, nat_lt}
use Rattle.meter.specs.declared.answers.Verdict.{Verdict}
use Rattle.meter.specs.declared.answers.Verdict.TheVariants.{Above, Below, Open}

-- above where low is at least the mark, below where high is less than it, open otherwise
abbrev pub judged : ℕ → ℕ × ℕ → Verdict
judged mark (low, high) = cond (nat_le mark low) Above (cond (nat_lt high mark) Below Open)
