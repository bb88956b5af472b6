-- The answer lines of a sheet. A reader must believe these texts: a host knows the answers by nothing else.
use Rattle.std.specs.Prelude.{ℕ, List, ◌++◌, codes, decimal}
use Rattle.refusal.specs.Numbers.{number_of}
use Rattle.refusal.specs.declared.Refusal.{Refusal}
use Rattle.text.specs.Lines.{line}
use Rattle.meter.specs.declared.answers.Verdict.{Verdict}
use Rattle.meter.specs.declared.answers.Verdict.TheVariants.{Above, Below, Open}
use Rattle.sheet.specs.declared.answer.Answer.{Answer}
use Rattle.sheet.specs.declared.answer.Answer.TheVariants.{Reading, Judged, Refused}

-- a line with a name and a number
abbrev pub number_line : List ℕ → ℕ → List ℕ
number_line name n = line name (decimal n)

-- the two bounds of a reading
abbrev pub reading_text : ℕ → ℕ → List ℕ
reading_text low high = number_line (codes "low=") low ++ number_line (codes "high=") high

-- the word for what a reading says of a mark
abbrev pub verdict_word : Verdict → List ℕ
verdict_word Above = codes "above"
verdict_word Below = codes "below"
verdict_word Open = codes "open"

-- what a reading says of a mark
abbrev pub verdict_text : Verdict → List ℕ
verdict_text verdict = line (codes "mark=") (verdict_word verdict)

-- the number of a refusal
abbrev pub refusal_text : Refusal → List ℕ
refusal_text refusal = number_line (codes "refused=") (number_of refusal)

-- the lines for an answer
abbrev pub said : Answer → List ℕ
said (Reading low high) = reading_text low high
said (Judged verdict) = verdict_text verdict
said (Refused refusal) = refusal_text refusal
