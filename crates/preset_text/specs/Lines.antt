-- The lines of a preset text as the reader hands them on. A reader must believe nothing of this file: it only says which
-- parts of the text the reader's own types hold.
use Rattle.std.specs.Prelude.{◌≡◌, ℕ, List, ◌++◌, Some, None, Ok, Err, codes, Option, Result, MatchOption}
use Rattle.std.specs.Borrow.{Bor}
use Rattle.preset_text.specs.Reading.{behind}
use Rattle.preset_text.specs.declared.line.PresetLine.{PresetLine}
use Rattle.preset_text.specs.declared.line.PresetLine.TheVariants.{Kind, Window, Loss, Other}
use Rattle.preset_text.specs.declared.line.ThreeLines.{ThreeLines}
use Rattle.refusal.specs.declared.Refusal.{Refusal}
use Rattle.text.specs.Lines.{next_line}

-- a line with this key, which `word` is, and this value
abbrev pub Keyed : List ℕ → List ℕ → Bor (List ℕ) → Bor (List ℕ) → Type 0
Keyed word line key value = (key.now ≡ word) × (line ≡ word ++ value.now)

-- the line that is handed on is this line
abbrev pub Says : List ℕ → PresetLine → Type 0
Says line (Kind key value) = Keyed (codes "kind=") line key value
Says line (Window key value) = Keyed (codes "window=") line key value
Says line (Loss key value) = Keyed (codes "loss=") line key value
Says line (Other whole) = (whole.now ≡ line) × (behind (codes "kind=") line ≡ None) × (behind (codes "window=") line ≡ None) × (behind (codes "loss=") line ≡ None)

-- the first line of a text as it is handed on, and the text behind it
abbrev pub Next : List ℕ → Option (PresetLine × Bor (List ℕ)) → Type 0
Next t r = MatchOption r (next_line t ≡ None) (λ p. (line : List ℕ) × (next_line t ≡ Some (line, p.1.now)) × Says line p.0)

-- the values of three lines, and the text behind them
abbrev pub three : Result ThreeLines Refusal → Result ((List ℕ × List ℕ × List ℕ) × List ℕ) Refusal
three (Ok v) = Ok ((v.kind.now, v.window.now, v.loss.now), v.rest.now)
three (Err e) = Err e
