-- What is promised of the header of a longer text. A reader must believe that `HeaderOf` is what a take sheet wants of it:
-- the same questions as for a whole preset text, and the text behind.
use Rattle.std.specs.Prelude.{◌≡◌, ℕ, ◌≤◌, List, ◌++◌, length, IfOk, Ok, Err, Result}
use Rattle.std.specs.Borrow.{Bor}
use Rattle.preset.specs.Questions.{view}
use Rattle.preset_text.specs.Reading.{read_front}
use Rattle.preset_text.specs.Words.{written}
use Rattle.preset_text.specs.declared.kind.Kind.{Kind}
use Rattle.preset_text.specs.declared.setup.Setup.{Setup}
use Rattle.refusal.specs.declared.Refusal.{Refusal}

-- a header as its kind, its two numbers and the text behind it
abbrev pub headed : Result (Setup × Bor (List ℕ)) Refusal → Result (Kind × (ℕ × ℕ) × List ℕ) Refusal
headed (Ok (s, rest)) = Ok (s.kind, view s.preset, rest.now)
headed (Err e) = Err e

pub record HeaderOf (text : List ℕ) (r : Result (Setup × Bor (List ℕ)) Refusal) : Type 0 where
  pub value : headed r ≡ read_front text
  -- an accepted header is the text that is written for it, and the text behind it is the rest
  pub writes_back : IfOk r (λ h. text ≡ written h.0.kind (view h.0.preset) ++ h.1.now)
  pub within : IfOk r (λ h. length h.1.now ≤ length text)
