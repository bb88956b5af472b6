-- Playing a text line by line: what one line prints and leaves, and what ends a sheet.
use Rattle.std.proofs.Common.{◌≡◌, ℕ, ◌<◌, false, eqb, List, [], ◌∷◌, ◌++◌, length, Some, None, Option, sym, refl, ap, ◌∙◌, append_assoc, arith, length-append}
use Rattle.std.proofs.lemmas.Bool.{true≢false}
use Rattle.std.specs.Option.{option_map_or}
use Rattle.refusal.specs.declared.Refusal.TheVariants.{MalformedEvent}
use Rattle.statistic.specs.Model.{Model}
use Rattle.text.specs.Lines.{next_line}
use Rattle.text.proofs.Lines.{text_of_line, lines_step, lines_end}
use Rattle.meter.specs.Take.{Take}
use Rattle.sheet.specs.Answers.{refusal_text, said}
use Rattle.sheet.specs.Events.{event_of}
use Rattle.sheet.specs.declared.event.Event.{Event}
use Rattle.sheet.specs.declared.answer.Answer.{Answer}
use Rattle.player.specs.Sheet.{ended, answer_to, leaves, plays, text_plays}

some_left : (text : List ℕ) → false ≡ eqb (length text) 0 → ended text ≡ refusal_text MalformedEvent
some_left [] e = absurd (true≢false (sym e))
some_left (b ∷ bs) e = refl

-- a line taken leaves a shorter text
pub shorter : (text l rest : List ℕ) → Some (l, rest) ≡ next_line text → length rest < length text
shorter text l rest cut = omega (arith, length-append l (10 ∷ rest), ap length (text_of_line text l rest (sym cut)))

module _ {I S : Type 0} (m : Model I S) (item : List ℕ → Option I) (t : Take S) (out whole text : List ℕ) (so_far : out ++ text_plays m item t text ≡ whole) where
  -- an event is done and its answer printed: the rest of the text goes on from there
  pub goes_on : (l rest printed : List ℕ) (event : Event I) (a : Option Answer) (after : Take S) → Some (l, rest) ≡ next_line text → Some event ≡ event_of item l → a ≡ answer_to m t event → after ≡ leaves m t event → printed ≡ out ++ option_map_or said a [] → printed ++ text_plays m item after rest ≡ whole
  goes_on l rest printed event a after cut means says goes prints =
      let step : text_plays m item t text ≡ option_map_or said (answer_to m t event) [] ++ text_plays m item (leaves m t event) rest = rw (lines_step text l rest (sym cut), sym means) in
      rw (prints, says, goes, append_assoc) (ap (λ x. out ++ x) (sym step) ∙ so_far)

  -- a line that is no event ends the sheet
  pub stops : (l rest : List ℕ) → Some (l, rest) ≡ next_line text → None ≡ event_of item l → out ++ refusal_text MalformedEvent ≡ whole
  stops l rest cut none =
      let step : text_plays m item t text ≡ refusal_text MalformedEvent = rw (lines_step text l rest (sym cut), sym none) in
      ap (λ x. out ++ x) (sym step) ∙ so_far

  -- so do bytes that no line end follows
  pub breaks_off : None ≡ next_line text → false ≡ eqb (length text) 0 → out ++ refusal_text MalformedEvent ≡ whole
  breaks_off cut some =
      let step : text_plays m item t text ≡ refusal_text MalformedEvent = ap (λ p. plays m item t p.0 p.1) (lines_end text (sym cut)) ∙ some_left text some in
      ap (λ x. out ++ x) (sym step) ∙ so_far
