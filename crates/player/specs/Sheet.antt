-- What a sheet prints. A reader must believe `printed`: a sheet of at most 65,536 bytes begins with a preset text, and each
-- line behind it is an event on one meter of 1,024 slots. What the events mean to the meter is said by its own definitions.
use Rattle.std.specs.Prelude.{ℕ, cond, List, [], ◌∷◌, ◌++◌, length, Some, None, Ok, Err, Option, Result, nat_le}
use Rattle.std.specs.Option.{option_map, option_map_or}
use Rattle.refusal.specs.declared.Refusal.{Refusal}
use Rattle.refusal.specs.declared.Refusal.TheVariants.{MalformedEvent, SheetTooLong}
use Rattle.statistic.specs.Model.{Model}
use Rattle.statistic.specs.Energy.{energy}
use Rattle.statistic.specs.Peak.{peak}
use Rattle.statistic.specs.Notes.{notes}
use Rattle.text.specs.Lines.{lines}
use Rattle.preset_text.specs.Reading.{read_front}
use Rattle.preset_text.specs.declared.kind.Kind.{Kind}
use Rattle.preset_text.specs.declared.kind.Kind.TheVariants.{Energy, Peak, Notes}
use Rattle.meter.specs.Take.{Take, begun, refused, after_feed, read}
use Rattle.meter.specs.Verdicts.{judged}
use Rattle.sheet.specs.Answers.{refusal_text, said}
use Rattle.sheet.specs.Events.{event_of}
use Rattle.sheet.specs.Items.{sample_of, hit_of}
use Rattle.sheet.specs.declared.event.Event.{Event}
use Rattle.sheet.specs.declared.event.Event.TheVariants.{Feed, Read, Mark, Restart}
use Rattle.sheet.specs.declared.answer.Answer.{Answer}
use Rattle.sheet.specs.declared.answer.Answer.TheVariants.{Reading, Judged, Refused}

-- what the bytes behind the last line end print: none may stand there
abbrev pub ended : List ℕ → List ℕ
ended [] = []
ended (b ∷ bs) = refusal_text MalformedEvent

module _ {I S : Type 0} (m : Model I S) where
  -- what an event is answered in a take, if it is: of a feed a refusal is told, and nothing else
  abbrev pub answer_to : Take S → Event I → Option Answer
  answer_to t (Feed x) = option_map (λ e. Refused e) (refused m t x)
  answer_to t Read = Some (Reading (read m t).0 (read m t).1)
  answer_to t (Mark n) = Some (Judged (judged n (read m t)))
  answer_to t Restart = None

  -- the take that an event leaves; a restart begins another with the same preset, over the same slots
  abbrev pub leaves : Take S → Event I → Take S
  leaves t (Feed x) = after_feed m t x
  leaves t Read = t
  leaves t (Mark n) = t
  leaves t Restart = begun t.given (t.window, t.loss)

  module _ (item : List ℕ → Option I) where
    -- What the ended lines of a sheet print from a take on, and the bytes behind them. A line that is no event ends the
    -- sheet; what the lines before it printed stays.
    abbrev pub plays : Take S → List (List ℕ) → List ℕ → List ℕ
    plays t [] tail = ended tail
    plays t (l ∷ ls) tail =
        option_map_or (λ e. option_map_or said (answer_to t e) [] ++ plays (leaves t e) ls tail) (event_of item l) (refusal_text MalformedEvent)

    -- what a text prints from a take on
    abbrev pub text_plays : Take S → List ℕ → List ℕ
    text_plays t text = plays t (lines text).0 (lines text).1

    -- the same from the start of a take, over so many slots and with this preset
    abbrev pub take_prints : ℕ → ℕ × ℕ → List ℕ → List ℕ
    take_prints given preset text = text_plays (begun given preset) text

-- each kind has its statistic and its items, and 1,024 slots
abbrev pub kind_prints : Kind → ℕ × ℕ → List ℕ → List ℕ
kind_prints Energy = take_prints energy sample_of 1024
kind_prints Peak = take_prints peak sample_of 1024
kind_prints Notes = take_prints notes hit_of 1024

-- a preset that is refused ends the sheet
abbrev pub front_prints : Result (Kind × (ℕ × ℕ) × List ℕ) Refusal → List ℕ
front_prints (Ok (kind, preset, text)) = kind_prints kind preset text
front_prints (Err e) = refusal_text e

-- what a sheet prints
abbrev pub printed : List ℕ → List ℕ
printed sheet = cond (nat_le (length sheet) 65536) (front_prints (read_front sheet)) (refusal_text SheetTooLong)
