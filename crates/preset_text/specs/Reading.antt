-- What a preset text reads as. A reader must believe that the questions stand in the right order, each with its refusal:
-- three lines, the kind, the two numbers, and then those of the preset itself, which `asked` puts.
use Rattle.std.specs.Prelude.{ℕ, cond, List, length, take, drop, Some, None, Ok, Err, codes, Option, Result, ◌==◌}
use Rattle.preset.specs.Questions.{asked, view}
use Rattle.refusal.specs.declared.Refusal.{Refusal}
use Rattle.refusal.specs.declared.Refusal.TheVariants.{NotThreeLines, UnknownKind, MalformedNumber}
use Rattle.std.specs.Option.{option_map}
use Rattle.std.specs.Str.{bytes_eq}
use Rattle.text.specs.Decimal.{spelled}
use Rattle.text.specs.Lines.{next_line}
use Rattle.preset_text.specs.Words.{named}
use Rattle.preset_text.specs.declared.kind.Kind.{Kind}
use Rattle.preset_text.specs.declared.setup.Setup.{Setup}

-- go on with the answer to a question, or refuse
abbrev pub given : {A B : Type 0} → Option A → Refusal → (A → Result B Refusal) → Result B Refusal
given None e go = Err e
given (Some x) e go = go x

-- go on where nothing was refused
abbrev pub then : {A B : Type 0} → Result A Refusal → (A → Result B Refusal) → Result B Refusal
then (Err e) go = Err e
then (Ok x) go = go x

-- what stands behind `key`, in a line that begins with it
abbrev pub behind : List ℕ → List ℕ → Option (List ℕ)
behind key line = cond (bytes_eq key (take (length key) line)) (Some (drop (length key) line)) None

-- the same of the first line of a text, with the text behind that line
abbrev pub behind_in : List ℕ → Option (List ℕ × List ℕ) → Option (List ℕ × List ℕ)
behind_in key None = None
behind_in key (Some (line, rest)) = option_map (λ v. (v, rest)) (behind key line)

abbrev pub value_of : List ℕ → List ℕ → Option (List ℕ × List ℕ)
value_of key t = behind_in key (next_line t)

-- the values of the first three lines of a text, and the text behind them
unfoldable pub three_lines : List ℕ → Result ((List ℕ × List ℕ × List ℕ) × List ℕ) Refusal
three_lines t =
    given (value_of (codes "kind=") t) NotThreeLines
    (λ k. given (value_of (codes "window=") k.1) NotThreeLines
    (λ w. given (value_of (codes "loss=") w.1) NotThreeLines
    (λ l. Ok ((k.0, w.0, l.0), l.1))))

-- the kind, the window and the loss that three values stand for
unfoldable pub answered : List ℕ × List ℕ × List ℕ → Result (Kind × (ℕ × ℕ)) Refusal
answered (kind, window, loss) =
    given (named kind) UnknownKind
    (λ k. given (spelled 7 window) MalformedNumber
    (λ w. given (spelled 7 loss) MalformedNumber
    (λ l. then (asked w l) (λ p. Ok (k, p)))))

-- what a text of just three lines reads as
abbrev pub read_text : List ℕ → Result (Kind × (ℕ × ℕ)) Refusal
read_text t = then (three_lines t) (λ p. cond (length p.1 == 0) (answered p.0) (Err NotThreeLines))

-- what the first three lines of a text read as, and the text behind them
abbrev pub read_front : List ℕ → Result (Kind × (ℕ × ℕ) × List ℕ) Refusal
read_front t = then (three_lines t) (λ p. then (answered p.0) (λ r. Ok (r.0, r.1, p.1)))

-- an answer with its preset as two numbers
abbrev pub kept : Result Setup Refusal → Result (Kind × (ℕ × ℕ)) Refusal
kept (Ok s) = Ok (s.kind, view s.preset)
kept (Err e) = Err e
