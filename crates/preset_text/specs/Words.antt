-- The words of a preset text, and the text that is written. A reader must believe that hosts keep presets in this form:
-- the lines `kind=`, `window=` and `loss=` in this order, each ended by byte 10, with the library's decimal digits.
use Rattle.std.specs.Prelude.{◌≡◌, ℕ, cond, List, ◌++◌, Some, None, codes, decimal, Option, Result}
use Rattle.std.specs.Borrow.{Bor}
use Rattle.std.specs.Option.{ok_or}
use Rattle.std.specs.Str.{bytes_eq}
use Rattle.refusal.specs.declared.Refusal.{Refusal}
use Rattle.refusal.specs.declared.Refusal.TheVariants.{UnknownKind}
use Rattle.text.specs.Lines.{line}
use Rattle.preset_text.specs.declared.kind.Kind.{Kind}
use Rattle.preset_text.specs.declared.kind.Kind.TheVariants.{Energy, Peak, Notes}

-- the word for a kind
abbrev pub word : Kind → List ℕ
word Energy = codes "energy"
word Peak = codes "peak"
word Notes = codes "notes"

-- the kind that a word names
abbrev pub named : List ℕ → Option Kind
named w = cond (bytes_eq w (word Energy)) (Some Energy) (cond (bytes_eq w (word Peak)) (Some Peak) (cond (bytes_eq w (word Notes)) (Some Notes) None))

-- the answer for a word: the kind that it names, or the refusal of any other word
abbrev pub Names : Bor (List ℕ) → Result Kind Refusal → Type 0
Names w r = r ≡ ok_or (named w.now) UnknownKind

-- the text for a kind, a window and a loss
unfoldable pub written : Kind → ℕ × ℕ → List ℕ
written kind (window, loss) = line (codes "kind=") (word kind) ++ (line (codes "window=") (decimal window) ++ line (codes "loss=") (decimal loss))
