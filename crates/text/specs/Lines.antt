-- Lines of a text. A reader must believe that a line ends with byte 10, and with nothing else.
use Rattle.std.specs.Prelude.{ℕ, cond, List, [], ◌∷◌, ◌++◌, Some, None, Option, ◌==◌}
use Rattle.std.specs.Option.{option_map}

-- the bytes before the first byte c, and the bytes behind it
abbrev pub split_once : List ℕ → ℕ → Option (List ℕ × List ℕ)
split_once [] c = None
split_once (b ∷ bs) c = cond (b == c) (Some ([], bs)) (option_map (λ p. (b ∷ p.0, p.1)) (split_once bs c))

-- the first line, and the bytes behind its end
abbrev pub next_line : List ℕ → Option (List ℕ × List ℕ)
next_line t = split_once t 10

-- a byte put before a text that is cut into lines
abbrev pub before : ℕ → List (List ℕ) × List ℕ → List (List ℕ) × List ℕ
before b ([], rest) = ([], b ∷ rest)
before b (l ∷ ls, rest) = ((b ∷ l) ∷ ls, rest)

-- all lines that are ended, in order, and the bytes behind the last byte 10
abbrev pub lines : List ℕ → List (List ℕ) × List ℕ
lines [] = ([], [])
lines (b ∷ bs) = cond (b == 10) ([] ∷ (lines bs).0, (lines bs).1) (before b (lines bs))

-- a line that is written: what it begins with, what stands behind that, and byte 10
abbrev pub line : List ℕ → List ℕ → List ℕ
line key value = key ++ (value ++ 10 ∷ [])
