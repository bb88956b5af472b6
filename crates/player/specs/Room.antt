-- Printing at the end of a vector. A reader must believe that `Prints` is what a caller wants of it: the text stands behind
-- what was there, and a call can fail only where the vector came with less room than that takes.
use Rattle.std.specs.Prelude.{◌≡◌, ℕ, ◌<◌, ◌≤◌, List, ◌++◌, length, vec_items, vec_capacity, Result, Vec, MatchResult}

-- the vector before and after a call that prints a text, and the call's answer; room is never given back
abbrev pub Prints : {Z E : Type 0} → Vec ℕ Z → Vec ℕ Z → List ℕ → Result (Unit {0}) E → Type 0
Prints before after text r =
    MatchResult r (λ _. (vec_items after ≡ vec_items before ++ text) × (vec_capacity before ≤ vec_capacity after)) (λ _. vec_capacity before < length (vec_items before ++ text))
