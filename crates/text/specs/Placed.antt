-- Texts put into a buffer. A reader must believe that `placed` is what a host wants of its buffer:
-- either the whole text with the bytes behind it as they were, or nothing.
use Rattle.std.specs.Prelude.{ℕ, cond, List, ◌++◌, length, drop, Ok, Err, Result, nat_le}
use Rattle.refusal.specs.declared.Refusal.{Refusal}
use Rattle.refusal.specs.declared.Refusal.TheVariants.{BufferTooShort}

-- what a call answers that puts a text at the front of a buffer, and what the buffer holds then
abbrev pub placed : List ℕ → List ℕ → Result ℕ Refusal × List ℕ
placed t out = cond (nat_le (length t) (length out)) (Ok (length t), t ++ drop (length t) out) (Err BufferTooShort, out)
