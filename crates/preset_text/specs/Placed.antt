-- What is promised of writing. A reader must believe that `Wrote` is what a host wants of its buffer.
use Rattle.std.specs.Prelude.{◌≡◌, ℕ, ◌≤◌, List, length, take, IfOk, Ok, Result}
use Rattle.preset_text.specs.Reading.{read_text}
use Rattle.preset_text.specs.Words.{written}
use Rattle.preset_text.specs.declared.kind.Kind.{Kind}
use Rattle.refusal.specs.declared.Refusal.{Refusal}
use Rattle.text.specs.Placed.{placed}

-- for a kind and a preset, as window and loss: the buffer before and after, and the answer
pub record Wrote (kind : Kind) (preset : ℕ × ℕ) (before after : List ℕ) (r : Result ℕ Refusal) : Type 0 where
  pub answer : r ≡ (placed (written kind preset) before).0
  pub buffer : after ≡ (placed (written kind preset) before).1
  pub short : length (written kind preset) ≤ 36
  -- the bytes that were written read as the same kind and preset
  pub reads_back : IfOk r (λ n. read_text (take n after) ≡ Ok (kind, preset))
