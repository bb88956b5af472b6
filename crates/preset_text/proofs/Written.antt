-- What is written reads as the setup that it was written for, and is short.
use Rattle.std.proofs.Common.{◌≡◌, ℕ, ◌≤◌, true, List, [], ◌∷◌, ◌++◌, length, take, IfOk, Some, Ok, codes, decimal, Result, refl, ap, ◌∙◌, append_assoc, append-nil, arith, length-append, take_all, drop_at}
use Rattle.preset.specs.Questions.{view}
use Rattle.preset_text.specs.Placed.{Wrote}
use Rattle.preset_text.specs.Reading.{behind, value_of, three_lines, answered, read_text}
use Rattle.preset_text.specs.Words.{word, named, written}
use Rattle.preset_text.specs.declared.kind.Kind.{Kind}
use Rattle.preset_text.specs.declared.kind.Kind.TheVariants.{Energy, Peak, Notes}
use Rattle.preset_text.specs.declared.setup.Setup.{Setup}
use Rattle.refusal.specs.declared.Refusal.{Refusal}
use Rattle.preset_text.proofs.Accepted.{keyed}
use Rattle.std.specs.Str.{bytes_eq}
use Rattle.std.proofs.lemmas.Fmt.{length-decimal-le}
use Rattle.std.proofs.lemmas.Slice.Eq.{starts_is}
use Rattle.std.proofs.lemmas.Bool.Decides.{Decides-eqb}
use Rattle.std.proofs.lemmas.Grind.{common_steps}
use Rattle.text.specs.Lines.{line}
use Rattle.text.specs.Placed.{placed}
use Rattle.text.proofs.Fronts.{front_front}
use Rattle.text.proofs.Decimals.{spelled_decimal}
use Rattle.text.proofs.Lines.{one_line, first_line, one_line_decimal}

-- a line that is written has its value behind its key
behind_key : (key v : List ℕ) → behind key (key ++ v) ≡ Some v
behind_key key v = grind (arith, (starts_is Decides-eqb (key ++ v) key (bytes_eq key (take (length key) (key ++ v))) refl).1 v refl, drop_at key v (length key) refl)

value_written : (key v rest : List ℕ) → one_line (key ++ v) ≡ true → value_of key (line key v ++ rest) ≡ Some (v, rest)
value_written key v rest h = grind (arith, behind_key key v, first_line (key ++ v) rest h, append_assoc {A = ℕ})

-- the values of three lines that are written one behind the other
keyed_written : (a b c k w l : List ℕ) → one_line (a ++ k) ≡ true → one_line (b ++ w) ≡ true → one_line (c ++ l) ≡ true → keyed a b c (line a k ++ (line b w ++ line c l)) ≡ Ok ((k, w, l), [])
keyed_written a b c k w l p q r = grind (arith, value_written, append-nil (line c l))

-- a word names its kind, and is short and no more than a line
of_word : (k : Kind) → (named (word k) ≡ Some k) × (one_line (word k) ≡ true) × (length (word k) ≤ 6)
of_word Energy = (refl, refl, omega arith)
of_word Peak = (refl, refl, omega arith)
of_word Notes = (refl, refl, omega arith)

-- what holds of a text holds of the front of the buffer that it was placed in
pub placed_front : (P : List ℕ → Type 0) (t out : List ℕ) (r : Result ℕ Refusal) (after : List ℕ) → r ≡ (placed t out).0 → after ≡ (placed t out).1 → P t → IfOk r (λ n. P (take n after))
placed_front P t out r after answer is h = grind (arith, common_steps)

module _ (s : Setup) where
  pub read_written : read_text (written s.kind (view s.preset)) ≡ Ok (s.kind, view s.preset)
  unfolding written three_lines answered
  read_written =
      let three = keyed_written (codes "kind=") (codes "window=") (codes "loss=") (word s.kind) (decimal s.preset.window) (decimal s.preset.loss) (of_word s.kind).1 (one_line_decimal s.preset.window (omega arith)) (one_line_decimal s.preset.loss (omega arith)) in
      rw (three, (of_word s.kind).0) (grind (arith, spelled_decimal 7))

  pub written_short : length (written s.kind (view s.preset)) ≤ 36
  unfolding written
  written_short =
      simp length-append (grind (arith, of_word, length-decimal-le 7, length-decimal-le 3))

  pub wrote : (t before after : List ℕ) (r : Result ℕ Refusal) → t ≡ written s.kind (view s.preset) → r ≡ (placed t before).0 → after ≡ (placed t before).1 → Wrote s.kind (view s.preset) before after r
  wrote t before after r is answer buffer =
      record {
        answer = cc;
        buffer = cc;
        short = written_short;
        reads_back = placed_front (λ u. read_text u ≡ Ok (s.kind, view s.preset)) t before r after answer buffer (ap read_text is ∙ read_written);
      }

-- seven pieces that are put one behind the other
seven : (a b c d e f g : List ℕ) → length (a ++ (b ++ (c ++ (d ++ (e ++ (f ++ g)))))) ≤ 64 → take 64 (take 64 (take 64 (take 64 (take 64 (take 64 (take 64 ([] ++ a) ++ b) ++ c) ++ d) ++ e) ++ f) ++ g) ≡ a ++ (b ++ (c ++ (d ++ (e ++ (f ++ g)))))
seven a b c d e f g h = simp (front_front, append_assoc) (take_all 64 (a ++ (b ++ (c ++ (d ++ (e ++ (f ++ g)))))) h)

-- the text as `spell` pushes it, piece by piece
pub in_pieces : (s : Setup) → take 64 (take 64 (take 64 (take 64 (take 64 (take 64 (take 64 ([] ++ codes "kind=") ++ word s.kind) ++ 10 ∷ codes "window=") ++ decimal s.preset.window) ++ 10 ∷ codes "loss=") ++ decimal s.preset.loss) ++ 10 ∷ []) ≡ written s.kind (view s.preset)
unfolding written
in_pieces s =
    let regrouped : codes "kind=" ++ (word s.kind ++ (10 ∷ codes "window=" ++ (decimal s.preset.window ++ (10 ∷ codes "loss=" ++ (decimal s.preset.loss ++ 10 ∷ []))))) ≡ written s.kind (view s.preset) = simp append_assoc in
    seven (codes "kind=") (word s.kind) (10 ∷ codes "window=") (decimal s.preset.window) (10 ∷ codes "loss=") (decimal s.preset.loss) (10 ∷ []) (omega (arith, ap length regrouped, written_short s)) ∙ regrouped
