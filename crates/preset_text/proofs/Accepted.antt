-- A text that is accepted is the one that is written for what it reads as.
use Rattle.std.proofs.Common.{◌≡◌, ℕ, ◌-◌, ◌≤◌, List, ◌++◌, length, take, drop, IfOk, Some, Ok, Err, codes, decimal, Result, sym, refl, ap, ◌∙◌, append_assoc, append-nil, arith, length-append, take_at, Bor}
use Rattle.preset.specs.Questions.{view}
use Rattle.preset_text.specs.Headed.{HeaderOf, headed}
use Rattle.preset_text.specs.Reading.{given, behind, value_of, three_lines, answered, read_text, read_front, kept}
use Rattle.preset_text.specs.Words.{word, named, written}
use Rattle.preset_text.specs.declared.kind.Kind.{Kind}
use Rattle.preset_text.specs.declared.setup.Setup.{Setup}
use Rattle.refusal.specs.declared.Refusal.{Refusal}
use Rattle.refusal.specs.declared.Refusal.TheVariants.{NotThreeLines}
use Rattle.std.specs.Str.{bytes_eq}
use Rattle.std.proofs.lemmas.Slice.Eq.{bytes_eq-Decides, starts_is}
use Rattle.std.proofs.lemmas.List.Prefix.{end_rest}
use Rattle.std.proofs.lemmas.List.{nil_from_length}
use Rattle.std.proofs.lemmas.Bool.Decides.{Decides-eqb}
use Rattle.text.specs.Lines.{line}
use Rattle.text.proofs.Decimals.{decimal_spelled}
use Rattle.text.proofs.Lines.{text_of_line}

-- what stands behind a key makes the line with it
behind_ok : (key l v : List ℕ) → behind key l ≡ Some v → l ≡ key ++ v
behind_ok key l v h = grind (arith, (starts_is Decides-eqb l key (bytes_eq key (take (length key) l)) refl).0)

value_ok : (key t v rest : List ℕ) → value_of key t ≡ Some (v, rest) → t ≡ line key v ++ rest
value_ok key t v rest h = grind (arith, text_of_line, behind_ok, append_assoc {A = ℕ})

-- the values of three lines that begin with these keys, and the text behind them
abbrev pub keyed : List ℕ → List ℕ → List ℕ → List ℕ → Result ((List ℕ × List ℕ × List ℕ) × List ℕ) Refusal
keyed a b c t =
    given (value_of a t) NotThreeLines
    (λ k. given (value_of b k.1) NotThreeLines
    (λ w. given (value_of c w.1) NotThreeLines
    (λ l. Ok ((k.0, w.0, l.0), l.1))))

keyed_ok : (a b c t : List ℕ) (q : (List ℕ × List ℕ × List ℕ) × List ℕ) → keyed a b c t ≡ Ok q → t ≡ (line a q.0.0 ++ (line b q.0.1 ++ line c q.0.2)) ++ q.1
keyed_ok a b c t q h = grind (arith, value_ok, append_assoc {A = ℕ})

named_ok : (v : List ℕ) (k : Kind) → named v ≡ Some k → v ≡ word k
named_ok v k h = grind (arith, bytes_eq-Decides)

answered_ok : (v : List ℕ × List ℕ × List ℕ) (k : Kind) (p : ℕ × ℕ) → answered v ≡ Ok (k, p) → (v.0 ≡ word k) × (v.1 ≡ decimal p.0) × (v.2 ≡ decimal p.1)
unfolding answered
answered_ok v k p h = grind (arith, named_ok, decimal_spelled 7)

whole_ok : (t : List ℕ) (q : (List ℕ × List ℕ × List ℕ) × List ℕ) (k : Kind) (p : ℕ × ℕ) → three_lines t ≡ Ok q → answered q.0 ≡ Ok (k, p) → t ≡ written k p ++ q.1
unfolding three_lines written
whole_ok t q k p h g =
    let said = answered_ok q.0 k p g in
    cc (keyed_ok (codes "kind=") (codes "window=") (codes "loss=") t q h, said.0, said.1, said.2)

-- what both readers answer of an accepted text is what would be written for it
pub front_ok : (t : List ℕ) (k : Kind) (p : ℕ × ℕ) (rest : List ℕ) → read_front t ≡ Ok (k, p, rest) → t ≡ written k p ++ rest
front_ok t k p rest h = grind (arith, whole_ok)

pub read_ok : (t : List ℕ) (k : Kind) (p : ℕ × ℕ) → read_text t ≡ Ok (k, p) → t ≡ written k p
read_ok t k p h = grind (arith, whole_ok, nil_from_length {X = ℕ}, append-nil (written k p))

pub writes_back : (t : List ℕ) (r : Result Setup Refusal) → kept r ≡ read_text t → IfOk r (λ s. t ≡ written s.kind (view s.preset))
writes_back t (Ok s) h = read_ok t s.kind (view s.preset) (sym h)
writes_back t (Err e) h = tt

-- the two parts of a text, each by the length of the second
pub parted : (t front rest : List ℕ) → t ≡ front ++ rest → (length rest ≤ length t) × (drop (length t - length rest) t ≡ rest) × (take (length t - length rest) t ≡ front)
parted t front rest e =
    let long = ap length e ∙ length-append front rest in
    let at : length front ≡ length t - length rest = omega arith in
    (omega arith, end_rest t rest front e, ap (take (length t - length rest)) e ∙ take_at front rest (length t - length rest) at)

pub headed_by : (t : List ℕ) (r : Result (Setup × Bor (List ℕ)) Refusal) → headed r ≡ read_front t → HeaderOf t r
headed_by t (Ok (s, rest)) h =
    let parts = front_ok t s.kind (view s.preset) rest.now (sym h) in
    record { value = h; writes_back = parts; within = (parted t (written s.kind (view s.preset)) rest.now parts).0 }
headed_by t (Err e) h = record { value = h; writes_back = tt; within = tt }
