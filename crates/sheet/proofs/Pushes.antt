-- Short texts put together by pushes: as long as 64 bytes are enough, nothing is cut off.
use Rattle.std.proofs.Common.{◌≡◌, ℕ, ◌+◌, ◌^◌, ◌<◌, ◌≤◌, List, [], ◌∷◌, ◌++◌, length, take, ap, ◌∙◌, append_assoc, arith, length-append}
use Rattle.std.proofs.lemmas.Fmt.{length-decimal-le}
use Rattle.std.proofs.lemmas.List.{take_all}
use Rattle.text.specs.Lines.{line}
use Rattle.text.proofs.Fronts.{pushed}
use Rattle.sheet.specs.Answers.{number_line}

-- a piece pushed behind what is known, where both fit
pub fitted : (s t known piece : List ℕ) → t ≡ take 64 (s ++ piece) → s ≡ known → length known + length piece ≤ 64 → t ≡ known ++ piece
fitted s t known piece p e few = p ∙ ap (λ l. take 64 (l ++ piece)) e ∙ take_all 64 (known ++ piece) (simp length-append few)

-- a line of a number is not much longer than its name
pub length-number_line : (name : List ℕ) (n : ℕ) → n < 2 ^ 64 → length (number_line name n) ≤ length name + 21
length-number_line name n fits =
    let short = length-decimal-le 20 n (omega arith) (omega arith) fits in
    simp length-append (omega arith)

-- a line of a number pushed behind what is known
pub number_fitted : (s t known name : List ℕ) (n : ℕ) → t ≡ take 64 (s ++ number_line name n) → s ≡ known → n < 2 ^ 64 → length known + length name ≤ 43 → t ≡ known ++ number_line name n
number_fitted s t known name n p e fits few =
    fitted s t known (number_line name n) p e (omega (arith, length-number_line name n fits))

-- three pushes of a line's parts are one
pub line_pushed : (s t u v name word : List ℕ) → t ≡ take 64 (s ++ name) → u ≡ take 64 (t ++ word) → v ≡ take 64 (u ++ 10 ∷ []) → v ≡ take 64 (s ++ line name word)
line_pushed s t u v name word p q r =
    let regrouped : ((s ++ name) ++ word) ++ 10 ∷ [] ≡ s ++ line name word = simp append_assoc in
    pushed _ _ _ _ (pushed _ _ (s ++ name) _ p q) r ∙ ap (take 64) regrouped
