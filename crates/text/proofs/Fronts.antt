-- The front of a text that is put together from parts.
use Rattle.std.proofs.Common.{◌≡◌, ℕ, zero, suc, List, [], ◌∷◌, ◌++◌, take, refl, ap, ◌∙◌}

-- what is cut off before more is put behind would be cut off later too
pub front_front : (n : ℕ) (xs ys : List ℕ) → take n (take n xs ++ ys) ≡ take n (xs ++ ys)
front_front zero xs ys = refl
front_front (suc n) [] ys = refl
front_front (suc n) (x ∷ xs) ys = ap (λ l. x ∷ l) (front_front n xs ys)

-- a has the first 64 bytes of s, and b those of s with one piece more
pub pushed : (a b s t : List ℕ) → a ≡ take 64 s → b ≡ take 64 (a ++ t) → b ≡ take 64 (s ++ t)
pushed a b s t e is = is ∙ ap (λ x. take 64 (x ++ t)) e ∙ front_front 64 s t
