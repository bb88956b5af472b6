-- What thinning leaves, told by the elements and not by rounds. Of a list xs it allows one ys and no other.
use Rattle.std.specs.Prelude.{◌≡◌, Bool, true, false, ◌⊎◌, List, [], ◌∷◌, ◌++◌}
use Rattle.std.specs.List.{AllByRecursion}

module _ {X : Type 0} (near : X → X → Bool) where
  -- the element that comes next, if any, is not near a
  abbrev pub Ends : X → List X → Type 0
  Ends a [] = Unit {0}
  Ends a (t ∷ ts) = near a t ≡ false

  -- Of an anchor a and what lies behind it, b is the next to stay: the one right behind, where that is not near; else the
  -- last of those that are near, and all before it, the gap, are near too.
  abbrev pub Next : X → List X → X → List X → Type 0
  Next a gap b rest = ((gap ≡ []) × (near a b ≡ false)) ⊎ (AllByRecursion (λ t. near a t ≡ true) gap × (near a b ≡ true) × Ends a rest)

  -- ys is what thinning leaves of xs: the first stays, and behind each that stays comes the next, up to the last.
  abbrev pub Thins : List X → List X → Type 0
  Thins xs [] = xs ≡ []
  Thins xs (a ∷ []) = xs ≡ a ∷ []
  Thins xs (a ∷ b ∷ ys) = (gap : List X) × (rest : List X) × (xs ≡ a ∷ (gap ++ b ∷ rest)) × Next a gap b rest × Thins (b ∷ rest) (b ∷ ys)
