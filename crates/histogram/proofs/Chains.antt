-- Lists whose neighbours are related. Assumes nothing.
use Rattle.std.proofs.Common.{◌≡◌, ℕ, Bool, false, List, [], ◌∷◌, ◌++◌, map, refl}
use Rattle.std.specs.List.{AllByRecursion}

-- of three in a row the third is not near the first
abbrev pub Sparse : {X : Type 0} → (X → X → Bool) → List X → Type 0
Sparse near [] = Unit {0}
Sparse near (a ∷ []) = Unit {0}
Sparse near (a ∷ b ∷ []) = Unit {0}
Sparse near (a ∷ b ∷ c ∷ rest) = (near a c ≡ false) × Sparse near (b ∷ c ∷ rest)

module _ {X : Type 0} where
  -- R holds of each two neighbours
  abbrev pub Linked : (X → X → Type 0) → List X → Type 0
  Linked R [] = Unit {0}
  Linked R (a ∷ []) = Unit {0}
  Linked R (a ∷ b ∷ r) = R a b × Linked R (b ∷ r)

  -- the number of the first element, 0 where there is none
  abbrev pub first_by : (X → ℕ) → List X → ℕ
  first_by number [] = 0
  first_by number (a ∷ r) = number a

  -- the number of the last element, 0 where there is none
  abbrev pub last_by : (X → ℕ) → List X → ℕ
  last_by number [] = 0
  last_by number (a ∷ []) = number a
  last_by number (a ∷ b ∷ r) = last_by number (b ∷ r)

-- each element replaced
module _ {X : Type 0} (g : X → X) where
  pub linked_map : (Q R : X → X → Type 0) → ((a b : X) → Q a b → R (g a) (g b)) → (xs : List X) → Linked Q xs → Linked R (map g xs)
  linked_map Q R still [] h = tt
  linked_map Q R still (a ∷ []) h = tt
  linked_map Q R still (a ∷ b ∷ r) h = (still a b h.0, linked_map Q R still (b ∷ r) h.1)

  pub last_map : (number : X → ℕ) (xs : List X) → last_by number (map g xs) ≡ last_by (λ a. number (g a)) xs
  last_map number [] = refl
  last_map number (a ∷ []) = refl
  last_map number (a ∷ b ∷ r) = last_map number (b ∷ r)

-- one more element y, related to the last
module _ {X : Type 0} (number : X → ℕ) (y : X) where
  pub linked_push : (R : X → X → Type 0) (xs : List X) → ((a : X) → number a ≡ last_by number xs → R a y) → Linked R xs → Linked R (xs ++ y ∷ [])
  linked_push R [] new h = tt
  linked_push R (a ∷ []) new h = (new a refl, tt)
  linked_push R (a ∷ b ∷ r) new h = (h.0, linked_push R (b ∷ r) new h.1)

  pub last_push : (xs : List X) → last_by number (xs ++ y ∷ []) ≡ number y
  last_push [] = refl
  last_push (a ∷ []) = refl
  last_push (a ∷ b ∷ r) = last_push (b ∷ r)

-- What holds of a list holds from a later element on.
module _ {X : Type 0} where
  pub all_behind : (P : X → Type 0) (b : X) (gap rest : List X) → AllByRecursion P (gap ++ b ∷ rest) → AllByRecursion P (b ∷ rest)
  all_behind P b [] rest h = h
  all_behind P b (g ∷ gap) rest h = all_behind P b gap rest h.1

  pub linked_behind : (R : X → X → Type 0) (a b : X) (gap rest : List X) → Linked R (a ∷ (gap ++ b ∷ rest)) → Linked R (b ∷ rest)
  linked_behind R a b [] rest h = h.1
  linked_behind R a b (g ∷ gap) rest h = linked_behind R g b gap rest h.1

  pub last_behind : (number : X → ℕ) (a b : X) (gap rest : List X) → last_by number (a ∷ (gap ++ b ∷ rest)) ≡ last_by number (b ∷ rest)
  last_behind number a b [] rest = refl
  last_behind number a b (g ∷ gap) rest = last_behind number g b gap rest

  pub sparse_behind : (near : X → X → Bool) (a b : X) (r : List X) → Sparse near (a ∷ b ∷ r) → Sparse near (b ∷ r)
  sparse_behind near a b [] h = tt
  sparse_behind near a b (c ∷ r) h = h.1
