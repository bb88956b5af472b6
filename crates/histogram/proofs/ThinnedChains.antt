-- What thinning keeps of a list whose neighbours are related, and what it makes of it. Assumes nothing.
use Rattle.std.proofs.Common.{◌≡◌, ℕ, Bool, true, false, List, [], ◌∷◌, ◌++◌, drop, sym, ap, ◌∙◌, subst, inl, inr}
use Rattle.std.specs.List.{AllByRecursion}
use Rattle.histogram.specs.Thins.{Ends, Next, Thins}
use Rattle.histogram.proofs.Chains.{Sparse, Linked, first_by, last_by, all_behind, linked_behind, last_behind}

-- the first and the last stay
module _ {X : Type 0} (near : X → X → Bool) (number : X → ℕ) where
  pub first_thins : (xs ys : List X) → Thins near xs ys → first_by number ys ≡ first_by number xs
  first_thins xs [] h = sym (ap (first_by number) h)
  first_thins xs (a ∷ []) h = sym (ap (first_by number) h)
  first_thins xs (a ∷ b ∷ ys) h = sym (ap (first_by number) h.2)

  pub last_thins : (xs ys : List X) → Thins near xs ys → last_by number ys ≡ last_by number xs
  last_thins xs [] h = sym (ap (last_by number) h)
  last_thins xs (a ∷ []) h = sym (ap (last_by number) h)
  last_thins xs (a ∷ b ∷ ys) (gap, rest, is, next, more) =
      last_thins (b ∷ rest) (b ∷ ys) more ∙ sym (last_behind number a b gap rest) ∙ sym (ap (last_by number) is)

-- Elements that are each P, and R holds of neighbours, so that each comes before all behind it.
module _ {X : Type 0} (near : X → X → Bool) (P : X → Type 0) (Before R : X → X → Type 0)
    (on : (a b c : X) → Before a b → Before b c → Before a c) (ordered : (a b : X) → R a b → Before a b) where
  across : (a b : X) (gap rest : List X) → Linked R (a ∷ (gap ++ b ∷ rest)) → Before a b
  across a b [] rest h = ordered a b h.0
  across a b (g ∷ gap) rest h = on a g b (ordered a g h.0) (across g b gap rest h.1)

  -- The neighbours that thinning leaves were neighbours before, or they are near.
  module _ (by_near : (a b : X) → P a → P b → Before a b → near a b ≡ true → R a b) where
    neighbours : (a b : X) (gap rest : List X) → Next near a gap b rest → AllByRecursion P (a ∷ (gap ++ b ∷ rest)) → Linked R (a ∷ (gap ++ b ∷ rest)) → R a b
    neighbours a b gap rest (inl (no_gap, _)) all linked = (subst (λ l. Linked R (a ∷ (l ++ b ∷ rest))) no_gap linked).0
    neighbours a b gap rest (inr (_, is_near, _)) all linked =
        by_near a b all.0 (all_behind P b gap rest all.1).0 (across a b gap rest linked) is_near

    pub linked_thins : (xs ys : List X) → Thins near xs ys → AllByRecursion P xs → Linked R xs → Linked R ys
    linked_thins xs [] h all linked = tt
    linked_thins xs (a ∷ []) h all linked = tt
    linked_thins xs (a ∷ b ∷ ys) (gap, rest, is, next, more) all linked =
        let all' : AllByRecursion P (a ∷ (gap ++ b ∷ rest)) = subst (AllByRecursion P) is all in
        let linked' : Linked R (a ∷ (gap ++ b ∷ rest)) = subst (Linked R) is linked in
        let behind : AllByRecursion P (b ∷ rest) = all_behind P b gap rest all'.1 in
        (neighbours a b gap rest next all' linked', linked_thins (b ∷ rest) (b ∷ ys) more behind (linked_behind R a b gap rest linked'))

  -- Where what comes later is no nearer, the third of three that thinning leaves is not near the first: the second is not, or
  -- the element right behind the second is not, and the third is that element or comes later.
  module _ (no_nearer : (a t u : X) → P t → P u → Before t u → near a t ≡ false → near a u ≡ false) where
    ends_before : (a b c : X) (gap rest : List X)
        → Ends near a (gap ++ c ∷ rest) → AllByRecursion P (gap ++ c ∷ rest) → Linked R (b ∷ (gap ++ c ∷ rest)) → near a c ≡ false
    ends_before a b c [] rest ends all linked = ends
    ends_before a b c (g ∷ gap) rest ends all linked =
        no_nearer a g c all.0 (all_behind P c gap rest all.1).0 (across g c gap rest linked.1) ends

    third : (a b c : X) (before gap rest : List X)
        → Next near a before b (gap ++ c ∷ rest) → AllByRecursion P (b ∷ (gap ++ c ∷ rest)) → Linked R (b ∷ (gap ++ c ∷ rest)) → near a c ≡ false
    third a b c before gap rest (inl (_, not_near)) all linked =
        no_nearer a b c all.0 (all_behind P c gap rest all.1).0 (across b c gap rest linked) not_near
    third a b c before gap rest (inr (_, _, ends)) all linked = ends_before a b c gap rest ends all.1 linked

    pub sparse_thins : (xs ys : List X) → Thins near xs ys → AllByRecursion P xs → Linked R xs → Sparse near ys
    sparse_thins xs [] h all linked = tt
    sparse_thins xs (a ∷ []) h all linked = tt
    sparse_thins xs (a ∷ b ∷ []) h all linked = tt
    sparse_thins xs (a ∷ b ∷ c ∷ ys) (before, rest, is, next, more) all linked =
        let all' : AllByRecursion P (b ∷ rest) = all_behind P b before rest (subst (AllByRecursion P) is all).1 in
        let linked' : Linked R (b ∷ rest) = linked_behind R a b before rest (subst (Linked R) is linked) in
        let (gap, rest', is', _, _) = more in
        let next' : Next near a before b (gap ++ c ∷ rest') = subst (Next near a before b) (ap (drop 1) is') next in
        let far : near a c ≡ false = third a b c before gap rest' next' (subst (AllByRecursion P) is' all') (subst (Linked R) is' linked') in
        (far, sparse_thins (b ∷ rest) (b ∷ c ∷ ys) more all' linked')
