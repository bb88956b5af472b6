-- Thinning leaves what `Thins` says. Assumes nothing.
use Rattle.std.proofs.Common.{◌≡◌, ℕ, zero, suc, ◌+◌, ◌-◌, ◌<◌, ◌≤◌, Bool, true, List, [], ◌∷◌, ◌++◌, length, get_or, take, drop, sym, refl, ap, ◌∙◌, subst, inl, inr, ⊎_elim, arith, length-drop, take-append-drop}
use Rattle.std.specs.List.{prefix_len, AllByRecursion}
use Rattle.std.proofs.lemmas.List.{drop_more, drop_all, get_or-take, length-take}
use Rattle.std.proofs.lemmas.List.Elements.{recursion_from_All}
use Rattle.std.proofs.lemmas.List.Sums.{prefix_len-le-length, prefix_len_passes, prefix_len_stops}
use Rattle.std.proofs.lemmas.Bool.{cases_lt}
use Rattle.histogram.specs.Method.{anchored, thinned}
use Rattle.histogram.specs.Thins.{Ends, Next, Thins}

module _ {X : Type 0} (near : X → X → Bool) where
  pub none_left : (n : ℕ) → anchored near n [] ≡ []
  none_left zero = refl
  none_left (suc n) = refl

  -- what comes behind the leading near ones is not near
  ends : (a : X) (ts : List X) → Ends near a (drop (prefix_len (near a) ts) ts)
  ends a ts =
      let n = prefix_len (near a) ts in
      ⊎_elim (λ (within : n < length ts). rw (drop_more ts n a within) (prefix_len_stops (near a) ts a within)) (λ (past : length ts ≤ n). rw (drop_all n ts past) tt) (cases_lt n (length ts))

  -- the first of the leading near ones are near
  leads : (a : X) (ts : List X) (k : ℕ) → k ≤ prefix_len (near a) ts → AllByRecursion (λ t. near a t ≡ true) (take k ts)
  leads a ts k h =
      recursion_from_All (λ t. near a t ≡ true) (take k ts)
      (λ j d lt. let before : j < k = omega (arith, length-take k ts) in rw (get_or-take k ts j d before) (prefix_len_passes (near a) ts j d (omega arith)))

  -- where none is near the next is the one right behind, else it is the last near one
  next : (a x : X) (r : List X) → (let ts = x ∷ r in let k = prefix_len (near a) ts - 1 in Next near a (take k ts) (get_or ts k x) (drop (k + 1) ts))
  next a x r =
      let ts = x ∷ r in
      let n = prefix_len (near a) ts in
      ⊎_elim
      (λ (some : 0 < n). let all : n - 1 + 1 ≡ n = omega arith in inr (leads a ts (n - 1) (omega arith), prefix_len_passes (near a) ts (n - 1) x (omega arith), subst (λ j. Ends near a (drop j ts)) (sym all) (ends a ts)))
      (λ (none : n ≤ 0). let first : n ≡ 0 = omega arith in inl (ap (λ j. take (j - 1) ts) first, ap (λ j. near a (get_or ts (j - 1) x)) first ∙ subst (λ j. Ends near a (drop j ts)) first (ends a ts)))
      (cases_lt 0 n)

  thins_from : (n : ℕ) (a : X) (ts : List X) → length ts ≤ n → Thins near (a ∷ ts) (anchored near (suc n) (a ∷ ts))
  thins_from n a [] h = subst (λ l. Thins near (a ∷ []) (a ∷ l)) (sym (none_left n)) refl
  thins_from zero a (x ∷ r) h = absurd (omega arith)
  thins_from (suc n) a (x ∷ r) h =
      let ts = x ∷ r in
      let k = prefix_len (near a) ts - 1 in
      let z = get_or ts k x in
      let rest = drop (k + 1) ts in
      let within : k < length ts = omega (arith, prefix_len-le-length (near a) ts) in
      let split : drop k ts ≡ z ∷ rest = drop_more ts k x within in
      let whole : a ∷ ts ≡ a ∷ (take k ts ++ z ∷ rest) = ap (λ l. a ∷ l) (sym (take-append-drop k ts) ∙ ap (λ l. take k ts ++ l) split) in
      let short : length rest ≤ n = simp length-drop (omega arith) in
      subst (λ l. Thins near (a ∷ ts) (a ∷ anchored near (suc n) l)) (sym split) (take k ts, rest, whole, next a x r, thins_from n z rest short)

  pub thins : (xs : List X) → Thins near xs (thinned near xs)
  thins [] = refl
  thins (a ∷ ts) = thins_from (length ts) a ts (omega arith)
