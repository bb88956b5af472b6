-- Thinning in one pass over the list. Assumes nothing.
use Rattle.std.proofs.Common.{◌≡◌, ℕ, zero, suc, ◌+◌, ◌-◌, ◌≤◌, Bool, true, false, cond, List, [], ◌∷◌, ◌++◌, length, take, drop, Some, None, Option, sym, ap, ◌∙◌, append_assoc, one-add, arith, length-append}
use Rattle.std.specs.List.{prefix_len, slice_get}
use Rattle.std.proofs.lemmas.List.{take_at}
use Rattle.histogram.specs.Method.{anchored, thinned}
use Rattle.histogram.proofs.Thinned.{none_left}

-- Elements are compared by the numbers that they tell.
module _ {X : Type 0} (told : X → ℕ) (close : ℕ → ℕ → Bool) where
  abbrev pub near : X → X → Bool
  near a t = close (told a) (told t)

  -- What the pass keeps in the end, from the elements that it kept so far, what the anchor tells, and the rest of the list.
  -- Where the last one kept is near the anchor, it is held, and `held` is what it tells.
  abbrev pub pass : List X → ℕ → Option ℕ → List X → List X
  pass out anchor held [] = out
  pass out anchor None (x ∷ r) = cond (close anchor (told x)) (pass (out ++ x ∷ []) anchor (Some (told x)) r) (pass (out ++ x ∷ []) (told x) None r)
  pass out anchor (Some last) (x ∷ r) =
      cond (close anchor (told x)) (pass (take (length out - 1) out ++ x ∷ []) anchor (Some (told x)) r)
      (cond (close last (told x)) (pass (out ++ x ∷ []) last (Some (told x)) r) (pass (out ++ x ∷ []) (told x) None r))

  -- enough rounds for the elements behind an anchor
  abbrev Enough : ℕ → Type 0
  Enough n = (p : List X) (c : X) (ts : List X) → length ts ≤ n → pass (p ++ c ∷ []) (told c) None ts ≡ p ++ anchored near (suc n) (c ∷ ts)

  holding : (n : ℕ) → Enough n → (p : List X) (a c : X) (r : List X) → length r ≤ n → pass (p ++ c ∷ []) (told a) (Some (told c)) r ≡ p ++ anchored near (suc n) (drop (prefix_len (near a) r) (c ∷ r))
  holding n ih p a c [] h = ap (λ l. p ++ c ∷ l) (sym (none_left near n))
  holding n ih p a c (x ∷ r) h =
      let front : take (length (p ++ c ∷ []) - 1) (p ++ c ∷ []) ≡ p = take_at p (c ∷ []) (length (p ++ c ∷ []) - 1) (simp length-append (omega arith)) in
      elim (near a x)
      as (λ b. cond b (pass (take (length (p ++ c ∷ []) - 1) (p ++ c ∷ []) ++ x ∷ []) (told a) (Some (told x)) r) (pass (p ++ c ∷ []) (told c) None (x ∷ r)) ≡ p ++ anchored near (suc n) (drop (cond b (1 + prefix_len (near a) r) 0) (c ∷ x ∷ r)))
      [ true ↦ rw (front, one-add) (holding n ih p a x r (omega arith)) | false ↦ ih p c (x ∷ r) h ]

  enough : (n : ℕ) → Enough n
  enough n p c [] h = ap (λ l. p ++ c ∷ l) (sym (none_left near n))
  enough zero p c (x ∷ r) h = absurd (omega arith)
  enough (suc n) p c (x ∷ r) h =
      let next : 1 + prefix_len (near c) r - 1 ≡ prefix_len (near c) r = omega arith in
      let p' = p ++ c ∷ [] in
      elim (near c x)
      as (λ b. cond b (pass (p' ++ x ∷ []) (told c) (Some (told x)) r) (pass (p' ++ x ∷ []) (told x) None r) ≡ p ++ c ∷ anchored near (suc n) (drop (cond b (1 + prefix_len (near c) r) 0 - 1) (x ∷ r))) [
        | true ↦ rw next (holding n (enough n) p' c x r (omega arith) ∙ append_assoc p (c ∷ []) (anchored near (suc n) (drop (prefix_len (near c) r) (x ∷ r))))
        | false ↦ enough n p' x r (omega arith) ∙ append_assoc p (c ∷ []) (anchored near (suc n) (x ∷ r))
      ]

  -- a pass that begins has kept the first element, and that is the anchor
  pub pass_begins : (a : X) (xs : List X) → Some a ≡ slice_get xs 0 → pass (take 1 xs) (told a) None (drop 1 xs) ≡ thinned near xs
  pass_begins a [] first = cc
  pass_begins a (x ∷ ts) first =
      let same : a ≡ x = cc in
      rw same (enough (length ts) [] x ts (omega arith))
