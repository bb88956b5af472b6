-- What `try_fold` gives for a list and a closure that each call leaves as it was: its steps one by one, up to the first None.
use Rattle.std.proofs.Common.{◌≡◌, List, [], ◌∷◌, Some, None, Option, sym, ap, ap₂, ◌∙◌, subst, MatchOption}
use denote.Param.Members.{Mut}
use Rattle.std.specs.Fn.{Called}
use Rattle.std.specs.Iterator.{AlwaysYields, Yields}
use Rattle.std.specs.List.{FoldsTo}
use Rattle.std.specs.Option.{option_and_then}

abbrev pub try_each : {B C : Type 0} → (C → B → Option C) → C → List B → Option C
try_each next c [] = Some c
try_each next c (y ∷ ys) = option_and_then (λ b. try_each next b ys) (next c y)

module _ {S A B C F : Type 0} (steps : S → Option A → S → Type 0) (v : A → B) (g : Mut F (C × (A × Unit {0})) (Option C)) (f : F) (next : C → B → Option C)
    (call : (c : C) (x : A) (r : Option C) (f' : F) → Called g f (c, (x, tt)) r f' → (f' ≡ f) × (r ≡ next c (v x))) where
  at : (q q' : F) (c : C) (x : A) (r : Option C) → q ≡ f → Called g q (c, (x, tt)) r q' → (q' ≡ f) × (r ≡ next c (v x))
  at q q' c x r e k = call c x r q' (subst (λ (p : F). Called g p (c, (x, tt)) r q') e k)

  pub tried : (E : Type 0) (ys : List B) (s t u : S) (xs : List A) (o : Option A) (q q' : F) (c b : C) (r : Option C) → q ≡ f → AlwaysYields steps v s ys → Yields steps s xs t → steps t o u
      → FoldsTo {P = F × C} (λ p x p'. (w : Option C) × Called g p.0 (p.1, (x, tt)) w p'.0 × (w ≡ Some p'.1)) (q, c) xs (q', b)
      → MatchOption o (r ≡ Some b) (λ x. (w : Option C) × (h : F) × (e : E) × Called g q' (b, (x, tt)) w h × (w ≡ None) × (r ≡ None))
      → r ≡ try_each next c ys
  tried E [] s t u [] None q q' c b r same from y st turns m = m ∙ ap (λ (p : F × C). Some p.1) (sym turns)
  tried E [] s t u [] (Some x) q q' c b r same from y st turns m = absurd (from x u (subst (λ z. steps z (Some x) u) (sym y) st))
  tried E [] s t u (x ∷ xs) o q q' c b r same from y st turns m = absurd (from x y.0 y.1)
  tried E (z ∷ ys) s t u [] None q q' c b r same from y st turns m = absurd (from.0 u (subst (λ w. steps w None u) (sym y) st))
  tried E (z ∷ ys) s t u [] (Some x) q q' c b r same from y st turns m =
      let is = (from.1 x u (subst (λ w. steps w (Some x) u) (sym y) st)).0 in
      let told = at q' m.1 b x m.0 (sym (ap (λ (p : F × C). p.0) turns) ∙ same) m.3 in
      let none : next c z ≡ None = ap₂ next (ap (λ (p : F × C). p.1) turns) (sym is) ∙ (sym told.1 ∙ m.4) in
      m.5 ∙ ap (option_and_then (λ b. try_each next b ys)) (sym none)
  tried E (z ∷ ys) s t u (x ∷ xs) o q q' c b r same from y st turns m =
      let more = from.1 x y.0 y.1 in
      let told = at q turns.0.0 c x turns.1.0 same turns.1.1 in
      let goes : next c z ≡ Some turns.0.1 = ap (next c) (sym more.0) ∙ (sym told.1 ∙ turns.1.2) in
      tried E ys y.0 t u xs o turns.0.0 q' turns.0.1 b r told.0 more.1 y.2 st turns.2 m
      ∙ ap (option_and_then (λ b. try_each next b ys)) (sym goes)
