-- An item is read from its own text, and from no other. Assumes nothing.
use Rattle.std.specs.Prelude.{◌≡◌, ℕ, zero, suc, ◌+◌, ◌^◌, ◌<◌, ◌≤◌, true, false, cond, List, ◌∷◌, ◌++◌, length, take, drop, ℤ, pos, negsuc, Some, None, decimal, Option, ◌==◌, ◌≢◌, slice_index, slice_index_or, refl}
use Rattle.std.proofs.Common.{sym, ap, subst, ◌∙◌, ⊎_elim, add-one, arith, length-append, length-take}
use Rattle.std.specs.Option.{option_map}
use Rattle.std.specs.List.{position}
use Rattle.std.specs.Fmt.{signed_decimal}
use Rattle.std.proofs.lemmas.Fmt.{decimal_nonempty, length-decimal-le, digits_decimal}
use Rattle.std.proofs.Math.Seq.{split_at}
use Rattle.std.proofs.lemmas.Option.{option_and_then_some}
use Rattle.std.proofs.lemmas.List.{get_or_past, get_or_append_left, get_or_at, take_at, drop_at, drop-drop}
use Rattle.std.proofs.lemmas.Str.Parse.{not_in_digits}
use Rattle.std.proofs.lemmas.Bool.{eqb-true, eq-eqb, ne_eqb, lt-ltb, cases_lt, cond_both}
use Rattle.std.proofs.lemmas.List.Sums.{position_or_len_is}
use Rattle.std.proofs.lemmas.List.Quantifiers.{position-Some}
use Rattle.text.specs.Decimal.{spelled}
use Rattle.text.specs.Lines.{split_once}
use Rattle.text.proofs.Lines.{splits_at_first}
use Rattle.text.proofs.Decimals.{digits_own, spelled_decimal, spelled_small, decimal_spelled}
use Rattle.statistic.specs.declared.hit.Hit.{Hit}
use Rattle.sheet.specs.Items.{negative, sample_of, SevenDigits, hit_from, hit_behind, hit_of, hit_text, ThreeDigits}

-- a byte that is not 0 stands within the text, and parts it
parted : (k c : ℕ) (t : List ℕ) → slice_index t k ≡ c → 0 < c → t ≡ take k t ++ c ∷ drop (k + 1) t
parted k c t e some =
    ⊎_elim
    (λ (h : k < length t). rw (← e, add-one) (split_at t k 0 h))
    (λ (h : length t ≤ k). absurd (omega (arith, get_or_past t k 0 h)))
    (cases_lt k (length t))

-- no digit of a number is the byte c
not_digit : (n c i : ℕ) → n < 2 ^ 64 → c < 48 → i < length (decimal n) → slice_index (decimal n) i ≢ c
not_digit n c i fits low = not_in_digits digits_own (decimal n) c (digits_decimal digits_own n fits) (λ h. omega arith) i

pub sample_only : (t : List ℕ) (z : ℤ) → sample_of t ≡ Some z → t ≡ signed_decimal z
sample_only t z =
    cond_both (slice_index t 0 == 45) _ _ (λ o. o ≡ Some z → t ≡ signed_decimal z)
    (λ s h. option_and_then_some negative (spelled 7 (drop 1 t)) z h (minus (eqb-true (slice_index t 0) 45 s)))
    (λ s. plain (spelled 7 t) refl)
  where
    minus : slice_index_or t 0 0 ≡ 45 → (n : ℕ) → spelled 7 (drop 1 t) ≡ Some n → negative n ≡ Some z → t ≡ signed_decimal z
    minus s zero p h = absurd (grind arith)
    minus s (suc n) p h =
        let same : negsuc n ≡ z = cc in
        parted 0 45 t s (omega arith) ∙ ap (λ l. 45 ∷ l) (decimal_spelled 7 (suc n) (drop 1 t) p) ∙ ap signed_decimal same

    plain : (o : Option ℕ) → spelled 7 t ≡ o → option_map pos o ≡ Some z → t ≡ signed_decimal z
    plain None p h = absurd (grind arith)
    plain (Some n) p h = let same : pos n ≡ z = cc in decimal_spelled 7 n t p ∙ ap signed_decimal same

pub sample_own : (z : ℤ) → SevenDigits z → sample_of (signed_decimal z) ≡ Some z
sample_own (pos n) few =
    let fits : n < 2 ^ 64 = omega arith in
    rw (ne_eqb (slice_index (decimal n) 0) 45 (not_digit n 45 0 fits (omega arith) (decimal_nonempty n fits)), spelled_decimal 7 n (omega arith) (omega arith) few)
sample_own (negsuc n) few = rw (spelled_decimal 7 (suc n) (omega arith) (omega arith) few)

-- a hit that is read at a comma stands in its text, and its numbers are short
hit_parts : (k : ℕ) (t : List ℕ) (h : Hit) → slice_index t k ≡ 44 → hit_behind k t ≡ Some h → (t ≡ hit_text h) × ThreeDigits h
hit_parts k t h comma e = option_and_then_some _ (spelled 3 (take k t)) h e (λ n p. go n p (spelled 3 (drop (k + 1) t)) refl)
  where
    go : (n : ℕ) → spelled 3 (take k t) ≡ Some n → (v : Option ℕ) → spelled 3 (drop (k + 1) t) ≡ v → hit_from (Some n) v ≡ Some h → (t ≡ hit_text h) × ThreeDigits h
    go n p None q e = absurd (grind arith)
    go n p (Some v) q e =
        let same : record { note = n; velocity = v } ≡ h = cc in (
          rw (← same, ← decimal_spelled 3 n (take k t) p, ← decimal_spelled 3 v (drop (k + 1) t) q) (parted k 44 t comma (omega arith)),
          subst ThreeDigits same (spelled_small 3 n (take k t) p, spelled_small 3 v (drop (k + 1) t) q),
        )

hit_both : (t : List ℕ) (h : Hit) → hit_of t ≡ Some h → (t ≡ hit_text h) × ThreeDigits h
hit_both t h = at 1 _ (at 2 _ (at 3 None (λ e. absurd (grind arith))))
  where
    at : (k : ℕ) (other : Option Hit) → (other ≡ Some h → (t ≡ hit_text h) × ThreeDigits h) → cond (slice_index t k == 44) (hit_behind k t) other ≡ Some h → (t ≡ hit_text h) × ThreeDigits h
    at k other rest = cond_both (slice_index t k == 44) (hit_behind k t) other (λ o. o ≡ Some h → (t ≡ hit_text h) × ThreeDigits h) (λ s. hit_parts k t h (eqb-true (slice_index t k) 44 s)) (λ s. rest)

-- a hit has seven bytes at most
pub no_long_hit : (t : List ℕ) → 7 < length t → None ≡ hit_of t
no_long_hit t long = go (hit_of t) refl
  where
    go : (o : Option Hit) → hit_of t ≡ o → None ≡ o
    go None e = refl
    go (Some h) e =
        let is = hit_both t h e in
        let note = length-decimal-le 3 h.note (omega arith) is.1.0 (omega arith) in
        let velocity = length-decimal-le 3 h.velocity (omega arith) is.1.1 (omega arith) in
        absurd (omega (arith, simp length-append at (ap length is.0)))

pub hit_only : (t : List ℕ) (h : Hit) → hit_of t ≡ Some h → t ≡ hit_text h
hit_only t h e = (hit_both t h e).0

module _ (h : Hit) (few : ThreeDigits h) where
  fits : h.note < 2 ^ 64
  fits = omega arith

  comma : (k : ℕ) → length (decimal h.note) ≡ k → (slice_index (hit_text h) k == 44) ≡ true
  comma k e = eq-eqb _ 44 (get_or_at (decimal h.note) 44 (decimal h.velocity) 0 k e)

  no_comma : (i : ℕ) → i < length (decimal h.note) → (slice_index (hit_text h) i == 44) ≡ false
  no_comma i low =
      ne_eqb (slice_index (hit_text h) i) 44
      (λ e. not_digit h.note 44 i fits (omega arith) low (sym (get_or_append_left (decimal h.note) (44 ∷ decimal h.velocity) 0 i low) ∙ e))

  read_behind : (k : ℕ) → length (decimal h.note) ≡ k → hit_behind k (hit_text h) ≡ Some h
  read_behind k e =
      let back = 44 ∷ decimal h.velocity in
      rw (
        take_at (decimal h.note) back k e,
        ← drop-drop 1 k (hit_text h),
        drop_at (decimal h.note) back k e,
        spelled_decimal 3 h.note (omega arith) (omega arith) few.0,
        spelled_decimal 3 h.velocity (omega arith) (omega arith) few.1,
      )

  by_length : (k : ℕ) → length (decimal h.note) ≡ k → 1 ≤ k → k ≤ 3 → hit_of (hit_text h) ≡ Some h
  by_length zero e some most = absurd (omega arith)
  by_length (suc zero) e some most = rw (comma 1 e) (read_behind 1 e)
  by_length (suc (suc zero)) e some most = rw (no_comma 1 (omega arith), comma 2 e) (read_behind 2 e)
  by_length (suc (suc (suc zero))) e some most = rw (no_comma 1 (omega arith), no_comma 2 (omega arith), comma 3 e) (read_behind 3 e)
  by_length (suc (suc (suc (suc k)))) e some most = absurd (omega arith)

  pub hit_own : hit_of (hit_text h) ≡ Some h
  hit_own = by_length (length (decimal h.note)) refl (decimal_nonempty h.note fits) (length-decimal-le 3 h.note (omega arith) few.0 fits)

  first_comma : position (λ b. b == 44) (hit_text h) ≡ Some (length (decimal h.note))
  first_comma =
      let t = hit_text h in
      let n = length (decimal h.note) in
      let within : n < length t = simp length-append (omega arith) in
      rw (position_or_len_is (λ b. b == 44) t n 0 (omega arith) no_comma (λ _. comma n refl), lt-ltb n (length t) within)

-- A text is a hit as it is one at its first comma, wherever that stands: behind no byte or too many, it is none.
pub hit_at_comma : (t : List ℕ) (k : ℕ) → Some k ≡ position (λ b. b == 44) t → hit_behind k t ≡ hit_of t
hit_at_comma t k at = go (hit_behind k t) refl (hit_of t) refl
  where
    go : (o : Option Hit) → hit_behind k t ≡ o → (p : Option Hit) → hit_of t ≡ p → o ≡ p
    go None e None f = refl
    go (Some h) e p f =
        let is = hit_parts k t h (eqb-true (slice_index t k) 44 (position-Some (λ b. b == 44) t k 0 (sym at)).1) e in
        sym (ap hit_of is.0 ∙ hit_own h is.1) ∙ f
    go None e (Some h) f =
        let is = hit_both t h f in
        let same : Some k ≡ Some (length (decimal h.note)) = at ∙ ap (position (λ b. b == 44)) is.0 ∙ first_comma h is.1 in
        sym e ∙ ap (hit_behind k) is.0 ∙ read_behind h is.1 k (cc)

-- the same of the two parts of a text that is split at its first comma
pub hit_at_split : (t a b : List ℕ) → Some (a, b) ≡ split_once t 44 → hit_from (spelled 3 a) (spelled 3 b) ≡ hit_of t
hit_at_split t a b is = go (position (λ b. b == 44) t) refl
  where
    go : (o : Option ℕ) → o ≡ position (λ b. b == 44) t → hit_from (spelled 3 a) (spelled 3 b) ≡ hit_of t
    go None e = absurd (grind (arith, splits_at_first t 44))
    go (Some k) e = grind (arith, splits_at_first t 44, hit_at_comma t k e)

-- the second part stands behind the first and the comma
pub behind_comma : (t a b : List ℕ) (k : ℕ) → Some (a, b) ≡ split_once t 44 → length a + 1 ≡ k → drop k t ≡ b
behind_comma t a b k is e = go (position (λ b. b == 44) t) refl
  where
    go : (o : Option ℕ) → o ≡ position (λ b. b == 44) t → drop k t ≡ b
    go None p = absurd (grind (arith, splits_at_first t 44))
    go (Some i) p = let at = position-Some (λ b. b == 44) t i 0 (sym p) in grind (arith, splits_at_first t 44, length-take {A = ℕ})
