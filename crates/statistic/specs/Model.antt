-- What a statistic is, and the laws that it keeps. The meter is proved against this file alone, so a reader must believe
-- that `Laws` says what a statistic is meant to keep: no law more, no law fewer.
--
-- Lists of items run from the oldest item to the newest. All laws but `turned_down` speak of admitted items only.
use Rattle.std.specs.Prelude.{◌≡◌, ℕ, ◌-◌, ◌*◌, ◌^◌, ◌<◌, ◌≤◌, Bool, true, false, List, [], ◌∷◌, ◌++◌}

-- A statistic over items I with states S.
pub record Model (I S : Type 0) : Type 0 where
  -- the test: does the statistic take this item?
  pub admits : I → Bool
  -- the meaning: a whole number for a list of items
  pub f : List I → ℕ
  -- the one record that stands for a list of items
  pub state : List I → S
  -- the record after one more item
  pub add : S → I → S
  -- the number that a record tells
  pub value : S → ℕ
  -- a number that f never passes
  pub top : ℕ
  -- for a loss, the fraction b / d by which slots are pruned, as the pair (b, d)
  pub cut : ℕ → ℕ × ℕ

-- every item of the list passes the test
abbrev pub Admitted : {I S : Type 0} → Model I S → List I → Type 0
Admitted m [] = Unit {0}
Admitted m (x ∷ xs) = (m.admits x ≡ true) × Admitted m xs

-- a loss, in thousandths
abbrev pub IsLoss : ℕ → Type 0
IsLoss loss = (1 ≤ loss) × (loss ≤ 999)

-- The cut (b, d) of a loss fits: it is a proper fraction, no larger than the loss, and the top times d stays below 2^63.
abbrev pub CutFits : ℕ → ℕ → ℕ × ℕ → Type 0
CutFits top loss (b, d) = (0 < b) × (b < d) × (1000 * b ≤ loss * d) × (top * d < 2 ^ 63)

-- f of a newer part is near f of the whole: it falls short by at most the fraction b / d.
abbrev pub Close : ℕ × ℕ → ℕ → ℕ → Type 0
Close (b, d) newer whole = (d - b) * whole ≤ d * newer

pub record Laws {I S : Type 0} (m : Model I S) : Type 0 where
  -- the state of a list, with an item added, is the state of the list that ends with that item
  pub adding : (A : List I) (x : I) → Admitted m (A ++ x ∷ []) → m.add (m.state A) x ≡ m.state (A ++ x ∷ [])
  -- an item that fails the test alters no record
  pub turned_down : (s : S) (x : I) → m.admits x ≡ false → m.add s x ≡ s
  -- the state of a list has the value f of it
  pub valuing : (A : List I) → Admitted m A → m.value (m.state A) ≡ m.f A
  pub empty_is_nought : m.f [] ≡ 0
  pub oldest_out_never_raises : (x : I) (A : List I) → Admitted m (x ∷ A) → m.f A ≤ m.f (x ∷ A)
  pub newest_in_never_lowers : (A : List I) (x : I) → Admitted m (A ++ x ∷ []) → m.f A ≤ m.f (A ++ x ∷ [])
  pub below_top : (A : List I) → Admitted m A → m.f A ≤ m.top
  pub cut_fits : (loss : ℕ) → IsLoss loss → CutFits m.top loss (m.cut loss)
  -- once a suffix B is close to X ++ B, it keeps the loss whatever comes after
  pub smooth : (loss : ℕ) → IsLoss loss → (X B C : List I) → Admitted m ((X ++ B) ++ C) → Close (m.cut loss) (m.f B) (m.f (X ++ B)) → (1000 - loss) * m.f ((X ++ B) ++ C) ≤ 1000 * m.f (B ++ C)
