-- What sound slots read, and how many they are. From the laws of a statistic.
use Rattle.std.proofs.Common.{◌≡◌, ℕ, ◌+◌, ◌-◌, ◌*◌, ◌<◌, ◌≤◌, eqb, List, [], ◌∷◌, length, drop, sym, ap, ◌∙◌, inl, inr, mul-le-mul_right, arith}
use Rattle.std.proofs.lemmas.List.{drop_all}
use Rattle.std.proofs.lemmas.Bool.{cond_both, eqb-true, eqb-false, eq-eqb}
use Rattle.statistic.specs.Model.{Model, Admitted, Laws, IsLoss}
use Rattle.histogram.specs.declared.slot.Slot.{Slot}
use Rattle.histogram.specs.Kept.{last_of, Encloses, LossKept}
use Rattle.histogram.specs.Method.{window_start, told, reading_of}
use Rattle.histogram.specs.Stands.{from, StandsFor}
use Rattle.histogram.proofs.Chains.{Linked, last_by}
use Rattle.histogram.proofs.Soundness.{start_of, Follows, Sound}
use Rattle.histogram.proofs.Suffixes.{falls, tells, stays_close}

module _ {I S : Type 0} (m : Model I S) (window loss : ℕ) (items : List I) where
  -- starts rise, so from a slot on there are no more slots than positions
  rising : (s : Slot S) (ts : List (Slot S)) → Linked (Follows m loss items) (s ∷ ts) → s.start + length ts ≤ last_by start_of (s ∷ ts)
  rising s [] h = omega arith
  rising s (t ∷ ts) h = omega (arith, rising t ts h.1, h.0.0)

  pub few : 1 ≤ window → (slots : List (Slot S)) → Sound m loss items (window_start window (length items)) slots → length slots ≤ window
  few some [] sound = omega arith
  few some (s ∷ []) sound = some
  few some (s ∷ t ∷ ts) sound = omega (arith, rising t ts sound.linked.1, sound.newest, sound.window.1)

  -- the reading does what it is for
  abbrev pub Serves : ℕ × ℕ → Type 0
  Serves reading = Encloses m window items reading × LossKept loss reading

  exact : (v : ℕ) → v ≡ m.f (last_of window items) → Serves (v, v)
  exact v is = ((omega arith, omega arith), mul-le-mul_right v (omega arith))

  abbrev w : ℕ
  w = window_start window (length items)

  in_window : from m w items ≡ last_of window items
  in_window = ap (λ n. drop n items) (omega arith)

  module _ (laws : Laws m) (is_loss : IsLoss loss) where
    -- a slot that starts with the window tells what is asked for
    starts_there : (s : Slot S) → Admitted m items → StandsFor m items s → s.start ≡ w → Serves (told m s, told m s)
    starts_there s held p there = exact (told m s) (tells m laws items held s p ∙ ap (λ n. m.f (from m n items)) there ∙ ap m.f in_window)

    -- neighbours that do not start one right after the other were close, and so keep the loss
    keep_loss : (s t : Slot S) → Admitted m items → s.start + 1 < t.start → Follows m loss items s t
        → (1000 - loss) * m.f (from m s.start items) ≤ 1000 * m.f (from m t.start items)
    keep_loss s t held apart (later, inl next) = absurd (omega arith)
    keep_loss s t held apart (later, inr (n, seen, within, were)) =
        stays_close m laws items held loss is_loss s.start t.start n (omega arith) seen within were

    -- the window starts between two neighbours
    between : (s t : Slot S) → Admitted m items → StandsFor m items s → StandsFor m items t → s.start < w → w < t.start → Follows m loss items s t
        → Serves (told m t, told m s)
    between s t held p q before after follows =
        let low : m.f (from m t.start items) ≤ m.f (from m w items) = falls m laws items held w t.start (omega arith) in
        let high : m.f (from m w items) ≤ m.f (from m s.start items) = falls m laws items held s.start w (omega arith) in
        let apart : s.start + 1 < t.start = omega arith in
        rw (tells m laws items held s p, tells m laws items held t q)
        ((rw in_window at low, rw in_window at high), keep_loss s t held apart follows)

    pub reading_serves : 1 ≤ window → (slots : List (Slot S)) → Sound m loss items w slots → Serves (reading_of m w slots)
    reading_serves some [] sound =
        let none : length items ≤ length items - window = omega (arith, sound.newest) in
        exact 0 (sym laws.empty_is_nought ∙ ap m.f (sym (drop_all (length items - window) items none)))
    reading_serves some (s ∷ []) sound =
        let there : s.start ≡ w = omega (arith, sound.window, sound.newest, sound.stands.1.0.0) in
        rw (eq-eqb s.start w there) (starts_there s sound.stands.0 sound.stands.1.0 there)
    reading_serves some (s ∷ t ∷ ts) sound =
        let (held, (p, (q, _))) = sound.stands in
        cond_both (eqb s.start w) (told m s, told m s) (told m t, told m s) Serves
        (λ there. starts_there s held p (eqb-true s.start w there))
        (λ apart. between s t held p q (omega (arith, eqb-false s.start w apart, sound.window)) sound.window.1 sound.linked.0)
