-- A take, as the method sees it: what a running meter is to its caller. A reader must believe that these definitions say
-- what the calls of a running meter answer and leave.
use Rattle.std.specs.Prelude.{◌≡◌, ℕ, ◌+◌, ◌^◌, cond, List, [], ◌∷◌, ◌++◌, length, take, Some, None, Ok, Err, Option, Result, nat_lt}
use Rattle.refusal.specs.declared.Refusal.{Refusal}
use Rattle.refusal.specs.declared.Refusal.TheVariants.{ItemNotAdmitted, TakeAtLastPosition, NoFreeSlot}
use Rattle.statistic.specs.Model.{Model}
use Rattle.histogram.specs.declared.slot.Slot.{Slot}
use Rattle.histogram.specs.Method.{window_start, fed, reading_of}
use Rattle.histogram.specs.Stands.{Stands}
use Rattle.meter.specs.declared.Running.{Running}

pub record Take (S : Type 0) : Type 0 where
  -- how many slots the meter was given
  pub given : ℕ
  -- the window and the loss, as at the start of the take
  pub window : ℕ
  pub loss : ℕ
  -- the position: how many items the take has accepted
  pub now : ℕ
  -- the kept slots, oldest first
  pub kept : List (Slot S)

-- a running meter as a take
abbrev pub view : {T I S : Type 0} → Running T I S → Take S
view r = record { given = length r.slots.now; window = r.preset.window; loss = r.preset.loss; now = r.now; kept = take r.kept r.slots.now }

-- a take that begins, over so many slots, with a window and a loss
abbrev pub begun : {S : Type 0} → ℕ → ℕ × ℕ → Take S
begun given (window, loss) = record { given = given; window = window; loss = loss; now = 0; kept = [] }

-- the answer of a call that is refused or not
abbrev pub answer : {A : Type 0} → Option Refusal → A → Result A Refusal
answer None a = Ok a
answer (Some e) a = Err e

-- what a call leaves: the new where it is not refused, else the old
abbrev pub unless : {A : Type 0} → Option Refusal → A → A → A
unless None new old = new
unless (Some e) new old = old

module _ {I S : Type 0} (m : Model I S) where
  -- Why a feed of x is refused, if it is. The questions in their order: is the item admitted, is the take below its last
  -- position, is a slot free?
  abbrev pub refused : Take S → I → Option Refusal
  refused t x =
      cond (m.admits x)
      (cond (nat_lt t.now (2 ^ 40)) (cond (nat_lt (length t.kept) t.given) None (Some NoFreeSlot)) (Some TakeAtLastPosition))
      (Some ItemNotAdmitted)

  -- the take once x is accepted
  abbrev pub accepted : Take S → I → Take S
  accepted t x =
      let next = t.now + 1 in
      record { given = t.given; window = t.window; loss = t.loss; now = next; kept = fed m x next (window_start t.window next) t.loss t.kept }

  -- what a feed answers: the position of the item, or the refusal
  abbrev pub feed_answer : Take S → I → Result ℕ Refusal
  feed_answer t x = answer (refused t x) (t.now + 1)

  -- the take after a feed: a refused one leaves it as it was
  abbrev pub after_feed : Take S → I → Take S
  after_feed t x = unless (refused t x) (accepted t x) t

  -- the reading, low and high
  abbrev pub read : Take S → ℕ × ℕ
  read t = reading_of m (window_start t.window t.now) t.kept

  -- The take has accepted these items, oldest first, and each kept slot's state stands for those from its start to now.
  abbrev pub Takes : List I → Take S → Type 0
  Takes items t = (t.now ≡ length items) × Stands m items t.kept

-- the items that a take has accepted once a feed of x was answered
abbrev pub items_after : {I : Type 0} → List I → I → Result ℕ Refusal → List I
items_after items x (Ok position) = items ++ x ∷ []
items_after items x (Err e) = items
