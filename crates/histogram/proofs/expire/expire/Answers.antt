use Rattle.std.proofs.Common.{◌≡◌, ◌-◌, length, take, drop, sym, ap, ◌∙◌, arith, length-drop}
use lib.Seq.{take-length}
use Rattle.std.proofs.lemmas.List.{take_rest}
use Rattle.histogram.specs.Method.{unexpired}
use Rattle.histogram.proofs.Expiry.{drop-passed, moved_up}
use Rattle.histogram.proofs.expire.expire.Goals as goal
use Rattle.histogram.proofs.expire.expire.Goals.{then-gone-gt0, else-gone-gt0}

pub returns : goal.returns
returns g c =
    let xs = c.args.slots.now in
    let gone = c.passed-gone.result in
    let n = length xs - gone in
    let rest : drop gone xs ≡ unexpired c.args.w xs = ap (λ k. drop k xs) c.passed-gone.ensures.count ∙ drop-passed c.args.w xs in
    let all : length c.if-gone-gt0.slots - gone ≡ n = omega arith in
    let front : take n c.if-gone-gt0.slots ≡ drop gone xs =
    elim c.if-gone-gt0.branch [
      | then-gone-gt0 w ↦ ap (take n) (w.slots-is ∙ w.copy_within.ensures.after) ∙ moved_up xs (length xs) gone (omega arith) ∙ ap (drop gone) (take-length xs)
      | else-gone-gt0 w ↦ let none : 0 ≡ gone = omega arith in ap (take n) (w.slots-is ∙ ap (λ k. drop k xs) none) ∙ take_rest xs gone
    ] in
    record { left = all ∙ sym (length-drop gone xs) ∙ ap length rest; kept = ap (λ k. take k c.if-gone-gt0.slots) all ∙ front ∙ rest }
