use Rattle.std.proofs.Common.{◌≡◌, ℕ, List, subst, refl, ◌∙◌, arith, lit<, rules}
use borrow.Author.Tests.{tests}
use Rattle.std.proofs.lemmas.Fn.{slice_gives, fronts}
use Rattle.text.proofs.Decimals.{with_digit, reads_on}
use Rattle.text.proofs.Tried.{try_each, tried}
use Rattle.text.proofs.number.value.Goals as goal

pub returns : goal.returns
returns c =
    let ran = c.try_fold.ensures.ran in
    let ends = tried fronts (λ d. d.now) _ _ with_digit (λ n d r f' k. search (rules, tests)) _ _ _ _ _ ran.0 ran.1 _ ran.2 0 ran.3 c.try_fold.result refl (slice_gives c.iter.result) ran.4.1 ran.4.2 ran.5 ran.6 in
    λ few. subst (λ (ds : List ℕ). c.try_fold.result ≡ try_each with_digit 0 ds) c.iter.ensures.rest ends ∙ reads_on c.args.digits.now 0 0 (lit< tt) (omega arith)
