use Rattle.std.proofs.Common.{◌≡◌, rules, arith}
use borrow.Author.Tests.{tests}
use Rattle.std.specs.Prelude.{position, ◌==◌}
use Rattle.std.proofs.lemmas.Grind.{common_steps}
use Rattle.std.proofs.lemmas.Iterator.{YieldsList-from_slice}
use Rattle.std.proofs.lemmas.Iterator.Search.{position_from_yields_List}
use Rattle.text.proofs.Lines.{splits_at_first}
use Rattle.text.proofs.line.split_once.Goals as goal
use Rattle.text.proofs.line.split_once.Goals.{After-position}

-- `position` is the library's word of that name
first : (c : After-position) → c.position.result ≡ position (λ b. b == c.args.at) c.args.text.now
first c =
    position_from_yields_List (λ b. b == c.args.at) _ _ _ c.position.ensures.ran (YieldsList-from_slice c.args.text.now (cc)) (λ x b q k. search (rules, tests))

pub returns-in_err-end : goal.returns-in_err-end
returns-in_err-end c = let is = first (goal.at.returns-in_err-end c).After-position in grind (arith, splits_at_first c.args.text.now c.args.at)

pub returns : goal.returns
returns c = let is = first (goal.at.returns c).After-position in grind (arith, common_steps, splits_at_first c.args.text.now c.args.at)
