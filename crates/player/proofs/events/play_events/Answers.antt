use Rattle.std.proofs.Common.{◌≡◌, List, ℕ, Some, None, Option, [], ◌++◌, length, vec_items, refl, sym, ap, ◌∙◌, append-nil, le_trans, arith, length-append}
use Rattle.std.proofs.lemmas.Result.{err_from_is_err_and}
use Rattle.std.specs.Option.{option_map_or}
use Rattle.preset.specs.Questions.{view as numbers}
use Rattle.meter.specs.Take.{view}
use Rattle.sheet.specs.declared.answer.Answer.{Answer}
use Rattle.sheet.specs.Answers.{said}
use Rattle.player.specs.Sheet.{text_plays, take_prints}
use Rattle.player.proofs.LineByLine.{shorter, goes_on, stops, breaks_off}
use Rattle.player.proofs.Printing.{carried}
use Rattle.player.proofs.events.play_events.Given as given
use Rattle.player.proofs.events.play_events.Goals as goal
use Rattle.player.proofs.events.play_events.Goals.{After-play_event-next}

-- what is left to play behind an event, once its answer is printed
answered : (g : given.Over) (c : After-play_event-next g) (a : Option Answer) (printed : List ℕ) → c.play_event-next.result.answer ≡ a → printed ≡ vec_items c.loop-line.out ++ option_map_or said a [] → printed ++ text_plays g.T.Statistic.model g.T.Item.ItemText.meant (view c.play_event-next.result.meter) c.in-Some.rest.now ≡ vec_items c.args.out.now ++ take_prints g.T.Statistic.model g.T.Item.ItemText.meant (length c.args.slots.now) (numbers c.args.preset) c.args.events.now
answered g c a printed is prints =
    goes_on g.T.Statistic.model g.T.Item.ItemText.meant (view c.loop-line.meter) (vec_items c.loop-line.out) _ c.loop-line.events.now c.loop-line.invariant.0 c.in-Some.line.now c.in-Some.rest.now printed
    c.in-Some-read_event.event a (view c.play_event-next.result.meter) c.in-Some.ensures c.in-Some-read_event.ensures (sym is ∙ c.play_event-next.ensures.answer) c.play_event-next.ensures.after prints

pub returns-in_default-read_event : goal.returns-in_default-read_event
returns-in_default-read_event g c =
    carried c.say.result c.args.out.now c.loop-line.out c.say.new.out _ _ c.loop-line.invariant.1
    (stops g.T.Statistic.model g.T.Item.ItemText.meant (view c.loop-line.meter) _ _ c.loop-line.events.now c.loop-line.invariant.0
    c.in-Some.line.now c.in-Some.rest.now c.in-Some.ensures c.in_default-read_event.ensures)
    c.say.ensures

pub loop-line-smaller : goal.loop-line-smaller
loop-line-smaller g c = shorter _ _ _ c.in-Some.ensures

pub loop-line-smaller-in_ok-say : goal.loop-line-smaller-in_ok-say
loop-line-smaller-in_ok-say g c = shorter _ _ _ c.in-Some.ensures

pub loop-line-preserved : goal.loop-line-preserved
loop-line-preserved g c = (
  answered g (goal.at.loop-line-preserved g c).After-play_event-next None _ c.in_default-answer.is (sym (append-nil _)),
  c.loop-line.invariant.1,
)

pub loop-line-preserved-in_ok-say : goal.loop-line-preserved-in_ok-say
loop-line-preserved-in_ok-say g c =
    let printed = c.in_ok-say.ensures in (
      answered g (goal.at.loop-line-preserved-in_ok-say g c).After-play_event-next (Some c.in-Some-answer.answer) _ c.in-Some-answer.is printed.0,
      le_trans c.loop-line.invariant.1 printed.1,
    )

pub returns-in_err-say : goal.returns-in_err-say
returns-in_err-say g c =
    let p = err_from_is_err_and c.from_residual.result c.from_residual.ensures.1 in
    let whole = answered g (goal.at.returns-in_err-say g c).After-play_event-next (Some c.in-Some-answer.answer) _ c.in-Some-answer.is refl in
    rw p.1 (omega (arith, c.in_err-say.ensures, c.loop-line.invariant.1, ap length whole, length-append (vec_items c.loop-line.out ++ said c.in-Some-answer.answer) (text_plays g.T.Statistic.model g.T.Item.ItemText.meant (view c.play_event-next.result.meter) c.in-Some.rest.now)))

pub returns : goal.returns
returns g c =
    carried c.say-else-is_empty.result c.args.out.now c.loop-line.out c.say-else-is_empty.new.out _ _ c.loop-line.invariant.1
    (breaks_off g.T.Statistic.model g.T.Item.ItemText.meant (view c.loop-line.meter) _ _ c.loop-line.events.now c.loop-line.invariant.0 c.in_default.ensures c.if-is_empty.ensures)
    c.say-else-is_empty.ensures
