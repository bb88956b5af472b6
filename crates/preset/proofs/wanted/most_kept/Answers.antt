use Rattle.std.proofs.Common.{arith}
use Rattle.preset.proofs.Falls.{fall_lowers, steps_fall, steps_count}
use Rattle.preset.proofs.wanted.most_kept.Goals as goal

pub loop-v-preserved : goal.loop-v-preserved
loop-v-preserved c =
    let low = fall_lowers c.args.cut c.requires.0 c.loop-v.v c.loop-v-test.true in
    let one = steps_fall c.args.cut c.requires.0 c.loop-v.v c.loop-v-test.true in
    omega arith

pub returns-clause-count : goal.returns-clause-count
returns-clause-count c = steps_count c.args.cut c.requires.0 c.args.top
