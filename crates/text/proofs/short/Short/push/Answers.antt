use Rattle.std.proofs.Common.{arith}
use Rattle.std.proofs.Math.Seq.{take-append-add}
use Rattle.std.proofs.lemmas.Grind.{common_steps}
use Rattle.std.proofs.lemmas.List.{take_min}
use Rattle.text.proofs.short.Short.push.Goals as goal

pub returns : goal.returns
returns c =
    let room = c.remaining_capacity.result in
    let bytes = c.args.bytes.now in
    grind (arith, common_steps, take_min room bytes, take-append-add c.args.self.now bytes room)
