use Rattle.std.proofs.Common.{arith}
use Rattle.preset_text.proofs.Accepted.{headed_by}
use Rattle.preset_text.proofs.header.read_header.Goals as goal

pub returns : goal.returns
returns c = headed_by _ _ (grind (arith, c.in_ok-lines.ensures, c.in_ok-setup.ensures))
