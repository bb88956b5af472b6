use Rattle.preset_text.proofs.Written.{wrote}
use Rattle.preset_text.proofs.writing.write.Goals as goal

pub returns : goal.returns
returns c = wrote c.args.setup.now _ _ _ _ c.spell.ensures c.write_to.ensures.answer c.write_to.ensures.after
