use Rattle.std.proofs.Common.{codes, arith}
use Rattle.std.proofs.lemmas.Slice.Eq.{text_from_reads}
use Rattle.preset_text.proofs.kind.KindTryFromRefSliceU8.try_from.Goals as goal

pub returns-in-energy : goal.returns-in-energy
returns-in-energy c =
    rw (text_from_reads c.args.word.now (codes "energy") (omega arith) (omega arith, (omega arith, (omega arith, (omega arith, (omega arith, (omega arith, tt)))))))

pub returns-in-notes : goal.returns-in-notes
returns-in-notes c =
    rw (text_from_reads c.args.word.now (codes "notes") (omega arith) (omega arith, (omega arith, (omega arith, (omega arith, (omega arith, tt))))))
