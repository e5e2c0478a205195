use Rattle.std.proofs.KnownBytes.{Keeps-refl, Keeps-trans}
use Rattle.orc_journal_text.proofs.Coming.{keeps_consumes}
use Rattle.orc_journal_text.proofs.pieces.read_some.Goals as goal

pub loop-init : goal.loop-init
loop-init g c = Keeps-refl _

pub loop-preserved : goal.loop-preserved
loop-preserved g c = Keeps-trans _ _ _ c.loop.invariant c.in-Err.ensures.bytes

pub returns-in-Ok-clause-bytes : goal.returns-in-Ok-clause-bytes
returns-in-Ok-clause-bytes g c = keeps_consumes _ _ _ _ c.loop.invariant c.in-Ok.ensures.bytes.0
