use Rattle.std.specs.Io.KnownBytes.{Keeps}
use Rattle.orc_journal_text.proofs.pieces.read_some.Given as goal

abbrev pub invariant-loop : goal.invariant-loop
invariant-loop g l = Keeps (g.R.Read.remaining l.initial.source) (g.R.Read.remaining l.source)
