-- The lines of the entries so far are written but for the piece, and each has one.
use Rattle.std.proofs.Common.{take}
use Rattle.orc_journal.specs.declared.journal.Version.TheVariants.{Two}
use Rattle.orc_journal_text.specs.Texts.{AreOf}
use Rattle.orc_output.proofs.Parted.{IsPart}
use Rattle.orc_output.proofs.pieces.write_journal.Given as goal

abbrev pub invariant-loop-at : goal.invariant-loop-at
invariant-loop-at g l = IsPart l.answers.names l.journal (g.W.Write.contents l.initial.out) (g.W.Write.contents l.out) l.piece.items l.at × AreOf l.answers.names Two (take l.at l.journal.entries)
