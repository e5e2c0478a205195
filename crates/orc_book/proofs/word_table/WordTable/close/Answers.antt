use Rattle.std.proofs.Common.{ap, arith}
use Rattle.orc_book.specs.Passes.{of_owed}
use Rattle.orc_book.proofs.Dying.{freed-words}
use Rattle.orc_book.proofs.word_table.WordTable.close.Goals as goal

pub returns-clause-held : goal.returns-clause-held
returns-clause-held g c = λ f. omega (arith, freed-words c.args.self.now.stands c.free-none.new.self.stands c.args.word c.free-none.ensures.freed f, ap (of_owed f) c.requires.bare)
