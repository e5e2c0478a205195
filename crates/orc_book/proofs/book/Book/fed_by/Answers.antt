use Rattle.orc_book.proofs.Causes.{sent-whole, sent-aiding}
use Rattle.orc_book.proofs.book.Book.fed_by.Goals as goal

pub unreachable-requires : goal.unreachable-requires
unreachable-requires g c = sent-whole g.P.Run.listing c.self.inside.ledger c.args.its c.args.value (rw (← c.self.view_is) at c.requires.next) c.in-Whole.ensures.takes

pub unreachable-requires-in-PruneRight : goal.unreachable-requires-in-PruneRight
unreachable-requires-in-PruneRight g c = sent-aiding g.P.Run.listing c.self.inside.ledger c.args.its c.args.value c.in-PruneRight.field-0 _ (rw (← c.self.view_is) at c.requires.next) c.in-PruneRight.ensures.takes
