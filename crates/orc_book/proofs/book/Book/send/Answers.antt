use Rattle.std.proofs.Common.{ap}
use Rattle.orc_book.proofs.Added.{none-left}
use Rattle.orc_book.proofs.book.Book.send.Goals as goal

pub returns-then-round-found-clause-leave : goal.returns-then-round-found-clause-leave
returns-then-round-found-clause-leave g c = none-left c.send_within.result _ _ (ap (λ z. z.items) c.send_within.ensures.leave)
