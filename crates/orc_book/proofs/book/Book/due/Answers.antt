use Rattle.orc_book.proofs.book.Book.due.Goals as goal

pub returns-clause-due : goal.returns-clause-due
returns-clause-due g c = rw (← c.self.view_is) c.due.ensures.due
