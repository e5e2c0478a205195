use Rattle.std.proofs.Common.{[], refl, sym, append-nil}
use Rattle.orc_ledger_spec.specs.declared.results.Moved.TheVariants as moved
use Rattle.orc_book.proofs.book.Book.step_end.Goals as goal

pub returns-in-Ok-clause-done : goal.returns-in-Ok-clause-done
returns-in-Ok-clause-done g c = let d = c.in-Ok.ensures.done in (d.0, moved.Gone d.1, d.2, [], d.3, d.4, sym (append-nil _), refl)
