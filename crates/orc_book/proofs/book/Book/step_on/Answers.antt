use Rattle.std.proofs.Common.{[], ◌∷◌, ap}
use Rattle.orc_ledger_spec.specs.declared.results.Moved.TheVariants as moved
use Rattle.orc_book.proofs.book.Book.step_on.Goals as goal

pub returns-in-Ok-clause-done : goal.returns-in-Ok-clause-done
returns-in-Ok-clause-done g c = let d = c.in-Ok.ensures.done in (d.0, moved.On, d.1, c.in-Ok.born ∷ [], d.2, d.3, c.push_reserved.ensures.items, ap (λ z. z ∷ []) c.in-Ok.ensures.same.0)

pub returns-in-Ok-clause-come : goal.returns-in-Ok-clause-come
returns-in-Ok-clause-come g c = (c.in-Ok.born ∷ [], c.push_reserved.ensures.items, ap (λ z. z ∷ []) c.in-Ok.ensures.same.1)
