use Rattle.std.proofs.Common.{[], ◌∷◌, ap}
use Rattle.orc_ledger_spec.specs.declared.results.Moved.TheVariants as moved
use Rattle.orc_book.proofs.Added.{two-added, two-born, two-come}
use Rattle.orc_book.proofs.book.Book.step_fork.Goals as goal

pub returns-in-Ok-clause-born : goal.returns-in-Ok-clause-born
returns-in-Ok-clause-born g c = two-born _ _ _ c.in-Ok.one c.in-Ok.two c.fork_found.new.self c.push_reserved.ensures.items c.push_reserved-in-Ok.ensures.items c.in-Ok.ensures.born.0 c.in-Ok.ensures.born.1

pub returns-in-Ok-clause-done : goal.returns-in-Ok-clause-done
returns-in-Ok-clause-done g c = let d = c.in-Ok.ensures.done in (d.0, moved.Forked c.in-Ok.two.slot, d.1, c.in-Ok.one ∷ c.in-Ok.two ∷ [], d.2, d.3, two-added _ _ _ c.in-Ok.one c.in-Ok.two c.push_reserved.ensures.items c.push_reserved-in-Ok.ensures.items, ap (λ z. z ∷ c.in-Ok.two.slot ∷ []) c.in-Ok.ensures.same.0)

pub returns-in-Ok-clause-same : goal.returns-in-Ok-clause-same
returns-in-Ok-clause-same g c = (c.in-Some.same, c.in-Some.ensures.pass.1, two-come _ _ _ c.in-Ok.one c.in-Ok.two _ _ c.push_reserved.ensures.items c.push_reserved-in-Ok.ensures.items c.in-Ok.ensures.same.1 c.in-Ok.ensures.same.2)
