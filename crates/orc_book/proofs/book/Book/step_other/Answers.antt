use Rattle.std.proofs.Common.{[], ◌∷◌, ap, refl, sym, ◌∙◌, inr}
use Rattle.orc_ledger_spec.specs.declared.results.Moved.TheVariants as moved
use Rattle.orc_book.specs.Refusals.{is_opening, is_other}
use Rattle.orc_book.proofs.Causes.{opening-step, other-opens}
use Rattle.orc_book.proofs.book.Book.step_other.Goals as goal

pub returns-in-Err-clause-why : goal.returns-in-Err-clause-why
returns-in-Err-clause-why g c = opening-step g.P.Run.listing c.args.self.now c.args.token g.P.Naming.table.words c.args.births.now.same.items c.args.births.now.idle.items is_other other-opens _ (c.requires.found.found, ap is_other (sym c.requires.found.what ∙ c.requires.next)) _ c.in-Err.ensures.why

pub returns-in-Ok-clause-done : goal.returns-in-Ok-clause-done
returns-in-Ok-clause-done g c = let d = c.in-Ok.ensures.done in (d.0, moved.On, d.1, c.in-Ok.born ∷ [], d.2, d.3, c.push_reserved.ensures.items, ap (λ z. z ∷ []) c.in-Ok.ensures.same)

pub returns-in-Ok-clause-come : goal.returns-in-Ok-clause-come
returns-in-Ok-clause-come g c = (c.in-Ok.born.pass, (c.in-Ok.born ∷ [], c.push_reserved.ensures.items, refl))

pub returns-in-Ok-clause-stands : goal.returns-in-Ok-clause-stands
returns-in-Ok-clause-stands g c = let O = c.in-Ok.ensures.word in inr (_, (c.requires.found.found, ap is_opening (sym c.requires.found.what ∙ c.requires.next)), (_, _, O.2))
