use Rattle.std.proofs.Common.{[], ◌∷◌, ap, refl, sym, ◌∙◌, inr}
use Rattle.orc_ledger_spec.specs.declared.results.Moved.TheVariants as moved
use Rattle.orc_book.specs.Refusals.{is_opening, is_prune}
use Rattle.orc_book.proofs.Causes.{opening-step, prune-opens}
use Rattle.orc_book.proofs.Added.{two-added, two-born, two-come}
use Rattle.orc_book.proofs.book.Book.step_prune.Goals as goal

pub returns-in-Ok-clause-born : goal.returns-in-Ok-clause-born
returns-in-Ok-clause-born g c = two-born _ _ _ c.in-Ok.one c.in-Ok.two c.prune_found.new.self c.push_reserved-in-Ok.ensures.items c.push_reserved-in-Ok-2.ensures.items c.in-Ok.ensures.born.0 c.in-Ok.ensures.born.1

pub returns-in-Err-clause-why : goal.returns-in-Err-clause-why
returns-in-Err-clause-why g c = opening-step g.P.Run.listing c.args.self.now c.args.token g.P.Naming.table.words c.args.births.now.same.items c.args.births.now.idle.items is_prune prune-opens _ (c.requires.found.found, ap is_prune (sym c.requires.found.what ∙ c.requires.next)) _ c.in-Err.ensures.why

pub returns-in-Ok-clause-done : goal.returns-in-Ok-clause-done
returns-in-Ok-clause-done g c = let d = c.in-Ok.ensures.done in (d.0, moved.Forked c.in-Ok.two.slot, d.1, c.in-Ok.one ∷ c.in-Ok.two ∷ [], d.2, d.3, two-added _ _ _ c.in-Ok.one c.in-Ok.two c.push_reserved-in-Ok.ensures.items c.push_reserved-in-Ok-2.ensures.items, ap (λ z. z ∷ c.in-Ok.two.slot ∷ []) c.in-Ok.ensures.same.0)

pub returns-in-Ok-clause-come : goal.returns-in-Ok-clause-come
returns-in-Ok-clause-come g c = (c.in-Ok.two.pass, two-come _ _ _ c.in-Ok.one c.in-Ok.two _ _ c.push_reserved-in-Ok.ensures.items c.push_reserved-in-Ok-2.ensures.items c.in-Ok.ensures.same.1 refl)

pub returns-in-Ok-clause-stands : goal.returns-in-Ok-clause-stands
returns-in-Ok-clause-stands g c = let O = c.in-Ok.ensures.word in inr (_, (c.requires.found.found, ap is_opening (sym c.requires.found.what ∙ c.requires.next)), (_, _, O.2))
