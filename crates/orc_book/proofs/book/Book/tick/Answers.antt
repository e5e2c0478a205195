use Rattle.std.proofs.Common.{ap, sym, subst}
use Rattle.orc_book.specs.Held.{AreHeld}
use Rattle.orc_book.proofs.Moving.{ticked-held}
use Rattle.orc_book.proofs.book.Book.tick.Goals.{in-Ok, in-Err}
use Rattle.orc_ledger_spec.specs.Records.{Records}
use Rattle.orc_book.proofs.Named.{named-same}
use Rattle.orc_book.proofs.book.Book.tick.Goals as goal

pub invariant_of-self : goal.invariant_of-self
invariant_of-self g c =
    let b = c.self.inside in
    elim c.match-tick.branch [
      | in-Ok w ↦ (ticked-held b.ledger c.tick.new.self c.args.time w.in-Ok.ensures.done b.posts.items c.self.invariant.0, named-same b.ledger c.tick.new.self b.posts.items b.words.stands (ap (λ (z : Records). z.groups) w.in-Ok.ensures.done) c.self.invariant.1)
      | in-Err w ↦ (subst (AreHeld b.posts.items) (sym w.in-Err.ensures.refused) c.self.invariant.0, named-same b.ledger c.tick.new.self b.posts.items b.words.stands (ap (λ (z : Records). z.groups) w.in-Err.ensures.refused) c.self.invariant.1)
    ]
