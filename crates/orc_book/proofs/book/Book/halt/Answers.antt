use Rattle.std.proofs.Common.{◌≡◌, ◌+◌, ◌++◌, ◌∷◌, [], arith, ap, sym, ◌∙◌, subst}
use Rattle.orc_book.specs.Passes.{GivesUp, in_posts, in_words, of_owed}
use Rattle.orc_book.proofs.Dying.{freed-words}
use Rattle.orc_book.proofs.Given.{given-none, given-one}
use Rattle.orc_book.proofs.Named.{named-freed}
use Rattle.orc_book.proofs.book.Book.halt.Goals.{in-Some, in_default}
use Rattle.orc_book.proofs.book.Book.halt.Goals as goal

pub returns-after-free-clause-left : goal.returns-after-free-clause-left
returns-after-free-clause-left g c =
    let b = c.self.inside in
    let ps = b.posts.items in
    let ws = b.words.stands in
    let ws' = c.free.new.self.stands in
    let leave = c.args.leave.now.items in
    let freed = freed-words ws ws' _ c.free.ensures.freed in
    elim c.match-free.branch [
      | in-Some w ↦
          rw (← c.self.view_is)
          (subst (λ z. GivesUp leave z (λ f. in_posts f ps + in_words f ws) (λ f. 0 + (in_posts f ps + in_words f ws'))) (ap (λ z. z.items) (sym w.leave-is))
          (given-one leave _ w.in-Some.pass (λ f. in_posts f ps + in_words f ws) (λ f. 0 + (in_posts f ps + in_words f ws')) (w.push_reserved.ensures.items ∙ ap (λ z. z ++ w.in-Some.pass ∷ []) c.try_reserve.ensures.items) (λ f. omega (arith, freed f, ap (of_owed f) w.in-Some.ensures.owed))))
      | in_default w ↦
          rw (← c.self.view_is)
          (subst (λ z. GivesUp leave z (λ f. in_posts f ps + in_words f ws) (λ f. 0 + (in_posts f ps + in_words f ws'))) (ap (λ z. z.items) (sym w.leave-is))
          (given-none leave _ (λ f. in_posts f ps + in_words f ws) (λ f. 0 + (in_posts f ps + in_words f ws')) c.try_reserve.ensures.items (λ f. omega (arith, freed f, ap (of_owed f) w.in_default.ensures.owed))))
    ]

pub invariant_of-self : goal.invariant_of-self
invariant_of-self g c =
    let b = c.self.inside in
    (c.self.invariant.0, named-freed b.ledger b.posts.items b.words.stands c.free.new.self.stands _ (sym c.kind.ensures.kind ∙ c.in-Dying.is) c.free.ensures.freed c.self.invariant.1)

pub halt_group-requires-clause-stood : goal.halt_group-requires-clause-stood
halt_group-requires-clause-stood g c = rw (← c.self.view_is) (sym c.kind.ensures.kind ∙ c.in-Open.is)

pub halt_group-requires-clause-bare : goal.halt_group-requires-clause-bare
halt_group-requires-clause-bare g c = rw (← c.self.view_is) (c.kind.ensures.bare c.in-Open.number c.in-Open.is)
