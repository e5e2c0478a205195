use Rattle.std.proofs.Common.{◌≡◌, [], ◌∷◌, ap, sym, ◌∙◌, Some}
use Rattle.orc_ledger_spec.specs.declared.results.Moved.TheVariants as moved
use Rattle.orc_ledger_spec.proofs.Nests.{alike-group}
use Rattle.orc_tables.specs.Steps.{group_at}
use Rattle.orc_word.specs.Views.{group_of}
use Rattle.orc_book.specs.Held.{word_at}
use Rattle.orc_book.specs.Feeding.{IsFedBy}
use Rattle.orc_book.proofs.Feeding.{fed-form, fed-moves}
use Rattle.orc_book.proofs.Moving.{sent-within-held}
use Rattle.orc_book.proofs.Named.{named-same}
use Rattle.orc_book.proofs.book.Book.send_within.Goals as goal

pub send-requires-clause-form : goal.send-requires-clause-form
send-requires-clause-form g c =
    let b = c.self.inside in
    let l = g.P.Run.listing in
    let t = c.args.found.its in
    let F : IsFedBy l b.ledger t c.args.fed = rw (← c.self.view_is) at c.requires.fed in
    fed-form l b.ledger t c.args.fed F

pub invariant_of-self : goal.invariant_of-self
invariant_of-self g c =
    let b = c.self.inside in
    let l = g.P.Run.listing in
    let t = c.args.found.its in
    let same : group_at b.ledger.steps c.args.fed.outer ≡ group_at b.ledger.steps t.step = (rw (← c.self.view_is) at c.requires.round) ∙ (rw (← c.self.view_is) at c.requires.found.group) in
    (sent-within-held b.ledger c.send.new.self t _ _ _ _ c.in-Ok.ensures.done same b.posts.items c.self.invariant.0, named-same b.ledger c.send.new.self b.posts.items b.words.stands c.in-Ok.ensures.done.groups c.self.invariant.1)

pub born-born-requires : goal.born-born-requires
born-born-requires g c =
    let b = c.self.inside in
    let s' = c.send.new.self in
    let ps = b.posts.items in
    let t = c.args.found.its in
    let same : group_at b.ledger.steps c.args.fed.outer ≡ group_at b.ledger.steps t.step = (rw (← c.self.view_is) at c.requires.round) ∙ (rw (← c.self.view_is) at c.requires.found.group) in
    let T = c.in-Ok.ensures.done in
    let named : group_of c.args.token.pass ≡ Some (word_at ps (group_at b.ledger.steps t.step)) = rw (← c.self.view_is) at c.requires.found.unkept.0.2 in
    record { held = (_, c.in-Ok.ensures.right, named ∙ ap (λ z. Some (word_at ps z)) (sym (alike-group b.ledger.steps s'.steps (sym T.steps.alike) c.args.fed.outer ∙ same))) }

pub returns-in-Ok-clause-done : goal.returns-in-Ok-clause-done
returns-in-Ok-clause-done g c =
    let b = c.self.inside in
    let l = g.P.Run.listing in
    let t = c.args.found.its in
    let F : IsFedBy l b.ledger t c.args.fed = rw (← c.self.view_is) at c.requires.fed in
    (t, moved.Sent (group_at b.ledger.steps t.step), [], c.born-born.result ∷ [], c.requires.found.unkept, rw (← c.self.view_is) (fed-moves l b.ledger t c.args.fed F c.args.token.slot c.send.new.self [] c.in-Ok.ensures.done c.in-Ok.ensures.right), c.push_reserved.ensures.items, ap (λ z. z ∷ []) c.born-born.ensures.same.0)

pub returns-in-Ok-clause-come : goal.returns-in-Ok-clause-come
returns-in-Ok-clause-come g c = (c.born-born.result ∷ [], c.push_reserved.ensures.items, ap (λ z. z ∷ []) c.born-born.ensures.same.1)
