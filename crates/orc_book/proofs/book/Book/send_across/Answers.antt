use Rattle.std.proofs.Common.{◌≡◌, ◌≤◌, ◌-◌, ℕ, [], ◌∷◌, arith, refl, ap, sym, ◌∙◌, subst, Some}
use Rattle.orc_rules.specs.Timed.{IsIn}
use Rattle.orc_ledger_spec.specs.declared.results.Moved.TheVariants as moved
use Rattle.orc_ledger_spec.proofs.Nests.{alike-group}
use Rattle.orc_tables.specs.Steps.{group_at}
use Rattle.orc_word.specs.Views.{group_of}
use Rattle.orc_book.specs.Held.{Hold, Becomes, held_at, out_at, word_at, out_of, passes_of}
use Rattle.orc_book.specs.Feeding.{IsFedBy}
use Rattle.orc_book.proofs.Around.{round-pass}
use Rattle.orc_book.proofs.Feeding.{fed-form, fed-moves}
use Rattle.orc_book.proofs.Moving.{sent-fits, sent-held}
use Rattle.orc_book.proofs.Posts.{other-at, same-at, word-kept}
use Rattle.orc_indexes.specs.Same.{weight}
use Rattle.orc_book.proofs.Named.{named-kept}
use Rattle.orc_book.proofs.book.Book.send_across.Goals as goal

pub send-requires-clause-form : goal.send-requires-clause-form
send-requires-clause-form g c =
    let b = c.self.inside in
    let l = g.P.Run.listing in
    let t = c.args.found.its in
    let F : IsFedBy l b.ledger t c.args.fed = rw (← c.self.view_is) at c.requires.fed in
    fed-form l b.ledger t c.args.fed F

pub unreachable-requires : goal.unreachable-requires
unreachable-requires g c =
    let b = c.self.inside in
    let l = g.P.Run.listing in
    let t = c.args.found.its in
    let ps = b.posts.items in
    let ps1 = c.set_out.new.posts.items in
    let i : IsIn t b.ledger.tokens = rw (← c.self.view_is) at c.requires.found.there in
    let n : ℕ = c.args.found.group in
    let at : n ≡ group_at b.ledger.steps t.step = rw (← c.self.view_is) at c.requires.found.group in
    let to : c.args.round ≡ group_at b.ledger.steps c.args.fed.outer = rw (← c.self.view_is) at c.requires.round in
    let F : IsFedBy l b.ledger t c.args.fed = rw (← c.self.view_is) at c.requires.fed in
    let d = c.set_out.ensures in
    let p : 1 ≤ held_at ps (group_at b.ledger.steps c.args.fed.outer) = round-pass l g.P.Run.sites b.ledger c.stands.ensures.lawful c.stands.ensures.grouped t i (F.2).0 c.args.fed.outer (F.2).1 (λ e. c.requires.other (to ∙ e ∙ sym at)) ps c.self.invariant.0 in
    omega (arith, p, ap (held_at ps) to, same-at passes_of ps ps1 n d.0 _ d.1 c.args.round refl, c.in_default-enter_at.ensures.1)

pub invariant_of-self : goal.invariant_of-self
invariant_of-self g c =
    let b = c.self.inside in
    let t = c.args.found.its in
    let ps = b.posts.items in
    let ps1 = c.set_out.new.posts.items in
    let ps2 = c.enter_at.new.posts.items in
    let n : ℕ = c.args.found.group in
    let at : n ≡ group_at b.ledger.steps t.step = rw (← c.self.view_is) at c.requires.found.group in
    let to : c.args.round ≡ group_at b.ledger.steps c.args.fed.outer = rw (← c.self.view_is) at c.requires.round in
    let d = c.set_out.ensures in
    let q : Hold = record d.0 { out = c.args.found.out - 1 } in
    let out : c.args.found.out ≡ out_at ps n = rw (← c.self.view_is) at c.requires.found.out in
    let D = c.in-Ok-enter_at.ensures.1 in (
      sent-held b.ledger c.send.new.self t _ _ _ _ c.in-Ok.ensures.done ps ps1 ps2 c.self.invariant.0
          (d.0, q, subst (λ z. Becomes ps z d.0 q ps1) at d.1, refl, (refl, refl, omega (arith, out, ap out_of (d.1).0, c.requires.found.some)))
          (D.0, D.1, subst (λ z. Becomes ps1 z D.0 D.1 ps2) to D.2, D.3, ((D.4).0, (D.4).1, omega (arith, (D.4).2, c.out_in-out_there.ensures.out, ap out_of (D.2).0))),
      named-kept b.ledger c.send.new.self ps ps2 b.words.stands (λ w. ap (weight w) c.in-Ok.ensures.done.groups) (λ i. word-kept ps1 ps2 _ D.0 D.1 D.2 D.3 i ∙ word-kept ps ps1 n d.0 q d.1 refl i) c.self.invariant.1,
    )

pub born-born-requires : goal.born-born-requires
born-born-requires g c =
    let b = c.self.inside in
    let s' = c.send.new.self in
    let ps1 = c.set_out.new.posts.items in
    let ps2 = c.enter_at.new.posts.items in
    let to : c.args.round ≡ group_at b.ledger.steps c.args.fed.outer = rw (← c.self.view_is) at c.requires.round in
    let T = c.in-Ok.ensures.done in
    let D = c.in-Ok-enter_at.ensures.1 in
    let named : group_of c.in-Ok-enter_at.pass ≡ Some (word_at ps1 c.args.round) = c.in-Ok-enter_at.ensures.0 in
    let words : word_at ps2 (group_at s'.steps c.args.fed.outer) ≡ word_at ps1 c.args.round = word-kept ps1 ps2 c.args.round D.0 D.1 D.2 D.3 (group_at s'.steps c.args.fed.outer) ∙ ap (word_at ps1) (alike-group b.ledger.steps s'.steps (sym T.steps.alike) c.args.fed.outer ∙ sym to) in
    record { held = (_, c.in-Ok.ensures.right, named ∙ ap Some (sym words)) }

pub returns-in-Ok-enter_at-clause-done : goal.returns-in-Ok-enter_at-clause-done
returns-in-Ok-enter_at-clause-done g c =
    let b = c.self.inside in
    let l = g.P.Run.listing in
    let t = c.args.found.its in
    let F : IsFedBy l b.ledger t c.args.fed = rw (← c.self.view_is) at c.requires.fed in
    (t, moved.Sent (group_at b.ledger.steps t.step), [], c.born-born.result ∷ [], c.requires.found.unkept, rw (← c.self.view_is) (fed-moves l b.ledger t c.args.fed F c.args.token.slot c.send.new.self [] c.in-Ok.ensures.done c.in-Ok.ensures.right), c.push_reserved.ensures.items, ap (λ z. z ∷ []) c.born-born.ensures.same.0)

pub overflow_add-out_there : goal.overflow_add-out_there
overflow_add-out_there g c =
    let b = c.self.inside in
    let t = c.args.found.its in
    let ps = b.posts.items in
    let ps1 = c.set_out.new.posts.items in
    let n : ℕ = c.args.found.group in
    let at : n ≡ group_at b.ledger.steps t.step = rw (← c.self.view_is) at c.requires.found.group in
    let to : c.args.round ≡ group_at b.ledger.steps c.args.fed.outer = rw (← c.self.view_is) at c.requires.round in
    let d = c.set_out.ensures in
    let q : Hold = record d.0 { out = c.args.found.out - 1 } in
    let before : out_at ps1 c.args.round ≡ out_at ps c.args.round = other-at out_of ps ps1 n d.0 q d.1 c.args.round c.requires.other in
    omega (arith, c.out_in-out_there.ensures.out, before, ap (out_at ps) to, sent-fits b.ledger c.send.new.self t _ _ _ _ c.in-Ok.ensures.done (λ e. c.requires.other (to ∙ e ∙ sym at)) ps c.self.invariant.0, c.token_count-tokens.ensures, c.token_count-tokens.type_inv)
