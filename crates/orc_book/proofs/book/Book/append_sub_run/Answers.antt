use Rattle.std.proofs.Common.{◌≡◌, ◌-◌, ℕ, arith, refl, ap, sym, ◌∙◌, subst, Some}
use Rattle.orc_ledger_spec.specs.Parts.{numbering}
use Rattle.orc_tables.specs.Steps.{group_at}
use Rattle.orc_word.specs.Views.{group_of}
use Rattle.orc_book.specs.Held.{Hold, Becomes, out_at, out_of, word_at}
use Rattle.orc_book.proofs.Comers.{comer, comer-in, none-left, some-left}
use Rattle.orc_book.proofs.Moving.{taken-on-held, taken-out-held}
use Rattle.orc_book.proofs.Named.{named-kept}
use Rattle.orc_book.proofs.Posts.{word-kept}
use Rattle.orc_book.proofs.book.Book.append_sub_run.Goals as goal

pub invariant_of-self-then-has_value : goal.invariant_of-self-then-has_value
invariant_of-self-then-has_value g c =
    let b = c.self.inside in
    let y = some-left c.args.part.now.left c.has_value.result c.has_value.ensures c.if-has_value.true in
    let T = c.in-Ok-append_sub_run.ensures.done in (
      taken-on-held b.ledger c.append_sub_run.new.self c.in-Ok.found.its c.args.part.now y.0 y.1 T b.posts.items c.self.invariant.0,
      named-kept b.ledger c.append_sub_run.new.self b.posts.items b.posts.items b.words.stands T.groups (λ i. refl) c.self.invariant.1,
    )

pub born-born-requires : goal.born-born-requires
born-born-requires g c =
    let b = c.self.inside in
    let ps = b.posts.items in
    let t = c.in-Ok.found.its in
    let y = some-left c.args.part.now.left c.has_value.result c.has_value.ensures c.if-has_value.true in
    let T = c.in-Ok-append_sub_run.ensures.done in
    let n = numbering b.ledger t in
    let named : group_of c.args.token.pass ≡ Some (word_at ps (group_at b.ledger.steps t.step)) = rw (← c.self.view_is) at c.in-Ok.ensures.found.unkept.0.2 in
    record { held = (comer n t y.0, c.in-Ok-append_sub_run.ensures.comer (comer n t y.0) (comer-in n t _ y.0 y.1), named ∙ ap (λ z. Some (word_at ps (group_at z t.step))) (sym T.steps)) }

pub invariant_of-self-2 : goal.invariant_of-self-2
invariant_of-self-2 g c =
    let b = c.self.inside in
    let ps = b.posts.items in
    let ps' = c.set_out.new.posts.items in
    let t = c.in-Ok.found.its in
    let n : ℕ = c.in-Ok.found.group in
    let none = none-left c.args.part.now.left c.has_value.result c.has_value.ensures c.if-has_value.false in
    let at : n ≡ group_at b.ledger.steps t.step = rw (← c.self.view_is) at c.in-Ok.ensures.found.group in
    let out : c.in-Ok.found.out ≡ out_at ps n = rw (← c.self.view_is) at c.in-Ok.ensures.found.out in
    let d = c.set_out.ensures in
    let q : Hold = record d.0 { out = c.in-Ok.found.out - 1 } in
    let T = c.in-Ok-append_sub_run.ensures.done in (
      taken-out-held b.ledger c.append_sub_run.new.self t c.args.part.now none T ps ps' c.self.invariant.0
          (d.0, q, subst (λ z. Becomes ps z d.0 q ps') at d.1, refl, (refl, refl, omega (arith, out, ap out_of (d.1).0, c.in-Ok.ensures.found.some))),
      named-kept b.ledger c.append_sub_run.new.self ps ps' b.words.stands T.groups (word-kept ps ps' n d.0 q d.1 refl) c.self.invariant.1,
    )
