use Rattle.std.proofs.Common.{◌≡◌, ◌+◌, ℕ, [], arith, refl, ap, sym, ◌∙◌, subst, append-nil, Some}
use Rattle.orc_rules.specs.Timed.{IsIn}
use Rattle.orc_ledger_spec.specs.Moves.{Moves}
use Rattle.orc_tables.specs.Steps.{group_at}
use Rattle.orc_word.specs.Views.{group_of}
use Rattle.orc_book.specs.Held.{Hold, Becomes, out_of, out_at, word_at}
use Rattle.orc_book.proofs.Ones.{forked-fits, forked-held}
use Rattle.orc_book.proofs.Posts.{word-kept}
use Rattle.orc_book.proofs.Outs.{adds-one}
use Rattle.orc_book.proofs.Reading.{forked}
use Rattle.orc_book.proofs.Named.{named-kept, none-came}
use Rattle.orc_book.proofs.book.Book.fork_found.Goals as goal

pub invariant_of-self : goal.invariant_of-self
invariant_of-self g c =
    let b = c.self.inside in
    let l = g.P.Run.listing in
    let t = c.args.found.its in
    let i : IsIn t b.ledger.tokens = rw (← c.self.view_is) at c.requires.found.there in
    let m = subst (λ m. Moves l b.ledger c.args.token.slot t m c.advance.new.cancelled.items c.advance.new.self) c.in-Ok-Forked.field-0-is c.in-Ok-Forked.ensures.done in
    let F = forked l b.ledger c.args.token.slot t c.advance.new.self _ c.in-Ok-Forked.other (sym (rw (← c.self.view_is) at c.requires.found.what) ∙ c.requires.next) m in
    let n : ℕ = c.args.found.group in
    let at : n ≡ group_at b.ledger.steps t.step = rw (← c.self.view_is) at c.requires.found.group in
    let d = c.set_out.ensures in
    let p : Hold = d.0 in
    let q : Hold = record p { out = (c.args.found.out + 1) } in
    let B : Becomes b.posts.items n p q c.set_out.new.posts.items = d.1 in
    let out : c.args.found.out ≡ out_at b.posts.items n = rw (← c.self.view_is) at c.requires.found.out in (
      forked-held b.ledger c.advance.new.self c.stands.ensures.lawful.sound t i _ _ refl refl [] [] _ F.done b.posts.items c.self.invariant.0 c.set_out.new.posts.items p q (subst (λ z. Becomes b.posts.items z p q c.set_out.new.posts.items) at B) refl (omega (arith, out, ap out_of B.0)) refl,
      named-kept b.ledger c.advance.new.self b.posts.items c.set_out.new.posts.items b.words.stands (none-came b.ledger c.advance.new.self F.done.groups) (word-kept b.posts.items c.set_out.new.posts.items n p q B refl) c.self.invariant.1,
    )

pub born-one-requires : goal.born-one-requires
born-one-requires g c =
    let b = c.self.inside in
    let l = g.P.Run.listing in
    let t = c.args.found.its in
    let m = subst (λ m. Moves l b.ledger c.args.token.slot t m c.advance.new.cancelled.items c.advance.new.self) c.in-Ok-Forked.field-0-is c.in-Ok-Forked.ensures.done in
    let F = forked l b.ledger c.args.token.slot t c.advance.new.self _ c.in-Ok-Forked.other (sym (rw (← c.self.view_is) at c.requires.found.what) ∙ c.requires.next) m in
    let d = c.set_out.ensures in
    let q : Hold = record d.0 { out = (c.args.found.out + 1) } in
    let group : group_at c.advance.new.self.steps t.step ≡ group_at b.ledger.steps t.step = ap (λ z. group_at z t.step) (F.done.steps ∙ append-nil b.ledger.steps) in
    let named : group_of c.args.token.pass ≡ Some (word_at b.posts.items (group_at b.ledger.steps t.step)) = rw (← c.self.view_is) at c.requires.found.unkept.0.2 in
    let words : word_at c.set_out.new.posts.items (group_at c.advance.new.self.steps t.step) ≡ word_at b.posts.items (group_at b.ledger.steps t.step) = word-kept b.posts.items c.set_out.new.posts.items _ d.0 q d.1 refl (group_at c.advance.new.self.steps t.step) ∙ ap (word_at b.posts.items) group in
    record { held = (_, F.held, named ∙ ap Some (sym words)) }

pub overflow_add-found : goal.overflow_add-found
overflow_add-found g c =
    let b = c.self.inside in
    let l = g.P.Run.listing in
    let t = c.args.found.its in
    let i : IsIn t b.ledger.tokens = rw (← c.self.view_is) at c.requires.found.there in
    let m = subst (λ m. Moves l b.ledger c.args.token.slot t m c.advance.new.cancelled.items c.advance.new.self) c.in-Ok-Forked.field-0-is c.in-Ok-Forked.ensures.done in
    let F = forked l b.ledger c.args.token.slot t c.advance.new.self _ c.in-Ok-Forked.other (sym (rw (← c.self.view_is) at c.requires.found.what) ∙ c.requires.next) m in
    let n : ℕ = c.args.found.group in
    let at : n ≡ group_at b.ledger.steps t.step = rw (← c.self.view_is) at c.requires.found.group in
    let out : c.args.found.out ≡ out_at b.posts.items n = rw (← c.self.view_is) at c.requires.found.out in
    omega (arith, out, ap (out_at b.posts.items) at, forked-fits b.ledger c.advance.new.self c.stands.ensures.lawful.sound t i _ _ refl refl [] [] _ F.done b.posts.items c.self.invariant.0, c.token_count-tokens.ensures, c.token_count-tokens.type_inv)

pub returns-in-Ok-Forked-clause-posts : goal.returns-in-Ok-Forked-clause-posts
returns-in-Ok-Forked-clause-posts g c =
    let b = c.self.inside in
    let t = c.args.found.its in
    let n : ℕ = c.args.found.group in
    let at : n ≡ group_at b.ledger.steps t.step = rw (← c.self.view_is) at c.requires.found.group in
    let out : c.args.found.out ≡ out_at b.posts.items n = rw (← c.self.view_is) at c.requires.found.out in
    (t, c.requires.found.unkept, rw (← c.self.view_is) (adds-one b.posts.items c.set_out.new.posts.items n _ _ at c.set_out.ensures (ap (λ z. z + 1) out)))
