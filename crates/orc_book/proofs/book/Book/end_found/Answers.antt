use Rattle.std.proofs.Common.{◌≡◌, ◌-◌, ◌⊎◌, ℕ, arith, refl, ap, subst}
use Rattle.orc_rules.specs.Timed.{IsIn}
use Rattle.orc_frames.specs.declared.action.Action.TheVariants as what
use Rattle.orc_tables.specs.Steps.{group_at}
use Rattle.orc_book.specs.Held.{Hold, Becomes, out_of, out_at}
use Rattle.orc_book.proofs.Ends.{leaves, left-held}
use Rattle.orc_book.proofs.Named.{named-kept, none-came}
use Rattle.orc_book.proofs.Posts.{word-kept}
use Rattle.orc_book.proofs.Outs.{loses-one}
use Rattle.orc_book.proofs.book.Book.end_found.Goals as goal

pub invariant_of-self : goal.invariant_of-self
invariant_of-self g c =
    let b = c.self.inside in
    let l = g.P.Run.listing in
    let t = c.args.found.its in
    let i : IsIn t b.ledger.tokens = rw (← c.self.view_is) at c.requires.found.there in
    let T = leaves l b.ledger c.args.token.slot t c.advance.new.self _ c.in-Ok._gone (subst (λ a. (a ≡ what.Halt) ⊎ (a ≡ what.Void)) (rw (← c.self.view_is) at c.requires.found.what) c.requires.next) c.in-Ok.ensures.done in
    let n : ℕ = c.args.found.group in
    let at : n ≡ group_at b.ledger.steps t.step = rw (← c.self.view_is) at c.requires.found.group in
    let p : Hold = c.set_out.ensures.0 in
    let B : Becomes b.posts.items n p (record p { out = c.args.found.out - 1 }) c.set_out.new.posts.items = c.set_out.ensures.1 in
    let out : c.args.found.out ≡ out_at b.posts.items n = rw (← c.self.view_is) at c.requires.found.out in (
      left-held b.ledger c.advance.new.self c.stands.ensures.lawful.sound t i T b.posts.items c.set_out.new.posts.items c.self.invariant.0 p (record p { out = c.args.found.out - 1 }) (subst (λ z. Becomes b.posts.items z p (record p { out = c.args.found.out - 1 }) c.set_out.new.posts.items) at B) refl refl (omega (arith, out, ap out_of B.0, c.requires.found.some)),
      named-kept b.ledger c.advance.new.self b.posts.items c.set_out.new.posts.items b.words.stands (none-came b.ledger c.advance.new.self T.turns.groups) (word-kept b.posts.items c.set_out.new.posts.items n p (record p { out = c.args.found.out - 1 }) B refl) c.self.invariant.1,
    )

pub returns-in-Ok-clause-posts : goal.returns-in-Ok-clause-posts
returns-in-Ok-clause-posts g c =
    let b = c.self.inside in
    let t = c.args.found.its in
    let n : ℕ = c.args.found.group in
    let at : n ≡ group_at b.ledger.steps t.step = rw (← c.self.view_is) at c.requires.found.group in
    let out : c.args.found.out ≡ out_at b.posts.items n = rw (← c.self.view_is) at c.requires.found.out in
    (t, c.requires.found.unkept, rw (← c.self.view_is) (loses-one b.posts.items c.set_out.new.posts.items n _ _ at c.set_out.ensures (omega (arith, out, c.requires.found.some))))
