use Rattle.std.proofs.Common.{◌+◌, ◌≤◌, rules, vec_len, vec_capacity, arith, ap, refl, sym, ◌∙◌, subst, cond, inl}
use Rattle.orc_rules.specs.Nodes.{code}
use Rattle.orc_indexes.proofs.Weight.{weight-but}
use Rattle.orc_ledger_spec.specs.Calls.{group_goes}
use Rattle.orc_book.specs.Held.{records_in}
use Rattle.orc_book.specs.Words.{AreNamed, kind_at}
use Rattle.orc_book.proofs.Named.{named-dropped}
use Rattle.orc_rules.specs.Timed.{IsIn}
use Rattle.orc_env.specs.declared.names.Bound.TheVariants as bound
use Rattle.orc_word.specs.Words.{has, with_bit}
use Rattle.orc_word.specs.Views.{deeds_of, group_of, won_of, Marks}
use Rattle.orc_word.specs.declared.bits.Bit.TheVariants.{Killed}
use Rattle.orc_book.specs.Passes.{GivesUp, in_posts, in_words}
use Rattle.orc_book.proofs.Given.{given-as, given-on, given-one}
use Rattle.orc_book.proofs.Dropped.{drops, dropped-loose, last-in}
use Rattle.orc_book.proofs.Loose.{bags-within}
use Rattle.orc_book.proofs.book.Book.bind.Goals as goal

pub bury_missing-requires-clause-loose : goal.bury_missing-requires-clause-loose
bury_missing-requires-clause-loose g c =
    let b = c.self.inside in
    let l = g.P.Run.listing in
    let t = c.in-Ok.found.its in
    let does = sym (rw (← c.self.view_is) at c.in-Ok.ensures.found.what) ∙ c.in-Bind.is in
    let D = drops l b.ledger c.args.token.slot t c.advance.new.self _ c.in-Bind._cell c.in-Bind._value c.in-Ok-advance._bound does c.in-Ok-advance.ensures.done in
    dropped-loose l g.P.Run.sites b.ledger c.stands.ensures.lawful c.stands.ensures.grouped c.in-Bind._cell (bound.Is c.in-Bind._value) c.advance.new.self D c.stands-in-Ok-advance.ensures.lawful c.stands-in-Ok-advance.ensures.grouped b.posts.items c.self.invariant.0

pub bury_missing-requires-clause-root : goal.bury_missing-requires-clause-root
bury_missing-requires-clause-root g c =
    let N = c.self.invariant.1 in
    ap (kind_at c.self.inside.words.stands) (sym N.root) ∙ N.has 0 (inl refl)

pub bury_missing-requires-clause-named : goal.bury_missing-requires-clause-named
bury_missing-requires-clause-named g c = λ w i e. (AreNamed.is c.self.invariant.1 w i e).1

pub settle_all-requires-clause-loose : goal.settle_all-requires-clause-loose
settle_all-requires-clause-loose g c = c.bury_missing.ensures.buried.loose

pub settle_all-requires-clause-few : goal.settle_all-requires-clause-few
settle_all-requires-clause-few g c = omega (arith, c.bury_missing.ensures.buried.count, c.self.invariant.0.few)

pub invariant_of-self : goal.invariant_of-self
invariant_of-self g c =
    let b = c.self.inside in
    let l = g.P.Run.listing in
    let t = c.in-Ok.found.its in
    let s' = c.advance.new.self in
    let does = sym (rw (← c.self.view_is) at c.in-Ok.ensures.found.what) ∙ c.in-Bind.is in
    let D = drops l b.ledger c.args.token.slot t s' _ c.in-Bind._cell c.in-Bind._value c.in-Ok-advance._bound does c.in-Ok-advance.ensures.done in (
      c.settle_all.ensures.held,
      named-dropped b.ledger s' b.posts.items c.settle_all.new.posts.items b.words.stands c.bury_missing.new.words.stands (λ w. omega (arith, D.groups w, weight-but (group_goes (code l) c.in-Bind._cell b.ledger) w b.ledger.groups))
          (λ i. c.settle_all.ensures.words i ∙ c.bury_missing.ensures.buried.words i) c.bury_missing.ensures.died c.bury_missing.ensures.there c.self.invariant.1,
    )

pub settle_all-requires-clause-room : goal.settle_all-requires-clause-room
settle_all-requires-clause-room g c =
    let b = c.self.inside in
    let room : vec_len c.reserve_all.new.leave + records_in b.ledger + 1 ≤ vec_capacity c.reserve_all.new.leave = search rules in
    omega (arith, room, c.bury_missing.ensures.buried.bags, bags-within b.ledger b.posts.items c.self.invariant.0)

pub push_reserved-requires : goal.push_reserved-requires
push_reserved-requires g c =
    let b = c.self.inside in
    let room : vec_len c.reserve_all.new.leave + records_in b.ledger + 1 ≤ vec_capacity c.reserve_all.new.leave = search rules in
    omega (arith, room, c.bury_missing.ensures.buried.bags, bags-within b.ledger b.posts.items c.self.invariant.0, c.settle_all.ensures.room, c.settle_all.ensures.capacity)

pub returns-in-Ok-advance-clause-left : goal.returns-in-Ok-advance-clause-left
returns-in-Ok-advance-clause-left g c =
    let b = c.self.inside in
    let old = won_of c.args.token.pass in
    let won = c.mark.new.pass in
    let leave = c.args.leave.now.items in
    let mid = c.settle_all.new.leave.items in
    let ps2 = c.bury_missing.new.posts.items in
    let ps3 = c.settle_all.new.posts.items in
    let ws = b.words.stands in
    let ws' = c.bury_missing.new.words.stands in
    let settled : GivesUp leave mid (λ f. in_posts f ps2) (λ f. in_posts f ps3) = subst (λ z. GivesUp z mid (λ f. in_posts f ps2) (λ f. in_posts f ps3)) c.reserve_all.ensures.items c.settle_all.ensures.given in
    let before = given-as leave mid (λ f. in_posts f ps2) (λ f. in_posts f ps3) (λ f. in_posts f b.posts.items + in_words f ws + f won) (λ f. in_posts f ps3 + in_words f ws' + f won) settled
    (λ f. omega (arith, c.bury_missing.ensures.held f)) in
    let last = given-one mid _ won (λ f. in_posts f ps3 + in_words f ws' + f won) (λ f. in_posts f ps3 + in_words f ws') c.push_reserved.ensures.items (λ f. omega arith) in
    rw (← c.self.view_is) (
      won,
      (c.mark.ensures.group, subst (λ z. Marks (group_of c.args.token.pass) Killed z (deeds_of c.args.token.pass) (deeds_of won)) c.if-not-mark.false c.mark.ensures.deeds, ap (has Killed) (c.mark.ensures.won ∙ ap (λ z. cond z (with_bit Killed old) old) c.if-not-mark.false)),
      given-on leave mid _ (λ f. in_posts f b.posts.items + in_words f ws + f won) (λ f. in_posts f ps3 + in_words f ws' + f won) (λ f. in_posts f ps3 + in_words f ws') before last,
    )

pub returns-in-Ok-advance-clause-won : goal.returns-in-Ok-advance-clause-won
returns-in-Ok-advance-clause-won g c =
    let old = won_of c.args.token.pass in (
      c.mark.new.pass,
      subst (IsIn c.mark.new.pass) (sym c.push_reserved.ensures.items) (last-in _ c.mark.new.pass),
      c.mark.ensures.group,
      ap (has Killed) (c.mark.ensures.won ∙ ap (λ b. cond b (with_bit Killed old) old) c.if-not-mark.false),
    )

pub returns-in-Ok-advance-clause-stands : goal.returns-in-Ok-advance-clause-stands
returns-in-Ok-advance-clause-stands g c = rw (← c.self.view_is) c.bury_missing.ensures.died
