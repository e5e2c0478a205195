use Rattle.std.proofs.Common.{◌≡◌, ◌≤◌, ◌+◌, [], arith, refl, subst, sym, ap, ◌∙◌}
use Rattle.orc_indexes.specs.Same.{weight}
use Rattle.orc_indexes.proofs.Lists.{weight-set}
use Rattle.orc_ledger_spec.specs.Next.{members, numbers_of}
use Rattle.orc_book.specs.Held.{Becomes, KeepsTokens, bag}
use Rattle.orc_book.specs.Passes.{in_posts}
use Rattle.orc_book.proofs.Given.{given-none, given-on, given-posts}
use Rattle.orc_book.proofs.Loose.{AreSettling, settling-on, settling-over, settling-done, held-enough, held-fewer, out-within}
use Rattle.orc_book.proofs.settle.settle_all.Goals as goal

pub loop-number-init : goal.loop-number-init
loop-number-init g c =
    let first = c.args.posts.now.items in (
      c.next_unsettled-number.ensures.within.1,
      settling-over c.args.ledger.now first first 0 c.next_unsettled-number.result (record { loose = c.requires.loose; done = λ i lt. absurd (omega (arith, lt)); count = refl; words = λ i. refl }) c.next_unsettled-number.ensures.settled,
      omega arith,
      refl,
      given-none _ _ (λ f. in_posts f first) (λ f. in_posts f first) refl (λ f. refl),
    )

pub settle_at-requires-clause-there : goal.settle_at-requires-clause-there
settle_at-requires-clause-there g c = omega (arith, c.loop-number-test.true, c.len-count.ensures, c.loop-number.invariant.1.count)

pub settle_at-requires-clause-enough : goal.settle_at-requires-clause-enough
settle_at-requires-clause-enough g c = omega (arith, c.member_count-members.ensures, held-enough c.args.ledger.now c.loop-number.posts.items c.loop-number.invariant.1.loose c.loop-number.number)

pub settle_at-requires-clause-out : goal.settle_at-requires-clause-out
settle_at-requires-clause-out g c = λ some. omega (arith, c.member_count-members.ensures, out-within c.args.ledger.now c.loop-number.posts.items c.loop-number.invariant.1.loose c.loop-number.number (omega (arith, some, c.member_count-members.ensures)))

pub settle_at-requires-clause-room : goal.settle_at-requires-clause-room
settle_at-requires-clause-room g c = omega (arith, c.loop-number.invariant.2, c.loop-number.invariant.3, c.requires.room, held-fewer c.loop-number.posts.items c.loop-number.number)

pub loop-number-preserved : goal.loop-number-preserved
loop-number-preserved g c =
    let s = c.args.ledger.now in
    let first = c.args.posts.now.items in
    let ps = c.loop-number.posts.items in
    let ps' = c.settle_at.new.posts.items in
    let k = c.loop-number.number in
    let I = c.loop-number.invariant in
    let d = c.settle_at.ensures.post in
    let B : Becomes ps k d.0 d.1 ps' = d.2 in
    let keeps = subst (λ m. KeepsTokens m d.0 d.1) c.member_count-members.ensures d.4 in
    let C = settling-on s first ps k I.1 ps' d.0 d.1 B d.3 keeps (d.5 ∙ c.member_count-members.ensures) in (
      c.next_unsettled-number-in-loop-number.ensures.within.1,
      settling-over s first ps' (k + 1) c.next_unsettled-number-in-loop-number.result C c.next_unsettled-number-in-loop-number.ensures.settled,
      omega (arith, I.2, d.6, ap (weight bag) B.1, weight-set bag ps k d.0 d.1 B.0),
      c.settle_at.ensures.capacity ∙ I.3,
      given-on _ _ _ (λ f. in_posts f first) (λ f. in_posts f ps) (λ f. in_posts f ps') I.4 (given-posts _ _ ps ps' k d.0 d.1 B d.7),
    )

pub returns-clause-held : goal.returns-clause-held
returns-clause-held g c =
    let s = c.args.ledger.now in
    let first = c.args.posts.now.items in
    let ps = c.loop-number.posts.items in
    settling-done s first ps (settling-over s first ps c.loop-number.number _ c.loop-number.invariant.1 (λ i le lt. absurd (omega (arith, le, lt, c.loop-number-test.false, c.len-count.ensures)))) c.requires.few

pub returns-clause-words : goal.returns-clause-words
returns-clause-words g c = AreSettling.words c.loop-number.invariant.1
