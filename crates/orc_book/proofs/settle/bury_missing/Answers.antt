use Rattle.std.proofs.Common.{◌≡◌, ◌<◌, ◌+◌, ◌∙◌, refl, sym, ap, arith}
use Rattle.orc_book.specs.Words.{kind_at}
use Rattle.orc_book.proofs.Standing.{buried-there, died-on, gone-on, gone-over, none-died}
use Rattle.orc_book.proofs.settle.bury_missing.Goals as goal

pub loop-number-init : goal.loop-number-init
loop-number-init g c = (
  c.next_empty-number.ensures.within.1,
  record { loose = c.requires.loose; bags = omega arith; count = refl; words = λ i. refl },
  none-died c.args.ledger.now c.args.words.now.stands,
  λ f. refl,
  gone-over c.args.ledger.now c.args.words.now.stands c.args.posts.now.items 0 c.next_empty-number.result c.requires.loose.missing (λ i lt. absurd (omega (arith, lt))) c.next_empty-number.ensures.some,
)

pub loop-number-preserved : goal.loop-number-preserved
loop-number-preserved g c =
    let I = c.loop-number.invariant in
    let E = c.bury_one.ensures in
    let B = E.buried in
    let ws' = c.bury_one.new.words.stands in
    let first = c.args.posts.now.items in
    let k = c.loop-number.number in (
      c.next_empty-number-in-loop-number.ensures.within.1,
      record { loose = B.loose; bags = omega (arith, B.bags, (I.1).bags); count = B.count ∙ (I.1).count; words = λ i. B.words i ∙ (I.1).words i },
      died-on c.args.ledger.now _ _ _ I.2 E.died,
      λ f. E.held f ∙ I.3 f,
      gone-over c.args.ledger.now ws' first (k + 1) c.next_empty-number-in-loop-number.result B.loose.missing (gone-on c.args.ledger.now _ ws' first k E.died I.4 (λ m e. E.gone m (ap (kind_at ws') ((I.1).words k) ∙ e))) c.next_empty-number-in-loop-number.ensures.some,
    )

pub returns-clause-there : goal.returns-clause-there
returns-clause-there g c =
    let I = c.loop-number.invariant in
    buried-there c.args.ledger.now c.args.words.now.stands c.loop-number.words.stands c.args.posts.now.items c.requires.root c.requires.named I.2 (λ i lt. I.4 i (omega (arith, lt, c.loop-number-test.false, c.len-count.ensures)))
