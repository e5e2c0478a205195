use Rattle.std.proofs.Common.{◌≡◌, ◌+◌, ◌≤◌, arith, refl, subst, sym, ap, ◌∙◌, Some}
use Rattle.std.specs.Prelude.{MatchOption}
use Rattle.orc_word.specs.Views.{group_of}
use Rattle.orc_book.specs.declared.word_table.Kind.TheVariants.{Open}
use Rattle.orc_book.specs.Held.{Changes, TakesOne, word_at, held_at, out_at}
use Rattle.orc_book.specs.Words.{kind_at}
use Rattle.orc_book.proofs.Loose.{not-both, spared}
use Rattle.orc_book.proofs.Standing.{one-died}
use Rattle.orc_book.proofs.settle.bury_one.Goals as goal

pub returns-clause-buried : goal.returns-clause-buried
returns-clause-buried g c =
    let ps = c.args.posts.now.items in
    let ps' = c.spare_at-pass.new.posts.items in
    let k = c.parent_in-parent.result in
    let v = c.spare_at-pass.result in
    (spared c.args.ledger.now ps c.requires.loose k ps' v (subst (λ m. MatchOption v (ps' ≡ ps) (λ w. (group_of w ≡ Some (word_at ps k)) × (m + 1 ≤ held_at ps k + out_at ps k) × Changes ps k ps' (TakesOne w))) c.member_count.ensures c.spare_at-pass.ensures)).0

pub returns-clause-held : goal.returns-clause-held
returns-clause-held g c =
    let ps = c.args.posts.now.items in
    let ps' = c.spare_at-pass.new.posts.items in
    let k = c.parent_in-parent.result in
    let v = c.spare_at-pass.result in
    let S = (spared c.args.ledger.now ps c.requires.loose k ps' v (subst (λ m. MatchOption v (ps' ≡ ps) (λ w. (group_of w ≡ Some (word_at ps k)) × (m + 1 ≤ held_at ps k + out_at ps k) × Changes ps k ps' (TakesOne w))) c.member_count.ensures c.spare_at-pass.ensures)).1 in
    λ f. omega (arith, S f, c.bury.ensures.held f)

pub returns-clause-died : goal.returns-clause-died
returns-clause-died g c = one-died c.args.ledger.now c.args.words.now.stands c.bury.new.self.stands c.word_in-word.result c.args.number (sym c.kind.ensures.kind ∙ c.in-Open.is ∙ ap Open c.if-stood-number.false) (c.is_there.ensures.missing c.if-is_there.false) _ c.bury.ensures.killed

pub returns-then-is_there-clause-gone : goal.returns-then-is_there-clause-gone
returns-then-is_there-clause-gone g c = λ m e. not-both c.args.ledger.now c.args.number c.args.number (c.is_there.ensures.there c.if-is_there.true) m refl
