use Rattle.std.proofs.Common.{◌≡◌, ◌+◌, ℕ, arith, refl, ap, sym, ◌∙◌, Some}
use Rattle.orc_tables.specs.Steps.{group_at}
use Rattle.orc_word.specs.declared.view.View.{View}
use Rattle.orc_word.specs.Views.{group_of}
use Rattle.orc_book.specs.declared.token.Token.{Token as Out}
use Rattle.orc_book.specs.Passes.{in_posts, in_words}
use Rattle.orc_book.proofs.Given.{taken-posts}
use Rattle.orc_book.specs.Held.{kept_of, out_of, word_at}
use Rattle.orc_book.proofs.Moving.{woken-held}
use Rattle.orc_book.proofs.Posts.{word-kept}
use Rattle.orc_book.proofs.Named.{named-same-words}
use Rattle.orc_book.proofs.book.Book.wake_one.Goals as goal

pub invariant_of-self-2 : goal.invariant_of-self-2
invariant_of-self-2 g c =
    let b = c.self.inside in
    let ps = b.posts.items in
    let n : ℕ = c.group_of_token-group.result in
    let D = c.in_ok-pass.ensures.1 in (
      woken-held b.ledger ps c.wake_at.new.posts.items n (D.0, D.1, D.2, D.3, ((D.4).0, omega (arith, (D.4).1, c.in_ok-kept.ensures, c.kept_in.ensures, ap kept_of (D.2).0), omega (arith, (D.4).2, c.in_ok-out.ensures, c.out_in.ensures.out, ap out_of (D.2).0))) c.self.invariant.0,
      named-same-words b.ledger b.ledger ps c.wake_at.new.posts.items b.words.stands refl (word-kept ps c.wake_at.new.posts.items n D.0 D.1 D.2 D.3) c.self.invariant.1,
    )

pub born-requires : goal.born-requires
born-requires g c =
    let b = c.self.inside in
    let ps = b.posts.items in
    let ps' = c.wake_at.new.posts.items in
    let its = c.in_ok-its.its in
    let D = c.in_ok-pass.ensures.1 in
    let named : group_of c.in_ok-pass.pass ≡ Some (word_at ps c.group_of_token-group.result) = c.in_ok-pass.ensures.0 in
    record { held = (its, c.in_ok-its.ensures.held.0, named ∙ ap (λ z. Some (word_at ps z)) c.group_of_token-group.ensures ∙ ap Some (sym (word-kept ps ps' _ D.0 D.1 D.2 D.3 (group_at b.ledger.steps its.step)))) }

pub returns-clause-same : goal.returns-clause-same
returns-clause-same g c =
    let ps = c.self.inside.posts.items in
    let D = c.in_ok-pass.ensures.1 in
    rw (← c.self.view_is) (refl, λ i. word-kept ps c.wake_at.new.posts.items _ D.0 D.1 D.2 D.3 i, refl)

pub returns-clause-passes : goal.returns-clause-passes
returns-clause-passes g c =
    let b = c.self.inside in
    let ps = b.posts.items in
    let ps' = c.wake_at.new.posts.items in
    let ws = b.words.stands in
    let D = c.in_ok-pass.ensures.1 in
    let pass = Out.pass c.born.result in
    let all : (f : View → ℕ) → f pass + (in_posts f ps' + in_words f ws) ≡ in_posts f ps + in_words f ws =
    λ f. omega (arith, taken-posts ps ps' _ D.0 D.1 c.in_ok-pass.pass D.2 (D.4).3 f, ap f c.born.ensures.same.1) in
    rw (← c.self.view_is) all
