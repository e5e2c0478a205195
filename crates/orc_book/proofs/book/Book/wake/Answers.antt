use Rattle.std.proofs.Common.{◌++◌, ◌∷◌, [], ap, sym, ◌∙◌, subst, arith}
use Rattle.orc_book.specs.Held.{Held, AreBorn, HaveWoken}
use Rattle.orc_book.specs.Passes.{in_tokens}
use Rattle.orc_book.proofs.Given.{token-added}
use Rattle.orc_book.proofs.Woken.{stay-on, born-on, born-more, woken-more, woken-on}
use Rattle.orc_book.proofs.book.Book.wake.Goals.{in-Some-wake_one, in_default-wake_one}
use Rattle.orc_book.proofs.book.Book.wake.Goals as goal

pub loop-link-preserved : goal.loop-link-preserved
loop-link-preserved g c =
    let I = rw (← c.self-in-loop-link.view_is) at c.loop-link.invariant in
    let S = c.wake_one.ensures.same in
    let before = c.args.born.now.items in
    let b' = c.wake_one.new.self in
    let b = c.self-in-loop-link.inside in
    let first : Held = c.args.self.now in
    let popped : Held = record { ledger = b.ledger; posts = b.posts.items; stands = b.words.stands; marks = c.pop.new.self } in
    let W = subst (λ z. HaveWoken first.marks z before c.loop-link.born.items) (sym c.pop.ensures) I.2 in (
      stay-on first popped b' I.0 S,
      elim c.match-wake_one.branch [
        | in-Some-wake_one w ↦
            subst (λ z. AreBorn before z b') (ap (λ z. z.items) (sym w.born-is))
            (born-more before c.loop-link.born.items _ w.in-Some-wake_one.token popped b' S I.1 (w.push_reserved.ensures.items ∙ ap (λ z. z ++ w.in-Some-wake_one.token ∷ []) c.try_reserve.ensures.items) w.in-Some-wake_one.ensures.born)
        | in_default-wake_one w ↦ subst (λ z. AreBorn before z b') (ap (λ z. z.items) (sym w.born-is)) (subst (λ z. AreBorn before z b') (sym c.try_reserve.ensures.items) (born-on before c.loop-link.born.items popped b' S I.1))
      ],
      elim c.match-wake_one.branch [
        | in-Some-wake_one w ↦
            let M = w.in-Some-wake_one.ensures.woken in
            subst (λ z. HaveWoken first.marks b'.marks before z) (ap (λ z. z.items) (sym w.born-is))
            (woken-more first.marks before popped.marks b'.marks c.loop-link.born.items W _ w.in-Some-wake_one.token M.0 M.1 M.2 (w.push_reserved.ensures.items ∙ ap (λ z. z ++ w.in-Some-wake_one.token ∷ []) c.try_reserve.ensures.items))
        | in_default-wake_one w ↦ subst (λ z. HaveWoken first.marks b'.marks before z) (ap (λ z. z.items) (sym w.born-is)) (subst (λ z. HaveWoken first.marks b'.marks before z) (sym c.try_reserve.ensures.items) (woken-on first.marks before popped.marks b'.marks c.loop-link.born.items W w.in_default-wake_one.ensures.woken))
      ],
      λ f. elim c.match-wake_one.branch [
        | in-Some-wake_one w ↦
            omega (arith, I.3 f, w.in-Some-wake_one.ensures.passes f, ap (λ z. in_tokens f z.items) w.born-is, token-added c.loop-link.born.items _ w.in-Some-wake_one.token (w.push_reserved.ensures.items ∙ ap (λ z. z ++ w.in-Some-wake_one.token ∷ []) c.try_reserve.ensures.items) f)
        | in_default-wake_one w ↦
            omega (arith, I.3 f, w.in_default-wake_one.ensures.passes f, ap (λ z. in_tokens f z.items) w.born-is, ap (in_tokens f) c.try_reserve.ensures.items)
      ],
    )

pub returns-in_default-clause-born : goal.returns-in_default-clause-born
returns-in_default-clause-born g c =
    let I = rw (← c.self-in-loop-link.view_is) at c.loop-link.invariant in
    let b = c.self-in-loop-link.inside in
    subst (λ z. AreBorn c.args.born.now.items z (record { ledger = b.ledger; posts = b.posts.items; stands = b.words.stands; marks = b.keeping })) (sym c.try_reserve.ensures.items) I.1
