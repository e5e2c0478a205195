use Rattle.std.proofs.Common.{◌≡◌, ℕ, arith, refl, ap, sym, ◌∙◌, subst, Some}
use Rattle.orc_frames.specs.Doing.{is_wait}
use Rattle.orc_tables.specs.Steps.{group_at}
use Rattle.orc_word.specs.Views.{group_of}
use Rattle.orc_book.specs.Held.{Held, AreHeld, Changes, HasStayed, KeepsOne, kept_at, out_at, word_at}
use Rattle.orc_book.proofs.Ones.{roomy-held, tokens-few}
use Rattle.orc_book.proofs.Moving.{kept-held}
use Rattle.orc_book.proofs.Posts.{stayed, keeps-one, word-kept}
use Rattle.orc_ledger_spec.specs.Records.{Records}
use Rattle.orc_book.proofs.Named.{named-same-words}
use Rattle.orc_book.proofs.book.Book.wait.Goals as goal

pub invariant_of-self-in_default-reserve_at : goal.invariant_of-self-in_default-reserve_at
invariant_of-self-in_default-reserve_at g c =
    let b = c.self.inside in
    let ps1 = c.reserve_at.new.posts.items in
    let C = c.reserve_at.ensures.same in
    (subst (AreHeld ps1) (sym c.park.ensures.same) (roomy-held b.ledger b.posts.items ps1 _ C c.self.invariant.0), named-same-words b.ledger c.park.new.self b.posts.items ps1 b.words.stands (ap (λ (z : Records). z.groups) c.park.ensures.same) (word-kept b.posts.items ps1 _ C.0 C.1 C.2 C.3) c.self.invariant.1)

pub returns-in_default-reserve_at-clause-refused : goal.returns-in_default-reserve_at-clause-refused
returns-in_default-reserve_at-clause-refused g c =
    let b = c.self.inside in
    let ps1 = c.reserve_at.new.posts.items in
    let k : HasStayed (record { ledger = b.ledger; posts = b.posts.items; stands = b.words.stands; marks = b.keeping }) (record { ledger = b.ledger; posts = ps1; stands = b.words.stands; marks = b.keeping }) = stayed b.ledger b.posts.items ps1 _ c.reserve_at.ensures.same b.words.stands b.keeping in
    (rw (← c.self.view_is) (subst (λ z. HasStayed (record { ledger = b.ledger; posts = b.posts.items; stands = b.words.stands; marks = b.keeping }) (record { ledger = z; posts = ps1; stands = b.words.stands; marks = b.keeping })) (sym c.park.ensures.same) k), refl)

pub invariant_of-self-in_default-keep : goal.invariant_of-self-in_default-keep
invariant_of-self-in_default-keep g c =
    let b = c.self.inside in
    let ps1 = c.reserve_at.new.posts.items in
    let C = c.reserve_at.ensures.same in
    (subst (AreHeld ps1) (sym c.park.ensures.same) (roomy-held b.ledger b.posts.items ps1 _ C c.self.invariant.0), named-same-words b.ledger c.park.new.self b.posts.items ps1 b.words.stands (ap (λ (z : Records). z.groups) c.park.ensures.same) (word-kept b.posts.items ps1 _ C.0 C.1 C.2 C.3) c.self.invariant.1)

pub returns-in_default-keep-clause-refused : goal.returns-in_default-keep-clause-refused
returns-in_default-keep-clause-refused g c =
    let b = c.self.inside in
    let ps1 = c.reserve_at.new.posts.items in
    let first : Held = record { ledger = b.ledger; posts = b.posts.items; stands = b.words.stands; marks = b.keeping } in
    let k : HasStayed first (record { ledger = b.ledger; posts = ps1; stands = b.words.stands; marks = b.keeping }) = stayed b.ledger b.posts.items ps1 _ c.reserve_at.ensures.same b.words.stands b.keeping in
    let m = subst (λ z. HasStayed first (record { ledger = b.ledger; posts = ps1; stands = b.words.stands; marks = z })) (sym c.in_default-keep.ensures.refused) k in
    (rw (← c.self.view_is) (subst (λ z. HasStayed first (record { ledger = z; posts = ps1; stands = b.words.stands; marks = c.keep.new.self })) (sym c.park.ensures.same) m), refl)

pub keep_at-requires-clause-names : goal.keep_at-requires-clause-names
keep_at-requires-clause-names g c =
    let b = c.self.inside in
    let ps = b.posts.items in
    let t = c.in-Ok.found.its in
    let n : ℕ = c.in-Ok.found.group in
    let at : n ≡ group_at b.ledger.steps t.step = rw (← c.self.view_is) at c.in-Ok.ensures.found.group in
    let named : group_of c.args.token.pass ≡ Some (word_at ps (group_at b.ledger.steps t.step)) = rw (← c.self.view_is) at c.in-Ok.ensures.found.unkept.0.2 in
    let k = stayed b.ledger ps c.reserve_at.new.posts.items _ c.reserve_at.ensures.same b.words.stands b.keeping in
    named ∙ ap (λ z. Some (word_at ps z)) (sym at) ∙ ap Some (sym (k.words n))

pub invariant_of-self-2 : goal.invariant_of-self-2
invariant_of-self-2 g c =
    let b = c.self.inside in
    let ps = b.posts.items in
    let ps2 = c.keep_at.new.posts.items in
    let n : ℕ = c.in-Ok.found.group in
    let kept : c.kept_in-kept.result ≡ kept_at ps n = c.kept_in-kept.ensures in
    let out : c.in-Ok.found.out ≡ out_at ps n = rw (← c.self.view_is) at c.in-Ok.ensures.found.out in
    let C : Changes ps n ps2 KeepsOne = keeps-one ps c.reserve_at.new.posts.items ps2 n c.reserve_at.ensures.same _ _ c.keep_at.ensures.more (omega (arith, kept)) (omega (arith, out, c.in-Ok.ensures.found.some)) in
    (subst (AreHeld ps2) (sym c.park.ensures.same) (kept-held b.ledger ps ps2 n C c.self.invariant.0), named-same-words b.ledger c.park.new.self ps ps2 b.words.stands (ap (λ (z : Records). z.groups) c.park.ensures.same) (word-kept ps ps2 n C.0 C.1 C.2 C.3) c.self.invariant.1)

pub returns-clause-done : goal.returns-clause-done
returns-clause-done g c =
    let b = c.self.inside in
    let ps = b.posts.items in
    let ps2 = c.keep_at.new.posts.items in
    let t = c.in-Ok.found.its in
    let n : ℕ = c.in-Ok.found.group in
    let at : n ≡ group_at b.ledger.steps t.step = rw (← c.self.view_is) at c.in-Ok.ensures.found.group in
    let kept : c.kept_in-kept.result ≡ kept_at ps n = c.kept_in-kept.ensures in
    let out : c.in-Ok.found.out ≡ out_at ps n = rw (← c.self.view_is) at c.in-Ok.ensures.found.out in
    let C : Changes ps n ps2 KeepsOne = keeps-one ps c.reserve_at.new.posts.items ps2 n c.reserve_at.ensures.same _ _ c.keep_at.ensures.more (omega (arith, kept)) (omega (arith, out, c.in-Ok.ensures.found.some)) in
    (t, c.in-Ok.ensures.found.unkept, ap is_wait (sym c.in-Ok.ensures.found.what ∙ c.in-Wait.is), rw (← c.self.view_is) (subst (λ z. Changes ps z ps2 KeepsOne) at C))

pub overflow_add-kept : goal.overflow_add-kept
overflow_add-kept g c =
    let b = c.self.inside in
    let ps = b.posts.items in
    let n : ℕ = c.in-Ok.found.group in
    let out : c.in-Ok.found.out ≡ out_at ps n = rw (← c.self.view_is) at c.in-Ok.ensures.found.out in
    omega (arith, c.kept_in-kept.ensures, out, c.in-Ok.ensures.found.some, (c.self.invariant.0).tokens n, tokens-few b.ledger n b.ledger.tokens, c.token_count-tokens.ensures, c.token_count-tokens.type_inv)
