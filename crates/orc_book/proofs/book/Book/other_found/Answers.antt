use Rattle.std.proofs.Common.{◌≡◌, ◌+◌, ◌<◌, ℕ, arith, refl, ap, sym, ◌∙◌, subst, Some, length}
use Rattle.orc_rules.specs.Timed.{IsIn}
use Rattle.orc_ledger_spec.specs.Calls.{IsFree}
use Rattle.orc_ledger_spec.specs.Moves.{Moves, Hinders, IsHindered}
use Rattle.orc_ledger_spec.specs.declared.faults.LedgerFault.TheVariants as ledger
use Rattle.orc_tables.specs.Steps.{group_at}
use Rattle.orc_tables.specs.declared.records.Token.{Token}
use Rattle.orc_ledger_spec.proofs.Nests.{group-end}
use Rattle.orc_word.specs.Views.{group_of}
use Rattle.orc_book.specs.Held.{AreHeld, Becomes, HasStayed, held_at, out_at, word_at, passes_of, out_of, word_of}
use Rattle.orc_book.specs.Refusals.{is_other}
use Rattle.orc_book.proofs.Causes.{not-opened}
use Rattle.orc_book.proofs.Ones.{roomy-held, one-slot}
use Rattle.orc_book.proofs.Moving.{tried-held}
use Rattle.orc_book.proofs.Grown.{grown-held, stayed-grown}
use Rattle.orc_book.proofs.Free.{free-none, free-apart}
use Rattle.orc_book.proofs.Posts.{stayed, other-at, mine-at, length-becomes, word-kept}
use Rattle.orc_book.proofs.Standing.{opens-word}
use Rattle.orc_book.proofs.Reading.{tried}
use Rattle.orc_ledger_spec.specs.Records.{Records}
use Rattle.orc_book.specs.Words.{IsOpened}
use Rattle.orc_book.proofs.Named.{named-opened, named-same-words}
use Rattle.orc_book.proofs.book.Book.other_found.Goals as goal

pub invariant_of-self : goal.invariant_of-self
invariant_of-self g c =
    let b = c.self.inside in
    let s = b.ledger in
    let ps = b.posts.items in
    let ps1 = c.reserve_opening.new.posts.items in
    let C = c.reserve_opening.ensures.same in
    (roomy-held s ps ps1 _ C c.self.invariant.0, named-same-words s s ps ps1 b.words.stands refl (word-kept ps ps1 _ C.0 C.1 C.2 C.3) c.self.invariant.1)

pub returns-then-is_err-clause-refused : goal.returns-then-is_err-clause-refused
returns-then-is_err-clause-refused g c =
    let b = c.self.inside in
    let s = b.ledger in
    let ps = b.posts.items in
    let ps1 = c.reserve_opening.new.posts.items in
    let k : HasStayed (record { ledger = s; posts = ps; stands = b.words.stands; marks = b.keeping }) (record { ledger = s; posts = ps1; stands = b.words.stands; marks = b.keeping }) = stayed s ps ps1 _ c.reserve_opening.ensures.same b.words.stands b.keeping in
    (rw (← c.self.view_is) k, refl, c.requires.idle)

pub invariant_of-self-in-Err-open_word : goal.invariant_of-self-in-Err-open_word
invariant_of-self-in-Err-open_word g c =
    let b = c.self.inside in
    let s = b.ledger in
    let ps = b.posts.items in
    let ps1 = c.reserve_opening.new.posts.items in
    let C = c.reserve_opening.ensures.same in
    (roomy-held s ps ps1 _ C c.self.invariant.0, named-same-words s s ps ps1 b.words.stands refl (word-kept ps ps1 _ C.0 C.1 C.2 C.3) c.self.invariant.1)

pub returns-in-Err-open_word-clause-refused : goal.returns-in-Err-open_word-clause-refused
returns-in-Err-open_word-clause-refused g c =
    let b = c.self.inside in
    let s = b.ledger in
    let ps = b.posts.items in
    let ps1 = c.reserve_opening.new.posts.items in
    let k : HasStayed (record { ledger = s; posts = ps; stands = b.words.stands; marks = b.keeping }) (record { ledger = s; posts = ps1; stands = b.words.stands; marks = b.keeping }) = stayed s ps ps1 _ c.reserve_opening.ensures.same b.words.stands b.keeping in
    (rw (← c.self.view_is) k, refl, ap group_of c.in-Err-open_word.ensures.refused ∙ c.requires.idle)

pub invariant_of-self-in-Err-advance : goal.invariant_of-self-in-Err-advance
invariant_of-self-in-Err-advance g c =
    let b = c.self.inside in
    let s = b.ledger in
    let ps = b.posts.items in
    let ps1 = c.reserve_opening.new.posts.items in
    let C = c.reserve_opening.ensures.same in
    (subst (AreHeld ps1) (sym c.in-Err-advance.ensures.refused) (roomy-held s ps ps1 _ C c.self.invariant.0), named-same-words s c.advance.new.self ps ps1 b.words.stands (ap (λ (z : Records). z.groups) c.in-Err-advance.ensures.refused) (word-kept ps ps1 _ C.0 C.1 C.2 C.3) c.self.invariant.1)

pub returns-in-Err-advance-clause-refused : goal.returns-in-Err-advance-clause-refused
returns-in-Err-advance-clause-refused g c =
    let b = c.self.inside in
    let s = b.ledger in
    let ps = b.posts.items in
    let ps1 = c.reserve_opening.new.posts.items in
    let k : HasStayed (record { ledger = s; posts = ps; stands = b.words.stands; marks = b.keeping }) (record { ledger = s; posts = ps1; stands = b.words.stands; marks = b.keeping }) = stayed s ps ps1 _ c.reserve_opening.ensures.same b.words.stands b.keeping in
    (rw (← c.self.view_is) (subst (λ z. HasStayed (record { ledger = s; posts = ps; stands = b.words.stands; marks = b.keeping }) (record { ledger = z; posts = ps1; stands = b.words.stands; marks = b.keeping })) (sym c.in-Err-advance.ensures.refused) k), refl, c.leave-left.ensures.idle)

pub put_back_at-requires-clause-names : goal.put_back_at-requires-clause-names
put_back_at-requires-clause-names g c =
    let b = c.self.inside in
    let s = b.ledger in
    let ps = b.posts.items in
    let ps0 = c.reserve_opening.new.posts.items in
    let ps1 = c.grow_to.new.posts.items in
    let t = c.args.found.its in
    let n : ℕ = c.args.found.group in
    let at : n ≡ group_at s.steps t.step = rw (← c.self.view_is) at c.requires.found.group in
    let named : group_of c.args.token.pass ≡ Some (word_at ps (group_at s.steps t.step)) = rw (← c.self.view_is) at c.requires.found.unkept.0.2 in
    let k = stayed-grown s ps0 ps1 c.grow_to.ensures.grown ps b.words.stands b.keeping (stayed s ps ps0 _ c.reserve_opening.ensures.same b.words.stands b.keeping) in
    named ∙ ap (λ z. Some (word_at ps z)) (sym at) ∙ ap Some (sym (k.words n))

pub grow_to-requires-clause-number : goal.grow_to-requires-clause-number
grow_to-requires-clause-number g c =
    let b = c.self.inside in
    let s = b.ledger in
    let l = g.P.Run.listing in
    let s' = c.advance.new.self in
    let t = c.args.found.its in
    let m = subst (λ m. Moves l s c.args.token.slot t m c.advance.new.cancelled.items s') c.in-Ok-On.field-0-is c.in-Ok-On.ensures.done in
    let O = tried l s c.args.token.slot t s' _ (sym (rw (← c.self.view_is) at c.requires.found.what) ∙ c.requires.next) m in
    let number : ℕ = O.number in
    let F : IsFree s number = O.free in
    let T = O.done in
    let inner : Token = c.in-Some.inner in
    let step : inner.step ≡ length s.steps + 1 = ap (λ (z : Token). z.step) (one-slot inner _ (sym (c.in-Some.ensures.held.0).0 ∙ (O.held).0)) in
    let its : c.group_of_token-number.result ≡ number = c.group_of_token-number.ensures ∙ ap (group_at s'.steps) step ∙ ap (λ z. group_at z (length s.steps + 1)) T.steps ∙ group-end s.steps _ in
    omega (arith, its, F.2)

pub begin_at-requires-clause-there : goal.begin_at-requires-clause-there
begin_at-requires-clause-there g c =
    let ps1 = c.grow_to.new.posts.items in
    let ps2 = c.put_back_at.new.posts.items in
    let C = c.put_back_at.ensures.more in
    omega (arith, length-becomes ps1 ps2 _ C.0 C.1 C.2, c.grow_to.ensures.there)

pub put_back_at-requires-clause-there : goal.put_back_at-requires-clause-there
put_back_at-requires-clause-there g c =
    let b = c.self.inside in
    let ps = b.posts.items in
    let ps0 = c.reserve_opening.new.posts.items in
    let C = c.reserve_opening.ensures.same in
    let there : c.args.found.group < length ps = rw (← c.self.view_is) at c.requires.found.post in
    omega (arith, there, length-becomes ps ps0 _ C.0 C.1 C.2, c.grow_to.ensures.grown.more)

pub begin_at-requires-clause-empty : goal.begin_at-requires-clause-empty
begin_at-requires-clause-empty g c =
    let b = c.self.inside in
    let s = b.ledger in
    let ps = b.posts.items in
    let ps0 = c.reserve_opening.new.posts.items in
    let ps1 = c.grow_to.new.posts.items in
    let l = g.P.Run.listing in
    let sites = g.P.Run.sites in
    let L = c.stands.ensures.lawful in
    let G = c.stands.ensures.grouped in
    let s' = c.advance.new.self in
    let ps2 = c.put_back_at.new.posts.items in
    let t = c.args.found.its in
    let i : IsIn t s.tokens = rw (← c.self.view_is) at c.requires.found.there in
    let n : ℕ = c.args.found.group in
    let at : n ≡ group_at s.steps t.step = rw (← c.self.view_is) at c.requires.found.group in
    let m = subst (λ m. Moves l s c.args.token.slot t m c.advance.new.cancelled.items s') c.in-Ok-On.field-0-is c.in-Ok-On.ensures.done in
    let O = tried l s c.args.token.slot t s' _ (sym (rw (← c.self.view_is) at c.requires.found.what) ∙ c.requires.next) m in
    let number : ℕ = O.number in
    let F : IsFree s number = O.free in
    let T = O.done in
    let inner : Token = c.in-Some.inner in
    let step : inner.step ≡ length s.steps + 1 = ap (λ (z : Token). z.step) (one-slot inner _ (sym (c.in-Some.ensures.held.0).0 ∙ (O.held).0)) in
    let its : c.group_of_token-number.result ≡ number = c.group_of_token-number.ensures ∙ ap (group_at s'.steps) step ∙ ap (λ z. group_at z (length s.steps + 1)) T.steps ∙ group-end s.steps _ in
    let H : AreHeld ps1 s = grown-held s ps0 ps1 c.grow_to.ensures.grown c.grow_to.ensures.few (roomy-held s ps ps0 n c.reserve_opening.ensures.same c.self.invariant.0) in
    let C = c.put_back_at.ensures.more in
    let none = free-none l sites s L G number F ps1 H in
    let off : n ≡ number → ⊥ = λ e. free-apart l sites s L G number F t i (sym at ∙ e) in
    ap (held_at ps2) its ∙ other-at passes_of ps1 ps2 n C.0 C.1 C.2 number (λ e. off (sym e)) ∙ none.0

pub invariant_of-self-in-Ok-On : goal.invariant_of-self-in-Ok-On
invariant_of-self-in-Ok-On g c =
    let b = c.self.inside in
    let s = b.ledger in
    let ps = b.posts.items in
    let ps0 = c.reserve_opening.new.posts.items in
    let ps1 = c.grow_to.new.posts.items in
    let l = g.P.Run.listing in
    let sites = g.P.Run.sites in
    let L = c.stands.ensures.lawful in
    let G = c.stands.ensures.grouped in
    let s' = c.advance.new.self in
    let ps2 = c.put_back_at.new.posts.items in
    let t = c.args.found.its in
    let i : IsIn t s.tokens = rw (← c.self.view_is) at c.requires.found.there in
    let n : ℕ = c.args.found.group in
    let at : n ≡ group_at s.steps t.step = rw (← c.self.view_is) at c.requires.found.group in
    let m = subst (λ m. Moves l s c.args.token.slot t m c.advance.new.cancelled.items s') c.in-Ok-On.field-0-is c.in-Ok-On.ensures.done in
    let O = tried l s c.args.token.slot t s' _ (sym (rw (← c.self.view_is) at c.requires.found.what) ∙ c.requires.next) m in
    let number : ℕ = O.number in
    let F : IsFree s number = O.free in
    let T = O.done in
    let inner : Token = c.in-Some.inner in
    let step : inner.step ≡ length s.steps + 1 = ap (λ (z : Token). z.step) (one-slot inner _ (sym (c.in-Some.ensures.held.0).0 ∙ (O.held).0)) in
    let its : c.group_of_token-number.result ≡ number = c.group_of_token-number.ensures ∙ ap (group_at s'.steps) step ∙ ap (λ z. group_at z (length s.steps + 1)) T.steps ∙ group-end s.steps _ in
    let H : AreHeld ps1 s = grown-held s ps0 ps1 c.grow_to.ensures.grown c.grow_to.ensures.few (roomy-held s ps ps0 n c.reserve_opening.ensures.same c.self.invariant.0) in
    let C = c.put_back_at.ensures.more in
    let none = free-none l sites s L G number F ps1 H in
    let off : n ≡ number → ⊥ = λ e. free-apart l sites s L G number F t i (sym at ∙ e) in
    let D = c.begin_at.ensures in
    let ps3 = c.begin_at.new.posts.items in
    let k = stayed-grown s ps0 ps1 c.grow_to.ensures.grown ps b.words.stands b.keeping (stayed s ps ps0 _ c.reserve_opening.ensures.same b.words.stands b.keeping) in
    let out : c.args.found.out ≡ out_at ps n = rw (← c.self.view_is) at c.requires.found.out in
    let before : out_at ps2 number ≡ 0 = other-at out_of ps1 ps2 n C.0 C.1 C.2 number (λ e. off (sym e)) ∙ none.1 in
    let B : Becomes ps2 number D.0 D.1 ps3 = subst (λ z. Becomes ps2 z D.0 D.1 ps3) its D.2 in
    let fewer : (C.1).out + 1 ≡ (C.0).out = omega (arith, (C.4).2, out, k.out n, ap out_of (C.2).0, c.requires.found.some) in (
      tried-held s s' L.sound t i _ _ _ number T ps1 ps2 ps3 H (C.0, C.1, subst (λ z. Becomes ps1 z C.0 C.1 ps2) at C.2, C.3, ((C.4).0, (C.4).1, fewer)) D.0 D.1 B D.4 D.5 (omega (arith, D.6, before, ap out_of B.0)),
      named-opened s s' ps ps3 b.words.stands c.open.new.self.stands number b.words.next F _ refl T.groups
          (λ i other. other-at word_of ps2 ps3 _ D.0 D.1 D.2 i (λ e. other (e ∙ its)) ∙ word-kept ps1 ps2 n C.0 C.1 C.2 C.3 i ∙ k.words i)
          (ap (word_at ps3) (sym its) ∙ mine-at word_of ps2 ps3 _ D.0 D.1 D.2 ∙ D.3 ∙ c.in-Ok.ensures.next)
          (subst (λ z. IsOpened b.words.stands b.words.next z c.open.new.self.stands) its c.open.ensures) c.self.invariant.1,
    )

pub born-requires : goal.born-requires
born-requires g c =
    let b = c.self.inside in
    let s = b.ledger in
    let ps = b.posts.items in
    let ps0 = c.reserve_opening.new.posts.items in
    let ps1 = c.grow_to.new.posts.items in
    let l = g.P.Run.listing in
    let sites = g.P.Run.sites in
    let L = c.stands.ensures.lawful in
    let G = c.stands.ensures.grouped in
    let s' = c.advance.new.self in
    let ps2 = c.put_back_at.new.posts.items in
    let t = c.args.found.its in
    let i : IsIn t s.tokens = rw (← c.self.view_is) at c.requires.found.there in
    let n : ℕ = c.args.found.group in
    let at : n ≡ group_at s.steps t.step = rw (← c.self.view_is) at c.requires.found.group in
    let m = subst (λ m. Moves l s c.args.token.slot t m c.advance.new.cancelled.items s') c.in-Ok-On.field-0-is c.in-Ok-On.ensures.done in
    let O = tried l s c.args.token.slot t s' _ (sym (rw (← c.self.view_is) at c.requires.found.what) ∙ c.requires.next) m in
    let number : ℕ = O.number in
    let F : IsFree s number = O.free in
    let T = O.done in
    let inner : Token = c.in-Some.inner in
    let step : inner.step ≡ length s.steps + 1 = ap (λ (z : Token). z.step) (one-slot inner _ (sym (c.in-Some.ensures.held.0).0 ∙ (O.held).0)) in
    let its : c.group_of_token-number.result ≡ number = c.group_of_token-number.ensures ∙ ap (group_at s'.steps) step ∙ ap (λ z. group_at z (length s.steps + 1)) T.steps ∙ group-end s.steps _ in
    let H : AreHeld ps1 s = grown-held s ps0 ps1 c.grow_to.ensures.grown c.grow_to.ensures.few (roomy-held s ps ps0 n c.reserve_opening.ensures.same c.self.invariant.0) in
    let C = c.put_back_at.ensures.more in
    let none = free-none l sites s L G number F ps1 H in
    let off : n ≡ number → ⊥ = λ e. free-apart l sites s L G number F t i (sym at ∙ e) in
    let D = c.begin_at.ensures in
    let ps3 = c.begin_at.new.posts.items in
    let named : group_of c.in-Ok.opened.pass ≡ Some c.in-Ok.opened.word = c.in-Ok.ensures.opened in
    let words : word_at ps3 c.group_of_token-number.result ≡ c.in-Ok.opened.word = mine-at word_of ps2 ps3 _ D.0 D.1 D.2 ∙ D.3 in
    record { held = (inner, c.in-Some.ensures.held.0, named ∙ ap Some (sym words ∙ ap (word_at ps3) c.group_of_token-number.ensures)) }

pub unreachable-requires : goal.unreachable-requires
unreachable-requires g c =
    let b = c.self.inside in
    let s = b.ledger in
    let ps = b.posts.items in
    let ps1 = c.reserve_opening.new.posts.items in
    let l = g.P.Run.listing in
    let sites = g.P.Run.sites in
    let L = c.stands.ensures.lawful in
    let G = c.stands.ensures.grouped in
    let s' = c.advance.new.self in
    let t = c.args.found.its in
    let i : IsIn t s.tokens = rw (← c.self.view_is) at c.requires.found.there in
    let n : ℕ = c.args.found.group in
    let at : n ≡ group_at s.steps t.step = rw (← c.self.view_is) at c.requires.found.group in
    let m = subst (λ m. Moves l s c.args.token.slot t m c.advance.new.cancelled.items s') c.in-Ok-On.field-0-is c.in-Ok-On.ensures.done in
    let O = tried l s c.args.token.slot t s' _ (sym (rw (← c.self.view_is) at c.requires.found.what) ∙ c.requires.next) m in
    c.in_default-held.ensures.none _ O.held

pub reserve_opening-requires-clause-few : goal.reserve_opening-requires-clause-few
reserve_opening-requires-clause-few g c = c.self.invariant.0.few

pub grow_to-requires-clause-few : goal.grow_to-requires-clause-few
grow_to-requires-clause-few g c =
    let C = c.reserve_opening.ensures.same in
    omega (arith, length-becomes c.self.inside.posts.items c.reserve_opening.new.posts.items _ C.0 C.1 C.2, c.self.invariant.0.few)

pub returns-in-Some-clause-word : goal.returns-in-Some-clause-word
returns-in-Some-clause-word g c =
    let b = c.self.inside in
    let s' = c.advance.new.self in
    let ps3 = c.begin_at.new.posts.items in
    let D = c.begin_at.ensures in
    let named : word_at ps3 c.group_of_token-number.result ≡ c.in-Ok.opened.word = mine-at word_of _ ps3 _ D.0 D.1 D.2 ∙ D.3 in
    rw (← c.self.view_is) (opens-word (record { ledger = b.ledger; posts = b.posts.items; stands = b.words.stands; marks = b.keeping }) (record { ledger = s'; posts = ps3; stands = c.open.new.self.stands; marks = b.keeping }) c.born.result c.in-Some.inner c.args.token.slot c.group_of_token-number.result c.in-Ok.opened.word b.words.next c.born.ensures.token c.born.ensures.same.0 c.in-Some.ensures.held.0 c.group_of_token-number.ensures named c.in-Ok.ensures.next c.open.ensures refl)

pub returns-in-Err-open_word-clause-why : goal.returns-in-Err-open_word-clause-why
returns-in-Err-open_word-clause-why g c =
    let l = g.P.Run.listing in
    let b = c.args.self.now in
    let t = c.args.found.its in
    let free : IsHindered l b.ledger t ledger.Memory = subst (λ a. Hinders b.ledger t a ledger.Memory) (sym c.requires.next ∙ c.requires.found.what) (rw (← c.self.view_is) (c.in_default.ensures.places, c.in_default.ensures.room)) in
    not-opened l b c.args.token g.P.Naming.table.words is_other t (c.requires.found.found, ap is_other (sym c.requires.found.what ∙ c.requires.next)) free _ (rw (← c.self.view_is) c.in-Err-open_word.ensures.why)
