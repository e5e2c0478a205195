use Rattle.std.proofs.Common.{◌≡◌, ◌⊎◌, refl, ap, sym, ◌∙◌, subst, Some}
use Rattle.orc_rules.specs.Timed.{IsIn}
use Rattle.orc_ledger_spec.specs.Moves.{Moves}
use Rattle.orc_frames.specs.declared.action.Action.TheVariants as what
use Rattle.orc_tables.specs.Steps.{group_at}
use Rattle.orc_tables.specs.declared.records.Token.{Token}
use Rattle.orc_word.specs.Views.{group_of}
use Rattle.orc_book.specs.Held.{word_at}
use Rattle.orc_book.proofs.Onwards.{went, went-group}
use Rattle.orc_book.proofs.Moving.{went-held}
use Rattle.orc_book.proofs.Named.{named-kept, none-came}
use Rattle.orc_book.proofs.book.Book.go_on_found.Goals as goal

pub invariant_of-self : goal.invariant_of-self
invariant_of-self g c =
    let b = c.self.inside in
    let l = g.P.Run.listing in
    let t = c.args.found.its in
    let i : IsIn t b.ledger.tokens = rw (← c.self.view_is) at c.requires.found.there in
    let m = subst (λ m. Moves l b.ledger c.args.token.slot t m c.advance.new.cancelled.items c.advance.new.self) c.in-Ok-On.field-0-is c.in-Ok-On.ensures.done in
    let W = went l b.ledger c.args.token.slot t c.advance.new.self _ (subst (λ a. (a ≡ what.Seq) ⊎ (a ≡ what.Def)) (rw (← c.self.view_is) at c.requires.found.what) c.requires.next) m in (
      went-held b.ledger c.advance.new.self c.stands.ensures.lawful.sound t i W.token W.scopes W.steps W.cells W.entry W.turns W.same b.posts.items c.self.invariant.0,
      named-kept b.ledger c.advance.new.self b.posts.items b.posts.items b.words.stands (none-came b.ledger c.advance.new.self W.turns.groups) (λ i. refl) c.self.invariant.1,
    )

pub unreachable-requires : goal.unreachable-requires
unreachable-requires g c =
    let b = c.self.inside in
    let l = g.P.Run.listing in
    let t = c.args.found.its in
    let m = subst (λ m. Moves l b.ledger c.args.token.slot t m c.advance.new.cancelled.items c.advance.new.self) c.in-Ok-On.field-0-is c.in-Ok-On.ensures.done in
    let W = went l b.ledger c.args.token.slot t c.advance.new.self _ (subst (λ a. (a ≡ what.Seq) ⊎ (a ≡ what.Def)) (rw (← c.self.view_is) at c.requires.found.what) c.requires.next) m in
    c.in_default.ensures.none (W.held).0 ((W.held).1)

pub born-requires : goal.born-requires
born-requires g c =
    let b = c.self.inside in
    let s' = c.advance.new.self in
    let ps = b.posts.items in
    let l = g.P.Run.listing in
    let t = c.args.found.its in
    let m = subst (λ m. Moves l b.ledger c.args.token.slot t m c.advance.new.cancelled.items s') c.in-Ok-On.field-0-is c.in-Ok-On.ensures.done in
    let W = went l b.ledger c.args.token.slot t s' _ (subst (λ a. (a ≡ what.Seq) ⊎ (a ≡ what.Def)) (rw (← c.self.view_is) at c.requires.found.what) c.requires.next) m in
    let its : Token = c.in-Some._its in
    let h = c.in-Some.ensures.held in
    let group : group_at s'.steps its.step ≡ group_at b.ledger.steps t.step = went-group l g.P.Run.sites b.ledger s' c.stands.ensures.lawful c.args.token.slot t W its h.0 h.1 in
    let named : group_of c.args.token.pass ≡ Some (word_at ps (group_at b.ledger.steps t.step)) = rw (← c.self.view_is) at c.requires.found.unkept.0.2 in
    record { held = (its, h.0, named ∙ ap (λ z. Some (word_at ps z)) (sym group)) }
