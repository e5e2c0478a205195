-- Why the calls of a book are refused.
use Rattle.std.proofs.Common.{◌≡◌, ℕ, List, refl, sym, ap, ◌∙◌, inl, inr, ◌⊎◌, Bool, true, Result, Ok, Err}
use Rattle.std.specs.Prelude.{IfErr}
use Rattle.orc_rules.specs.Nodes.{Listing, code, definitions}
use Rattle.orc_rules.specs.declared.value.Value.{Value}
use Rattle.orc_frames.specs.Doing.{taken, what_by}
use Rattle.orc_frames.specs.Spelling.{Path, whole, aiding}
use Rattle.orc_frames.specs.Taking.{taker}
use Rattle.orc_frames.specs.declared.action.Action.{Action}
use Rattle.orc_frames.specs.declared.action.Action.TheVariants as does
use Rattle.orc_frames.proofs.Meaning.{taken-taker}
use Rattle.orc_tables.specs.declared.records.Token.{Token}
use Rattle.orc_ledger_spec.specs.Records.{Records, its_path}
use Rattle.orc_ledger_spec.specs.Doing.{what_of, term_of}
use Rattle.orc_ledger_spec.specs.Moves.{IsHindered}
use Rattle.orc_ledger_spec.specs.declared.faults.LedgerFault.TheVariants as ledger
use Rattle.orc_word.specs.declared.view.View.{View}
use Rattle.orc_book.specs.declared.token.Token.{Token as Out}
use Rattle.orc_book.specs.declared.token.BookFault.{BookFault}
use Rattle.orc_book.specs.declared.token.BookFault.TheVariants as fault
use Rattle.orc_book.specs.Held.{Held}
use Rattle.orc_book.specs.Words.{HasNoWord}
use Rattle.orc_book.specs.Refusals.{is_opening, is_other, is_prune, is_step, IsTaken, IsUnopened, IsRefusedOpening, IsRefusedStep}
use Rattle.orc_book.proofs.Feeding.{sends-value}
use Rattle.orc_book.proofs.Ones.{one-slot}

-- what holds of each error
pub weaker-err : {A E : Type 0} (r : Result A E) (P Q : E → Type 0) → ((e : E) → P e → Q e) → IfErr r P → IfErr r Q
weaker-err (Ok x) P Q f h = h
weaker-err (Err e) P Q f h = f e h

-- a `>x>` takes what is sent
pub send-taken : (l : Listing) (s : Records) (t : Token) (v : Value) → what_of (code l) (definitions l) s t ≡ does.Send v → taken v (taker (its_path (code l) s t.step)) ≡ does.Send v
send-taken l s t v e =
    let p : Path = its_path (code l) s t.step in
    let form = sends-value (definitions l) v p (term_of (code l) s t) e in
    sym (taken-taker v p) ∙ ap (what_by (definitions l) p) (sym form) ∙ e

-- and nothing else
pub sent-whole : (l : Listing) (s : Records) (t : Token) (v : Value) → what_of (code l) (definitions l) s t ≡ does.Send v → taker (its_path (code l) s t.step) ≡ whole → ⊥
sent-whole l s t v e is = cc (send-taken l s t v e, ap (taken v) is)

pub sent-aiding : (l : Listing) (s : Records) (t : Token) (v : Value) (c : ℕ) (p : Path) → what_of (code l) (definitions l) s t ≡ does.Send v → taker (its_path (code l) s t.step) ≡ aiding c p → ⊥
sent-aiding l s t v c p e is = cc (send-taken l s t v e, ap (taken v) is)

-- the ledger would take the move, and no word is opened
pub not-opened : {X : Type 0} (l : Listing) (b : Held) (k : Out X) (words : ℕ) (takes : Action → Bool) (t : Token) → IsTaken l b k takes t → IsHindered l b.ledger t ledger.Memory → (why : BookFault) → HasNoWord b.stands words why → IsRefusedOpening l b k words takes why
not-opened l b k words takes t taken free fault.Full h = inl (t, taken, free, h)
not-opened l b k words takes t taken free fault.Live h = inl (t, taken, free, h)
not-opened l b k words takes t taken free fault.Memory h = inr (t, taken, free)
not-opened l b k words takes t taken free fault.Gone h = absurd h
not-opened l b k words takes t taken free fault.Wrong h = absurd h
not-opened l b k words takes t taken free fault.Short h = absurd h
not-opened l b k words takes t taken free fault.Limit h = absurd h

-- what a step that opens a group is refused for
pub opening-step : {X : Type 0} (l : Listing) (b : Held) (k : Out X) (words : ℕ) (same idle : List View) (takes : Action → Bool) → ((a : Action) → takes a ≡ true → (is_opening a ≡ true) × (is_step a ≡ true)) → (t : Token) → IsTaken l b k takes t → (why : BookFault) → IsRefusedOpening l b k words takes why → IsUnopened l b k words is_opening why ⊎ IsRefusedStep l b k same idle why
opening-step l b k words same idle takes up t taken fault.Gone (inl h) = absurd h
opening-step l b k words same idle takes up t taken fault.Gone (inr h) = inr h
opening-step l b k words same idle takes up t taken fault.Wrong (inl h) = absurd h
opening-step l b k words same idle takes up t taken fault.Wrong (inr h) =
    let one : t ≡ h.0 = one-slot t h.0 (sym (((taken.0).0).0).0.0 ∙ ((((h.1).0).0).0).0.0) in
    cc (taken.1, (h.1).1, one)
opening-step l b k words same idle takes up t taken fault.Full (inl h) = inl (h.0, ((h.1).0, (up _ (h.1).1).0), h.2, h.3)
opening-step l b k words same idle takes up t taken fault.Full (inr h) = inr (h.0, ((h.1).0, (up _ (h.1).1).1), h.2)
opening-step l b k words same idle takes up t taken fault.Limit (inl h) = absurd h
opening-step l b k words same idle takes up t taken fault.Limit (inr h) = inr (h.0, ((h.1).0, (up _ (h.1).1).1), h.2)
opening-step l b k words same idle takes up t taken fault.Memory (inl h) = absurd h
opening-step l b k words same idle takes up t taken fault.Memory (inr h) = inr (h.0, (h.1).0)
opening-step l b k words same idle takes up t taken fault.Live (inl h) = inl (h.0, ((h.1).0, (up _ (h.1).1).0), h.2, h.3)
opening-step l b k words same idle takes up t taken fault.Live (inr h) = absurd h
opening-step l b k words same idle takes up t taken fault.Short (inl h) = absurd h
opening-step l b k words same idle takes up t taken fault.Short (inr h) = absurd h

pub prune-opens : (a : Action) → is_prune a ≡ true → (is_opening a ≡ true) × (is_step a ≡ true)
prune-opens does.Prune e = (refl, refl)
prune-opens does.Halt e = cc e
prune-opens does.Void e = cc e
prune-opens does.Fork e = cc e
prune-opens does.Seq e = cc e
prune-opens does.Other e = cc e
prune-opens does.Def e = cc e
prune-opens does.Call e = cc e
prune-opens (does.Publish v) e = cc e
prune-opens (does.Send v) e = cc e
prune-opens (does.Bind c v) e = cc e
prune-opens (does.Wait c) e = cc e

pub other-opens : (a : Action) → is_other a ≡ true → (is_opening a ≡ true) × (is_step a ≡ true)
other-opens does.Other e = (refl, refl)
other-opens does.Halt e = cc e
other-opens does.Void e = cc e
other-opens does.Fork e = cc e
other-opens does.Seq e = cc e
other-opens does.Prune e = cc e
other-opens does.Def e = cc e
other-opens does.Call e = cc e
other-opens (does.Publish v) e = cc e
other-opens (does.Send v) e = cc e
other-opens (does.Bind c v) e = cc e
other-opens (does.Wait c) e = cc e
