-- Where a `>x>` was passed in one go nobody stands any more at the step of its left side.
use Rattle.std.proofs.Common.{◌≡◌, ◌≤◌, ℕ, suc, ◌+◌, List, [], ◌∷◌, refl, sym, ap, ◌∙◌, arith, false, Some, length, length-append}
use Rattle.std.specs.Prelude.{slice_get, nat_lt}
use Rattle.std.proofs.lemmas.Bool.{ltb-false}
use Rattle.orc_rules.specs.declared.value.Value.{Value}
use Rattle.orc_rules.specs.Term.{Term}
use Rattle.orc_rules.specs.Nodes.{Listing, code, definitions}
use Rattle.orc_rules.specs.Sites.{Site}
use Rattle.orc_indexes.specs.Same.{weight, is_this}
use Rattle.orc_tables.specs.Steps.{step_at, group_at, depth_at}
use Rattle.orc_tables.specs.Tokens.{IsHeld}
use Rattle.orc_tables.specs.declared.records.Frame.TheVariants.{SeqLeft}
use Rattle.orc_tables.specs.declared.records.Token.{Token}
use Rattle.orc_tables.specs.declared.records.Call.{Call as Pending}
use Rattle.orc_tables.specs.declared.records.Step.{Step}
use Rattle.orc_tables.specs.declared.records.Group.{Group}
use Rattle.orc_tables.proofs.Placed.{same_some, end-got}
use Rattle.orc_indexes.proofs.Weight.{none-alike, weight-none, this_is, this_not, one-most}
use Rattle.orc_frames.specs.Paths.{is_out}
use Rattle.orc_frames.specs.Spelling.{Path, whole, feeding, aiding, trying}
use Rattle.orc_frames.specs.Taking.{taker}
use Rattle.orc_frames.specs.declared.action.Action.{Action}
use Rattle.orc_frames.specs.declared.action.Action.TheVariants.{Halt, Fork, Seq, Prune, Other, Def, Void, Publish, Send, Bind, Call, Wait}
use Rattle.orc_frames.proofs.Growth.{or_false}
use Rattle.orc_frames.proofs.Marking.{bare-length}
use Rattle.orc_ledger_spec.specs.Calls.{born}
use Rattle.orc_ledger_spec.specs.Doing.{what_of}
use Rattle.orc_ledger_spec.specs.Answers.{answered}
use Rattle.orc_ledger_spec.specs.Moves.{Feeds, Sends, Does}
use Rattle.orc_ledger_spec.specs.Next.{opens}
use Rattle.orc_ledger_spec.specs.Passing.{GoesOn}
use Rattle.orc_ledger_spec.specs.Records.{Records, Sound, its_path, token_out, call_out, group_out, side_out}
use Rattle.orc_ledger_spec.specs.Vacant.{IsVacant}
use Rattle.orc_ledger_spec.specs.declared.results.Moved.TheVariants as moved
use Rattle.orc_ledger_spec.specs.declared.results.Passed.TheVariants as passed
use Rattle.orc_ledger_spec.proofs.Nests.{alike-step}

abbrev size : Path → ℕ
size whole = 0
size (feeding x g p) = suc (size p)
size (aiding c p) = suc (size p)
size (trying n p) = suc (size p)

taker_size : (p : Path) → size (taker p) ≤ size p
taker_size whole = omega arith
taker_size (feeding x g p) = omega arith
taker_size (aiding c p) = omega arith
taker_size (trying n p) = omega (arith, taker_size p)

-- what takes a publication from a path isn't inside it
takes_outside : (p q : Path) (x : ℕ) (g : Term) → taker p ≡ feeding x g q → q ≡ p → ⊥
takes_outside p q x g takes e = omega (arith, taker_size p, ap size takes, ap size e)

-- a token that was sent on by its next move has sent a value
pub sent_sends : (l : Listing) (s : Records) (slot : ℕ) (t : Token) (s' : Records) (ks : List ℕ) (g : ℕ) (w : Action) → Does l s slot t s' ks w (moved.Sent g) → (v : Value) × Sends l s slot t s' v
sent_sends l s slot t s' ks g Halt h = absurd h
sent_sends l s slot t s' ks g Fork h = absurd h
sent_sends l s slot t s' ks g Seq h = absurd h
sent_sends l s slot t s' ks g Prune h = absurd h
sent_sends l s slot t s' ks g Other h = absurd h
sent_sends l s slot t s' ks g Def h = absurd h
sent_sends l s slot t s' ks g Void h = absurd h
sent_sends l s slot t s' ks g (Publish v) h = absurd h
sent_sends l s slot t s' ks g (Send v) h = (v, h.0)
sent_sends l s slot t s' ks g (Bind c v) h = absurd h
sent_sends l s slot t s' ks g Call h = absurd h
sent_sends l s slot t s' ks g (Wait c) h = absurd h

-- token t enters the left side of a `>x>`, where u stands then
module _ (l : Listing) (sites : List Site) (s : Records) (slot : ℕ) (t : Token) (s1 : Records) (u : Token) (S : Sound s) (enters : Feeds l s slot t s1) (held : IsHeld s1.slots slot u) where
  abbrev last : ℕ
  last = length s.steps + 1

  abbrev entering : Step
  entering = record { entered = SeqLeft enters.name enters.right enters.scope; outer = t.step; group = group_at s.steps t.step; depth = depth_at s.steps t.step + 1; published = false }

  abbrev token_at : Token → ℕ
  token_at z = is_this last z.step

  abbrev call_at : Pending → ℕ
  call_at z = is_this last z.step

  abbrev group_in : Group → ℕ
  group_in z = is_this last z.outer

  earlier : (m : ℕ) → nat_lt (length s.steps) m ≡ false → is_this last m ≡ 0
  earlier m h = this_not last m (λ e. omega (arith, e, ltb-false (length s.steps) m h))

  tokens_before : weight token_at s.tokens ≡ 0
  tokens_before = none-alike (token_out (length s.scopes) (length s.steps)) token_at (λ z. 0) s.tokens S.tokens (λ z h. earlier z.step (or_false (is_out (length s.scopes) z.standing) (nat_lt (length s.steps) z.step) h).1) ∙ weight-none (λ z. 0) s.tokens (λ z. refl)

  calls_before : weight call_at s.calls ≡ 0
  calls_before = none-alike (call_out (length s.steps)) call_at (λ z. 0) s.calls S.calls (λ z h. earlier z.step h) ∙ weight-none (λ z. 0) s.calls (λ z. refl)

  groups_before : weight group_in s.groups ≡ 0
  groups_before = none-alike (group_out (length s.scopes) (length s.steps)) group_in (λ z. 0) s.groups S.groups (λ z h. earlier z.outer (or_false (side_out (length s.scopes) z.side) (nat_lt (length s.steps) z.outer) h).1) ∙ weight-none (λ z. 0) s.groups (λ z. refl)

  tokens_fed : weight token_at s1.tokens ≤ 1
  tokens_fed = omega (arith, enters.done.tokens token_at, tokens_before, one-most last last)

  calls_fed : weight call_at s1.calls ≡ 0
  calls_fed = ap (weight call_at) enters.done.calls ∙ calls_before

  groups_fed : weight group_in s1.groups ≡ 0
  groups_fed = omega (arith, enters.done.groups group_in, groups_before)

  step_of : u.step ≡ last
  step_of = ap (λ (z : Token). z.step) (same_some u (born s t s.next_mark enters.left enters.scope last) (sym held.0 ∙ enters.held.0))

  vacant : (s2 : Records) (p : Step) → length s2.steps ≡ last → slice_get s2.steps (length s.steps) ≡ Some p → opens p.entered ≡ false → weight token_at s2.tokens ≡ 0 → weight call_at s2.calls ≡ 0 → weight group_in s2.groups ≡ 0 → IsVacant s2
  vacant s2 p count at off tokens calls groups = record {
    step = p;
    last = ap (step_at s2.steps) (let e : length s2.steps ≡ suc (length s.steps) = omega (arith, count) in e) ∙ at;
    feeds = off;
    tokens = ap (λ n. weight (λ (z : Token). is_this n z.step) s2.tokens) count ∙ tokens;
    calls = ap (λ n. weight (λ (z : Pending). is_this n z.step) s2.calls) count ∙ calls;
    groups = ap (λ n. weight (λ (z : Group). is_this n z.outer) s2.groups) count ∙ groups;
  }

  count_of : (s2 : Records) → s2.steps ≡ s1.steps → length s2.steps ≡ last
  count_of s2 e = omega (arith, ap length (e ∙ enters.done.steps), length-append s.steps (entering ∷ []))

  entering_at : (s2 : Records) → s2.steps ≡ s1.steps → slice_get s2.steps (length s.steps) ≡ Some entering
  entering_at s2 e = ap (λ z. slice_get z (length s.steps)) (e ∙ enters.done.steps) ∙ end-got s.steps entering

  -- the call there halted
  pub halted-vacant : (g : ℕ) (s2 : Records) → GoesOn l sites s1 slot u (passed.Halted g) s2 → IsVacant s2
  halted-vacant g s2 (c, between, found, group, made, returned) =
      let same : s2.steps ≡ s1.steps = returned.steps ∙ made.exchanges.steps in
      vacant s2 entering (count_of s2 same) (entering_at s2 same) refl
      (omega (arith, returned.tokens token_at, made.exchanges.tokens token_at, tokens_fed, this_is last u.step (sym step_of)))
      (omega (arith, returned.calls call_at, made.exchanges.calls call_at, calls_fed))
      (ap (weight group_in) (returned.groups ∙ made.exchanges.groups) ∙ groups_fed)

  -- or the `>x>` took its answer
  pub through-vacant : (s3 : Records) → GoesOn l sites s1 slot u passed.Through s3 → IsVacant s3
  through-vacant s3 (s2, w, v, g, (c, between, found, made, returned), stands, on, moves) =
      let sends = (sent_sends l s2 slot w s3 [] g (what_of (code l) (definitions l) s2 w) moves).1 in
      let step : w.step ≡ last = ap (λ (z : Token). z.step) (same_some w (answered between c v) (sym stands.0 ∙ returned.1.0)) ∙ made.step ∙ step_of in
      let out : is_this last sends.outer ≡ 0 = this_not last sends.outer (λ e.
      takes_outside (its_path (code l) s2 w.step) (its_path (code l) s2 sends.outer) sends.name _ sends.takes (ap (its_path (code l) s2) (sym e ∙ sym step))) in
      let same : s2.steps ≡ s1.steps = returned.0.steps ∙ made.exchanges.steps in
      let at = alike-step s2.steps s3.steps (sym sends.done.steps.alike) (length s.steps) entering (entering_at s2 same) in
      vacant s3 at.0 (bare-length s2.steps s3.steps sends.done.steps.alike ∙ count_of s2 same) at.1 (ap (λ (z : Step). opens z.entered) at.2)
      (omega (arith, sends.done.tokens token_at, out, this_is last w.step (sym step), returned.0.tokens token_at, one-most last c.step, made.exchanges.tokens token_at, tokens_fed, this_is last u.step (sym step_of)))
      (ap (weight call_at) sends.done.calls ∙ (let none : weight call_at s2.calls ≡ 0 = omega (arith, returned.0.calls call_at, made.exchanges.calls call_at, calls_fed) in none))
      (ap (weight group_in) (sends.done.groups ∙ returned.0.groups ∙ made.exchanges.groups) ∙ groups_fed)
