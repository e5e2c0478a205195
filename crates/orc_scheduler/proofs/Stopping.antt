-- Why a run stops, by what the ledger refuses; and that it comes to an end.
use Rattle.std.proofs.Common.{◌≡◌, ◌≤◌, ◌<◌, ◌+◌, ◌*◌, ℕ, zero, suc, Option, Some, None, Result, Ok, Err, IfOk, IfErr, Bool, true, false, cond, refl, sym, ap, subst, ◌∙◌, arith, inl, inr}
use Rattle.std.specs.Prelude.{nat_lt}
use Rattle.std.proofs.lemmas.Bool.{ltb-false}
use Rattle.std.proofs.Math.Nat.{mul-le-mul_left}
use Rattle.orc_rules.specs.Nodes.{Listing, code, definitions}
use Rattle.orc_rules.specs.Term.{Term, par}
use Rattle.orc_rules.specs.declared.value.Answer.{Answer}
use Rattle.orc_rules.specs.declared.value.Answer.TheVariants as answer
use Rattle.orc_frames.specs.declared.action.Action.{Action}
use Rattle.orc_frames.specs.declared.action.Action.TheVariants.{Halt, Fork, Seq, Prune, Other, Def, Void, Publish, Send, Bind, Call, Wait}
use Rattle.orc_tables.specs.PendingCalls.{next_due}
use Rattle.orc_tables.specs.declared.records.Call.{Call as Pending}
use Rattle.orc_tables.specs.declared.records.Group.{Group}
use Rattle.orc_tables.specs.declared.records.Side.{Side}
use Rattle.orc_tables.specs.declared.records.Side.TheVariants.{Right, Left}
use Rattle.orc_tables.specs.declared.records.Token.{Token}
use Rattle.orc_tables.proofs.Ripe.{next_some}
use Rattle.orc_ledger_spec.specs.Records.{Records}
use Rattle.orc_ledger_spec.specs.Answers.{IsReturned, IsStopped}
use Rattle.orc_ledger_spec.specs.Brought.{FullIsCrowded}
use Rattle.orc_ledger_spec.specs.Calls.{IsRefused}
use Rattle.orc_ledger_spec.specs.Halting.{HasHalted, Becomes, IsRefusedAt, IsHinderedAt}
use Rattle.orc_ledger_spec.specs.Moves.{Hinders, IsHindered, StandsAt}
use Rattle.orc_ledger_spec.specs.Doing.{what_of}
use Rattle.orc_ledger_spec.specs.Next.{members, numbers_of, ready, empty_groups, is_empty, next_at, next_by, work, ticks}
use Rattle.orc_ledger_spec.specs.declared.results.Halted.{Halted}
use Rattle.orc_ledger_spec.specs.declared.results.Halted.TheVariants.{Lost, Resumed, Closed}
use Rattle.orc_ledger_spec.specs.declared.faults.HaltFault.TheVariants.{Refused}
use Rattle.orc_ledger_spec.specs.declared.faults.LedgerFault.{LedgerFault}
use Rattle.orc_ledger_spec.specs.declared.faults.LedgerFault.TheVariants as fault
use Rattle.orc_ledger_spec.proofs.Advancing.{word-par, hindered-by}
use Rattle.orc_ledger_spec.proofs.Claiming.{never-hinders}
use Rattle.orc_scheduler.specs.declared.scheduler.Stop.TheVariants as stop
use Rattle.orc_scheduler.specs.Stops.{Advances, HasSpread, IsNearer, IsAtWork, NoneIsDue, Stops, left}
use Rattle.orc_scheduler.proofs.Further.{further-still, exchanged, dropped, resumed, closed}

-- ---- what the ledger refuses

limited_by : (s : Records) (t : Token) (w : Action) → Hinders s t w fault.Limit → s.limit ≤ s.entries
limited_by s t Halt h = h.1
limited_by s t Fork h = h.1
limited_by s t Seq h = h.1
limited_by s t Prune h = h.1
limited_by s t Other h = h.1
limited_by s t Def h = h.1
limited_by s t Void h = h.1
limited_by s t (Publish v) h = h.1
limited_by s t (Send v) h = h.1
limited_by s t (Bind c v) h = h.1
limited_by s t Call h = absurd h
limited_by s t (Wait c) h = absurd h

pub hindered : (l : Listing) (s s' : Records) (t : Token) (f : LedgerFault) → s' ≡ s → FullIsCrowded l s' → IsHindered l s t f → Stops l s' (stop.Refused f)
hindered l s s' t f same law h = go f (subst (λ z. IsHindered l z t f) (sym same) h)
  where
    go : (f : LedgerFault) → IsHindered l s' t f → Stops l s' (stop.Refused f)
    go fault.Full k = law.moves t k
    go fault.Limit k = limited_by s' t (what_of (code l) (definitions l) s' t) k
    go fault.Memory k = tt
    go fault.Unclaimed k = absurd (never-hinders s' t (what_of (code l) (definitions l) s' t) k)

-- where a token stands at `f | g`
pub fork-refused : (l : Listing) (s s' : Records) (t : Token) (scope first second : ℕ) (f : LedgerFault) → StandsAt l t scope (par (code l first) (code l second)) → s' ≡ s → FullIsCrowded l s' → IsRefused s 1 0 0 f → Stops l s' (stop.Refused f)
fork-refused l s s' t scope first second f at same law h = hindered l s s' t f same law (hindered-by l s t f Fork (word-par l s t scope (code l first) (code l second) at) h)

limited_at : (s : Records) (side : Side) → IsRefusedAt s side fault.Limit → s.limit ≤ s.entries
limited_at s (Right c) h = h.1
limited_at s (Left n node scope) h = h.1.1

unclaimed_at : (s : Records) (side : Side) → IsRefusedAt s side fault.Unclaimed → ⊥
unclaimed_at s (Right c) h = h
unclaimed_at s (Left n node scope) h = h.1

pub unhalted : (l : Listing) (s s' : Records) (number : ℕ) (f : LedgerFault) → s' ≡ s → FullIsCrowded l s' → IsHinderedAt s number (Refused f) → Stops l s' (stop.Refused f)
unhalted l s s' number f same law h = go f (subst (λ z. IsHinderedAt z number (Refused f)) (sym same) h)
  where
    go : (f : LedgerFault) → IsHinderedAt s' number (Refused f) → Stops l s' (stop.Refused f)
    go fault.Full k = law.halts number k
    go fault.Limit k = limited_at s' k.0.side k.3
    go fault.Memory k = tt
    go fault.Unclaimed k = unclaimed_at s' k.0.side k.3

pub stopped : (l : Listing) (s s' : Records) (f : LedgerFault) → s' ≡ s → IsStopped s f → Stops l s' (stop.Refused f)
stopped l s s' fault.Full same h = absurd h
stopped l s s' fault.Limit same h = subst (λ z. Stops l z (stop.Refused fault.Limit)) (sym same) h
stopped l s s' fault.Memory same h = tt
stopped l s s' fault.Unclaimed same h = absurd h

pub refused-so : (l : Listing) (s s' : Records) (f : LedgerFault) → s' ≡ s → FullIsCrowded l s' → IsRefused s 0 0 0 f → Stops l s' (stop.Refused f)
refused-so l s s' f same law h = go f (subst (λ z. IsRefused z 0 0 0 f) (sym same) h)
  where
    go : (f : LedgerFault) → IsRefused s' 0 0 0 f → Stops l s' (stop.Refused f)
    go fault.Full k = law.calls k
    go fault.Limit k = k.1
    go fault.Memory k = tt
    go fault.Unclaimed k = absurd k

-- ---- halts and answers

halted_by : (code : ℕ → Term) (s s' : Records) (g : Group) (h : Halted) → Becomes code s s' g h → Advances s s'
halted_by code s s' g (Lost cell parent) b = dropped _ _ _ _ _ b.done
halted_by code s s' g (Resumed slot) b = resumed _ _ _ _ _ _ b.done
halted_by code s s' g (Closed parent) b = closed _ _ _ b.done

pub halted-further : (code : ℕ → Term) (s s' : Records) (number : ℕ) (h : Halted) → HasHalted code s s' number h → Advances s s'
halted-further code s s' number h d = halted_by code s s' d.group h d.becomes

pub answered-further : (s s' : Records) (c : Pending) (a : Answer) (slot : Option ℕ) → IsReturned s c a slot s' → Advances s s'
answered-further s s' c (answer.Value v) (Some slot) h = exchanged _ _ _ _ _ _ _ _ h.0
answered-further s s' c (answer.Value v) None h = absurd h
answered-further s s' c answer.Halt (Some slot) h = absurd h
answered-further s s' c answer.Halt None h = exchanged _ _ _ _ _ _ _ _ h

-- ---- where nothing moves

at_work : (now : ℕ) (o : Option ℕ) → next_at now o ≡ work → (t : ℕ) × (o ≡ Some t) × (t ≤ now)
at_work now None h = cc h
at_work now (Some t) h = go (nat_lt now t) refl h
  where
    go : (b : Bool) → nat_lt now t ≡ b → cond b (ticks t) work ≡ work → (u : ℕ) × (Some t ≡ Some u) × (u ≤ now)
    go true e h = cc h
    go false e h = (t, refl, ltb-false now t e)

none_left : (k now : ℕ) (o : Option ℕ) → k ≡ 0 → next_by k now o ≡ work → next_at now o ≡ work
none_left zero now o e h = h
none_left (suc k) now o e h = absurd (omega (arith, e))

empty_not : (k : ℕ) → (k ≡ 0 → ⊥) → is_empty k ≡ 0
empty_not zero h = absurd (h refl)
empty_not (suc k) h = refl

-- work that is left has a cause
pub work-is-found : (l : Listing) (s : Records) → NoneIsDue s → IsAtWork l s → ready (code l) (definitions l) s ≡ 0 → empty_groups (numbers_of s) s ≡ 0 → ⊥
work-is-found l s due at none_ready none_empty =
    let root : is_empty (members (numbers_of s) s 0) ≡ 0 = empty_not (members (numbers_of s) s 0) at.1 in
    let o = at_work s.now (next_due s.calls) (none_left (ready (code l) (definitions l) s + (is_empty (members (numbers_of s) s 0) + empty_groups (numbers_of s) s)) s.now (next_due s.calls) (omega (arith, none_ready, none_empty, root)) at.0) in
    let c = next_some s.calls o.0 o.1 in
    due c.0 o.0 c.1 c.2 o.2

-- ---- it ends

lower : (k p p' n n' : ℕ) → p' < p → n' < k → k * p' + n' < k * p + n
lower k p p' n n' less few = omega (arith, mul-le-mul_left k less, few)

pub nearer-end : (k : ℕ) (s s' : Records) (n n' : ℕ) → IsNearer s n s' n' → s'.entries ≤ s'.limit → n' < k → k * left s' + n' < k * left s + n
nearer-end k s s' n n' (inl a) within few = lower k (left s) (left s') n n' (omega (arith, a.limit, a.far, within)) few
nearer-end k s s' n n' (inr (same, fewer)) within few = omega (arith, ap (λ z. k * left z) same, fewer)

pub spread-on : (s s' s'' : Records) (n n' n'' : ℕ) → HasSpread s n s' n' → HasSpread s' n' s'' n'' → HasSpread s n s'' n''
spread-on s s' s'' n n' n'' (inl a) (inl b) = inl (further-still s s' s'' a b)
spread-on s s' s'' n n' n'' (inl a) (inr (same, few)) = inl (subst (Advances s) (sym same) a)
spread-on s s' s'' n n' n'' (inr (same, few)) (inl b) = inl (subst (λ z. Advances z s'') same b)
spread-on s s' s'' n n' n'' (inr (same, few)) (inr (still, fewer)) = inr (still ∙ same, omega (arith, few, fewer))

-- what is said of a result's value, weaker
pub weaker : {X E : Type 0} (r : Result X E) (A B : X → Type 0) → ((x : X) → A x → B x) → IfOk r A → IfOk r B
weaker (Ok x) A B f h = f x h
weaker (Err e) A B f h = tt

-- and of its error
pub weaker-fault : {X E : Type 0} (r : Result X E) (A B : E → Type 0) → ((e : E) → A e → B e) → IfErr r A → IfErr r B
weaker-fault (Ok x) A B f h = tt
weaker-fault (Err e) A B f h = f e h
