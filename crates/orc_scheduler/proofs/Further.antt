-- Each move of a token brings a run further, but where the token calls a site or waits.
use Rattle.std.proofs.Common.{◌≡◌, ◌≤◌, ℕ, List, [], refl, sym, ap, ◌∙◌, arith, false}
use Rattle.orc_rules.specs.declared.entry.Entry.{Entry}
use Rattle.orc_rules.specs.Nodes.{Listing, code, definitions}
use Rattle.orc_rules.specs.Sites.{Site}
use Rattle.orc_rules.specs.Term.{Term}
use Rattle.orc_env.specs.declared.names.Bound.{Bound}
use Rattle.orc_env.specs.declared.names.Scope.{Scope}
use Rattle.orc_frames.specs.Doing.{is_wait}
use Rattle.orc_frames.specs.declared.action.Action.{Action}
use Rattle.orc_frames.specs.declared.action.Action.TheVariants.{Halt, Fork, Seq, Prune, Other, Def, Void, Publish, Send, Bind, Call, Wait}
use Rattle.orc_indexes.specs.Same.{weight}
use Rattle.orc_tables.specs.declared.records.Call.{Call as Pending}
use Rattle.orc_tables.specs.declared.records.Group.{Group}
use Rattle.orc_tables.specs.declared.records.Step.{Step}
use Rattle.orc_tables.specs.declared.records.Token.{Token}
use Rattle.orc_indexes.proofs.Weight.{weight-but}
use Rattle.orc_ledger_spec.specs.Records.{Records}
use Rattle.orc_ledger_spec.specs.AtOnce.{IsCalled}
use Rattle.orc_ledger_spec.specs.Calls.{Turns, Crosses, Drops, Exchanges, Resumes, Closes, group_goes}
use Rattle.orc_ledger_spec.specs.Doing.{what_of}
use Rattle.orc_ledger_spec.specs.Moves.{Does, Moves}
use Rattle.orc_ledger_spec.specs.Passing.{Enters, Clears, Passes}
use Rattle.orc_ledger_spec.specs.Vacant.{Sheds}
use Rattle.orc_ledger_spec.specs.declared.results.Called.{Called}
use Rattle.orc_ledger_spec.specs.declared.results.Called.TheVariants as called
use Rattle.orc_ledger_spec.specs.declared.results.Moved.TheVariants as moved
use Rattle.orc_ledger_spec.specs.declared.results.Passed.{Passed}
use Rattle.orc_ledger_spec.specs.declared.results.Passed.TheVariants as passed
use Rattle.orc_ledger_spec.proofs.Cleared.{sent_sends}
use Rattle.orc_scheduler.specs.Stops.{Goes, Advances, open_groups}

abbrev one : Group → ℕ
one g = 1

turned : (s s' : Records) (t : Token) (births : List Token) (ss : List Scope) (ps : List Step) (gs : List Group) (cs : List Bound) (e : Entry) → Turns s s' t births ss ps gs cs e → weight one gs ≤ 1 → Advances s s'
turned s s' t births ss ps gs cs e h few = record { limit = h.limit; far = omega (arith, h.entries, h.groups one, few) }

crossed : (s s' : Records) (t : Token) (births : List Token) (ss : List Scope) (ns : List ℕ) (e : Entry) → Crosses s s' t births ss ns e → Advances s s'
crossed s s' t births ss ns e h = record { limit = h.limit; far = omega (arith, h.entries, ap (weight one) h.groups) }

pub dropped : (code : ℕ → Term) (c : ℕ) (u : Bound) (s s' : Records) → Drops code c u s s' → Advances s s'
dropped code c u s s' h = record { limit = h.limit; far = omega (arith, h.entries, h.groups one, weight-but (group_goes code c s) one s.groups) }

pub exchanged : (s s' : Records) (ts ts' : List Token) (cs cs' : List Pending) (made : ℕ) (e : Entry) → Exchanges s s' ts ts' cs cs' made e → Advances s s'
exchanged s s' ts ts' cs cs' made e h = record { limit = h.limit; far = omega (arith, h.entries, ap (weight one) h.groups) }

pub resumed : (s s' : Records) (g : Group) (n node scope : ℕ) → Resumes s s' g n node scope → Advances s s'
resumed s s' g n node scope h = record { limit = h.limit; far = omega (arith, h.entries, h.groups one) }

pub closed : (s s' : Records) (g : Group) → Closes s s' g → Advances s s'
closed s s' g h = record { limit = h.limit; far = omega (arith, h.entries, h.groups one) }

on_by : (l : Listing) (s : Records) (slot : ℕ) (t : Token) (s' : Records) (ks : List ℕ) (w : Action) → Does l s slot t s' ks w moved.On → Advances s s'
on_by l s slot t s' ks Halt h = absurd h
on_by l s slot t s' ks Fork h = absurd h
on_by l s slot t s' ks Seq h = turned _ _ _ _ _ _ _ _ _ h.done (omega arith)
on_by l s slot t s' ks Prune h = absurd h
on_by l s slot t s' ks Other h = turned _ _ _ _ _ _ _ _ _ h.done (omega arith)
on_by l s slot t s' ks Def h = turned _ _ _ _ _ _ _ _ _ h.done.5 (omega arith)
on_by l s slot t s' ks Void h = absurd h
on_by l s slot t s' ks (Publish v) h = absurd h
on_by l s slot t s' ks (Send v) h = absurd h
on_by l s slot t s' ks (Bind c v) h = absurd h
on_by l s slot t s' ks Call h = absurd h
on_by l s slot t s' ks (Wait c) h = absurd h

forked_by : (l : Listing) (s : Records) (slot : ℕ) (t : Token) (s' : Records) (ks : List ℕ) (right_slot : ℕ) (w : Action) → Does l s slot t s' ks w (moved.Forked right_slot) → Advances s s'
forked_by l s slot t s' ks right_slot Halt h = absurd h
forked_by l s slot t s' ks right_slot Fork h = turned _ _ _ _ _ _ _ _ _ h.done (omega arith)
forked_by l s slot t s' ks right_slot Seq h = absurd h
forked_by l s slot t s' ks right_slot Prune h = turned _ _ _ _ _ _ _ _ _ h.done (omega arith)
forked_by l s slot t s' ks right_slot Other h = absurd h
forked_by l s slot t s' ks right_slot Def h = absurd h
forked_by l s slot t s' ks right_slot Void h = absurd h
forked_by l s slot t s' ks right_slot (Publish v) h = absurd h
forked_by l s slot t s' ks right_slot (Send v) h = absurd h
forked_by l s slot t s' ks right_slot (Bind c v) h = absurd h
forked_by l s slot t s' ks right_slot Call h = absurd h
forked_by l s slot t s' ks right_slot (Wait c) h = absurd h

sent_by : (l : Listing) (s : Records) (slot : ℕ) (t : Token) (s' : Records) (ks : List ℕ) (g : ℕ) (w : Action) → Does l s slot t s' ks w (moved.Sent g) → Advances s s'
sent_by l s slot t s' ks g w h = crossed _ _ _ _ _ _ _ (sent_sends l s slot t s' ks g w h).1.done

gone_by : (l : Listing) (s : Records) (slot : ℕ) (t : Token) (s' : Records) (ks : List ℕ) (g : ℕ) (w : Action) → Does l s slot t s' ks w (moved.Gone g) → Advances s s'
gone_by l s slot t s' ks g Halt h = turned _ _ _ _ _ _ _ _ _ h.0 (omega arith)
gone_by l s slot t s' ks g Fork h = absurd h
gone_by l s slot t s' ks g Seq h = absurd h
gone_by l s slot t s' ks g Prune h = absurd h
gone_by l s slot t s' ks g Other h = absurd h
gone_by l s slot t s' ks g Def h = absurd h
gone_by l s slot t s' ks g Void h = turned _ _ _ _ _ _ _ _ _ h.0 (omega arith)
gone_by l s slot t s' ks g (Publish v) h = crossed _ _ _ _ _ _ _ h.0
gone_by l s slot t s' ks g (Send v) h = absurd h
gone_by l s slot t s' ks g (Bind c v) h = absurd h
gone_by l s slot t s' ks g Call h = absurd h
gone_by l s slot t s' ks g (Wait c) h = absurd h

bound_by : (l : Listing) (s : Records) (slot : ℕ) (t : Token) (s' : Records) (ks : List ℕ) (d g : ℕ) (w : Action) → Does l s slot t s' ks w (moved.Bound d g) → Advances s s'
bound_by l s slot t s' ks d g Halt h = absurd h
bound_by l s slot t s' ks d g Fork h = absurd h
bound_by l s slot t s' ks d g Seq h = absurd h
bound_by l s slot t s' ks d g Prune h = absurd h
bound_by l s slot t s' ks d g Other h = absurd h
bound_by l s slot t s' ks d g Def h = absurd h
bound_by l s slot t s' ks d g Void h = absurd h
bound_by l s slot t s' ks d g (Publish v) h = absurd h
bound_by l s slot t s' ks d g (Send v) h = absurd h
bound_by l s slot t s' ks d g (Bind c v) h = dropped _ _ _ _ _ h.0.done
bound_by l s slot t s' ks d g Call h = absurd h
bound_by l s slot t s' ks d g (Wait c) h = absurd h

waits_by : (l : Listing) (s : Records) (slot : ℕ) (t : Token) (s' : Records) (ks : List ℕ) (w : Action) → Does l s slot t s' ks w moved.Waits → (s' ≡ s) × (is_wait w ≡ false → w ≡ Def)
waits_by l s slot t s' ks Halt h = absurd h
waits_by l s slot t s' ks Fork h = absurd h
waits_by l s slot t s' ks Seq h = absurd h
waits_by l s slot t s' ks Prune h = absurd h
waits_by l s slot t s' ks Other h = absurd h
waits_by l s slot t s' ks Def h = (h.same, λ e. refl)
waits_by l s slot t s' ks Void h = absurd h
waits_by l s slot t s' ks (Publish v) h = absurd h
waits_by l s slot t s' ks (Send v) h = absurd h
waits_by l s slot t s' ks (Bind c v) h = absurd h
waits_by l s slot t s' ks Call h = absurd h
waits_by l s slot t s' ks (Wait c) h = (h, λ e. cc e)

module _ (l : Listing) (s : Records) (slot : ℕ) (t : Token) (s' : Records) (ks : List ℕ) where
  pub on-further : Moves l s slot t moved.On ks s' → Advances s s'
  on-further h = on_by l s slot t s' ks (what_of (code l) (definitions l) s t) h

  pub forked-further : (right_slot : ℕ) → Moves l s slot t (moved.Forked right_slot) ks s' → Advances s s'
  forked-further right_slot h = forked_by l s slot t s' ks right_slot (what_of (code l) (definitions l) s t) h

  pub sent-further : (g : ℕ) → Moves l s slot t (moved.Sent g) ks s' → Advances s s'
  sent-further g h = sent_by l s slot t s' ks g (what_of (code l) (definitions l) s t) h

  pub gone-further : (g : ℕ) → Moves l s slot t (moved.Gone g) ks s' → Advances s s'
  gone-further g h = gone_by l s slot t s' ks g (what_of (code l) (definitions l) s t) h

  pub bound-further : (d g : ℕ) → Moves l s slot t (moved.Bound d g) ks s' → Advances s s'
  bound-further d g h = bound_by l s slot t s' ks d g (what_of (code l) (definitions l) s t) h

  -- a token that waits stays
  pub waits-so : Moves l s slot t moved.Waits ks s' → s' ≡ s
  waits-so h = (waits_by l s slot t s' ks (what_of (code l) (definitions l) s t) h).0

pub goes-on : (s s' s'' : Records) → Advances s s' → Goes s' s'' → Advances s s''
goes-on s s' s'' a g = record { limit = g.limit ∙ a.limit; far = omega (arith, a.far, g.far) }

pub gone-on : (s s' s'' : Records) → Goes s s' → Advances s' s'' → Advances s s''
gone-on s s' s'' g a = record { limit = a.limit ∙ g.limit; far = omega (arith, a.far, g.far) }

pub further-still : (s s' s'' : Records) → Advances s s' → Advances s' s'' → Advances s s''
further-still s s' s'' a b = record { limit = b.limit ∙ a.limit; far = omega (arith, a.far, b.far) }

pub stays : (s s' : Records) → s' ≡ s → Goes s s'
stays s s' e = record { limit = ap (λ (z : Records). z.limit) e; far = omega (arith, ap (λ (z : Records). z.entries) e, ap open_groups e) }

-- a call of a site that is made, or made and answered
pub called-further : (l : Listing) (sites : List Site) (s : Records) (slot : ℕ) (t : Token) (c : Called) (s' : Records) → IsCalled l sites s slot t c s' → Advances s s'
called-further l sites s slot t (called.Pends k) s' (c, number, made) = exchanged _ _ _ _ _ _ _ _ made.exchanges
called-further l sites s slot t (called.Answered v) s' (c, between, found, made, answered) = further-still s between s' (exchanged _ _ _ _ _ _ _ _ made.exchanges) (exchanged _ _ _ _ _ _ _ _ answered.0)
called-further l sites s slot t (called.Halted g) s' (c, between, found, group, made, answered) = further-still s between s' (exchanged _ _ _ _ _ _ _ _ made.exchanges) (exchanged _ _ _ _ _ _ _ _ answered)

-- a token that entered the left side of a `>x>` and made the call there
pub pends-further : (l : Listing) (sites : List Site) (s : Records) (slot : ℕ) (t : Token) (k : ℕ) (s' : Records) → Enters l sites s slot t (passed.Pends k) s' → Advances s s'
pends-further l sites s slot t k s' (s1, u, enters, held, h) = further-still s s1 s' (turned _ _ _ _ _ _ _ _ _ enters.done (omega arith)) (called-further l sites s1 slot u (called.Pends k) s' h)

pub answered-further : (l : Listing) (sites : List Site) (s : Records) (slot : ℕ) (t : Token) (s' : Records) → Enters l sites s slot t passed.Answered s' → Advances s s'
answered-further l sites s slot t s' (s1, u, enters, held, (v, h)) = further-still s s1 s' (turned _ _ _ _ _ _ _ _ _ enters.done (omega arith)) (called-further l sites s1 slot u (called.Answered v) s' h)

-- a step that goes changes nothing of that
shed : (s s' s'' : Records) → Advances s s' → Sheds s' s'' → Advances s s''
shed s s' s'' a gone = record { limit = sym (ap (λ (z : Records). z.limit) gone.rest) ∙ a.limit; far = omega (arith, a.far, ap (λ (z : Records). z.entries) gone.rest, ap open_groups gone.rest) }

pub halted-further : (l : Listing) (sites : List Site) (s : Records) (slot : ℕ) (t : Token) (g : ℕ) (s' : Records) → Clears l sites s slot t (passed.Halted g) s' → Advances s s'
halted-further l sites s slot t g s' (s2, (s1, u, enters, held, h), gone) =
    shed s s2 s' (further-still s s1 s2 (turned _ _ _ _ _ _ _ _ _ enters.done (omega arith)) (called-further l sites s1 slot u (called.Halted g) s2 h)) gone

-- and whose answer was taken
pub through-further : (l : Listing) (sites : List Site) (s : Records) (slot : ℕ) (t : Token) (s' : Records) → Clears l sites s slot t passed.Through s' → Advances s s'
through-further l sites s slot t s' (s3, (s1, u, enters, held, (s2, w, v, g, h, stands, on, moves)), gone) =
    shed s s3 s'
    (further-still s s1 s3 (turned _ _ _ _ _ _ _ _ _ enters.done (omega arith))
    (further-still s1 s2 s3 (called-further l sites s1 slot u (called.Answered v) s2 h) (sent-further l s2 slot w s3 [] g moves)))
    gone

-- a token at `f >x> g` that neither calls nor waits
pub passes-further : (l : Listing) (sites : List Site) (s : Records) (slot : ℕ) (t : Token) (p : Passed) (ks : List ℕ) (s' : Records) → (p ≡ passed.Calls → ⊥) → (p ≡ passed.Waits → ⊥) → Passes l sites s slot t p ks s' → Advances s s'
passes-further l sites s slot t passed.On ks s' nc nw h = on-further l s slot t s' ks h
passes-further l sites s slot t (passed.Forked k) ks s' nc nw h = forked-further l s slot t s' ks k h
passes-further l sites s slot t (passed.Sent g) ks s' nc nw h = sent-further l s slot t s' ks g h
passes-further l sites s slot t (passed.Gone g) ks s' nc nw h = gone-further l s slot t s' ks g h
passes-further l sites s slot t (passed.Bound c g) ks s' nc nw h = bound-further l s slot t s' ks c g h
passes-further l sites s slot t passed.Calls ks s' nc nw h = absurd (nc refl)
passes-further l sites s slot t passed.Waits ks s' nc nw h = absurd (nw refl)
passes-further l sites s slot t (passed.Pends k) ks s' nc nw h = pends-further l sites s slot t k s' h
passes-further l sites s slot t passed.Answered ks s' nc nw h = answered-further l sites s slot t s' h
passes-further l sites s slot t (passed.Halted g) ks s' nc nw h = halted-further l sites s slot t g s' h
passes-further l sites s slot t passed.Through ks s' nc nw h = through-further l sites s slot t s' h
