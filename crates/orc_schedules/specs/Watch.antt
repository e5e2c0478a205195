-- What of a run a claim depends on, and which claims a search can watch for.
use Rattle.std.specs.Prelude.{◌≡◌, ◌<◌, ◌≤◌, ◌+◌, ◌-◌, ◌^◌, ℕ, min, List, [], ◌∷◌, ◌++◌, Option, Some, None, Bool, true, false, cond, ◌&&◌, ◌||◌, map, nat_eq}
use Rattle.orc_rules.specs.declared.entry.State.{State}
use Rattle.orc_rules.specs.declared.entry.State.TheVariants as state
use Rattle.orc_outcome.specs.declared.end.End.{End}
use Rattle.orc_outcome.specs.declared.end.End.TheVariants.{Halted, Quiet, Limit, Full, Memory}
use Rattle.orc_claims.specs.Claims.{holds}
use Rattle.orc_claims.specs.declared.claim.Claim.{Claim}
use Rattle.orc_claims.specs.declared.claim.Condition.{Condition}
use Rattle.orc_claims.specs.declared.claim.Plain.{Plain}
use Rattle.orc_claims.specs.declared.claim.Plain.TheVariants.{Count, AtOnce, OnlyAfter, NoneAfter, EachThen, Ends, InOrder, InAnyOrder, OneOf}
use Rattle.orc_claims.specs.declared.claim.Simple.{Simple}
use Rattle.orc_claims.specs.declared.claim.Simple.TheVariants as simple
use Rattle.orc_claims.specs.declared.claim.Slot.TheVariants.{Any}
use Rattle.orc_claims.specs.declared.claim.Wanted.{Wanted}
use Rattle.orc_claims.specs.declared.claim.Wanted.TheVariants as wanted
use Rattle.orc_claims.specs.declared.happening.Happening.{Happening}
use Rattle.orc_claims.specs.declared.happening.Occurrence.{Occurrence}
use Rattle.orc_claims.specs.declared.happening.Occurrence.TheVariants as what
use Rattle.orc_claims.specs.declared.happening.Phase.{Phase}
use Rattle.orc_claims.specs.declared.happening.Phase.TheVariants as phase

-- ---- what is named

-- whether the same became of a call as was wanted, whatever is answered; a cancel is never the same
abbrev pub is_same_phase : Wanted → Phase → Bool
is_same_phase wanted.Called phase.Called = true
is_same_phase (wanted.Answered s) (phase.Answered v) = true
is_same_phase wanted.Halted phase.Halted = true
is_same_phase _ _ = false

-- whether this names what happened: a call of the same site of which the same became, or a publication. Arguments and values don't matter.
abbrev pub names_it : Simple → Occurrence → Bool
names_it (simple.Call m slots w) (what.Call n args p) = nat_eq m n && is_same_phase w p
names_it (simple.Published s) (what.Published v) = true
names_it _ _ = false

-- whether one of these does
abbrev pub is_named : List Simple → Occurrence → Bool
is_named [] w = false
is_named (s ∷ ss) w = names_it s w || is_named ss w

-- these with this one in front, if it is named
abbrev pub add_named : Bool → Occurrence → List Occurrence → List Occurrence
add_named b w ws = cond b (w ∷ ws) ws

-- those that are named, in their order
abbrev pub named : List Simple → List Occurrence → List Occurrence
named ss [] = []
named ss (w ∷ ws) = add_named (is_named ss w) w (named ss ws)

-- both name the same
abbrev pub NameSame : List Simple → List Simple → Type 0
NameSame ss ts = (w : Occurrence) → is_named ss w ≡ is_named ts w

-- ---- what a claim names

-- any publication
abbrev pub publications : List Simple
publications = simple.Published Any ∷ []

-- what the events of a claim without conditions name; of a claim about publications, any one
abbrev pub watched_plain : Plain → List Simple
watched_plain (Count e low most by) = e.alternatives.items
watched_plain (AtOnce e most) = e.alternatives.items
watched_plain (OnlyAfter e f) = e.alternatives.items ++ f.alternatives.items
watched_plain (NoneAfter e f) = e.alternatives.items ++ f.alternatives.items
watched_plain (EachThen e f within) = e.alternatives.items ++ f.alternatives.items
watched_plain (Ends halted quiet by) = []
watched_plain (InOrder vs) = publications
watched_plain (InAnyOrder vs) = publications
watched_plain (OneOf vs) = publications

-- what the events of conditions name
abbrev pub watched_conditions : List Condition → List Simple
watched_conditions [] = []
watched_conditions (c ∷ cs) = c.event.alternatives.items ++ watched_conditions cs

-- all that a claim's events name, those of its conditions too
abbrev pub watched : Claim → List Simple
watched c = watched_plain c.plain ++ watched_conditions c.conditions.items

-- ---- claims that a search can watch for

-- a cancel isn't wanted
abbrev pub is_seen : Wanted → Bool
is_seen wanted.Cancelled = false
is_seen _ = true

-- a search can see what this names
abbrev pub sees : Simple → Bool
sees (simple.Call m slots w) = is_seen w
sees (simple.Published s) = true

-- none of these is a cancel
abbrev pub all_seen : List Simple → Bool
all_seen [] = true
all_seen (s ∷ ss) = sees s && all_seen ss

-- a claim without conditions doesn't count the calls that are pending at once
abbrev pub counts_none_out : Plain → Bool
counts_none_out (AtOnce e most) = false
counts_none_out _ = true

-- whether a search can watch for a claim: it asks for no cancel, and doesn't count the calls that are pending at once
abbrev pub is_watchable : Claim → Bool
is_watchable c = counts_none_out c.plain && all_seen (watched c)

-- ---- the times that a claim tells apart

-- the last time that there is
abbrev pub last_time : ℕ
last_time = 2 ^ 64 - 1

-- the latest time that a `by` tells apart, the first one after it; without a `by` no times are told apart
abbrev pub latest_by : Option ℕ → ℕ
latest_by None = 0
latest_by (Some by) = min (by + 1) last_time

-- the latest time that a `within` tells apart: all are told apart, since it may count from any of them
abbrev pub latest_within : Option ℕ → ℕ
latest_within None = 0
latest_within (Some within) = last_time

-- the latest time that a claim without conditions tells apart
abbrev pub latest_of_plain : Plain → ℕ
latest_of_plain (Count e low most by) = latest_by by
latest_of_plain (EachThen e f within) = latest_within within
latest_of_plain (Ends halted quiet by) = latest_by by
latest_of_plain _ = 0

-- a claim tells times apart up to this one: later ones are to it as this one is
abbrev pub latest_of : Claim → ℕ
latest_of c = latest_of_plain c.plain

-- what a search keeps for a claim: what happens that these name, and times up to the latest
pub record Watched : Type 0 where
  pub names : List Simple
  pub latest : ℕ

-- what a search keeps for a claim, where it can watch for it
abbrev pub IsWatchOf : Claim → Option Watched → Type 0
IsWatchOf c (Some w) = (is_watchable c ≡ true) × NameSame w.names (watched c) × (w.latest ≡ latest_of c)
IsWatchOf c None = is_watchable c ≡ false

-- ---- what a claim depends on

-- these occurrences as happenings at this time
abbrev pub all_at : ℕ → List Occurrence → List Happening
all_at t ws = map (λ (w : Occurrence). record { time = t; what = w }) ws

-- what happened, as far as times are told apart
abbrev pub told_until : ℕ → Happening → Happening
told_until latest h = record { time = min h.time latest; what = h.what }

-- these with this one in front, if it is named
abbrev pub add_happening : Bool → Happening → List Happening → List Happening
add_happening b h hs = cond b (h ∷ hs) hs

-- those that are named, in their order, with their times as far as these are told apart
abbrev pub named_until : List Simple → ℕ → List Happening → List Happening
named_until ss latest [] = []
named_until ss latest (h ∷ hs) = add_happening (is_named ss h.what) (told_until latest h) (named_until ss latest hs)

-- all of these happened by this time
abbrev pub HappenedBy : ℕ → List Happening → Type 0
HappenedBy now [] = Unit {0}
HappenedBy now (h ∷ hs) = (h.time ≤ now) × HappenedBy now hs

-- where a run stands that ended so; one that was cut is still running
abbrev pub state_of_end : End → State
state_of_end Halted = state.Halted
state_of_end Quiet = state.Quiet
state_of_end Limit = state.Running
state_of_end Full = state.Running
state_of_end Memory = state.Running

-- whether a claim that a search can watch for holds in a run depends only on what its events name, and on the times that it tells apart
abbrev pub HoldsByWatched : Type 0
HoldsByWatched = (c : Claim) (hs : List Happening) (end : State) (now : ℕ) → is_watchable c ≡ true → HappenedBy now hs → now < 2 ^ 64
    → holds c hs end now ≡ holds c (named_until (watched c) (latest_of c) hs) end (min now (latest_of c))
