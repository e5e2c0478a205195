-- Which happenings meet an event, and which values they give its variables.
use Rattle.std.specs.Prelude.{ℕ, List, [], ◌∷◌, ◌++◌, Option, Some, None, Bool, cond, nat_eq, is_some, option_and_then}
use Rattle.orc_rules.specs.Sites.{value_eq}
use Rattle.orc_rules.specs.declared.value.Value.{Value}
use Rattle.orc_claims.specs.declared.claim.Slot.{Slot}
use Rattle.orc_claims.specs.declared.claim.Slot.TheVariants.{Any, Literal, Variable}
use Rattle.orc_claims.specs.declared.claim.Wanted.{Wanted}
use Rattle.orc_claims.specs.declared.claim.Wanted.TheVariants as wanted
use Rattle.orc_claims.specs.declared.claim.Simple.{Simple}
use Rattle.orc_claims.specs.declared.claim.Simple.TheVariants as simple
use Rattle.orc_claims.specs.declared.happening.Phase.{Phase}
use Rattle.orc_claims.specs.declared.happening.Phase.TheVariants as phase
use Rattle.orc_claims.specs.declared.claim.Event.{Event}
use Rattle.orc_claims.specs.declared.happening.Happening.{Happening}
use Rattle.orc_claims.specs.declared.happening.Occurrence.{Occurrence}
use Rattle.orc_claims.specs.declared.happening.Occurrence.TheVariants as what
use Rattle.orc_claims.specs.declared.event_match.Bound.{Bound}

-- the value that a variable has
abbrev pub value_in : List Bound → ℕ → Option Value
value_in [] x = None
value_in (b ∷ bs) x = cond (nat_eq b.variable x) (Some b.value) (value_in bs x)

-- a variable that has this value may only have it again; one that has none gets it
abbrev pub bound_to : Option Value → ℕ → Value → List Bound → Option (List Bound)
bound_to None x v given = Some (given ++ record { variable = x; value = v } ∷ [])
bound_to (Some w) x v given = cond (value_eq w v) (Some given) None

-- the values of the variables where a value stands in a slot; None where it can't
abbrev pub fit : Slot → Value → List Bound → Option (List Bound)
fit Any v given = Some given
fit (Literal w) v given = cond (value_eq w v) (Some given) None
fit (Variable x) v given = bound_to (value_in given x) x v given

-- arguments in slots, one by one
abbrev pub fit_all : List Slot → List Value → List Bound → Option (List Bound)
fit_all [] [] given = Some given
fit_all (s ∷ ss) (v ∷ vs) given = option_and_then (fit_all ss vs) (fit s v given)
fit_all _ _ given = None

-- what became of a call, where that was wanted
abbrev pub fit_phase : Wanted → Phase → List Bound → Option (List Bound)
fit_phase wanted.Called phase.Called given = Some given
fit_phase (wanted.Answered s) (phase.Answered v) given = fit s v given
fit_phase wanted.Halted phase.Halted given = Some given
fit_phase wanted.Cancelled phase.Cancelled given = Some given
fit_phase _ _ given = None

-- the values with which a happening meets one thing that may happen; None where it doesn't
abbrev pub meets_one : Simple → Occurrence → List Bound → Option (List Bound)
meets_one (simple.Call m slots w) (what.Call n args p) given = cond (nat_eq m n) (option_and_then (fit_phase w p) (fit_all slots.items args given)) None
meets_one (simple.Published s) (what.Published v) given = fit s v given
meets_one _ _ given = None

-- the first one if there is one, and otherwise the other
abbrev pub first_of : Option (List Bound) → Option (List Bound) → Option (List Bound)
first_of None other = other
first_of (Some given) other = Some given

-- the values with which a happening meets an event: the first thing that it meets gives them
abbrev pub meets_any : List Simple → Occurrence → List Bound → Option (List Bound)
meets_any [] w given = None
meets_any (s ∷ ss) w given = first_of (meets_one s w given) (meets_any ss w given)

-- the values with which a happening meets an event, where variables have these; None where it doesn't
abbrev pub meets : Event → Happening → List Bound → Option (List Bound)
meets e h given = meets_any e.alternatives.items h.what given

-- whether it meets the event, with any values
abbrev pub is_met : Event → Happening → Bool
is_met e h = is_some (meets e h [])
