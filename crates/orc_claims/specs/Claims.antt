-- What a claim says of a run: of its happenings, how it ended, and when.
use Rattle.std.specs.Prelude.{ℕ, suc, ◌-◌, leb, List, [], ◌∷◌, ◌++◌, Option, Some, None, Bool, true, false, cond, not, ◌&&◌, ◌||◌, is_some, length, count_by, nat_eq}
use Rattle.orc_rules.specs.Sites.{value_eq, matches}
use Rattle.orc_rules.specs.declared.value.Value.{Value}
use Rattle.orc_rules.specs.declared.entry.State.{State}
use Rattle.orc_rules.specs.declared.entry.State.TheVariants as state
use Rattle.orc_claims.specs.declared.claim.Event.{Event}
use Rattle.orc_claims.specs.declared.claim.Plain.{Plain}
use Rattle.orc_claims.specs.declared.claim.Plain.TheVariants.{Count, AtOnce, OnlyAfter, NoneAfter, EachThen, Ends, InOrder, InAnyOrder, OneOf}
use Rattle.orc_claims.specs.declared.claim.Condition.{Condition}
use Rattle.orc_claims.specs.declared.claim.Claim.{Claim}
use Rattle.orc_claims.specs.declared.happening.Phase.TheVariants as phase
use Rattle.orc_claims.specs.declared.happening.Occurrence.{Occurrence}
use Rattle.orc_claims.specs.declared.happening.Occurrence.TheVariants as what
use Rattle.orc_claims.specs.declared.happening.Happening.{Happening}
use Rattle.orc_claims.specs.declared.event_match.Bound.{Bound}
use Rattle.orc_claims.specs.Meets.{meets, is_met}

-- at this time at the latest, where there is a latest time; so many at most, where there is a greatest number
abbrev pub up_to : Option ℕ → ℕ → Bool
up_to None t = true
up_to (Some most) t = leb t most

-- whether a happening counts: it meets the event, and isn't later than `by`
abbrev pub counts : Event → Option ℕ → Happening → Bool
counts e by h = is_met e h && up_to by h.time

-- how many count
abbrev pub number : Event → Option ℕ → List Happening → ℕ
number e by hs = count_by (counts e by) hs

-- how many calls that meet the event pend: one more than n if such a call is made, one less if such a call ends
abbrev pub out_by : Event → ℕ → Happening → Occurrence → ℕ
out_by e n h (what.Call m args phase.Called) = cond (is_met e h) (suc n) n
out_by e n h (what.Call m args p) = cond (is_met e (record { time = h.time; what = what.Call m args phase.Called })) (n - 1) n
out_by e n h (what.Published v) = n

-- how many calls that meet the event pend after h, where n did before it
abbrev pub out_after : Event → ℕ → Happening → ℕ
out_after e n h = out_by e n h h.what

-- how many calls that meet the event pend after these happenings, where so many did before
abbrev pub out : Event → ℕ → List Happening → ℕ
out e n [] = n
out e n (h ∷ hs) = out e (out_after e n h) hs

-- one of these happenings meets the event with these values, at most `most` units after the time `since`
abbrev pub any_meets : Event → List Bound → ℕ → Option ℕ → List Happening → Bool
any_meets e given since most [] = false
any_meets e given since most (h ∷ hs) = (is_some (meets e h given) && up_to most (h.time - since)) || any_meets e given since most hs

-- the happening meets the event with these values, where there are some
abbrev pub is_met_with : Event → Happening → Option (List Bound) → Bool
is_met_with e h None = false
is_met_with e h (Some given) = is_some (meets e h given)

-- one of these meets the event f, with whose values the happening meets e
abbrev pub any_forbids : Event → Happening → Event → List Happening → Bool
any_forbids e h f [] = false
any_forbids e h f (x ∷ xs) = is_met_with e h (meets f x []) || any_forbids e h f xs

-- What a form of claim asks of a happening h, with those before it and those behind it.

-- h doesn't count, or no more than `most` happenings count up to h
abbrev pub is_counted : Event → Option ℕ → Option ℕ → List Happening → Happening → List Happening → Bool
is_counted e most by before h behind = not (counts e by h) || up_to most (suc (number e by before))

-- no more than `most` calls pend after h
abbrev pub is_uncrowded : Event → ℕ → List Happening → Happening → List Happening → Bool
is_uncrowded e most before h behind = leb (out_after e (out e 0 before) h) most

-- true if an event isn't met, otherwise what p says of the values with which it is met
abbrev pub if_met : Option (List Bound) → (List Bound → Bool) → Bool
if_met None p = true
if_met (Some given) p = p given

-- if h meets e, one before it met f with the same values
abbrev pub is_prepared : Event → Event → List Happening → Happening → List Happening → Bool
is_prepared e f before h behind = if_met (meets e h []) (λ given. any_meets f given 0 None before)

-- none before h met f with values with which h meets e
abbrev pub is_allowed : Event → Event → List Happening → Happening → List Happening → Bool
is_allowed e f before h behind = not (any_forbids e h f before)

-- if h meets e, one behind it meets f with the same values, at most `within` units later
abbrev pub is_followed : Event → Event → Option ℕ → List Happening → Happening → List Happening → Bool
is_followed e f within before h behind = if_met (meets e h []) (λ given. any_meets f given h.time within behind)

-- each happening is as asked, with those before it and behind it
abbrev pub each_is : (List Happening → Happening → List Happening → Bool) → List Happening → List Happening → Bool
each_is good before [] = true
each_is good before (h ∷ behind) = good before h behind && each_is good (before ++ h ∷ []) behind

abbrev pub published_by : Occurrence → List Value
published_by (what.Published v) = v ∷ []
published_by (what.Call m args p) = []

-- what was published, in its order
abbrev pub published : List Happening → List Value
published [] = []
published (h ∷ hs) = published_by h.what ++ published hs

-- how often a value is among these
abbrev pub times : Value → List Value → ℕ
times v vs = count_by (value_eq v) vs

-- each of the first values is as often among the second as among the third
abbrev pub each_as_often : List Value → List Value → List Value → Bool
each_as_often [] vs ws = true
each_as_often (x ∷ xs) vs ws = nat_eq (times x vs) (times x ws) && each_as_often xs vs ws

-- the same values in any order: as many, and each as often
abbrev pub are_same_in_any_order : List Value → List Value → Bool
are_same_in_any_order vs ws = nat_eq (length vs) (length ws) && each_as_often vs vs ws

-- a value is one of these
abbrev pub is_among : Value → List Value → Bool
is_among w [] = false
is_among w (v ∷ vs) = value_eq v w || is_among w vs

-- one value, and it is one of the first ones
abbrev pub is_one_of : List Value → List Value → Bool
is_one_of vs (w ∷ []) = is_among w vs
is_one_of vs _ = false

-- the run ended in an allowed way
abbrev pub ends_so : Bool → Bool → State → Bool
ends_so halted quiet state.Halted = halted
ends_so halted quiet state.Quiet = quiet
ends_so halted quiet state.Running = false

-- what a claim without conditions says
abbrev pub holds_plain : Plain → List Happening → State → ℕ → Bool
holds_plain (Count e low most by) hs end now = leb low (number e by hs) && up_to most (number e by hs)
holds_plain (AtOnce e most) hs end now = each_is (is_uncrowded e most) [] hs
holds_plain (OnlyAfter e f) hs end now = each_is (is_prepared e f) [] hs
holds_plain (NoneAfter e f) hs end now = each_is (is_allowed e f) [] hs
holds_plain (EachThen e f within) hs end now = each_is (is_followed e f within) [] hs
holds_plain (Ends halted quiet by) hs end now = ends_so halted quiet end && up_to by now
holds_plain (InOrder vs) hs end now = matches vs.items (published hs)
holds_plain (InAnyOrder vs) hs end now = are_same_in_any_order vs.items (published hs)
holds_plain (OneOf vs) hs end now = is_one_of vs.items (published hs)

-- all conditions come true
abbrev pub come_true : List Condition → List Happening → Bool
come_true [] hs = true
come_true (c ∷ cs) hs = cond c.happens (any_meets c.event [] 0 None hs) (not (any_meets c.event [] 0 None hs)) && come_true cs hs

-- What a claim says: if all conditions come true, so the rest.
abbrev pub holds : Claim → List Happening → State → ℕ → Bool
holds c hs end now = not (come_true c.conditions.items hs) || holds_plain c.plain hs end now
