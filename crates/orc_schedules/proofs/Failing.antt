-- A claim held against each end in its turn.
use Rattle.std.proofs.Common.{◌≡◌, ◌<◌, ◌≤◌, ◌+◌, ℕ, List, [], ◌∷◌, ◌++◌, length, map, take, get_or, true, false, Option, Some, None, IfSome, IfNone, ◌⊎◌, sym, ap, ◌∙◌, subst, inl, inr}
use Rattle.std.proofs.lemmas.List.{take_more, take_all}
use Rattle.orc_rules.specs.Timed.{IsIn}
use Rattle.orc_claims.specs.declared.claim.Claim.{Claim}
use Rattle.orc_search.proofs.Nodes.{map_last}
use Rattle.orc_schedules.specs.declared.claimed.Seen.{Seen}
use Rattle.orc_schedules.specs.declared.tables.Tables.{Tables}
use Rattle.orc_schedules.specs.declared.told.Told.{Told}
use Rattle.orc_schedules.specs.Adding.{end_seen, holds_by}
use Rattle.orc_schedules.specs.Reached.{EndSeen}
use Rattle.orc_schedules.specs.Tables.{outcome_at, outcomes}
use Rattle.orc_schedules.proofs.Adding.{in_last}
use Rattle.orc_schedules.proofs.Growing.{get_in, get_there, in_map}

abbrev Hold : Claim → List EndSeen → Type 0
Hold c os = (o : EndSeen) → IsIn o os → holds_by c o ≡ true

hold_more : (c : Claim) (os : List EndSeen) (p : EndSeen) → Hold c os → holds_by c p ≡ true → Hold c (os ++ p ∷ [])
hold_more c os p all here o is = go (in_last o p os is) where
  go : IsIn o os ⊎ (o ≡ p) → holds_by c o ≡ true
  go (inl old) = all o old
  go (inr same) = ap (holds_by c) same ∙ here

-- at one end more it holds
pub all_next : (t : Tables) (c : Claim) (ends : List Told) (at : ℕ) (d : Told) → at < length ends → Hold c (map (outcome_at t) (take at ends)) → holds_by c (outcome_at t (get_or ends at d)) ≡ true → Hold c (map (outcome_at t) (take (at + 1) ends))
all_next t c ends at d lt all here =
    subst (Hold c) (sym (map_last (outcome_at t) (take at ends) (get_or ends at d)) ∙ ap (map (outcome_at t)) (sym (take_more ends at d lt)))
    (hold_more c (map (outcome_at t) (take at ends)) (outcome_at t (get_or ends at d)) all here)

pub all_held : (t : Tables) (c : Claim) (ends : List Told) (at : ℕ) → ends ≡ t.ends → length ends ≤ at → Hold c (map (outcome_at t) (take at ends)) → Hold c (outcomes t)
all_held t c ends at same le all = subst (Hold c) (ap (map (outcome_at t)) (take_all at ends le ∙ same)) all

pub none_held : (P : Type 0) (o : Option Seen) → o ≡ None → IfNone o P → P
none_held P o is h = subst (λ (p : Option Seen). IfNone p P) is h

-- the end at which it fails
pub first_there : (t : Tables) (c : Claim) (ends : List Told) (at : ℕ) (d : Told) (o : Option Seen) (s : Seen) → ends ≡ t.ends → at < length ends → o ≡ Some s
    → IfSome o (λ r. (end_seen r ≡ outcome_at t (get_or ends at d)) × (holds_by c (outcome_at t (get_or ends at d)) ≡ false)) → IsIn {X = EndSeen} (end_seen s) (outcomes t) × (holds_by c (end_seen s) ≡ false)
first_there t c ends at d o s same lt is h =
    let told : Told = get_or ends at d in
    let f : (end_seen s ≡ outcome_at t told) × (holds_by c (outcome_at t told) ≡ false) = subst (λ (p : Option Seen). IfSome p (λ r. (end_seen r ≡ outcome_at t told) × (holds_by c (outcome_at t told) ≡ false))) is h in
    let there : IsIn {X = EndSeen} (outcome_at t told) (outcomes t) = subst (λ (es : List Told). IsIn {X = EndSeen} (outcome_at t told) (map (outcome_at t) es)) same (in_map (outcome_at t) told ends (get_in ends at told (get_there ends at d lt))) in
    (subst (λ (p : EndSeen). IsIn {X = EndSeen} p (outcomes t)) (sym f.0) there, ap (holds_by c) f.0 ∙ f.1)
