-- The services of a case.
use Rattle.std.specs.Prelude.{ℕ, List, [], ◌∷◌, ◌++◌, map, Bool, true, false, cond, not, ◌&&◌, Option, Some, None, nat_eq, is_some, bytes_eq}
use Rattle.std.specs.List.{list_any}
use Rattle.orc_rules.specs.Sites.{value_eq}
use Rattle.orc_claims.specs.declared.claim.Slot.{Slot}
use Rattle.orc_claims.specs.declared.claim.Slot.TheVariants.{Any, Literal, Variable}
use Rattle.orc_ways.specs.Lines.{Service}
use Rattle.orc_ways.specs.Drafts.{ServiceLine}

abbrev pub slot_eq : Slot → Slot → Bool
slot_eq Any Any = true
slot_eq (Literal v) (Literal w) = value_eq v w
slot_eq (Variable x) (Variable y) = nat_eq x y
slot_eq _ _ = false

abbrev pub slots_eq : List Slot → List Slot → Bool
slots_eq [] [] = true
slots_eq (p ∷ ps) (q ∷ qs) = slot_eq p q && slots_eq ps qs
slots_eq _ _ = false

-- both have this name and these patterns
abbrev pub is_same : Service → Service → Bool
is_same s t = bytes_eq s.name t.name && slots_eq s.patterns t.patterns

-- a line of this case; those of `given` have None
abbrev pub is_own : ℕ → Option ℕ → Bool
is_own case (Some k) = nat_eq k case
is_own case None = false

-- the services of the case at this place
abbrev pub own : ℕ → List ServiceLine → List Service
own case [] = []
own case (l ∷ ls) = cond (is_own case l.case_at) (l.service ∷ own case ls) (own case ls)

-- a service of `given` that has the name and the patterns of none of these
abbrev pub is_kept : List Service → ServiceLine → Bool
is_kept ss l = not (is_some l.case_at) && not (list_any (is_same l.service) ss)

-- the services of `given` that have the name and the patterns of none of these
abbrev pub kept : List Service → List ServiceLine → List Service
kept ss [] = []
kept ss (l ∷ ls) = cond (is_kept ss l) (l.service ∷ kept ss ls) (kept ss ls)

-- the services of a case: its own, then those of `given` that it doesn't say anew
abbrev pub services_of : ℕ → List ServiceLine → List Service
services_of case ls = own case ls ++ kept (own case ls) ls

-- ---- the other services

-- a name is among these
abbrev pub has_name : List (List ℕ) → List ℕ → Bool
has_name ns n = list_any (λ m. bytes_eq m n) ns

-- the names of these services that aren't among some names, each once
abbrev pub new_names : List (List ℕ) → List Service → List (List ℕ)
new_names seen [] = []
new_names seen (s ∷ ss) = cond (has_name seen s.name) (new_names seen ss) (s.name ∷ new_names (seen ++ s.name ∷ []) ss)

abbrev pub names : List Service → List (List ℕ)
names ss = map (λ s. s.name) ss

-- the names that services of the test have, and none of the case
abbrev pub others_of : ℕ → List ServiceLine → List (List ℕ)
others_of case ls = new_names (names (services_of case ls)) (map (λ l. l.service) ls)
