-- Where the nodes with tokens are noted, and which of them were asked.
use Rattle.std.specs.Prelude.{◌≡◌, ◌<◌, ◌≤◌, ◌⊎◌, ℕ, List, [], true, cond, length, slice_index_or}
use Rattle.orc_rules.specs.Timed.{IsIn}
use Rattle.orc_term.specs.declared.arena.Node.{Node}
use Rattle.orc_term.specs.declared.arena.Kind.{Kind}
use Rattle.orc_term.specs.declared.restless.Restless.{Restless}
use Rattle.orc_term.specs.Hints.{restless}
use Rattle.orc_term.specs.Settling.{kind_at}

-- the number is in the list
abbrev pub IsListed : ℕ → List ℕ → Type 0
IsListed i list = (k : ℕ) × (k < length list) × (slice_index_or list k 0 ≡ i)

-- the number of each node with a token stays in the list
abbrev pub StayListed : List Node → List ℕ → List ℕ → Type 0
StayListed nodes list list' = (i : ℕ) → restless (kind_at nodes i) ≡ true → IsListed i list → IsListed i list'

-- the kinds that needn't be asked again
abbrev pub asked_kinds : Restless → List Kind
asked_kinds r = cond r.are_still r.asked.kinds []

-- each of the kinds is that of a node
abbrev pub AreOfNodes : List Node → List Kind → Type 0
AreOfNodes nodes kinds = (k : Kind) → IsIn k kinds → (i : ℕ) × (kind_at nodes i ≡ k)

-- a node with a token is new, or was woken, or waits; then its kind was asked, unless all that wait are asked again
abbrev pub IsNoted : List Node → Restless → ℕ → Type 0
IsNoted nodes r i = (r.first_new ≤ i) ⊎ (IsListed i r.woken.items ⊎ (IsListed i r.waiting.items × (r.are_still ≡ true → IsIn (kind_at nodes i) r.asked.kinds)))

-- each node with a token is noted
pub record AreNoted (nodes : List Node) (r : Restless) : Type 0 where
  pub within : r.first_new ≤ length nodes
  pub each : (i : ℕ) → restless (kind_at nodes i) ≡ true → IsNoted nodes r i

-- each node with a token is in one of the two lists, or has this number or a greater one, or was asked
abbrev pub AreToAsk : List Node → List Kind → List ℕ → List ℕ → ℕ → Type 0
AreToAsk nodes asked waiting woken first_new = (i : ℕ) → restless (kind_at nodes i) ≡ true → (first_new ≤ i) ⊎ (IsListed i woken ⊎ (IsListed i waiting ⊎ IsIn (kind_at nodes i) asked))
