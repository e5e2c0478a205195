-- Who is inside the right side of a cell, as lists.
use Rattle.std.specs.Prelude.{◌≡◌, ◌⊎◌, ◌++◌, ◌||◌, ℕ, List, [], ◌∷◌, Bool, false, nat_eq, Some, slice_get}
use Rattle.orc_rules.specs.Timed.{IsIn}
use Rattle.orc_tables.specs.Steps.{group_at}
use Rattle.orc_tables.specs.Tokens.{IsHeld}
use Rattle.orc_tables.specs.declared.records.Token.{Token}
use Rattle.orc_tables.specs.declared.records.Call.{Call}
use Rattle.orc_tables.specs.declared.records.Step.{Step}
use Rattle.orc_tables.specs.declared.records.Group.{Group}
use Rattle.orc_tables.specs.declared.records.Side.TheVariants.{Right}

-- a number is in a list
abbrev pub is_listed : List ℕ → ℕ → Bool
is_listed [] n = false
is_listed (m ∷ ms) n = nat_eq m n || is_listed ms n

-- place k of a table has a member of group n that is listed as m: a token is listed as its slot, a call and a group as their number
abbrev pub IsTokenAt : List Step → List Token → ℕ → ℕ → ℕ → Type 0
IsTokenAt ss slots n k m = (t : Token) × IsHeld slots k t × (k ≡ m) × (group_at ss t.step ≡ n)

abbrev pub IsCallAt : List Step → List Call → ℕ → ℕ → ℕ → Type 0
IsCallAt ss calls n k m = (c : Call) × (slice_get calls k ≡ Some c) × (c.number ≡ m) × (group_at ss c.step ≡ n)

abbrev pub IsGroupAt : List Step → List Group → ℕ → ℕ → ℕ → Type 0
IsGroupAt ss gs n k m = (g : Group) × (slice_get gs k ≡ Some g) × (g.number ≡ m) × (group_at ss g.outer ≡ n)

-- `new` is `old` with more numbers behind: a place leads to each of these, and each of `places` leads to a number in `new`
pub record Adds (leads : ℕ → ℕ → Type 0) (places old new : List ℕ) : Type 0 where
  pub each : (k : ℕ) → IsIn k places → (m : ℕ) × leads k m × IsIn m new
  pub more : (zs : List ℕ) × (new ≡ old ++ zs) × ((m : ℕ) → IsIn m zs → (k : ℕ) × leads k m)

module _ (ss : List Step) (slots : List Token) (cs : List Call) (gs : List Group) where
  -- each member of group n is listed
  pub record HasAll (n : ℕ) (ns ts ks : List ℕ) : Type 0 where
    pub tokens : (k m : ℕ) → IsTokenAt ss slots n k m → IsIn m ts
    pub calls : (k m : ℕ) → IsCallAt ss cs n k m → IsIn m ks
    pub groups : (k m : ℕ) → IsGroupAt ss gs n k m → IsIn m ns

  -- then all members of group n are listed, and what was appended are members of it
  pub record Gathers (n : ℕ) (ns ts ks ns' ts' ks' : List ℕ) : Type 0 where
    pub all : HasAll n ns' ts' ks'
    pub groups : (zs : List ℕ) × (ns' ≡ ns ++ zs) × ((m : ℕ) → IsIn m zs → (k : ℕ) × IsGroupAt ss gs n k m)
    pub tokens : (zs : List ℕ) × (ts' ≡ ts ++ zs) × ((m : ℕ) → IsIn m zs → (k : ℕ) × IsTokenAt ss slots n k m)
    pub calls : (zs : List ℕ) × (ks' ≡ ks ++ zs) × ((m : ℕ) → IsIn m zs → (k : ℕ) × IsCallAt ss cs n k m)

  -- ns lists the groups inside the right side of cell c, its own and those in a listed one; ts and ks list the tokens and calls in them
  pub record IsCrowd (c : ℕ) (ns ts ks : List ℕ) : Type 0 where
    pub own : (g : Group) × IsIn g gs × (g.side ≡ Right c) × IsIn g.number ns
    pub groups : (m : ℕ) → IsIn m ns → ((g : Group) × IsIn g gs × (g.side ≡ Right c) × (g.number ≡ m)) ⊎ ((n : ℕ) × (k : ℕ) × IsIn n ns × IsGroupAt ss gs n k m)
    pub tokens : (m : ℕ) → IsIn m ts → (n : ℕ) × (k : ℕ) × IsIn n ns × IsTokenAt ss slots n k m
    pub calls : (m : ℕ) → IsIn m ks → (n : ℕ) × (k : ℕ) × IsIn n ns × IsCallAt ss cs n k m
    pub all : (n : ℕ) → IsIn n ns → HasAll n ns ts ks
