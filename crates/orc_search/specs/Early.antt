-- Steps that nobody sees and that may go first, since they leave all other steps as they are.
use Rattle.std.specs.Prelude.{◌≡◌, ℕ, suc, List, [], ◌∷◌, Bool, true, Some, slice_get}
use Rattle.orc_rules.specs.declared.value.Value.{Value}
use Rattle.orc_rules.specs.declared.value.Answer.{Answer}
use Rattle.orc_rules.specs.declared.value.Found.TheVariants.{After}
use Rattle.orc_rules.specs.declared.param.Param.{Param}
use Rattle.orc_rules.specs.declared.param.Param.TheVariants.{Is, Cell, Void}
use Rattle.orc_rules.specs.Term.{values_of, HasVoid}
use Rattle.orc_rules.specs.Timed.{Context}
use Rattle.orc_search.specs.Small.{Out, Small, nothing, gives, asks, enters, both, feeds, prunes, instead, awaits, needs, set, set_all, settle, IsOver, left_by}
use Rattle.orc_search.specs.Moves.{Happening, called, answered, unseen, SmallDefinition}
use Rattle.orc_search.specs.Graphs.{Ending, ending}
use Rattle.orc_search.specs.States.{State, Sight, happens, Coming, next_call, coming_after, Goes, Path, AreOf}

-- an early step, which may go first: nothing that happens elsewhere changes it, except that its part may be dropped, and it changes nothing
-- elsewhere. A call or an answer is early only if it is hidden, and a publication only if a `>x>` or a cell takes it and nothing else is left of
-- its part.
pub data Early (defs : List SmallDefinition) (ask : ℕ → List Value → Out) (Hidden : Happening → Type 0) : ℕ → Small → Small → Type 0 where
  void_value : {n : ℕ} → Early defs ask Hidden n (gives Void) nothing
  asked : {n m : ℕ} {ps : List Param} {args : List Value} → values_of ps ≡ Some args → Hidden (called m args) → Early defs ask Hidden n (asks m ps) (awaits (ask m args))
  void_call : {n m : ℕ} {ps : List Param} → HasVoid ps → Early defs ask Hidden n (asks m ps) nothing
  returned : {n : ℕ} {o : Out} {a : Answer} → o.rest ≡ After a 0 → Hidden (answered o.site o.args a) → Early defs ask Hidden n (awaits o) (left_by a)
  entered : {n e : ℕ} {ps : List Param} {d : SmallDefinition} → slice_get defs e ≡ Some d → Early defs ask Hidden n (enters e ps) (set_all d.params ps d.body)
  fed : {n x : ℕ} {g : Small} {v : Value} → Early defs ask Hidden n (feeds (gives (Is v)) x g) (both (feeds nothing x g) (set (Is v) x g))
  opens : {n x : ℕ} {f g : Small} → Early defs ask Hidden n (prunes f x g) (needs (set (Cell n) x f) g)
  binds : {n : ℕ} {f : Small} {v : Value} → Early defs ask Hidden n (needs f (gives (Is v))) (settle (Is v) n f)
  loses : {n : ℕ} {f g : Small} → IsOver g → Early defs ask Hidden n (needs f g) (settle Void n f)
  falls : {n : ℕ} {f g : Small} → IsOver f → Early defs ask Hidden n (instead f g) g
  on_left : {n : ℕ} {f g f' : Small} → Early defs ask Hidden n f f' → Early defs ask Hidden n (both f g) (both f' g)
  on_right : {n : ℕ} {f g g' : Small} → Early defs ask Hidden n g g' → Early defs ask Hidden n (both f g) (both f g')
  feeding : {n x : ℕ} {f g f' : Small} → Early defs ask Hidden n f f' → Early defs ask Hidden n (feeds f x g) (feeds f' x g)
  on_main : {n : ℕ} {f g f' : Small} → Early defs ask Hidden (suc n) f f' → Early defs ask Hidden n (needs f g) (needs f' g)
  on_side : {n : ℕ} {f g g' : Small} → Early defs ask Hidden n g g' → Early defs ask Hidden n (needs f g) (needs f g')
  first : {n : ℕ} {f g f' : Small} → Early defs ask Hidden n f f' → Early defs ask Hidden n (instead f g) (instead f' g)

-- nobody sees it, and the calls to come are answered after it as before
abbrev pub IsHidden : (Happening → Bool) → Coming → Happening → Type 0
IsHidden hides coming h = (hides h ≡ true) × (coming_after h coming ≡ coming)

-- early steps lead from the first term to the second
pub data Leads (defs : List SmallDefinition) (hides : Happening → Bool) (coming : Coming) : Small → Small → Type 0 where
  stays : {f : Small} → Leads defs hides coming f f
  early : {f g k : Small} → Early defs (next_call coming) (IsHidden hides coming) 0 f g → Leads defs hides coming g k → Leads defs hides coming f k

-- the second state is ahead of the first: early steps lead to it, and they leave the answers of the calls to come as they are
abbrev pub IsAhead : List SmallDefinition → (Happening → Bool) → State → State → Type 0
IsAhead defs hides s t = Leads defs hides s.coming s.term t.term × (t.coming ≡ s.coming)

-- what a state that is ahead does when the state behind it goes to t: nothing, if that was an early step; or the same. Then it is ahead of t.
pub data Follows (defs : List SmallDefinition) (hides : Happening → Bool) (ahead : State) (v : Sight) (t : State) : Type 0 where
  stands : (h : Happening) → v ≡ happens h → hides h ≡ true → IsAhead defs hides t ahead → Follows defs hides ahead v t
  goes : (u : State) → Goes defs ahead v u → IsAhead defs hides t u → Follows defs hides ahead v t

-- wherever a state goes, one that is ahead of it follows
abbrev pub AheadFollows : Type 0
AheadFollows = (x : Context) (smalls : List SmallDefinition) (hides : Happening → Bool) (s ahead t : State) (v : Sight)
    → AreOf smalls x → hides unseen ≡ true → IsAhead smalls hides s ahead → Goes smalls s v t → Follows smalls hides ahead v t

-- where a run can end at a state, it can end so at one that is ahead
abbrev pub AheadEnds : Type 0
AheadEnds = (smalls : List SmallDefinition) (hides : Happening → Bool) (s ahead : State) (e : Ending) → IsAhead smalls hides s ahead → ending smalls s.term ≡ Some e → ending smalls ahead.term ≡ Some e

-- nobody sees any of it
abbrev pub AreHidden : (Happening → Bool) → List Sight → Type 0
AreHidden hides [] = Unit {0}
AreHidden hides (v ∷ vs) = ((h : Happening) × (v ≡ happens h) × (hides h ≡ true)) × AreHidden hides vs

-- the way to a state that is ahead is a path on which nobody sees anything
abbrev pub AheadIsReached : Type 0
AheadIsReached = (smalls : List SmallDefinition) (hides : Happening → Bool) (s ahead : State) → hides unseen ≡ true → IsAhead smalls hides s ahead → (vs : List Sight) × Path smalls s vs ahead × AreHidden hides vs
