-- The state of the checker, and the places that it spells.
use Rattle.std.specs.Prelude.{◌≡◌, ℕ, zero, suc, Bool, List, [], ◌∷◌, length}
use Rattle.orc_term.specs.declared.arena.Node.{Node}
use Rattle.orc_term.specs.declared.arena.Kind.{Kind}
use Rattle.orc_env.specs.declared.names.Bound.{Bound}
use Rattle.orc_env.specs.declared.names.Scope.{Scope}
use Rattle.orc_rules.specs.declared.entry.Entry.{Entry}
use Rattle.orc_rules.specs.Term.{Term}
use Rattle.orc_rules.specs.Nodes.{Listing, code, source, definitions}
use Rattle.orc_rules.specs.Sites.{Site, Table}
use Rattle.orc_rules.specs.Marked.{Marked}
use Rattle.orc_rules.specs.Timed.{Context}
use Rattle.orc_rules.specs.Journal.{Place, Leads, Journal, begin}
use Rattle.orc_term.specs.Arena.{Tree, Holds, StandOnce, IsTopped, spelled, place}
use Rattle.orc_env.specs.Scopes.{env_of}
use Rattle.orc_env.specs.Names.{AreOrdered}
use Rattle.orc_env.specs.Parameters.{AreOwn}
use Rattle.orc_checker.specs.Calls.{Rest, Keeps}
use Rattle.orc_checker.specs.Stillness.{AreStill}
use Rattle.orc_term.specs.Settling.{HasFlags}

-- what callers of the checker see
pub record State : Type 0 where
  pub nodes : List Node  -- node 0 is above the term's root
  pub scopes : List Scope
  pub cells : List Bound  -- by number; there is no cell 0
  pub marks : List ℕ  -- the node on which each mark was put; there is no mark 0
  pub halts : List Bool  -- for each node of the program, whether its term has halted
  pub flags : List Bool  -- for each node, whether it has halted
  pub asked : List Kind  -- the kinds of nodes that needn't be asked again whether they can move
  pub rest : Rest

-- the numbers from 1 to n, the greatest first
abbrev pub numbers : ℕ → List ℕ
numbers zero = []
numbers (suc n) = suc n ∷ numbers n

-- the cells opened are those that the table has
abbrev pub AreCells : List ℕ → List Bound → Type 0
AreCells opened cells = (n : ℕ) × (length cells ≡ suc n) × (opened ≡ numbers n) × AreOwn cells

-- m is the marked term that the nodes, the scopes and the cells of s describe
pub record Draws (code : ℕ → Term) (s : State) (m : Marked) : Type 0 where
  pub tree : Tree
  pub holds : Holds s.nodes (length s.scopes) 0 tree
  pub root : place tree ≡ 0
  pub once : StandOnce s.nodes tree
  pub top : IsTopped tree
  pub marked : m ≡ spelled code (env_of s.cells s.scopes) tree
  pub flags : HasFlags code s.nodes s.halts s.flags tree

-- s describes the place p of a journal; `code` gives the program's term at each of its nodes
pub record Spells (x : Context) (code : ℕ → Term) (s : State) (p : Place) : Type 0 where
  pub drawn : Draws code s p.marked
  pub mark : p.mark ≡ length s.marks
  pub scopes : AreOrdered s.scopes
  pub cells : AreCells p.cells s.cells
  pub rest : Keeps x p.now p.calls p.to_cancel s.rest
  pub still : AreStill x.definitions code s.cells s.scopes s.asked

-- the context of a run: the program's definitions, the table's sites, and whether cancels are recorded
abbrev pub context : Listing → Table → Bool → Context
context l t cancels = record { definitions = definitions l; sites = t.sites; cancels = cancels }

-- the entry leads from each place that s spells to one that s' spells
abbrev pub Follows : Context → (ℕ → Term) → Entry → State → State → Type 0
Follows x code e s s' = (p : Place) → Spells x code s p → (q : Place) × Leads x p e q × Spells x code s' q

-- the entry leads from each place that s spells to one that s' spells, whatever the definitions and sites
abbrev pub Enters : (ℕ → Term) → Entry → State → State → Type 0
Enters code e s s' = (x : Context) → Follows x code e s s'

-- the entry leads from each place that s spells to one that s' spells, with these sites and whatever the definitions
abbrev pub EntersBy : List Site → (ℕ → Term) → Entry → State → State → Type 0
EntersBy sites code e s s' = (x : Context) → x.sites ≡ sites → Follows x code e s s'

-- a journal of the term leads to the place
abbrev pub IsReached : Context → Term → Place → Type 0
IsReached x t p = (es : List Entry) × Journal x (begin t) es p

-- the entry leads on from each place that s spells and that a journal of the program and its sites leads to
abbrev pub Applies : Listing → Table → Entry → State → State → Type 0
Applies l t e s s' = (cancels : Bool) (p : Place) → IsReached (context l t cancels) (source l) p → Spells (context l t cancels) (code l) s p → (q : Place) × Leads (context l t cancels) p e q × Spells (context l t cancels) (code l) s' q

-- the state spells the beginning of the program's journals, with or without cancels
abbrev pub Begins : Listing → Bool → State → Place → Type 0
Begins l cancels s p = (x : Context) → x.cancels ≡ cancels → Spells x (code l) s p
