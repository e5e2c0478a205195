-- The label that an entry shows.
use Rattle.std.specs.Prelude.{◌≡◌, ℕ, List, [], ◌∷◌, Bool, Option, option_map, cond, nat_eq}
use Rattle.orc_rules.specs.declared.entry.Entry.{Entry}
use Rattle.orc_rules.specs.declared.entry.Entry.TheVariants.{Call}
use Rattle.orc_rules.specs.declared.entry.Label.{Label}
use Rattle.orc_rules.specs.Labels.{event_shown, label_shown}
use Rattle.orc_rules.specs.Term.{Term}
use Rattle.orc_rules.specs.Nodes.{Listing, code, source}
use Rattle.orc_rules.specs.Sites.{Table}
use Rattle.orc_rules.specs.Marked.{token, Replaces}
use Rattle.orc_rules.specs.Journal.{Place, Leads}
use Rattle.orc_term.specs.declared.arena.Node.{Node}
use Rattle.orc_term.specs.declared.arena.Kind.{Kind}
use Rattle.orc_term.specs.declared.arena.Kind.TheVariants.{Two}
use Rattle.orc_term.specs.declared.arena.Double.TheVariants.{Both, Side}
use Rattle.orc_term.specs.Arena.{Tree, Frame, on_one, on_left, on_right}
use Rattle.orc_term.specs.Rising.{Stands}
use Rattle.orc_checker.specs.Checker.{State, Spells, context, IsReached}

-- the cells inside whose right sides the hole stands, the outermost first, before those in cs
abbrev pub around_cells : List Frame → List ℕ → List ℕ
around_cells [] cs = cs
around_cells (on_one i s ∷ k) cs = around_cells k cs
around_cells (on_left i d u ∷ k) cs = around_cells k cs
around_cells (on_right i Both u ∷ k) cs = around_cells k cs
around_cells (on_right i (Side c) u ∷ k) cs = around_cells k (c ∷ cs)

-- the cell of the node above, where node i is its right side
abbrev pub cell_above : Kind → ℕ → List ℕ
cell_above (Two (Side c) l r) i = cond (nat_eq l i) [] (c ∷ [])
cell_above _ i = []

-- node i stands inside the right sides of these cells
abbrev pub AreAround : List Node → ℕ → List ℕ → Type 0
AreAround nodes i cs = (n : ℕ) (k : List Frame) (t : Tree) → Stands nodes n i k t → cs ≡ around_cells k []

-- token s stands inside the right sides of these cells, the outermost first
abbrev pub StandsInside : Place → ℕ → List ℕ → Type 0
StandsInside p s cs = (t : Term) × Replaces (token s t) (token s t) p.marked cs p.marked

-- the label of an entry at p; a call's has the cells inside whose right sides its token stands
abbrev pub IsLabel : Place → Entry → Option Label → Type 0
IsLabel p (Call s k m args) label = (cs : List ℕ) × StandsInside p s cs × (option_map event_shown label ≡ label_shown (Call s k m args) cs)
IsLabel p e label = option_map event_shown label ≡ label_shown e []

-- the entry has this label, and leads on from each place that s spells and that a journal of the program and its sites leads to
abbrev pub Shows : Listing → Table → Entry → State → State → Option Label → Type 0
Shows l t e s s' label = (cancels : Bool) (p : Place) → IsReached (context l t cancels) (source l) p → Spells (context l t cancels) (code l) s p → IsLabel p e label × ((q : Place) × Leads (context l t cancels) p e q × Spells (context l t cancels) (code l) s' q)
