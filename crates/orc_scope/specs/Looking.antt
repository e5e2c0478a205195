-- Looking at the nodes of an expression from the last to the first.
use Rattle.std.specs.Prelude.{◌≤◌, ◌+◌, ◌-◌, ℕ, zero, suc, List, [], ◌∷◌, ◌++◌, length, take, reverse, Option, Some, None}
use Rattle.std.specs.Borrow.{Bor}
use Rattle.orc_syntax.specs.declared.tree.Definition.{Definition}
use Rattle.orc_syntax.specs.Ast.{text_of}
use Rattle.orc_lex.specs.declared.token.Plain.TheVariants as plains
use Rattle.orc_scope.specs.declared.fault.ScopeFault.{ScopeFault}
use Rattle.orc_scope.specs.declared.finder.Task.{Task as CodeTask}
use Rattle.orc_scope.specs.declared.known.Known.{Known as CodeKnown}
use Rattle.orc_scope.specs.declared.finder.Looking.{Looking}
use Rattle.orc_syntax.specs.Tree.{Seq, Par, Prune, Other, Sort, leaf, variable, call, operation, val, Item}
use Rattle.orc_scope.specs.Scope.{Known, meaning, name_faults, call_faults, number_faults, bound, text_if}

-- a part that is to be looked at, with the names in scope; an argument has a number, from 1
pub record Task : Type 0 where
  pub scope : List (List ℕ)
  pub number : ℕ

abbrev pub task : List (List ℕ) → ℕ → Task
task scope number = record { scope = scope; number = number }

-- so many arguments, as the task of the last one: those before it follow once it is looked at
abbrev pub pending : ℕ → List (List ℕ) → List Task → List Task
pending zero scope ts = ts
pending (suc n) scope ts = task scope (suc n) ∷ ts

-- the parts of a node, the last one first
abbrev pub parts_of : Sort → List (List ℕ) → List Task → List Task
parts_of (leaf p) scope ts = ts
parts_of (variable x) scope ts = ts
parts_of (call x n) scope ts = pending n scope ts
parts_of (operation (Seq x)) scope ts = task (bound (text_if x) scope) 0 ∷ task scope 0 ∷ ts
parts_of (operation Par) scope ts = task scope 0 ∷ task scope 0 ∷ ts
parts_of (operation (Prune x)) scope ts = task scope 0 ∷ task (bound (text_if x) scope) 0 ∷ ts
parts_of (operation Other) scope ts = task scope 0 ∷ task scope 0 ∷ ts
parts_of (val x) scope ts = task (bound (Some x.text) scope) 0 ∷ task scope 0 ∷ ts

-- the faults of a node itself
abbrev pub node_faults : Known → List (List ℕ) → Sort → List ScopeFault
node_faults known scope (leaf p) = []
node_faults known scope (variable x) = name_faults (meaning known scope x.text) x.span
node_faults known scope (call x n) = call_faults known (meaning known scope x.text) n x.span
node_faults known scope (operation link) = []
node_faults known scope (val x) = []

-- the faults of the nodes, the last node first
unfoldable pub looks : Known → List Task → List Item → List ScopeFault
looks known ts [] = []
looks known [] (i ∷ is) = []
looks known (t ∷ ts) (i ∷ is) = (number_faults t.number i.span ++ node_faults known t.scope i.sort) ++ looks known (parts_of i.sort t.scope (pending (t.number - 1) t.scope ts)) is

-- how many nodes of the written-out term a node makes: an argument makes one more for its pruning, or none where it is a parameter
abbrev pub weight : ℕ → Sort → ℕ
weight zero s = 1
weight (suc n) (leaf plains.Stop) = 2
weight (suc n) (leaf p) = 0
weight (suc n) (variable x) = 0
weight (suc n) (call x m) = 2
weight (suc n) (operation link) = 2
weight (suc n) (val x) = 2

-- how many the nodes make, the last node first
unfoldable pub weighs : List Task → List Item → ℕ
weighs ts [] = 0
weighs [] (i ∷ is) = 0
weighs (t ∷ ts) (i ∷ is) = weight t.number i.sort + weighs (parts_of i.sort t.scope (pending (t.number - 1) t.scope ts)) is

-- what the code's values stand for

abbrev pub known_of : CodeKnown → Known
known_of k = record { definitions = k.definitions; arities = k.arities.items; sites = k.sites }

abbrev pub name_text : Definition → List ℕ
name_text d = text_of d.name.text

abbrev pub arity : Definition → ℕ
arity d = length d.parameters.items

abbrev pub bind_of : Option (Bor (List ℕ)) → Option (List ℕ)
bind_of None = None
bind_of (Some b) = Some b.now

-- the tasks that wait, the next one first, where these names are in scope now
unfoldable pub tasks_of : List (List ℕ) → List CodeTask → List Task
tasks_of scope [] = []
tasks_of scope (t ∷ ts) = task (bound (bind_of t.bind) (take t.depth scope)) t.number ∷ tasks_of (take t.depth scope) ts

-- each task's scope begins with names that are in scope now
unfoldable pub Fits : List (List ℕ) → List CodeTask → Type 0
Fits scope [] = Unit {0}
Fits scope (t ∷ ts) = (t.depth ≤ length scope) × Fits (take t.depth scope) ts

-- the tasks of the code, the next one first
abbrev pub waiting : Looking → List Task
waiting l = tasks_of l.scope (reverse l.tasks.items)

-- each of them can still make its scope
abbrev pub IsFit : Looking → Type 0
IsFit l = Fits l.scope (reverse l.tasks.items)

-- what holds of the number of a task if one was taken, and what holds if there was none
abbrev pub IfTaken : (ℕ → Type 0) → Option ℕ → Type 0
IfTaken p None = Unit {0}
IfTaken p (Some n) = p n

abbrev pub OnNothing : Type 0 → Option ℕ → Type 0
OnNothing p None = p
OnNothing p (Some n) = Unit {0}
