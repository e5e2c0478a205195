-- What a program's numbered nodes mean.
use Rattle.std.specs.Prelude.{◌≡◌, ◌<◌, ℕ, List, [], ◌∷◌, ◌++◌, Some, slice_get, slice_index_or, map}
use Rattle.orc_rules.specs.declared.param.Param.{Param}
use Rattle.orc_rules.specs.declared.param.Param.TheVariants as param_is
use Rattle.orc_rules.specs.declared.param.Operand.{Operand}
use Rattle.orc_rules.specs.declared.param.Operand.TheVariants.{Name, Is}
use Rattle.orc_rules.specs.declared.program.TermNode.{TermNode}
use Rattle.orc_rules.specs.declared.program.TermNode.TheVariants.{Stop, Operand as On, Site, Call, Par, Seq, Prune, Other}
use Rattle.orc_rules.specs.Term.{Term, Definition, stop, param, site, call, par, seq, prune, other}

-- the node of a number, `stop` where there is none
abbrev pub node_of : List TermNode → ℕ → TermNode
node_of nodes i = slice_index_or nodes i Stop

-- the parameter that an operand is
abbrev pub param_of : Operand → Param
param_of (Name x) = param_is.Name x
param_of (Is v) = param_is.Is v

-- a node's term, from the terms of its parts and the lists of operands
abbrev pub unfold_node : (ℕ → Term) → List (List Operand) → TermNode → Term
unfold_node code lists Stop = stop
unfold_node code lists (On p) = param (param_of p)
unfold_node code lists (Site m l) = site m (map param_of (slice_index_or lists l []))
unfold_node code lists (Call e l) = call e (map param_of (slice_index_or lists l []))
unfold_node code lists (Par f g) = par (code f) (code g)
unfold_node code lists (Seq f x g) = seq (code f) x (code g)
unfold_node code lists (Prune f x g) = prune (code f) x (code g)
unfold_node code lists (Other f g) = other (code f) (code g)

-- the nodes' terms, each from those before it
abbrev pub terms_from : List (List Operand) → List Term → List TermNode → List Term
terms_from lists ts [] = ts
terms_from lists ts (n ∷ ns) = terms_from lists (ts ++ unfold_node (λ i. slice_index_or ts i stop) lists n ∷ []) ns

-- the term of a node
abbrev pub code_of : List (List Operand) → List TermNode → ℕ → Term
code_of lists nodes i = slice_index_or (terms_from lists [] nodes) i stop

-- a node's parts stand before it
abbrev pub HasParts : ℕ → TermNode → Type 0
HasParts n (Par f g) = (f < n) × (g < n)
HasParts n (Seq f x g) = (f < n) × (g < n)
HasParts n (Prune f x g) = (f < n) × (g < n)
HasParts n (Other f g) = (f < n) × (g < n)
HasParts n _ = Unit {0}

-- each node is behind its parts
abbrev pub ArePartsFirst : List TermNode → Type 0
ArePartsFirst nodes = (i : ℕ) (n : TermNode) → slice_get nodes i ≡ Some n → HasParts i n

-- a definition: its parameters and the node of its body
pub record Routine : Type 0 where
  pub params : List ℕ
  pub body : ℕ

-- the nodes of terms and their lists of operands
pub record Terms : Type 0 where
  pub nodes : List TermNode
  pub lists : List (List Operand)

-- a program: its nodes, its lists of operands, its definitions and the node of its main term
pub record Listing : Type 0 where
  pub nodes : List TermNode
  pub lists : List (List Operand)
  pub routines : List Routine
  pub root : ℕ

-- the term of each node
abbrev pub code : Listing → ℕ → Term
code l i = code_of l.lists l.nodes i

-- the term of the program
abbrev pub source : Listing → Term
source l = code l l.root

-- a definition with the term of its body
abbrev pub definition_of : Listing → Routine → Definition
definition_of l r = record { params = r.params; body = code l r.body }

abbrev pub definitions : Listing → List Definition
definitions l = map (definition_of l) l.routines
