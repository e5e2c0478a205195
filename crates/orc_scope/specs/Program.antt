-- Whole programs: their faults, and their written-out terms.
use Rattle.std.specs.Prelude.{◌+◌, ◌^◌, ℕ, suc, List, [], ◌∷◌, ◌++◌, map, take, length, Option, Some, None}
use Rattle.orc_lex.specs.declared.token.Span.{Span}
use Rattle.orc_rules.specs.Term.{Definition}
use Rattle.orc_scope.specs.declared.fault.ScopeFault.{ScopeFault}
use Rattle.orc_scope.specs.declared.fault.FaultKind.{FaultKind}
use Rattle.orc_scope.specs.declared.fault.FaultKind.TheVariants.{DefinedTwice, ParameterTwice}
use Rattle.orc_syntax.specs.Tree.{Label, Link, Seq, Par, Prune, Other, Sort, leaf, variable, call, operation, val, Tree, Leaf, Variable, Call, Operation, Val, Trees, Nil, Cons, Define, Source}
use Rattle.orc_scope.specs.Scope.{Known, position, fault, number_faults, faults}
use Rattle.orc_scope.specs.Written.{number, written, size}

abbrev pub text : Label → List ℕ
text x = x.text

-- the fault of a name that has come before
abbrev pub repeated : FaultKind → Option ℕ → Span → List ScopeFault
repeated kind None span = []
repeated kind (Some n) span = fault kind span ∷ []

-- the faults of parameters, from the nth on, where these names have come before
abbrev pub parameter_faults : List (List ℕ) → ℕ → List Label → List ScopeFault
parameter_faults seen n [] = []
parameter_faults seen n (x ∷ xs) = (repeated ParameterTwice (position seen x.text) x.span ++ number_faults n x.span) ++ parameter_faults (seen ++ x.text ∷ []) (suc n) xs

-- the faults of a definition, where these names have been defined before
abbrev pub definition_faults : Known → List (List ℕ) → Define → List ScopeFault
definition_faults known seen d = repeated DefinedTwice (position seen d.name.text) d.name.span ++ (parameter_faults [] 1 d.parameters ++ faults known (map text d.parameters) d.body)

-- the faults of definitions, one after another
abbrev pub definitions_faults : Known → List (List ℕ) → List Define → List ScopeFault
definitions_faults known seen [] = []
definitions_faults known seen (d ∷ ds) = definition_faults known seen d ++ definitions_faults known (seen ++ d.name.text ∷ []) ds

abbrev pub name_of : Define → List ℕ
name_of d = d.name.text

abbrev pub arity_of : Define → ℕ
arity_of d = length d.parameters

-- what stands outside of the expressions of a program; a site's number has 32 bits
abbrev pub known_in : List (List ℕ) → Source → Known
known_in sites s = record { definitions = map name_of s.definitions; arities = map arity_of s.definitions; sites = take (2 ^ 32) sites }

-- the faults of a program, but for the number of its nodes
abbrev pub faults_with : Known → Source → List ScopeFault
faults_with known s = definitions_faults known [] s.definitions ++ faults known [] s.main

abbrev pub program_faults : List (List ℕ) → Source → List ScopeFault
program_faults sites s = faults_with (known_in sites s) s

-- the names that an expression binds
abbrev pub link_names : Link → List (List ℕ)
link_names (Seq (Some x)) = x.text ∷ []
link_names (Seq None) = []
link_names Par = []
link_names (Prune (Some x)) = x.text ∷ []
link_names (Prune None) = []
link_names Other = []

-- the name that a node binds
abbrev pub sort_names : Sort → List (List ℕ)
sort_names (leaf p) = []
sort_names (variable x) = []
sort_names (call x n) = []
sort_names (operation link) = link_names link
sort_names (val x) = x.text ∷ []

abbrev mutual
  pub bound_names : Tree → List (List ℕ)
  bound_names (Leaf p span) = []
  bound_names (Variable x) = []
  bound_names (Call x ts span) = bound_in_all ts
  bound_names (Operation link f g span) = bound_names f ++ (bound_names g ++ link_names link)
  bound_names (Val x g f span) = bound_names g ++ (bound_names f ++ x.text ∷ [])

  pub bound_in_all : Trees → List (List ℕ)
  bound_in_all Nil = []
  bound_in_all (Cons t ts) = bound_names t ++ bound_in_all ts

-- the names of variables in definitions, and in a program
abbrev pub variables_of : List Define → List (List ℕ)
variables_of [] = []
variables_of (d ∷ ds) = (map text d.parameters ++ bound_names d.body) ++ variables_of ds

abbrev pub variables : Source → List (List ℕ)
variables s = variables_of s.definitions ++ bound_names s.main

-- a definition written out, and the number of its body's nodes
abbrev pub written_define : Known → List (List ℕ) → Define → Definition
written_define known names d = record { params = map (λ x. number names x.text) d.parameters; body = written known names d.body }

abbrev pub size_of_define : Known → List (List ℕ) → Define → ℕ
size_of_define known names d = size (written known names d.body)

abbrev pub sizes_of : Known → List (List ℕ) → List Define → ℕ
sizes_of known names [] = 0
sizes_of known names (d ∷ ds) = size_of_define known names d + sizes_of known names ds

-- the number of the nodes of all terms of a program
abbrev pub sizes : Known → List (List ℕ) → Source → ℕ
sizes known names s = sizes_of known names s.definitions + size (written known names s.main)
