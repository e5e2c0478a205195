-- What names mean, and the faults of a program.
use Rattle.std.specs.Prelude.{◌+◌, ◌≡◌, ◌≤◌, ◌<◌, ℕ, suc, List, [], ◌∷◌, ◌++◌, Option, Some, None, cond, nat_eq, ◌⊎◌, slice_get}
use Rattle.std.specs.Prelude.{bytes_eq}
use Rattle.orc_rules.specs.declared.limits.TheConstants.{MOST_ARGUMENTS}
use Rattle.orc_lex.specs.declared.token.Span.{Span}
use Rattle.orc_scope.specs.declared.fault.ScopeFault.{ScopeFault}
use Rattle.orc_scope.specs.declared.fault.FaultKind.{FaultKind}
use Rattle.orc_scope.specs.declared.fault.FaultKind.TheVariants.{Unbound, NotValue, Arity, DefinedTwice, ParameterTwice, CallOfVariable, NoSite, TooMany, Memory}
use Rattle.orc_syntax.specs.Tree.{Label, Seq, Par, Prune, Other, Tree, Leaf, Variable, Call, Operation, Val, Trees, Nil, Cons, span_of, count}

-- the first place of a text in a list of texts whose first stands at n
abbrev pub position_from : ℕ → List (List ℕ) → List ℕ → Option ℕ
position_from n [] text = None
position_from n (t ∷ ts) text = cond (bytes_eq t text) (Some n) (position_from (suc n) ts text)

abbrev pub position : List (List ℕ) → List ℕ → Option ℕ
position ts text = position_from 0 ts text

-- what stands outside of all expressions: definitions with their numbers of parameters, and sites
pub record Known : Type 0 where
  pub definitions : List (List ℕ)
  pub arities : List ℕ
  pub sites : List (List ℕ)

-- what a name means
pub data Meaning : Type 0 where
  IsVariable : Meaning
  IsDefinition : (number : ℕ) → Meaning
  IsSite : (number : ℕ) → Meaning
  IsNothing : Meaning

-- what a name means outside of expressions, by its places among definitions and sites
abbrev pub site_meaning : Option ℕ → Meaning
site_meaning (Some m) = IsSite m
site_meaning None = IsNothing

abbrev pub outer_meaning : Option ℕ → Option ℕ → Meaning
outer_meaning (Some e) site = IsDefinition e
outer_meaning None site = site_meaning site

abbrev pub inner_meaning : Known → List ℕ → Option ℕ → Meaning
inner_meaning known text (Some n) = IsVariable
inner_meaning known text None = outer_meaning (position known.definitions text) (position known.sites text)

-- a variable in scope, else the first definition, else the site
abbrev pub meaning : Known → List (List ℕ) → List ℕ → Meaning
meaning known scope text = inner_meaning known text (position scope text)

abbrev pub fault : FaultKind → Span → ScopeFault
fault kind span = record { kind = kind; span = span }

-- the faults of a name without a bracket
abbrev pub name_faults : Meaning → Span → List ScopeFault
name_faults IsVariable span = []
name_faults (IsDefinition e) span = fault NotValue span ∷ []
name_faults (IsSite m) span = fault NotValue span ∷ []
name_faults IsNothing span = fault Unbound span ∷ []

-- a call of a definition wants its number of arguments
abbrev pub arity_faults : Option ℕ → ℕ → Span → List ScopeFault
arity_faults None got span = []
arity_faults (Some want) got span = cond (nat_eq want got) [] (fault (Arity want got) span ∷ [])

-- the faults of a called name
abbrev pub call_faults : Known → Meaning → ℕ → Span → List ScopeFault
call_faults known IsVariable got span = fault CallOfVariable span ∷ []
call_faults known (IsDefinition e) got span = arity_faults (slice_get known.arities e) got span
call_faults known (IsSite m) got span = []
call_faults known IsNothing got span = fault NoSite span ∷ []

-- the 17th parameter or argument is one too many
abbrev pub number_faults : ℕ → Span → List ScopeFault
number_faults n span = cond (nat_eq n (MOST_ARGUMENTS + 1)) (fault TooMany span ∷ []) []

-- the variable of an operator in scope, the innermost last
abbrev pub bound : Option (List ℕ) → List (List ℕ) → List (List ℕ)
bound None scope = scope
bound (Some x) scope = scope ++ x ∷ []

abbrev pub text_if : Option Label → Option (List ℕ)
text_if None = None
text_if (Some x) = Some x.text

-- the faults of an expression, those of later parts first
abbrev mutual
  pub faults : Known → List (List ℕ) → Tree → List ScopeFault
  faults known scope (Leaf p span) = []
  faults known scope (Variable x) = name_faults (meaning known scope x.text) x.span
  faults known scope (Call x ts span) = call_faults known (meaning known scope x.text) (count ts) x.span ++ faults_of_all known scope 1 ts
  faults known scope (Operation (Seq x) f g span) = faults known (bound (text_if x) scope) g ++ faults known scope f
  faults known scope (Operation Par f g span) = faults known scope g ++ faults known scope f
  faults known scope (Operation (Prune x) f g span) = faults known scope g ++ faults known (bound (text_if x) scope) f
  faults known scope (Operation Other f g span) = faults known scope g ++ faults known scope f
  faults known scope (Val x g f span) = faults known (bound (Some x.text) scope) f ++ faults known scope g

  -- arguments, with the number of the first one
  pub faults_of_all : Known → List (List ℕ) → ℕ → Trees → List ScopeFault
  faults_of_all known scope n Nil = []
  faults_of_all known scope n (Cons t ts) = faults_of_all known scope (suc n) ts ++ (number_faults n (span_of t) ++ faults known scope t)

-- the number of a fault's kind
abbrev pub rank : FaultKind → ℕ
rank Unbound = 1
rank NotValue = 2
rank (Arity want got) = 3
rank DefinedTwice = 4
rank ParameterTwice = 5
rank CallOfVariable = 6
rank NoSite = 7
rank TooMany = 8
rank Memory = 9

-- f stands before g, or at the same place with no greater number
abbrev pub IsBefore : ScopeFault → ScopeFault → Type 0
IsBefore f g = (f.span.start < g.span.start) ⊎ ((f.span.start ≡ g.span.start) × (rank f.kind ≤ rank g.kind))

abbrev pub IsBeforeAll : ScopeFault → List ScopeFault → Type 0
IsBeforeAll f [] = Unit {0}
IsBeforeAll f (g ∷ gs) = IsBefore f g × IsBeforeAll f gs

abbrev pub IsAmong : ScopeFault → List ScopeFault → Type 0
IsAmong f [] = ⊥
IsAmong f (g ∷ gs) = (f ≡ g) ⊎ IsAmong f gs

-- the least of some faults, or none where there are none
abbrev pub IsLeast : Option ScopeFault → List ScopeFault → Type 0
IsLeast None fs = fs ≡ []
IsLeast (Some f) fs = IsAmong f fs × IsBeforeAll f fs
