-- Writing out the nodes of an expression from the first to the last.
use Rattle.std.specs.Prelude.{◌≤◌, ℕ, List, [], ◌∷◌, take, drop, reverse}
use Rattle.orc_rules.specs.declared.limits.TheConstants.{MOST_ARGUMENTS}
use Rattle.orc_rules.specs.Term.{Term, param, prune}
use Rattle.orc_syntax.specs.Tree.{Sort, leaf, variable, call, operation, val, Item, Define, Source, post}
use Rattle.orc_scope.specs.Scope.{Known}
use Rattle.orc_scope.specs.Written.{plain_term, number, call_term, operated}
use Rattle.orc_rules.specs.declared.param.Param.TheVariants.{Name}

-- the terms of the parts so far, the last one first, after a node
abbrev pub built : Known → List (List ℕ) → Sort → List Term → List Term
built known names (leaf p) fs = plain_term p ∷ fs
built known names (variable x) fs = param (Name (number names x.text)) ∷ fs
built known names (call x n) fs = call_term known names x.text (reverse (take n fs)) ∷ drop n fs
built known names (operation link) (g ∷ f ∷ fs) = operated names link f g ∷ fs
built known names (val x) (f ∷ g ∷ fs) = prune f (number names x.text) g ∷ fs
built known names (operation link) [] = []
built known names (operation link) (g ∷ []) = []
built known names (val x) [] = []
built known names (val x) (f ∷ []) = []

-- and after these nodes
unfoldable pub builds : Known → List (List ℕ) → List Term → List Item → List Term
builds known names fs [] = fs
builds known names fs (i ∷ is) = builds known names (built known names i.sort fs) is

-- a node that isn't a call of too many arguments
abbrev pub IsSmall : Sort → Type 0
IsSmall (call x n) = n ≤ MOST_ARGUMENTS
IsSmall (leaf p) = Unit {0}
IsSmall (variable x) = Unit {0}
IsSmall (operation link) = Unit {0}
IsSmall (val x) = Unit {0}

abbrev pub AreSmall : List Item → Type 0
AreSmall [] = Unit {0}
AreSmall (i ∷ is) = IsSmall i.sort × AreSmall is

-- no call of a program has too many arguments
abbrev pub HaveSmallBodies : List Define → Type 0
HaveSmallBodies [] = Unit {0}
HaveSmallBodies (d ∷ ds) = AreSmall (post d.body) × HaveSmallBodies ds

-- in its definitions and its main expression
abbrev pub HaveSmallCalls : Source → Type 0
HaveSmallCalls s = HaveSmallBodies s.definitions × AreSmall (post s.main)
