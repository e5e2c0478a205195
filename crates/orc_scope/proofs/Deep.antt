-- How deep a written-out term is.
use Rattle.std.proofs.Common.{◌≡◌, sym, subst, ℕ, suc, ◌+◌, ◌*◌, ◌≤◌, max, List, [], ◌∷◌, ◌++◌, map, length, Option, Some, None, refl, arith}
use Rattle.orc_lex.specs.declared.token.Plain.TheVariants as plains
use Rattle.orc_rules.specs.declared.limits.TheConstants.{MOST_ARGUMENTS}
use Rattle.orc_rules.specs.declared.param.Param.{Param}
use Rattle.orc_rules.specs.Refusal.{depth}
use Rattle.orc_rules.specs.Term.{Term, Definition}
use Rattle.orc_syntax.specs.Tree.{Seq, Par, Prune, Other, Tree, Leaf, Variable, Call, Operation, Val, Trees, Nil, Cons, Define, Source, count, span_of}
use Rattle.orc_scope.specs.Deep.{operators, operators_of_all, nesting, nesting_of_all, IsShallow, AreShallow, AreWithin, StaysShallow, written_levels}
use Rattle.orc_scope.specs.Scope.{Known, Meaning, IsVariable, IsDefinition, IsSite, IsNothing, outer_meaning, position, faults, faults_of_all, number_faults, meaning, call_faults, bound, text_if}
use Rattle.orc_scope.specs.Written.{written, written_all, called, params, pruned, prunings, as_param}
use Rattle.orc_rules.specs.Nodes.{Listing}
use Rattle.orc_scope.specs.Checking.{IsWrittenOut}
use Rattle.orc_scope.specs.Program.{text, known_in, definition_faults, definitions_faults, program_faults, written_define, variables}
use Rattle.orc_scope.proofs.Small.{front_empty, back_empty, few, no_body}

-- the greatest depth of some terms
abbrev deepest : List Term → ℕ
deepest [] = 0
deepest (f ∷ fs) = max (depth f) (deepest fs)

pruned_depth : (f : Term) (n : ℕ) (g : Term) (o : Option Param) → depth (pruned f n g o) ≤ suc (max (depth f) (depth g))
pruned_depth f n g (Some p) = omega arith
pruned_depth f n g None = omega arith

prunings_depth : (n : ℕ) (f : Term) (gs : List Term) → depth (prunings n f gs) ≤ length gs + max (depth f) (deepest gs)
prunings_depth n f [] = omega arith
prunings_depth n f (g ∷ gs) =
    let a = prunings_depth (suc n) (pruned f n g (as_param g)) gs in
    let b = pruned_depth f n g (as_param g) in
    omega (arith, a, b)

called_depth : (m : Meaning) (ps : List Param) → depth (called m ps) ≡ 1
called_depth IsVariable ps = refl
called_depth (IsDefinition e) ps = refl
called_depth (IsSite m) ps = refl
called_depth IsNothing ps = refl

count_all : (known : Known) (names : List (List ℕ)) (es : Trees) → length (written_all known names es) ≡ count es
count_all known names Nil = refl
count_all known names (Cons t es) = let e = count_all known names es in omega (arith, e)

mutual
  pub deep : (known : Known) (names : List (List ℕ)) (t : Tree) (scope : List (List ℕ)) → faults known scope t ≡ [] → depth (written known names t) ≤ 1 + (operators t + (1 + MOST_ARGUMENTS) * nesting t)
  deep known names (Leaf plains.Stop span) scope e = omega arith
  deep known names (Leaf (plains.Number n) span) scope e = omega arith
  deep known names (Leaf (plains.Truth b) span) scope e = omega arith
  deep known names (Leaf plains.Signal span) scope e = omega arith
  deep known names (Variable x) scope e = omega arith
  deep known names (Call x es span) scope e =
      let m = outer_meaning (position known.definitions x.text) (position known.sites x.text) in
      let us = written_all known names es in
      let f = called m (params (length names) us) in
      let all = back_empty (call_faults known (meaning known scope x.text) (count es) x.span) (faults_of_all known scope 1 es) e in
      let a = prunings_depth (length names) f us in
      let b = called_depth m (params (length names) us) in
      let c = count_all known names es in
      let n = few known scope 1 es (omega arith) all in
      let d = deep_all known names es 1 scope all in
      omega (arith, a, b, c, n, d)
  deep known names (Operation (Seq x) f g span) scope e =
      let a = deep known names f scope (back_empty (faults known (bound (text_if x) scope) g) (faults known scope f) e) in
      let b = deep known names g (bound (text_if x) scope) (front_empty (faults known (bound (text_if x) scope) g) (faults known scope f) e) in
      omega (arith, a, b)
  deep known names (Operation Par f g span) scope e =
      let a = deep known names f scope (back_empty (faults known scope g) (faults known scope f) e) in
      let b = deep known names g scope (front_empty (faults known scope g) (faults known scope f) e) in
      omega (arith, a, b)
  deep known names (Operation (Prune x) f g span) scope e =
      let a = deep known names f (bound (text_if x) scope) (back_empty (faults known scope g) (faults known (bound (text_if x) scope) f) e) in
      let b = deep known names g scope (front_empty (faults known scope g) (faults known (bound (text_if x) scope) f) e) in
      omega (arith, a, b)
  deep known names (Operation Other f g span) scope e =
      let a = deep known names f scope (back_empty (faults known scope g) (faults known scope f) e) in
      let b = deep known names g scope (front_empty (faults known scope g) (faults known scope f) e) in
      omega (arith, a, b)
  deep known names (Val x g f span) scope e =
      let a = deep known names f (bound (Some x.text) scope) (front_empty (faults known (bound (Some x.text) scope) f) (faults known scope g) e) in
      let b = deep known names g scope (back_empty (faults known (bound (Some x.text) scope) f) (faults known scope g) e) in
      omega (arith, a, b)

  pub deep_all : (known : Known) (names : List (List ℕ)) (es : Trees) (n : ℕ) (scope : List (List ℕ)) → faults_of_all known scope n es ≡ [] → deepest (written_all known names es) ≤ 1 + (operators_of_all es + (1 + MOST_ARGUMENTS) * nesting_of_all es)
  deep_all known names Nil n scope e = omega arith
  deep_all known names (Cons t es) n scope e =
      let later = faults_of_all known scope (suc n) es in
      let here = number_faults n (span_of t) ++ faults known scope t in
      let a = deep known names t scope (back_empty (number_faults n (span_of t)) (faults known scope t) (back_empty later here e)) in
      let b = deep_all known names es (suc n) scope (front_empty later here e) in
      omega (arith, a, b)

tree_shallow : (known : Known) (names : List (List ℕ)) (t : Tree) (scope : List (List ℕ)) → faults known scope t ≡ [] → IsShallow t → depth (written known names t) ≤ written_levels
tree_shallow known names t scope e s =
    let a = deep known names t scope e in
    let o = s.0 in
    let n = s.1 in
    omega (arith, a, o, n)

bodies_shallow : (known : Known) (names seen : List (List ℕ)) (ds : List Define) → definitions_faults known seen ds ≡ [] → AreShallow ds → AreWithin written_levels (map (written_define known names) ds)
bodies_shallow known names seen [] e s = tt
bodies_shallow known names seen (d ∷ ds) e s =
    let later = definitions_faults known (seen ++ d.name.text ∷ []) ds in
    (tree_shallow known names d.body (map text d.parameters) (no_body known seen d (front_empty (definition_faults known seen d) later e)) s.0, bodies_shallow known names (seen ++ d.name.text ∷ []) ds (back_empty (definition_faults known seen d) later e) s.1)

pub shallow : (sites : List (List ℕ)) (s : Source) (l : Listing) → program_faults sites s ≡ [] → IsWrittenOut (known_in sites s) (variables s) s l → StaysShallow s l
shallow sites s l e out are main =
    let known = known_in sites s in
    let names = variables s in
    let fd = definitions_faults known [] s.definitions in
    let fm = faults known [] s.main in (
      subst (λ (ds : List Definition). AreWithin written_levels ds) (sym out.definitions) (bodies_shallow known names [] s.definitions (front_empty fd fm e) are),
      subst (λ (f : Term). depth f ≤ written_levels) (sym out.source) (tree_shallow known names s.main [] (back_empty fd fm e) main),
    )
