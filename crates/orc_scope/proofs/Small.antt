-- A program without faults is small enough for its numbers.
use Rattle.std.proofs.Common.{◌≡◌, ℕ, suc, ◌+◌, ◌*◌, ◌^◌, ◌<◌, ◌≤◌, List, [], ◌∷◌, ◌++◌, map, length, Some, None, refl, sym, ap, ◌∙◌, arith}
use Rattle.std.proofs.lemmas.List.{length-append, length-map, length-take}
use Rattle.orc_lex.specs.declared.token.Span.{Span}
use Rattle.orc_syntax.specs.Tree.{Label, Link, Seq, Par, Prune, Other, Item, item, call, operation, val, Tree, Leaf, Variable, Call, Operation, Val, Trees, Nil, Cons, Define, Source, post, posts, count, span_of}
use Rattle.orc_scope.specs.Building.{AreSmall, HaveSmallBodies, HaveSmallCalls}
use Rattle.orc_scope.specs.Numbers.{AreSmall as HasFew}
use Rattle.orc_scope.specs.Scope.{Known, faults, faults_of_all, number_faults, bound, text_if}
use Rattle.orc_scope.specs.Program.{text, name_of, known_in, parameter_faults, definition_faults, definitions_faults, faults_with, program_faults, link_names, bound_names, bound_in_all, variables_of, variables, sizes_of, sizes}
use Rattle.orc_scope.proofs.Weight.{weighed, weighed_all, sized}

-- the parts of an empty list
pub front_empty : {A : Type 0} → (xs ys : List A) → xs ++ ys ≡ [] → xs ≡ []
front_empty [] ys e = refl
front_empty (x ∷ xs) ys e = cc e

pub back_empty : {A : Type 0} → (xs ys : List A) → xs ++ ys ≡ [] → ys ≡ []
back_empty [] ys e = e
back_empty (x ∷ xs) ys e = cc e

-- the 17th is a fault
not_17 : (n : ℕ) (span : Span) → number_faults n span ≡ [] → n ≡ 17 → ⊥
not_17 n span e is = cc (sym (ap (λ (m : ℕ). number_faults m span) is) ∙ e)

small_append : (is js : List Item) → AreSmall is → AreSmall js → AreSmall (is ++ js)
small_append [] js a b = b
small_append (i ∷ is) js a b = (a.0, small_append is js a.1 b)

pub few : (known : Known) (scope : List (List ℕ)) (n : ℕ) (es : Trees) → n ≤ 17 → faults_of_all known scope n es ≡ [] → n + count es ≤ 17
few known scope n Nil le e = omega (arith, le)
few known scope n (Cons t es) le e =
    let rest = number_faults n (span_of t) ++ faults known scope t in
    let here : n ≡ 17 → ⊥ = not_17 n (span_of t) (front_empty (number_faults n (span_of t)) (faults known scope t) (back_empty (faults_of_all known scope (suc n) es) rest e)) in
    let lt : n < 17 = omega (arith, le, here) in
    let later = few known scope (suc n) es lt (front_empty (faults_of_all known scope (suc n) es) rest e) in
    omega (arith, later)

mutual
  pub small : (known : Known) (t : Tree) (scope : List (List ℕ)) → faults known scope t ≡ [] → AreSmall (post t)
  small known (Leaf p span) scope e = (tt, tt)
  small known (Variable x) scope e = (tt, tt)
  small known (Call x es span) scope e =
      let all = back_empty _ (faults_of_all known scope 1 es) e in
      let n = few known scope 1 es (omega arith) all in
      small_append (posts es) (item (call x (count es)) span ∷ []) (small_all known es 1 scope all) (omega (arith, n), tt)
  small known (Operation (Seq x) f g span) scope e =
      let a = front_empty (faults known (bound (text_if x) scope) g) (faults known scope f) e in
      let b = back_empty (faults known (bound (text_if x) scope) g) (faults known scope f) e in
      small_append (post f) (post g ++ item (operation (Seq x)) span ∷ []) (small known f scope b) (small_append (post g) (item (operation (Seq x)) span ∷ []) (small known g (bound (text_if x) scope) a) (tt, tt))
  small known (Operation Par f g span) scope e =
      let a = front_empty (faults known scope g) (faults known scope f) e in
      let b = back_empty (faults known scope g) (faults known scope f) e in
      small_append (post f) (post g ++ item (operation Par) span ∷ []) (small known f scope b) (small_append (post g) (item (operation Par) span ∷ []) (small known g scope a) (tt, tt))
  small known (Operation (Prune x) f g span) scope e =
      let a = front_empty (faults known scope g) (faults known (bound (text_if x) scope) f) e in
      let b = back_empty (faults known scope g) (faults known (bound (text_if x) scope) f) e in
      small_append (post f) (post g ++ item (operation (Prune x)) span ∷ []) (small known f (bound (text_if x) scope) b) (small_append (post g) (item (operation (Prune x)) span ∷ []) (small known g scope a) (tt, tt))
  small known (Operation Other f g span) scope e =
      let a = front_empty (faults known scope g) (faults known scope f) e in
      let b = back_empty (faults known scope g) (faults known scope f) e in
      small_append (post f) (post g ++ item (operation Other) span ∷ []) (small known f scope b) (small_append (post g) (item (operation Other) span ∷ []) (small known g scope a) (tt, tt))
  small known (Val x g f span) scope e =
      let a = front_empty (faults known (bound (Some x.text) scope) f) (faults known scope g) e in
      let b = back_empty (faults known (bound (Some x.text) scope) f) (faults known scope g) e in
      small_append (post g) (post f ++ item (val x) span ∷ []) (small known g scope b) (small_append (post f) (item (val x) span ∷ []) (small known f (bound (Some x.text) scope) a) (tt, tt))

  pub small_all : (known : Known) (es : Trees) (n : ℕ) (scope : List (List ℕ)) → faults_of_all known scope n es ≡ [] → AreSmall (posts es)
  small_all known Nil n scope e = tt
  small_all known (Cons t es) n scope e =
      let rest = number_faults n (span_of t) ++ faults known scope t in
      small_append (post t) (posts es) (small known t scope (back_empty (number_faults n (span_of t)) (faults known scope t) (back_empty (faults_of_all known scope (suc n) es) rest e))) (small_all known es (suc n) scope (front_empty (faults_of_all known scope (suc n) es) rest e))

-- the parts of a definition's faults
pub no_parameters : (known : Known) (seen : List (List ℕ)) (d : Define) → definition_faults known seen d ≡ [] → parameter_faults [] 1 d.parameters ≡ []
no_parameters known seen d e = front_empty (parameter_faults [] 1 d.parameters) (faults known (map text d.parameters) d.body) (back_empty _ (parameter_faults [] 1 d.parameters ++ faults known (map text d.parameters) d.body) e)

pub no_body : (known : Known) (seen : List (List ℕ)) (d : Define) → definition_faults known seen d ≡ [] → faults known (map text d.parameters) d.body ≡ []
no_body known seen d e = back_empty (parameter_faults [] 1 d.parameters) (faults known (map text d.parameters) d.body) (back_empty _ (parameter_faults [] 1 d.parameters ++ faults known (map text d.parameters) d.body) e)

small_bodies : (known : Known) (seen : List (List ℕ)) (ds : List Define) → definitions_faults known seen ds ≡ [] → HaveSmallBodies ds
small_bodies known seen [] e = tt
small_bodies known seen (d ∷ ds) e =
    let later = definitions_faults known (seen ++ d.name.text ∷ []) ds in
    (small known d.body (map text d.parameters) (no_body known seen d (front_empty (definition_faults known seen d) later e)), small_bodies known (seen ++ d.name.text ∷ []) ds (back_empty (definition_faults known seen d) later e))

pub small_calls : (known : Known) (s : Source) → faults_with known s ≡ [] → HaveSmallCalls s
small_calls known s e = (small_bodies known [] s.definitions (front_empty (definitions_faults known [] s.definitions) (faults known [] s.main) e), small known s.main [] (back_empty (definitions_faults known [] s.definitions) (faults known [] s.main) e))

-- a term has a node for each name that it binds, and one more
link_few : (link : Link) → length (link_names link) ≤ 1
link_few (Seq (Some x)) = omega arith
link_few (Seq None) = omega arith
link_few Par = omega arith
link_few (Prune (Some x)) = omega arith
link_few (Prune None) = omega arith
link_few Other = omega arith

bound_argument : (t : Tree) (n : ℕ) → suc (length (bound_names t)) ≤ weighed 0 t → length (bound_names t) ≤ weighed (suc n) t
bound_argument (Leaf p span) n le = omega arith
bound_argument (Variable x) n le = omega arith
bound_argument (Call x es span) n le = omega (arith, le)
bound_argument (Operation link f g span) n le = omega (arith, le)
bound_argument (Val x g f span) n le = omega (arith, le)

mutual
  bound_few : (t : Tree) → suc (length (bound_names t)) ≤ weighed 0 t
  bound_few (Leaf p span) = omega arith
  bound_few (Variable x) = omega arith
  bound_few (Call x es span) = let a = bound_all es 0 in omega (arith, a)
  bound_few (Operation link f g span) =
      let a = bound_few f in
      let b = bound_few g in
      let l = link_few link in
      let e = length-append (bound_names f) (bound_names g ++ link_names link) in
      let d = length-append (bound_names g) (link_names link) in
      omega (arith, a, b, l, e, d)
  bound_few (Val x g f span) =
      let a = bound_few f in
      let b = bound_few g in
      let e = length-append (bound_names g) (bound_names f ++ x.text ∷ []) in
      let d = length-append (bound_names f) (x.text ∷ []) in
      omega (arith, a, b, e, d)

  bound_all : (es : Trees) (n : ℕ) → length (bound_in_all es) ≤ weighed_all (suc n) es
  bound_all Nil n = omega arith
  bound_all (Cons t es) n =
      let a = bound_argument t n (bound_few t) in
      let b = bound_all es (suc n) in
      let e = length-append (bound_names t) (bound_in_all es) in
      omega (arith, a, b, e)

few_parameters : (seen : List (List ℕ)) (n : ℕ) (xs : List Label) → n ≤ 17 → parameter_faults seen n xs ≡ [] → n + length xs ≤ 17
few_parameters seen n [] le e = omega (arith, le)
few_parameters seen n (x ∷ xs) le e =
    let later = parameter_faults (seen ++ x.text ∷ []) (suc n) xs in
    let here : n ≡ 17 → ⊥ = not_17 n x.span (back_empty _ (number_faults n x.span) (front_empty _ later e)) in
    let lt : n < 17 = omega (arith, le, here) in
    let rest = few_parameters (seen ++ x.text ∷ []) (suc n) xs lt (back_empty _ later e) in
    omega (arith, rest)

-- how many definitions and variables there are
few_of : (known k : Known) (names : List (List ℕ)) (seen : List (List ℕ)) (ds : List Define) → definitions_faults known seen ds ≡ [] → (length ds ≤ sizes_of k names ds) × (length (variables_of ds) ≤ 17 * sizes_of k names ds)
few_of known k names seen [] e = (omega arith, omega arith)
few_of known k names seen (d ∷ ds) e =
    let later = definitions_faults known (seen ++ d.name.text ∷ []) ds in
    let rest = few_of known k names (seen ++ d.name.text ∷ []) ds (back_empty (definition_faults known seen d) later e) in
    let p = few_parameters [] 1 d.parameters (omega arith) (no_parameters known seen d (front_empty (definition_faults known seen d) later e)) in
    let b = bound_few d.body in
    let s = sized k names d.body in
    let l = length-append (map text d.parameters ++ bound_names d.body) (variables_of ds) in
    let m = length-append (map text d.parameters) (bound_names d.body) in
    let n = length-map d.parameters text in
    let r0 = rest.0 in
    let r1 = rest.1 in
    (omega (arith, r0, b, s), omega (arith, r1, p, b, s, l, m, n))

pub few_numbers : (sites : List (List ℕ)) (s : Source) → program_faults sites s ≡ [] → sizes (known_in sites s) (variables s) s ≤ 65535 → HasFew (record { known = known_in sites s; names = variables s })
few_numbers sites s e le =
    let known = known_in sites s in
    let z = few_of known known (variables s) [] s.definitions (front_empty (definitions_faults known [] s.definitions) (faults known [] s.main) e) in
    let z0 = z.0 in
    let z1 = z.1 in
    let b = bound_few s.main in
    let m = sized known (variables s) s.main in
    let l = length-append (variables_of s.definitions) (bound_names s.main) in
    let n = length-map s.definitions name_of in
    let t = length-take (2 ^ 32) sites in
    (omega (arith, z0, n, le), omega (arith, t), omega (arith, z1, b, m, l, le))
