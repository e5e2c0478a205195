-- The definitions of a program as they are written out.
use Rattle.std.proofs.Common.{◌≡◌, ℕ, zero, suc, ◌+◌, ◌-◌, ◌<◌, List, [], ◌∷◌, ◌++◌, map, take, length, get_or, Some, refl, sym, ap, subst, ◌∙◌, arith}
use Rattle.std.proofs.lemmas.List.{map-append, length-map, length-append, get_or-map, append_assoc, take_more}
use Rattle.std.proofs.Math.Seq.{get_or-append_seam}
use Rattle.std.proofs.lemmas.Option.{get_or_from_slice_get}
use Rattle.std.specs.Prelude.{slice_get}
use Rattle.orc_rules.specs.Nodes.{Routine}
use Rattle.orc_rules.specs.Term.{Term, Definition}
use Rattle.orc_syntax.specs.declared.tree.Definition.{Definition as CodeDefinition}
use Rattle.orc_syntax.specs.declared.tree.Node.{Node}
use Rattle.orc_syntax.specs.Tree.{Define, Item, item, Sort, Tree, Leaf, Variable, Call, Operation, Val, leaf, variable, call, operation, val, post, posts, count, span_of}
use Rattle.orc_syntax.specs.Ast.{label, item as node_item, AreDefinitions}
use Rattle.orc_scope.specs.Building.{AreSmall, HaveSmallBodies}
use Rattle.orc_scope.specs.Listed.{term_at}
use Rattle.orc_scope.specs.Pieces.{Keeps}
use Rattle.orc_scope.specs.Program.{written_define}
use Rattle.orc_scope.specs.Scope.{Known}
use Rattle.orc_scope.specs.Written.{number, written}
use Rattle.orc_scope.proofs.Pieces.{at_keep, within_keep}
use Rattle.orc_scope.proofs.Programs.{no_define, defines_at, defines_length}

-- a definition whose body is one of these terms
abbrev pub definition_in : List Term → Routine → Definition
definition_in fs r = record { params = r.params; body = term_at fs r.body }

abbrev pub AreWithin : ℕ → List Routine → Type 0
AreWithin n [] = Unit {0}
AreWithin n (r ∷ rs) = (r.body < n) × AreWithin n rs

within_keeps : (fs gs : List Term) (rs : List Routine) → Keeps fs gs → AreWithin (length fs) rs → AreWithin (length gs) rs
within_keeps fs gs [] k w = tt
within_keeps fs gs (r ∷ rs) k w = (within_keep fs gs r.body k w.0, within_keeps fs gs rs k w.1)

pub same_definitions : (fs gs : List Term) (rs : List Routine) → Keeps fs gs → AreWithin (length fs) rs → map (definition_in gs) rs ≡ map (definition_in fs) rs
same_definitions fs gs [] k w = refl
same_definitions fs gs (r ∷ rs) k w =
    ap (λ (t : Term). record { params = r.params; body = t } ∷ map (definition_in gs) rs) (at_keep fs gs r.body k w.0)
    ∙ ap (λ (l : List Definition). definition_in fs r ∷ l) (same_definitions fs gs rs k w.1)

within_push : (n : ℕ) (rs : List Routine) (r : Routine) → AreWithin n rs → r.body < n → AreWithin n (rs ++ r ∷ [])
within_push n [] r w h = (h, tt)
within_push n (q ∷ rs) r w h = (w.0, within_push n rs r w.1 h)

small_body : (es : List Define) (i : ℕ) (d : Define) → i < length es → HaveSmallBodies es → AreSmall (post (get_or es i d).body)
small_body [] i d h small = absurd (omega (arith, h))
small_body (e ∷ es) zero d h small = small.0
small_body (e ∷ es) (suc i) d h small = small_body es i d (omega (arith, h)) small.1

-- a turn of the loop over definitions
pub output_step : (known : Known) (names : List (List ℕ)) (ds : List CodeDefinition) (es : List Define) (i : ℕ) (d : CodeDefinition) (fs gs : List Term) (rs qs : List Routine) (r : Routine) → i < length ds → AreDefinitions ds es → HaveSmallBodies es
    → Keeps fs gs → r.params ≡ map (λ x. number names x.text) (map label (get_or ds i d).parameters.items)
    → ((t : Tree) → map node_item (get_or ds i d).body.nodes.items ≡ post t → AreSmall (post t) → (term_at gs r.body ≡ written known names t) × (r.body < length gs))
    → qs ≡ rs ++ r ∷ [] → AreWithin (length fs) rs × (map (definition_in fs) rs ≡ map (written_define known names) (take i es))
    → AreWithin (length gs) qs × (map (definition_in gs) qs ≡ map (written_define known names) (take (i + 1) es))
output_step known names ds es i d fs gs rs qs r h are small k p b q is =
    let e = get_or es i no_define in
    let here = defines_at ds es i d h are in
    let le : i < length es = rw (sym (defines_length ds es are)) h in
    let body = b e.body here.body (small_body es i no_define le small) in
    let params : r.params ≡ map (λ x. number names x.text) e.parameters = p ∙ ap (map (λ x. number names x.text)) here.parameters in (
      subst (AreWithin (length gs)) (sym q) (within_push (length gs) rs r (within_keeps fs gs rs k is.0) body.1),
      ap (map (definition_in gs)) q
          ∙ map-append (definition_in gs) rs (r ∷ [])
          ∙ ap (λ (l : List Definition). l ++ definition_in gs r ∷ []) (same_definitions fs gs rs k is.0 ∙ is.1)
          ∙ ap (λ (ps : List ℕ). map (written_define known names) (take i es) ++ record { params = ps; body = term_at gs r.body } ∷ []) params
          ∙ ap (λ (t : Term). map (written_define known names) (take i es) ++ record { params = map (λ x. number names x.text) e.parameters; body = t } ∷ []) body.0
          ∙ sym (ap (map (written_define known names)) (take_more es i no_define le) ∙ map-append (written_define known names) (take i es) (e ∷ [])),
    )

-- the last node of an expression has its place
last_item : (t : Tree) → (is : List Item) × (s : Sort) × (post t ≡ is ++ item s (span_of t) ∷ [])
last_item (Leaf p span) = ([], leaf p, refl)
last_item (Variable x) = ([], variable x, refl)
last_item (Call x es span) = (posts es, call x (count es), refl)
last_item (Operation link f g span) = (post f ++ post g, operation link, sym (append_assoc (post f) (post g) (item (operation link) span ∷ [])))
last_item (Val x g f span) = (post g ++ post f, val x, sym (append_assoc (post g) (post f) (item (val x) span ∷ [])))

last_of : (xs : List Node) (is : List Item) (i : Item) (x : Node) → map node_item xs ≡ is ++ i ∷ [] → slice_get xs (length xs - 1) ≡ Some x → node_item x ≡ i
last_of xs is i x e h =
    let n : length xs ≡ suc (length is) = sym (length-map xs node_item) ∙ ap (λ (l : List Item). length l) e ∙ length-append is (i ∷ []) ∙ omega arith in
    let k : length xs - 1 ≡ length is = omega (arith, n) in
    let lt : length xs - 1 < length xs = omega (arith, n) in
    let g : get_or xs (length xs - 1) x ≡ x = get_or_from_slice_get xs (length xs - 1) x x h in
    sym (ap node_item g)
    ∙ sym (get_or-map node_item xs (length xs - 1) x i lt)
    ∙ ap (λ (l : List Item). get_or l (length xs - 1) i) e
    ∙ ap (λ (m : ℕ). get_or (is ++ i ∷ []) m i) k
    ∙ get_or-append_seam is i [] i

pub last_span : (xs : List Node) (t : Tree) (x : Node) → map node_item xs ≡ post t → slice_get xs (length xs - 1) ≡ Some x → x.span ≡ span_of t
last_span xs t x e h = let l = last_item t in ap (λ (i : Item). i.span) (last_of xs l.0 (item l.1 (span_of t)) x (e ∙ l.2) h)
