-- The names that the nodes of an expression bind.
use Rattle.std.proofs.Common.{◌≡◌, ℕ, ◌+◌, ◌<◌, List, [], ◌∷◌, ◌++◌, map, take, length, get_or, Option, Some, None, refl, sym, ap, ◌∙◌}
use Rattle.std.proofs.lemmas.List.{append_assoc, append-nil, take_more, map-append}
use Rattle.orc_syntax.specs.declared.tree.Node.{Node}
use Rattle.orc_syntax.specs.declared.tree.Definition.{Definition}
use Rattle.orc_syntax.specs.Tree.{call, operation, val, Item, item, Tree, Leaf, Variable, Call, Operation, Val, Trees, Nil, Cons, Define, post, posts, count}
use Rattle.orc_syntax.specs.Ast.{label, item as node_item, AreDefinitions}
use Rattle.orc_scope.proofs.Programs.{no_define, defines_at, defines_length}
use Rattle.orc_scope.specs.Scope.{bound}
use Rattle.orc_scope.specs.Program.{text, link_names, sort_names, bound_names, bound_in_all, variables_of}

-- the names that nodes bind
abbrev pub items_names : List Item → List (List ℕ)
items_names [] = []
items_names (i ∷ is) = sort_names i.sort ++ items_names is

pub items_append : (is js : List Item) → items_names (is ++ js) ≡ items_names is ++ items_names js
items_append [] js = refl
items_append (i ∷ is) js = ap (λ (l : List (List ℕ)). sort_names i.sort ++ l) (items_append is js) ∙ sym (append_assoc (sort_names i.sort) (items_names is) (items_names js))

mutual
  pub bound_post : (t : Tree) → items_names (post t) ≡ bound_names t
  bound_post (Leaf p span) = refl
  bound_post (Variable x) = refl
  bound_post (Call x es span) = items_append (posts es) (item (call x (count es)) span ∷ []) ∙ append-nil (items_names (posts es)) ∙ bound_posts es
  bound_post (Operation link f g span) =
      items_append (post f) (post g ++ item (operation link) span ∷ [])
      ∙ ap (λ (l : List (List ℕ)). l ++ items_names (post g ++ item (operation link) span ∷ [])) (bound_post f)
      ∙ ap (λ (l : List (List ℕ)). bound_names f ++ l) (items_append (post g) (item (operation link) span ∷ []) ∙ ap (λ (l : List (List ℕ)). l ++ items_names (item (operation link) span ∷ [])) (bound_post g) ∙ ap (λ (l : List (List ℕ)). bound_names g ++ l) (append-nil (link_names link)))
  bound_post (Val x g f span) =
      items_append (post g) (post f ++ item (val x) span ∷ [])
      ∙ ap (λ (l : List (List ℕ)). l ++ items_names (post f ++ item (val x) span ∷ [])) (bound_post g)
      ∙ ap (λ (l : List (List ℕ)). bound_names g ++ l) (items_append (post f) (item (val x) span ∷ []) ∙ ap (λ (l : List (List ℕ)). l ++ x.text ∷ []) (bound_post f))

  pub bound_posts : (es : Trees) → items_names (posts es) ≡ bound_in_all es
  bound_posts Nil = refl
  bound_posts (Cons t es) = items_append (post t) (posts es) ∙ ap (λ (l : List (List ℕ)). l ++ items_names (posts es)) (bound_post t) ∙ ap (λ (l : List (List ℕ)). bound_names t ++ l) (bound_posts es)

-- a turn of the loop over nodes
pub items_step : (xs : List Node) (i : ℕ) (d : Node) (first seen more : List (List ℕ)) → i < length xs → more ≡ seen ++ sort_names (node_item (get_or xs i d)).sort
    → seen ≡ first ++ items_names (map node_item (take i xs)) → more ≡ first ++ items_names (map node_item (take (i + 1) xs))
items_step xs i d first seen more h m is =
    let here = sort_names (node_item (get_or xs i d)).sort in
    m ∙ ap (λ (l : List (List ℕ)). l ++ here) is
    ∙ append_assoc first (items_names (map node_item (take i xs))) here
    ∙ ap (λ (l : List (List ℕ)). first ++ l) (sym (
    ap (λ (l : List Node). items_names (map node_item l)) (take_more xs i d h)
    ∙ ap items_names (map-append node_item (take i xs) (get_or xs i d ∷ []))
    ∙ items_append (map node_item (take i xs)) (node_item (get_or xs i d) ∷ [])
    ∙ ap (λ (l : List (List ℕ)). items_names (map node_item (take i xs)) ++ l) (append-nil here)))

pub bound_more : (o : Option (List ℕ)) (scope : List (List ℕ)) → bound o scope ≡ scope ++ bound o []
bound_more None scope = sym (append-nil scope)
bound_more (Some x) scope = refl

-- the variables of one more definition
pub variables_more : (es : List Define) (i : ℕ) (d : Define) → i < length es → variables_of (take (i + 1) es) ≡ variables_of (take i es) ++ (map text (get_or es i d).parameters ++ bound_names (get_or es i d).body)
variables_more es i d h = ap variables_of (take_more es i d h) ∙ variables_append (take i es) (get_or es i d ∷ []) ∙ ap (λ (l : List (List ℕ)). variables_of (take i es) ++ l) (append-nil (map text (get_or es i d).parameters ++ bound_names (get_or es i d).body))
  where
    variables_append : (xs ys : List Define) → variables_of (xs ++ ys) ≡ variables_of xs ++ variables_of ys
    variables_append [] ys = refl
    variables_append (x ∷ xs) ys = ap (λ (l : List (List ℕ)). (map text x.parameters ++ bound_names x.body) ++ l) (variables_append xs ys) ∙ sym (append_assoc (map text x.parameters ++ bound_names x.body) (variables_of xs) (variables_of ys))

-- a turn of the loop over definitions
pub variables_step : (ds : List Definition) (es : List Define) (i : ℕ) (d : Definition) (seen mid more : List (List ℕ)) → i < length ds → AreDefinitions ds es → mid ≡ seen ++ map text (map label (get_or ds i d).parameters.items)
    → ((t : Tree) → map node_item (get_or ds i d).body.nodes.items ≡ post t → more ≡ mid ++ bound_names t) → seen ≡ variables_of (take i es) → more ≡ variables_of (take (i + 1) es)
variables_step ds es i d seen mid more h are m b is =
    let e = get_or es i no_define in
    let here = defines_at ds es i d h are in
    let le : i < length es = rw (sym (defines_length ds es are)) h in
    b e.body here.body
    ∙ ap (λ (l : List (List ℕ)). l ++ bound_names e.body) (m ∙ ap (λ (l : List (List ℕ)). seen ++ l) (ap (map text) here.parameters) ∙ ap (λ (l : List (List ℕ)). l ++ map text e.parameters) is)
    ∙ append_assoc (variables_of (take i es)) (map text e.parameters) (bound_names e.body)
    ∙ sym (variables_more es i no_define le)
