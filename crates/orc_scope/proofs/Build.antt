-- Writing out the nodes of a tree gives its written-out term.
use Rattle.std.proofs.Common.{◌≡◌, ℕ, zero, suc, arith, ◌+◌, List, [], ◌∷◌, ◌++◌, reverse, map, take, drop, length, get_or, ◌<◌, refl, sym, ap, ◌∙◌}
use Rattle.std.proofs.lemmas.List.{drop_more, append_assoc, append-nil, reverse-append, reverse-reverse, length-reverse}
use Rattle.std.proofs.Math.Seq.{take-append_seam, drop-append_seam}
use Rattle.orc_syntax.specs.Tree.{Tree, Leaf, Variable, Call, Operation, Val, Trees, Nil, Cons, Item, item, call, operation, val, post, posts, count}
use Rattle.orc_syntax.specs.declared.tree.Node.{Node}
use Rattle.orc_syntax.specs.Ast.{item as node_item}
use Rattle.orc_scope.specs.Scope.{Known}
use Rattle.orc_rules.specs.Term.{Term}
use Rattle.orc_scope.specs.Written.{written, written_all, call_term}
use Rattle.orc_scope.specs.Building.{built, builds, IsSmall, AreSmall}

count_all : (known : Known) (names : List (List ℕ)) (es : Trees) → count es ≡ length (reverse (written_all known names es))
count_all known names es = count_length known names es ∙ sym (length-reverse (written_all known names es))
  where
    count_length : (known : Known) (names : List (List ℕ)) (es : Trees) → count es ≡ length (written_all known names es)
    count_length known names Nil = refl
    count_length known names (Cons t es) = ap suc (count_length known names es)

-- the arguments of a call
call_built : (known : Known) (names : List (List ℕ)) (text : List ℕ) (n : ℕ) (us fs : List Term) → n ≡ length (reverse us) → call_term known names text (reverse (take n (reverse us ++ fs))) ∷ drop n (reverse us ++ fs) ≡ call_term known names text us ∷ fs
call_built known names text n us fs e = rw (e, take-append_seam (reverse us) fs, drop-append_seam (reverse us) fs, reverse-reverse us) refl

mutual
  unfolding builds

  pub build : (known : Known) (names : List (List ℕ)) (t : Tree) (fs : List Term) (rest : List Item) → builds known names fs (post t ++ rest) ≡ builds known names (written known names t ∷ fs) rest
  build known names (Leaf p span) fs rest = refl
  build known names (Variable x) fs rest = refl
  build known names (Call x es span) fs rest =
      ap (builds known names fs) (append_assoc (posts es) (item (call x (count es)) span ∷ []) rest)
      ∙ build_all known names es fs (item (call x (count es)) span ∷ rest)
      ∙ ap (λ (l : List Term). builds known names l rest) (call_built known names x.text (count es) (written_all known names es) fs (count_all known names es))
  build known names (Operation link f g span) fs rest =
      ap (builds known names fs) (append_assoc (post f) (post g ++ item (operation link) span ∷ []) rest ∙ ap (λ (l : List Item). post f ++ l) (append_assoc (post g) (item (operation link) span ∷ []) rest))
      ∙ build known names f fs (post g ++ item (operation link) span ∷ rest)
      ∙ build known names g (written known names f ∷ fs) (item (operation link) span ∷ rest)
  build known names (Val x g f span) fs rest =
      ap (builds known names fs) (append_assoc (post g) (post f ++ item (val x) span ∷ []) rest ∙ ap (λ (l : List Item). post g ++ l) (append_assoc (post f) (item (val x) span ∷ []) rest))
      ∙ build known names g fs (post f ++ item (val x) span ∷ rest)
      ∙ build known names f (written known names g ∷ fs) (item (val x) span ∷ rest)

  pub build_all : (known : Known) (names : List (List ℕ)) (es : Trees) (fs : List Term) (rest : List Item) → builds known names fs (posts es ++ rest) ≡ builds known names (reverse (written_all known names es) ++ fs) rest
  build_all known names Nil fs rest = refl
  build_all known names (Cons t es) fs rest =
      ap (builds known names fs) (append_assoc (post t) (posts es) rest)
      ∙ build known names t fs (posts es ++ rest)
      ∙ build_all known names es (written known names t ∷ fs) rest
      ∙ ap (λ (l : List Term). builds known names l rest) (sym (ap (λ (l : List Term). l ++ fs) (reverse-append (written known names t ∷ []) (written_all known names es)) ∙ append_assoc (reverse (written_all known names es)) (written known names t ∷ []) fs))

-- a whole expression
pub build_whole : (known : Known) (names : List (List ℕ)) (t : Tree) → builds known names [] (post t) ≡ written known names t ∷ []
unfolding builds
build_whole known names t = ap (builds known names []) (sym (append-nil (post t))) ∙ build known names t [] []

-- a turn of the loop over the nodes
pub builds_step : (known : Known) (names : List (List ℕ)) (fs gs total : List Term) (xs : List Node) (i : ℕ) (d : Node) → i < length xs → gs ≡ built known names (node_item (get_or xs i d)).sort fs
    → builds known names fs (map node_item (drop i xs)) ≡ total → builds known names gs (map node_item (drop (i + 1) xs)) ≡ total
unfolding builds
builds_step known names fs gs total xs i d h e is =
    ap (λ (l : List Term). builds known names l (map node_item (drop (i + 1) xs))) e
    ∙ ap (λ (l : List Node). builds known names fs (map node_item l)) (sym (drop_more xs i d h))
    ∙ is

-- a node of some
pub small_at : (xs : List Node) (i : ℕ) (d : Node) → i < length xs → AreSmall (map node_item xs) → IsSmall (node_item (get_or xs i d)).sort
small_at [] i d h small = absurd (omega (arith, h))
small_at (x ∷ xs) zero d h small = small.0
small_at (x ∷ xs) (suc i) d h small = small_at xs i d (omega (arith, h)) small.1
