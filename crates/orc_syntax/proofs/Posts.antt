-- The nodes of a program are those of no other.
use Rattle.std.proofs.Common.{◌≡◌, ℕ, suc, zero, List, [], ◌∷◌, ◌++◌, map, refl, sym, ap, ◌∙◌, append_assoc}
use Rattle.std.proofs.lemmas.List.{append-nil}
use Rattle.orc_lex.specs.declared.token.Span.{Span}
use Rattle.orc_syntax.specs.Tree.{Label, Link, Tree, Leaf, Variable, Call, Operation, Val, Trees, Nil, Cons, Define, Source, Sort, leaf, variable, call, operation, val, Item, item, count, post, posts}
use Rattle.orc_syntax.specs.Machine.{Defined, Posted}
use Rattle.orc_syntax.proofs.Programs.{posted_define, posted}

-- trees taken from a stack, and the rest of it
record Taken : Type 0 where
  trees : Trees
  rest : List Tree

abbrev taken : Trees → List Tree → Taken
taken ts st = record { trees = ts; rest = st }

abbrev take_one : Trees → List Tree → Taken
take_one ts [] = taken ts []
take_one ts (t ∷ st) = taken (Cons t ts) st

abbrev take_some : ℕ → List Tree → Taken
take_some zero st = taken Nil st
take_some (suc n) st = let r = take_some n st in take_one r.trees r.rest

abbrev called : Label → Span → Taken → List Tree
called x span r = Call x r.trees span ∷ r.rest

abbrev operated : Link → Span → List Tree → List Tree
operated l span (b ∷ a ∷ st) = Operation l a b span ∷ st
operated l span st = st

abbrev bound : Label → Span → List Tree → List Tree
bound x span (b ∷ a ∷ st) = Val x a b span ∷ st
bound x span st = st

-- one more node
abbrev made : Sort → Span → List Tree → List Tree
made (leaf p) span st = Leaf p span ∷ st
made (variable x) span st = Variable x ∷ st
made (call x n) span st = called x span (take_some n st)
made (operation l) span st = operated l span st
made (val x) span st = bound x span st

abbrev built : List Item → List Tree → List Tree
built [] st = st
built (i ∷ is) st = built is (made i.sort i.span st)

-- arguments on a stack
abbrev onto : Trees → List Tree → List Tree
onto Nil st = st
onto (Cons t ts) st = onto ts (t ∷ st)

take_onto : (ts : Trees) (st : List Tree) → take_some (count ts) (onto ts st) ≡ taken ts st
take_onto Nil st = refl
take_onto (Cons t ts) st = ap (λ (r : Taken). take_one r.trees r.rest) (take_onto ts (t ∷ st))

mutual
  built_post : (t : Tree) (rest : List Item) (st : List Tree) → built (post t ++ rest) st ≡ built rest (t ∷ st)
  built_post (Leaf p span) rest st = refl
  built_post (Variable x) rest st = refl
  built_post (Call x ts span) rest st =
      ap (λ (is : List Item). built is st) (append_assoc (posts ts) (item (call x (count ts)) span ∷ []) rest)
      ∙ built_posts ts (item (call x (count ts)) span ∷ rest) st
      ∙ ap (λ (r : Taken). built rest (called x span r)) (take_onto ts st)
  built_post (Operation l a b span) rest st =
      ap (λ (is : List Item). built is st) (append_assoc (post a) (post b ++ item (operation l) span ∷ []) rest)
      ∙ built_post a ((post b ++ item (operation l) span ∷ []) ++ rest) st
      ∙ ap (λ (is : List Item). built is (a ∷ st)) (append_assoc (post b) (item (operation l) span ∷ []) rest)
      ∙ built_post b (item (operation l) span ∷ rest) (a ∷ st)
  built_post (Val x a b span) rest st =
      ap (λ (is : List Item). built is st) (append_assoc (post a) (post b ++ item (val x) span ∷ []) rest)
      ∙ built_post a ((post b ++ item (val x) span ∷ []) ++ rest) st
      ∙ ap (λ (is : List Item). built is (a ∷ st)) (append_assoc (post b) (item (val x) span ∷ []) rest)
      ∙ built_post b (item (val x) span ∷ rest) (a ∷ st)

  built_posts : (ts : Trees) (rest : List Item) (st : List Tree) → built (posts ts ++ rest) st ≡ built rest (onto ts st)
  built_posts Nil rest st = refl
  built_posts (Cons t ts) rest st =
      ap (λ (is : List Item). built is st) (append_assoc (post t) (posts ts) rest) ∙ built_post t (posts ts ++ rest) st ∙ built_posts ts rest (t ∷ st)

one_tree : (t u : Tree) → t ∷ [] ≡ u ∷ [] → t ≡ u
one_tree t u e = cc

built_alone : (t : Tree) → built (post t) [] ≡ t ∷ []
built_alone t = ap (λ (is : List Item). built is []) (sym (append-nil (post t))) ∙ built_post t [] []

-- Nodes spell one tree.
pub post_is : (t u : Tree) → post t ≡ post u → t ≡ u
post_is t u e = one_tree t u (sym (built_alone t) ∙ ap (λ (is : List Item). built is []) e ∙ built_alone u)

cons_head : (d x : Defined) (ds xs : List Defined) → d ∷ ds ≡ x ∷ xs → d ≡ x
cons_head d x ds xs e = cc

cons_tail : (d x : Defined) (ds xs : List Defined) → d ∷ ds ≡ x ∷ xs → ds ≡ xs
cons_tail d x ds xs e = cc

same_define : (d e : Define) → d.name ≡ e.name → d.parameters ≡ e.parameters → d.body ≡ e.body → d ≡ e
same_define d e a b c =
    ap (λ (x : Label). record { name = x; parameters = d.parameters; body = d.body }) a ∙ ap (λ (ps : List Label). record { name = e.name; parameters = ps; body = d.body }) b ∙ ap (λ (t : Tree). record { name = e.name; parameters = e.parameters; body = t }) c

define_is : (d e : Define) → posted_define d ≡ posted_define e → d ≡ e
define_is d e h = same_define d e (ap (λ (q : Defined). q.name) h) (ap (λ (q : Defined). q.parameters) h) (post_is d.body e.body (ap (λ (q : Defined). q.body) h))

defines_are : (ds es : List Define) → map posted_define ds ≡ map posted_define es → ds ≡ es
defines_are [] [] h = refl
defines_are [] (e ∷ es) h = absurd cc
defines_are (d ∷ ds) [] h = absurd cc
defines_are (d ∷ ds) (e ∷ es) h =
    ap (λ (q : Define). q ∷ ds) (define_is d e (cons_head _ _ _ _ h)) ∙ ap (λ (qs : List Define). e ∷ qs) (defines_are ds es (cons_tail _ _ _ _ h))

same_source : (s t : Source) → s.definitions ≡ t.definitions → s.main ≡ t.main → s ≡ t
same_source s t a b = ap (λ (ds : List Define). record { definitions = ds; main = s.main }) a ∙ ap (λ (u : Tree). record { definitions = t.definitions; main = u }) b

-- Nodes spell one program.
pub source_is : (s t : Source) → posted s ≡ posted t → s ≡ t
source_is s t h = same_source s t (defines_are s.definitions t.definitions (ap (λ (q : Posted). q.definitions) h)) (post_is s.main t.main (ap (λ (q : Posted). q.main) h))
