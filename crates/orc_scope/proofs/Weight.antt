-- The number of nodes of a written-out term.
use Rattle.std.proofs.Common.{◌≡◌, ℕ, suc, ◌+◌, ◌-◌, ◌<◌, ◌≤◌, List, [], ◌∷◌, ◌++◌, reverse, map, take, length, get_or, Option, Some, None, refl, sym, ap, ◌∙◌, arith}
use Rattle.std.proofs.lemmas.List.{append-nil, append_assoc, reverse-append}
use Rattle.orc_lex.specs.declared.token.Plain.TheVariants as plains
use Rattle.orc_rules.specs.declared.param.Param.{Param}
use Rattle.orc_rules.specs.Term.{Term}
use Rattle.orc_syntax.specs.declared.tree.Node.{Node}
use Rattle.orc_syntax.specs.Ast.{item as node_item}
use Rattle.orc_syntax.specs.Tree.{Tree, Leaf, Variable, Call, Operation, Val, Trees, Nil, Cons, Seq, Par, Prune, Other, Link, Item, item, leaf, variable, call as called_item, operation, val, Sort, post, posts, count}
use Rattle.orc_scope.specs.Scope.{Known, Meaning, IsVariable, IsDefinition, IsSite, IsNothing, bound, text_if, outer_meaning, position}
use Rattle.orc_scope.specs.Looking.{Task, task, pending as waiting, weight, weighs, parts_of}
use Rattle.orc_scope.specs.Written.{written, written_all, called, params, pruned, prunings, as_param, operated, size}
use Rattle.orc_scope.proofs.Arguments.{prunings_none, called_none}
use Rattle.orc_scope.proofs.Walk.{back_one, back_two, back_step}

-- what a node is
abbrev sort_of : Tree → Sort
sort_of (Leaf p span) = leaf p
sort_of (Variable x) = variable x
sort_of (Call x ts span) = called_item x (count ts)
sort_of (Operation link f g span) = operation link
sort_of (Val x g f span) = val x

-- the nodes that a tree makes as an argument of that number, or at 0 as none
abbrev mutual
  pub weighed : ℕ → Tree → ℕ
  weighed n (Leaf p span) = weight n (leaf p)
  weighed n (Variable x) = weight n (variable x)
  weighed n (Call x ts span) = weight n (called_item x (count ts)) + weighed_all 1 ts
  weighed n (Operation link f g span) = weight n (operation link) + (weighed 0 g + weighed 0 f)
  weighed n (Val x g f span) = weight n (val x) + (weighed 0 f + weighed 0 g)

  pub weighed_all : ℕ → Trees → ℕ
  weighed_all n Nil = 0
  weighed_all n (Cons t ts) = weighed_all (suc n) ts + weighed n t

less : (n : ℕ) (scope : List (List ℕ)) (ts : List Task) (rest : List Item) → weighs (waiting (suc n - 1) scope ts) rest ≡ weighs (waiting n scope ts) rest
less n scope ts rest = let e : suc n - 1 ≡ n = omega arith in ap (λ (m : ℕ). weighs (waiting m scope ts) rest) e

sum_two : (n a b r x y z : ℕ) → x ≡ a + y → y ≡ b + r → n + x ≡ n + (a + b) + r
sum_two n a b r x y z e f = omega (arith, e, f)

mutual
  unfolding weighs

  pub weigh : (t : Tree) (n : ℕ) (scope : List (List ℕ)) (ts : List Task) (rest : List Item) → weighs (task scope n ∷ ts) (reverse (post t) ++ rest) ≡ weighed n t + weighs (waiting (n - 1) scope ts) rest
  weigh (Leaf p span) n scope ts rest = refl
  weigh (Variable x) n scope ts rest = refl
  weigh (Call x es span) n scope ts rest =
      ap (weighs (task scope n ∷ ts)) (back_one (posts es) (item (called_item x (count es)) span) rest)
      ∙ (let e = weigh_all es 0 (count es) (omega arith) scope (waiting (n - 1) scope ts) rest in omega (arith, e))
  weigh (Operation (Seq x) f g span) n scope ts rest =
      ap (weighs (task scope n ∷ ts)) (back_two (post f) (post g) (item (operation (Seq x)) span) rest)
      ∙ sum_two (weight n (operation (Seq x))) (weighed 0 g) (weighed 0 f) (weighs (waiting (n - 1) scope ts) rest) _ _ 0
      (weigh g 0 (bound (text_if x) scope) (task scope 0 ∷ waiting (n - 1) scope ts) (reverse (post f) ++ rest)) (weigh f 0 scope (waiting (n - 1) scope ts) rest)
  weigh (Operation Par f g span) n scope ts rest =
      ap (weighs (task scope n ∷ ts)) (back_two (post f) (post g) (item (operation Par) span) rest)
      ∙ sum_two (weight n (operation Par)) (weighed 0 g) (weighed 0 f) (weighs (waiting (n - 1) scope ts) rest) _ _ 0
      (weigh g 0 scope (task scope 0 ∷ waiting (n - 1) scope ts) (reverse (post f) ++ rest)) (weigh f 0 scope (waiting (n - 1) scope ts) rest)
  weigh (Operation (Prune x) f g span) n scope ts rest =
      ap (weighs (task scope n ∷ ts)) (back_two (post f) (post g) (item (operation (Prune x)) span) rest)
      ∙ sum_two (weight n (operation (Prune x))) (weighed 0 g) (weighed 0 f) (weighs (waiting (n - 1) scope ts) rest) _ _ 0
      (weigh g 0 scope (task (bound (text_if x) scope) 0 ∷ waiting (n - 1) scope ts) (reverse (post f) ++ rest)) (weigh f 0 (bound (text_if x) scope) (waiting (n - 1) scope ts) rest)
  weigh (Operation Other f g span) n scope ts rest =
      ap (weighs (task scope n ∷ ts)) (back_two (post f) (post g) (item (operation Other) span) rest)
      ∙ sum_two (weight n (operation Other)) (weighed 0 g) (weighed 0 f) (weighs (waiting (n - 1) scope ts) rest) _ _ 0
      (weigh g 0 scope (task scope 0 ∷ waiting (n - 1) scope ts) (reverse (post f) ++ rest)) (weigh f 0 scope (waiting (n - 1) scope ts) rest)
  weigh (Val x g f span) n scope ts rest =
      ap (weighs (task scope n ∷ ts)) (back_two (post g) (post f) (item (val x) span) rest)
      ∙ sum_two (weight n (val x)) (weighed 0 f) (weighed 0 g) (weighs (waiting (n - 1) scope ts) rest) _ _ 0
      (weigh f 0 (bound (Some x.text) scope) (task scope 0 ∷ waiting (n - 1) scope ts) (reverse (post g) ++ rest)) (weigh g 0 scope (waiting (n - 1) scope ts) rest)

  -- arguments, after so many others
  pub weigh_all : (es : Trees) (n all : ℕ) → all ≡ count es + n → (scope : List (List ℕ)) (ts : List Task) (rest : List Item) → weighs (waiting all scope ts) (reverse (posts es) ++ rest) ≡ weighed_all (suc n) es + weighs (waiting n scope ts) rest
  weigh_all Nil n all is scope ts rest = let e : all ≡ n = is ∙ omega arith in ap (λ (m : ℕ). weighs (waiting m scope ts) rest) e ∙ omega arith
  weigh_all (Cons t es) n all is scope ts rest =
      ap (weighs (waiting all scope ts)) (ap (λ (l : List Item). l ++ rest) (reverse-append (post t) (posts es)) ∙ append_assoc (reverse (posts es)) (reverse (post t)) rest)
      ∙ (let a = weigh_all es (suc n) all (is ∙ omega arith) scope ts (reverse (post t) ++ rest) in
      let b = weigh t (suc n) scope ts rest in
      let c = less n scope ts rest in
      omega (arith, a, b, c))

-- the nodes of a whole expression
pub weigh_whole : (t : Tree) (scope : List (List ℕ)) → weighs (task scope 0 ∷ []) (reverse (post t)) ≡ weighed 0 t
unfolding weighs
weigh_whole t scope = ap (weighs (task scope 0 ∷ [])) (sym (append-nil (reverse (post t)))) ∙ weigh t 0 scope [] [] ∙ omega arith

-- the nodes that a term makes as an argument
abbrev as_argument : Option Param → ℕ → ℕ
as_argument (Some p) n = 0
as_argument None n = suc n

abbrev arguments : List Term → ℕ
arguments [] = 0
arguments (f ∷ fs) = as_argument (as_param f) (size f) + arguments fs

pruned_size : (f : Term) (n : ℕ) (g : Term) (o : Option Param) → size (pruned f n g o) ≡ size f + as_argument o (size g)
pruned_size f n g (Some p) = omega arith
pruned_size f n g None = omega arith

prunings_size : (n : ℕ) (f : Term) (gs : List Term) → size (prunings n f gs) ≡ size f + arguments gs
prunings_size n f [] = omega arith
prunings_size n f (g ∷ gs) = prunings_size (suc n) (pruned f n g (as_param g)) gs ∙ (let e = pruned_size f n g (as_param g) in omega (arith, e))

called_size : (m : Meaning) (ps : List Param) → size (called m ps) ≡ 1
called_size IsVariable ps = refl
called_size (IsDefinition e) ps = refl
called_size (IsSite m) ps = refl
called_size IsNothing ps = refl

operated_size : (names : List (List ℕ)) (link : Link) (f g : Term) → size (operated names link f g) ≡ 1 + (size f + size g)
operated_size names (Seq x) f g = refl
operated_size names Par f g = refl
operated_size names (Prune x) f g = refl
operated_size names Other f g = refl

operated_none : (names : List (List ℕ)) (link : Link) (f g : Term) → as_param (operated names link f g) ≡ None
operated_none names (Seq x) f g = refl
operated_none names Par f g = refl
operated_none names (Prune x) f g = refl
operated_none names Other f g = refl

-- a part that is no parameter
whole : (f : Term) (w z : ℕ) → as_param f ≡ None → w ≡ size f → z ≡ suc w → z ≡ as_argument (as_param f) (size f)
whole f w z none e d = d ∙ ap suc e ∙ sym (ap (λ (o : Option Param). as_argument o (size f)) none)

module _ (known : Known) (names : List (List ℕ)) where
  argued : (t : Tree) (n : ℕ) → weighed 0 t ≡ size (written known names t) → weighed (suc n) t ≡ as_argument (as_param (written known names t)) (size (written known names t))
  argued (Leaf plains.Stop span) n e = refl
  argued (Leaf (plains.Number z) span) n e = refl
  argued (Leaf (plains.Truth b) span) n e = refl
  argued (Leaf plains.Signal span) n e = refl
  argued (Variable x) n e = refl
  argued (Call x es span) n e =
      let m = outer_meaning (position known.definitions x.text) (position known.sites x.text) in
      let us = written_all known names es in
      whole (prunings (length names) (called m (params (length names) us)) us) (1 + weighed_all 1 es) (2 + weighed_all 1 es) (prunings_none (called m (params (length names) us)) (length names) us (called_none m (params (length names) us))) e (omega arith)
  argued (Operation link f g span) n e = whole (operated names link (written known names f) (written known names g)) (1 + (weighed 0 g + weighed 0 f)) (2 + (weighed 0 g + weighed 0 f)) (operated_none names link (written known names f) (written known names g)) e (omega arith)
  argued (Val x g f span) n e = whole (written known names (Val x g f span)) (1 + (weighed 0 f + weighed 0 g)) (2 + (weighed 0 f + weighed 0 g)) refl e (omega arith)

  mutual
    pub sized : (t : Tree) → weighed 0 t ≡ size (written known names t)
    sized (Leaf plains.Stop span) = refl
    sized (Leaf (plains.Number n) span) = refl
    sized (Leaf (plains.Truth b) span) = refl
    sized (Leaf plains.Signal span) = refl
    sized (Variable x) = refl
    sized (Call x es span) =
        let m = outer_meaning (position known.definitions x.text) (position known.sites x.text) in
        let us = written_all known names es in
        let a = prunings_size (length names) (called m (params (length names) us)) us in
        let b = called_size m (params (length names) us) in
        let c = sized_all es 0 in
        omega (arith, a, b, c)
    sized (Operation link f g span) = let a = operated_size names link (written known names f) (written known names g) in let b = sized f in let c = sized g in omega (arith, a, b, c)
    sized (Val x g f span) = let b = sized f in let c = sized g in omega (arith, b, c)

    pub sized_all : (es : Trees) (n : ℕ) → weighed_all (suc n) es ≡ arguments (written_all known names es)
    sized_all Nil n = refl
    sized_all (Cons t es) n = let a = sized_all es (suc n) in let b = argued t n (sized t) in omega (arith, a, b)

weighs_step : (scope : List (List ℕ)) (n room more : ℕ) (before after us : List Task) (items rest : List Item) (i : Item) (all : ℕ)
    → before ≡ task scope n ∷ us → items ≡ i ∷ rest → after ≡ parts_of i.sort scope (waiting (n - 1) scope us) → more ≡ room - weight n i.sort
    → room - weighs before items ≡ all → more - weighs after rest ≡ all
unfolding weighs
weighs_step scope n room more before after us items rest i all b e a m is =
    let x : weighs before items ≡ weighs (task scope n ∷ us) (i ∷ rest) = ap (λ (ts : List Task). weighs ts items) b ∙ ap (λ (l : List Item). weighs (task scope n ∷ us) l) e in
    let y : weighs after rest ≡ weighs (parts_of i.sort scope (waiting (n - 1) scope us)) rest = ap (λ (ts : List Task). weighs ts rest) a in
    omega (arith, x, y, m, is)

-- a node is weighed
pub weigh_step : (scope : List (List ℕ)) (n room more w : ℕ) (before after us : List Task) (xs : List Node) (count : ℕ) (d : Node) (all : ℕ) → w ≡ weight n (node_item (get_or xs (count - 1) d)).sort → more ≡ room - w
    → before ≡ task scope n ∷ us → after ≡ parts_of (node_item (get_or xs (count - 1) d)).sort scope (waiting (n - 1) scope us) → 0 < count → count ≤ length xs
    → room - weighs before (reverse (map node_item (take count xs))) ≡ all → more - weighs after (reverse (map node_item (take (count - 1) xs))) ≡ all
weigh_step scope n room more w before after us xs count d all e m b a pos high is = weighs_step scope n room more before after us _ _ (node_item (get_or xs (count - 1) d)) all b (back_step xs count d pos high) a (m ∙ ap (λ (k : ℕ). room - k) e) is

pub weighs_none : (items : List Item) → weighs [] items ≡ 0
unfolding weighs
weighs_none [] = refl
weighs_none (i ∷ items) = refl

pub weighs_end : (ts : List Task) → weighs ts [] ≡ 0
unfolding weighs
weighs_end ts = refl
