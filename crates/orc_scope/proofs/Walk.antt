-- Looking at the nodes of a tree finds its faults.
use Rattle.std.proofs.Common.{◌≡◌, ℕ, suc, ◌+◌, ◌-◌, List, [], ◌∷◌, ◌++◌, reverse, map, take, length, get_or, ◌<◌, ◌≤◌, Option, Some, refl, sym, ap, ◌∙◌, arith}
use Rattle.std.proofs.lemmas.List.{map-append, take_more, reverse-append, append-nil, append_assoc}
use Rattle.orc_scope.specs.declared.fault.ScopeFault.{ScopeFault}
use Rattle.orc_syntax.specs.Tree.{Tree, Leaf, Variable, Call, Operation, Val, Trees, Nil, Cons, Seq, Par, Prune, Other, Item, item, call, operation, val, post, posts, count, span_of}
use Rattle.orc_scope.specs.Scope.{IsLeast, Known, faults, faults_of_all, number_faults, bound, text_if}
use Rattle.orc_syntax.specs.declared.tree.Node.{Node}
use Rattle.orc_syntax.specs.Ast.{item as node_item}
use Rattle.orc_scope.specs.Looking.{Task, task, pending, looks, node_faults, parts_of}

-- a node behind its parts, read from behind
pub back_one : {A : Type 0} → (xs : List A) (i : A) (rest : List A) → reverse (xs ++ i ∷ []) ++ rest ≡ i ∷ (reverse xs ++ rest)
back_one xs i rest = rw (reverse-append xs (i ∷ [])) refl

pub back_two : {A : Type 0} → (xs ys : List A) (i : A) (rest : List A) → reverse (xs ++ (ys ++ i ∷ [])) ++ rest ≡ i ∷ (reverse ys ++ (reverse xs ++ rest))
back_two xs ys i rest = rw (reverse-append xs (ys ++ i ∷ []), reverse-append ys (i ∷ [])) (ap (λ (l : List _). i ∷ l) (append_assoc (reverse ys) (reverse xs) rest))

joins : {A : Type 0} → (n a b r : List A) → (n ++ []) ++ (a ++ (b ++ r)) ≡ (n ++ (a ++ b)) ++ r
joins n a b r = ap (λ (l : List _). l ++ (a ++ (b ++ r))) (append-nil n) ∙ sym (append_assoc n (a ++ b) r ∙ ap (λ (l : List _). n ++ l) (append_assoc a b r))

joins_call : {A : Type 0} → (n c a r : List A) → (n ++ c) ++ (a ++ r) ≡ (n ++ (c ++ a)) ++ r
joins_call n c a r = append_assoc n c (a ++ r) ∙ ap (λ (l : List _). n ++ l) (sym (append_assoc c a r)) ∙ sym (append_assoc n (c ++ a) r)

-- two parts of a node
abbrev two : (known : Known) (i : Item) (scope : List (List ℕ)) (n : ℕ) (f g : Tree) (sf sg : List (List ℕ)) (ts : List Task) (rest : List Item) → Type 0
two known i scope n f g sf sg ts rest =
    looks known (task scope n ∷ ts) (reverse (post f ++ (post g ++ i ∷ [])) ++ rest)
    ≡ (number_faults n i.span ++ (faults known sg g ++ faults known sf f)) ++ looks known (pending (n - 1) scope ts) rest

less : (known : Known) (n : ℕ) (scope : List (List ℕ)) (ts : List Task) (rest : List Item) (fs : List ScopeFault) → fs ++ looks known (pending (suc n - 1) scope ts) rest ≡ fs ++ looks known (pending n scope ts) rest
less known n scope ts rest fs = let e : suc n - 1 ≡ n = omega arith in ap (λ (m : ℕ). fs ++ looks known (pending m scope ts) rest) e

mutual
  unfolding looks

  pub look : (known : Known) (t : Tree) (n : ℕ) (scope : List (List ℕ)) (ts : List Task) (rest : List Item) →
      looks known (task scope n ∷ ts) (reverse (post t) ++ rest) ≡ (number_faults n (span_of t) ++ faults known scope t) ++ looks known (pending (n - 1) scope ts) rest
  look known (Leaf p span) n scope ts rest = refl
  look known (Variable x) n scope ts rest = refl
  look known (Call x es span) n scope ts rest =
      ap (looks known (task scope n ∷ ts)) (back_one (posts es) (item (call x (count es)) span) rest)
      ∙ ap (λ (l : List ScopeFault). (number_faults n span ++ node_faults known scope (call x (count es))) ++ l) (look_all known es 0 (count es) (omega arith) scope (pending (n - 1) scope ts) rest)
      ∙ joins_call (number_faults n span) (node_faults known scope (call x (count es))) (faults_of_all known scope 1 es) (looks known (pending (n - 1) scope ts) rest)
  look known (Operation (Seq x) f g span) n scope ts rest =
      ap (looks known (task scope n ∷ ts)) (back_two (post f) (post g) (item (operation (Seq x)) span) rest)
      ∙ ap (λ (l : List ScopeFault). (number_faults n span ++ []) ++ l)
      (look known g 0 (bound (text_if x) scope) (task scope 0 ∷ pending (n - 1) scope ts) (reverse (post f) ++ rest)
      ∙ ap (λ (l : List ScopeFault). faults known (bound (text_if x) scope) g ++ l) (look known f 0 scope (pending (n - 1) scope ts) rest))
      ∙ joins (number_faults n span) (faults known (bound (text_if x) scope) g) (faults known scope f) (looks known (pending (n - 1) scope ts) rest)
  look known (Operation Par f g span) n scope ts rest =
      ap (looks known (task scope n ∷ ts)) (back_two (post f) (post g) (item (operation Par) span) rest)
      ∙ ap (λ (l : List ScopeFault). (number_faults n span ++ []) ++ l)
      (look known g 0 scope (task scope 0 ∷ pending (n - 1) scope ts) (reverse (post f) ++ rest)
      ∙ ap (λ (l : List ScopeFault). faults known scope g ++ l) (look known f 0 scope (pending (n - 1) scope ts) rest))
      ∙ joins (number_faults n span) (faults known scope g) (faults known scope f) (looks known (pending (n - 1) scope ts) rest)
  look known (Operation (Prune x) f g span) n scope ts rest =
      ap (looks known (task scope n ∷ ts)) (back_two (post f) (post g) (item (operation (Prune x)) span) rest)
      ∙ ap (λ (l : List ScopeFault). (number_faults n span ++ []) ++ l)
      (look known g 0 scope (task (bound (text_if x) scope) 0 ∷ pending (n - 1) scope ts) (reverse (post f) ++ rest)
      ∙ ap (λ (l : List ScopeFault). faults known scope g ++ l) (look known f 0 (bound (text_if x) scope) (pending (n - 1) scope ts) rest))
      ∙ joins (number_faults n span) (faults known scope g) (faults known (bound (text_if x) scope) f) (looks known (pending (n - 1) scope ts) rest)
  look known (Operation Other f g span) n scope ts rest =
      ap (looks known (task scope n ∷ ts)) (back_two (post f) (post g) (item (operation Other) span) rest)
      ∙ ap (λ (l : List ScopeFault). (number_faults n span ++ []) ++ l)
      (look known g 0 scope (task scope 0 ∷ pending (n - 1) scope ts) (reverse (post f) ++ rest)
      ∙ ap (λ (l : List ScopeFault). faults known scope g ++ l) (look known f 0 scope (pending (n - 1) scope ts) rest))
      ∙ joins (number_faults n span) (faults known scope g) (faults known scope f) (looks known (pending (n - 1) scope ts) rest)
  look known (Val x g f span) n scope ts rest =
      ap (looks known (task scope n ∷ ts)) (back_two (post g) (post f) (item (val x) span) rest)
      ∙ ap (λ (l : List ScopeFault). (number_faults n span ++ []) ++ l)
      (look known f 0 (bound (Some x.text) scope) (task scope 0 ∷ pending (n - 1) scope ts) (reverse (post g) ++ rest)
      ∙ ap (λ (l : List ScopeFault). faults known (bound (Some x.text) scope) f ++ l) (look known g 0 scope (pending (n - 1) scope ts) rest))
      ∙ joins (number_faults n span) (faults known (bound (Some x.text) scope) f) (faults known scope g) (looks known (pending (n - 1) scope ts) rest)

  -- arguments, after so many others
  pub look_all : (known : Known) (es : Trees) (n all : ℕ) → all ≡ count es + n → (scope : List (List ℕ)) (ts : List Task) (rest : List Item) →
      looks known (pending all scope ts) (reverse (posts es) ++ rest) ≡ faults_of_all known scope (suc n) es ++ looks known (pending n scope ts) rest
  look_all known Nil n all is scope ts rest = let e : all ≡ n = is ∙ omega arith in ap (λ (m : ℕ). looks known (pending m scope ts) rest) e
  look_all known (Cons t es) n all is scope ts rest =
      ap (looks known (pending all scope ts)) (ap (λ (l : List Item). l ++ rest) (reverse-append (post t) (posts es)) ∙ append_assoc (reverse (posts es)) (reverse (post t)) rest)
      ∙ look_all known es (suc n) all (is ∙ omega arith) scope ts (reverse (post t) ++ rest)
      ∙ ap (λ (l : List ScopeFault). faults_of_all known scope (suc (suc n)) es ++ l) (look known t (suc n) scope ts rest ∙ less known n scope ts rest (number_faults (suc n) (span_of t) ++ faults known scope t))
      ∙ sym (append_assoc (faults_of_all known scope (suc (suc n)) es) (number_faults (suc n) (span_of t) ++ faults known scope t) (looks known (pending n scope ts) rest))

-- the faults of a whole expression
pub look_whole : (known : Known) (t : Tree) (scope : List (List ℕ)) → looks known (task scope 0 ∷ []) (reverse (post t)) ≡ faults known scope t
unfolding looks
look_whole known t scope = ap (looks known (task scope 0 ∷ [])) (sym (append-nil (reverse (post t)))) ∙ look known t 0 scope [] [] ∙ append-nil (faults known scope t)

-- one node is looked at
pub looks_step : (known : Known) (scope : List (List ℕ)) (n : ℕ) (before after us : List Task) (items rest : List Item) (i : Item) (done all : List ScopeFault)
    → before ≡ task scope n ∷ us → items ≡ i ∷ rest → after ≡ parts_of i.sort scope (pending (n - 1) scope us)
    → done ++ looks known before items ≡ all → (done ++ (number_faults n i.span ++ node_faults known scope i.sort)) ++ looks known after rest ≡ all
unfolding looks
looks_step known scope n before after us items rest i done all b e a is =
    ap (λ (l : List Task). (done ++ (number_faults n i.span ++ node_faults known scope i.sort)) ++ looks known l rest) a
    ∙ append_assoc done (number_faults n i.span ++ node_faults known scope i.sort) (looks known (parts_of i.sort scope (pending (n - 1) scope us)) rest)
    ∙ sym (ap (λ (l : List Task). done ++ looks known l items) b ∙ ap (λ (l : List Item). done ++ looks known (task scope n ∷ us) l) e)
    ∙ is

pub looks_none : (known : Known) (items : List Item) → looks known [] items ≡ []
unfolding looks
looks_none known [] = refl
looks_none known (i ∷ items) = refl

-- the last of the first nodes
pub back_step : (xs : List Node) (n : ℕ) (d : Node) → 0 < n → n ≤ length xs → reverse (map node_item (take n xs)) ≡ node_item (get_or xs (n - 1) d) ∷ reverse (map node_item (take (n - 1) xs))
back_step xs n d pos le =
    let e : take n xs ≡ take (n - 1) xs ++ get_or xs (n - 1) d ∷ [] =
    (let k : n ≡ n - 1 + 1 = omega arith in ap (λ (m : ℕ). take m xs) k ∙ take_more xs (n - 1) d (omega arith)) in
    ap (λ (l : List Node). reverse (map node_item l)) e
    ∙ ap (λ (l : List Item). reverse l) (map-append node_item (take (n - 1) xs) (get_or xs (n - 1) d ∷ []))
    ∙ reverse-append (map node_item (take (n - 1) xs)) (node_item (get_or xs (n - 1) d) ∷ [])

-- a turn of the loop over the nodes
pub find_step : (known : Known) (scope : List (List ℕ)) (n : ℕ) (before after us : List Task) (xs : List Node) (count : ℕ) (d : Node) (least own result : Option ScopeFault) (done all : List ScopeFault)
    → before ≡ task scope n ∷ us → after ≡ parts_of (node_item (get_or xs (count - 1) d)).sort scope (pending (n - 1) scope us)
    → 0 < count → count ≤ length xs
    → IsLeast least done → IsLeast own (number_faults n (get_or xs (count - 1) d).span ++ node_faults known scope (node_item (get_or xs (count - 1) d)).sort)
    → ((fs gs : List ScopeFault) → IsLeast least fs → IsLeast own gs → IsLeast result (fs ++ gs))
    → done ++ looks known before (reverse (map node_item (take count xs))) ≡ all
    → (more : List ScopeFault) × IsLeast result more × (more ++ looks known after (reverse (map node_item (take (count - 1) xs))) ≡ all)
find_step known scope n before after us xs count d least own result done all b a pos high l o both is =
    let i = node_item (get_or xs (count - 1) d) in
    (done ++ (number_faults n i.span ++ node_faults known scope i.sort), both done (number_faults n i.span ++ node_faults known scope i.sort) l o, looks_step known scope n before after us _ _ i done all b (back_step xs count d pos high) a is)
