-- One node and one list more leave the terms of the other nodes as they are.
use Rattle.std.proofs.Common.{◌≡◌, ◌<◌, ◌+◌, ◌⊎◌, ⊎_elim, inl, inr, ℕ, zero, suc, List, [], ◌∷◌, ◌++◌, length, map, take, get_or, refl, sym, ap, subst, ◌∙◌, arith, length-append}
use Rattle.std.specs.Prelude.{slice_get, Some}
use Rattle.std.specs.List.{AllByRecursion}
use Rattle.std.proofs.lemmas.List.{map-append, take_more, get_or_append_left, get_or_at}
use Rattle.orc_rules.specs.declared.value.Value.{Value}
use Rattle.orc_rules.specs.declared.param.Param.TheVariants.{Is as param_is}
use Rattle.orc_rules.specs.declared.param.Operand.{Operand}
use Rattle.orc_rules.specs.declared.param.Operand.TheVariants.{Is}
use Rattle.orc_rules.specs.declared.program.TermNode.{TermNode}
use Rattle.orc_rules.specs.declared.program.TermNode.TheVariants.{Stop, Operand as On, Site, Call, Par, Seq, Prune, Other}
use Rattle.orc_rules.specs.Term.{Term, stop, site, call}
use Rattle.orc_rules.specs.Nodes.{Listing, Routine, param_of, unfold_node, terms_from, code, source, definition_of, definitions, HasParts, ArePartsFirst}
use Rattle.orc_graph.specs.declared.definitions.Body.{Body}
use Rattle.orc_graph.specs.Bodies.{routine_in}
use Rattle.orc_graph.specs.declared.node.Node.{Node}
use Rattle.orc_graph.specs.declared.node.Node.TheVariants as node
use Rattle.orc_graph.specs.Graph.{term_node}
use Rattle.orc_graph.specs.Called.{with_call, HasList, HasBody}

-- ---- a loop that tests each

all_push : {X : Type 0} (P : X → Type 0) (xs : List X) (x : X) → AllByRecursion P xs → P x → AllByRecursion P (xs ++ x ∷ [])
all_push P [] x all holds = (holds, tt)
all_push P (y ∷ xs) x all holds = (all.0, all_push P xs x all.1 holds)

pub have_bodies : (n : ℕ) (names : List ℕ) (bs : List Body) → AllByRecursion (λ b. b.node < n) bs → AllByRecursion (HasBody n) (map (routine_in names) bs)
have_bodies n names [] all = tt
have_bodies n names (b ∷ bs) all = (all.0, have_bodies n names bs all.1)

-- one item more, of a list that isn't mapped
pub each_more : {X : Type 0} (P : X → Type 0) (xs : List X) (i : ℕ) (d : X) → i < length xs → AllByRecursion P (take i xs) → P (get_or xs i d) → AllByRecursion P (take (i + 1) xs)
each_more P xs i d within all holds = subst (AllByRecursion P) (sym (take_more xs i d within)) (all_push P (take i xs) (get_or xs i d) all holds)

-- ---- nodes

-- a node of a longer list
node_in : (ns : List TermNode) (n : TermNode) (i : ℕ) (m : TermNode) → slice_get (ns ++ n ∷ []) i ≡ Some m → (slice_get ns i ≡ Some m) ⊎ (n ≡ m)
node_in [] n zero m e = inr cc
node_in [] n (suc i) m e = cc e
node_in (k ∷ ns) n zero m e = inl e
node_in (k ∷ ns) n (suc i) m e = node_in ns n i m e

parts_called : (ns : List TermNode) (e k : ℕ) → ArePartsFirst ns → ArePartsFirst (ns ++ Call e k ∷ [])
parts_called ns e k first i m is = ⊎_elim (λ old. first i m old) (λ (new : Call e k ≡ m). subst (HasParts i) new tt) (node_in ns (Call e k) i m is)

pub parts_first : (g l : Listing) (e : ℕ) (args : List Value) → g ≡ with_call l e args → ArePartsFirst l.nodes → ArePartsFirst g.nodes
parts_first g l e args is first = subst (λ (h : Listing). ArePartsFirst h.nodes) (sym is) (parts_called l.nodes e (length l.lists) first)

-- ---- terms

node_same : (at : ℕ → Term) (lists more : List (List Operand)) (n : TermNode) → HasList (length lists) n → unfold_node at (lists ++ more) n ≡ unfold_node at lists n
node_same at lists more Stop has = refl
node_same at lists more (On p) has = refl
node_same at lists more (Site m l) has = ap (λ (ps : List Operand). site m (map param_of ps)) (get_or_append_left lists more [] l has)
node_same at lists more (Call e l) has = ap (λ (ps : List Operand). call e (map param_of ps)) (get_or_append_left lists more [] l has)
node_same at lists more (Par f g) has = refl
node_same at lists more (Seq f x g) has = refl
node_same at lists more (Prune f x g) has = refl
node_same at lists more (Other f g) has = refl

terms_same : (lists more : List (List Operand)) (ts : List Term) (ns : List TermNode) → AllByRecursion (HasList (length lists)) ns
    → terms_from (lists ++ more) ts ns ≡ terms_from lists ts ns
terms_same lists more ts [] has = refl
terms_same lists more ts (n ∷ ns) has =
    let at : ℕ → Term = λ i. get_or ts i stop in
    ap (λ (t : Term). terms_from (lists ++ more) (ts ++ t ∷ []) ns) (node_same at lists more n has.0) ∙ terms_same lists more (ts ++ unfold_node at lists n ∷ []) ns has.1

terms_last : (lists : List (List Operand)) (ts : List Term) (ns : List TermNode) (n : TermNode)
    → terms_from lists ts (ns ++ n ∷ []) ≡ terms_from lists ts ns ++ unfold_node (λ i. get_or (terms_from lists ts ns) i stop) lists n ∷ []
terms_last lists ts [] n = refl
terms_last lists ts (m ∷ ns) n = terms_last lists (ts ++ unfold_node (λ i. get_or ts i stop) lists m ∷ []) ns n

terms_count : (lists : List (List Operand)) (ts : List Term) (ns : List TermNode) → length (terms_from lists ts ns) ≡ length ts + length ns
terms_count lists ts [] = omega arith
terms_count lists ts (n ∷ ns) =
    let t : Term = unfold_node (λ i. get_or ts i stop) lists n in
    omega (arith, terms_count lists (ts ++ t ∷ []) ns, length-append ts (t ∷ []))

values_are : (vs : List Value) → map param_of (map Is vs) ≡ map param_is vs
values_are [] = refl
values_are (v ∷ vs) = λ i. param_is v ∷ values_are vs i

-- the terms of a program with a call more: the call's stands behind the others
terms_called : (l : Listing) (e : ℕ) (args : List Value) → AllByRecursion (HasList (length l.lists)) l.nodes
    → terms_from (with_call l e args).lists [] (with_call l e args).nodes ≡ terms_from l.lists [] l.nodes ++ call e (map param_is args) ∷ []
terms_called l e args has =
    let lists : List (List Operand) = l.lists ++ map Is args ∷ [] in
    let ts : List Term = terms_from lists [] l.nodes in
    let at : get_or lists (length l.lists) [] ≡ map Is args = get_or_at l.lists (map Is args) [] [] (length l.lists) refl in
    terms_last lists [] l.nodes (Call e (length l.lists))
    ∙ ap (λ (ps : List Operand). ts ++ call e (map param_of ps) ∷ []) at
    ∙ (λ i. terms_same l.lists (map Is args ∷ []) [] l.nodes has i ++ call e (values_are args i) ∷ [])

pub source_called : (l : Listing) (e : ℕ) (args : List Value) → AllByRecursion (HasList (length l.lists)) l.nodes → source (with_call l e args) ≡ call e (map param_is args)
source_called l e args has =
    let ts : List Term = terms_from l.lists [] l.nodes in
    let count : length ts ≡ length l.nodes = omega (arith, terms_count l.lists [] l.nodes) in
    ap (λ (us : List Term). get_or us (length l.nodes) stop) (terms_called l e args has) ∙ get_or_at ts (call e (map param_is args)) [] stop (length l.nodes) count

code_called : (l : Listing) (e : ℕ) (args : List Value) (i : ℕ) → AllByRecursion (HasList (length l.lists)) l.nodes → i < length l.nodes → code (with_call l e args) i ≡ code l i
code_called l e args i has lt =
    let ts : List Term = terms_from l.lists [] l.nodes in
    let within : i < length ts = omega (arith, lt, terms_count l.lists [] l.nodes) in
    ap (λ (us : List Term). get_or us i stop) (terms_called l e args has) ∙ get_or_append_left ts (call e (map param_is args) ∷ []) stop i within

pub definitions_called : (l : Listing) (e : ℕ) (args : List Value) → AllByRecursion (HasList (length l.lists)) l.nodes → AllByRecursion (HasBody (length l.nodes)) l.routines
    → definitions (with_call l e args) ≡ definitions l
definitions_called l e args has bodies = go l.routines bodies
  where
    go : (rs : List Routine) → AllByRecursion (HasBody (length l.nodes)) rs → map (definition_of (with_call l e args)) rs ≡ map (definition_of l) rs
    go [] all = refl
    go (r ∷ rs) all = λ i. record { params = r.params; body = code_called l e args r.body has all.0 i } ∷ go rs all.1 i

-- ---- the graph

listing_same : (ns ns' : List TermNode) (ls ls' : List (List Operand)) (rs rs' : List Routine) (m m' : ℕ) → ns ≡ ns' → ls ≡ ls' → rs ≡ rs' → m ≡ m'
    → ◌≡◌ {A = Listing} (record { nodes = ns; lists = ls; routines = rs; root = m }) (record { nodes = ns'; lists = ls'; routines = rs'; root = m' })
listing_same ns ns' ls ls' rs rs' m m' a b c d = λ i. record { nodes = a i; lists = b i; routines = c i; root = d i }

-- what a graph becomes by one node and one list more
pub is_called : (l : Listing) (ns ns' : List Node) (ls ls' : List (List Operand)) (rs rs' : List Routine) (m root list e : ℕ) (args : List Value)
    → ◌≡◌ {A = Listing} (record { nodes = map term_node ns; lists = ls; routines = rs; root = m }) l
    → ns' ≡ ns ++ node.Call e list ∷ [] → ls' ≡ ls ++ map Is args ∷ [] → rs' ≡ rs → list ≡ length ls → root ≡ length l.nodes
    → ◌≡◌ {A = Listing} (record { nodes = map term_node ns'; lists = ls'; routines = rs'; root = root }) (with_call l e args)
is_called l ns ns' ls ls' rs rs' m root list e args view more lists same number at =
    let old : map term_node ns ≡ l.nodes = ap (λ (h : Listing). h.nodes) view in
    let old_lists : ls ≡ l.lists = ap (λ (h : Listing). h.lists) view in
    let old_routines : rs ≡ l.routines = ap (λ (h : Listing). h.routines) view in
    let all : map term_node ns' ≡ map term_node ns ++ Call e list ∷ [] = ap (map term_node) more ∙ map-append term_node ns (node.Call e list ∷ []) in
    let place : list ≡ length l.lists = number ∙ ap (λ (xs : List (List Operand)). length xs) old_lists in
    let nodes : map term_node ns' ≡ l.nodes ++ Call e (length l.lists) ∷ [] = all ∙ (λ i. old i ++ Call e (place i) ∷ []) in
    let all_lists : ls' ≡ l.lists ++ map Is args ∷ [] = lists ∙ ap (λ (xs : List (List Operand)). xs ++ map Is args ∷ []) old_lists in
    listing_same (map term_node ns') (l.nodes ++ Call e (length l.lists) ∷ []) ls' (l.lists ++ map Is args ∷ []) rs' l.routines root (length l.nodes) nodes all_lists (same ∙ old_routines) at
