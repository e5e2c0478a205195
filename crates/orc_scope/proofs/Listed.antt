-- The terms of nodes, as nodes and lists of operands come.
use Rattle.std.proofs.Common.{◌≡◌, ℕ, ◌+◌, ◌≤◌, List, [], ◌∷◌, ◌++◌, length, map, refl, ap, ◌∙◌, arith}
use Rattle.std.proofs.lemmas.List.{length-append, get_or_append_left}
use Rattle.std.proofs.Math.Seq.{get_or-append_seam}
use Rattle.std.specs.Prelude.{slice_index_or}
use Rattle.orc_rules.specs.declared.param.Operand.{Operand}
use Rattle.orc_rules.specs.declared.program.TermNode.{TermNode}
use Rattle.orc_rules.specs.declared.program.TermNode.TheVariants as nodes
use Rattle.orc_rules.specs.Nodes.{Terms, param_of, terms_from, unfold_node}
use Rattle.orc_rules.specs.Term.{Term, stop, site, call}
use Rattle.orc_scope.specs.Listed.{terms, HasList, HaveLists}

pub from_push : (lists : List (List Operand)) (fs : List Term) (ns : List TermNode) (n : TermNode) → terms_from lists fs (ns ++ n ∷ []) ≡ terms_from lists fs ns ++ unfold_node (λ i. slice_index_or (terms_from lists fs ns) i stop) lists n ∷ []
from_push lists fs [] n = refl
from_push lists fs (m ∷ ns) n = from_push lists (fs ++ unfold_node (λ i. slice_index_or fs i stop) lists m ∷ []) ns n

pub from_length : (lists : List (List Operand)) (fs : List Term) (ns : List TermNode) → length (terms_from lists fs ns) ≡ length fs + length ns
from_length lists fs [] = omega arith
from_length lists fs (m ∷ ns) = from_length lists (fs ++ unfold_node (λ i. slice_index_or fs i stop) lists m ∷ []) ns ∙ ap (λ (k : ℕ). k + length ns) (length-append fs (unfold_node (λ i. slice_index_or fs i stop) lists m ∷ [])) ∙ omega arith

pub terms_length : (l : Terms) → length (terms l) ≡ length l.nodes
terms_length l = from_length l.lists [] l.nodes ∙ omega arith

-- one more list changes no node
same_node : (lists : List (List Operand)) (ps : List Operand) (code : ℕ → Term) (n : TermNode) → HasList (length lists) n → unfold_node code (lists ++ ps ∷ []) n ≡ unfold_node code lists n
same_node lists ps code nodes.Stop h = refl
same_node lists ps code (nodes.Operand p) h = refl
same_node lists ps code (nodes.Site m l) h = ap (λ (os : List Operand). site m (map param_of os)) (get_or_append_left lists (ps ∷ []) [] l h)
same_node lists ps code (nodes.Call e l) h = ap (λ (os : List Operand). call e (map param_of os)) (get_or_append_left lists (ps ∷ []) [] l h)
same_node lists ps code (nodes.Par f g) h = refl
same_node lists ps code (nodes.Seq f x g) h = refl
same_node lists ps code (nodes.Prune f x g) h = refl
same_node lists ps code (nodes.Other f g) h = refl

pub from_list : (lists : List (List Operand)) (ps : List Operand) (fs : List Term) (ns : List TermNode) → HaveLists (length lists) ns → terms_from (lists ++ ps ∷ []) fs ns ≡ terms_from lists fs ns
from_list lists ps fs [] h = refl
from_list lists ps fs (n ∷ ns) h =
    ap (λ (t : Term). terms_from (lists ++ ps ∷ []) (fs ++ t ∷ []) ns) (same_node lists ps (λ i. slice_index_or fs i stop) n h.0)
    ∙ from_list lists ps (fs ++ unfold_node (λ i. slice_index_or fs i stop) lists n ∷ []) ns h.1

has_more : (n m : ℕ) (node : TermNode) → n ≤ m → HasList n node → HasList m node
has_more n m nodes.Stop le h = tt
has_more n m (nodes.Operand p) le h = tt
has_more n m (nodes.Site s l) le h = omega (arith, le, h)
has_more n m (nodes.Call e l) le h = omega (arith, le, h)
has_more n m (nodes.Par f g) le h = tt
has_more n m (nodes.Seq f x g) le h = tt
has_more n m (nodes.Prune f x g) le h = tt
has_more n m (nodes.Other f g) le h = tt

pub have_more : (n m : ℕ) (ns : List TermNode) → n ≤ m → HaveLists n ns → HaveLists m ns
have_more n m [] le h = tt
have_more n m (k ∷ ns) le h = (has_more n m k le h.0, have_more n m ns le h.1)

pub have_push : (n : ℕ) (ns : List TermNode) (node : TermNode) → HaveLists n ns → HasList n node → HaveLists n (ns ++ node ∷ [])
have_push n [] node h k = (k, tt)
have_push n (m ∷ ns) node h k = (h.0, have_push n ns node h.1 k)

-- the last list
pub list_last : (lists : List (List Operand)) (ps : List Operand) → slice_index_or (lists ++ ps ∷ []) (length lists) [] ≡ ps
list_last lists ps = get_or-append_seam lists ps [] []
