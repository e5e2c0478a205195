-- The term of a node is unfolded from those of its parts.
use Rattle.std.proofs.Common.{◌≡◌, ◌<◌, ◌≤◌, ◌+◌, ℕ, zero, suc, List, [], ◌∷◌, ◌++◌, length, Option, Some, None, get_or, refl, sym, ap, ◌∙◌, arith, length-append}
use Rattle.std.proofs.lemmas.List.{get_or_append_left}
use Rattle.std.proofs.Math.Seq.{get_or-append_seam}
use Rattle.std.specs.Prelude.{slice_get}
use Rattle.orc_rules.specs.declared.param.Operand.{Operand}
use Rattle.orc_rules.specs.declared.program.TermNode.{TermNode}
use Rattle.orc_rules.specs.declared.program.TermNode.TheVariants.{Stop, Operand as On, Site, Call, Par, Seq, Prune, Other}
use Rattle.orc_rules.specs.Term.{Term, stop, par, seq, prune, other}
use Rattle.orc_rules.specs.Nodes.{node_of, unfold_node, terms_from, code_of, HasParts, ArePartsFirst}

module _ (lists : List (List Operand)) where
  alike : (code code' : ℕ → Term) (m : ℕ) (n : TermNode) → HasParts m n → ((i : ℕ) → i < m → code i ≡ code' i) → unfold_node code lists n ≡ unfold_node code' lists n
  alike code code' m Stop h same = refl
  alike code code' m (On p) h same = refl
  alike code code' m (Site s l) h same = refl
  alike code code' m (Call e l) h same = refl
  alike code code' m (Par f g) h same = λ j. par (same f h.0 j) (same g h.1 j)
  alike code code' m (Seq f x g) h same = λ j. seq (same f h.0 j) x (same g h.1 j)
  alike code code' m (Prune f x g) h same = λ j. prune (same f h.0 j) x (same g h.1 j)
  alike code code' m (Other f g) h same = λ j. other (same f h.0 j) (same g h.1 j)

  abbrev at_front : List Term → TermNode → Term
  at_front ts n = unfold_node (λ i. get_or ts i stop) lists n

  kept : (ts : List Term) (ns : List TermNode) (i : ℕ) → i < length ts → get_or (terms_from lists ts ns) i stop ≡ get_or ts i stop
  kept ts [] i lt = refl
  kept ts (n ∷ ns) i lt = kept (ts ++ at_front ts n ∷ []) ns i (omega (arith, lt, length-append ts (at_front ts n ∷ []))) ∙ get_or_append_left ts (at_front ts n ∷ []) stop i lt

  unfolded : (ts : List Term) (ns : List TermNode) (j k : ℕ) (n : TermNode) → k ≡ length ts + j → slice_get ns j ≡ Some n → HasParts k n → get_or (terms_from lists ts ns) k stop ≡ unfold_node (λ i. get_or (terms_from lists ts ns) i stop) lists n
  unfolded ts [] j k n e h parts = cc h
  unfolded ts (m ∷ ns) zero k n e h parts =
      let is : k ≡ length ts = omega (arith, e) in
      let same : m ≡ n = ap (or_else m) h in
      ap (λ z. get_or (terms_from lists ts (m ∷ ns)) z stop) is ∙
      (kept (ts ++ at_front ts m ∷ []) ns (length ts) (omega (arith, length-append ts (at_front ts m ∷ []))) ∙
      (get_or-append_seam ts (at_front ts m) [] stop ∙
      (ap (at_front ts) same ∙ alike (λ i. get_or ts i stop) (λ i. get_or (terms_from lists ts (m ∷ ns)) i stop) k n parts (λ i lt. sym (kept ts (m ∷ ns) i (omega (arith, lt, is)))))))
    where
      or_else : TermNode → Option TermNode → TermNode
      or_else d (Some z) = z
      or_else d None = d
  unfolded ts (m ∷ ns) (suc j) k n e h parts = unfolded (ts ++ at_front ts m ∷ []) ns j k n (omega (arith, e, length-append ts (at_front ts m ∷ []))) h parts

  none-there : (ts : List Term) (ns : List TermNode) (j k : ℕ) → k ≡ length ts + j → slice_get ns j ≡ None → get_or (terms_from lists ts ns) k stop ≡ stop
  none-there ts [] j k e h = get_or-past ts k (omega (arith, e))
    where
      get_or-past : (xs : List Term) (i : ℕ) → length xs ≤ i → get_or xs i stop ≡ stop
      get_or-past [] i le = refl
      get_or-past (x ∷ xs) zero le = absurd (omega (arith, le))
      get_or-past (x ∷ xs) (suc i) le = get_or-past xs i (omega (arith, le))
  none-there ts (m ∷ ns) zero k e h = cc h
  none-there ts (m ∷ ns) (suc j) k e h = none-there (ts ++ at_front ts m ∷ []) ns j k (omega (arith, e, length-append ts (at_front ts m ∷ []))) h

get_or-of : (ns : List TermNode) (i : ℕ) (n : TermNode) → slice_get ns i ≡ Some n → get_or ns i Stop ≡ n
get_or-of [] i n h = cc h
get_or-of (m ∷ ns) zero n h = ap (or_else m) h
  where
    or_else : TermNode → Option TermNode → TermNode
    or_else d (Some z) = z
    or_else d None = d
get_or-of (m ∷ ns) (suc i) n h = get_or-of ns i n h

get_or-none : (ns : List TermNode) (i : ℕ) → slice_get ns i ≡ None → get_or ns i Stop ≡ Stop
get_or-none [] i h = refl
get_or-none (m ∷ ns) zero h = cc h
get_or-none (m ∷ ns) (suc i) h = get_or-none ns i h

pub unfolds : (lists : List (List Operand)) (nodes : List TermNode) (i : ℕ) → ArePartsFirst nodes → code_of lists nodes i ≡ unfold_node (code_of lists nodes) lists (node_of nodes i)
unfolds lists nodes i first = go (slice_get nodes i) refl
  where
    go : (o : Option TermNode) → slice_get nodes i ≡ o → code_of lists nodes i ≡ unfold_node (code_of lists nodes) lists (node_of nodes i)
    go (Some n) h = unfolded lists [] nodes i i n (omega arith) h (first i n h) ∙ ap (unfold_node (code_of lists nodes) lists) (sym (get_or-of nodes i n h))
    go None h = none-there lists [] nodes i i (omega arith) h ∙ ap (unfold_node (code_of lists nodes) lists) (sym (get_or-none nodes i h))
