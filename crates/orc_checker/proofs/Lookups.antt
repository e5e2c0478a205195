-- What the tables find is all that there is.
use Rattle.std.proofs.Common.{◌≡◌, ℕ, zero, suc, List, Option, Some, None, refl, sym, ap, ◌∙◌, subst, arith, false, cond, eq-eqb, IfNone}
use Rattle.std.specs.Prelude.{slice_get, option_map}
use Rattle.orc_rules.specs.declared.value.Value.{Value}
use Rattle.orc_rules.specs.Numbered.{mark, call, cell}
use Rattle.orc_term.specs.declared.arena.Node.{Node}
use Rattle.orc_term.specs.declared.arena.Kind.{Kind}
use Rattle.orc_term.specs.declared.arena.Kind.TheVariants.{Leaf, One, Two}
use Rattle.orc_term.specs.declared.arena.Tip.{Tip}
use Rattle.orc_term.specs.declared.arena.Tip.TheVariants.{Gone, Ended, Token, Bears, Waits}
use Rattle.orc_term.specs.declared.arena.Single.TheVariants.{Entered}
use Rattle.orc_term.specs.declared.arena.Double.TheVariants.{Side}
use Rattle.orc_checker.specs.declared.rest.Called.{Called}
use Rattle.orc_term.specs.Arena.{at}
use Rattle.orc_term.specs.Bearers.{Carries}
use Rattle.orc_checker.specs.Calls.{Rest, IsCall}
use Rattle.orc_checker.specs.Index.{name_of, call_place, node_by, otherwise_with, pruning_with, tip_with, waits_with, Tables, IsPut, AreIndexed}
use Rattle.orc_checker.specs.Refusing.{NoToken, NoCall, NoPruning, NoOtherwise}
use Rattle.orc_checker.proofs.Indexed.{kind_there}

-- what is so anyhow is so of no result
pub none_so : {X P : Type 0} (o : Option X) → P → IfNone o P
none_so (Some x) h = tt
none_so None h = h

some_pair : (a b : ℕ × Node) → Some a ≡ Some b → a.1 ≡ b.1
some_pair a b e = ap (λ (z : ℕ × Node). z.1) (same e)
  where
    same : Some a ≡ Some b → a ≡ b
    same e = cc e

tip_carried : (t : Tip) (s : ℕ) → Carries s t → tip_with (Leaf t) s ≡ Some t
tip_carried (Token m f e) s c = ap (λ b. cond b (Some (Token m f e)) None) (eq-eqb m s c)
tip_carried (Bears m v) s c = ap (λ b. cond b (Some (Bears m v)) None) (eq-eqb m s c)
tip_carried Gone s c = absurd c
tip_carried Ended s c = absurd c
tip_carried (Waits k) s c = absurd c

carried_name : (t : Tip) (s : ℕ) → Carries s t → name_of (Leaf t) ≡ Some (mark s)
carried_name (Token m f e) s c = ap (λ z. Some (mark z)) c
carried_name (Bears m v) s c = ap (λ z. Some (mark z)) c
carried_name Gone s c = absurd c
carried_name Ended s c = absurd c
carried_name (Waits k) s c = absurd c

-- a token that stands on no node of the program stands on a value
pub bears_there : (nodes : List Node) (p i : ℕ) (k : Tip) (s : ℕ) → at nodes p i (Leaf k) → Carries s k → ((m f e : ℕ) → k ≡ Token m f e → ⊥) → (p' i' : ℕ) × (v : Value) × at nodes p' i' (Leaf (Bears s v))
bears_there nodes p i (Token m f e) s a c off = absurd (off m f e refl)
bears_there nodes p i (Bears m v) s a c off = (p, i, v, subst (λ z. at nodes p i (Leaf (Bears z v))) c a)
bears_there nodes p i Gone s a c off = absurd c
bears_there nodes p i Ended s a c off = absurd c
bears_there nodes p i (Waits k) s a c off = absurd c

-- where a call was put that was made
pub call_made : (r : Rest) (k : ℕ) (c : Called) → IsCall r k c → call_place r.calls k ≡ Some c.node
call_made r zero c h = absurd (omega (arith, h.0))
call_made r (suc k) c h = ap (option_map Called.node) (ap (slice_get r.calls) (omega arith) ∙ h.1)

module _ (nodes : List Node) (t : Tables) (h : AreIndexed nodes t) where
  -- a node that is where a table says is found
  found : (o : Option ℕ) (p i : ℕ) (k : Kind) → o ≡ Some i → at nodes p i k → node_by nodes o ≡ Some (i, record { kind = k; parent = p })
  found o p i k put a = ap (node_by nodes) put ∙ ap (option_map (λ x. (i, x))) a

  token_put : (s p i : ℕ) (k : Tip) → at nodes p i (Leaf k) → Carries s k → slice_get t.marks s ≡ Some i
  token_put s p i k a c = h.put i (mark s) (ap name_of (kind_there nodes p i (Leaf k) a) ∙ carried_name k s c)

  other_put : (s p i g e left : ℕ) → at nodes p i (One (Entered s g e) left) → slice_get t.marks s ≡ Some i
  other_put s p i g e left a = h.put i (mark s) (ap name_of (kind_there nodes p i (One (Entered s g e) left) a))

  pub pruning_put : (c p i left right : ℕ) → at nodes p i (Two (Side c) left right) → IsPut t (cell c) i
  pruning_put c p i left right a = h.put i (cell c) (ap name_of (kind_there nodes p i (Two (Side c) left right) a))

  pub token_unfound : (s : ℕ) → None ≡ node_by nodes (slice_get t.marks s) → NoToken nodes s
  token_unfound s none p i k a c = cc (none ∙ found (slice_get t.marks s) p i (Leaf k) (token_put s p i k a c) a)

  pub token_other : (s j : ℕ) (x : Node) → Some (j, x) ≡ node_by nodes (slice_get t.marks s) → None ≡ tip_with x.kind s → NoToken nodes s
  token_other s j x there none p i k a c =
      let same : x ≡ record { kind = Leaf k; parent = p } = some_pair (j, x) (i, record { kind = Leaf k; parent = p }) (there ∙ found (slice_get t.marks s) p i (Leaf k) (token_put s p i k a c) a) in
      cc (none ∙ ap (λ z. tip_with (Node.kind z) s) same ∙ tip_carried k s c)

  pub other_unfound : (s : ℕ) → None ≡ node_by nodes (slice_get t.marks s) → NoOtherwise nodes s
  other_unfound s none p i g e left a = cc (none ∙ found (slice_get t.marks s) p i (One (Entered s g e) left) (other_put s p i g e left a) a)

  pub other_other : (s j : ℕ) (x : Node) → Some (j, x) ≡ node_by nodes (slice_get t.marks s) → None ≡ otherwise_with x.kind s → NoOtherwise nodes s
  other_other s j x there none p i g e left a =
      let same : x ≡ record { kind = One (Entered s g e) left; parent = p } = some_pair (j, x) (i, record { kind = One (Entered s g e) left; parent = p }) (there ∙ found (slice_get t.marks s) p i (One (Entered s g e) left) (other_put s p i g e left a) a) in
      cc (none ∙ ap (λ z. otherwise_with (Node.kind z) s) same ∙ ap (λ b. cond b (Some (left, g, e)) None) (eq-eqb s s refl))

  pub pruning_unfound : (c : ℕ) → None ≡ node_by nodes (slice_get t.prunings c) → NoPruning nodes c
  pruning_unfound c none p i left right a = cc (none ∙ found (slice_get t.prunings c) p i (Two (Side c) left right) (pruning_put c p i left right a).0 a)

  pub pruning_other : (c j : ℕ) (x : Node) → Some (j, x) ≡ node_by nodes (slice_get t.prunings c) → None ≡ pruning_with x.kind c → NoPruning nodes c
  pruning_other c j x there none p i left right a =
      let same : x ≡ record { kind = Two (Side c) left right; parent = p } = some_pair (j, x) (i, record { kind = Two (Side c) left right; parent = p }) (there ∙ found (slice_get t.prunings c) p i (Two (Side c) left right) (pruning_put c p i left right a).0 a) in
      cc (none ∙ ap (λ z. pruning_with (Node.kind z) c) same ∙ ap (λ b. cond b (Some (left, right)) None) (eq-eqb c c refl))

  call_put : (k p i : ℕ) → at nodes p i (Leaf (Waits k)) → call_place t.calls k ≡ Some i
  call_put k p i a = h.put i (call k) (ap name_of (kind_there nodes p i (Leaf (Waits k)) a))

  pub call_unmade : (k : ℕ) → ((i : ℕ) → call_place t.calls k ≡ Some i → ⊥) → NoCall nodes k
  call_unmade k none p i a = none i (call_put k p i a)

  pub call_unfound : (k j : ℕ) → call_place t.calls k ≡ Some j → None ≡ slice_get nodes j → NoCall nodes k
  call_unfound k j put none p i a = let same : j ≡ i = cc (sym put ∙ call_put k p i a) in cc (none ∙ ap (slice_get nodes) same ∙ a)

  pub call_other : (k j : ℕ) (x : Node) → call_place t.calls k ≡ Some j → Some x ≡ slice_get nodes j → waits_with x.kind k ≡ false → NoCall nodes k
  call_other k j x put there off p i a =
      let same : j ≡ i = cc (sym put ∙ call_put k p i a) in
      let is : Some x ≡ Some (record { kind = Leaf (Waits k); parent = p }) = there ∙ ap (slice_get nodes) same ∙ a in
      let kind : x.kind ≡ Leaf (Waits k) = ap Node.kind (node_is x _ is) in
      cc (sym off ∙ ap (λ z. waits_with z k) kind ∙ eq-eqb k k refl)
    where
      node_is : (x y : Node) → Some x ≡ Some y → x ≡ y
      node_is x y e = cc e
