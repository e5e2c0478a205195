-- A side is dropped, and the node above it changes.
use Rattle.std.proofs.Common.{◌≡◌, ◌≤◌, ◌+◌, ◌⊎◌, ◌∙◌, ℕ, zero, suc, List, [], ◌∷◌, ◌++◌, get_or, append-nil, append_assoc, Some, refl, sym, ap, arith, inl, inr, ⊎_elim}
use Rattle.std.specs.Prelude.{slice_get, slice_set}
use Rattle.orc_term.specs.declared.arena.Node.{Node}
use Rattle.orc_term.specs.declared.arena.Kind.TheVariants.{Leaf, One}
use Rattle.orc_term.specs.declared.arena.Tip.{Tip}
use Rattle.orc_term.specs.declared.arena.Single.{Single}
use Rattle.orc_term.specs.declared.arena.Tip.TheVariants.{Gone, Ended, Token, Bears, Waits}
use Rattle.orc_term.specs.declared.arena.Single.TheVariants.{Feeds, Entered, Passed}
use Rattle.orc_term.specs.declared.arena.Double.{Double}
use Rattle.orc_term.specs.declared.arena.Double.TheVariants.{Both, Side}
use Rattle.orc_rules.specs.Term.{Term}
use Rattle.orc_rules.specs.Numbered.{call, times}
use Rattle.orc_term.specs.Arena.{Tree, leaf, one, two, place, hits, count, TipIn, Holds, living, living_kind, StandOnce, spelled, Frame, plug}
use Rattle.orc_env.specs.Scopes.{Env}
use Rattle.orc_term.specs.Around.{above}
use Rattle.orc_term.specs.Rising.{nowhere}
use Rattle.orc_term.specs.Dropping.{weight, weigh, occurs, IsDropped, AreNodesOf, call_of, call_at, calls_at}
use Rattle.orc_term.proofs.Trees.{hit, hits-both, count-plug, holds-out, holds_kept, holds_replaced, once_replaced, living-most, node}
use Rattle.orc_term.proofs.Lists.{get-set_same, get-set_other}
use Rattle.orc_term.proofs.Dropping.{count-weigh, weight-append}

-- the nodes of part r are gone, node j is a new one, and all others stay
pub record Drops (nodes nodes' : List Node) (j : ℕ) (new : Node) (r : Tree) : Type 0 where
  pub there : slice_get nodes' j ≡ Some new
  pub gone : (u : ℕ) → 1 ≤ count u r → living (slice_get nodes' u) ≡ 0
  pub stays : (u : ℕ) → count u r ≡ 0 → (u ≡ j → ⊥) → slice_get nodes' u ≡ slice_get nodes u

-- one is written, and then the nodes of a list are gone
pub drops : (nodes nodes1 nodes' : List Node) (n p j : ℕ) (old new : Node) (r : Tree) (side : List ℕ) → Holds nodes n p r → AreNodesOf nodes (place r) side → slice_get nodes j ≡ Some old → count j r ≡ 0 → nodes1 ≡ slice_set nodes j new → IsDropped nodes1 side nodes' → Drops nodes nodes' j new r
drops nodes nodes1 nodes' n p j old new r side h all there off is d =
    let same : (u : ℕ) → occurs u side ≡ count u r = λ u. all n p r h refl (hits u) ∙ sym (count-weigh u r) in
    record {
      there = (d j).0 (same j ∙ off) ∙ ap (λ l. slice_get l j) is ∙ get-set_same nodes j new old there;
      gone = λ u in_r. (d u).1 (omega (arith, in_r, same u));
      stays = λ u out apart. (d u).0 (same u ∙ out) ∙ ap (λ l. slice_get l u) is ∙ get-set_other nodes j u new apart;
    }

none_or_some : (n : ℕ) → (n ≡ 0) ⊎ (1 ≤ n)
none_or_some zero = inl refl
none_or_some (suc n) = inr (omega arith)

module _ (nodes nodes' : List Node) (n n' p : ℕ) (grows : n ≤ n') (k : List Frame) (j : ℕ) where
  -- of an opened pruning the left side is left
  module _ (d : Double) (l r : Tree) (h : Holds nodes n p (plug k (two j d l r))) (once : StandOnce nodes (plug k (two j d l r))) (dropped : Drops nodes nodes' j (node (One Passed (place l)) (above p k)) r) where
    most : (u : ℕ) → hits u j + (count u l + count u r) ≤ 1
    most u = omega (arith, once u, count-plug u k (two j d l r), living-most (slice_get nodes u))

    lives : (u : ℕ) → 1 ≤ hits u j + (count u l + count u r) → living (slice_get nodes u) ≡ 1
    lives u a = omega (arith, a, once u, count-plug u k (two j d l r), living-most (slice_get nodes u))

    apart : (u : ℕ) → 1 ≤ count u l → u ≡ j → ⊥
    apart u a e = omega (arith, a, most u, hit j, ap (λ v. hits v j) e)

    counted : (u : ℕ) → count u (one j Passed l) + living (slice_get nodes u) ≡ count u (two j d l r) + living (slice_get nodes' u)
    counted u =
        ⊎_elim
        (λ e. let there : living (slice_get nodes' u) ≡ 1 = ap living (ap (slice_get nodes') e ∙ dropped.there) in let hit_u : hits u j ≡ 1 = ap (λ v. hits v j) e ∙ hit j in omega (arith, there, hit_u, most u, lives u (omega (arith, hit_u))))
        (λ z. ⊎_elim
        (λ out. omega (arith, z, out, ap living (dropped.stays u out (λ e. omega (arith, z, hit j, ap (λ v. hits v j) e)))))
        (λ in_r. omega (arith, z, in_r, most u, dropped.gone u in_r, lives u (omega (arith, in_r))))
        (none_or_some (count u r)))
        (hits-both u j)

    pub pruned_holds : Holds nodes' n' p (plug k (one j Passed l))
    pruned_holds =
        holds_replaced nodes nodes' n n' p grows k (two j d l r) (one j Passed l) once h refl
        (λ u x z e. dropped.stays u (omega (arith, z)) (λ y. omega (arith, z, hit j, ap (λ v. hits v j) y)) ∙ e)
        (dropped.there, tt, holds_kept nodes nodes' n n' grows l j (λ u x a e. dropped.stays u (omega (arith, a, most u)) (apart u a) ∙ e) (holds-out nodes n p k (two j d l r) h).1.1)

    pub pruned_once : StandOnce nodes' (plug k (one j Passed l))
    pruned_once = once_replaced nodes nodes' n n' p grows k (two j d l r) (one j Passed l) once counted

  -- of an otherwise whose left side is dropped a node without parts is left
  module _ (s : Single) (tip : Tip) (r : Tree) (h : Holds nodes n p (plug k (one j s r))) (once : StandOnce nodes (plug k (one j s r))) (living_tip : living_kind (Leaf tip) ≡ 1) (tip_in : TipIn n' tip) (dropped : Drops nodes nodes' j (node (Leaf tip) (above p k)) r) where
    most_one : (u : ℕ) → hits u j + count u r ≤ 1
    most_one u = omega (arith, once u, count-plug u k (one j s r), living-most (slice_get nodes u))

    lives_one : (u : ℕ) → 1 ≤ hits u j + count u r → living (slice_get nodes u) ≡ 1
    lives_one u a = omega (arith, a, once u, count-plug u k (one j s r), living-most (slice_get nodes u))

    counted_one : (u : ℕ) → count u (leaf j tip) + living (slice_get nodes u) ≡ count u (one j s r) + living (slice_get nodes' u)
    counted_one u =
        ⊎_elim
        (λ e. let there : living (slice_get nodes' u) ≡ 1 = ap living (ap (slice_get nodes') e ∙ dropped.there) ∙ living_tip in let hit_u : hits u j ≡ 1 = ap (λ v. hits v j) e ∙ hit j in omega (arith, there, hit_u, most_one u, lives_one u (omega (arith, hit_u))))
        (λ z. ⊎_elim
        (λ out. omega (arith, z, out, ap living (dropped.stays u out (λ e. omega (arith, z, hit j, ap (λ v. hits v j) e)))))
        (λ in_r. omega (arith, z, in_r, most_one u, dropped.gone u in_r, lives_one u (omega (arith, in_r))))
        (none_or_some (count u r)))
        (hits-both u j)

    pub resumed_holds : Holds nodes' n' p (plug k (leaf j tip))
    resumed_holds =
        holds_replaced nodes nodes' n n' p grows k (one j s r) (leaf j tip) once h refl
        (λ u x z e. dropped.stays u (omega (arith, z)) (λ y. omega (arith, z, hit j, ap (λ v. hits v j) y)) ∙ e)
        (dropped.there, tip_in)

    pub resumed_once : StandOnce nodes' (plug k (leaf j tip))
    resumed_once = once_replaced nodes nodes' n n' p grows k (one j s r) (leaf j tip) once counted_one

-- the calls that pend in a part, one for each place
module _ (nodes : List Node) (n : ℕ) (code : ℕ → Term) (env : ℕ → Env) (k : ℕ) where
  abbrev calls_of_node : ℕ → ℕ
  calls_of_node u = occurs k (call_at (slice_get nodes u))

  at_node : (i : ℕ) (x : Node) → slice_get nodes i ≡ Some x → calls_of_node i ≡ occurs k (call_at (Some x))
  at_node i x h = ap (λ o. occurs k (call_at o)) h

  calls_weigh : (p : ℕ) (t : Tree) → Holds nodes n p t → times (call k) (spelled code env t) ≡ weigh calls_of_node t
  calls_weigh p (leaf i Gone) h = sym (at_node i _ h.0)
  calls_weigh p (leaf i Ended) h = sym (at_node i _ h.0)
  calls_weigh p (leaf i (Token s f e)) h = sym (at_node i _ h.0)
  calls_weigh p (leaf i (Bears s v)) h = sym (at_node i _ h.0)
  calls_weigh p (leaf i (Waits j)) h = omega (arith, at_node i _ h.0)
  calls_weigh p (one i (Feeds x g e) t) h = omega (arith, at_node i _ h.0, calls_weigh i t h.2)
  calls_weigh p (one i (Entered m g e) t) h = omega (arith, at_node i _ h.0, calls_weigh i t h.2)
  calls_weigh p (one i Passed t) h = omega (arith, at_node i _ h.0, calls_weigh i t h.2)
  calls_weigh p (two i Both t u) h = omega (arith, at_node i _ h.0, calls_weigh i t h.1, calls_weigh i u h.2)
  calls_weigh p (two i (Side c) t u) h = omega (arith, at_node i _ h.0, calls_weigh i t h.1, calls_weigh i u h.2)

  calls_weight : (is : List ℕ) → occurs k (calls_at nodes is) ≡ weight calls_of_node is
  calls_weight [] = refl
  calls_weight (i ∷ is) = omega (arith, weight-append (hits k) (call_at (slice_get nodes i)) (calls_at nodes is), calls_weight is)

  -- the calls at a part's nodes are those that pend in it
  pub calls_counted : (p : ℕ) (t : Tree) (side : List ℕ) → Holds nodes n p t → AreNodesOf nodes (place t) side → occurs k (calls_at nodes side) ≡ times (call k) (spelled code env t)
  calls_counted p t side h all = calls_weight side ∙ all n p t h refl calls_of_node ∙ sym (calls_weigh p t h)

-- one node more
pub calls_more : (nodes : List Node) (is : List ℕ) (i : ℕ) → calls_at nodes (is ++ i ∷ []) ≡ calls_at nodes is ++ call_of (Node.kind (get_or nodes i nowhere))
calls_more nodes [] i = append-nil (call_at (slice_get nodes i)) ∙ there nodes i
  where
    there : (xs : List Node) (j : ℕ) → call_at (slice_get xs j) ≡ call_of (Node.kind (get_or xs j nowhere))
    there [] j = refl
    there (x ∷ xs) zero = refl
    there (x ∷ xs) (suc j) = there xs j
calls_more nodes (u ∷ is) i = ap (λ z. call_at (slice_get nodes u) ++ z) (calls_more nodes is i) ∙ sym (append_assoc (call_at (slice_get nodes u)) (calls_at nodes is) (call_of (Node.kind (get_or nodes i nowhere))))
