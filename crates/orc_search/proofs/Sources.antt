-- A program's nodes as small terms.
use Rattle.std.proofs.Common.{◌≡◌, ℕ, List, [], ◌∷◌, ◌++◌, length, map, Some, ◌⊎◌, get_or, refl, sym, ap, ◌∙◌, subst, inl, inr}
use Rattle.std.specs.Prelude.{slice_get}
use Rattle.std.specs.Global.{Vec}
use Rattle.orc_rules.specs.declared.param.Param.{Param}
use Rattle.orc_rules.specs.declared.param.Operand.{Operand}
use Rattle.orc_rules.specs.declared.param.Operand.TheVariants.{Name, Is}
use Rattle.orc_rules.specs.declared.program.TermNode.{TermNode}
use Rattle.orc_rules.specs.declared.program.TermNode.TheVariants.{Stop, Operand as On, Site, Call, Par, Seq, Prune, Other}
use Rattle.orc_rules.specs.Nodes.{Listing, code, param_of}
use Rattle.orc_search.specs.declared.node.Joint.{Joint}
use Rattle.orc_search.specs.declared.node.Joint.TheVariants.{Both, Feeds, Prunes, Instead}
use Rattle.orc_search.specs.declared.node.Tip.TheVariants.{Nothing, Gives, Asks, Enters}
use Rattle.orc_search.specs.declared.node.Node.{Node}
use Rattle.orc_search.specs.declared.node.Node.TheVariants.{Tip, Pair}
use Rattle.orc_search.specs.Small.{Small, gives, asks, enters}
use Rattle.orc_search.specs.Seen.{seen_param}
use Rattle.orc_search.specs.Nodes.{joined, small_of_node, HasParts, Extends}
use Rattle.orc_search.specs.Programs.{small}
use Rattle.orc_search.specs.Sources.{AreNumbered, IsPairOf, IsNodeOf}
use Rattle.orc_search.proofs.Nodes.{at_end, within, term_at}
use Rattle.orc_search.proofs.Changes.{kept_get}

same_param : (p : Operand) → param_of p ≡ seen_param [] (param_of p)
same_param (Name x) = refl
same_param (Is v) = refl

same_list : (ps : List Operand) → map param_of ps ≡ map (seen_param []) (map param_of ps)
same_list [] = refl
same_list (p ∷ ps) = λ i. same_param p i ∷ same_list ps i

module _ (l : Listing) (numbers : List ℕ) where
  pub node_stop : (t : TermNode) → t ≡ Stop → IsNodeOf l numbers t (Tip Nothing)
  node_stop t is = subst (λ (s : TermNode). IsNodeOf l numbers s (Tip Nothing)) (sym is) (λ ts are. (tt, refl))

  pub node_gives : (t : TermNode) (p : Operand) (q : Param) → t ≡ On p → q ≡ param_of p → IsNodeOf l numbers t (Tip (Gives q))
  node_gives t p q is e = subst (λ (s : TermNode). IsNodeOf l numbers s (Tip (Gives q))) (sym is) (λ ts are. (tt, ap gives (e ∙ same_param p)))

  pub node_asks : (t : TermNode) (m k : ℕ) (v : Vec Param) → t ≡ Site m k → v.items ≡ map param_of (get_or l.lists k []) → IsNodeOf l numbers t (Tip (Asks m v))
  node_asks t m k v is e = subst (λ (s : TermNode). IsNodeOf l numbers s (Tip (Asks m v))) (sym is) (λ ts are. (tt, ap (asks m) (e ∙ same_list (get_or l.lists k []))))

  pub node_enters : (t : TermNode) (d k : ℕ) (v : Vec Param) → t ≡ Call d k → v.items ≡ map param_of (get_or l.lists k []) → IsNodeOf l numbers t (Tip (Enters d v))
  node_enters t d k v is e = subst (λ (s : TermNode). IsNodeOf l numbers s (Tip (Enters d v))) (sym is) (λ ts are. (tt, ap (enters d) (e ∙ same_list (get_or l.lists k []))))

  pair_is : (j : Joint) (f g : ℕ) (n : Node) → IsPairOf numbers j f g n → (ts : List Small) → AreNumbered ts l numbers → HasParts (length ts) n × (small_of_node ts n ≡ joined j (small (code l f)) (small (code l g)))
  pair_is j f g n is ts are =
      let left = are f is.0 is.2 in
      let right = are g is.1 is.3 in
      let parts : HasParts (length ts) (Pair j is.0 is.1) = (within ts is.0 (small (code l f)) left, within ts is.1 (small (code l g)) right) in
      (subst (λ (m : Node). HasParts (length ts) m) (sym is.4) parts, ap (small_of_node ts) is.4 ∙ (λ i. joined j (term_at ts is.0 (small (code l f)) left i) (term_at ts is.1 (small (code l g)) right i)))

  pub node_par : (t : TermNode) (f g : ℕ) (n : Node) → t ≡ Par f g → IsPairOf numbers Both f g n → IsNodeOf l numbers t n
  node_par t f g n is e = subst (λ (s : TermNode). IsNodeOf l numbers s n) (sym is) (pair_is Both f g n e)

  pub node_seq : (t : TermNode) (f x g : ℕ) (n : Node) → t ≡ Seq f x g → IsPairOf numbers (Feeds x) f g n → IsNodeOf l numbers t n
  node_seq t f x g n is e = subst (λ (s : TermNode). IsNodeOf l numbers s n) (sym is) (pair_is (Feeds x) f g n e)

  pub node_prune : (t : TermNode) (f x g : ℕ) (n : Node) → t ≡ Prune f x g → IsPairOf numbers (Prunes x) f g n → IsNodeOf l numbers t n
  node_prune t f x g n is e = subst (λ (s : TermNode). IsNodeOf l numbers s n) (sym is) (pair_is (Prunes x) f g n e)

  pub node_other : (t : TermNode) (f g : ℕ) (n : Node) → t ≡ Other f g → IsPairOf numbers Instead f g n → IsNodeOf l numbers t n
  node_other t f g n is e = subst (λ (s : TermNode). IsNodeOf l numbers s n) (sym is) (pair_is Instead f g n e)

  -- one more number
  pub numbered_last : (ts us : List Small) (at n : ℕ) → Extends ts us → AreNumbered ts l numbers → length numbers ≡ at → slice_get us n ≡ Some (small (code l at)) → AreNumbered us l (numbers ++ n ∷ [])
  numbered_last ts us at n ext are len is i m h = go (at_end numbers n m i h) where
    go : (slice_get numbers i ≡ Some m) ⊎ ((i ≡ length numbers) × (n ≡ m)) → slice_get us m ≡ Some (small (code l i))
    go (inl e) = kept_get ts us m (small (code l i)) ext (are i m e)
    go (inr e) = ap (slice_get us) (sym e.1) ∙ is ∙ ap (λ (k : ℕ). Some (small (code l k))) (sym (e.0 ∙ len))
