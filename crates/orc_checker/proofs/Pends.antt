-- The calls that pend are those for which nodes wait.
use Rattle.std.proofs.Common.{◌≡◌, ℕ, List, [], ◌∷◌, ◌++◌, refl, sym, ◌∙◌, subst, inl, inr, ◌⊎◌, ⊎_elim}
use Rattle.orc_rules.specs.declared.param.Param.{Param}
use Rattle.orc_rules.specs.Term.{Term, stop, param, site, call, par, seq, prune, other, pending, opened, put, pending_of}
use Rattle.orc_rules.specs.Marked.{erase}
use Rattle.orc_rules.specs.Timed.{IsIn}
use Rattle.orc_rules.specs.Lost.{IsSource}
use Rattle.orc_term.specs.declared.arena.Node.{Node}
use Rattle.orc_term.specs.declared.arena.Kind.TheVariants.{Leaf}
use Rattle.orc_term.specs.declared.arena.Tip.TheVariants.{Gone, Ended, Token, Bears, Waits}
use Rattle.orc_term.specs.declared.arena.Single.TheVariants.{Feeds, Entered, Passed}
use Rattle.orc_term.specs.declared.arena.Double.TheVariants.{Both, Side}
use Rattle.orc_term.specs.Arena.{Tree, leaf, one, two, Holds, at, spelled, Frame, on_one, on_left, on_right, plug}
use Rattle.orc_env.specs.Scopes.{Env, given, close}

-- what is put in leaves the calls that pend
pub pending_put : (q : Param) (x : ℕ) (f : Term) → pending_of (put q x f) ≡ pending_of f
pending_put q x stop = refl
pending_put q x (param p) = refl
pending_put q x (site m ps) = refl
pending_put q x (call e ps) = refl
pending_put q x (par f g) = λ j. pending_put q x f j ++ pending_put q x g j
pending_put q x (seq f y g) = pending_put q x f
pending_put q x (prune f y g) = refl
pending_put q x (other f g) = pending_put q x f
pending_put q x (pending k) = refl
pending_put q x (opened f c g) = λ j. pending_put q x f j ++ pending_put q x g j

pub pending_close : (e : Env) (f : Term) → pending_of (close e f) ≡ pending_of f
pending_close [] f = refl
pending_close (b ∷ e) f = pending_close e (put (given b.1) b.0 f) ∙ pending_put (given b.1) b.0 f

pub none_pends : (f : Term) → IsSource f → pending_of f ≡ []
none_pends stop h = refl
none_pends (param p) h = refl
none_pends (site m ps) h = refl
none_pends (call e ps) h = refl
none_pends (par f g) h = λ j. none_pends f h.0 j ++ none_pends g h.1 j
none_pends (seq f y g) h = none_pends f h.0
none_pends (prune f y g) h = refl
none_pends (other f g) h = none_pends f h.0
none_pends (pending k) h = elim h [ ]
none_pends (opened f c g) h = elim h [ ]

in_either : (k : ℕ) (us vs : List ℕ) → IsIn k (us ++ vs) → IsIn k us ⊎ IsIn k vs
in_either k [] vs h = inr h
in_either k (u ∷ us) vs (inl e) = inl (inl e)
in_either k (u ∷ us) vs (inr h) = ⊎_elim (λ a. inl (inr a)) (λ b. inr b) (in_either k us vs h)

in_left : (k : ℕ) (us vs : List ℕ) → IsIn k us → IsIn k (us ++ vs)
in_left k [] vs h = elim h [ ]
in_left k (u ∷ us) vs (inl e) = inl e
in_left k (u ∷ us) vs (inr h) = inr (in_left k us vs h)

in_right : (k : ℕ) (us vs : List ℕ) → IsIn k vs → IsIn k (us ++ vs)
in_right k [] vs h = h
in_right k (u ∷ us) vs h = inr (in_right k us vs h)

module _ (code : ℕ → Term) (env : ℕ → Env) (source : (i : ℕ) → IsSource (code i)) where
  -- a node waits for each call that pends
  pub waits_for : (nodes : List Node) (n p j : ℕ) (t : Tree) → Holds nodes n p t → IsIn j (pending_of (erase (spelled code env t))) → (i : ℕ) × (q : ℕ) × at nodes q i (Leaf (Waits j))
  waits_for nodes n p j (leaf i Gone) h a = elim a [ ]
  waits_for nodes n p j (leaf i Ended) h a = elim a [ ]
  waits_for nodes n p j (leaf i (Token m f e)) h a = let z : IsIn j [] = subst (IsIn j) (pending_close (env e) (code f) ∙ none_pends (code f) (source f)) a in elim z [ ]
  waits_for nodes n p j (leaf i (Bears m v)) h a = elim a [ ]
  waits_for nodes n p j (leaf i (Waits k)) h (inl e) = (i, p, subst (λ z. at nodes p i (Leaf (Waits z))) (sym e) h.0)
  waits_for nodes n p j (leaf i (Waits k)) h (inr a) = elim a [ ]
  waits_for nodes n p j (one i (Feeds x g e) t) h a = waits_for nodes n i j t h.2 a
  waits_for nodes n p j (one i (Entered m g e) t) h a = waits_for nodes n i j t h.2 a
  waits_for nodes n p j (one i Passed t) h a = waits_for nodes n i j t h.2 a
  waits_for nodes n p j (two i Both t u) h a = ⊎_elim (λ b. waits_for nodes n i j t h.1 b) (λ b. waits_for nodes n i j u h.2 b) (in_either j (pending_of (erase (spelled code env t))) (pending_of (erase (spelled code env u))) a)
  waits_for nodes n p j (two i (Side c) t u) h a = ⊎_elim (λ b. waits_for nodes n i j t h.1 b) (λ b. waits_for nodes n i j u h.2 b) (in_either j (pending_of (erase (spelled code env t))) (pending_of (erase (spelled code env u))) a)

  -- what pends in a part pends in the whole
  pub pends_around : (j : ℕ) (k : List Frame) (t : Tree) → IsIn j (pending_of (erase (spelled code env t))) → IsIn j (pending_of (erase (spelled code env (plug k t))))
  pends_around j [] t a = a
  pends_around j (on_one i (Feeds x g e) ∷ k) t a = pends_around j k (one i (Feeds x g e) t) a
  pends_around j (on_one i (Entered m g e) ∷ k) t a = pends_around j k (one i (Entered m g e) t) a
  pends_around j (on_one i Passed ∷ k) t a = pends_around j k (one i Passed t) a
  pends_around j (on_left i Both u ∷ k) t a = pends_around j k (two i Both t u) (in_left j (pending_of (erase (spelled code env t))) (pending_of (erase (spelled code env u))) a)
  pends_around j (on_left i (Side c) u ∷ k) t a = pends_around j k (two i (Side c) t u) (in_left j (pending_of (erase (spelled code env t))) (pending_of (erase (spelled code env u))) a)
  pends_around j (on_right i Both u ∷ k) t a = pends_around j k (two i Both u t) (in_right j (pending_of (erase (spelled code env u))) (pending_of (erase (spelled code env t))) a)
  pends_around j (on_right i (Side c) u ∷ k) t a = pends_around j k (two i (Side c) u t) (in_right j (pending_of (erase (spelled code env u))) (pending_of (erase (spelled code env t))) a)
