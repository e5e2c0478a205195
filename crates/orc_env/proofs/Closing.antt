-- An environment put into a term, part by part.
use Rattle.std.proofs.Common.{◌≡◌, ℕ, List, [], ◌∷◌, map, refl, sym, ap, ◌∙◌, Bool, true, false, cond, nat_eq, eqb-true, eq-eqb}
use Rattle.orc_rules.specs.declared.param.Param.{Param}
use Rattle.orc_rules.specs.declared.param.Param.TheVariants.{Name, Is, Cell, Void}
use Rattle.orc_env.specs.declared.names.Bound.{Bound}
use Rattle.orc_env.specs.declared.names.Bound.TheVariants as bound
use Rattle.orc_rules.specs.Term.{Term, stop, param, site, call, par, seq, prune, other, pending, opened, put, put_param}
use Rattle.orc_env.specs.Scopes.{Env, given, close, without}

given-put : (q r : Bound) (x : ℕ) → put_param (given q) x (given r) ≡ given r
given-put q (bound.Is v) x = refl
given-put q (bound.Cell c) x = refl
given-put q bound.Void x = refl

param-same : (q r : Bound) (x : ℕ) (p : Param) → put_param (given q) x (put_param (given r) x p) ≡ put_param (given r) x p
param-same q r x (Is v) = refl
param-same q r x (Cell c) = refl
param-same q r x Void = refl
param-same q r x (Name y) = go (nat_eq x y) refl
  where
    go : (b : Bool) → nat_eq x y ≡ b → put_param (given q) x (cond b (given r) (Name y)) ≡ cond b (given r) (Name y)
    go true h = given-put q r x
    go false h = ap (λ z. cond z (given q) (Name y)) h

params-same : (q r : Bound) (x : ℕ) (ps : List Param) → map (put_param (given q) x) (map (put_param (given r) x) ps) ≡ map (put_param (given r) x) ps
params-same q r x [] = refl
params-same q r x (p ∷ ps) = λ i. param-same q r x p i ∷ params-same q r x ps i

binder-same : (q : Param) (x : ℕ) (b : Bool) (g h : Term) → put q x h ≡ h → cond b (cond b g h) (put q x (cond b g h)) ≡ cond b g h
binder-same q x true g h e = refl
binder-same q x false g h e = e

-- what is put for a name leaves none of it
put-same : (q r : Bound) (x : ℕ) (f : Term) → put (given q) x (put (given r) x f) ≡ put (given r) x f
put-same q r x stop = refl
put-same q r x (param p) = ap param (param-same q r x p)
put-same q r x (site m ps) = ap (site m) (params-same q r x ps)
put-same q r x (call e ps) = ap (call e) (params-same q r x ps)
put-same q r x (par f g) = λ i. par (put-same q r x f i) (put-same q r x g i)
put-same q r x (seq f y g) = λ i. seq (put-same q r x f i) y (binder-same (given q) x (nat_eq x y) g (put (given r) x g) (put-same q r x g) i)
put-same q r x (prune f y g) = λ i. prune (binder-same (given q) x (nat_eq x y) f (put (given r) x f) (put-same q r x f) i) y (put-same q r x g i)
put-same q r x (other f g) = λ i. other (put-same q r x f i) (put-same q r x g i)
put-same q r x (pending k) = refl
put-same q r x (opened f c g) = λ i. opened (put-same q r x f i) c (put-same q r x g i)

param-swap : (q r : Bound) (x y : ℕ) → nat_eq x y ≡ false → (p : Param) → put_param (given q) x (put_param (given r) y p) ≡ put_param (given r) y (put_param (given q) x p)
param-swap q r x y off (Is v) = refl
param-swap q r x y off (Cell c) = refl
param-swap q r x y off Void = refl
param-swap q r x y off (Name z) = go (nat_eq x z) refl (nat_eq y z) refl
  where
    go : (a : Bool) → nat_eq x z ≡ a → (b : Bool) → nat_eq y z ≡ b → put_param (given q) x (cond b (given r) (Name z)) ≡ put_param (given r) y (cond a (given q) (Name z))
    go true h true k = absurd (cc (sym off ∙ eq-eqb x y (eqb-true x z h ∙ sym (eqb-true y z k))))
    go true h false k = ap (λ w. cond w (given q) (Name z)) h ∙ sym (given-put r q y)
    go false h true k = given-put q r x ∙ sym (ap (λ w. cond w (given r) (Name z)) k)
    go false h false k = ap (λ w. cond w (given q) (Name z)) h ∙ sym (ap (λ w. cond w (given r) (Name z)) k)

params-swap : (q r : Bound) (x y : ℕ) → nat_eq x y ≡ false → (ps : List Param) → map (put_param (given q) x) (map (put_param (given r) y) ps) ≡ map (put_param (given r) y) (map (put_param (given q) x) ps)
params-swap q r x y off [] = refl
params-swap q r x y off (p ∷ ps) = λ i. param-swap q r x y off p i ∷ params-swap q r x y off ps i

binder-swap : (q r : Param) (x y : ℕ) (a b : Bool) (g : Term) → put q x (put r y g) ≡ put r y (put q x g) → cond a (cond b g (put r y g)) (put q x (cond b g (put r y g))) ≡ cond b (cond a g (put q x g)) (put r y (cond a g (put q x g)))
binder-swap q r x y true true g e = refl
binder-swap q r x y true false g e = refl
binder-swap q r x y false true g e = refl
binder-swap q r x y false false g e = e

-- two names are put in in either order
put-swap : (q r : Bound) (x y : ℕ) → nat_eq x y ≡ false → (f : Term) → put (given q) x (put (given r) y f) ≡ put (given r) y (put (given q) x f)
put-swap q r x y off stop = refl
put-swap q r x y off (param p) = ap param (param-swap q r x y off p)
put-swap q r x y off (site m ps) = ap (site m) (params-swap q r x y off ps)
put-swap q r x y off (call e ps) = ap (call e) (params-swap q r x y off ps)
put-swap q r x y off (par f g) = λ i. par (put-swap q r x y off f i) (put-swap q r x y off g i)
put-swap q r x y off (seq f z g) = λ i. seq (put-swap q r x y off f i) z (binder-swap (given q) (given r) x y (nat_eq x z) (nat_eq y z) g (put-swap q r x y off g) i)
put-swap q r x y off (prune f z g) = λ i. prune (binder-swap (given q) (given r) x y (nat_eq x z) (nat_eq y z) f (put-swap q r x y off f) i) z (put-swap q r x y off g i)
put-swap q r x y off (other f g) = λ i. other (put-swap q r x y off f i) (put-swap q r x y off g i)
put-swap q r x y off (pending k) = refl
put-swap q r x y off (opened f c g) = λ i. opened (put-swap q r x y off f i) c (put-swap q r x y off g i)

pub close-stop : (e : Env) → close e stop ≡ stop
close-stop [] = refl
close-stop (b ∷ e) = close-stop e

pub close-par : (e : Env) (f g : Term) → close e (par f g) ≡ par (close e f) (close e g)
close-par [] f g = refl
close-par (b ∷ e) f g = close-par e (put (given b.1) b.0 f) (put (given b.1) b.0 g)

pub close-other : (e : Env) (f g : Term) → close e (other f g) ≡ other (close e f) (close e g)
close-other [] f g = refl
close-other (b ∷ e) f g = close-other e (put (given b.1) b.0 f) (put (given b.1) b.0 g)

pub close-seq : (e : Env) (f : Term) (x : ℕ) (g : Term) → close e (seq f x g) ≡ seq (close e f) x (close (without x e) g)
close-seq [] f x g = refl
close-seq (b ∷ e) f x g = close-seq e (put (given b.1) b.0 f) x (cond (nat_eq b.0 x) g (put (given b.1) b.0 g)) ∙ ap (λ h. seq (close e (put (given b.1) b.0 f)) x h) (go (nat_eq b.0 x))
  where
    go : (a : Bool) → close (without x e) (cond a g (put (given b.1) b.0 g)) ≡ close (cond a (without x e) (b ∷ without x e)) g
    go true = refl
    go false = refl

pub close-prune : (e : Env) (f : Term) (x : ℕ) (g : Term) → close e (prune f x g) ≡ prune (close (without x e) f) x (close e g)
close-prune [] f x g = refl
close-prune (b ∷ e) f x g = close-prune e (cond (nat_eq b.0 x) f (put (given b.1) b.0 f)) x (put (given b.1) b.0 g) ∙ ap (λ h. prune h x (close e (put (given b.1) b.0 g))) (go (nat_eq b.0 x))
  where
    go : (a : Bool) → close (without x e) (cond a f (put (given b.1) b.0 f)) ≡ close (cond a (without x e) (b ∷ without x e)) f
    go true = refl
    go false = refl

-- to put one more name in is to extend the environment
pub close-more : (e : Env) (x : ℕ) (v : Bound) (g : Term) → put (given v) x (close (without x e) g) ≡ close ((x, v) ∷ e) g
close-more [] x v g = refl
close-more (b ∷ e) x v g = go (nat_eq b.0 x) refl (close-more e x v g) (close-more e x v (put (given b.1) b.0 g))
  where
    go : (a : Bool) → nat_eq b.0 x ≡ a → put (given v) x (close (without x e) g) ≡ close e (put (given v) x g) → put (given v) x (close (without x e) (put (given b.1) b.0 g)) ≡ close e (put (given v) x (put (given b.1) b.0 g))
        → put (given v) x (close (cond a (without x e) (b ∷ without x e)) g) ≡ close e (put (given b.1) b.0 (put (given v) x g))
    go true h same swap = same ∙ ap (close e) (sym (ap (λ y. put (given b.1) y (put (given v) x g)) (eqb-true b.0 x h) ∙ put-same b.1 v x g))
    go false h same swap = swap ∙ ap (close e) (sym (put-swap b.1 v b.0 x h g))
