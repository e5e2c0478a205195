-- A cell that has become a value or void: in parameters, terms, environments and trees.
use Rattle.std.proofs.Common.{◌≡◌, ℕ, zero, suc, List, [], ◌∷◌, ◌++◌, map, get_or, refl, sym, ap, ◌∙◌, Bool, true, false, cond, nat_eq}
use Rattle.std.proofs.Math.ListN.{get_or-map}
use Rattle.orc_rules.specs.declared.param.Param.{Param}
use Rattle.orc_rules.specs.declared.param.Param.TheVariants as is
use Rattle.orc_rules.specs.declared.param.Operand.{Operand}
use Rattle.orc_rules.specs.declared.param.Operand.TheVariants as operand
use Rattle.orc_rules.specs.declared.program.TermNode.{TermNode}
use Rattle.orc_rules.specs.declared.program.TermNode.TheVariants.{Stop, Operand as On, Site, Call, Par, Seq, Prune, Other}
use Rattle.orc_env.specs.declared.names.Bound.{Bound}
use Rattle.orc_env.specs.declared.names.Bound.TheVariants.{Is, Cell, Void}
use Rattle.orc_env.specs.declared.names.Scope.{Scope}
use Rattle.orc_rules.specs.Term.{Term, stop, param, site, call, par, seq, prune, other, pending, opened, put, put_param, fill, fill_param}
use Rattle.orc_rules.specs.Nodes.{param_of, unfold_node, terms_from, code_of}
use Rattle.orc_env.specs.Scopes.{Env, given, close, without, current, envs_from, env_of}

-- what cell c becomes, in what is put for a name
abbrev pub filled : ℕ → Bound → Bound → Bound
filled c w (Is v) = Is v
filled c w (Cell d) = cond (nat_eq c d) w (Cell d)
filled c w Void = Void

abbrev pub filled_one : ℕ → Bound → ℕ × Bound → ℕ × Bound
filled_one c w b = (b.0, filled c w b.1)

abbrev pub fill_env : ℕ → Bound → Env → Env
fill_env c w e = map (filled_one c w) e

given-filled : (c : ℕ) (w b : Bound) → given (filled c w b) ≡ fill_param (given w) c (given b)
given-filled c w (Is v) = refl
given-filled c w (Cell d) = go (nat_eq c d)
  where
    go : (a : Bool) → given (cond a w (Cell d)) ≡ cond a (given w) (is.Cell d)
    go true = refl
    go false = refl
given-filled c w Void = refl

given-put : (q : Param) (x : ℕ) (w : Bound) → put_param q x (given w) ≡ given w
given-put q x (Is v) = refl
given-put q x (Cell c) = refl
given-put q x Void = refl

module _ (c : ℕ) (w : Bound) where
  param-fill : (b : Bound) (x : ℕ) (p : Param) → fill_param (given w) c (put_param (given b) x p) ≡ put_param (given (filled c w b)) x (fill_param (given w) c p)
  param-fill b x (is.Name y) = go (nat_eq x y)
    where
      go : (a : Bool) → fill_param (given w) c (cond a (given b) (is.Name y)) ≡ cond a (given (filled c w b)) (is.Name y)
      go true = sym (given-filled c w b)
      go false = refl
  param-fill b x (is.Is v) = refl
  param-fill b x (is.Cell d) = go (nat_eq c d)
    where
      go : (a : Bool) → cond a (given w) (is.Cell d) ≡ put_param (given (filled c w b)) x (cond a (given w) (is.Cell d))
      go true = sym (given-put (given (filled c w b)) x w)
      go false = refl
  param-fill b x is.Void = refl

  params-fill : (b : Bound) (x : ℕ) (ps : List Param) → map (fill_param (given w) c) (map (put_param (given b) x) ps) ≡ map (put_param (given (filled c w b)) x) (map (fill_param (given w) c) ps)
  params-fill b x [] = refl
  params-fill b x (p ∷ ps) = λ i. param-fill b x p i ∷ params-fill b x ps i

  binder-fill : (a : Bool) (q : Param) (x : ℕ) (g h : Term) → fill (given w) c h ≡ put q x (fill (given w) c g) → fill (given w) c (cond a g h) ≡ cond a (fill (given w) c g) (put q x (fill (given w) c g))
  binder-fill true q x g h e = refl
  binder-fill false q x g h e = e

  -- to put something in and then fill a cell is to fill it in both first
  pub put-fill : (b : Bound) (x : ℕ) (f : Term) → fill (given w) c (put (given b) x f) ≡ put (given (filled c w b)) x (fill (given w) c f)
  put-fill b x stop = refl
  put-fill b x (param p) = ap param (param-fill b x p)
  put-fill b x (site m ps) = ap (site m) (params-fill b x ps)
  put-fill b x (call e ps) = ap (call e) (params-fill b x ps)
  put-fill b x (par f g) = λ i. par (put-fill b x f i) (put-fill b x g i)
  put-fill b x (seq f y g) = λ i. seq (put-fill b x f i) y (binder-fill (nat_eq x y) (given (filled c w b)) x g (put (given b) x g) (put-fill b x g) i)
  put-fill b x (prune f y g) = λ i. prune (binder-fill (nat_eq x y) (given (filled c w b)) x f (put (given b) x f) (put-fill b x f) i) y (put-fill b x g i)
  put-fill b x (other f g) = λ i. other (put-fill b x f i) (put-fill b x g i)
  put-fill b x (pending k) = refl
  put-fill b x (opened f d g) = λ i. opened (put-fill b x f i) d (put-fill b x g i)

  pub close-fill : (e : Env) (f : Term) → fill (given w) c (close e f) ≡ close (fill_env c w e) (fill (given w) c f)
  close-fill [] f = refl
  close-fill (b ∷ e) f = close-fill e (put (given b.1) b.0 f) ∙ ap (close (fill_env c w e)) (put-fill b.1 b.0 f)

  pub without-fill : (x : ℕ) (e : Env) → fill_env c w (without x e) ≡ without x (fill_env c w e)
  without-fill x [] = refl
  without-fill x (b ∷ e) = go (nat_eq b.0 x) (without-fill x e)
    where
      go : (a : Bool) → fill_env c w (without x e) ≡ without x (fill_env c w e) → fill_env c w (cond a (without x e) (b ∷ without x e)) ≡ cond a (without x (fill_env c w e)) (filled_one c w b ∷ without x (fill_env c w e))
      go true h = h
      go false h = ap (λ z. filled_one c w b ∷ z) h

-- no cell stands in a program's term
module _ (w : Param) (c : ℕ) (lists : List (List Operand)) where
  operand-stays : (ps : List Operand) → map (fill_param w c) (map param_of ps) ≡ map param_of ps
  operand-stays [] = refl
  operand-stays (operand.Name x ∷ ps) = ap (λ z. is.Name x ∷ z) (operand-stays ps)
  operand-stays (operand.Is v ∷ ps) = ap (λ z. is.Is v ∷ z) (operand-stays ps)

  node-stays : (code : ℕ → Term) → ((i : ℕ) → fill w c (code i) ≡ code i) → (n : TermNode) → fill w c (unfold_node code lists n) ≡ unfold_node code lists n
  node-stays code h Stop = refl
  node-stays code h (On (operand.Name x)) = refl
  node-stays code h (On (operand.Is v)) = refl
  node-stays code h (Site m l) = ap (site m) (operand-stays (get_or lists l []))
  node-stays code h (Call e l) = ap (call e) (operand-stays (get_or lists l []))
  node-stays code h (Par f g) = λ i. par (h f i) (h g i)
  node-stays code h (Seq f x g) = λ i. seq (h f i) x (h g i)
  node-stays code h (Prune f x g) = λ i. prune (h f i) x (h g i)
  node-stays code h (Other f g) = λ i. other (h f i) (h g i)

  more-stays : (ts : List Term) (t : Term) → ((i : ℕ) → fill w c (get_or ts i stop) ≡ get_or ts i stop) → fill w c t ≡ t → (i : ℕ) → fill w c (get_or (ts ++ t ∷ []) i stop) ≡ get_or (ts ++ t ∷ []) i stop
  more-stays [] t h e zero = e
  more-stays [] t h e (suc i) = refl
  more-stays (u ∷ ts) t h e zero = h 0
  more-stays (u ∷ ts) t h e (suc i) = more-stays ts t (λ j. h (suc j)) e i

  terms-stay : (ts : List Term) (ns : List TermNode) → ((i : ℕ) → fill w c (get_or ts i stop) ≡ get_or ts i stop) → (i : ℕ) → fill w c (get_or (terms_from lists ts ns) i stop) ≡ get_or (terms_from lists ts ns) i stop
  terms-stay ts [] h i = h i
  terms-stay ts (n ∷ ns) h i =
      let new = unfold_node (λ j. get_or ts j stop) lists n in
      terms-stay (ts ++ new ∷ []) ns (more-stays ts new h (node-stays (λ j. get_or ts j stop) h n)) i

  pub code-stays : (nodes : List TermNode) (i : ℕ) → fill w c (code_of lists nodes i) ≡ code_of lists nodes i
  code-stays nodes i = terms-stay [] nodes (λ j. refl) i

map-push : {X Y : Type 0} (f : X → Y) (xs : List X) (x : X) → map f (xs ++ x ∷ []) ≡ map f xs ++ f x ∷ []
map-push f [] x = refl
map-push f (y ∷ xs) x = ap (λ zs. f y ∷ zs) (map-push f xs x)

-- the cell c becomes w in the table of cells
module _ (c : ℕ) (w : Bound) (cells cells' : List Bound) (becomes : (d : Bound) → filled c w (current cells d) ≡ current cells' d) where
  envs_from-fill : (es : List Env) (ss : List Scope) → envs_from cells' (map (fill_env c w) es) ss ≡ map (fill_env c w) (envs_from cells es ss)
  envs_from-fill es [] = refl
  envs_from-fill es (s ∷ ss) =
      let new = (s.name, current cells s.bound) ∷ get_or es s.outer [] in
      let e : map (fill_env c w) es ++ ((s.name, current cells' s.bound) ∷ get_or (map (fill_env c w) es) s.outer []) ∷ [] ≡ map (fill_env c w) (es ++ new ∷ []) =
      cc (becomes s.bound, get_or-map (fill_env c w) es s.outer [], map-push (fill_env c w) es new) in
      ap (λ zs. envs_from cells' zs ss) e ∙ envs_from-fill (es ++ new ∷ []) ss

  pub env_of-fill : (ss : List Scope) (n : ℕ) → env_of cells' ss n ≡ fill_env c w (env_of cells ss n)
  env_of-fill ss n = ap (λ z. get_or z n []) (envs_from-fill ([] ∷ []) ss) ∙ get_or-map (fill_env c w) (envs_from cells ([] ∷ []) ss) n []

-- what is spelled where the cell c becomes w in each environment
module _ (code : ℕ → Term) (c : ℕ) (w : Bound) (stays : (i : ℕ) → fill (given w) c (code i) ≡ code i) (env env' : ℕ → Env) (filled_so : (n : ℕ) → env' n ≡ fill_env c w (env n)) where
  pub closed-fill : (e : ℕ) (g : ℕ) → close (env' e) (code g) ≡ fill (given w) c (close (env e) (code g))
  closed-fill e g = ap (λ z. close z (code g)) (filled_so e) ∙ sym (close-fill c w (env e) (code g) ∙ ap (close (fill_env c w (env e))) (stays g))

  pub rest-fill : (x e : ℕ) (g : ℕ) → close (without x (env' e)) (code g) ≡ fill (given w) c (close (without x (env e)) (code g))
  rest-fill x e g = ap (λ z. close (without x z) (code g)) (filled_so e) ∙ sym (close-fill c w (without x (env e)) (code g) ∙ (λ i. close (without-fill c w x (env e) i) (stays g i)))
