-- Other numbers leave a term's shape: what halts, what is put and filled in, what becomes of a part.
use Rattle.std.proofs.Common.{◌≡◌, ℕ, ◌+◌, List, [], ◌∷◌, ◌++◌, map, Bool, true, false, Option, Some, None, refl, sym, ap, ◌∙◌, subst, inl, inr, arith, eq-eqb}
use Rattle.std.specs.Prelude.{cond, nat_eq}
use Rattle.std.proofs.lemmas.Bool.{eqb-true, false≢true, ne_eqb}
use Rattle.std.proofs.lemmas.List.{map-append}
use Rattle.orc_rules.specs.declared.value.Value.{Value}
use Rattle.orc_rules.specs.declared.param.Param.{Param}
use Rattle.orc_rules.specs.declared.param.Param.TheVariants.{Name, Is, Cell, Void}
use Rattle.orc_rules.specs.Term.{Term, stop, param, site, call, par, seq, prune, other, pending, opened, put, put_param, put_all, fill, fill_param, values_of, HasVoid, Halted, pending_of}
use Rattle.orc_rules.specs.Step.{Act, silent, binds, publishes, calls, returns, loses, opens, IsInner, within}
use Rattle.orc_rules.specs.Marked.{Marked, ended, token, in_call, in_par, in_seq, in_opened, in_other, erase, fill_marked, Replaces, here, in_left, in_right, in_feeding, in_main, in_side, in_entered, Emits, emits, on_left, on_right, on_feeding, is_fed, on_main, on_side, is_bound, on_entered, passes}
use Rattle.orc_rules.specs.Journal.{IsVoid}
use Rattle.orc_subrun.specs.declared.numbers.Numbering.{Numbering}
use Rattle.orc_subrun.specs.Moved.{mark_in, cell_in, moved_param, moved_term, moved_marked}

same_sum : (k c d : ℕ) → nat_eq (k + c) (k + d) ≡ nat_eq c d
same_sum k c d = by_test (nat_eq c d) refl
  where
    by_test : (b : Bool) → nat_eq c d ≡ b → nat_eq (k + c) (k + d) ≡ nat_eq c d
    by_test true e = eq-eqb (k + c) (k + d) (ap (λ j. k + j) (eqb-true c d e)) ∙ sym e
    by_test false e = ne_eqb (k + c) (k + d) (λ h. false≢true (sym e ∙ eq-eqb c d (omega (arith, h)))) ∙ sym e

module _ (n : Numbering) where
  moved_cond : (b : Bool) (f g : Term) → moved_term n (cond b f g) ≡ cond b (moved_term n f) (moved_term n g)
  moved_cond true f g = refl
  moved_cond false f g = refl

  param_cond : (b : Bool) (p q : Param) → moved_param n (cond b p q) ≡ cond b (moved_param n p) (moved_param n q)
  param_cond true p q = refl
  param_cond false p q = refl

  -- what is put in for a name
  put_param_moved : (q : Param) (x : ℕ) (p : Param) → moved_param n (put_param q x p) ≡ put_param (moved_param n q) x (moved_param n p)
  put_param_moved q x (Name y) = param_cond (nat_eq x y) q (Name y)
  put_param_moved q x (Is v) = refl
  put_param_moved q x (Cell c) = refl
  put_param_moved q x Void = refl

  put_list_moved : (q : Param) (x : ℕ) (ps : List Param) → map (moved_param n) (map (put_param q x) ps) ≡ map (put_param (moved_param n q) x) (map (moved_param n) ps)
  put_list_moved q x [] = refl
  put_list_moved q x (p ∷ ps) = λ i. put_param_moved q x p i ∷ put_list_moved q x ps i

  pub put_moved : (q : Param) (x : ℕ) (t : Term) → moved_term n (put q x t) ≡ put (moved_param n q) x (moved_term n t)
  put_moved q x stop = refl
  put_moved q x (param p) = ap param (put_param_moved q x p)
  put_moved q x (site m ps) = ap (site m) (put_list_moved q x ps)
  put_moved q x (call e ps) = ap (call e) (put_list_moved q x ps)
  put_moved q x (par f g) = λ i. par (put_moved q x f i) (put_moved q x g i)
  put_moved q x (seq f y g) =
      let right = moved_cond (nat_eq x y) g (put q x g) ∙ ap (cond (nat_eq x y) (moved_term n g)) (put_moved q x g) in
      λ i. seq (put_moved q x f i) y (right i)
  put_moved q x (prune f y g) =
      let left = moved_cond (nat_eq x y) f (put q x f) ∙ ap (cond (nat_eq x y) (moved_term n f)) (put_moved q x f) in
      λ i. prune (left i) y (put_moved q x g i)
  put_moved q x (other f g) = λ i. other (put_moved q x f i) (put_moved q x g i)
  put_moved q x (pending k) = refl
  put_moved q x (opened f c g) = λ i. opened (put_moved q x f i) (cell_in n c) (put_moved q x g i)

  pub put_all_moved : (xs : List ℕ) (ps : List Param) (t : Term) → moved_term n (put_all xs ps t) ≡ put_all xs (map (moved_param n) ps) (moved_term n t)
  put_all_moved [] ps t = refl
  put_all_moved (x ∷ xs) [] t = refl
  put_all_moved (x ∷ xs) (p ∷ ps) t = put_all_moved xs ps (put p x t) ∙ ap (put_all xs (map (moved_param n) ps)) (put_moved p x t)

  -- what a cell becomes
  fill_param_moved : (w : Param) (c : ℕ) (p : Param) → moved_param n (fill_param w c p) ≡ fill_param (moved_param n w) (cell_in n c) (moved_param n p)
  fill_param_moved w c (Name y) = refl
  fill_param_moved w c (Is v) = refl
  fill_param_moved w c (Cell d) = param_cond (nat_eq c d) w (Cell d) ∙ ap (λ b. cond b (moved_param n w) (Cell (cell_in n d))) (sym (same_sum n.cells c d))
  fill_param_moved w c Void = refl

  fill_list_moved : (w : Param) (c : ℕ) (ps : List Param) → map (moved_param n) (map (fill_param w c) ps) ≡ map (fill_param (moved_param n w) (cell_in n c)) (map (moved_param n) ps)
  fill_list_moved w c [] = refl
  fill_list_moved w c (p ∷ ps) = λ i. fill_param_moved w c p i ∷ fill_list_moved w c ps i

  fill_term_moved : (w : Param) (c : ℕ) (t : Term) → moved_term n (fill w c t) ≡ fill (moved_param n w) (cell_in n c) (moved_term n t)
  fill_term_moved w c stop = refl
  fill_term_moved w c (param p) = ap param (fill_param_moved w c p)
  fill_term_moved w c (site m ps) = ap (site m) (fill_list_moved w c ps)
  fill_term_moved w c (call e ps) = ap (call e) (fill_list_moved w c ps)
  fill_term_moved w c (par f g) = λ i. par (fill_term_moved w c f i) (fill_term_moved w c g i)
  fill_term_moved w c (seq f y g) = λ i. seq (fill_term_moved w c f i) y (fill_term_moved w c g i)
  fill_term_moved w c (prune f y g) = λ i. prune (fill_term_moved w c f i) y (fill_term_moved w c g i)
  fill_term_moved w c (other f g) = λ i. other (fill_term_moved w c f i) (fill_term_moved w c g i)
  fill_term_moved w c (pending k) = refl
  fill_term_moved w c (opened f d g) = λ i. opened (fill_term_moved w c f i) (cell_in n d) (fill_term_moved w c g i)

  pub fill_moved : (w : Param) (c : ℕ) (m : Marked) → moved_marked n (fill_marked w c m) ≡ fill_marked (moved_param n w) (cell_in n c) (moved_marked n m)
  fill_moved w c ended = refl
  fill_moved w c (token s t) = ap (token (mark_in n s)) (fill_term_moved w c t)
  fill_moved w c (in_call k) = refl
  fill_moved w c (in_par f g) = λ i. in_par (fill_moved w c f i) (fill_moved w c g i)
  fill_moved w c (in_seq f x g) = λ i. in_seq (fill_moved w c f i) x (fill_term_moved w c g i)
  fill_moved w c (in_opened f d g) = λ i. in_opened (fill_moved w c f i) (cell_in n d) (fill_moved w c g i)
  fill_moved w c (in_other s f g) = λ i. in_other (mark_in n s) (fill_moved w c f i) (fill_term_moved w c g i)

  -- the plain term
  pub erase_moved : (m : Marked) → erase (moved_marked n m) ≡ moved_term n (erase m)
  erase_moved ended = refl
  erase_moved (token s t) = refl
  erase_moved (in_call k) = refl
  erase_moved (in_par f g) = λ i. par (erase_moved f i) (erase_moved g i)
  erase_moved (in_seq f x g) = λ i. seq (erase_moved f i) x (moved_term n g)
  erase_moved (in_opened f c g) = λ i. opened (erase_moved f i) (cell_in n c) (erase_moved g i)
  erase_moved (in_other s f g) = λ i. other (erase_moved f i) (moved_term n g)

  halted_term : (t : Term) → Halted t → Halted (moved_term n t)
  halted_term stop h = tt
  halted_term (param p) h = elim h [ ]
  halted_term (site m ps) h = elim h [ ]
  halted_term (call e ps) h = elim h [ ]
  halted_term (par f g) h = (halted_term f h.0, halted_term g h.1)
  halted_term (seq f x g) h = halted_term f h
  halted_term (prune f x g) h = elim h [ ]
  halted_term (other f g) h = elim h [ ]
  halted_term (pending k) h = elim h [ ]
  halted_term (opened f c g) h = (halted_term f h.0, halted_term g h.1)

  pub halted_moved : (m : Marked) → Halted (erase m) → Halted (erase (moved_marked n m))
  halted_moved m h = subst Halted (sym (erase_moved m)) (halted_term (erase m) h)

  pending_term : (t : Term) → pending_of (moved_term n t) ≡ map (λ k. n.calls + k) (pending_of t)
  pending_term stop = refl
  pending_term (param p) = refl
  pending_term (site m ps) = refl
  pending_term (call e ps) = refl
  pending_term (par f g) = (λ i. pending_term f i ++ pending_term g i) ∙ sym (map-append (λ k. n.calls + k) (pending_of f) (pending_of g))
  pending_term (seq f x g) = pending_term f
  pending_term (prune f x g) = refl
  pending_term (other f g) = pending_term f
  pending_term (pending k) = refl
  pending_term (opened f c g) = (λ i. pending_term f i ++ pending_term g i) ∙ sym (map-append (λ k. n.calls + k) (pending_of f) (pending_of g))

  -- the pending calls under their other numbers
  pub pending_moved : (m : Marked) → pending_of (erase (moved_marked n m)) ≡ map (λ k. n.calls + k) (pending_of (erase m))
  pending_moved m = ap pending_of (erase_moved m) ∙ pending_term (erase m)

  -- operands
  or_none : Option (List Value) → List Value
  or_none (Some vs) = vs
  or_none None = []

  pub values_moved : (ps : List Param) → values_of (map (moved_param n) ps) ≡ values_of ps
  values_moved [] = refl
  values_moved (Name x ∷ ps) = refl
  values_moved (Is v ∷ ps) = rw (values_moved ps) refl
  values_moved (Cell c ∷ ps) = refl
  values_moved (Void ∷ ps) = refl

  has_void_moved : (ps : List Param) → HasVoid ps → HasVoid (map (moved_param n) ps)
  has_void_moved [] h = h
  has_void_moved (p ∷ ps) (inl e) = inl (ap (moved_param n) e)
  has_void_moved (p ∷ ps) (inr h) = inr (has_void_moved ps h)

  pub void_moved : (t : Term) → IsVoid t → IsVoid (moved_term n t)
  void_moved stop h = elim h [ ]
  void_moved (param p) h = ap (moved_param n) h
  void_moved (site m ps) h = has_void_moved ps h
  void_moved (call e ps) h = elim h [ ]
  void_moved (par f g) h = elim h [ ]
  void_moved (seq f x g) h = elim h [ ]
  void_moved (prune f x g) h = elim h [ ]
  void_moved (other f g) h = elim h [ ]
  void_moved (pending k) h = elim h [ ]
  void_moved (opened f c g) h = elim h [ ]

  -- what becomes of a part
  pub moved_replaces : {x y m m' : Marked} {cs : List ℕ} → Replaces x y m cs m' → Replaces (moved_marked n x) (moved_marked n y) (moved_marked n m) (map (cell_in n) cs) (moved_marked n m')
  moved_replaces here = here
  moved_replaces (in_left r) = in_left (moved_replaces r)
  moved_replaces (in_right r) = in_right (moved_replaces r)
  moved_replaces (in_feeding r) = in_feeding (moved_replaces r)
  moved_replaces (in_main r) = in_main (moved_replaces r)
  moved_replaces (in_side r) = in_side (moved_replaces r)
  moved_replaces (in_entered r) = in_entered (moved_replaces r)

  -- what a token publishes
  abbrev pub moved_act : Act → Act
  moved_act (calls k m args cs) = calls (n.calls + k) m args (map (cell_in n) cs)
  moved_act (returns k a) = returns (n.calls + k) a
  moved_act (binds c v) = binds (cell_in n c) v
  moved_act (loses c) = loses (cell_in n c)
  moved_act (publishes v) = publishes v
  moved_act silent = silent
  moved_act (opens c) = opens (cell_in n c)

  inner_moved : (b : Act) → IsInner b → IsInner (moved_act b)
  inner_moved (calls k m args cs) i = tt
  inner_moved (returns k a) i = tt
  inner_moved (binds c v) i = tt
  inner_moved (loses c) i = tt
  inner_moved (publishes v) i = i
  inner_moved silent i = tt
  inner_moved (opens c) i = tt

  within_moved : (c : ℕ) (b : Act) → within (cell_in n c) (moved_act b) ≡ moved_act (within c b)
  within_moved c (calls k m args cs) = refl
  within_moved c (returns k a) = refl
  within_moved c (binds d v) = refl
  within_moved c (loses d) = refl
  within_moved c (publishes v) = refl
  within_moved c silent = refl
  within_moved c (opens d) = refl

  pub moved_emits : {s a : ℕ} {v : Value} {m m' : Marked} {b : Act} → Emits s a v m b m' → Emits (mark_in n s) (mark_in n a) v (moved_marked n m) (moved_act b) (moved_marked n m')
  moved_emits emits = emits
  moved_emits (on_left e) = on_left (moved_emits e)
  moved_emits (on_right e) = on_right (moved_emits e)
  moved_emits (on_feeding {b = b} i e) = on_feeding (inner_moved b i) (moved_emits e)
  moved_emits {s} {a} {v} (is_fed {z = z} {g = g} e) = rw (put_moved (Is v) z g) (is_fed (moved_emits e))
  moved_emits (on_main e) = on_main (moved_emits e)
  moved_emits (on_side {c = c} {b = b} i e) = rw (sym (within_moved c b)) (on_side (inner_moved b i) (moved_emits e))
  moved_emits {s} {a} {v} (is_bound {f = f} {c = c} e) = rw (fill_moved (Is v) c f) (is_bound (moved_emits e))
  moved_emits (on_entered {b = b} i e) = on_entered (inner_moved b i) (moved_emits e)
  moved_emits (passes e) = passes (moved_emits e)
