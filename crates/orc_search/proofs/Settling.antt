-- What is put in, settled and moved stays so where a cell further out is settled.
use Rattle.std.proofs.Common.{◌≡◌, ◌<◌, ◌≤◌, ℕ, suc, pred, List, [], ◌∷◌, map, Bool, true, false, Option, Some, None, refl, sym, ap, ◌∙◌, subst, inl, inr, arith, eq-eqb}
use Rattle.std.specs.Prelude.{cond, nat_eq, nat_lt, slice_get}
use Rattle.std.proofs.lemmas.Bool.{eqb-true, ltb-true, ltb-false}
use Rattle.orc_rules.specs.declared.value.Value.{Value}
use Rattle.orc_rules.specs.declared.value.Answer.{Answer}
use Rattle.orc_rules.specs.declared.value.Answer.TheVariants.{Value as Gives, Halt}
use Rattle.orc_rules.specs.declared.param.Param.{Param}
use Rattle.orc_rules.specs.declared.param.Param.TheVariants.{Name, Is, Cell, Void}
use Rattle.orc_rules.specs.Term.{Term, stop, param, site, call, par, seq, prune, other, pending, opened, put_param, values_of, HasVoid}
use Rattle.orc_rules.specs.Lost.{IsSource}
use Rattle.orc_search.specs.Small.{Out, Small, nothing, gives, asks, enters, both, feeds, prunes, instead, awaits, needs, set, set_all, settle, settle_param, IsOver, left_by}
use Rattle.orc_search.specs.Moves.{Happening, SmallDefinition, Moves, value, void_value, asked, void_call, returned, entered, on_left, on_right, feeding, fed, opens, on_main, on_side, binds, loses, first, passes, falls}
use Rattle.orc_search.specs.Seen.{seen_param, seen}
use Rattle.orc_search.specs.Ticks.{IsAround, AreAround, IsScoped}
use Rattle.orc_search.proofs.Seen.{before, behind}

-- a value, or void
pub record IsFixed (w : Param) : Type 0 where
  pub put_in : (q : Param) (x : ℕ) → put_param q x w ≡ w
  pub settled : (v : Param) (n : ℕ) → settle_param v n w ≡ w

pub value_fixed : (v : Value) → IsFixed (Is v)
value_fixed v = record { put_in = λ q x. refl; settled = λ w n. refl }

pub void_fixed : IsFixed Void
void_fixed = record { put_in = λ q x. refl; settled = λ w n. refl }

here : (w : Param) (n : ℕ) → settle_param w n (Cell n) ≡ w
here w n = ap (λ b. cond b w (Cell (cond (nat_lt n n) (pred n) n))) (eq-eqb n n refl)

-- where a cell stands, seen from this one
data Stands (n c : ℕ) : Type 0 where
  is_before : c < n → Stands n c
  is_here : c ≡ n → Stands n c
  is_behind : n < c → Stands n c

stands : (n c : ℕ) → Stands n c
stands n c = go (nat_eq n c) (nat_lt n c) refl refl where
  go : (b a : Bool) → nat_eq n c ≡ b → nat_lt n c ≡ a → Stands n c
  go true a p q = is_here (sym (eqb-true n c p))
  go false true p q = is_behind (ltb-true n c q)
  go false false p q = is_late (ltb-false n c q) where
    is_late : c ≤ n → Stands n c
    is_late le = lower (nat_lt c n) refl where
      lower : (d : Bool) → nat_lt c n ≡ d → Stands n c
      lower true r = is_before (ltb-true c n r)
      lower false r = is_here (omega (arith, le, ltb-false c n r))

-- two cells, settled in either order
module _ (v w : Param) (v_fixed : IsFixed v) (w_fixed : IsFixed w) (n k : ℕ) (le : n ≤ k) where
  swap_cell : (c : ℕ) → settle_param w n (settle_param v (suc k) (Cell c)) ≡ settle_param v k (settle_param w n (Cell c))
  swap_cell c = go (stands n c) (stands (suc k) c) where
    go : Stands n c → Stands (suc k) c → settle_param w n (settle_param v (suc k) (Cell c)) ≡ settle_param v k (settle_param w n (Cell c))
    go (is_before a) b =
        ap (settle_param w n) (before v (suc k) c (omega (arith, a, le))) ∙ before w n c a ∙ sym (ap (settle_param v k) (before w n c a) ∙ before v k c (omega (arith, a, le)))
    go (is_here a) b =
        let from : settle_param w n (Cell c) ≡ w = ap (λ (m : ℕ). settle_param w n (Cell m)) a ∙ here w n in
        ap (settle_param w n) (before v (suc k) c (omega (arith, a, le))) ∙ from ∙ sym (ap (settle_param v k) from ∙ w_fixed.settled v k)
    go (is_behind a) (is_before b) =
        ap (settle_param w n) (before v (suc k) c b) ∙ behind w n c a ∙ sym (ap (settle_param v k) (behind w n c a) ∙ before v k (pred c) (omega (arith, a, b)))
    go (is_behind a) (is_here b) =
        let from : settle_param v (suc k) (Cell c) ≡ v = ap (λ (m : ℕ). settle_param v (suc k) (Cell m)) b ∙ here v (suc k) in
        let down : pred c ≡ k = omega (arith, b) in
        ap (settle_param w n) from ∙ v_fixed.settled w n ∙ sym (ap (settle_param v k) (behind w n c a ∙ ap Cell down) ∙ here v k)
    go (is_behind a) (is_behind b) =
        ap (settle_param w n) (behind v (suc k) c b) ∙ behind w n (pred c) (omega (arith, b, le)) ∙ sym (ap (settle_param v k) (behind w n c a) ∙ behind v k (pred c) (omega (arith, b)))

  swap_param : (p : Param) → settle_param w n (settle_param v (suc k) p) ≡ settle_param v k (settle_param w n p)
  swap_param (Name y) = refl
  swap_param (Is u) = refl
  swap_param (Cell c) = swap_cell c
  swap_param Void = refl

  swap_list : (ps : List Param) → map (settle_param w n) (map (settle_param v (suc k)) ps) ≡ map (settle_param v k) (map (settle_param w n) ps)
  swap_list [] = refl
  swap_list (p ∷ ps) = λ i. swap_param p i ∷ swap_list ps i

  pub swap : (f : Small) → settle w n (settle v (suc k) f) ≡ settle v k (settle w n f)
  swap nothing = refl
  swap (gives p) = ap gives (swap_param p)
  swap (asks m ps) = ap (asks m) (swap_list ps)
  swap (enters e ps) = ap (enters e) (swap_list ps)
  swap (both f g) = λ i. both (swap f i) (swap g i)
  swap (feeds f y g) = λ i. feeds (swap f i) y (swap g i)
  swap (prunes f y g) = λ i. prunes (swap f i) y (swap g i)
  swap (instead f g) = λ i. instead (swap f i) (swap g i)
  swap (awaits o) = refl
  swap (needs f g) = λ i. needs (swap f i) (swap g i)

module _ (w : Param) (w_fixed : IsFixed w) (n : ℕ) where
  settle_cond : (b : Bool) (p q : Param) → settle_param w n (cond b p q) ≡ cond b (settle_param w n p) (settle_param w n q)
  settle_cond true p q = refl
  settle_cond false p q = refl

  put_param_settled : (q : Param) (x : ℕ) (p : Param) → settle_param w n (put_param q x p) ≡ put_param (settle_param w n q) x (settle_param w n p)
  put_param_settled q x (Name y) = settle_cond (nat_eq x y) q (Name y)
  put_param_settled q x (Is v) = refl
  put_param_settled q x (Cell c) = go (nat_eq n c) where
    go : (b : Bool) → cond b w (Cell (cond (nat_lt n c) (pred c) c)) ≡ put_param (settle_param w n q) x (cond b w (Cell (cond (nat_lt n c) (pred c) c)))
    go true = sym (w_fixed.put_in (settle_param w n q) x)
    go false = refl
  put_param_settled q x Void = refl

  put_list_settled : (q : Param) (x : ℕ) (ps : List Param) → map (settle_param w n) (map (put_param q x) ps) ≡ map (put_param (settle_param w n q) x) (map (settle_param w n) ps)
  put_list_settled q x [] = refl
  put_list_settled q x (p ∷ ps) = λ i. put_param_settled q x p i ∷ put_list_settled q x ps i

  small_cond : (b : Bool) (f g : Small) → settle w n (cond b f g) ≡ cond b (settle w n f) (settle w n g)
  small_cond true f g = refl
  small_cond false f g = refl

  pub set_settled : (q : Param) (x : ℕ) (f : Small) → settle w n (set q x f) ≡ set (settle_param w n q) x (settle w n f)
  set_settled q x nothing = refl
  set_settled q x (gives p) = ap gives (put_param_settled q x p)
  set_settled q x (asks m ps) = ap (asks m) (put_list_settled q x ps)
  set_settled q x (enters e ps) = ap (enters e) (put_list_settled q x ps)
  set_settled q x (both f g) = λ i. both (set_settled q x f i) (set_settled q x g i)
  set_settled q x (feeds f y g) =
      let right = small_cond (nat_eq x y) g (set q x g) ∙ ap (cond (nat_eq x y) (settle w n g)) (set_settled q x g) in
      λ i. feeds (set_settled q x f i) y (right i)
  set_settled q x (prunes f y g) =
      let left = small_cond (nat_eq x y) f (set q x f) ∙ ap (cond (nat_eq x y) (settle w n f)) (set_settled q x f) in
      λ i. prunes (left i) y (set_settled q x g i)
  set_settled q x (instead f g) = λ i. instead (set_settled q x f i) (set_settled q x g i)
  set_settled q x (awaits o) = refl
  set_settled q x (needs f g) = λ i. needs (set_settled q x f i) (set_settled q x g i)

  pub set_all_settled : (xs : List ℕ) (ps : List Param) (f : Small) → settle w n (set_all xs ps f) ≡ set_all xs (map (settle_param w n) ps) (settle w n f)
  set_all_settled [] ps f = refl
  set_all_settled (x ∷ xs) [] f = refl
  set_all_settled (x ∷ xs) (p ∷ ps) f = set_all_settled xs ps (set p x f) ∙ ap (set_all xs (map (settle_param w n) ps)) (set_settled p x f)

  pub over_settled : (f : Small) → IsOver f → IsOver (settle w n f)
  over_settled nothing o = tt
  over_settled (both f g) o = (over_settled f o.0, over_settled g o.1)
  over_settled (needs f g) o = (over_settled f o.0, over_settled g o.1)
  over_settled (feeds f x g) o = over_settled f o
  over_settled (gives p) o = elim o [ ]
  over_settled (asks m ps) o = elim o [ ]
  over_settled (enters e ps) o = elim o [ ]
  over_settled (prunes f x g) o = elim o [ ]
  over_settled (instead f g) o = elim o [ ]
  over_settled (awaits u) o = elim o [ ]

  values_stay : (ps : List Param) (vs : List Value) → values_of ps ≡ Some vs → map (settle_param w n) ps ≡ ps
  values_stay [] vs h = refl
  values_stay (Name x ∷ ps) vs h = cc h
  values_stay (Cell x ∷ ps) vs h = cc h
  values_stay (Void ∷ ps) vs h = cc h
  values_stay (Is v ∷ ps) vs h = go (values_of ps) refl (λ us e. values_stay ps us e) h where
    rw_none : values_of ps ≡ None → values_of (Is v ∷ ps) ≡ Some vs → ⊥
    rw_none p q =
        let none : values_of (Is v ∷ ps) ≡ None = rw p refl in
        let e : ◌≡◌ {A = Option (List Value)} None (Some vs) = sym none ∙ q in
        cc e

    go : (o : Option (List Value)) → values_of ps ≡ o → ((us : List Value) → values_of ps ≡ Some us → map (settle_param w n) ps ≡ ps) → values_of (Is v ∷ ps) ≡ Some vs → map (settle_param w n) (Is v ∷ ps) ≡ Is v ∷ ps
    go (Some us) p ih q = ap (λ (r : List Param). Is v ∷ r) (ih us p)
    go None p ih q = absurd (rw_none p q)

  pub values_settled : (ps : List Param) (args : List Value) → values_of ps ≡ Some args → values_of (map (settle_param w n) ps) ≡ Some args
  values_settled ps args e = ap values_of (values_stay ps args e) ∙ e

  pub void_settled : (ps : List Param) → HasVoid ps → HasVoid (map (settle_param w n) ps)
  void_settled [] h = h
  void_settled (p ∷ ps) (inl e) = inl (ap (settle_param w n) e)
  void_settled (p ∷ ps) (inr h) = inr (void_settled ps h)

  pub left_settled : (a : Answer) → settle w n (left_by a) ≡ left_by a
  left_settled (Gives v) = refl
  left_settled Halt = refl

  -- what names no cell stays
  free_param : (p : Param) → IsAround [] p → settle_param w n (seen_param [] p) ≡ seen_param [] p
  free_param (Name y) a = refl
  free_param (Is v) a = refl
  free_param (Cell c) a = elim a [ ]
  free_param Void a = refl

  free_list : (ps : List Param) → AreAround [] ps → map (settle_param w n) (map (seen_param []) ps) ≡ map (seen_param []) ps
  free_list [] a = refl
  free_list (p ∷ ps) a = λ i. free_param p a.0 i ∷ free_list ps a.1 i

  pub free : (out : ℕ → Out) (t : Term) → IsSource t → IsScoped [] t → settle w n (seen out [] t) ≡ seen out [] t
  free out stop s a = refl
  free out (param p) s a = ap gives (free_param p a)
  free out (site m ps) s a = ap (asks m) (free_list ps a)
  free out (call e ps) s a = ap (enters e) (free_list ps a)
  free out (par f g) s a = λ i. both (free out f s.0 a.0 i) (free out g s.1 a.1 i)
  free out (seq f x g) s a = λ i. feeds (free out f s.0 a.0 i) x (free out g s.1 a.1 i)
  free out (prune f x g) s a = λ i. prunes (free out f s.0 a.0 i) x (free out g s.1 a.1 i)
  free out (other f g) s a = λ i. instead (free out f s.0 a.0 i) (free out g s.1 a.1 i)
  free out (pending k) s a = elim s [ ]
  free out (opened f c g) s a = elim s [ ]

-- no body names a cell
pub record AreFree (defs : List SmallDefinition) : Type 0 where
  pub free : (e : ℕ) (d : SmallDefinition) (w : Param) (n : ℕ) → IsFixed w → slice_get defs e ≡ Some d → settle w n d.body ≡ d.body

-- each move is one where a cell further out is settled, too
module _ (defs : List SmallDefinition) (ask : ℕ → List Value → Out) (are : AreFree defs) (w : Param) (w_fixed : IsFixed w) (n : ℕ) where
  to : {k : ℕ} {f g g' : Small} {h : Happening} → g ≡ g' → Moves defs ask k f h g → Moves defs ask k f h g'
  to {k = k} {f = f} {h = h} e m = subst (λ (g : Small). Moves defs ask k f h g) e m

  pub body_settled : (e : ℕ) (ps : List Param) (d : SmallDefinition) → slice_get defs e ≡ Some d → set_all d.params (map (settle_param w n) ps) d.body ≡ settle w n (set_all d.params ps d.body)
  body_settled e ps d is = sym (set_all_settled w w_fixed n d.params ps d.body ∙ ap (set_all d.params (map (settle_param w n) ps)) (are.free e d w n w_fixed is))

  pub opening_settled : (k x : ℕ) (f g : Small) → n ≤ k → needs (set (Cell k) x (settle w n f)) (settle w n g) ≡ settle w n (needs (set (Cell (suc k)) x f) g)
  opening_settled k x f g le =
      let cell : settle_param w n (Cell (suc k)) ≡ Cell k = behind w n (suc k) (omega (arith, le)) in
      λ i. needs ((sym (set_settled w w_fixed n (Cell (suc k)) x f ∙ ap (λ (q : Param). set q x (settle w n f)) cell)) i) (settle w n g)

  pub moves_settled : {k : ℕ} {f g : Small} {h : Happening} → n ≤ k → Moves defs ask (suc k) f h g → Moves defs ask k (settle w n f) h (settle w n g)
  moves_settled le value = value
  moves_settled le void_value = void_value
  moves_settled le (asked {ps = ps} {args = args} is) = asked (values_settled w w_fixed n ps args is)
  moves_settled le (void_call {ps = ps} has) = void_call (void_settled w w_fixed n ps has)
  moves_settled le (returned {a = a} is) = to (sym (left_settled w w_fixed n a)) (returned is)
  moves_settled le (entered {e = e} {ps = ps} {d = d} is) = to (body_settled e ps d is) (entered is)
  moves_settled le (on_left m) = on_left (moves_settled le m)
  moves_settled le (on_right m) = on_right (moves_settled le m)
  moves_settled le (feeding p m) = feeding p (moves_settled le m)
  moves_settled {k = k} le (fed {x = x} {g = g} {f' = f'} {v = v} m) =
      to (λ i. both (feeds (settle w n f') x (settle w n g)) (sym (set_settled w w_fixed n (Is v) x g) i)) (fed (moves_settled le m))
  moves_settled {k = k} le (opens {x = x} {f = f} {g = g}) = to (opening_settled k x f g le) opens
  moves_settled {k = k} le (on_main m) = on_main (moves_settled {k = suc k} (omega (arith, le)) m)
  moves_settled le (on_side p m) = on_side p (moves_settled le m)
  moves_settled {k = k} le (binds {f = f} {v = v} m) = to (sym (swap (Is v) w (value_fixed v) w_fixed n k le f)) (binds (moves_settled le m))
  moves_settled {k = k} le (loses {f = f} {g = g} over) = to (sym (swap Void w void_fixed w_fixed n k le f)) (loses (over_settled w w_fixed n g over))
  moves_settled le (first p m) = first p (moves_settled le m)
  moves_settled le (passes m) = passes (moves_settled le m)
  moves_settled le (falls {f = f} over) = falls (over_settled w w_fixed n f over)
