-- Marked terms: a term with its tokens, its pending calls, its cells and its entered otherwises.
use Rattle.std.specs.Prelude.{ℕ, List, [], ◌∷◌}
use Rattle.orc_rules.specs.declared.value.Value.{Value}
use Rattle.orc_rules.specs.declared.param.Param.{Param}
use Rattle.orc_rules.specs.declared.param.Param.TheVariants.{Is}
use Rattle.orc_rules.specs.Step.{Act, silent, publishes, binds, IsInner, within}
use Rattle.orc_rules.specs.Term.{Term, stop, param, par, seq, other, pending, opened, put, fill}

-- a marked term: an ended part (`stop` without a mark), a token's mark on a term, a pending call `?k`, `f | g`, `f >x> g`, an open `f <c< g`, or an
-- `f ; g` that was entered as the otherwise with mark n. Under a mark stands a plain term, so no mark is inside another.
pub data Marked : Type 0 where
  ended : Marked
  token : ℕ → Term → Marked
  in_call : ℕ → Marked
  in_par : Marked → Marked → Marked
  in_seq : Marked → ℕ → Term → Marked
  in_opened : Marked → ℕ → Marked → Marked
  in_other : ℕ → Marked → Term → Marked

-- the term without its marks
abbrev pub erase : Marked → Term
erase ended = stop
erase (token s t) = t
erase (in_call k) = pending k
erase (in_par f g) = par (erase f) (erase g)
erase (in_seq f x g) = seq (erase f) x g
erase (in_opened f c g) = opened (erase f) c (erase g)
erase (in_other n f g) = other (erase f) g

-- [w/c]m
abbrev pub fill_marked : Param → ℕ → Marked → Marked
fill_marked w c ended = ended
fill_marked w c (token s t) = token s (fill w c t)
fill_marked w c (in_call k) = in_call k
fill_marked w c (in_par f g) = in_par (fill_marked w c f) (fill_marked w c g)
fill_marked w c (in_seq f x g) = in_seq (fill_marked w c f) x (fill w c g)
fill_marked w c (in_opened f d g) = in_opened (fill_marked w c f) d (fill_marked w c g)
fill_marked w c (in_other n f g) = in_other n (fill_marked w c f) (fill w c g)

-- m becomes m' where one x in it becomes y; cs are the cells inside whose right side it stands, the outermost first
pub data Replaces (x y : Marked) : Marked → List ℕ → Marked → Type 0 where
  here : Replaces x y x [] y
  in_left : {f g f' : Marked} {cs : List ℕ} → Replaces x y f cs f' → Replaces x y (in_par f g) cs (in_par f' g)
  in_right : {f g g' : Marked} {cs : List ℕ} → Replaces x y g cs g' → Replaces x y (in_par f g) cs (in_par f g')
  in_feeding : {f f' : Marked} {z : ℕ} {g : Term} {cs : List ℕ} → Replaces x y f cs f' → Replaces x y (in_seq f z g) cs (in_seq f' z g)
  in_main : {f g f' : Marked} {c : ℕ} {cs : List ℕ} → Replaces x y f cs f' → Replaces x y (in_opened f c g) cs (in_opened f' c g)
  in_side : {f g g' : Marked} {c : ℕ} {cs : List ℕ} → Replaces x y g cs g' → Replaces x y (in_opened f c g) (c ∷ cs) (in_opened f c g')
  in_entered : {n : ℕ} {f f' : Marked} {g : Term} {cs : List ℕ} → Replaces x y f cs f' → Replaces x y (in_other n f g) cs (in_other n f' g)

-- token s publishes v, by which m becomes m'; the act says what takes v. It is silent if a `>x>` takes v, and then the new copy of its right side
-- gets mark a; it binds a cell if a pruning takes v; and it publishes v if nothing in m takes it.
pub data Emits (s a : ℕ) (v : Value) : Marked → Act → Marked → Type 0 where
  emits : Emits s a v (token s (param (Is v))) (publishes v) ended
  on_left : {f g f' : Marked} {b : Act} → Emits s a v f b f' → Emits s a v (in_par f g) b (in_par f' g)
  on_right : {f g g' : Marked} {b : Act} → Emits s a v g b g' → Emits s a v (in_par f g) b (in_par f g')
  on_feeding : {f f' : Marked} {z : ℕ} {g : Term} {b : Act} → IsInner b → Emits s a v f b f' → Emits s a v (in_seq f z g) b (in_seq f' z g)
  is_fed : {f f' : Marked} {z : ℕ} {g : Term} → Emits s a v f (publishes v) f' → Emits s a v (in_seq f z g) silent (in_par (in_seq f' z g) (token a (put (Is v) z g)))
  on_main : {f g f' : Marked} {c : ℕ} {b : Act} → Emits s a v f b f' → Emits s a v (in_opened f c g) b (in_opened f' c g)
  on_side : {f g g' : Marked} {c : ℕ} {b : Act} → IsInner b → Emits s a v g b g' → Emits s a v (in_opened f c g) (within c b) (in_opened f c g')
  is_bound : {f g g' : Marked} {c : ℕ} → Emits s a v g (publishes v) g' → Emits s a v (in_opened f c g) (binds c v) (fill_marked (Is v) c f)
  on_entered : {n : ℕ} {f f' : Marked} {g : Term} {b : Act} → IsInner b → Emits s a v f b f' → Emits s a v (in_other n f g) b (in_other n f' g)
  passes : {n : ℕ} {f f' : Marked} {g : Term} → Emits s a v f (publishes v) f' → Emits s a v (in_other n f g) (publishes v) f'
