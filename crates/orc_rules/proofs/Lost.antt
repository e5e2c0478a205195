-- Each step of the term is made by entries.
use Rattle.std.proofs.Common.{◌≡◌, ℕ, suc, List, [], ◌∷◌, Some, map, refl, sym, ap, ◌∙◌, subst, inl, inr}
use Rattle.std.specs.Prelude.{slice_get}
use Rattle.orc_rules.specs.declared.value.Value.{Value}
use Rattle.orc_rules.specs.declared.param.Param.{Param}
use Rattle.orc_rules.specs.declared.param.Param.TheVariants.{Is, Cell, Void}
use Rattle.orc_rules.specs.declared.value.Answer.{Answer}
use Rattle.orc_rules.specs.declared.value.Answer.TheVariants.{Value as Gives, Halt}
use Rattle.orc_rules.specs.declared.entry.Entry.{Entry}
use Rattle.orc_rules.specs.declared.entry.Entry.TheVariants.{Fork, Seq, Other, Def, Open, Send, Call, Return, ReturnHalt, Bind, Lost, Right, Publish, Cancel}
use Rattle.orc_rules.specs.declared.entry.Entry.TheVariants as entry
use Rattle.orc_rules.specs.Term.{Term, param, site, call, par, seq, prune, other, opened, Definition, put, fill, put_all, values_of, Halted, answered}
use Rattle.orc_rules.specs.Step.{Act, calls, returns, binds, loses, publishes, silent, opens, IsInner, within, Step, value_rule, void_value, site_call, void_call, return_rule, def_rule, par_left, par_right, seq_other, seq_value, prune_open, prune_left, prune_right, prune_bind, prune_lost, other_step, other_value, other_halt}
use Rattle.orc_rules.specs.Marked.{Marked, ended, token, in_call, in_par, in_seq, in_opened, in_other, erase, fill_marked, Replaces, here, in_left, in_right, in_feeding, in_main, in_side, in_entered, Emits, emits, on_left, on_right, on_feeding, is_fed, on_main, on_side, is_bound, on_entered, passes}
use Rattle.orc_rules.specs.Timed.{Context, IsDue, IsTimely, CancelsAfter, does, calls_after, cells_after, used}
use Rattle.orc_rules.specs.Journal.{Place, moment, next, Acts, IsVoid, Enters, Journal, event_of}
use Rattle.orc_rules.specs.Lost.{IsSource, HoldsSource, TakesNext, IsMove, AreMoves, Makes, NothingLost, NoTickLost}
use Rattle.orc_rules.proofs.Lift.{within_all, erase-fill, within_all-inner, replaced_same, within_silent, within_opens, within_loses, within_returns, within_calls}

-- a move of marks of one part, with n as the next mark before it and n' after it
data Turn : Entry → ℕ → Marked → Marked → ℕ → Type 0 where
  fork_turn : {s n : ℕ} {f g : Term} → Turn (Fork s n (suc n)) n (token s (par f g)) (in_par (token n f) (token (suc n) g)) (suc (suc n))
  seq_turn : {s n z : ℕ} {f g : Term} → Turn (Seq s n) n (token s (seq f z g)) (in_seq (token n f) z g) (suc n)
  other_turn : {s n : ℕ} {f g : Term} → Turn (Other s n) n (token s (other f g)) (in_other s (token n f) g) (suc n)

-- moves of marks, one after another
data Turns : List Entry → ℕ → Marked → Marked → ℕ → Type 0 where
  none : {n : ℕ} {m : Marked} → Turns [] n m m n
  more : {e : Entry} {es : List Entry} {n n' n'' : ℕ} {y z m m' m'' : Marked} {cs : List ℕ} → Turn e n y z n' → Replaces y z m cs m' → Turns es n' m' m'' n'' → Turns (e ∷ es) n m m'' n''

-- inside a context
turns_left : {es : List Entry} {n n' : ℕ} {m m' : Marked} (g : Marked) → Turns es n m m' n' → Turns es n (in_par m g) (in_par m' g) n'
turns_left g none = none
turns_left g (more t r ts) = more t (in_left r) (turns_left g ts)

turns_right : {es : List Entry} {n n' : ℕ} {m m' : Marked} (f : Marked) → Turns es n m m' n' → Turns es n (in_par f m) (in_par f m') n'
turns_right f none = none
turns_right f (more t r ts) = more t (in_right r) (turns_right f ts)

turns_feeding : {es : List Entry} {n n' : ℕ} {m m' : Marked} (z : ℕ) (g : Term) → Turns es n m m' n' → Turns es n (in_seq m z g) (in_seq m' z g) n'
turns_feeding z g none = none
turns_feeding z g (more t r ts) = more t (in_feeding r) (turns_feeding z g ts)

turns_main : {es : List Entry} {n n' : ℕ} {m m' : Marked} (c : ℕ) (g : Marked) → Turns es n m m' n' → Turns es n (in_opened m c g) (in_opened m' c g) n'
turns_main c g none = none
turns_main c g (more t r ts) = more t (in_main r) (turns_main c g ts)

turns_side : {es : List Entry} {n n' : ℕ} {m m' : Marked} (c : ℕ) (f : Marked) → Turns es n m m' n' → Turns es n (in_opened f c m) (in_opened f c m') n'
turns_side c f none = none
turns_side c f (more t r ts) = more t (in_side r) (turns_side c f ts)

turns_entered : {es : List Entry} {n n' : ℕ} {m m' : Marked} (s : ℕ) (g : Term) → Turns es n m m' n' → Turns es n (in_other s m g) (in_other s m' g) n'
turns_entered s g none = none
turns_entered s g (more t r ts) = more t (in_entered r) (turns_entered s g ts)

module _ (x : Context) (p : Place) where
  -- one use of a rule in one part, with its entry and act
  data Local (n : ℕ) : Entry → Marked → Marked → Act → ℕ → Type 0 where
    def_here : {s e : ℕ} {ps : List Param} {d : Definition} → slice_get x.definitions e ≡ Some d → Local n (Def s n) (token s (call e ps)) (token n (put_all d.params ps d.body)) silent (suc n)
    void_here : {s : ℕ} {t : Term} → IsVoid t → Local n (entry.Void s) (token s t) ended silent n
    open_here : {s c z : ℕ} {f g : Term} → c ≡ next p.cells → Local n (Open s c n (suc n)) (token s (prune f z g)) (in_opened (token n (put (Cell c) z f)) c (token (suc n) g)) (opens c) (suc (suc n))
    call_here : {s k m : ℕ} {ps : List Param} {args : List Value} → k ≡ next p.calls → values_of ps ≡ Some args → Local n (Call s k m args) (token s (site m ps)) (in_call k) (calls k m args []) n
    return_here : {k : ℕ} {v : Value} → IsDue x.sites p.calls k (Gives v) p.now → Local n (Return k n v) (in_call k) (token n (param (Is v))) (returns k (Gives v)) (suc n)
    halt_here : {k : ℕ} → IsDue x.sites p.calls k Halt p.now → Local n (ReturnHalt k) (in_call k) ended (returns k Halt) n
    lost_here : {c : ℕ} {f g : Marked} → Halted (erase g) → Local n (Lost c) (in_opened f c g) (fill_marked Void c f) (loses c) n
    right_here : {s : ℕ} {f : Marked} {g : Term} → Halted (erase f) → Local n (Right s n) (in_other s f g) (token n g) silent (suc n)

  -- one use of a rule in the whole
  data Final (n : ℕ) : Entry → Marked → Marked → Act → ℕ → Type 0 where
    local : {e : Entry} {y z m m' : Marked} {a : Act} {n' : ℕ} {cs : List ℕ} → IsInner a → Local n e y z a n' → Replaces y z m cs m' → Final n e m m' (within_all cs a) n'
    sends : {s : ℕ} {v : Value} {m m' : Marked} → Emits s n v m silent m' → Final n (Send s n v) m m' silent (suc n)
    bound : {s c : ℕ} {v : Value} {m m' : Marked} → Emits s n v m (binds c v) m' → Final n (Bind s c v) m m' (binds c v) n
    published : {s : ℕ} {v : Value} {m m' : Marked} → Emits s n v m (publishes v) m' → Final n (Publish s v) m m' (publishes v) n

  -- moves of marks and then a rule
  record Does (n : ℕ) (m : Marked) (a : Act) (u : Term) : Type 0 where
    moves : List Entry
    entry : Entry
    mid : Marked
    end : Marked
    mark : ℕ
    last : ℕ
    turns : Turns moves n m mid mark
    final : Final mark entry mid end a last
    term : erase end ≡ u

  -- a use of a rule inside a context
  final_left : {n n' : ℕ} {e : Entry} {m m' : Marked} {a : Act} (g : Marked) → Final n e m m' a n' → Final n e (in_par m g) (in_par m' g) a n'
  final_left g (local i l r) = local i l (in_left r)
  final_left g (sends e) = sends (on_left e)
  final_left g (bound e) = bound (on_left e)
  final_left g (published e) = published (on_left e)

  final_right : {n n' : ℕ} {e : Entry} {m m' : Marked} {a : Act} (f : Marked) → Final n e m m' a n' → Final n e (in_par f m) (in_par f m') a n'
  final_right f (local i l r) = local i l (in_right r)
  final_right f (sends e) = sends (on_right e)
  final_right f (bound e) = bound (on_right e)
  final_right f (published e) = published (on_right e)

  final_main : {n n' : ℕ} {e : Entry} {m m' : Marked} {a : Act} (c : ℕ) (g : Marked) → Final n e m m' a n' → Final n e (in_opened m c g) (in_opened m' c g) a n'
  final_main c g (local i l r) = local i l (in_main r)
  final_main c g (sends e) = sends (on_main e)
  final_main c g (bound e) = bound (on_main e)
  final_main c g (published e) = published (on_main e)

  final_feeding : {n n' : ℕ} {e : Entry} {m m' : Marked} {a : Act} (z : ℕ) (g : Term) → IsInner a → Final n e m m' a n' → Final n e (in_seq m z g) (in_seq m' z g) a n'
  final_feeding z g i (local j l r) = local j l (in_feeding r)
  final_feeding z g i (sends e) = sends (on_feeding tt e)
  final_feeding z g i (bound e) = bound (on_feeding tt e)
  final_feeding z g i (published e) = elim i [ ]

  final_side : {n n' : ℕ} {e : Entry} {m m' : Marked} {a : Act} (c : ℕ) (f : Marked) → IsInner a → Final n e m m' a n' → Final n e (in_opened f c m) (in_opened f c m') (within c a) n'
  final_side c f i (local j l r) = local j l (in_side r)
  final_side c f i (sends e) = sends (on_side tt e)
  final_side c f i (bound e) = bound (on_side tt e)
  final_side c f i (published e) = elim i [ ]

  final_entered : {n n' : ℕ} {e : Entry} {m m' : Marked} {a : Act} (s : ℕ) (g : Term) → IsInner a → Final n e m m' a n' → Final n e (in_other s m g) (in_other s m' g) a n'
  final_entered s g i (local j l r) = local j l (in_entered r)
  final_entered s g i (sends e) = sends (on_entered tt e)
  final_entered s g i (bound e) = bound (on_entered tt e)
  final_entered s g i (published e) = elim i [ ]

  -- a publication of the whole is a token's
  record IsEmitted (n : ℕ) (m : Marked) (v : Value) (m' : Marked) : Type 0 where
    by : ℕ
    emitted : Emits by n v m (publishes v) m'

  abbrev value_of : Value → Act → Value
  value_of w (publishes v) = v
  value_of w _ = w

  final_emits : {n n' : ℕ} {e : Entry} {m m' : Marked} {a : Act} {v : Value} → Final n e m m' a n' → a ≡ publishes v → IsEmitted n m v m'
  final_emits {v = v} (local {cs = cs} i l r) same = absurd (subst IsInner same (within_all-inner cs _ i))
  final_emits (sends e) same = cc same
  final_emits (bound e) same = cc same
  final_emits {n = n} {m = m} {m' = m'} {v = v} (published {s = s} {v = w} e) same =
      let eq : w ≡ v = ap (value_of v) same in
      subst (λ y. IsEmitted n m y m') eq (record { by = s; emitted = e })

  -- what a part does, the whole does
  does_after : {e : Entry} {n n' : ℕ} {y z m m' : Marked} {cs : List ℕ} {a : Act} {u : Term} → Turn e n y z n' → Replaces y z m cs m' → Does n' m' a u → Does n m a u
  does_after {e = e} t r d =
      record { moves = e ∷ d.moves; entry = d.entry; mid = d.mid; end = d.end; mark = d.mark; last = d.last; turns = more t r d.turns; final = d.final; term = d.term }

  does_left : {n : ℕ} {m : Marked} {a : Act} {u : Term} (g : Marked) → Does n m a u → Does n (in_par m g) a (par u (erase g))
  does_left g d =
      record { moves = d.moves; entry = d.entry; mid = in_par d.mid g; end = in_par d.end g; mark = d.mark; last = d.last; turns = turns_left g d.turns; final = final_left g d.final; term = ap (λ t. par t (erase g)) d.term }

  does_right : {n : ℕ} {m : Marked} {a : Act} {u : Term} (f : Marked) → Does n m a u → Does n (in_par f m) a (par (erase f) u)
  does_right f d =
      record { moves = d.moves; entry = d.entry; mid = in_par f d.mid; end = in_par f d.end; mark = d.mark; last = d.last; turns = turns_right f d.turns; final = final_right f d.final; term = ap (λ t. par (erase f) t) d.term }

  does_main : {n : ℕ} {m : Marked} {a : Act} {u : Term} (c : ℕ) (g : Marked) → Does n m a u → Does n (in_opened m c g) a (opened u c (erase g))
  does_main c g d =
      record { moves = d.moves; entry = d.entry; mid = in_opened d.mid c g; end = in_opened d.end c g; mark = d.mark; last = d.last; turns = turns_main c g d.turns; final = final_main c g d.final; term = ap (λ t. opened t c (erase g)) d.term }

  does_side : {n : ℕ} {m : Marked} {a : Act} {u : Term} (c : ℕ) (f : Marked) → IsInner a → Does n m a u → Does n (in_opened f c m) (within c a) (opened (erase f) c u)
  does_side c f i d =
      record { moves = d.moves; entry = d.entry; mid = in_opened f c d.mid; end = in_opened f c d.end; mark = d.mark; last = d.last; turns = turns_side c f d.turns; final = final_side c f i d.final; term = ap (λ t. opened (erase f) c t) d.term }

  does_feeding : {n : ℕ} {m : Marked} {a : Act} {u : Term} (z : ℕ) (g : Term) → IsInner a → Does n m a u → Does n (in_seq m z g) a (seq u z g)
  does_feeding z g i d =
      record { moves = d.moves; entry = d.entry; mid = in_seq d.mid z g; end = in_seq d.end z g; mark = d.mark; last = d.last; turns = turns_feeding z g d.turns; final = final_feeding z g i d.final; term = ap (λ t. seq t z g) d.term }

  does_entered : {n : ℕ} {m : Marked} {a : Act} {u : Term} (s : ℕ) (g : Term) → IsInner a → Does n m a u → Does n (in_other s m g) a (other u g)
  does_entered s g i d =
      record { moves = d.moves; entry = d.entry; mid = in_other s d.mid g; end = in_other s d.end g; mark = d.mark; last = d.last; turns = turns_entered s g d.turns; final = final_entered s g i d.final; term = ap (λ t. other t g) d.term }

  -- a publication, and what takes it
  does_fed : {n : ℕ} {m : Marked} {v : Value} {u : Term} (z : ℕ) (g : Term) → Does n m (publishes v) u → Does n (in_seq m z g) silent (par (seq u z g) (put (Is v) z g))
  does_fed {v = v} z g d =
      let e = final_emits d.final refl in
      record { moves = d.moves; entry = Send e.by d.mark v; mid = in_seq d.mid z g; end = in_par (in_seq d.end z g) (token d.mark (put (Is v) z g)); mark = d.mark; last = suc d.mark; turns = turns_feeding z g d.turns; final = sends (is_fed e.emitted); term = ap (λ t. par (seq t z g) (put (Is v) z g)) d.term }

  does_pass : {n : ℕ} {m : Marked} {v : Value} {u : Term} (s : ℕ) (g : Term) → Does n m (publishes v) u → Does n (in_other s m g) (publishes v) u
  does_pass {v = v} s g d =
      let e = final_emits d.final refl in
      record { moves = d.moves; entry = Publish e.by v; mid = in_other s d.mid g; end = d.end; mark = d.mark; last = d.mark; turns = turns_entered s g d.turns; final = published (passes e.emitted); term = d.term }

  does_bind : {n : ℕ} {m : Marked} {v : Value} {u : Term} (c : ℕ) (f : Marked) → Does n m (publishes v) u → Does n (in_opened f c m) (binds c v) (fill (Is v) c (erase f))
  does_bind {v = v} c f d =
      let e = final_emits d.final refl in
      record { moves = d.moves; entry = Bind e.by c v; mid = in_opened f c d.mid; end = fill_marked (Is v) c f; mark = d.mark; last = d.mark; turns = turns_side c f d.turns; final = bound (is_bound e.emitted); term = erase-fill (Is v) c f }

  -- one rule at the whole
  does_here : {e : Entry} {n n' : ℕ} {m m' : Marked} {a : Act} {u : Term} → IsInner a → Local n e m m' a n' → erase m' ≡ u → Does n m a u
  does_here {e = e} {n = n} {n' = n'} {m = m} {m' = m'} i l t =
      record { moves = []; entry = e; mid = m; end = m'; mark = n; last = n'; turns = none; final = local i l here; term = t }

  -- what is under a token's mark
  token_does : {t u : Term} {a : Act} (s n : ℕ) → Step x.definitions (used (moment p)) t a u → IsSource t → TakesNext p a → IsTimely x.sites (moment p) a → Does n (token s t) a u
  token_does s n (value_rule {v = v}) src next timely =
      record { moves = []; entry = Publish s v; mid = token s (param (Is v)); end = ended; mark = n; last = n; turns = none; final = published emits; term = refl }
  token_does s n void_value src next timely = does_here tt (void_here refl) refl
  token_does s n (site_call is new) src next timely = does_here tt (call_here next is) refl
  token_does s n (void_call is) src next timely = does_here tt (void_here is) refl
  token_does s n return_rule src next timely = elim src [ ]
  token_does s n (def_rule is) src next timely = does_here tt (def_here is) refl
  token_does s n (par_left {g = g} d) src next timely =
      does_after fork_turn here (does_left (token (suc n) g) (token_does n (suc (suc n)) d src.0 next timely))
  token_does s n (par_right {f = f} d) src next timely =
      does_after fork_turn here (does_right (token n f) (token_does (suc n) (suc (suc n)) d src.1 next timely))
  token_does s n (seq_other {g = g} {x = z} i d) src next timely =
      does_after seq_turn here (does_feeding z g i (token_does n (suc n) d src.0 next timely))
  token_does s n (seq_value {g = g} {x = z} d) src next timely =
      does_after seq_turn here (does_fed z g (token_does n (suc n) d src.0 tt tt))
  token_does s n (prune_open new) src next timely = does_here tt (open_here next) refl
  token_does s n (prune_left d) src next timely = elim src [ ]
  token_does s n (prune_right i d) src next timely = elim src [ ]
  token_does s n (prune_bind d) src next timely = elim src [ ]
  token_does s n (prune_lost h) src next timely = elim src [ ]
  token_does s n (other_step {g = g} i d) src next timely =
      does_after other_turn here (does_entered s g i (token_does n (suc n) d src.0 next timely))
  token_does s n (other_value {g = g} d) src next timely =
      does_after other_turn here (does_pass s g (token_does n (suc n) d src.0 tt tt))
  token_does s n (other_halt h) src next timely = does_after other_turn here (does_here tt (right_here h) refl)

  within_takes : (c : ℕ) (a : Act) → TakesNext p (within c a) → TakesNext p a
  within_takes c (calls k m args cs) t = t
  within_takes c (returns k a) t = t
  within_takes c (binds d v) t = t
  within_takes c (loses d) t = t
  within_takes c (publishes v) t = t
  within_takes c silent t = t
  within_takes c (opens d) t = t

  within_timely : (c : ℕ) (a : Act) → IsTimely x.sites (moment p) (within c a) → IsTimely x.sites (moment p) a
  within_timely c (calls k m args cs) t = t
  within_timely c (returns k a) t = t
  within_timely c (binds d v) t = t
  within_timely c (loses d) t = t
  within_timely c (publishes v) t = t
  within_timely c silent t = t
  within_timely c (opens d) t = t

  -- what a pending call's answer leaves
  answer_does : (k : ℕ) (a : Answer) (n : ℕ) → IsDue x.sites p.calls k a p.now → Does n (in_call k) (returns k a) (answered a)
  answer_does k (Gives v) n due = does_here tt (return_here due) refl
  answer_does k Halt n due = does_here tt (halt_here due) refl

  -- what a marked term's plain one does
  marked_does : (m : Marked) (n : ℕ) {u : Term} {a : Act} → Step x.definitions (used (moment p)) (erase m) a u → HoldsSource m → TakesNext p a → IsTimely x.sites (moment p) a → Does n m a u
  marked_does (token s t) n d src next timely = token_does s n d src next timely
  marked_does ended n d src next timely = elim d [ ]
  marked_does (in_call k) n (return_rule {a = b}) src next timely = answer_does k b n timely
  marked_does (in_par f g) n (par_left d) src next timely = does_left g (marked_does f n d src.0 next timely)
  marked_does (in_par f g) n (par_right d) src next timely = does_right f (marked_does g n d src.1 next timely)
  marked_does (in_seq f z g) n (seq_other i d) src next timely = does_feeding z g i (marked_does f n d src.0 next timely)
  marked_does (in_seq f z g) n (seq_value d) src next timely = does_fed z g (marked_does f n d src.0 tt tt)
  marked_does (in_opened f c g) n (prune_left d) src next timely = does_main c g (marked_does f n d src.0 next timely)
  marked_does (in_opened f c g) n (prune_right {a = b} i d) src next timely =
      does_side c f i (marked_does g n d src.1 (within_takes c b next) (within_timely c b timely))
  marked_does (in_opened f c g) n (prune_bind d) src next timely = does_bind c f (marked_does g n d src.1 tt tt)
  marked_does (in_opened f c g) n (prune_lost h) src next timely = does_here tt (lost_here h) (erase-fill Void c f)
  marked_does (in_other s f g) n (other_step i d) src next timely = does_entered s g i (marked_does f n d src.0 next timely)
  marked_does (in_other s f g) n (other_value d) src next timely = does_pass s g (marked_does f n d src.0 tt tt)
  marked_does (in_other s f g) n (other_halt h) src next timely = does_here tt (right_here h) refl

  turn_same : {e : Entry} {n n' : ℕ} {y z : Marked} → Turn e n y z n' → erase y ≡ erase z
  turn_same fork_turn = refl
  turn_same seq_turn = refl
  turn_same other_turn = refl

  turns_same : {es : List Entry} {n n' : ℕ} {m m' : Marked} → Turns es n m m' n' → erase m ≡ erase m'
  turns_same none = refl
  turns_same (more t r ts) = replaced_same x.definitions (used (moment p)) (turn_same t) r ∙ turns_same ts

  turn_moves : {e : Entry} {n n' : ℕ} {y z : Marked} → Turn e n y z n' → IsMove e
  turn_moves fork_turn = tt
  turn_moves seq_turn = tt
  turn_moves other_turn = tt

  turns_move : {es : List Entry} {n n' : ℕ} {m m' : Marked} → Turns es n m m' n' → AreMoves es
  turns_move none = tt
  turns_move (more t r ts) = (turn_moves t, turns_move ts)

  -- the place with other marks
  abbrev marked_as : Marked → ℕ → Place
  marked_as m n = record p { marked = m; mark = n }

  turn_enters : {e : Entry} {n n' : ℕ} {y z m m' : Marked} {cs : List ℕ} → Turn e n y z n' → Replaces y z m cs m' → Enters x (marked_as m n) e (marked_as m' n')
  turn_enters fork_turn r = (_, _, refl, refl, record { inside = _; part = r; same = refl })
  turn_enters seq_turn r = (_, _, _, refl, record { inside = _; part = r; same = refl })
  turn_enters other_turn r = (_, _, refl, record { inside = _; part = r; same = refl })

  turns_journal : {es : List Entry} {n n' : ℕ} {m m' : Marked} → p.to_cancel ≡ [] → Turns es n m m' n' → Journal x (marked_as m n) es (marked_as m' n')
  turns_journal o none = refl
  turns_journal o (more {n' = n'} {m' = m'} t r ts) = (marked_as m' n', (inr o, turn_enters t r), turns_journal o ts)

  -- where an entry leads that uses a rule
  abbrev after : Marked → ℕ → Marked → ℕ → Act → List ℕ → Place
  after m n m' n' a to_cancel = record { marked = m'; mark = n'; now = p.now; calls = calls_after (moment (marked_as m n)) a; cells = cells_after (moment (marked_as m n)) a; to_cancel = to_cancel }

  local_enters : {e : Entry} {n n' : ℕ} {y z m : Marked} {a : Act} {cs : List ℕ} (q : Place) → Local n e y z a n' → Replaces y z m cs q.marked → Acts x (marked_as m n) (within_all cs a) n' q → Enters x (marked_as m n) e q
  local_enters {n = n} {m = m} {cs = cs} q (def_here is) r acts =
      (_, _, _, cs, refl, is, r, subst (λ b. Acts x (marked_as m n) b (suc n) q) (within_silent cs) acts)
  local_enters {n = n} {m = m} {cs = cs} q (void_here is) r acts =
      (_, cs, is, r, subst (λ b. Acts x (marked_as m n) b n q) (within_silent cs) acts)
  local_enters {n = n} {m = m} {cs = cs} q (open_here {c = c} is) r acts =
      (_, _, _, cs, is, refl, refl, r, subst (λ b. Acts x (marked_as m n) b (suc (suc n)) q) (within_opens cs c) acts)
  local_enters {n = n} {m = m} {cs = cs} q (call_here {k = k} {m = name} {args = args} ek is) r acts =
      (_, cs, ek, is, r, subst (λ b. Acts x (marked_as m n) b n q) (within_calls cs k name args) acts)
  local_enters {n = n} {m = m} {cs = cs} q (return_here {k = k} {v = v} due) r acts =
      (cs, refl, due, r, subst (λ b. Acts x (marked_as m n) b (suc n) q) (within_returns cs k (Gives v)) acts)
  local_enters {n = n} {m = m} {cs = cs} q (halt_here {k = k} due) r acts =
      (cs, due, r, subst (λ b. Acts x (marked_as m n) b n q) (within_returns cs k Halt) acts)
  local_enters {n = n} {m = m} {cs = cs} q (lost_here {c = c} h) r acts =
      (_, _, cs, h, r, subst (λ b. Acts x (marked_as m n) b n q) (within_loses cs c) acts)
  local_enters {n = n} {m = m} {cs = cs} q (right_here h) r acts =
      (_, _, cs, refl, h, r, subst (λ b. Acts x (marked_as m n) b (suc n) q) (within_silent cs) acts)

  final_enters : {e : Entry} {n n' : ℕ} {m m' : Marked} {a : Act} (q : Place) → Final n e m m' a n' → m' ≡ q.marked → Acts x (marked_as m n) a n' q → Enters x (marked_as m n) e q
  final_enters {m = m} q (local {y = y} {z = z} {cs = cs} i l r) same acts =
      local_enters q l (subst (λ w. Replaces y z m cs w) same r) acts
  final_enters {n = n} {m = m} q (sends {s = s} {v = v} e) same acts = (refl, subst (λ w. Emits s n v m silent w) same e, acts)
  final_enters {n = n} {m = m} q (bound {s = s} {c = c} {v = v} e) same acts = (subst (λ w. Emits s n v m (binds c v) w) same e, acts)
  final_enters {n = n} {m = m} q (published {s = s} {v = v} e) same acts = (subst (λ w. Emits s n v m (publishes v) w) same e, acts)

  -- the entry names the act
  local_event : {e : Entry} {n n' : ℕ} {y z : Marked} {a : Act} (cs : List ℕ) → Local n e y z a n' → event_of e cs ≡ Some (does (within_all cs a))
  local_event cs (def_here is) = ap (λ b. Some (does b)) (sym (within_silent cs))
  local_event cs (void_here is) = ap (λ b. Some (does b)) (sym (within_silent cs))
  local_event cs (open_here {c = c} is) = ap (λ b. Some (does b)) (sym (within_opens cs c))
  local_event cs (call_here {k = k} {m = m} {args = args} ek is) = ap (λ b. Some (does b)) (sym (within_calls cs k m args))
  local_event cs (return_here {k = k} {v = v} due) = ap (λ b. Some (does b)) (sym (within_returns cs k (Gives v)))
  local_event cs (halt_here {k = k} due) = ap (λ b. Some (does b)) (sym (within_returns cs k Halt))
  local_event cs (lost_here {c = c} h) = ap (λ b. Some (does b)) (sym (within_loses cs c))
  local_event cs (right_here h) = ap (λ b. Some (does b)) (sym (within_silent cs))

  final_event : {e : Entry} {n n' : ℕ} {m m' : Marked} {a : Act} → Final n e m m' a n' → (cs : List ℕ) × (event_of e cs ≡ Some (does a))
  final_event (local {cs = cs} i l r) = (cs, local_event cs l)
  final_event (sends e) = ([], refl)
  final_event (bound e) = ([], refl)
  final_event (published e) = ([], refl)

  cancels_journal : (q : Place) (to_cancel : List ℕ) → q.to_cancel ≡ to_cancel → Journal x q (map Cancel to_cancel) (record q { to_cancel = [] })
  cancels_journal q [] e = λ i. record q { to_cancel = e i }
  cancels_journal q (k ∷ ks) e = (record q { to_cancel = ks }, (inl tt, (e, refl)), cancels_journal (record q { to_cancel = ks }) ks refl)

  calls_alike : (m : Marked) (n : ℕ) (a : Act) → calls_after (moment (marked_as m n)) a ≡ calls_after (moment p) a
  calls_alike m n (calls k name args cs) = refl
  calls_alike m n (returns k v) = refl
  calls_alike m n (binds c v) = refl
  calls_alike m n (loses c) = refl
  calls_alike m n (publishes v) = refl
  calls_alike m n silent = refl
  calls_alike m n (opens c) = refl

  cells_alike : (m : Marked) (n : ℕ) (a : Act) → cells_after (moment (marked_as m n)) a ≡ cells_after (moment p) a
  cells_alike m n (calls k name args cs) = refl
  cells_alike m n (returns k v) = refl
  cells_alike m n (binds c v) = refl
  cells_alike m n (loses c) = refl
  cells_alike m n (publishes v) = refl
  cells_alike m n silent = refl
  cells_alike m n (opens c) = refl

  made : {u : Term} {a : Act} (to_cancel : List ℕ) → p.to_cancel ≡ [] → CancelsAfter x a (erase p.marked) u to_cancel → Does p.mark p.marked a u → Makes x p a u to_cancel
  made {u = u} {a = a} to_cancel o will d =
      let q = after d.mid d.mark d.end d.last a to_cancel in
      let t = turns_same d.turns in
      let will' = subst (λ w. CancelsAfter x a (erase d.mid) w to_cancel) (sym d.term) (subst (λ w. CancelsAfter x a w u to_cancel) t will) in
      record {
        moves = d.moves;
        are_moves = turns_move d.turns;
        entry = d.entry;
        inside = (final_event d.final).0;
        shows = (final_event d.final).1;
        mid = marked_as d.mid d.mark;
        end = q;
        moved = turns_journal o d.turns;
        leads = (inr o, final_enters q d.final refl (record { to_cancel = will'; same = refl }));
        term = d.term;
        now = refl;
        calls = calls_alike d.mid d.mark a;
        cells = cells_alike d.mid d.mark a;
        leaves = refl;
        cancelled = cancels_journal q to_cancel refl;
      }

pub nothing_lost : NothingLost
nothing_lost x p a u to_cancel src o next timely step will =
    made x p to_cancel o will (marked_does x p p.marked p.mark step src next timely)

pub no_tick_lost : NoTickLost
no_tick_lost x p t free tick = (inr free, (tick, refl))
