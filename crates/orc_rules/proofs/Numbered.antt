-- Each entry keeps the numbers in order.
use Rattle.std.proofs.Common.{◌≡◌, ◌<◌, ◌≤◌, ◌+◌, ℕ, zero, suc, List, [], ◌∷◌, length, map, refl, sym, ap, ◌∙◌, subst, inl, inr, ◌⊎◌, ⊎_elim, Bool, true, false, arith}
use Rattle.std.specs.Prelude.{cond}
use Rattle.std.proofs.lemmas.Bool.{eq-eqb, eqb-true}
use Rattle.std.proofs.lemmas.List.{length-map}
use Rattle.orc_rules.specs.declared.value.Value.{Value}
use Rattle.orc_rules.specs.declared.param.Param.{Param}
use Rattle.orc_rules.specs.declared.param.Param.TheVariants.{Is, Void}
use Rattle.orc_rules.specs.declared.value.Answer.TheVariants.{Value as Gives, Halt}
use Rattle.orc_rules.specs.declared.entry.Entry.{Entry}
use Rattle.orc_rules.specs.declared.entry.Entry.TheVariants.{End, Fork, Seq, Other, Def, Open, Send, Call, Return, ReturnHalt, Bind, Lost, Right, Publish, Tick, Cancel}
use Rattle.orc_rules.specs.declared.entry.Entry.TheVariants as entry
use Rattle.orc_rules.specs.Term.{Term}
use Rattle.orc_rules.specs.Step.{Act, calls, returns, binds, loses, publishes, silent, opens, within}
use Rattle.orc_rules.specs.Marked.{Marked, ended, token, in_call, in_par, in_seq, in_opened, in_other, fill_marked, Replaces, here, in_left, in_right, in_feeding, in_main, in_side, in_entered, Emits, emits, on_left, on_right, on_feeding, is_fed, on_main, on_side, is_bound, on_entered, passes}
use Rattle.orc_rules.specs.Timed.{Context, IsIn, number_of, calls_after, cells_after}
use Rattle.orc_rules.specs.Journal.{Place, moment, next, Moves, Acts, Enters, Journal, begin}
use Rattle.orc_rules.specs.Numbered.{Name, mark, call, cell, name_eq, once, times, IsGiven, AreCounted, IsNumbered, JournalIsNumbered}

-- one name and another: the same, or not
pub name_is : (n m : Name) → ((n ≡ m) × (name_eq n m ≡ true)) ⊎ ((n ≡ m → ⊥) × (name_eq n m ≡ false))
name_is n m = by_test n m (name_eq n m) refl
  where
    same : (n m : Name) → name_eq n m ≡ true → n ≡ m
    same (mark s) (mark r) h = ap mark (eqb-true s r h)
    same (call s) (call r) h = ap call (eqb-true s r h)
    same (cell s) (cell r) h = ap cell (eqb-true s r h)
    same (mark s) (call r) h = cc h
    same (mark s) (cell r) h = cc h
    same (call s) (mark r) h = cc h
    same (call s) (cell r) h = cc h
    same (cell s) (mark r) h = cc h
    same (cell s) (call r) h = cc h

    itself : (n : Name) → name_eq n n ≡ true
    itself (mark s) = eq-eqb s s refl
    itself (call s) = eq-eqb s s refl
    itself (cell s) = eq-eqb s s refl

    by_test : (n m : Name) (b : Bool) → name_eq n m ≡ b → ((n ≡ m) × (name_eq n m ≡ true)) ⊎ ((n ≡ m → ⊥) × (name_eq n m ≡ false))
    by_test n m true h = inl (same n m h, h)
    by_test n m false h = inr (λ e. cc (itself n, ap (name_eq n) e, h), h)

pub once_same : (n m : Name) → n ≡ m → once n m ≡ 1
once_same n m e = ⊎_elim (λ y. ap (λ b. cond b 1 0) y.1) (λ y. absurd (y.0 e)) (name_is n m)

pub once_other : (n m : Name) → (n ≡ m → ⊥) → once n m ≡ 0
once_other n m h = ⊎_elim (λ y. absurd (h y.0)) (λ y. ap (λ b. cond b 1 0) y.1) (name_is n m)

pub once_least : (n m : Name) → once n m ≤ 1
once_least n m = ⊎_elim (λ y. omega (arith, once_same n m y.0)) (λ y. omega (arith, once_other n m y.0)) (name_is n m)

-- two names that differ
pub once_apart : (n a b : Name) → (a ≡ b → ⊥) → once n a + once n b ≤ 1
once_apart n a b h =
    ⊎_elim (λ y. omega (arith, once_least n a, once_other n b (λ e. h (sym y.0 ∙ e)))) (λ y. omega (arith, once_least n b, once_other n a y.0)) (name_is n a)

-- filling a cell leaves the names
pub times_filled : (n : Name) (w : Param) (c : ℕ) (m : Marked) → times n (fill_marked w c m) ≡ times n m
times_filled n w c ended = refl
times_filled n w c (token s t) = refl
times_filled n w c (in_call k) = refl
times_filled n w c (in_par f g) = λ i. times_filled n w c f i + times_filled n w c g i
times_filled n w c (in_seq f x g) = times_filled n w c f
times_filled n w c (in_opened f d g) = λ i. once n (cell d) + (times_filled n w c f i + times_filled n w c g i)
times_filled n w c (in_other s f g) = λ i. once n (mark s) + times_filled n w c f i

-- the names of x go, those of y come
pub times_replaced : {x y m m' : Marked} {cs : List ℕ} (n : Name) → Replaces x y m cs m' → times n m' + times n x ≡ times n m + times n y
times_replaced n here = omega arith
times_replaced n (in_left r) = omega (arith, times_replaced n r)
times_replaced n (in_right r) = omega (arith, times_replaced n r)
times_replaced n (in_feeding r) = times_replaced n r
times_replaced n (in_main r) = omega (arith, times_replaced n r)
times_replaced n (in_side r) = omega (arith, times_replaced n r)
times_replaced n (in_entered r) = omega (arith, times_replaced n r)

-- a part has no more names than the whole
pub times_part : {x y m m' : Marked} {cs : List ℕ} (n : Name) → Replaces x y m cs m' → times n x ≤ times n m
times_part n here = omega arith
times_part n (in_left r) = omega (arith, times_part n r)
times_part n (in_right r) = omega (arith, times_part n r)
times_part n (in_feeding r) = times_part n r
times_part n (in_main r) = omega (arith, times_part n r)
times_part n (in_side r) = omega (arith, times_part n r)
times_part n (in_entered r) = omega (arith, times_part n r)

-- the mark that a publication brings: one where a `>x>` takes it
abbrev pub brings : Name → ℕ → Act → ℕ
brings n a silent = once n (mark a)
brings n a _ = 0

brings_within : (n : Name) (a c : ℕ) (b : Act) → brings n a (within c b) ≡ brings n a b
brings_within n a c (calls k m args cs) = refl
brings_within n a c (returns k v) = refl
brings_within n a c (binds d v) = refl
brings_within n a c (loses d) = refl
brings_within n a c (publishes v) = refl
brings_within n a c silent = refl
brings_within n a c (opens d) = refl

-- the cell that it settles
abbrev settles : Name → Act → ℕ
settles n (binds c v) = once n (cell c)
settles n _ = 0

settles_within : (n : Name) (c : ℕ) (b : Act) → settles n (within c b) ≡ settles n b
settles_within n c (calls k m args cs) = refl
settles_within n c (returns k v) = refl
settles_within n c (binds d v) = refl
settles_within n c (loses d) = refl
settles_within n c (publishes v) = refl
settles_within n c silent = refl
settles_within n c (opens d) = refl

-- a publication uses up its token, and the cell that it settles
pub times_emitted : {s a : ℕ} {v : Value} {m m' : Marked} {b : Act} (n : Name) → Emits s a v m b m' → times n m' + (once n (mark s) + settles n b) ≤ times n m + brings n a b
times_emitted n emits = omega arith
times_emitted n (on_left e) = omega (arith, times_emitted n e)
times_emitted n (on_right e) = omega (arith, times_emitted n e)
times_emitted n (on_feeding i e) = times_emitted n e
times_emitted n (is_fed e) = omega (arith, times_emitted n e)
times_emitted n (on_main e) = omega (arith, times_emitted n e)
times_emitted {a = a} n (on_side {c = c} {b = b} i e) = omega (arith, times_emitted n e, brings_within n a c b, settles_within n c b)
times_emitted {v = v} n (is_bound {f = f} {c = c} e) = omega (arith, times_emitted n e, times_filled n (Is v) c f)
times_emitted n (on_entered i e) = omega (arith, times_emitted n e)
times_emitted n (passes e) = omega (arith, times_emitted n e)

-- a name stands no more often than before, or it is a new one
abbrev pub Grows : Place → Place → Name → Type 0
Grows p q n = (times n q.marked ≤ times n p.marked) ⊎ ((times n q.marked ≤ suc (times n p.marked)) × IsGiven q n × (IsGiven p n → ⊥))

one_new : (p q : Place) (n m : Name) → times n q.marked ≤ times n p.marked + once n m → IsGiven q m → (IsGiven p m → ⊥) → Grows p q n
one_new p q n m le g out =
    ⊎_elim (λ y. inr (omega (arith, le, once_least n m), subst (IsGiven q) (sym y.0) g, λ i. out (subst (IsGiven p) y.0 i))) (λ y. inl (omega (arith, le, once_other n m y.0))) (name_is n m)

two_new : (p q : Place) (n m o : Name) → times n q.marked ≤ times n p.marked + (once n m + once n o) → (m ≡ o → ⊥) → IsGiven q m → (IsGiven p m → ⊥) → IsGiven q o → (IsGiven p o → ⊥) → Grows p q n
two_new p q n m o le apart gm nm go out =
    ⊎_elim (λ y. inr (omega (arith, le, once_apart n m o apart), subst (IsGiven q) (sym y.0) gm, λ i. nm (subst (IsGiven p) y.0 i))) (λ y. one_new p q n o (omega (arith, le, once_other n m y.0)) go out) (name_is n m)

abbrev pub index : Name → ℕ
index (mark s) = s
index (call k) = k
index (cell c) = c

one_mark : (p q : Place) (n : Name) (a : ℕ) → a ≡ p.mark → q.mark ≡ suc a → times n q.marked ≤ times n p.marked + once n (mark a) → Grows p q n
one_mark p q n a ea eq le = one_new p q n (mark a) le (omega (arith, eq)) (λ i. omega (arith, i, ea))

two_marks : (p q : Place) (n : Name) (a b : ℕ) → a ≡ p.mark → b ≡ suc a → q.mark ≡ suc b → times n q.marked ≤ times n p.marked + (once n (mark a) + once n (mark b)) → Grows p q n
two_marks p q n a b ea eb eq le =
    two_new p q n (mark a) (mark b) le (λ e. let w : a ≡ b = ap index e in omega (arith, w, eb)) (omega (arith, eq, eb)) (λ i. omega (arith, i, ea)) (omega (arith, eq)) (λ i. omega (arith, i, ea, eb))

-- the new numbers of a step are the next ones
abbrev TakesNext : Place → Act → Type 0
TakesNext p (calls k m args cs) = k ≡ next p.calls
TakesNext p (opens c) = c ≡ next p.cells
TakesNext p _ = Unit {0}

calls_counted : (p : Place) (a : Act) → TakesNext p a → AreCounted (map number_of p.calls) → AreCounted (map number_of (calls_after (moment p) a))
calls_counted p (calls k m args cs) t h = (omega (arith, t, length-map p.calls number_of), h)
calls_counted p (returns k v) t h = h
calls_counted p (binds c v) t h = h
calls_counted p (loses c) t h = h
calls_counted p (publishes v) t h = h
calls_counted p silent t h = h
calls_counted p (opens c) t h = h

cells_counted : (p : Place) (a : Act) → TakesNext p a → AreCounted p.cells → AreCounted (cells_after (moment p) a)
cells_counted p (opens c) t h = (t, h)
cells_counted p (calls k m args cs) t h = h
cells_counted p (returns k v) t h = h
cells_counted p (binds c v) t h = h
cells_counted p (loses c) t h = h
cells_counted p (publishes v) t h = h
cells_counted p silent t h = h

calls_kept : (p : Place) (a : Act) (k : ℕ) → IsIn k (map number_of p.calls) → IsIn k (map number_of (calls_after (moment p) a))
calls_kept p (calls j m args cs) k h = inr h
calls_kept p (returns j v) k h = h
calls_kept p (binds c v) k h = h
calls_kept p (loses c) k h = h
calls_kept p (publishes v) k h = h
calls_kept p silent k h = h
calls_kept p (opens c) k h = h

cells_kept : (p : Place) (a : Act) (c : ℕ) → IsIn c p.cells → IsIn c (cells_after (moment p) a)
cells_kept p (opens d) c h = inr h
cells_kept p (calls k m args cs) c h = h
cells_kept p (returns k v) c h = h
cells_kept p (binds d v) c h = h
cells_kept p (loses d) c h = h
cells_kept p (publishes v) c h = h
cells_kept p silent c h = h

-- the numbers after an act
pub record Counts (p : Place) (a : Act) (q : Place) : Type 0 where
  marks : p.mark ≤ q.mark
  next : TakesNext p a
  calls : q.calls ≡ calls_after (moment p) a
  cells : q.cells ≡ cells_after (moment p) a

pub given_later : (p q : Place) (a : Act) → Counts p a q → (n : Name) → IsGiven p n → IsGiven q n
given_later p q a c (mark s) g = omega (arith, g, c.marks)
given_later p q a c (call k) g = subst (λ l. IsIn k (map number_of l)) (sym c.calls) (calls_kept p a k g)
given_later p q a c (cell d) g = subst (IsIn d) (sym c.cells) (cells_kept p a d g)

numbered_by : (p q : Place) (a : Act) → Counts p a q → ((n : Name) → Grows p q n) → IsNumbered p → IsNumbered q
numbered_by p q a c grows num = record {
  single = λ n. ⊎_elim (λ le. omega (arith, le, num.single n)) (λ y. omega (arith, y.0, none n y.2)) (grows n);
  given = λ n lt. ⊎_elim (λ le. given_later p q a c n (num.given n (omega (arith, le, lt)))) (λ y. y.1) (grows n);
  calls = subst (λ l. AreCounted (map number_of l)) (sym c.calls) (calls_counted p a c.next num.calls);
  cells = subst AreCounted (sym c.cells) (cells_counted p a c.next num.cells);
}
  where
    zero_or : (m : ℕ) → (m ≡ 0) ⊎ (0 < m)
    zero_or zero = inl refl
    zero_or (suc m) = inr (omega arith)

    none : (n : Name) → (IsGiven p n → ⊥) → times n p.marked ≡ 0
    none n out = ⊎_elim (λ e. e) (λ lt. absurd (out (num.given n lt))) (zero_or (times n p.marked))

moves_counts : (p q : Place) (y z : Marked) (new : ℕ) → p.mark ≤ new → Moves p y z new q → Counts p silent q
moves_counts p q y z new le m = record { marks = subst (λ w. p.mark ≤ w) (sym (ap (λ (r : Place). r.mark) m.same)) le; next = tt; calls = ap (λ (r : Place). r.calls) m.same; cells = ap (λ (r : Place). r.cells) m.same }

acts_counts : (x : Context) (p q : Place) (a : Act) (new : ℕ) → p.mark ≤ new → TakesNext p a → Acts x p a new q → Counts p a q
acts_counts x p q a new le t m = record { marks = subst (λ w. p.mark ≤ w) (sym (ap (λ (r : Place). r.mark) m.same)) le; next = t; calls = ap (λ (r : Place). r.calls) m.same; cells = ap (λ (r : Place). r.cells) m.same }

abbrev mark_of : Place → ℕ
mark_of r = r.mark

pub next_not : {X : Type 0} (us : List X) (ns : List ℕ) (n : ℕ) → n ≡ suc (length ns) → AreCounted ns → IsIn n ns → ⊥
next_not us [] n e c i = elim i [ ]
next_not us (m ∷ ms) n e c (inl s) = omega (arith, s, e, c.0)
next_not us (m ∷ ms) n e c (inr i) = below ms n (omega (arith, e)) c.1 i
  where
    below : (ns : List ℕ) (n : ℕ) → length ns < n → AreCounted ns → IsIn n ns → ⊥
    below [] n lt c i = elim i [ ]
    below (m ∷ ms) n lt c (inl s) = omega (arith, s, lt, c.0)
    below (m ∷ ms) n lt c (inr i) = below ms n (omega (arith, lt)) c.1 i

-- what an entry does to the numbers
pub record Steps (p q : Place) : Type 0 where
  pub act : Act
  pub counts : Counts p act q
  pub grows : (n : Name) → Grows p q n

steps : (p q : Place) (a : Act) → Counts p a q → ((n : Name) → Grows p q n) → Steps p q
steps p q a c g = record { act = a; counts = c; grows = g }

still : (p q : Place) → q.mark ≡ p.mark → q.calls ≡ p.calls → q.cells ≡ p.cells → q.marked ≡ p.marked → Steps p q
still p q em ec el same = steps p q silent (record { marks = omega (arith, em); next = tt; calls = ec; cells = el }) (λ n. inl (omega (arith, ap (times n) same)))

pub entered_steps : (x : Context) (p : Place) (e : Entry) (q : Place) → Enters x p e q → IsNumbered p → Steps p q
entered_steps x p (End s) q h num =
    steps p q silent (moves_counts p q _ _ _ (omega arith) h) (λ n. inl (omega (arith, times_replaced n h.part)))
entered_steps x p (Fork s a b) q (f, g, ea, eb, h) num =
    steps p q silent (moves_counts p q _ _ _ (omega (arith, ea, eb)) h) (λ n. two_marks p q n a b ea eb (ap mark_of h.same) (omega (arith, times_replaced n h.part)))
entered_steps x p (Seq s a) q (f, g, z, ea, h) num =
    steps p q silent (moves_counts p q _ _ _ (omega (arith, ea)) h) (λ n. one_mark p q n a ea (ap mark_of h.same) (omega (arith, times_replaced n h.part)))
entered_steps x p (Other s a) q (f, g, ea, h) num =
    steps p q silent (moves_counts p q _ _ _ (omega (arith, ea)) h) (λ n. one_mark p q n a ea (ap mark_of h.same) (omega (arith, times_replaced n h.part)))
entered_steps x p (Def s a) q (e, ps, d, cs, ea, is, r, h) num =
    steps p q silent (acts_counts x p q _ _ (omega (arith, ea)) tt h) (λ n. one_mark p q n a ea (ap mark_of h.same) (omega (arith, times_replaced n r)))
entered_steps x p (entry.Void s) q (t, cs, is, r, h) num =
    steps p q silent (acts_counts x p q _ _ (omega arith) tt h) (λ n. inl (omega (arith, times_replaced n r)))
entered_steps x p (Open s c a b) q (f, g, z, cs, ec, ea, eb, r, h) num =
    steps p q (opens c) (acts_counts x p q _ _ (omega (arith, ea, eb)) ec h) (λ n. opened_grows n (omega (arith, times_replaced n r)))
  where
    opened_grows : (n : Name) → times n q.marked ≤ times n p.marked + (once n (cell c) + (once n (mark a) + once n (mark b))) → Grows p q n
    opened_grows (mark s) le = two_marks p q (mark s) a b ea eb (ap mark_of h.same) (omega (arith, le))
    opened_grows (cell d) le = one_new p q (cell d) (cell c) (omega (arith, le)) (subst (IsIn c) (sym (ap (λ (r : Place). r.cells) h.same)) (inl refl)) (λ i. next_not p.cells p.cells c ec num.cells i)
    opened_grows (call k) le = inl (omega (arith, le))
entered_steps x p (Send s a v) q (ea, e, h) num =
    steps p q silent (acts_counts x p q _ _ (omega (arith, ea)) tt h) (λ n. one_mark p q n a ea (ap mark_of h.same) (omega (arith, times_emitted n e)))
entered_steps x p (Call s k m args) q (ps, cs, ek, is, r, h) num =
    steps p q (calls k m args cs) (acts_counts x p q _ _ (omega arith) ek h)
    (λ n. one_new p q n (call k) (omega (arith, times_replaced n r)) (subst (λ l. IsIn k (map number_of l)) (sym (ap (λ (r : Place). r.calls) h.same)) (inl refl)) (λ i. next_not p.calls (map number_of p.calls) k (omega (arith, ek, length-map p.calls number_of)) num.calls i))
entered_steps x p (Return k a v) q (cs, ea, due, r, h) num =
    steps p q (returns k (Gives v)) (acts_counts x p q _ _ (omega (arith, ea)) tt h) (λ n. one_mark p q n a ea (ap mark_of h.same) (omega (arith, times_replaced n r)))
entered_steps x p (ReturnHalt k) q (cs, due, r, h) num =
    steps p q (returns k Halt) (acts_counts x p q _ _ (omega arith) tt h) (λ n. inl (omega (arith, times_replaced n r)))
entered_steps x p (Bind s c v) q (e, h) num =
    steps p q (binds c v) (acts_counts x p q _ _ (omega arith) tt h) (λ n. inl (omega (arith, times_emitted n e)))
entered_steps x p (Lost c) q (f, g, cs, halted, r, h) num =
    steps p q (loses c) (acts_counts x p q _ _ (omega arith) tt h) (λ n. inl (omega (arith, times_replaced n r, times_filled n Void c f)))
entered_steps x p (Right s a) q (f, g, cs, ea, halted, r, h) num =
    steps p q silent (acts_counts x p q _ _ (omega (arith, ea)) tt h) (λ n. one_mark p q n a ea (ap mark_of h.same) (omega (arith, times_replaced n r)))
entered_steps x p (Publish s v) q (e, h) num =
    steps p q (publishes v) (acts_counts x p q _ _ (omega arith) tt h) (λ n. inl (omega (arith, times_emitted n e)))
entered_steps x p (Tick t) q (tick, same) num = still p q (ap mark_of same) (ap (λ (r : Place). r.calls) same) (ap (λ (r : Place). r.cells) same) (ap (λ (r : Place). r.marked) same)
entered_steps x p (Cancel k) q (due, same) num = still p q (ap mark_of same) (ap (λ (r : Place). r.calls) same) (ap (λ (r : Place). r.cells) same) (ap (λ (r : Place). r.marked) same)

-- an entry keeps the numbers in order
pub entered_numbered : (x : Context) (p : Place) (e : Entry) (q : Place) → Enters x p e q → IsNumbered p → IsNumbered q
entered_numbered x p e q h num = let s = entered_steps x p e q h num in numbered_by p q s.act s.counts s.grows num

-- at the start
pub begin_numbered : (t : Term) → IsNumbered (begin t)
begin_numbered t = record { single = λ n. once_least n (mark 1); given = first; calls = tt; cells = tt }
  where
    one : IsGiven (begin t) (mark 1)
    one = omega arith

    first : (n : Name) → 0 < times n (token 1 t) → IsGiven (begin t) n
    first n lt = ⊎_elim (λ y. subst (IsGiven (begin t)) (sym y.0) one) (λ y. absurd (omega (arith, lt, once_other n (mark 1) y.0))) (name_is n (mark 1))

pub journal_numbered : (x : Context) (p q : Place) (es : List Entry) → IsNumbered p → Journal x p es q → IsNumbered q
journal_numbered x p q [] num h = subst IsNumbered h num
journal_numbered x p q (e ∷ es) num (mid, lead, h) = journal_numbered x mid q es (entered_numbered x p e mid lead.1 num) h

pub journal_is_numbered : JournalIsNumbered
journal_is_numbered x t es p h = journal_numbered x (begin t) p es (begin_numbered t) h
