-- How much deeper an entry makes the marked term.
use Rattle.std.proofs.Common.{◌≡◌, ◌≤◌, ◌+◌, ℕ, suc, max, refl, ap, ◌∙◌, subst, arith, cond, nat_eq, Bool, true, false, List, [], ◌∷◌}
use Rattle.orc_rules.specs.declared.value.Value.{Value}
use Rattle.orc_rules.specs.declared.param.Param.{Param}
use Rattle.orc_rules.specs.declared.param.Param.TheVariants.{Is, Void, Cell}
use Rattle.orc_rules.specs.declared.entry.Entry.TheVariants.{End, Fork, Seq, Other, Def, Open, Send, Call, Return, ReturnHalt, Bind, Lost, Right, Publish, Tick, Cancel}
use Rattle.orc_rules.specs.declared.entry.Entry.TheVariants as entry
use Rattle.orc_rules.specs.Term.{Term, stop, param, site, call, par, seq, prune, other, pending, opened, put, put_all, fill}
use Rattle.orc_rules.specs.Step.{Act, calls, returns, binds, loses, publishes, silent, opens, within}
use Rattle.orc_rules.specs.Marked.{Marked, ended, token, in_call, in_par, in_seq, in_opened, in_other, erase, fill_marked, Replaces, here, in_left, in_right, in_feeding, in_main, in_side, in_entered, Emits, emits, on_left, on_right, on_feeding, is_fed, on_main, on_side, is_bound, on_entered, passes}
use Rattle.orc_rules.specs.Journal.{Place}
use Rattle.orc_rules.specs.Refusal.{depth}
use Rattle.orc_verdict.specs.Deepening.{DeepensAtMost}

choice : (q : Param) (x : ℕ) (b : Bool) (g h : Term) → depth h ≡ depth g → depth (cond b g h) ≡ depth g
choice q x true g h e = refl
choice q x false g h e = e

-- what is put for a name leaves the depth
pub put_depth : (q : Param) (x : ℕ) (f : Term) → depth (put q x f) ≡ depth f
put_depth q x stop = refl
put_depth q x (param p) = refl
put_depth q x (site m ps) = refl
put_depth q x (call e ps) = refl
put_depth q x (par f g) = λ j. suc (max (put_depth q x f j) (put_depth q x g j))
put_depth q x (seq f y g) = λ j. suc (max (put_depth q x f j) (choice q x (nat_eq x y) g (put q x g) (put_depth q x g) j))
put_depth q x (prune f y g) = λ j. suc (max (choice q x (nat_eq x y) f (put q x f) (put_depth q x f) j) (put_depth q x g j))
put_depth q x (other f g) = λ j. suc (max (put_depth q x f j) (put_depth q x g j))
put_depth q x (pending k) = refl
put_depth q x (opened f c g) = λ j. suc (max (put_depth q x f j) (put_depth q x g j))

put_all_depth : (xs : List ℕ) (ps : List Param) (f : Term) → depth (put_all xs ps f) ≡ depth f
put_all_depth [] ps f = refl
put_all_depth (x ∷ xs) [] f = refl
put_all_depth (x ∷ xs) (p ∷ ps) f = put_all_depth xs ps (put p x f) ∙ put_depth p x f

fill_depth : (w : Param) (c : ℕ) (f : Term) → depth (fill w c f) ≡ depth f
fill_depth w c stop = refl
fill_depth w c (param p) = refl
fill_depth w c (site m ps) = refl
fill_depth w c (call e ps) = refl
fill_depth w c (par f g) = λ j. suc (max (fill_depth w c f j) (fill_depth w c g j))
fill_depth w c (seq f y g) = λ j. suc (max (fill_depth w c f j) (fill_depth w c g j))
fill_depth w c (prune f y g) = λ j. suc (max (fill_depth w c f j) (fill_depth w c g j))
fill_depth w c (other f g) = λ j. suc (max (fill_depth w c f j) (fill_depth w c g j))
fill_depth w c (pending k) = refl
fill_depth w c (opened f d g) = λ j. suc (max (fill_depth w c f j) (fill_depth w c g j))

abbrev deep : Marked → ℕ
deep m = depth (erase m)

fill_deep : (w : Param) (c : ℕ) (m : Marked) → deep (fill_marked w c m) ≡ deep m
fill_deep w c ended = refl
fill_deep w c (token s t) = fill_depth w c t
fill_deep w c (in_call k) = refl
fill_deep w c (in_par f g) = λ j. suc (max (fill_deep w c f j) (fill_deep w c g j))
fill_deep w c (in_seq f x g) = λ j. suc (max (fill_deep w c f j) (fill_depth w c g j))
fill_deep w c (in_opened f d g) = λ j. suc (max (fill_deep w c f j) (fill_deep w c g j))
fill_deep w c (in_other n f g) = λ j. suc (max (fill_deep w c f j) (fill_depth w c g j))

on_the_left : (a b c k : ℕ) → b ≤ a + k → suc (max b c) ≤ suc (max a c) + k
on_the_left a b c k h = omega (arith, h)

on_the_right : (a b c k : ℕ) → b ≤ a + k → suc (max c b) ≤ suc (max c a) + k
on_the_right a b c k h = omega (arith, h)

-- a part that becomes k levels deeper deepens the whole by k at most
part_deepens : (x y : Marked) (k : ℕ) → deep y ≤ deep x + k → {m m' : Marked} {cs : List ℕ} → Replaces x y m cs m' → deep m' ≤ deep m + k
part_deepens x y k h here = h
part_deepens x y k h (in_left r) = on_the_left _ _ _ k (part_deepens x y k h r)
part_deepens x y k h (in_right r) = on_the_right _ _ _ k (part_deepens x y k h r)
part_deepens x y k h (in_feeding r) = on_the_left _ _ _ k (part_deepens x y k h r)
part_deepens x y k h (in_main r) = on_the_left _ _ _ k (part_deepens x y k h r)
part_deepens x y k h (in_side r) = on_the_right _ _ _ k (part_deepens x y k h r)
part_deepens x y k h (in_entered r) = on_the_left _ _ _ k (part_deepens x y k h r)

-- what a `>x>` takes deepens it by one
abbrev extra : Act → ℕ
extra silent = 1
extra _ = 0

extra_within : (c : ℕ) (b : Act) → extra b ≡ extra (within c b)
extra_within c (calls k m args cs) = refl
extra_within c (returns k a) = refl
extra_within c (binds d v) = refl
extra_within c (loses d) = refl
extra_within c (publishes v) = refl
extra_within c silent = refl
extra_within c (opens d) = refl

emission_deepens : (s a : ℕ) (v : Value) {m m' : Marked} {b : Act} → Emits s a v m b m' → deep m' ≤ deep m + extra b
emission_deepens s a v emits = omega arith
emission_deepens s a v (on_left {b = b} e) = on_the_left _ _ _ (extra b) (emission_deepens s a v e)
emission_deepens s a v (on_right {b = b} e) = on_the_right _ _ _ (extra b) (emission_deepens s a v e)
emission_deepens s a v (on_feeding {b = b} i e) = on_the_left _ _ _ (extra b) (emission_deepens s a v e)
emission_deepens s a v (is_fed {f = f} {f' = f'} {z = z} {g = g} e) = let h = emission_deepens s a v e in omega (arith, h, put_depth (Is v) z g)
emission_deepens s a v (on_main {b = b} e) = on_the_left _ _ _ (extra b) (emission_deepens s a v e)
emission_deepens s a v (on_side {f = f} {g = g} {g' = g'} {c = c} {b = b} i e) = subst (λ z. suc (max (deep f) (deep g')) ≤ suc (max (deep f) (deep g)) + z) (extra_within c b) (on_the_right _ _ _ (extra b) (emission_deepens s a v e))
emission_deepens s a v (is_bound {f = f} {c = c} e) = omega (arith, fill_deep (Is v) c f)
emission_deepens s a v (on_entered {b = b} i e) = on_the_left _ _ _ (extra b) (emission_deepens s a v e)
emission_deepens s a v (passes e) = let h = emission_deepens s a v e in omega (arith, h)

least : (t : Term) → 1 ≤ depth t
least stop = omega arith
least (param p) = omega arith
least (site m ps) = omega arith
least (call e ps) = omega arith
least (par f g) = omega arith
least (seq f x g) = omega arith
least (prune f x g) = omega arith
least (other f g) = omega arith
least (pending k) = omega arith
least (opened f c g) = omega arith

pub deepens_at_most : DeepensAtMost
deepens_at_most x p (End s) q most bodies (turn, m) = part_deepens _ _ 0 (omega arith) m.part
deepens_at_most x p (Fork s a b) q most bodies (turn, (f, g, ea, eb, m)) = part_deepens _ _ 0 (omega arith) m.part
deepens_at_most x p (Seq s a) q most bodies (turn, (f, g, z, ea, m)) = part_deepens _ _ 0 (omega arith) m.part
deepens_at_most x p (Other s a) q most bodies (turn, (f, g, ea, m)) = part_deepens _ _ 0 (omega arith) m.part
deepens_at_most x p (Def s a) q most bodies (turn, (e, ps, d, cs, ea, is, r, acts)) = part_deepens _ _ most (omega (arith, put_all_depth d.params ps d.body, bodies e d is)) r
deepens_at_most x p (entry.Void s) q most bodies (turn, (t, cs, void, r, acts)) = part_deepens _ _ 0 (omega (arith, least t)) r
deepens_at_most x p (Open s c a b) q most bodies (turn, (f, g, z, cs, ec, ea, eb, r, acts)) = part_deepens _ _ 0 (omega (arith, put_depth (Cell c) z f)) r
deepens_at_most x p (Send s a v) q most bodies (turn, (ea, e, acts)) = emission_deepens s a v e
deepens_at_most x p (Call s k m args) q most bodies (turn, (ps, cs, ek, is, r, acts)) = part_deepens _ _ 0 (omega arith) r
deepens_at_most x p (Return k a v) q most bodies (turn, (cs, ea, due, r, acts)) = part_deepens _ _ 0 (omega arith) r
deepens_at_most x p (ReturnHalt k) q most bodies (turn, (cs, due, r, acts)) = part_deepens _ _ 0 (omega arith) r
deepens_at_most x p (Bind s c v) q most bodies (turn, (e, acts)) = emission_deepens s p.mark v e
deepens_at_most x p (Lost c) q most bodies (turn, (f, g, cs, halted, r, acts)) = part_deepens _ _ 0 (omega (arith, fill_deep Void c f)) r
deepens_at_most x p (Right s a) q most bodies (turn, (f, g, cs, ea, halted, r, acts)) = part_deepens _ _ 0 (omega arith) r
deepens_at_most x p (Publish s v) q most bodies (turn, (e, acts)) = emission_deepens s p.mark v e
deepens_at_most x p (Tick t) q most bodies (turn, (tick, same)) = omega (arith, ap (λ (z : Place). deep z.marked) same)
deepens_at_most x p (Cancel k) q most bodies (turn, (due, same)) = omega (arith, ap (λ (z : Place). deep z.marked) same)
