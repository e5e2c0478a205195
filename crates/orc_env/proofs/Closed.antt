-- No name is free in what stands in a run of a closed program, and each call of a definition has as many arguments as it has parameters.
use Rattle.std.proofs.Common.{◌≡◌, ℕ, zero, suc, List, [], ◌∷◌, length, map, Option, Some, None, refl, sym, ap, ◌∙◌, subst, Bool, true, false, cond, nat_eq, eqb-true, eq-eqb, arith, inl, inr, ⊎_elim, ◌⊎◌}
use Rattle.std.specs.Prelude.{slice_get}
use Rattle.orc_rules.specs.declared.value.Value.{Value}
use Rattle.orc_rules.specs.declared.param.Param.{Param}
use Rattle.orc_rules.specs.declared.param.Param.TheVariants.{Name, Is, Cell, Void}
use Rattle.orc_rules.specs.declared.entry.Entry.{Entry}
use Rattle.orc_rules.specs.declared.entry.Entry.TheVariants.{End, Fork, Seq, Other, Def, Open, Send, Call, Return, ReturnHalt, Bind, Lost, Right, Publish, Tick, Cancel}
use Rattle.orc_rules.specs.declared.entry.Entry.TheVariants as entry
use Rattle.orc_rules.specs.Term.{Term, Definition, stop, param, site, call, par, seq, prune, other, pending, opened, put, put_param, put_all, fill, fill_param}
use Rattle.orc_rules.specs.Step.{Act}
use Rattle.orc_rules.specs.Program.{IsKnown, AreKnown, IsClosed, AreClosed, IsProgram}
use Rattle.orc_rules.specs.Timed.{Context, IsIn}
use Rattle.orc_rules.specs.Journal.{Place, Enters, Journal, begin}
use Rattle.orc_rules.specs.Marked.{Marked, ended, token, in_call, in_par, in_seq, in_opened, in_other, fill_marked, Replaces, here, in_left, in_right, in_feeding, in_main, in_side, in_entered, Emits, emits, on_left, on_right, on_feeding, is_fed, on_main, on_side, is_bound, on_entered, passes}
use Rattle.orc_rules.specs.Refusal.{Stands}

-- a name that stands there is one of these
abbrev pub IsNamed : List ℕ → Param → Type 0
IsNamed xs (Name x) = IsIn x xs
IsNamed xs _ = Unit {0}

abbrev pub AreNamed : List ℕ → List Param → Type 0
AreNamed xs [] = Unit {0}
AreNamed xs (p ∷ ps) = IsNamed xs p × AreNamed xs ps

module _ (defs : List Definition) where
  -- the call of a definition has its number of arguments
  abbrev pub HasArguments : ℕ → List Param → Type 0
  HasArguments e ps = (d : Definition) → slice_get defs e ≡ Some d → length d.params ≡ length ps

  -- a closed term in a run, in which cells, values and void may stand for names: its free names are among these
  abbrev pub IsShut : List ℕ → Term → Type 0
  IsShut xs stop = Unit {0}
  IsShut xs (param p) = IsNamed xs p
  IsShut xs (site m ps) = AreNamed xs ps
  IsShut xs (call e ps) = AreNamed xs ps × HasArguments e ps
  IsShut xs (par f g) = IsShut xs f × IsShut xs g
  IsShut xs (seq f x g) = IsShut xs f × IsShut (x ∷ xs) g
  IsShut xs (prune f x g) = IsShut (x ∷ xs) f × IsShut xs g
  IsShut xs (other f g) = IsShut xs f × IsShut xs g
  IsShut xs (pending k) = Unit {0}
  IsShut xs (opened f c g) = IsShut xs f × IsShut xs g

  abbrev pub AreShut : Marked → Type 0
  AreShut ended = Unit {0}
  AreShut (token s t) = IsShut [] t
  AreShut (in_call k) = Unit {0}
  AreShut (in_par f g) = AreShut f × AreShut g
  AreShut (in_seq f x g) = AreShut f × IsShut (x ∷ []) g
  AreShut (in_opened f c g) = AreShut f × AreShut g
  AreShut (in_other n f g) = AreShut f × IsShut [] g

  -- a closed term is one
  known_named : (xs : List ℕ) (p : Param) → IsKnown xs p → IsNamed xs p
  known_named xs (Name x) h = h
  known_named xs (Is v) h = tt
  known_named xs (Cell c) h = tt
  known_named xs Void h = tt

  all_named : (xs : List ℕ) (ps : List Param) → AreKnown xs ps → AreNamed xs ps
  all_named xs [] h = tt
  all_named xs (p ∷ ps) h = (known_named xs p h.0, all_named xs ps h.1)

  abbrev params_or : List ℕ → Option Definition → List ℕ
  params_or xs (Some d) = d.params
  params_or xs None = xs

  closed_shut : (xs : List ℕ) (t : Term) → IsClosed defs xs t → IsShut xs t
  closed_shut xs stop h = tt
  closed_shut xs (param p) h = known_named xs p h
  closed_shut xs (site m ps) h = all_named xs ps h
  closed_shut xs (call e ps) (known, d, there, len) = (all_named xs ps known, λ b is. ap (λ o. length (params_or [] o)) (sym is ∙ there) ∙ len)
  closed_shut xs (par f g) h = (closed_shut xs f h.0, closed_shut xs g h.1)
  closed_shut xs (seq f x g) h = (closed_shut xs f h.0, closed_shut (x ∷ xs) g h.1)
  closed_shut xs (prune f x g) h = (closed_shut (x ∷ xs) f h.0, closed_shut xs g h.1)
  closed_shut xs (other f g) h = (closed_shut xs f h.0, closed_shut xs g h.1)
  closed_shut xs (pending k) h = absurd h
  closed_shut xs (opened f c g) h = absurd h

  -- more names are free
  abbrev Within : List ℕ → List ℕ → Type 0
  Within xs ys = (y : ℕ) → IsIn y xs → IsIn y ys

  within_more : (x : ℕ) (xs ys : List ℕ) → Within xs ys → Within (x ∷ xs) (x ∷ ys)
  within_more x xs ys w y h = ⊎_elim (λ e. inl e) (λ k. inr (w y k)) h

  param_wider : (xs ys : List ℕ) → Within xs ys → (p : Param) → IsNamed xs p → IsNamed ys p
  param_wider xs ys w (Name x) h = w x h
  param_wider xs ys w (Is v) h = tt
  param_wider xs ys w (Cell c) h = tt
  param_wider xs ys w Void h = tt

  all_wider : (xs ys : List ℕ) → Within xs ys → (ps : List Param) → AreNamed xs ps → AreNamed ys ps
  all_wider xs ys w [] h = tt
  all_wider xs ys w (p ∷ ps) h = (param_wider xs ys w p h.0, all_wider xs ys w ps h.1)

  wider : (xs ys : List ℕ) → Within xs ys → (t : Term) → IsShut xs t → IsShut ys t
  wider xs ys w stop h = tt
  wider xs ys w (param p) h = param_wider xs ys w p h
  wider xs ys w (site m ps) h = all_wider xs ys w ps h
  wider xs ys w (call e ps) h = (all_wider xs ys w ps h.0, h.1)
  wider xs ys w (par f g) h = (wider xs ys w f h.0, wider xs ys w g h.1)
  wider xs ys w (seq f x g) h = (wider xs ys w f h.0, wider (x ∷ xs) (x ∷ ys) (within_more x xs ys w) g h.1)
  wider xs ys w (prune f x g) h = (wider (x ∷ xs) (x ∷ ys) (within_more x xs ys w) f h.0, wider xs ys w g h.1)
  wider xs ys w (other f g) h = (wider xs ys w f h.0, wider xs ys w g h.1)
  wider xs ys w (pending k) h = tt
  wider xs ys w (opened f c g) h = (wider xs ys w f h.0, wider xs ys w g h.1)

  nameless : (xs : List ℕ) (q : Param) → IsNamed [] q → IsNamed xs q
  nameless xs q h = param_wider [] xs (λ y k. absurd k) q h

  map_len : (f : Param → Param) (ps : List Param) → length (map f ps) ≡ length ps
  map_len f [] = refl
  map_len f (p ∷ ps) = ap suc (map_len f ps)

  -- the names but one
  abbrev Besides : ℕ → List ℕ → List ℕ → Type 0
  Besides x xs ys = (y : ℕ) → IsIn y xs → (y ≡ x) ⊎ IsIn y ys

  besides_more : (x z : ℕ) (xs ys : List ℕ) → Besides x xs ys → Besides x (z ∷ xs) (z ∷ ys)
  besides_more x z xs ys w y h = ⊎_elim (λ e. inr (inl e)) (λ k. ⊎_elim (λ e. inl e) (λ j. inr (inr j)) (w y k)) h

  besides_bound : (x z : ℕ) (xs ys : List ℕ) → x ≡ z → Besides x xs ys → Within (z ∷ xs) (z ∷ ys)
  besides_bound x z xs ys is w y h = ⊎_elim (λ e. inl e) (λ k. ⊎_elim (λ e. inl (e ∙ is)) (λ j. inr j) (w y k)) h

  module _ (q : Param) (no_name : IsNamed [] q) where
    param_put : (x : ℕ) (xs ys : List ℕ) → Besides x xs ys → (p : Param) → IsNamed xs p → IsNamed ys (put_param q x p)
    param_put x xs ys w (Name y) h = go (nat_eq x y) refl
      where
        go : (b : Bool) → nat_eq x y ≡ b → IsNamed ys (cond b q (Name y))
        go true e = nameless ys q no_name
        go false e = ⊎_elim (λ is. cc (ap (λ z. nat_eq x z) is ∙ eq-eqb x x refl, e)) (λ k. k) (w y h)
    param_put x xs ys w (Is v) h = tt
    param_put x xs ys w (Cell c) h = tt
    param_put x xs ys w Void h = tt

    all_put : (x : ℕ) (xs ys : List ℕ) → Besides x xs ys → (ps : List Param) → AreNamed xs ps → AreNamed ys (map (put_param q x) ps)
    all_put x xs ys w [] h = tt
    all_put x xs ys w (p ∷ ps) h = (param_put x xs ys w p h.0, all_put x xs ys w ps h.1)

    under_binder : (x z : ℕ) (xs ys : List ℕ) → Besides x xs ys → (b : Bool) → nat_eq x z ≡ b → (t : Term) → IsShut (z ∷ xs) t → IsShut (z ∷ ys) (put q x t) → IsShut (z ∷ ys) (cond b t (put q x t))
    under_binder x z xs ys w true e t h k = wider (z ∷ xs) (z ∷ ys) (besides_bound x z xs ys (eqb-true x z e) w) t h
    under_binder x z xs ys w false e t h k = k

    -- something without names is put for a name
    put_shut : (x : ℕ) (xs ys : List ℕ) → Besides x xs ys → (t : Term) → IsShut xs t → IsShut ys (put q x t)
    put_shut x xs ys w stop h = tt
    put_shut x xs ys w (param p) h = param_put x xs ys w p h
    put_shut x xs ys w (site m ps) h = all_put x xs ys w ps h
    put_shut x xs ys w (call e ps) h = (all_put x xs ys w ps h.0, λ d is. h.1 d is ∙ sym (map_len (put_param q x) ps))
    put_shut x xs ys w (par f g) h = (put_shut x xs ys w f h.0, put_shut x xs ys w g h.1)
    put_shut x xs ys w (seq f z g) h = (put_shut x xs ys w f h.0, under_binder x z xs ys w (nat_eq x z) refl g h.1 (put_shut x (z ∷ xs) (z ∷ ys) (besides_more x z xs ys w) g h.1))
    put_shut x xs ys w (prune f z g) h = (under_binder x z xs ys w (nat_eq x z) refl f h.0 (put_shut x (z ∷ xs) (z ∷ ys) (besides_more x z xs ys w) f h.0), put_shut x xs ys w g h.1)
    put_shut x xs ys w (other f g) h = (put_shut x xs ys w f h.0, put_shut x xs ys w g h.1)
    put_shut x xs ys w (pending k) h = tt
    put_shut x xs ys w (opened f c g) h = (put_shut x xs ys w f h.0, put_shut x xs ys w g h.1)

    param_fill : (c : ℕ) (xs : List ℕ) (p : Param) → IsNamed xs p → IsNamed xs (fill_param q c p)
    param_fill c xs (Name y) h = h
    param_fill c xs (Is v) h = tt
    param_fill c xs (Cell d) h = go (nat_eq c d)
      where
        go : (b : Bool) → IsNamed xs (cond b q (Cell d))
        go true = nameless xs q no_name
        go false = tt
    param_fill c xs Void h = tt

    all_fill : (c : ℕ) (xs : List ℕ) (ps : List Param) → AreNamed xs ps → AreNamed xs (map (fill_param q c) ps)
    all_fill c xs [] h = tt
    all_fill c xs (p ∷ ps) h = (param_fill c xs p h.0, all_fill c xs ps h.1)

    -- and for a cell
    fill_shut : (c : ℕ) (xs : List ℕ) (t : Term) → IsShut xs t → IsShut xs (fill q c t)
    fill_shut c xs stop h = tt
    fill_shut c xs (param p) h = param_fill c xs p h
    fill_shut c xs (site m ps) h = all_fill c xs ps h
    fill_shut c xs (call e ps) h = (all_fill c xs ps h.0, λ d is. h.1 d is ∙ sym (map_len (fill_param q c) ps))
    fill_shut c xs (par f g) h = (fill_shut c xs f h.0, fill_shut c xs g h.1)
    fill_shut c xs (seq f z g) h = (fill_shut c xs f h.0, fill_shut c (z ∷ xs) g h.1)
    fill_shut c xs (prune f z g) h = (fill_shut c (z ∷ xs) f h.0, fill_shut c xs g h.1)
    fill_shut c xs (other f g) h = (fill_shut c xs f h.0, fill_shut c xs g h.1)
    fill_shut c xs (pending k) h = tt
    fill_shut c xs (opened f d g) h = (fill_shut c xs f h.0, fill_shut c xs g h.1)

    filled_shut : (c : ℕ) (m : Marked) → AreShut m → AreShut (fill_marked q c m)
    filled_shut c ended h = tt
    filled_shut c (token s t) h = fill_shut c [] t h
    filled_shut c (in_call k) h = tt
    filled_shut c (in_par f g) h = (filled_shut c f h.0, filled_shut c g h.1)
    filled_shut c (in_seq f z g) h = (filled_shut c f h.0, fill_shut c (z ∷ []) g h.1)
    filled_shut c (in_opened f d g) h = (filled_shut c f h.0, filled_shut c g h.1)
    filled_shut c (in_other n f g) h = (filled_shut c f h.0, fill_shut c [] g h.1)

  -- the last name goes
  besides_one : (x : ℕ) (xs : List ℕ) → Besides x (x ∷ xs) xs
  besides_one x xs y h = h

  -- arguments for all parameters
  put_all_shut : (xs : List ℕ) (ps : List Param) (t : Term) → AreNamed [] ps → length xs ≡ length ps → IsShut xs t → IsShut [] (put_all xs ps t)
  put_all_shut [] ps t no_names len h = h
  put_all_shut (x ∷ xs) [] t no_names len h = cc len
  put_all_shut (x ∷ xs) (p ∷ ps) t no_names len h = put_all_shut xs ps (put p x t) no_names.1 (omega (arith, len)) (put_shut p no_names.0 x (x ∷ xs) xs (besides_one x xs) t h)

  abbrev BodyShut : Option Definition → Type 0
  BodyShut (Some d) = IsShut d.params d.body
  BodyShut None = Unit {0}

  body_shut : (ds : List Definition) (e : ℕ) (d : Definition) → AreClosed defs ds → slice_get ds e ≡ Some d → IsShut d.params d.body
  body_shut [] e d h is = cc is
  body_shut (b ∷ ds) zero d h is = subst BodyShut is (closed_shut b.params b.body h.0)
  body_shut (b ∷ ds) (suc e) d h is = body_shut ds e d h.1 is

  -- one part changes
  replaced_shut : {x y m m' : Marked} {cs : List ℕ} → (AreShut x → AreShut y) → Replaces x y m cs m' → AreShut m → AreShut m'
  replaced_shut k here h = k h
  replaced_shut k (in_left r) h = (replaced_shut k r h.0, h.1)
  replaced_shut k (in_right r) h = (h.0, replaced_shut k r h.1)
  replaced_shut k (in_feeding r) h = (replaced_shut k r h.0, h.1)
  replaced_shut k (in_main r) h = (replaced_shut k r h.0, h.1)
  replaced_shut k (in_side r) h = (h.0, replaced_shut k r h.1)
  replaced_shut k (in_entered r) h = (replaced_shut k r h.0, h.1)

  part_shut : {x y m m' : Marked} {cs : List ℕ} → Replaces x y m cs m' → AreShut m → AreShut x
  part_shut here h = h
  part_shut (in_left r) h = part_shut r h.0
  part_shut (in_right r) h = part_shut r h.1
  part_shut (in_feeding r) h = part_shut r h.0
  part_shut (in_main r) h = part_shut r h.0
  part_shut (in_side r) h = part_shut r h.1
  part_shut (in_entered r) h = part_shut r h.0

  -- so no name is free in the term on which a token stands
  pub token_shut : (m : Marked) (s : ℕ) (t : Term) → AreShut m → Stands (token s t) m → IsShut [] t
  token_shut m s t h st = part_shut st.1 h

  -- a token publishes
  emitted_shut : {s a : ℕ} {v : Value} {m m' : Marked} {b : Act} → Emits s a v m b m' → AreShut m → AreShut m'
  emitted_shut emits h = tt
  emitted_shut (on_left e) h = (emitted_shut e h.0, h.1)
  emitted_shut (on_right e) h = (h.0, emitted_shut e h.1)
  emitted_shut (on_feeding i e) h = (emitted_shut e h.0, h.1)
  emitted_shut {v = v} (is_fed {z = z} {g = g} e) h = ((emitted_shut e h.0, h.1), put_shut (Is v) tt z (z ∷ []) [] (besides_one z []) g h.1)
  emitted_shut (on_main e) h = (emitted_shut e h.0, h.1)
  emitted_shut (on_side i e) h = (h.0, emitted_shut e h.1)
  emitted_shut {v = v} (is_bound {f = f} {c = c} e) h = filled_shut (Is v) tt c f h.0
  emitted_shut (on_entered i e) h = (emitted_shut e h.0, h.1)
  emitted_shut (passes e) h = emitted_shut e h.0

  module _ (closed : AreClosed defs defs) where
    entered_shut : (x : Context) (p : Place) (e : Entry) (q : Place) → x.definitions ≡ defs → Enters x p e q → AreShut p.marked → AreShut q.marked
    entered_shut x p (End s) q own h src = replaced_shut (λ k. tt) h.part src
    entered_shut x p (Fork s a b) q own (f, g, ea, eb, h) src = replaced_shut (λ k. k) h.part src
    entered_shut x p (Seq s a) q own (f, g, z, ea, h) src = replaced_shut (λ k. k) h.part src
    entered_shut x p (Other s a) q own (f, g, ea, h) src = replaced_shut (λ k. k) h.part src
    entered_shut x p (Def s a) q own (e, ps, d, cs, ea, is, r, h) src =
        let there : slice_get defs e ≡ Some d = ap (λ z. slice_get z e) (sym own) ∙ is in
        replaced_shut (λ k. put_all_shut d.params ps d.body k.0 (k.1 d there) (body_shut defs e d closed there)) r src
    entered_shut x p (entry.Void s) q own (t, cs, is, r, h) src = replaced_shut (λ k. tt) r src
    entered_shut x p (Open s c a b) q own (f, g, z, cs, ec, ea, eb, r, h) src = replaced_shut (λ k. (put_shut (Cell c) tt z (z ∷ []) [] (besides_one z []) f k.0, k.1)) r src
    entered_shut x p (Send s a v) q own (ea, e, h) src = emitted_shut e src
    entered_shut x p (Call s k m args) q own (ps, cs, ek, is, r, h) src = replaced_shut (λ k. tt) r src
    entered_shut x p (Return k a v) q own (cs, ea, due, r, h) src = replaced_shut (λ k. tt) r src
    entered_shut x p (ReturnHalt k) q own (cs, due, r, h) src = replaced_shut (λ k. tt) r src
    entered_shut x p (Bind s c v) q own (e, h) src = emitted_shut e src
    entered_shut x p (Lost c) q own (f, g, cs, halted, r, h) src = replaced_shut (λ k. filled_shut Void tt c f k.0) r src
    entered_shut x p (Right s a) q own (f, g, cs, ea, halted, r, h) src = replaced_shut (λ k. k.1) r src
    entered_shut x p (Publish s v) q own (e, h) src = emitted_shut e src
    entered_shut x p (Tick t) q own (tick, same) src = subst (λ (w : Place). AreShut w.marked) (sym same) src
    entered_shut x p (Cancel k) q own (due, same) src = subst AreShut (sym (ap (λ (w : Place). w.marked) same)) src

    journal_shut : (x : Context) (p q : Place) (es : List Entry) → x.definitions ≡ defs → Journal x p es q → AreShut p.marked → AreShut q.marked
    journal_shut x p q [] own h src = subst (λ (w : Place). AreShut w.marked) h src
    journal_shut x p q (e ∷ es) own (mid, lead, h) src = journal_shut x mid q es own h (entered_shut x p e mid own lead.1 src)

-- it is so of each place to which a journal of a closed program leads
pub program_shut : (x : Context) (t : Term) (es : List Entry) (p : Place) → IsProgram x.definitions t → Journal x (begin t) es p → AreShut x.definitions p.marked
program_shut x t es p closed h = journal_shut x.definitions closed.1 x (begin t) p es refl h (closed_shut x.definitions [] t closed.0)

-- each parameter of a list has what all have
pub named_at : (xs : List ℕ) (ps : List Param) (i : ℕ) (p : Param) → AreNamed xs ps → slice_get ps i ≡ Some p → IsNamed xs p
named_at xs [] i p h is = cc is
named_at xs (q ∷ ps) zero p h is = subst (λ z. IsNamed xs (or_value z)) is h.0
  where
    or_value : Option Param → Param
    or_value (Some z) = z
    or_value None = Void
named_at xs (q ∷ ps) (suc i) p h is = named_at xs ps i p h.1 is
