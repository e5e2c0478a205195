-- Each move of the small term of a run is a step of the rules.
use Rattle.std.proofs.Common.{◌≡◌, ℕ, List, [], ◌∷◌, map, length, true, false, Option, Some, None, refl, sym, ap, ◌∙◌, subst, inl, inr}
use Rattle.std.specs.Prelude.{is_some, slice_get}
use Rattle.orc_rules.specs.declared.value.Value.{Value}
use Rattle.orc_rules.specs.declared.param.Param.{Param}
use Rattle.orc_rules.specs.declared.param.Param.TheVariants.{Name, Is, Cell, Void}
use Rattle.orc_rules.specs.Term.{Term, stop, param, site, call, par, seq, prune, other, pending, opened, Definition, put, put_all, fill, values_of, HasVoid, Halted, answered, pending_of}
use Rattle.orc_rules.specs.Step.{Act, calls, returns, binds, loses, publishes, silent, opens, IsInner, within, IsNew, Used, Step, value_rule, void_value, site_call, void_call, return_rule, def_rule, par_left, par_right, seq_other, seq_value, prune_open, prune_left, prune_right, prune_bind, prune_lost, other_step, other_value, other_halt}
use Rattle.orc_rules.specs.Timed.{IsIn}
use Rattle.orc_rules.proofs.Idle.{in_front, in_back, test_halted}
use Rattle.orc_search.specs.Small.{Out, Small, nothing, gives, asks, enters, both, feeds, prunes, instead, awaits, needs, set, set_all, settle, IsOver}
use Rattle.orc_search.specs.Moves.{Happening, called, published, unseen, IsPassed, SmallDefinition, Moves, value, asked, returned, entered, on_left, on_right, feeding, fed, on_main, on_side, first, passes, falls}
use Rattle.orc_search.specs.Moves as small
use Rattle.orc_search.specs.Seen.{level, seen_param, seen, happening, IsSound, AreSeen, IsAsked}
use Rattle.orc_search.specs.Ticks.{IsAround, AreAround, IsScoped}
use Rattle.orc_search.specs.Paths.{Takes, IsAnswered, IsStepFor}
use Rattle.orc_search.proofs.Seen.{put_seen, put_all_seen, fresh, same_seen, own_level, fill_seen}
use Rattle.orc_search.proofs.Simulates.{same_happening, within_asked, left_seen}
use Rattle.orc_search.proofs.Successors.{over_true}
use Rattle.orc_search.proofs.Ticks.{found, over_same}

-- what is seen as a value or as void is so
is_value : (cs : List ℕ) (p : Param) (v : Value) → IsAround cs p → Is v ≡ seen_param cs p → p ≡ Is v
is_value cs (Name y) v s e = cc e
is_value cs (Is w) v s e = sym e
is_value cs (Cell c) v s e =
    let f = found c cs s in
    let no : Is v ≡ Cell f.0 = e ∙ f.1 in
    cc no
is_value cs Void v s e = cc e

is_void : (cs : List ℕ) (p : Param) → IsAround cs p → Void ≡ seen_param cs p → p ≡ Void
is_void cs (Name y) s e = cc e
is_void cs (Is w) s e = cc e
is_void cs (Cell c) s e =
    let f = found c cs s in
    let no : Void ≡ Cell f.0 = e ∙ f.1 in
    cc no
is_void cs Void s e = refl

has_void : (cs : List ℕ) (ps : List Param) → AreAround cs ps → HasVoid (map (seen_param cs) ps) → HasVoid ps
has_void cs [] s h = h
has_void cs (p ∷ ps) s (inl e) = inl (is_void cs p s.0 (sym e))
has_void cs (p ∷ ps) s (inr h) = inr (has_void cs ps s.1 h)

some_tail : (v : Value) (ps : List Param) (vs : List Value) → values_of (Is v ∷ ps) ≡ Some vs → (us : List Value) × (values_of ps ≡ Some us)
some_tail v ps vs h = go (values_of ps) refl where
  go : (o : Option (List Value)) → values_of ps ≡ o → (us : List Value) × (values_of ps ≡ Some us)
  go (Some us) p = (us, p)
  go None p =
      let none : values_of (Is v ∷ ps) ≡ None = rw p refl in
      let no : ◌≡◌ {A = Option (List Value)} None (Some vs) = sym none ∙ h in
      cc no

seen_values : (cs : List ℕ) (ps : List Param) (vs : List Value) → AreAround cs ps → values_of (map (seen_param cs) ps) ≡ Some vs → map (seen_param cs) ps ≡ ps
seen_values cs [] vs s h = refl
seen_values cs (Name x ∷ ps) vs s h = cc h
seen_values cs (Void ∷ ps) vs s h = cc h
seen_values cs (Cell c ∷ ps) vs s h =
    let none : values_of (level c cs ∷ map (seen_param cs) ps) ≡ None = ap (λ (p : Param). values_of (p ∷ map (seen_param cs) ps)) (found c cs s.0).1 in
    let no : ◌≡◌ {A = Option (List Value)} None (Some vs) = sym none ∙ h in
    cc no
seen_values cs (Is v ∷ ps) vs s h = let t = some_tail v (map (seen_param cs) ps) vs h in ap (λ (r : List Param). Is v ∷ r) (seen_values cs ps t.0 s.1 t.1)

over_halted : (out : ℕ → Out) (cs : List ℕ) (t : Term) → IsOver (seen out cs t) → Halted t
over_halted out cs t o = test_halted t (sym (over_same out cs t) ∙ over_true (seen out cs t) o)

-- what an act shows tells what it is
inner : (out : ℕ → Out) (a : Act) (h : Happening) → happening out a ≡ h → IsPassed h → IsInner a
inner out (calls k m args cs) h e p = tt
inner out (returns k a) h e p = tt
inner out (binds c v) h e p = tt
inner out (loses c) h e p = tt
inner out (publishes v) h e p = subst IsPassed (sym e) p
inner out silent h e p = tt
inner out (opens c) h e p = tt

publication : (out : ℕ → Out) (a : Act) (v : Value) → happening out a ≡ published v → a ≡ publishes v
publication out (calls k m args cs) v e = cc e
publication out (returns k a) v e = cc e
publication out (binds c w) v e = cc e
publication out (loses c) v e = cc e
publication out (publishes w) v e = let same : w ≡ v = cc e in ap publishes same
publication out silent v e = cc e
publication out (opens c) v e = cc e

takes_within : (k c d : ℕ) (a : Act) → Takes k c a → Takes k c (within d a)
takes_within k c d (calls j m args cs) h = h
takes_within k c d (returns j a) h = tt
takes_within k c d (binds e v) h = tt
takes_within k c d (loses e) h = tt
takes_within k c d (publishes v) h = tt
takes_within k c d silent h = tt
takes_within k c d (opens e) h = h

-- a call that pends in a part does so in the whole
answered_in : (used : Used) (out : ℕ → Out) (f t : Term) (a : Act) → ((j : ℕ) → IsIn j (pending_of f) → IsIn j (pending_of t)) → IsAnswered used out f a → IsAnswered used out t a
answered_in used out f t (calls k m args cs) more h = tt
answered_in used out f t (returns k a) more h = (more k h.0, h.1, h.2)
answered_in used out f t (binds c v) more h = tt
answered_in used out f t (loses c) more h = tt
answered_in used out f t (publishes v) more h = tt
answered_in used out f t silent more h = tt
answered_in used out f t (opens c) more h = tt

answered_within : (used : Used) (out : ℕ → Out) (c : ℕ) (t : Term) (a : Act) → IsAnswered used out t a → IsAnswered used out t (within c a)
answered_within used out c t (calls k m args cs) h = tt
answered_within used out c t (returns k a) h = h
answered_within used out c t (binds d v) h = tt
answered_within used out c t (loses d) h = tt
answered_within used out c t (publishes v) h = tt
answered_within used out c t silent h = tt
answered_within used out c t (opens d) h = tt

module _ (defs : List Definition) (smalls : List SmallDefinition) (used : Used) (ask : ℕ → List Value → Out) (out : ℕ → Out) (k c : ℕ)
    (known : AreSeen defs smalls) (there : (e : ℕ) → is_some (slice_get smalls e) ≡ is_some (slice_get defs e)) (new_call : IsNew k used.calls) (new_cell : IsNew c used.cells) where
  abbrev Back : List ℕ → Term → Happening → Small → Type 0
  Back cs t h r = IsStepFor defs used ask out k c cs t h r

  -- what is known of a part that is seen as f
  abbrev Part : List ℕ → Term → Small → Type 0
  Part cs t f = (h : Happening) (r : Small) → Moves smalls ask (length cs) f h r → Back cs t h r

  gave : (cs : List ℕ) (p : Param) {q : Param} {h : Happening} {r : Small} → IsAround cs p → q ≡ seen_param cs p → Moves smalls ask (length cs) (gives q) h r → Back cs (param p) h r
  gave cs p s e (value {v = v}) =
      subst (λ (q : Param). Back cs (param q) (published v) nothing) (sym (is_value cs p v s e))
      (record { act = publishes v; term = stop; step = value_rule; takes = tt; answered = tt; shows = refl; is = λ out' same asks. refl })
  gave cs p s e small.void_value =
      subst (λ (q : Param). Back cs (param q) unseen nothing) (sym (is_void cs p s e))
      (record { act = silent; term = stop; step = void_value; takes = tt; answered = tt; shows = refl; is = λ out' same asks. refl })

  asks_site : (cs : List ℕ) (m : ℕ) (ps : List Param) {qs : List Param} {h : Happening} {r : Small} → AreAround cs ps → qs ≡ map (seen_param cs) ps → Moves smalls ask (length cs) (asks m qs) h r → Back cs (site m ps) h r
  asks_site cs m ps s e (asked {args = args} has) =
      let seen_has : values_of (map (seen_param cs) ps) ≡ Some args = ap values_of (sym e) ∙ has in
      let has_own : values_of ps ≡ Some args = ap values_of (sym (seen_values cs ps args s seen_has)) ∙ seen_has in
      record { act = calls k m args []; term = pending k; step = site_call has_own new_call; takes = refl; answered = tt; shows = refl; is = λ out' same asks. ap awaits asks }
  asks_site cs m ps s e (small.void_call has) =
      record { act = silent; term = stop; step = void_call (has_void cs ps s (subst HasVoid e has)); takes = tt; answered = tt; shows = refl; is = λ out' same asks. refl }

  enters_body : (cs : List ℕ) (e : ℕ) (ps : List Param) {qs : List Param} {h : Happening} {r : Small} → qs ≡ map (seen_param cs) ps → Moves smalls ask (length cs) (enters e qs) h r → Back cs (call e ps) h r
  enters_body cs e ps {qs = qs} eq (entered {d = d'} has) = go (slice_get defs e) refl where
    go : (o : Option Definition) → slice_get defs e ≡ o → Back cs (call e ps) unseen (set_all d'.params qs d'.body)
    go (Some d) p =
        let n = known e d p in
        let same_body : n.1 ≡ d' = let both_are : Some n.1 ≡ Some d' = sym n.2 ∙ has in cc both_are in
        record {
          act = silent;
          term = put_all d.params ps d.body;
          step = def_rule p;
          takes = tt;
          answered = tt;
          shows = refl;
          is = λ out' same asks. put_all_seen out' cs d.params ps d.body n.0 ∙ (λ i. set_all (sym n.3 i) (sym eq i) (n.4 out' cs i)) ∙ ap (λ (b : SmallDefinition). set_all b.params qs b.body) same_body;
        }
    go None p =
        let no : true ≡ false = sym (ap is_some has) ∙ there e ∙ ap is_some p in
        cc no

  joins : (cs : List ℕ) (f g : Term) {a b : Small} {h : Happening} {r : Small} → IsSound used f → IsSound used g → seen out cs f ≡ a → seen out cs g ≡ b → Part cs f a → Part cs g b
      → Moves smalls ask (length cs) (both a b) h r → Back cs (par f g) h r
  joins cs f g wf wg ea eb left right (on_left {f' = f'} {h = h} m) =
      let p = left h f' m in
      record {
        act = p.act;
        term = par p.term g;
        step = par_left p.step;
        takes = p.takes;
        shows = p.shows;
        answered = answered_in used out f (par f g) p.act (λ j i. in_front j (pending_of f) (pending_of g) i) p.answered;
        is = λ out' same asks i. both (p.is out' same asks i) ((same_seen used out out' cs g same wg ∙ eb) i);
      }
  joins cs f g wf wg ea eb left right (on_right {g' = g'} {h = h} m) =
      let p = right h g' m in
      record {
        act = p.act;
        term = par f p.term;
        step = par_right p.step;
        takes = p.takes;
        shows = p.shows;
        answered = answered_in used out g (par f g) p.act (λ j i. in_back j (pending_of f) (pending_of g) i) p.answered;
        is = λ out' same asks i. both ((same_seen used out out' cs f same wf ∙ ea) i) (p.is out' same asks i);
      }

  -- a part that publishes
  record Published (cs : List ℕ) (t : Term) (v : Value) (r : Small) : Type 0 where
    term : Term
    step : Step defs used t (publishes v) term
    is : (out' : ℕ → Out) → ((j : ℕ) → IsIn j used.calls → out' j ≡ out j) → seen out' cs term ≡ r

  publishing : (cs : List ℕ) (t : Term) (v : Value) (r : Small) → Back cs t (published v) r → Published cs t v r
  publishing cs t v r p = go p.act (publication out p.act v p.shows) p.step p.is where
    go : (a : Act) → a ≡ publishes v → Step defs used t a p.term → ((out' : ℕ → Out) → ((j : ℕ) → IsIn j used.calls → out' j ≡ out j) → IsAsked ask out out' a → seen out' cs p.term ≡ r) → Published cs t v r
    go (calls j m args ds) e s is = cc e
    go (returns j b) e s is = cc e
    go (binds d w) e s is = cc e
    go (loses d) e s is = cc e
    go (publishes w) e s is = record { term = p.term; step = subst (λ (b : Act). Step defs used t b p.term) e s; is = λ out' same. is out' same tt }
    go silent e s is = cc e
    go (opens d) e s is = cc e

  feeds_right : (cs : List ℕ) (f : Term) (x : ℕ) (g : Term) {a b : Small} {h : Happening} {r : Small} → IsSound used (seq f x g) → seen out cs f ≡ a → seen out cs g ≡ b → Part cs f a
      → Moves smalls ask (length cs) (feeds a x b) h r → Back cs (seq f x g) h r
  feeds_right cs f x g w ea eb left (feeding {f' = f'} {h = h} passed m) =
      let p = left h f' m in
      record {
        act = p.act;
        term = seq p.term x g;
        step = seq_other (inner out p.act h p.shows passed) p.step;
        takes = p.takes;
        shows = p.shows;
        answered = answered_in used out f (seq f x g) p.act (λ j i. i) p.answered;
        is = λ out' same asks i. feeds (p.is out' same asks i) x ((same_seen used out out' cs g same w.1 ∙ eb) i);
      }
  feeds_right cs f x g {b = b} w ea eb left (fed {f' = f'} {v = v} m) =
      let p = publishing cs f v f' (left (published v) f' m) in
      record {
        act = silent;
        term = par (seq p.term x g) (put (Is v) x g);
        step = seq_value p.step;
        takes = tt;
        shows = refl;
        answered = tt;
        is = λ out' same asks.
            let g_is : seen out' cs g ≡ b = same_seen used out out' cs g same w.1 ∙ eb in
            let right : seen out' cs (put (Is v) x g) ≡ set (Is v) x b = put_seen out' cs (Is v) x g w.2 ∙ ap (set (Is v) x) g_is in
            λ i. both (feeds (p.is out' same i) x (g_is i)) (right i);
      }

  opens_cell : (cs : List ℕ) (f : Term) (x : ℕ) (g : Term) {a b : Small} {h : Happening} {r : Small} → IsSound used (prune f x g) → seen out cs f ≡ a → seen out cs g ≡ b
      → Moves smalls ask (length cs) (prunes a x b) h r → Back cs (prune f x g) h r
  opens_cell cs f x g {a = a} w ea eb small.opens =
      record {
        act = opens c;
        term = opened (put (Cell c) x f) c g;
        step = prune_open new_cell;
        takes = refl;
        shows = refl;
        answered = tt;
        is = λ out' same asks.
            let f_is : seen out' (c ∷ cs) f ≡ a = fresh used out' cs c f new_cell w.2 w.0 ∙ same_seen used out out' cs f same w.0 ∙ ea in
            let left : seen out' (c ∷ cs) (put (Cell c) x f) ≡ set (Cell (length cs)) x a = put_seen out' (c ∷ cs) (Cell c) x f w.2 ∙ (λ i. set (own_level c [] cs tt i) x (f_is i)) in
            λ i. needs (left i) ((same_seen used out out' cs g same w.1 ∙ eb) i);
      }

  falls_back : (cs : List ℕ) (f g : Term) {a b : Small} {h : Happening} {r : Small} → IsSound used (other f g) → seen out cs f ≡ a → seen out cs g ≡ b → Part cs f a
      → Moves smalls ask (length cs) (instead a b) h r → Back cs (other f g) h r
  falls_back cs f g w ea eb left (first {f' = f'} {h = h} passed m) =
      let p = left h f' m in
      record {
        act = p.act;
        term = other p.term g;
        step = other_step (inner out p.act h p.shows passed) p.step;
        takes = p.takes;
        shows = p.shows;
        answered = answered_in used out f (other f g) p.act (λ j i. i) p.answered;
        is = λ out' same asks i. instead (p.is out' same asks i) ((same_seen used out out' cs g same w.1 ∙ eb) i);
      }
  falls_back cs f g w ea eb left (passes {f' = f'} {v = v} m) =
      let p = publishing cs f v f' (left (published v) f' m) in
      record { act = publishes v; term = p.term; step = other_value p.step; takes = tt; shows = refl; answered = tt; is = λ out' same asks. p.is out' same }
  falls_back cs f g w ea eb left (falls over) =
      record {
        act = silent;
        term = g;
        step = other_halt (over_halted out cs f (subst IsOver (sym ea) over));
        takes = tt;
        shows = refl;
        answered = tt;
        is = λ out' same asks. same_seen used out out' cs g same w.1 ∙ eb;
      }

  returns_out : (cs : List ℕ) (j : ℕ) {o : Out} {h : Happening} {r : Small} → IsIn j used.calls → out j ≡ o → Moves smalls ask (length cs) (awaits o) h r → Back cs (pending j) h r
  returns_out cs j {o = o} made e (returned {a = a} rest) =
      record {
        act = returns j a;
        term = answered a;
        step = return_rule;
        takes = tt;
        answered = (inl refl, made, ap Out.rest e ∙ rest);
        shows = λ i. small.answered (Out.site (e i)) (Out.args (e i)) a;
        is = λ out' same asks. sym (left_seen out' cs a);
      }

  needs_cell : (cs : List ℕ) (f : Term) (d : ℕ) (g : Term) {a b : Small} {h : Happening} {r : Small} → IsSound used (opened f d g) → seen out (d ∷ cs) f ≡ a → seen out cs g ≡ b → Part (d ∷ cs) f a → Part cs g b
      → Moves smalls ask (length cs) (needs a b) h r → Back cs (opened f d g) h r
  needs_cell cs f d g w ea eb main side (on_main {f' = f'} {h = h} m) =
      let p = main h f' m in
      record {
        act = p.act;
        term = opened p.term d g;
        step = prune_left p.step;
        takes = p.takes;
        shows = p.shows;
        answered = answered_in used out f (opened f d g) p.act (λ j i. in_front j (pending_of f) (pending_of g) i) p.answered;
        is = λ out' same asks i. needs (p.is out' same asks i) ((same_seen used out out' cs g same w.1 ∙ eb) i);
      }
  needs_cell cs f d g w ea eb main side (on_side {g' = g'} {h = h} passed m) =
      let p = side h g' m in
      record {
        act = within d p.act;
        term = opened f d p.term;
        step = prune_right (inner out p.act h p.shows passed) p.step;
        takes = takes_within k c d p.act p.takes;
        shows = same_happening out d p.act ∙ p.shows;
        answered = answered_within used out d (opened f d g) p.act (answered_in used out g (opened f d g) p.act (λ j i. in_back j (pending_of f) (pending_of g) i) p.answered);
        is = λ out' same asks i. needs ((same_seen used out out' (d ∷ cs) f same w.0 ∙ ea) i) (p.is out' same (within_asked ask out out' d p.act asks) i);
      }
  needs_cell cs f d g {a = a} w ea eb main side (small.binds {g' = g'} {v = v} m) =
      let p = publishing cs g v g' (side (published v) g' m) in
      record {
        act = binds d v;
        term = fill (Is v) d f;
        step = prune_bind p.step;
        takes = tt;
        shows = refl;
        answered = tt;
        is = λ out' same asks. fill_seen (Is v) (λ ds. refl) d cs out' [] f tt w.2 ∙ ap (settle (Is v) (length cs)) (same_seen used out out' (d ∷ cs) f same w.0 ∙ ea);
      }
  needs_cell cs f d g w ea eb main side (small.loses over) =
      record {
        act = loses d;
        term = fill Void d f;
        step = prune_lost (over_halted out cs g (subst IsOver (sym eb) over));
        takes = tt;
        shows = refl;
        answered = tt;
        is = λ out' same asks. fill_seen Void (λ ds. refl) d cs out' [] f tt w.2 ∙ ap (settle Void (length cs)) (same_seen used out out' (d ∷ cs) f same w.0 ∙ ea);
      }

  pub is_step : (cs : List ℕ) (t : Term) → IsSound used t → IsScoped cs t → Part cs t (seen out cs t)
  is_step cs stop w s h r m = elim m [ ]
  is_step cs (param p) w s h r m = gave cs p s refl m
  is_step cs (site n ps) w s h r m = asks_site cs n ps s refl m
  is_step cs (call e ps) w s h r m = enters_body cs e ps refl m
  is_step cs (par f g) w s h r m = joins cs f g w.0 w.1 refl refl (is_step cs f w.0 s.0) (is_step cs g w.1 s.1) m
  is_step cs (seq f x g) w s h r m = feeds_right cs f x g w refl refl (is_step cs f w.0 s.0) m
  is_step cs (prune f x g) w s h r m = opens_cell cs f x g w refl refl m
  is_step cs (other f g) w s h r m = falls_back cs f g w refl refl (is_step cs f w.0 s.0) m
  is_step cs (pending j) w s h r m = returns_out cs j w refl m
  is_step cs (opened f d g) w s h r m = needs_cell cs f d g w refl refl (is_step (d ∷ cs) f w.0 s.0) (is_step cs g w.1 s.1) m
