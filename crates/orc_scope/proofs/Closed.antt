-- A program without faults is lawful.
use Rattle.std.proofs.Common.{◌≡◌, ◌^◌, ℕ, suc, ◌<◌, ◌≤◌, Bool, true, false, cond, nat_eq, bytes_eq, List, [], ◌∷◌, ◌++◌, map, length, get_or, Option, Some, None, inl, inr, refl, sym, ap, subst, ◌∙◌, arith}
use Rattle.std.specs.Option.{is_some}
use Rattle.std.specs.Prelude.{slice_get}
use Rattle.std.proofs.lemmas.Bool.{cond-false}
use Rattle.std.proofs.lemmas.Bool.Decides.{Decides-eqb}
use Rattle.std.proofs.lemmas.List.{length-map, length-take, get_or-map}
use Rattle.std.proofs.lemmas.Option.{slice_get-get_or}
use Rattle.orc_lex.specs.declared.token.Plain.TheVariants as plains
use Rattle.orc_lex.specs.declared.token.Span.{Span}
use Rattle.orc_rules.specs.declared.param.Param.{Param}
use Rattle.orc_rules.specs.declared.param.Param.TheVariants.{Name, Is, Cell, Void}
use Rattle.orc_rules.specs.Lost.{IsSource, AreSource}
use Rattle.orc_rules.specs.Nodes.{Listing, source, definitions}
use Rattle.orc_rules.specs.Program.{IsKnown, AreKnown, IsClosed, AreClosed, IsProgram}
use Rattle.orc_rules.specs.Term.{Term, Definition, stop, param, site, call, par, seq, prune, other, pending, opened}
use Rattle.orc_rules.specs.Timed.{IsIn}
use Rattle.orc_syntax.specs.Tree.{Label, Seq, Par, Prune, Other, Tree, Leaf, Variable, Call, Operation, Val, Trees, Nil, Cons, Define, Source, count, span_of}
use Rattle.orc_scope.specs.declared.fault.FaultKind.TheVariants.{Arity}
use Rattle.orc_scope.specs.Checking.{IsWrittenOut}
use Rattle.orc_rules.specs.Named.{CallsWithin, BodiesCallWithin}
use Rattle.orc_scope.specs.Lawful.{IsLawful}
use Rattle.orc_scope.specs.Scope.{Known, position, position_from, inner_meaning, meaning, outer_meaning, name_faults, call_faults, arity_faults, number_faults, fault, faults, faults_of_all, bound}
use Rattle.orc_scope.specs.Written.{number, written, written_all, called, params, param_or, as_param, pruned, prunings}
use Rattle.orc_scope.specs.Program.{text, name_of, arity_of, known_in, definition_faults, definitions_faults, program_faults, written_define, variables}
use Rattle.orc_scope.proofs.Places.{first, position_push, position_within, same_text}
use Rattle.orc_scope.proofs.Programs.{no_define}
use Rattle.orc_scope.proofs.Small.{front_empty, back_empty, no_body}

-- a term is closed, and calls sites below k
abbrev IsGood : List Definition → ℕ → List ℕ → Term → Type 0
IsGood defs k xs stop = Unit {0}
IsGood defs k xs (param p) = IsKnown xs p
IsGood defs k xs (site m ps) = AreKnown xs ps × (m < k)
IsGood defs k xs (call e ps) = AreKnown xs ps × (d : Definition) × (slice_get defs e ≡ Some d) × (length d.params ≡ length ps)
IsGood defs k xs (par f g) = IsGood defs k xs f × IsGood defs k xs g
IsGood defs k xs (seq f x g) = IsGood defs k xs f × IsGood defs k (x ∷ xs) g
IsGood defs k xs (prune f x g) = IsGood defs k (x ∷ xs) f × IsGood defs k xs g
IsGood defs k xs (other f g) = IsGood defs k xs f × IsGood defs k xs g
IsGood defs k xs (pending n) = ⊥
IsGood defs k xs (opened f c g) = ⊥

abbrev AreGood : List Definition → ℕ → List ℕ → List Term → Type 0
AreGood defs k xs [] = Unit {0}
AreGood defs k xs (f ∷ fs) = IsGood defs k xs f × AreGood defs k xs fs

good_closed : (defs : List Definition) (k : ℕ) (t : Term) (xs : List ℕ) → IsGood defs k xs t → IsClosed defs xs t
good_closed defs k stop xs h = h
good_closed defs k (param p) xs h = h
good_closed defs k (site m ps) xs h = h.0
good_closed defs k (call e ps) xs h = h
good_closed defs k (par f g) xs h = (good_closed defs k f xs h.0, good_closed defs k g xs h.1)
good_closed defs k (seq f x g) xs h = (good_closed defs k f xs h.0, good_closed defs k g (x ∷ xs) h.1)
good_closed defs k (prune f x g) xs h = (good_closed defs k f (x ∷ xs) h.0, good_closed defs k g xs h.1)
good_closed defs k (other f g) xs h = (good_closed defs k f xs h.0, good_closed defs k g xs h.1)
good_closed defs k (pending n) xs h = h
good_closed defs k (opened f c g) xs h = h

good_sites : (defs : List Definition) (k m : ℕ) (t : Term) (xs : List ℕ) → k ≤ m → IsGood defs k xs t → CallsWithin m t
good_sites defs k m stop xs le h = tt
good_sites defs k m (param p) xs le h = tt
good_sites defs k m (site n ps) xs le h = let lt = h.1 in omega (arith, le, lt)
good_sites defs k m (call e ps) xs le h = tt
good_sites defs k m (par f g) xs le h = (good_sites defs k m f xs le h.0, good_sites defs k m g xs le h.1)
good_sites defs k m (seq f x g) xs le h = (good_sites defs k m f xs le h.0, good_sites defs k m g (x ∷ xs) le h.1)
good_sites defs k m (prune f x g) xs le h = (good_sites defs k m f (x ∷ xs) le h.0, good_sites defs k m g xs le h.1)
good_sites defs k m (other f g) xs le h = (good_sites defs k m f xs le h.0, good_sites defs k m g xs le h.1)
good_sites defs k m (pending n) xs le h = tt
good_sites defs k m (opened f c g) xs le h = elim h [ ]

closed_source : (defs : List Definition) (t : Term) (xs : List ℕ) → IsClosed defs xs t → IsSource t
closed_source defs stop xs h = tt
closed_source defs (param p) xs h = tt
closed_source defs (site m ps) xs h = tt
closed_source defs (call e ps) xs h = tt
closed_source defs (par f g) xs h = (closed_source defs f xs h.0, closed_source defs g xs h.1)
closed_source defs (seq f x g) xs h = (closed_source defs f xs h.0, closed_source defs g (x ∷ xs) h.1)
closed_source defs (prune f x g) xs h = (closed_source defs f (x ∷ xs) h.0, closed_source defs g xs h.1)
closed_source defs (other f g) xs h = (closed_source defs f xs h.0, closed_source defs g xs h.1)
closed_source defs (pending n) xs h = h
closed_source defs (opened f c g) xs h = h

-- more names in scope
abbrev Within : List ℕ → List ℕ → Type 0
Within xs ys = (x : ℕ) → IsIn x xs → IsIn x ys

within_cons : (xs ys : List ℕ) (n : ℕ) → Within xs ys → Within (n ∷ xs) (n ∷ ys)
within_cons xs ys n w x (inl e) = inl e
within_cons xs ys n w x (inr i) = inr (w x i)

known_more : (xs ys : List ℕ) (p : Param) → Within xs ys → IsKnown xs p → IsKnown ys p
known_more xs ys (Name x) w h = w x h
known_more xs ys (Is v) w h = h
known_more xs ys (Cell c) w h = h
known_more xs ys Void w h = h

are_known_more : (xs ys : List ℕ) (ps : List Param) → Within xs ys → AreKnown xs ps → AreKnown ys ps
are_known_more xs ys [] w h = tt
are_known_more xs ys (p ∷ ps) w h = (known_more xs ys p w h.0, are_known_more xs ys ps w h.1)

good_more : (defs : List Definition) (k : ℕ) (t : Term) (xs ys : List ℕ) → Within xs ys → IsGood defs k xs t → IsGood defs k ys t
good_more defs k stop xs ys w h = tt
good_more defs k (param p) xs ys w h = known_more xs ys p w h
good_more defs k (site m ps) xs ys w h = (are_known_more xs ys ps w h.0, h.1)
good_more defs k (call e ps) xs ys w h = (are_known_more xs ys ps w h.0, h.1, h.2, h.3)
good_more defs k (par f g) xs ys w h = (good_more defs k f xs ys w h.0, good_more defs k g xs ys w h.1)
good_more defs k (seq f x g) xs ys w h = (good_more defs k f xs ys w h.0, good_more defs k g (x ∷ xs) (x ∷ ys) (within_cons xs ys x w) h.1)
good_more defs k (prune f x g) xs ys w h = (good_more defs k f (x ∷ xs) (x ∷ ys) (within_cons xs ys x w) h.0, good_more defs k g xs ys w h.1)
good_more defs k (other f g) xs ys w h = (good_more defs k f xs ys w h.0, good_more defs k g xs ys w h.1)
good_more defs k (pending n) xs ys w h = h
good_more defs k (opened f c g) xs ys w h = h

-- the new variables of a call's prunings
abbrev named : ℕ → Option Param → List ℕ → List ℕ
named n (Some p) xs = xs
named n None xs = n ∷ xs

abbrev fresh : ℕ → List Term → List ℕ → List ℕ
fresh n [] xs = xs
fresh n (g ∷ gs) xs = named n (as_param g) (fresh (suc n) gs xs)

named_within : (n : ℕ) (o : Option Param) (xs : List ℕ) → Within xs (named n o xs)
named_within n (Some p) xs x i = i
named_within n None xs x i = inr i

fresh_within : (n : ℕ) (gs : List Term) (xs : List ℕ) → Within xs (fresh n gs xs)
fresh_within n [] xs x i = i
fresh_within n (g ∷ gs) xs x i = named_within n (as_param g) (fresh (suc n) gs xs) x (fresh_within (suc n) gs xs x i)

pruned_good : (defs : List Definition) (k n : ℕ) (f g : Term) (o : Option Param) (ys : List ℕ) → IsGood defs k (named n o ys) f → IsGood defs k ys g → IsGood defs k ys (pruned f n g o)
pruned_good defs k n f g (Some p) ys h w = h
pruned_good defs k n f g None ys h w = (h, w)

prunings_good : (defs : List Definition) (k n : ℕ) (f : Term) (gs : List Term) (xs : List ℕ) → IsGood defs k (fresh n gs xs) f → AreGood defs k xs gs → IsGood defs k xs (prunings n f gs)
prunings_good defs k n f [] xs h a = h
prunings_good defs k n f (g ∷ gs) xs h a =
    let ys = fresh (suc n) gs xs in
    prunings_good defs k (suc n) (pruned f n g (as_param g)) gs xs (pruned_good defs k n f g (as_param g) ys h (good_more defs k g xs ys (fresh_within (suc n) gs xs) a.0)) a.1

abbrev some_of : Option Param → Param → Param
some_of (Some p) d = p
some_of None d = d

param_known : (defs : List Definition) (k : ℕ) (xs : List ℕ) (g : Term) (p : Param) → IsGood defs k xs g → as_param g ≡ Some p → IsKnown xs p
param_known defs k xs (param q) p h e = subst (λ (r : Param). IsKnown xs r) (ap (λ (o : Option Param). some_of o q) e) h
param_known defs k xs stop p h e = cc e
param_known defs k xs (site m ps) p h e = cc e
param_known defs k xs (call m ps) p h e = cc e
param_known defs k xs (par f g) p h e = cc e
param_known defs k xs (seq f x g) p h e = cc e
param_known defs k xs (prune f x g) p h e = cc e
param_known defs k xs (other f g) p h e = cc e
param_known defs k xs (pending n) p h e = cc e
param_known defs k xs (opened f c g) p h e = cc e

first_known : (defs : List Definition) (k n : ℕ) (g : Term) (xs ys : List ℕ) → Within xs ys → IsGood defs k xs g → (o : Option Param) → as_param g ≡ o → IsKnown (named n o ys) (param_or n o)
first_known defs k n g xs ys w h (Some p) e = known_more xs ys p w (param_known defs k xs g p h e)
first_known defs k n g xs ys w h None e = inl refl

params_known : (defs : List Definition) (k n : ℕ) (gs : List Term) (xs : List ℕ) → AreGood defs k xs gs → AreKnown (fresh n gs xs) (params n gs)
params_known defs k n [] xs a = tt
params_known defs k n (g ∷ gs) xs a =
    let ys = fresh (suc n) gs xs in
    (first_known defs k n g xs ys (fresh_within (suc n) gs xs) a.0 (as_param g) refl, are_known_more ys (named n (as_param g) ys) (params (suc n) gs) (named_within n (as_param g) ys) (params_known defs k (suc n) gs xs a.1))

params_length : (n : ℕ) (gs : List Term) → length (params n gs) ≡ length gs
params_length n [] = refl
params_length n (g ∷ gs) = ap suc (params_length (suc n) gs)

-- each known definition is there, with its number of parameters
abbrev Fits : Known → List Definition → Type 0
Fits known defs = (e : ℕ) → e < length known.definitions → (d : Definition) × (slice_get defs e ≡ Some d) × (slice_get known.arities e ≡ Some (length d.params))

arity_right : (want got : ℕ) (span : Span) → arity_faults (Some want) got span ≡ [] → want ≡ got
arity_right want got span e = go (nat_eq want got) refl
  where
    go : (b : Bool) → nat_eq want got ≡ b → want ≡ got
    go true b = (Decides-eqb want got).0 b
    go false b = cc (sym (cond-false (nat_eq want got) [] (fault (Arity want got) span ∷ []) b) ∙ e)

outer_good : (known : Known) (defs : List Definition) → Fits known defs → (text : List ℕ) (got : ℕ) (span : Span) (ps : List Param) (xs : List ℕ) → length ps ≡ got → AreKnown xs ps → (o m : Option ℕ) → position known.definitions text ≡ o → position known.sites text ≡ m
    → call_faults known (outer_meaning o m) got span ≡ [] → IsGood defs (length known.sites) xs (called (outer_meaning o m) ps)
outer_good known defs fit text got span ps xs n are (Some e) m o d h =
    let f = fit e (position_within known.definitions text e o) in
    (are, f.0, f.1, arity_right (length f.0.params) got span (sym (ap (λ (a : Option ℕ). arity_faults a got span) f.2) ∙ h) ∙ sym n)
outer_good known defs fit text got span ps xs n are None (Some m) o d h = (are, position_within known.sites text m d)
outer_good known defs fit text got span ps xs n are None None o d h = cc h

call_good : (known : Known) (defs : List Definition) → Fits known defs → (text : List ℕ) (got : ℕ) (span : Span) (ps : List Param) (xs : List ℕ) → length ps ≡ got → AreKnown xs ps → (o : Option ℕ)
    → call_faults known (inner_meaning known text o) got span ≡ [] → IsGood defs (length known.sites) xs (called (outer_meaning (position known.definitions text) (position known.sites text)) ps)
call_good known defs fit text got span ps xs n are (Some v) h = cc h
call_good known defs fit text got span ps xs n are None h = outer_good known defs fit text got span ps xs n are (position known.definitions text) (position known.sites text) refl refl h

-- the names in scope have their numbers among these
abbrev Covers : List (List ℕ) → List (List ℕ) → List ℕ → Type 0
Covers names scope xs = (text : List ℕ) → is_some (position scope text) ≡ true → IsIn (number names text) xs

covers_new : (names scope : List (List ℕ)) (xs : List ℕ) (n : ℕ) → Covers names scope xs → Covers names scope (n ∷ xs)
covers_new names scope xs n c text h = inr (c text h)

covers_bind : (names scope : List (List ℕ)) (xs : List ℕ) (x : List ℕ) → Covers names scope xs → Covers names (scope ++ x ∷ []) (number names x ∷ xs)
covers_bind names scope xs x c text h = go (position scope text) refl (sym (ap is_some (position_push scope x text)) ∙ h)
  where
    other_name : (b : Bool) → bytes_eq x text ≡ b → is_some (cond (bytes_eq x text) (Some (length scope)) None) ≡ true → IsIn (number names text) (number names x ∷ xs)
    other_name true b k = inl (ap (number names) (sym (same_text x text b)))
    other_name false b k = cc (sym (ap is_some (cond-false (bytes_eq x text) (Some (length scope)) None b)) ∙ k)

    go : (o : Option ℕ) → position scope text ≡ o → is_some (first (position scope text) (cond (bytes_eq x text) (Some (length scope)) None)) ≡ true → IsIn (number names text) (number names x ∷ xs)
    go (Some n) e k = inr (c text (ap is_some e))
    go None e k = other_name (bytes_eq x text) refl (sym (ap (λ (o : Option ℕ). is_some (first o (cond (bytes_eq x text) (Some (length scope)) None))) e) ∙ k)

covers_from : (names : List (List ℕ)) (n : ℕ) (ps : List Label) (t : List ℕ) → is_some (position_from n (map text ps) t) ≡ true → IsIn (number names t) (map (λ x. number names x.text) ps)
covers_from names n [] t h = cc h
covers_from names n (p ∷ ps) t h = go (λ later. covers_from names (suc n) ps t later) (bytes_eq p.text t) refl
  where
    go : (is_some (position_from (suc n) (map text ps) t) ≡ true → IsIn (number names t) (map (λ x. number names x.text) ps)) → (b : Bool) → bytes_eq p.text t ≡ b → IsIn (number names t) (number names p.text ∷ map (λ x. number names x.text) ps)
    go later true b = inl (ap (number names) (sym (same_text p.text t b)))
    go later false b = inr (later (sym (ap is_some (cond-false (bytes_eq p.text t) (Some n) (position_from (suc n) (map text ps) t) b)) ∙ h))

variable_good : (known : Known) (names scope : List (List ℕ)) (xs : List ℕ) (x : Label) → Covers names scope xs → name_faults (meaning known scope x.text) x.span ≡ [] → IsIn (number names x.text) xs
variable_good known names scope xs x c h = go (position scope x.text) refl
  where
    outside : (o m : Option ℕ) → name_faults (outer_meaning o m) x.span ≡ [] → IsIn (number names x.text) xs
    outside (Some e) m k = cc k
    outside None (Some m) k = cc k
    outside None None k = cc k

    go : (o : Option ℕ) → position scope x.text ≡ o → IsIn (number names x.text) xs
    go (Some n) e = c x.text (ap is_some e)
    go None e = outside (position known.definitions x.text) (position known.sites x.text) (sym (ap (λ (o : Option ℕ). name_faults (inner_meaning known x.text o) x.span) e) ∙ h)

count_all : (known : Known) (names : List (List ℕ)) (es : Trees) → length (written_all known names es) ≡ count es
count_all known names Nil = refl
count_all known names (Cons t es) = ap suc (count_all known names es)

mutual
  pub good : (known : Known) (names : List (List ℕ)) (defs : List Definition) → Fits known defs → (t : Tree) (scope : List (List ℕ)) (xs : List ℕ) → Covers names scope xs → faults known scope t ≡ [] → IsGood defs (length known.sites) xs (written known names t)
  good known names defs fit (Leaf plains.Stop span) scope xs c e = tt
  good known names defs fit (Leaf (plains.Number n) span) scope xs c e = tt
  good known names defs fit (Leaf (plains.Truth b) span) scope xs c e = tt
  good known names defs fit (Leaf plains.Signal span) scope xs c e = tt
  good known names defs fit (Variable x) scope xs c e = variable_good known names scope xs x c e
  good known names defs fit (Call x es span) scope xs c e =
      let here = call_faults known (meaning known scope x.text) (count es) x.span in
      let all = faults_of_all known scope 1 es in
      let us = written_all known names es in
      let n = length names in
      let are = good_all known names defs fit es 1 scope xs c (back_empty here all e) in
      prunings_good defs (length known.sites) n (called (outer_meaning (position known.definitions x.text) (position known.sites x.text)) (params n us)) us xs
      (call_good known defs fit x.text (count es) x.span (params n us) (fresh n us xs) (params_length n us ∙ count_all known names es) (params_known defs (length known.sites) n us xs are) (position scope x.text) (front_empty here all e)) are
  good known names defs fit (Operation (Seq (Some x)) f g span) scope xs c e =
      let fg = faults known (bound (Some x.text) scope) g in
      let ff = faults known scope f in
      (good known names defs fit f scope xs c (back_empty fg ff e), good known names defs fit g (bound (Some x.text) scope) (number names x.text ∷ xs) (covers_bind names scope xs x.text c) (front_empty fg ff e))
  good known names defs fit (Operation (Seq None) f g span) scope xs c e =
      let fg = faults known scope g in
      let ff = faults known scope f in
      (good known names defs fit f scope xs c (back_empty fg ff e), good known names defs fit g scope (length names ∷ xs) (covers_new names scope xs (length names) c) (front_empty fg ff e))
  good known names defs fit (Operation Par f g span) scope xs c e =
      let fg = faults known scope g in
      let ff = faults known scope f in
      (good known names defs fit f scope xs c (back_empty fg ff e), good known names defs fit g scope xs c (front_empty fg ff e))
  good known names defs fit (Operation (Prune (Some x)) f g span) scope xs c e =
      let fg = faults known scope g in
      let ff = faults known (bound (Some x.text) scope) f in
      (good known names defs fit f (bound (Some x.text) scope) (number names x.text ∷ xs) (covers_bind names scope xs x.text c) (back_empty fg ff e), good known names defs fit g scope xs c (front_empty fg ff e))
  good known names defs fit (Operation (Prune None) f g span) scope xs c e =
      let fg = faults known scope g in
      let ff = faults known scope f in
      (good known names defs fit f scope (length names ∷ xs) (covers_new names scope xs (length names) c) (back_empty fg ff e), good known names defs fit g scope xs c (front_empty fg ff e))
  good known names defs fit (Operation Other f g span) scope xs c e =
      let fg = faults known scope g in
      let ff = faults known scope f in
      (good known names defs fit f scope xs c (back_empty fg ff e), good known names defs fit g scope xs c (front_empty fg ff e))
  good known names defs fit (Val x g f span) scope xs c e =
      let ff = faults known (bound (Some x.text) scope) f in
      let fg = faults known scope g in
      (good known names defs fit f (bound (Some x.text) scope) (number names x.text ∷ xs) (covers_bind names scope xs x.text c) (front_empty ff fg e), good known names defs fit g scope xs c (back_empty ff fg e))

  pub good_all : (known : Known) (names : List (List ℕ)) (defs : List Definition) → Fits known defs → (es : Trees) (n : ℕ) (scope : List (List ℕ)) (xs : List ℕ) → Covers names scope xs → faults_of_all known scope n es ≡ [] → AreGood defs (length known.sites) xs (written_all known names es)
  good_all known names defs fit Nil n scope xs c e = tt
  good_all known names defs fit (Cons t es) n scope xs c e =
      let later = faults_of_all known scope (suc n) es in
      let here = number_faults n (span_of t) ++ faults known scope t in
      (good known names defs fit t scope xs c (back_empty (number_faults n (span_of t)) (faults known scope t) (back_empty later here e)), good_all known names defs fit es (suc n) scope xs c (front_empty later here e))

abbrev BodiesGood : List Definition → ℕ → List Definition → Type 0
BodiesGood defs k [] = Unit {0}
BodiesGood defs k (d ∷ ds) = IsGood defs k d.params d.body × BodiesGood defs k ds

bodies_good : (known : Known) (names : List (List ℕ)) (defs : List Definition) → Fits known defs → (seen : List (List ℕ)) (ds : List Define) → definitions_faults known seen ds ≡ [] → BodiesGood defs (length known.sites) (map (written_define known names) ds)
bodies_good known names defs fit seen [] e = tt
bodies_good known names defs fit seen (d ∷ ds) e =
    let later = definitions_faults known (seen ++ d.name.text ∷ []) ds in
    (good known names defs fit d.body (map text d.parameters) (map (λ x. number names x.text) d.parameters) (λ t h. covers_from names 0 d.parameters t h) (no_body known seen d (front_empty (definition_faults known seen d) later e)), bodies_good known names defs fit (seen ++ d.name.text ∷ []) ds (back_empty (definition_faults known seen d) later e))

are_closed : (defs : List Definition) (k : ℕ) (ds : List Definition) → BodiesGood defs k ds → AreClosed defs ds
are_closed defs k [] h = tt
are_closed defs k (d ∷ ds) h = (good_closed defs k d.body d.params h.0, are_closed defs k ds h.1)

call_sites : (defs : List Definition) (k m : ℕ) (ds : List Definition) → k ≤ m → BodiesGood defs k ds → BodiesCallWithin m ds
call_sites defs k m [] le h = tt
call_sites defs k m (d ∷ ds) le h = (good_sites defs k m d.body d.params le h.0, call_sites defs k m ds le h.1)

are_source : (defs : List Definition) (ds : List Definition) → AreClosed defs ds → AreSource ds
are_source defs [] h = tt
are_source defs (d ∷ ds) h = (closed_source defs d.body d.params h.0, are_source defs ds h.1)

fits : (sites names : List (List ℕ)) (s : Source) → Fits (known_in sites s) (map (written_define (known_in sites s) names) s.definitions)
fits sites names s e lt =
    let known = known_in sites s in
    let ds = s.definitions in
    let d = get_or ds e no_define in
    let le : e < length ds = rw (sym (length-map ds name_of)) lt in
    let w = written_define known names in (
      w d,
      slice_get-get_or (map w ds) e (w no_define) (rw (length-map ds w) le) ∙ ap Some (get_or-map w ds e no_define (w no_define) le),
      slice_get-get_or (map arity_of ds) e (arity_of no_define) (rw (length-map ds arity_of) le) ∙ ap Some (get_or-map arity_of ds e no_define (arity_of no_define) le ∙ sym (length-map d.parameters (λ x. number names x.text))),
    )

pub lawful : (sites : List (List ℕ)) (s : Source) (l : Listing) → program_faults sites s ≡ [] → IsWrittenOut (known_in sites s) (variables s) s l → IsLawful sites l
lawful sites s l e out =
    let known = known_in sites s in
    let names = variables s in
    let defs = map (written_define known names) s.definitions in
    let k = length known.sites in
    let le : k ≤ length sites = let t = length-take (2 ^ 32) sites in omega (arith, t) in
    let fd = definitions_faults known [] s.definitions in
    let fm = faults known [] s.main in
    let main = good known names defs (fits sites names s) s.main [] [] (λ t h. cc h) (back_empty fd fm e) in
    let bodies = bodies_good known names defs (fits sites names s) [] s.definitions (front_empty fd fm e) in
    let closed = good_closed defs k (written known names s.main) [] main in
    let all = are_closed defs k defs bodies in
    let program : IsProgram (definitions l) (source l) = subst (λ (f : Term). IsProgram (definitions l) f) (sym out.source) (subst (λ (ds : List Definition). IsProgram ds (written known names s.main)) (sym out.definitions) (closed, all)) in
    record {
      program = program;
      source_sites = subst (λ (f : Term). CallsWithin (length sites) f) (sym out.source) (good_sites defs k (length sites) (written known names s.main) [] le main);
      body_sites = subst (λ (ds : List Definition). BodiesCallWithin (length sites) ds) (sym out.definitions) (call_sites defs k (length sites) defs le bodies);
      is_source = closed_source (definitions l) (source l) [] program.0;
      are_source = are_source (definitions l) (definitions l) program.1;
    }
