-- A site's lines by their places: the first that matches is found by the shapes that the lines have.
use Rattle.std.proofs.Common.{◌≡◌, ◌<◌, ◌≤◌, ◌+◌, ◌⊎◌, inl, inr, ℕ, suc, Bool, true, false, cond, List, [], ◌∷◌, ◌++◌, length, length-append, append-nil, drop, get_or, Option, Some, None, refl, sym, ap, subst, ◌∙◌, arith}
use Rattle.std.proofs.Math.Seq.{drop-cons}
use Rattle.std.proofs.lemmas.Bool.{and_parts}
use Rattle.std.proofs.lemmas.List.{map-append, length-map}
use Rattle.std.specs.Prelude.{◌&&◌, ◌||◌, ◌==◌, ◌-◌, is_some, option_map, slice_get, min}
use Rattle.std.specs.Bool.{Decides, beq}
use Rattle.std.specs.Global.{Vec}
use Rattle.std.specs.List.{AllByRecursion}
use Rattle.std.specs.Cmp.Lexicographic.{pointwise, pointwise_decides}
use Rattle.std.proofs.lemmas.Bool.Decides.{nat_tests}
use Rattle.orc_rules.specs.declared.lines.Line.{Line as CodeLine}
use Rattle.orc_rules.specs.declared.value.Value.{Value}
use Rattle.orc_rules.specs.declared.value.Found.{Found}
use Rattle.orc_rules.specs.Sites.{Line, value_eq, matches, nth_answer, line_answer, last_of_line, halts}
use Rattle.orc_rules.specs.Lines.{line_of, lines_of, patterns_eq, first_place, match_place, shape_of, filled, is_among, found, place_in, or_place, Keeps, Enters, Indexes}
use Rattle.orc_rules.proofs.Values.{value_decides, patterns_decide, Puts}

-- ---- shapes

bool_decides : (a b : Bool) → Decides (beq a b) (a ≡ b)
bool_decides true true = (λ h. refl, λ e. refl)
bool_decides true false = (λ h. sym h, λ e. sym e)
bool_decides false true = (λ h. h, λ e. e)
bool_decides false false = (λ h. refl, λ e. refl)

shapes_decide : (s t : List Bool) → Decides (pointwise beq s t) (s ≡ t)
shapes_decide s t = pointwise_decides bool_decides s t

-- patterns of a shape that have the values of arguments match these
matches_filled : (s : List Bool) (args : List Value) → length s ≡ length args → matches (filled s args) args ≡ true
matches_filled [] [] e = refl
matches_filled [] (v ∷ vs) e = absurd (omega (arith, e))
matches_filled (b ∷ s) [] e = absurd (omega (arith, e))
matches_filled (true ∷ s) (v ∷ vs) e = λ i. (value_decides v v).1 refl i && matches_filled s vs (omega (arith, e)) i
matches_filled (false ∷ s) (v ∷ vs) e = matches_filled s vs (omega (arith, e))

-- patterns that match are those that their shape has with the arguments' values
filled_again : (ps : List (Option Value)) (args : List Value) → matches ps args ≡ true → filled (shape_of ps) args ≡ ps
filled_again [] [] h = refl
filled_again [] (v ∷ vs) h = absurd (cc h)
filled_again (None ∷ ps) [] h = absurd (cc h)
filled_again (Some p ∷ ps) [] h = absurd (cc h)
filled_again (None ∷ ps) (v ∷ vs) h = ap (λ z. None ∷ z) (filled_again ps vs h)
filled_again (Some p ∷ ps) (v ∷ vs) h =
    let both = and_parts (value_eq p v) (matches ps vs) h in
    let same : p ≡ v = (value_decides p v).0 both.0 in
    λ i. Some (sym same i) ∷ filled_again ps vs both.1 i

shape_long : (ps : List (Option Value)) (args : List Value) → matches ps args ≡ true → length (shape_of ps) ≡ length args
shape_long [] [] h = refl
shape_long [] (v ∷ vs) h = absurd (cc h)
shape_long (None ∷ ps) [] h = absurd (cc h)
shape_long (Some p ∷ ps) [] h = absurd (cc h)
shape_long (None ∷ ps) (v ∷ vs) h = ap suc (shape_long ps vs h)
shape_long (Some p ∷ ps) (v ∷ vs) h = ap suc (shape_long ps vs (and_parts (value_eq p v) (matches ps vs) h).1)

pub none_filled : (ps : List (Option Value)) (s : List Bool) (args : List Value) → length args < 1 → ps ≡ ps ++ filled s args
none_filled ps [] args h = sym (append-nil ps)
none_filled ps (true ∷ s) [] h = sym (append-nil ps)
none_filled ps (false ∷ s) [] h = sym (append-nil ps)
none_filled ps (b ∷ s) (v ∷ vs) h = absurd (omega (arith, h))

-- ---- the first line

abbrev AtLeast : ℕ → Option ℕ → Type 0
AtLeast n None = Unit {0}
AtLeast n (Some p) = n ≤ p

abbrev AtMost : ℕ → Option ℕ → Type 0
AtMost n None = ⊥
AtMost n (Some p) = p ≤ n

least : (o : Option ℕ) → AtLeast 0 o
least None = tt
least (Some p) = omega arith

least_next : (n : ℕ) (o : Option ℕ) → AtLeast n o → AtLeast (suc n) (option_map suc o)
least_next n None h = tt
least_next n (Some p) h = omega (arith, h)

most_next : (n : ℕ) (b : Bool) (o : Option ℕ) → AtMost n o → AtMost (suc n) (cond b (Some 0) (option_map suc o))
most_next n true o h = omega arith
most_next n false None h = h
most_next n false (Some p) h = omega (arith, h)

-- no line with patterns that match stands before the first that matches
not_before : (ls : List Line) (ps : List (Option Value)) (args : List Value) → matches ps args ≡ true → AtLeast (match_place ls args) (first_place ls ps)
not_before [] ps args h = tt
not_before (l ∷ ls) ps args h = go (not_before ls ps args h) (patterns_eq l.patterns ps) refl (matches l.patterns args) refl
  where
    go : AtLeast (match_place ls args) (first_place ls ps) → (b : Bool) → patterns_eq l.patterns ps ≡ b → (c : Bool) → matches l.patterns args ≡ c → AtLeast (cond c 0 (suc (match_place ls args))) (cond b (Some 0) (option_map suc (first_place ls ps)))
    go rest b e true f = least (cond b (Some 0) (option_map suc (first_place ls ps)))
    go rest true e false f = absurd (cc (sym f ∙ ap (λ z. matches z args) ((patterns_decide l.patterns ps).0 e) ∙ h))
    go rest false e false f = least_next (match_place ls args) (first_place ls ps) rest

-- a shape by which the first line that matches is found
record Finds (ls : List Line) (args : List Value) (shapes : List (Vec Bool)) : Type 0 where
  pub shape : List Bool
  pub among : is_among shape shapes ≡ true
  pub long : length shape ≡ length args
  pub there : AtMost (match_place ls args) (first_place ls (filled shape args))

found_or_none : (ls : List Line) (args : List Value) (shapes : List (Vec Bool)) → AllByRecursion (λ l. is_among (shape_of l.patterns) shapes ≡ true) ls → (length ls ≤ match_place ls args) ⊎ Finds ls args shapes
found_or_none [] args shapes known = inl (omega arith)
found_or_none (l ∷ ls) args shapes known = go (matches l.patterns args) refl (found_or_none ls args shapes known.1)
  where
    here : matches l.patterns args ≡ true → AtMost 0 (first_place (l ∷ ls) (filled (shape_of l.patterns) args))
    here m =
        let same : patterns_eq l.patterns (filled (shape_of l.patterns) args) ≡ true = (patterns_decide l.patterns (filled (shape_of l.patterns) args)).1 (sym (filled_again l.patterns args m)) in
        subst (λ b. AtMost 0 (cond b (Some 0) (option_map suc (first_place ls (filled (shape_of l.patterns) args))))) (sym same) (omega arith)

    go : (b : Bool) → matches l.patterns args ≡ b → (length ls ≤ match_place ls args) ⊎ Finds ls args shapes → (suc (length ls) ≤ match_place (l ∷ ls) args) ⊎ Finds (l ∷ ls) args shapes
    go true m rest = inr (record { shape = shape_of l.patterns; among = known.0; long = shape_long l.patterns args m; there = subst (λ b. AtMost (cond b 0 (suc (match_place ls args))) (first_place (l ∷ ls) (filled (shape_of l.patterns) args))) (sym m) (here m) })
    go false m (inl past) = inl (subst (λ b. suc (length ls) ≤ cond b 0 (suc (match_place ls args))) (sym m) (omega (arith, past)))
    go false m (inr f) = inr (record { shape = f.shape; among = f.among; long = f.long; there = subst (λ b. AtMost (cond b 0 (suc (match_place ls args))) (first_place (l ∷ ls) (filled f.shape args))) (sym m) (most_next (match_place ls args) (patterns_eq l.patterns (filled f.shape args)) (first_place ls (filled f.shape args)) f.there) })

match_within : (ls : List Line) (args : List Value) → match_place ls args ≤ length ls
match_within [] args = omega arith
match_within (l ∷ ls) args = go (matches l.patterns args) (match_within ls args)
  where
    go : (b : Bool) → match_place ls args ≤ length ls → cond b 0 (suc (match_place ls args)) ≤ suc (length ls)
    go true h = omega arith
    go false h = omega (arith, h)

-- a line more is looked at
module _ (ls : List CodeLine) (i : ℕ) (l : CodeLine) (args : List Value) (is : i < length ls) (at : l ≡ get_or ls i l) where
  in_front : drop i ls ≡ l ∷ drop (i + 1) ls
  in_front =
      let next : suc i ≡ i + 1 = omega arith in
      drop-cons ls i l is ∙ (λ j. sym at j ∷ drop (next j) ls)

  pub match_here : matches l.patterns.items args ≡ true → match_place (lines_of (drop i ls)) args ≡ 0
  match_here m = ap (λ ms. match_place (lines_of ms) args) in_front ∙ ap (λ b. cond b 0 (suc (match_place (lines_of (drop (i + 1) ls)) args))) m

  pub match_later : matches l.patterns.items args ≡ false → match_place (lines_of (drop i ls)) args ≡ suc (match_place (lines_of (drop (i + 1) ls)) args)
  match_later m = ap (λ ms. match_place (lines_of ms) args) in_front ∙ ap (λ b. cond b 0 (suc (match_place (lines_of (drop (i + 1) ls)) args))) m

-- ---- the search

abbrev pub nearer : ℕ → Option ℕ → ℕ
nearer first None = first
nearer first (Some p) = min first p

-- the least of `first` and the places that these shapes give
abbrev pub first_among : List (Vec (Option Value) × ℕ) → List (Vec Bool) → List Value → ℕ → ℕ
first_among es [] args first = first
first_among es (s ∷ ss) args first = first_among es ss args (nearer first (place_in es s.items args))

module _ (ls : List Line) (es : List (Vec (Option Value) × ℕ)) (args : List Value) (finds : (ps : List (Option Value)) → found ps es ≡ first_place ls ps) where
  place_least : (s : List Bool) → AtLeast (match_place ls args) (place_in es s args)
  place_least s = go (length s == length args) refl
    where
      go : (b : Bool) → (length s == length args) ≡ b → AtLeast (match_place ls args) (cond b (found (filled s args) es) None)
      go false e = tt
      go true e =
          let long : length s ≡ length args = grind (arith, nat_tests) in
          subst (AtLeast (match_place ls args)) (sym (finds (filled s args))) (not_before ls (filled s args) args (matches_filled s args long))

  place_most : (s : List Bool) → length s ≡ length args → AtMost (match_place ls args) (first_place ls (filled s args)) → AtMost (match_place ls args) (place_in es s args)
  place_most s long h =
      let yes : (length s == length args) ≡ true = grind (arith, nat_tests) in
      subst (λ b. AtMost (match_place ls args) (cond b (found (filled s args) es) None)) (sym yes) (subst (AtMost (match_place ls args)) (sym (finds (filled s args))) h)

  near_least : (n first : ℕ) (o : Option ℕ) → AtLeast n o → n ≤ first → n ≤ nearer first o
  near_least n first None h k = k
  near_least n first (Some p) h k = omega (arith, h, k)

  near_most : (n first : ℕ) (o : Option ℕ) → AtMost n o → nearer first o ≤ n
  near_most n first None h = absurd h
  near_most n first (Some p) h = omega (arith, h)

  near_falls : (first : ℕ) (o : Option ℕ) → nearer first o ≤ first
  near_falls first None = omega arith
  near_falls first (Some p) = omega arith

  above : (ss : List (Vec Bool)) (first : ℕ) → match_place ls args ≤ first → match_place ls args ≤ first_among es ss args first
  above [] first h = h
  above (s ∷ ss) first h = above ss (nearer first (place_in es s.items args)) (near_least (match_place ls args) first (place_in es s.items args) (place_least s.items) h)

  falls : (ss : List (Vec Bool)) (first : ℕ) → first_among es ss args first ≤ first
  falls [] first = omega arith
  falls (s ∷ ss) first = omega (arith, falls ss (nearer first (place_in es s.items args)), near_falls first (place_in es s.items args))

  below : (s : List Bool) (ss : List (Vec Bool)) (first : ℕ) → is_among s ss ≡ true → AtMost (match_place ls args) (place_in es s args) → first_among es ss args first ≤ match_place ls args
  below s [] first h most = absurd (cc h)
  below s (t ∷ ss) first h most = go (λ more. below s ss (nearer first (place_in es t.items args)) more most) (pointwise beq t.items s) refl
    where
      go : (is_among s ss ≡ true → first_among es ss args (nearer first (place_in es t.items args)) ≤ match_place ls args) → (b : Bool) → pointwise beq t.items s ≡ b → first_among es ss args (nearer first (place_in es t.items args)) ≤ match_place ls args
      go rest true e =
          let here : AtMost (match_place ls args) (place_in es t.items args) = subst (λ z. AtMost (match_place ls args) (place_in es z args)) (sym ((shapes_decide t.items s).0 e)) most in
          omega (arith, falls ss (nearer first (place_in es t.items args)), near_most (match_place ls args) first (place_in es t.items args) here)
      go rest false e = rest (sym (ap (λ b. b || is_among s ss) e) ∙ h)

  -- the search over all shapes finds the first line that matches
  pub among_is_first : (ss : List (Vec Bool)) → AllByRecursion (λ l. is_among (shape_of l.patterns) ss ≡ true) ls → first_among es ss args (length ls) ≡ match_place ls args
  among_is_first ss known = go (found_or_none ls args ss known)
    where
      go : (length ls ≤ match_place ls args) ⊎ Finds ls args ss → first_among es ss args (length ls) ≡ match_place ls args
      go (inl past) = omega (arith, past, falls ss (length ls), above ss (length ls) (match_within ls args))
      go (inr f) = omega (arith, below f.shape ss (length ls) f.among (place_most f.shape f.long f.there), above ss (length ls) (match_within ls args))

-- ---- answers

abbrev pub answer_at : Option CodeLine → ℕ → Found
answer_at None n = halts
answer_at (Some l) n = nth_answer l.answers.items n

abbrev pub last_at : Option CodeLine → ℕ
last_at None = 0
last_at (Some l) = length l.answers.items - 1

pub answer_is : (ls : List CodeLine) (args : List Value) (n : ℕ) → line_answer (lines_of ls) args n ≡ answer_at (slice_get ls (match_place (lines_of ls) args)) n
answer_is [] args n = refl
answer_is (l ∷ ls) args n = go (answer_is ls args n) (matches l.patterns.items args)
  where
    go : line_answer (lines_of ls) args n ≡ answer_at (slice_get ls (match_place (lines_of ls) args)) n → (b : Bool) → cond b (nth_answer l.answers.items n) (line_answer (lines_of ls) args n) ≡ answer_at (slice_get (l ∷ ls) (cond b 0 (suc (match_place (lines_of ls) args)))) n
    go rest true = refl
    go rest false = rest

pub last_is : (ls : List CodeLine) (args : List Value) → last_of_line (lines_of ls) args ≡ last_at (slice_get ls (match_place (lines_of ls) args))
last_is [] args = refl
last_is (l ∷ ls) args = go (last_is ls args) (matches l.patterns.items args)
  where
    go : last_of_line (lines_of ls) args ≡ last_at (slice_get ls (match_place (lines_of ls) args)) → (b : Bool) → cond b (length l.answers.items - 1) (last_of_line (lines_of ls) args) ≡ last_at (slice_get (l ∷ ls) (cond b 0 (suc (match_place (lines_of ls) args))))
    go rest true = refl
    go rest false = rest

-- ---- one more line

pub known_last : (s : List Bool) (ss : List (Vec Bool)) (t : Vec Bool) → t.items ≡ s → is_among s (ss ++ t ∷ []) ≡ true
known_last s [] t e = ap (λ b. b || false) ((shapes_decide t.items s).1 e)
known_last s (u ∷ ss) t e = go (known_last s ss t e) (pointwise beq u.items s)
  where
    go : is_among s (ss ++ t ∷ []) ≡ true → (b : Bool) → (b || is_among s (ss ++ t ∷ [])) ≡ true
    go rest true = refl
    go rest false = rest

pub known_behind : (s : List Bool) (ss ts : List (Vec Bool)) → is_among s ss ≡ true → is_among s (ss ++ ts) ≡ true
known_behind s [] ts h = absurd (cc h)
known_behind s (u ∷ ss) ts h = go (λ more. known_behind s ss ts more) (pointwise beq u.items s) h
  where
    go : (is_among s ss ≡ true → is_among s (ss ++ ts) ≡ true) → (b : Bool) → (b || is_among s ss) ≡ true → (b || is_among s (ss ++ ts)) ≡ true
    go rest true h = refl
    go rest false h = rest h

pub keeps_more : (ss : List (Vec Bool)) (t : Vec Bool) → Keeps ss (ss ++ t ∷ [])
keeps_more ss t = (omega (arith, length-append ss (t ∷ [])), λ s h. known_behind s ss (t ∷ []) h)

or_place-none : (o : Option ℕ) (n : ℕ) → or_place o false n ≡ o
or_place-none None n = refl
or_place-none (Some k) n = refl

first_more : (ls : List Line) (l : Line) (qs : List (Option Value)) → first_place (ls ++ l ∷ []) qs ≡ or_place (first_place ls qs) (patterns_eq l.patterns qs) (length ls)
first_more [] l qs = refl
first_more (m ∷ ls) l qs = go (patterns_eq m.patterns qs) (first_place ls qs) (patterns_eq l.patterns qs) (first_more ls l qs)
  where
    go : (b : Bool) (o : Option ℕ) (c : Bool) → first_place (ls ++ l ∷ []) qs ≡ or_place o c (length ls) → cond b (Some 0) (option_map suc (first_place (ls ++ l ∷ []) qs)) ≡ or_place (cond b (Some 0) (option_map suc o)) c (suc (length ls))
    go true o c e = refl
    go false (Some k) c e = ap (option_map suc) e
    go false None true e = ap (option_map suc) e
    go false None false e = ap (option_map suc) e

known_more : (ls : List Line) (l : Line) (ss ts : List (Vec Bool)) → AllByRecursion (λ m. is_among (shape_of m.patterns) ss ≡ true) ls → Keeps ss ts → is_among (shape_of l.patterns) ts ≡ true
    → AllByRecursion (λ m. is_among (shape_of m.patterns) ts ≡ true) (ls ++ l ∷ [])
known_more [] l ss ts known keeps new = (new, tt)
known_more (m ∷ ls) l ss ts known keeps new = (keeps.1 (shape_of m.patterns) known.0, known_more ls l ss ts known.1 keeps new)

known_still : (ls : List Line) (ss ts : List (Vec Bool)) → AllByRecursion (λ m. is_among (shape_of m.patterns) ss ≡ true) ls → Keeps ss ts → AllByRecursion (λ m. is_among (shape_of m.patterns) ts ≡ true) ls
known_still [] ss ts known keeps = tt
known_still (m ∷ ls) ss ts known keeps = (keeps.1 (shape_of m.patterns) known.0, known_still ls ss ts known.1 keeps)

-- an index of lines, into which one more is entered
pub one_more : (items ls : List CodeLine) (l : CodeLine) (es fs : List (Vec (Option Value) × ℕ)) (ss ts : List (Vec Bool)) (ps : List (Option Value)) (place : ℕ)
    → items ≡ ls ++ l ∷ [] → ps ≡ l.patterns.items → place ≡ length ls → Indexes (lines_of ls) es ss → Enters ps place es ss fs ts
    → Indexes (lines_of items) fs ts
one_more items ls l es fs ss ts ps place more are last finds enters few =
    let lines : lines_of items ≡ lines_of ls ++ line_of l ∷ [] = ap lines_of more ∙ map-append line_of ls (l ∷ []) in
    let at : place ≡ length (lines_of ls) = last ∙ sym (length-map ls line_of) in
    let entered = enters few in
    let before = finds (omega (arith, few, entered.2.0)) in (
      λ qs. entered.0 qs
          ∙ (λ i. or_place (before.0 qs i) (patterns_eq (are i) qs) (at i))
          ∙ sym (first_more (lines_of ls) (line_of l) qs)
          ∙ ap (λ z. first_place z qs) (sym lines),
      subst (AllByRecursion (λ m. is_among (shape_of m.patterns) ts ≡ true)) (sym lines)
          (known_more (lines_of ls) (line_of l) ss ts before.1 entered.2 (subst (λ z. is_among (shape_of z) ts ≡ true) are entered.1)),
    )

-- an index that knows more shapes
pub still_indexes : (ls : List Line) (es fs : List (Vec (Option Value) × ℕ)) (ss ts : List (Vec Bool)) → Indexes ls es ss → fs ≡ es → Keeps ss ts → Indexes ls fs ts
still_indexes ls es fs ss ts finds same keeps few =
    let before = finds (omega (arith, few, keeps.0)) in
    (λ qs. ap (found qs) same ∙ before.0 qs, known_still ls ss ts before.1 keeps)

-- an earlier line has these patterns
pub place_again : (ps : List (Option Value)) (place : ℕ) (es : List (Vec (Option Value) × ℕ)) → is_some (found ps es) ≡ true → (qs : List (Option Value)) → found qs es ≡ or_place (found qs es) (patterns_eq ps qs) place
place_again ps place es there qs = go (patterns_eq ps qs) refl
  where
    kept : (o : Option ℕ) (b : Bool) → is_some o ≡ true → o ≡ or_place o b place
    kept None b h = absurd (cc h)
    kept (Some at) b h = refl

    go : (b : Bool) → patterns_eq ps qs ≡ b → found qs es ≡ or_place (found qs es) (patterns_eq ps qs) place
    go false e = rw e (sym (or_place-none (found qs es) place))
    go true e = kept (found qs es) (patterns_eq ps qs) (ap (λ z. is_some (found z es)) (sym ((patterns_decide ps qs).0 e)) ∙ there)

-- no earlier line has them
pub place_first : (ps : List (Option Value)) (place : ℕ) (es fs : List (Vec (Option Value) × ℕ)) → is_some (found ps es) ≡ false → Puts ps place es fs → (qs : List (Option Value)) → found qs fs ≡ or_place (found qs es) (patterns_eq ps qs) place
place_first ps place es fs none puts qs = puts qs ∙ go (patterns_eq ps qs) refl
  where
    new : (o : Option ℕ) → is_some o ≡ false → Some place ≡ or_place o true place
    new None h = refl
    new (Some k) h = absurd (cc h)

    go : (b : Bool) → patterns_eq ps qs ≡ b → cond (patterns_eq ps qs) (Some place) (found qs es) ≡ or_place (found qs es) (patterns_eq ps qs) place
    go false e = rw e (sym (or_place-none (found qs es) place))
    go true e = rw e (new (found qs es) (ap (λ z. is_some (found z es)) (sym ((patterns_decide ps qs).0 e)) ∙ none))
