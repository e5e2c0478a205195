-- Lists of calls, with one more call.
use Rattle.std.proofs.Common.{◌≡◌, ◌<◌, ◌≤◌, ◌+◌, ◌-◌, ℕ, zero, suc, List, [], ◌∷◌, ◌++◌, length, map, take, drop, Bool, true, false, Some, refl, sym, ap, ◌∙◌, arith, get_or, below_more, length-drop}
use Rattle.std.proofs.lemmas.Bool.{eqb-true}
use Rattle.std.proofs.lemmas.List.{append_assoc}
use Rattle.std.specs.Prelude.{slice_get, cond, nat_eq, ◌&&◌}
use Rattle.orc_rules.specs.declared.value.Value.{Value}
use Rattle.orc_rules.specs.Sites.{Site, find, values_eq}
use Rattle.orc_search.specs.declared.made.Made.{Made}
use Rattle.orc_search.specs.Asked.{times_of, coming_of_made}
use Rattle.orc_search.specs.States.{without_next}
use Rattle.orc_search.proofs.Nodes.{values_same, map_last}
use Rattle.orc_schedules.proofs.Growing.{or_else, get_or_is}
use Rattle.orc_schedules.specs.Counts.{Count, count_of, is_kind, raised, times_with}

-- of counts, as of the entries that have them
abbrev pub times_in : List Count → ℕ → List Value → ℕ
times_in [] m args = 0
times_in (c ∷ cs) m args = cond (nat_eq m c.site && values_eq args c.args) c.times (times_in cs m args)

pub times_same : (made : List Made) (m : ℕ) (args : List Value) → times_of made m args ≡ times_in (map count_of made) m args
times_same [] m args = refl
times_same (e ∷ made) m args = λ i. cond (nat_eq m e.site && values_eq args e.args.items) e.times (times_same made m args i)

and_true : (a b : Bool) → (a && b) ≡ true → (a ≡ true) × (b ≡ true)
and_true true b h = (refl, h)
and_true false b h = cc h

are_same : (m k : ℕ) (vs ws : List Value) → (nat_eq m k && values_eq vs ws) ≡ true → (m ≡ k) × (vs ≡ ws)
are_same m k vs ws h = let b = and_true (nat_eq m k) (values_eq vs ws) h in (eqb-true m k b.0, values_same vs ws b.1)

pub same_count : (c d : Count) → is_kind c d ≡ true → c.times ≡ d.times → c ≡ d
same_count c d h e = let p = are_same c.site d.site c.args d.args h in λ i. record { site = p.0 i; args = p.1 i; times = e i }

cond_twice : (b : Bool) (x y z : ℕ) → cond b x z ≡ cond b x (cond b y z)
cond_twice true x y z = refl
cond_twice false x y z = refl

cond_swap : (a b : Bool) (x y z : ℕ) → (a ≡ true → b ≡ false) → cond a x (cond b y z) ≡ cond b y (cond a x z)
cond_swap true true x y z h = cc (h refl)
cond_swap true false x y z h = refl
cond_swap false true x y z h = refl
cond_swap false false x y z h = refl

module _ (c : Count) (m : ℕ) (args : List Value) where
  first_again : (ds : List Count) (d : Count) → slice_get ds 0 ≡ Some d → is_kind d c ≡ true → times_in (c ∷ drop 1 ds) m args ≡ times_with c (times_in ds) m args
  first_again [] d h kind = cc h
  first_again (e ∷ ds) d h kind =
      let same : e ≡ d = ap (or_else e) h in
      let p = are_same d.site c.site d.args c.args kind in
      let site : e.site ≡ c.site = ap Count.site same ∙ p.0 in
      let its : e.args ≡ c.args = ap Count.args same ∙ p.1 in
      cond_twice (nat_eq m c.site && values_eq args c.args) c.times e.times (times_in ds m args)
      ∙ λ i. cond (nat_eq m c.site && values_eq args c.args) c.times (cond (nat_eq m (sym site i) && values_eq args (sym its i)) e.times (times_in ds m args))

  apart : (e : Count) → is_kind e c ≡ false → (nat_eq m e.site && values_eq args e.args) ≡ true → (nat_eq m c.site && values_eq args c.args) ≡ false
  apart e kind h = let p = are_same m e.site args e.args h in (λ i. nat_eq (p.0 i) c.site && values_eq (p.1 i) c.args) ∙ kind

  pub raised_times : (again : Bool) (ds : List Count) (at : ℕ) → at ≤ length ds → ((i : ℕ) (d : Count) → i < at → slice_get ds i ≡ Some d → is_kind d c ≡ false)
      → (again ≡ true → (d : Count) × (slice_get ds at ≡ Some d) × (is_kind d c ≡ true)) → times_in (raised c at again ds) m args ≡ times_with c (times_in ds) m args
  raised_times true ds zero le before is = let d = is refl in first_again ds d.0 d.1 d.2
  raised_times false ds zero le before is = refl
  raised_times again [] (suc at) le before is = absurd (omega (arith, le))
  raised_times true (e ∷ ds) (suc at) le before is =
      ap (cond (nat_eq m e.site && values_eq args e.args) e.times) (raised_times true ds at (omega (arith, le)) (λ i d lt h. before (suc i) d (omega (arith, lt)) h) is)
      ∙ cond_swap (nat_eq m e.site && values_eq args e.args) (nat_eq m c.site && values_eq args c.args) e.times c.times (times_in ds m args) (apart e (before 0 e (omega arith) refl))
  raised_times false (e ∷ ds) (suc at) le before is =
      ap (cond (nat_eq m e.site && values_eq args e.args) e.times) (raised_times false ds at (omega (arith, le)) (λ i d lt h. before (suc i) d (omega (arith, lt)) h) (λ q. cc q))
      ∙ cond_swap (nat_eq m e.site && values_eq args e.args) (nat_eq m c.site && values_eq args c.args) e.times c.times (times_in ds m args) (apart e (before 0 e (omega arith) refl))

-- what is asked of an entry is asked of its count
pub get_count : (made : List Made) (i : ℕ) (d : Count) → slice_get (map count_of made) i ≡ Some d → (e : Made) × (slice_get made i ≡ Some e) × (d ≡ count_of e)
get_count [] i d h = cc h
get_count (e ∷ made) zero d h = (e, refl, sym (ap (or_else (count_of e)) h))
get_count (e ∷ made) (suc i) d h = get_count made i d h

pub count_get : (made : List Made) (i : ℕ) (e : Made) → slice_get made i ≡ Some e → slice_get (map count_of made) i ≡ Some (count_of e)
count_get [] i e h = cc h
count_get (f ∷ made) zero e h = ap (λ (x : Made). Some (count_of x)) (ap (or_else f) h)
count_get (f ∷ made) (suc i) e h = count_get made i e h

pub map_len : (made : List Made) → length (map count_of made) ≡ length made
map_len [] = refl
map_len (e ∷ made) = ap suc (map_len made)

pub map_take : (n : ℕ) (made : List Made) → map count_of (take n made) ≡ take n (map count_of made)
map_take zero made = refl
map_take (suc n) [] = refl
map_take (suc n) (e ∷ made) = λ i. count_of e ∷ map_take n made i

pub map_drop : (n : ℕ) (made : List Made) → map count_of (drop n made) ≡ drop n (map count_of made)
map_drop zero made = refl
map_drop (suc n) [] = refl
map_drop (suc n) (e ∷ made) = map_drop n made

-- the counts after one call more, of a list where its entry has its place
pub raised_made : (made made' : List Made) (calls : Made) (at : ℕ) (again : Bool) → at ≤ length made → ((i : ℕ) (e : Made) → i < at → slice_get made i ≡ Some e → is_kind (count_of e) (count_of calls) ≡ false)
    → (again ≡ true → (e : Made) × (slice_get made at ≡ Some e) × (is_kind (count_of e) (count_of calls) ≡ true)) → map count_of made' ≡ raised (count_of calls) at again (map count_of made)
    → (m : ℕ) (args : List Value) → times_of made' m args ≡ times_with (count_of calls) (times_of made) m args
raised_made made made' calls at again le before is same m args =
    let c = count_of calls in
    let counts = map count_of made in
    let len = map_len made in
    times_same made' m args ∙ ap (λ (ds : List Count). times_in ds m args) same
    ∙ raised_times c m args again counts at (omega (arith, le, len)) (λ i d lt h. let g = get_count made i d h in ap (λ (x : Count). is_kind x c) g.2 ∙ before i g.0 lt g.1) (λ q. let e = is q in (count_of e.0, count_get made at e.0 e.1, e.2))
    ∙ λ i. cond (nat_eq m c.site && values_eq args c.args) c.times (sym (times_same made m args) i)

module _ (sites : List Site) (m : ℕ) (args : List Value) where
  -- a call after which all are answered alike changes nothing
  same_at : (made : List Made) (last : ℕ) → ((n : ℕ) → last ≤ n → find sites m args (suc n) ≡ find sites m args (suc last)) → last ≤ times_of made m args
      → (n : ℕ) (vs : List Value) (i : ℕ) → coming_of_made sites made n vs i ≡ without_next m args (coming_of_made sites made) n vs i
  same_at made last alike le n vs i = go (nat_eq n m && values_eq vs args) refl where
    go : (b : Bool) → (nat_eq n m && values_eq vs args) ≡ b → find sites n vs (suc (i + times_of made n vs)) ≡ find sites n vs (suc (cond b (suc i) i + times_of made n vs))
    go false is = refl
    go true is =
        let p = are_same n m vs args is in
        let e : times_of made n vs ≡ times_of made m args = λ j. times_of made (p.0 j) (p.1 j) in
        (λ j. find sites (p.0 j) (p.1 j) (suc (i + times_of made n vs)))
        ∙ alike (i + times_of made n vs) (omega (arith, e, le))
        ∙ sym (alike (suc i + times_of made n vs) (omega (arith, e, le)))
        ∙ (λ j. find sites (sym p.0 j) (sym p.1 j) (suc (suc i + times_of made n vs)))

  pub same_coming : (made : List Made) (last : ℕ) → ((n : ℕ) → last ≤ n → find sites m args (suc n) ≡ find sites m args (suc last)) → last ≤ times_of made m args
      → coming_of_made sites made ≡ without_next m args (coming_of_made sites made)
  same_coming made last alike le = λ j n vs i. same_at made last alike le n vs i j

  -- and one that is counted leaves the later ones
  next_at : (made made' : List Made) (c : Count) → c.site ≡ m → c.args ≡ args → c.times ≡ suc (times_of made m args) → ((n : ℕ) (vs : List Value) → times_of made' n vs ≡ times_with c (times_of made) n vs)
      → (n : ℕ) (vs : List Value) (i : ℕ) → coming_of_made sites made' n vs i ≡ without_next m args (coming_of_made sites made) n vs i
  next_at made made' c site its times all n vs i =
      ap (λ (k : ℕ). find sites n vs (suc (i + k))) (all n vs ∙ λ j. cond (nat_eq n (site j) && values_eq vs (its j)) c.times (times_of made n vs)) ∙ go (nat_eq n m && values_eq vs args) refl
    where
      go : (b : Bool) → (nat_eq n m && values_eq vs args) ≡ b → find sites n vs (suc (i + cond b c.times (times_of made n vs))) ≡ find sites n vs (suc (cond b (suc i) i + times_of made n vs))
      go false is = refl
      go true is =
          let p = are_same n m vs args is in
          let e : times_of made n vs ≡ times_of made m args = λ j. times_of made (p.0 j) (p.1 j) in
          let sum : suc (i + c.times) ≡ suc (suc i + times_of made n vs) = omega (arith, e, times) in
          ap (find sites n vs) sum

  pub next_coming : (made made' : List Made) (c : Count) → c.site ≡ m → c.args ≡ args → c.times ≡ suc (times_of made m args) → ((n : ℕ) (vs : List Value) → times_of made' n vs ≡ times_with c (times_of made) n vs)
      → coming_of_made sites made' ≡ without_next m args (coming_of_made sites made)
  next_coming made made' c site its times all = λ j n vs i. next_at made made' c site its times all n vs i j

-- the same of one place more
pub before_next : (made : List Made) (c : Count) (at : ℕ) (e : Made) → ((i : ℕ) (f : Made) → i < at → slice_get made i ≡ Some f → is_kind (count_of f) c ≡ false) → e ≡ get_or made at e → is_kind (count_of e) c ≡ false
    → (i : ℕ) (f : Made) → i < at + 1 → slice_get made i ≡ Some f → is_kind (count_of f) c ≡ false
before_next made c at e before is kind i f lt h =
    below_more (λ (k : ℕ). (g : Made) → slice_get made k ≡ Some g → is_kind (count_of g) c ≡ false) at (λ k l g q. before k g l q)
    (λ g q. ap (λ (x : Made). is_kind (count_of x) c) (sym (is ∙ get_or_is made at g e q)) ∙ kind) i lt f h

all_taken : (n : ℕ) (made : List Made) → length made ≤ n → take n made ≡ made
all_taken zero [] le = refl
all_taken (suc n) [] le = refl
all_taken zero (e ∷ made) le = absurd (omega (arith, le))
all_taken (suc n) (e ∷ made) le = λ i. e ∷ all_taken n made (omega (arith, le)) i

-- a copy with a new entry
pub raised_parts : (made : List Made) (calls : Made) (at rest : ℕ) (again : Bool) (l0 l1 l2 l3 : List Made) → l0 ≡ [] → map count_of l1 ≡ map count_of l0 ++ map count_of (take at made) → l2 ≡ l1 ++ calls ∷ []
    → map count_of l3 ≡ map count_of l2 ++ map count_of (take (length made - rest) (drop rest made)) → rest ≡ cond again (suc at) at → map count_of l3 ≡ raised (count_of calls) at again (map count_of made)
raised_parts made calls at rest again l0 l1 l2 l3 none first entry last is =
    let front : map count_of l1 ≡ take at (map count_of made) = first ∙ ap (λ (l : List Made). map count_of l ++ map count_of (take at made)) none ∙ map_take at made in
    let len = length-drop rest made in
    let back : map count_of (take (length made - rest) (drop rest made)) ≡ drop (cond again (suc at) at) (map count_of made) = ap (map count_of) (all_taken (length made - rest) (drop rest made) (omega (arith, len))) ∙ map_drop rest made ∙ ap (λ (k : ℕ). drop k (map count_of made)) is in
    let middle : map count_of l2 ≡ map count_of l1 ++ count_of calls ∷ [] = ap (map count_of) entry ∙ map_last count_of l1 calls in
    last ∙ (λ i. (middle ∙ (λ j. front j ++ count_of calls ∷ [])) i ++ back i) ∙ append_assoc (take at (map count_of made)) (count_of calls ∷ []) (drop (cond again (suc at) at) (map count_of made))
