-- The first places of names, as names come and go.
use Rattle.std.proofs.Common.{◌≡◌, ℕ, zero, suc, ◌+◌, ◌<◌, ◌≤◌, take, Bool, true, false, cond, List, [], ◌∷◌, ◌++◌, length, Option, Some, None, refl, sym, ap, ◌∙◌, arith, bytes_eq}
use Rattle.std.specs.Option.{is_some}
use Rattle.std.specs.Borrow.{Bor}
use Rattle.std.specs.HashMap.{HashMap, get_by, UpdatesBy}
use Rattle.std.proofs.lemmas.Bool.{cond-true, cond-false}
use Rattle.std.proofs.lemmas.Slice.Eq.{bytes_eq-Decides}
use Rattle.std.proofs.lemmas.Map.Text.{hash_map_updates_str}
use Rattle.orc_scope.specs.Scope.{position, position_from}

-- the first of two answers
abbrev pub first : Option ℕ → Option ℕ → Option ℕ
first (Some n) o = Some n
first None o = o

pub first_none : (o : Option ℕ) → first o None ≡ o
first_none (Some n) = refl
first_none None = refl

pub position_from_push : (n : ℕ) (ts : List (List ℕ)) (x text : List ℕ) → position_from n (ts ++ x ∷ []) text ≡ first (position_from n ts text) (cond (bytes_eq x text) (Some (n + length ts)) None)
position_from_push n [] x text = let e : n + 0 ≡ n = omega arith in ap (λ (m : ℕ). cond (bytes_eq x text) (Some m) None) (sym e)
position_from_push n (t ∷ ts) x text = go (position_from_push (suc n) ts x text) (bytes_eq t text) refl
  where
    go : position_from (suc n) (ts ++ x ∷ []) text ≡ first (position_from (suc n) ts text) (cond (bytes_eq x text) (Some (suc n + length ts)) None) → (b : Bool) → bytes_eq t text ≡ b
        → cond (bytes_eq t text) (Some n) (position_from (suc n) (ts ++ x ∷ []) text) ≡ first (cond (bytes_eq t text) (Some n) (position_from (suc n) ts text)) (cond (bytes_eq x text) (Some (n + length (t ∷ ts))) None)
    go later true e = rw e refl
    go later false e = let k : suc n + length ts ≡ n + length (t ∷ ts) = omega arith in rw e (later ∙ ap (λ (m : ℕ). first (position_from (suc n) ts text) (cond (bytes_eq x text) (Some m) None)) k)

pub position_push : (ts : List (List ℕ)) (x text : List ℕ) → position (ts ++ x ∷ []) text ≡ first (position ts text) (cond (bytes_eq x text) (Some (length ts)) None)
position_push ts x text = position_from_push 0 ts x text ∙ (let e : 0 + length ts ≡ length ts = omega arith in ap (λ (m : ℕ). first (position ts text) (cond (bytes_eq x text) (Some m) None)) e)

pub position_from_within : (n : ℕ) (ts : List (List ℕ)) (text : List ℕ) (m : ℕ) → position_from n ts text ≡ Some m → m < n + length ts
position_from_within n [] text m e = cc e
position_from_within n (t ∷ ts) text m e = go (λ later. position_from_within (suc n) ts text m later) (bytes_eq t text) refl
  where
    value : Option ℕ → ℕ → ℕ
    value (Some k) d = k
    value None d = d

    go : (position_from (suc n) ts text ≡ Some m → m < suc n + length ts) → (b : Bool) → bytes_eq t text ≡ b → m < n + length (t ∷ ts)
    go later true b = let is : n ≡ m = ap (λ (o : Option ℕ). value o m) (sym (cond-true (bytes_eq t text) (Some n) (position_from (suc n) ts text) b) ∙ e) in omega (arith, is)
    go later false b = let lt = later (sym (cond-false (bytes_eq t text) (Some n) (position_from (suc n) ts text) b) ∙ e) in omega (arith, lt)

pub position_within : (ts : List (List ℕ)) (text : List ℕ) (m : ℕ) → position ts text ≡ Some m → m < length ts
position_within ts text m e = let lt = position_from_within 0 ts text m e in omega (arith, lt)

pub same_text : (x text : List ℕ) → bytes_eq x text ≡ true → x ≡ text
same_text x text e = (bytes_eq-Decides x text).0 e

-- what a table says after a change at x
pub changed : {S : Type 0} (x : List ℕ) (m n : HashMap (Bor (List ℕ)) ℕ S) (w : Option ℕ) (text : List ℕ) → UpdatesBy (λ a b. bytes_eq a.now b.now) (λ k. bytes_eq x k.now) m n w → get_by (λ k. bytes_eq text k.now) n ≡ cond (bytes_eq x text) w (get_by (λ k. bytes_eq text k.now) m)
changed x m n w text u = hash_map_updates_str x m n w u text

-- a new name
pub pushed_new : (ts us : List (List ℕ)) (x text : List ℕ) (o : Option ℕ) → us ≡ ts ++ x ∷ [] → position ts x ≡ None → o ≡ cond (bytes_eq x text) (Some (length ts)) (position ts text) → o ≡ position us text
pushed_new ts us x text o u none e = e ∙ go (bytes_eq x text) refl ∙ sym (ap (λ (l : List (List ℕ)). position l text) u ∙ position_push ts x text)
  where
    go : (b : Bool) → bytes_eq x text ≡ b → cond (bytes_eq x text) (Some (length ts)) (position ts text) ≡ first (position ts text) (cond (bytes_eq x text) (Some (length ts)) None)
    go true b = rw b (sym (ap (λ (p : Option ℕ). first p (Some (length ts))) (ap (λ (l : List ℕ). position ts l) (sym (same_text x text b)) ∙ none)))
    go false b = rw b (sym (first_none (position ts text)))

-- a name that is there
pub pushed_old : (ts us : List (List ℕ)) (x text : List ℕ) (m : ℕ) → us ≡ ts ++ x ∷ [] → position ts x ≡ Some m → position ts text ≡ position us text
pushed_old ts us x text m u there = go (bytes_eq x text) refl ∙ sym (ap (λ (l : List (List ℕ)). position l text) u ∙ position_push ts x text)
  where
    go : (b : Bool) → bytes_eq x text ≡ b → position ts text ≡ first (position ts text) (cond (bytes_eq x text) (Some (length ts)) None)
    go true b = let e : position ts text ≡ Some m = ap (λ (l : List ℕ). position ts l) (sym (same_text x text b)) ∙ there in rw e refl
    go false b = rw b (sym (first_none (position ts text)))

pub pushed_same : (ts us : List (List ℕ)) (x text : List ℕ) → us ≡ ts ++ x ∷ [] → is_some (position ts x) ≡ true → position ts text ≡ position us text
pushed_same ts us x text u there = go (position ts x) refl
  where
    go : (o : Option ℕ) → position ts x ≡ o → position ts text ≡ position us text
    go (Some m) e = pushed_old ts us x text m u e
    go None e = cc (sym (ap is_some e) ∙ there)

-- the last name goes, which has no other place
pub popped_only : (ts us : List (List ℕ)) (x text : List ℕ) (o : Option ℕ) → us ≡ ts ++ x ∷ [] → position us x ≡ Some (length ts) → o ≡ cond (bytes_eq x text) None (position us text) → o ≡ position ts text
popped_only ts us x text o u last e = e ∙ go (bytes_eq x text) refl
  where
    none : (p : Option ℕ) → position ts x ≡ p → p ≡ None
    none None q = refl
    none (Some m) q =
        let lt = position_within ts x m q in
        let is : Some m ≡ Some (length ts) = sym (ap (λ (p : Option ℕ). first p (cond (bytes_eq x x) (Some (length ts)) None)) q) ∙ sym (position_push ts x x) ∙ sym (ap (λ (l : List (List ℕ)). position l x) u) ∙ last in
        let eq : m ≡ length ts = ap (λ (p : Option ℕ). value p m) is in
        absurd (omega (arith, lt, eq))
      where
        value : Option ℕ → ℕ → ℕ
        value (Some k) d = k
        value None d = d

    go : (b : Bool) → bytes_eq x text ≡ b → cond (bytes_eq x text) None (position us text) ≡ position ts text
    go true b = rw b (sym (ap (λ (l : List ℕ). position ts l) (sym (same_text x text b)) ∙ none (position ts x) refl))
    go false b = cond-false (bytes_eq x text) None (position us text) b ∙ ap (λ (l : List (List ℕ)). position l text) u ∙ position_push ts x text ∙ ap (λ (p : Option ℕ). first (position ts text) p) (cond-false (bytes_eq x text) (Some (length ts)) None b) ∙ first_none (position ts text)

-- the last name goes, which has an earlier place
pub popped_twin : (ts us : List (List ℕ)) (x text : List ℕ) → us ≡ ts ++ x ∷ [] → (position us x ≡ Some (length ts) → ⊥) → position us text ≡ position ts text
popped_twin ts us x text u other = go (bytes_eq x text) refl
  where
    is : (y : List ℕ) → position us y ≡ first (position ts y) (cond (bytes_eq x y) (Some (length ts)) None)
    is y = ap (λ (l : List (List ℕ)). position l y) u ∙ position_push ts x y

    some : (p : Option ℕ) → position ts x ≡ p → (q : Option ℕ) → first p q ≡ p
    some (Some m) e q = refl
    some None e q = absurd (other (is x ∙ ap (λ (p : Option ℕ). first p (cond (bytes_eq x x) (Some (length ts)) None)) e ∙ cond-true (bytes_eq x x) (Some (length ts)) None ((bytes_eq-Decides x x).1 refl)))

    go : (b : Bool) → bytes_eq x text ≡ b → position us text ≡ position ts text
    go true b = let e = ap (λ (l : List ℕ). position ts l) (same_text x text b) in is text ∙ ap (λ (p : Option ℕ). first p (cond (bytes_eq x text) (Some (length ts)) None)) (sym e) ∙ some (position ts x) refl (cond (bytes_eq x text) (Some (length ts)) None) ∙ e
    go false b = is text ∙ ap (λ (p : Option ℕ). first (position ts text) p) (cond-false (bytes_eq x text) (Some (length ts)) None b) ∙ first_none (position ts text)

-- among the first n names

position_from_low : (k : ℕ) (ts : List (List ℕ)) (x : List ℕ) (m : ℕ) → position_from k ts x ≡ Some m → k ≤ m
position_from_low k [] x m e = cc e
position_from_low k (t ∷ ts) x m e = go (λ later. position_from_low (suc k) ts x m later) (bytes_eq t x) refl
  where
    value : Option ℕ → ℕ → ℕ
    value (Some k) d = k
    value None d = d

    go : (position_from (suc k) ts x ≡ Some m → suc k ≤ m) → (b : Bool) → bytes_eq t x ≡ b → k ≤ m
    go later true b = let is : k ≡ m = ap (λ (o : Option ℕ). value o m) (sym (cond-true (bytes_eq t x) (Some k) (position_from (suc k) ts x) b) ∙ e) in omega (arith, is)
    go later false b = let le = later (sym (cond-false (bytes_eq t x) (Some k) (position_from (suc k) ts x) b) ∙ e) in omega (arith, le)

take_some : (k n : ℕ) (ts : List (List ℕ)) (x : List ℕ) (m : ℕ) → position_from k ts x ≡ Some m → m < k + n → position_from k (take n ts) x ≡ Some m
take_some k n [] x m e lt = cc e
take_some k zero (t ∷ ts) x m e lt = let low = position_from_low k (t ∷ ts) x m e in absurd (omega (arith, lt, low))
take_some k (suc n) (t ∷ ts) x m e lt = go (λ later. take_some (suc k) n ts x m later (omega (arith, lt))) (bytes_eq t x) refl
  where
    go : (position_from (suc k) ts x ≡ Some m → position_from (suc k) (take n ts) x ≡ Some m) → (b : Bool) → bytes_eq t x ≡ b → cond (bytes_eq t x) (Some k) (position_from (suc k) (take n ts) x) ≡ Some m
    go later true b = cond-true (bytes_eq t x) (Some k) (position_from (suc k) (take n ts) x) b ∙ sym (cond-true (bytes_eq t x) (Some k) (position_from (suc k) ts x) b) ∙ e
    go later false b = cond-false (bytes_eq t x) (Some k) (position_from (suc k) (take n ts) x) b ∙ later (sym (cond-false (bytes_eq t x) (Some k) (position_from (suc k) ts x) b) ∙ e)

take_none : (k n : ℕ) (ts : List (List ℕ)) (x : List ℕ) → position_from k ts x ≡ None → position_from k (take n ts) x ≡ None
take_none k zero ts x e = refl
take_none k (suc n) [] x e = refl
take_none k (suc n) (t ∷ ts) x e = go (λ later. take_none (suc k) n ts x later) (bytes_eq t x) refl
  where
    go : (position_from (suc k) ts x ≡ None → position_from (suc k) (take n ts) x ≡ None) → (b : Bool) → bytes_eq t x ≡ b → cond (bytes_eq t x) (Some k) (position_from (suc k) (take n ts) x) ≡ None
    go later true b = cc (sym (cond-true (bytes_eq t x) (Some k) (position_from (suc k) ts x) b) ∙ e)
    go later false b = cond-false (bytes_eq t x) (Some k) (position_from (suc k) (take n ts) x) b ∙ later (sym (cond-false (bytes_eq t x) (Some k) (position_from (suc k) ts x) b) ∙ e)

take_past : (k n : ℕ) (ts : List (List ℕ)) (x : List ℕ) (m : ℕ) → position_from k ts x ≡ Some m → k + n ≤ m → position_from k (take n ts) x ≡ None
take_past k zero ts x m e le = refl
take_past k (suc n) [] x m e le = refl
take_past k (suc n) (t ∷ ts) x m e le = go (λ later. take_past (suc k) n ts x m later (omega (arith, le))) (bytes_eq t x) refl
  where
    value : Option ℕ → ℕ → ℕ
    value (Some k) d = k
    value None d = d

    go : (position_from (suc k) ts x ≡ Some m → position_from (suc k) (take n ts) x ≡ None) → (b : Bool) → bytes_eq t x ≡ b → cond (bytes_eq t x) (Some k) (position_from (suc k) (take n ts) x) ≡ None
    go later true b = let is : k ≡ m = ap (λ (o : Option ℕ). value o m) (sym (cond-true (bytes_eq t x) (Some k) (position_from (suc k) ts x) b) ∙ e) in absurd (omega (arith, is, le))
    go later false b = cond-false (bytes_eq t x) (Some k) (position_from (suc k) (take n ts) x) b ∙ later (sym (cond-false (bytes_eq t x) (Some k) (position_from (suc k) ts x) b) ∙ e)

pub among_some : (n : ℕ) (ts : List (List ℕ)) (x : List ℕ) (m : ℕ) → position ts x ≡ Some m → m < n → position (take n ts) x ≡ Some m
among_some n ts x m e lt = take_some 0 n ts x m e (omega (arith, lt))

pub among_none : (n : ℕ) (ts : List (List ℕ)) (x : List ℕ) → position ts x ≡ None → position (take n ts) x ≡ None
among_none n ts x e = take_none 0 n ts x e

pub among_past : (n : ℕ) (ts : List (List ℕ)) (x : List ℕ) (m : ℕ) → position ts x ≡ Some m → n ≤ m → position (take n ts) x ≡ None
among_past n ts x m e le = take_past 0 n ts x m e (omega (arith, le))
