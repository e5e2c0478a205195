-- The first names of a list are found one by one, and the others in a table.
use Rattle.std.proofs.Common.{◌≡◌, ℕ, zero, suc, ◌+◌, ◌<◌, ◌≤◌, take, drop, map, min, Bool, true, false, cond, List, [], ◌∷◌, ◌++◌, length, slice_index, slice_index_or, Option, Some, None, refl, sym, ap, ◌∙◌, arith, bytes_eq}
use Rattle.std.specs.Prelude.{nat_lt}
use Rattle.std.specs.Borrow.{Bor}
use Rattle.std.proofs.lemmas.Bool.{cond-true, cond-false, ltb-true, lt-ltb, le-ltb}
use Rattle.std.proofs.lemmas.Slice.Eq.{bytes_eq-Decides}
use Rattle.std.proofs.lemmas.List.{take_all, take-map, drop_all}
use Rattle.orc_syntax.specs.Ast.{text_of}
use Rattle.orc_scope.specs.Scope.{position, position_from}
use Rattle.orc_scope.specs.Names.{late}
use Rattle.orc_scope.proofs.Cuts.{cut}
use Rattle.orc_scope.proofs.Places.{first, position_push, pushed_new, popped_only, among_some}

late_below : (n m : ℕ) → m < n → late n (Some m) ≡ None
late_below n m lt = cond-true (nat_lt m n) None (Some m) (lt-ltb m n lt)

pub late_above : (n m : ℕ) → n ≤ m → late n (Some m) ≡ Some m
late_above n m le = cond-false (nat_lt m n) None (Some m) (le-ltb m n le)

-- a place in the table is the place
pub late_is : (n m : ℕ) (p : Option ℕ) → late n p ≡ Some m → p ≡ Some m
late_is n m None e = cc e
late_is n m (Some k) e = go (nat_lt k n) refl
  where
    go : (b : Bool) → nat_lt k n ≡ b → Some k ≡ Some m
    go true b = cc (sym (cond-true (nat_lt k n) None (Some k) b) ∙ e)
    go false b = sym (cond-false (nat_lt k n) None (Some k) b) ∙ e

-- a name that comes or goes among the first ones
pub late_push : (n : ℕ) (ts us : List (List ℕ)) (x text : List ℕ) → us ≡ ts ++ x ∷ [] → length ts < n → late n (position ts text) ≡ late n (position us text)
late_push n ts us x text u lt = go (position ts text) (bytes_eq x text) ∙ sym (ap (λ (l : List (List ℕ)). late n (position l text)) u ∙ ap (late n) (position_push ts x text))
  where
    go : (p : Option ℕ) (b : Bool) → late n p ≡ late n (first p (cond b (Some (length ts)) None))
    go (Some m) b = refl
    go None true = sym (late_below n (length ts) lt)
    go None false = refl

-- a new name behind them
pub late_new : (n : ℕ) (ts us : List (List ℕ)) (x text : List ℕ) (o : Option ℕ) → us ≡ ts ++ x ∷ [] → position ts x ≡ None → n ≤ length ts → o ≡ cond (bytes_eq x text) (Some (length ts)) (late n (position ts text)) → o ≡ late n (position us text)
late_new n ts us x text o u none le e = e ∙ go (bytes_eq x text) ∙ ap (late n) (pushed_new ts us x text (cond (bytes_eq x text) (Some (length ts)) (position ts text)) u none refl)
  where
    go : (b : Bool) → cond b (Some (length ts)) (late n (position ts text)) ≡ late n (cond b (Some (length ts)) (position ts text))
    go true = sym (late_above n (length ts) le)
    go false = refl

-- the last name goes, which has no other place
pub late_popped : (n : ℕ) (ts us : List (List ℕ)) (x text : List ℕ) (o : Option ℕ) → us ≡ ts ++ x ∷ [] → position us x ≡ Some (length ts) → o ≡ cond (bytes_eq x text) None (late n (position us text)) → o ≡ late n (position ts text)
late_popped n ts us x text o u last e = e ∙ go (bytes_eq x text) ∙ ap (late n) (popped_only ts us x text (cond (bytes_eq x text) None (position us text)) u last refl)
  where
    go : (b : Bool) → cond b None (late n (position us text)) ≡ late n (cond b None (position us text))
    go true = refl
    go false = refl

-- finding

front_some : (k n : ℕ) (ts : List (List ℕ)) (x : List ℕ) (m : ℕ) → position_from k (take n ts) x ≡ Some m → position_from k ts x ≡ Some m
front_some k zero ts x m e = cc e
front_some k (suc n) [] x m e = cc e
front_some k (suc n) (t ∷ ts) x m e = go (λ later. front_some (suc k) n ts x m later) (bytes_eq t x) refl
  where
    go : (position_from (suc k) (take n ts) x ≡ Some m → position_from (suc k) ts x ≡ Some m) → (b : Bool) → bytes_eq t x ≡ b → cond (bytes_eq t x) (Some k) (position_from (suc k) ts x) ≡ Some m
    go later true b = cond-true (bytes_eq t x) (Some k) (position_from (suc k) ts x) b ∙ sym (cond-true (bytes_eq t x) (Some k) (position_from (suc k) (take n ts) x) b) ∙ e
    go later false b = cond-false (bytes_eq t x) (Some k) (position_from (suc k) ts x) b ∙ later (sym (cond-false (bytes_eq t x) (Some k) (position_from (suc k) (take n ts) x) b) ∙ e)

none_late : (n : ℕ) (ts : List (List ℕ)) (x : List ℕ) → position (take n ts) x ≡ None → late n (position ts x) ≡ position ts x
none_late n ts x none = go (position ts x) refl
  where
    past : (m : ℕ) → position ts x ≡ Some m → (b : Bool) → nat_lt m n ≡ b → late n (Some m) ≡ Some m
    past m e true b = cc (sym none ∙ among_some n ts x m e (ltb-true m n b))
    past m e false b = cond-false (nat_lt m n) None (Some m) b

    go : (p : Option ℕ) → position ts x ≡ p → late n p ≡ p
    go None e = refl
    go (Some m) e = past m e (nat_lt m n) refl

front : (early n : ℕ) (bs : List (Bor (List ℕ))) → early ≡ min (length bs) n → map text_of (take early bs) ≡ take n (map text_of bs)
front early n bs e = ap (map text_of) (cut early n bs e) ∙ sym (take-map text_of n bs)

pub found_early : (early n : ℕ) (bs : List (Bor (List ℕ))) (x : List ℕ) (m : ℕ) → early ≡ min (length bs) n → Some m ≡ position (map text_of (take early bs)) x → Some m ≡ position (map text_of bs) x
found_early early n bs x m e at = sym (front_some 0 n (map text_of bs) x m (ap (λ (l : List (List ℕ)). position l x) (sym (front early n bs e)) ∙ sym at))

pub found_late : (early n : ℕ) (bs : List (Bor (List ℕ))) (x : List ℕ) (o : Option ℕ) → early ≡ min (length bs) n → None ≡ position (map text_of (take early bs)) x → o ≡ late n (position (map text_of bs) x) → o ≡ position (map text_of bs) x
found_late early n bs x o e none table = table ∙ none_late n (map text_of bs) x (ap (λ (l : List (List ℕ)). position l x) (sym (front early n bs e)) ∙ sym none)

pub found_nowhere : (early n : ℕ) (bs : List (Bor (List ℕ))) (x : List ℕ) → early ≡ min (length bs) n → None ≡ position (map text_of (take early bs)) x → length bs ≤ n → None ≡ position (map text_of bs) x
found_nowhere early n bs x e none le = none ∙ ap (λ (l : List (List ℕ)). position l x) (ap (map text_of) (cut early n bs e ∙ take_all n bs le))

-- one by one

walk : (k at : ℕ) (bs : List (Bor (List ℕ))) (d : Bor (List ℕ)) (x : List ℕ) → at < length bs → position_from k (map text_of (drop at bs)) x ≡ cond (bytes_eq (text_of (slice_index_or bs at d)) x) (Some k) (position_from (suc k) (map text_of (drop (suc at) bs)) x)
walk k at [] d x lt = absurd (omega (arith, lt))
walk k zero (b ∷ bs) d x lt = refl
walk k (suc at) (b ∷ bs) d x lt = walk k at bs d x (omega (arith, lt))

pub place_here : (at : ℕ) (bs : List (Bor (List ℕ))) (d : Bor (List ℕ)) (x : List ℕ) → at < length bs → bytes_eq (text_of (slice_index_or bs at d)) x ≡ true → position_from at (map text_of (drop at bs)) x ≡ Some at
place_here at bs d x lt is = walk at at bs d x lt ∙ cond-true (bytes_eq (text_of (slice_index_or bs at d)) x) (Some at) (position_from (suc at) (map text_of (drop (suc at) bs)) x) is

pub place_later : (at next : ℕ) (bs : List (Bor (List ℕ))) (d : Bor (List ℕ)) (x : List ℕ) → next ≡ at + 1 → at < length bs → bytes_eq (text_of (slice_index_or bs at d)) x ≡ false → position_from at (map text_of (drop at bs)) x ≡ position_from next (map text_of (drop next bs)) x
place_later at next bs d x e lt is =
    let n : suc at ≡ next = omega (arith, e) in
    walk at at bs d x lt ∙ cond-false (bytes_eq (text_of (slice_index_or bs at d)) x) (Some at) (position_from (suc at) (map text_of (drop (suc at) bs)) x) is ∙ ap (λ (k : ℕ). position_from k (map text_of (drop k bs)) x) n

pub place_nowhere : (at : ℕ) (bs : List (Bor (List ℕ))) (x : List ℕ) → length bs ≤ at → position_from at (map text_of (drop at bs)) x ≡ None
place_nowhere at bs x le = ap (λ (l : List (Bor (List ℕ))). position_from at (map text_of l) x) (drop_all at bs le)

-- two names from their ends

pub all_dropped : (xs ys : List ℕ) → length xs ≡ length ys → drop (length xs) xs ≡ drop (length xs) ys
all_dropped xs ys e = drop_all (length xs) xs (omega arith) ∙ sym (drop_all (length xs) ys (omega (arith, e)))

pub one_more : (at : ℕ) (xs ys : List ℕ) → at < length xs → at < length ys → slice_index xs at ≡ slice_index ys at → drop (at + 1) xs ≡ drop (at + 1) ys → drop at xs ≡ drop at ys
one_more at xs ys lt lu e d =
    let n : at + 1 ≡ suc at = omega arith in
    go at xs ys lt lu e (ap (λ (k : ℕ). drop k xs) (sym n) ∙ d ∙ ap (λ (k : ℕ). drop k ys) n)
  where
    go : (at : ℕ) (xs ys : List ℕ) → at < length xs → at < length ys → slice_index xs at ≡ slice_index ys at → drop (suc at) xs ≡ drop (suc at) ys → drop at xs ≡ drop at ys
    go at [] ys lt lu e d = absurd (omega (arith, lt))
    go at (x ∷ xs) [] lt lu e d = absurd (omega (arith, lu))
    go zero (x ∷ xs) (y ∷ ys) lt lu e d = ap (λ (z : ℕ). z ∷ xs) e ∙ ap (λ (zs : List ℕ). y ∷ zs) d
    go (suc at) (x ∷ xs) (y ∷ ys) lt lu e d = go at xs ys (omega (arith, lt)) (omega (arith, lu)) e d

pub same_bytes : (xs ys : List ℕ) → drop 0 xs ≡ drop 0 ys → true ≡ bytes_eq xs ys
same_bytes xs ys e = sym ((bytes_eq-Decides xs ys).1 e)
