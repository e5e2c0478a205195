-- What is added behind a list leaves what stands in it as it is.
use Rattle.std.proofs.Common.{◌≡◌, ℕ, zero, suc, ◌+◌, ◌-◌, ◌≤◌, List, [], ◌∷◌, ◌++◌, length, map, get_or, take, drop, Some, None, refl, ap, ◌∙◌, sym, arith, length-drop}
use Rattle.orc_rules.specs.declared.limits.TheConstants.{MOST_ARGUMENTS}
use Rattle.std.proofs.lemmas.List.{take-append-le, drop-append-le, drop_at, take_all}
use Rattle.std.specs.Prelude.{slice_get, option_map}
use Rattle.orc_graph.specs.declared.numbers.Range.{Range}
use Rattle.orc_graph.specs.declared.definitions.Body.{Body}
use Rattle.orc_graph.specs.Ranges.{cut, AreWithin}
use Rattle.orc_graph.specs.Bodies.{routine_in, AreInside}

cut-append : {X : Type 0} (xs ys : List X) (r : Range) → r.start ≤ r.end → r.end ≤ length xs → cut (xs ++ ys) r ≡ cut xs r
cut-append xs ys r order within =
    ap (take (r.end - r.start)) (drop-append-le r.start xs ys (omega (arith, order, within))) ∙
    take-append-le (r.end - r.start) (drop r.start xs) ys (omega (arith, order, within, length-drop r.start xs))

-- the range of what was added last
pub cut-last : {X : Type 0} (xs ys : List X) (r : Range) → r.start ≡ length xs → r.end ≡ length xs + length ys → cut (xs ++ ys) r ≡ ys
cut-last xs ys r s e =
    ap (take (r.end - r.start)) (drop_at xs ys r.start (sym s)) ∙ take_all (r.end - r.start) ys (omega (arith, s, e))

pub cuts-append : {X : Type 0} (xs ys : List X) (rs : List Range) → AreWithin (length xs) rs → map (cut (xs ++ ys)) rs ≡ map (cut xs) rs
cuts-append xs ys [] h = refl
cuts-append xs ys (r ∷ rs) h = λ i. cut-append xs ys r h.0 h.1 i ∷ cuts-append xs ys rs h.3 i

pub within_more : (n m : ℕ) (rs : List Range) → n ≤ m → AreWithin n rs → AreWithin m rs
within_more n m [] le h = tt
within_more n m (r ∷ rs) le h = (h.0, omega (arith, le, h.1), h.2, within_more n m rs le h.3)

pub within_push : (n : ℕ) (rs : List Range) (r : Range) → AreWithin n rs → r.start ≤ r.end → r.end ≤ n → r.end ≤ r.start + MOST_ARGUMENTS → AreWithin n (rs ++ r ∷ [])
within_push n [] r h a b c = (a, b, c, tt)
within_push n (q ∷ rs) r h a b c = (h.0, h.1, h.2, within_push n rs r h.3 a b c)

pub within_at : (n : ℕ) (rs : List Range) (i : ℕ) (r : Range) → AreWithin n rs → slice_get rs i ≡ Some r → (r.start ≤ r.end) × (r.end ≤ n) × (r.end ≤ r.start + MOST_ARGUMENTS)
within_at n [] i r h e = cc e
within_at n (q ∷ rs) zero r h e = let is : q ≡ r = cc e in rw (← is) (h.0, h.1, h.2)
within_at n (q ∷ rs) (suc i) r h e = within_at n rs i r h.3 e

-- a list of that number, or none
pub map_at : {X Y : Type 0} (f : X → Y) (rs : List X) (i : ℕ) (r : X) (d : Y) → slice_get rs i ≡ Some r → get_or (map f rs) i d ≡ f r
map_at f [] i r d e = cc e
map_at f (q ∷ rs) zero r d e = let is : q ≡ r = cc e in ap f is
map_at f (q ∷ rs) (suc i) r d e = map_at f rs i r d e

pub map_past : {X Y : Type 0} (f : X → Y) (rs : List X) (i : ℕ) (d : Y) → slice_get rs i ≡ None → get_or (map f rs) i d ≡ d
map_past f [] i d e = refl
map_past f (q ∷ rs) zero d e = cc e
map_past f (q ∷ rs) (suc i) d e = map_past f rs i d e

pub map_get : {X Y : Type 0} (f : X → Y) (rs : List X) (i : ℕ) → slice_get (map f rs) i ≡ option_map f (slice_get rs i)
map_get f [] i = refl
map_get f (q ∷ rs) zero = refl
map_get f (q ∷ rs) (suc i) = map_get f rs i

-- ---- the same for definitions

routine-append : (xs ys : List ℕ) (b : Body) → b.params.start ≤ b.params.end → b.params.end ≤ length xs → routine_in (xs ++ ys) b ≡ routine_in xs b
routine-append xs ys b order within = let e = cut-append xs ys b.params order within in λ i. record { params = e i; body = b.node }

pub routines-append : (xs ys : List ℕ) (bs : List Body) → AreInside (length xs) bs → map (routine_in (xs ++ ys)) bs ≡ map (routine_in xs) bs
routines-append xs ys [] h = refl
routines-append xs ys (b ∷ bs) h = λ i. routine-append xs ys b h.0 h.1 i ∷ routines-append xs ys bs h.2 i

pub inside_more : (n m : ℕ) (bs : List Body) → n ≤ m → AreInside n bs → AreInside m bs
inside_more n m [] le h = tt
inside_more n m (b ∷ bs) le h = (h.0, omega (arith, le, h.1), inside_more n m bs le h.2)

pub inside_push : (n : ℕ) (bs : List Body) (b : Body) → AreInside n bs → b.params.start ≤ b.params.end → b.params.end ≤ n → AreInside n (bs ++ b ∷ [])
inside_push n [] b h p q = (p, q, tt)
inside_push n (c ∷ bs) b h p q = (h.0, h.1, inside_push n bs b h.2 p q)

pub inside_at : (n : ℕ) (bs : List Body) (i : ℕ) (b : Body) → AreInside n bs → slice_get bs i ≡ Some b → (b.params.start ≤ b.params.end) × (b.params.end ≤ n)
inside_at n [] i b h e = cc e
inside_at n (c ∷ bs) zero b h e = let is : c ≡ b = cc e in rw (← is) (h.0, h.1)
inside_at n (c ∷ bs) (suc i) b h e = inside_at n bs i b h.2 e
