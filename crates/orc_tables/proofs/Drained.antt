-- Tokens and calls that are dropped: what is looked at, one after another.
use Rattle.std.proofs.Common.{◌≡◌, ◌≤◌, ◌<◌, ℕ, zero, suc, ◌+◌, List, [], ◌∷◌, ◌++◌, refl, sym, ap, ◌∙◌, subst, arith, length, get_or, take, append-nil, length-set, Bool, true, false, cond, Some}
use Rattle.std.proofs.lemmas.Bool.{ltb-true}
use Rattle.std.proofs.Math.Decide.{ℕ_discrete}
use Rattle.std.proofs.Math.Numerals.{add-one}
use Rattle.std.proofs.Math.Seq.{take-suc}
use Rattle.std.specs.Prelude.{slice_get, slice_set, nat_lt, ◌&&◌}
use Rattle.orc_indexes.specs.Same.{weight, only, but, None}
use Rattle.orc_tables.specs.Inside.{stands_inside, held_inside, numbers_inside, StayOutside}
use Rattle.orc_tables.specs.Tokens.{live, is_live, IsHeld}
use Rattle.orc_tables.specs.declared.records.Token.{Token}
use Rattle.orc_tables.specs.declared.records.Call.{Call}
use Rattle.orc_tables.specs.declared.records.Step.{Step}
use Rattle.orc_indexes.proofs.Lists.{set-elsewhere}
use Rattle.orc_indexes.proofs.Weight.{none-alike}
use Rattle.orc_tables.proofs.Slots.{weight-live, removed}

pub numbers-more : (c : ℕ) (ss : List Step) (ks : List Call) (k : Call) → numbers_inside c ss (ks ++ k ∷ []) ≡ numbers_inside c ss ks ++ cond (stands_inside c ss k.step) (k.number ∷ []) []
numbers-more c ss [] k = refl
numbers-more c ss (d ∷ ks) k = go (stands_inside c ss d.step) (numbers-more c ss ks k)
  where
    more : List ℕ
    more = cond (stands_inside c ss k.step) (k.number ∷ []) []

    go : (b : Bool) → numbers_inside c ss (ks ++ k ∷ []) ≡ numbers_inside c ss ks ++ more
        → cond b (d.number ∷ numbers_inside c ss (ks ++ k ∷ [])) (numbers_inside c ss (ks ++ k ∷ [])) ≡ cond b (d.number ∷ numbers_inside c ss ks) (numbers_inside c ss ks) ++ more
    go true ih = ap (λ z. d.number ∷ z) ih
    go false ih = ih

-- one more call was looked at
more : (ks : List Call) (i : ℕ) (d : Call) → i < length ks → take (i + 1) ks ≡ take i ks ++ get_or ks i d ∷ []
more ks i d lt = ap (λ n. take n ks) (add-one i) ∙ take-suc ks i d lt

pub listed : (c : ℕ) (ss : List Step) (cs ks : List Call) (i : ℕ) (d : Call) (now held next : List ℕ) → cs ≡ ks → now ≡ numbers_inside c ss (take i ks) → i < length cs → true ≡ stands_inside c ss (Call.step (get_or cs i d)) → held ≡ now → next ≡ held ++ Call.number (get_or cs i d) ∷ [] → next ≡ numbers_inside c ss (take (i + 1) ks)
listed c ss cs ks i d now held next same is lt on kept pushed =
    pushed
    ∙ ap (λ z. z ++ Call.number (get_or cs i d) ∷ []) (kept ∙ is ∙ ap (λ z. numbers_inside c ss (take i z)) (sym same))
    ∙ ap (λ b. numbers_inside c ss (take i cs) ++ cond b (Call.number (get_or cs i d) ∷ []) []) on
    ∙ sym (ap (numbers_inside c ss) (more cs i d lt) ∙ numbers-more c ss (take i cs) (get_or cs i d))
    ∙ ap (λ z. numbers_inside c ss (take (i + 1) z)) same

pub passed : (c : ℕ) (ss : List Step) (cs ks : List Call) (i : ℕ) (d : Call) (now : List ℕ) → cs ≡ ks → now ≡ numbers_inside c ss (take i ks) → i < length cs → false ≡ stands_inside c ss (Call.step (get_or cs i d)) → now ≡ numbers_inside c ss (take (i + 1) ks)
passed c ss cs ks i d now same is lt off =
    is
    ∙ ap (λ z. numbers_inside c ss (take i z)) (sym same)
    ∙ sym (append-nil (numbers_inside c ss (take i cs)))
    ∙ ap (λ b. numbers_inside c ss (take i cs) ++ cond b (Call.number (get_or cs i d) ∷ []) []) off
    ∙ sym (ap (numbers_inside c ss) (more cs i d lt) ∙ numbers-more c ss (take i cs) (get_or cs i d))
    ∙ ap (λ z. numbers_inside c ss (take (i + 1) z)) same

pub none-next : (bad : Token → Bool) (ts : List Token) (k : ℕ) (t : Token) → None bad (take k ts) → slice_get ts k ≡ Some t → bad t ≡ false → None bad (take (suc k) ts)
none-next bad [] k t h got off = cc got
none-next bad (u ∷ ts) zero t h got off = omega (arith, ap {B = ℕ} (λ b. cond b 1 0) (ap bad (some_is u t got) ∙ off))
  where
    some_is : (a b : Token) → Some a ≡ Some b → a ≡ b
    some_is a b e = cc e
none-next bad (u ∷ ts) (suc k) t h got off = omega (arith, none-next bad ts k t (omega (arith, h)) got off, h)

pub none-put : (bad : Token → Bool) (ts : List Token) (k : ℕ) (t u : Token) → None bad (take k ts) → slice_get ts k ≡ Some t → bad u ≡ false → None bad (take (suc k) (slice_set ts k u))
none-put bad [] k t u h got off = cc got
none-put bad (v ∷ ts) zero t u h got off = omega (arith, ap {B = ℕ} (λ b. cond b 1 0) off)
none-put bad (v ∷ ts) (suc k) t u h got off = omega (arith, none-put bad ts k t u (omega (arith, h)) got off, h)

take-all : {X : Type 0} (xs : List X) (k : ℕ) → length xs ≤ k → take k xs ≡ xs
take-all [] zero le = refl
take-all [] (suc k) le = refl
take-all (x ∷ xs) zero le = absurd (omega (arith, le))
take-all (x ∷ xs) (suc k) le = ap (λ z. x ∷ z) (take-all xs k (omega (arith, le)))

-- where none in the slots is inside, none goes
pub live-outside : (c : ℕ) (ss : List Step) (ts : List Token) (k : ℕ) → length ts ≤ k → None (held_inside c ss) (take k ts) → (w : Token → ℕ) → weight w (live ts) ≡ weight (but (λ (t : Token). stands_inside c ss t.step) w) (live ts)
live-outside c ss ts k le none w =
    weight-live w ts
    ∙ none-alike (held_inside c ss) (only is_live w) (only is_live (but (λ (t : Token). stands_inside c ss t.step) w)) ts (subst (None (held_inside c ss)) (take-all ts k le) none) (λ t f. by_live (is_live t) (stands_inside c ss t.step) (w t) f)
    ∙ sym (weight-live (but (λ (t : Token). stands_inside c ss t.step) w) ts)
  where
    by_live : (a b : Bool) (n : ℕ) → (a && b) ≡ false → cond a n 0 ≡ cond a (cond b 0 n) 0
    by_live true b n f = ap (λ z. cond z 0 n) (sym f)
    by_live false b n f = refl

-- so many slots were looked at, and of what stands outside all is there, each token in its slot
pub record IsDrained (c : ℕ) (ss : List Step) (old now : List Token) (k count : ℕ) : Type 0 where
  pub len : length now ≡ count
  pub done : None (held_inside c ss) (take k now)
  pub rest : (w : Token → ℕ) → weight (but (λ (t : Token). stands_inside c ss t.step) w) (live now) ≡ weight (but (λ (t : Token). stands_inside c ss t.step) w) (live old)
  pub others : StayOutside c ss old now

pub drained-none : (c : ℕ) (ss : List Step) (ts : List Token) (count : ℕ) → length ts ≡ count → IsDrained c ss ts ts 0 count
drained-none c ss ts count len = record { len = len; done = nobody ts; rest = λ w. refl; others = λ k t h out. h }
  where
    nobody : (ts : List Token) → None (held_inside c ss) (take 0 ts)
    nobody [] = refl
    nobody (t ∷ ts) = refl

both_so : (a b : Bool) → (a && b) ≡ true → (a ≡ true) × (b ≡ true)
both_so true b h = (refl, h)
both_so false b h = cc h

pub drained-held : (c : ℕ) (ss : List Step) (now : List Token) (k : ℕ) (t : Token) → slice_get now k ≡ Some t → held_inside c ss t ≡ true → IsHeld now k t
drained-held c ss now k t got inn = (got, ltb-true 0 t.serial (both_so (is_live t) (stands_inside c ss t.step) inn).0)

-- a slot is written over in which a token inside stands
pub outside-set : (c : ℕ) (ss : List Step) (old now : List Token) (k : ℕ) (t u : Token) → StayOutside c ss old now → slice_get now k ≡ Some t → stands_inside c ss t.step ≡ true → StayOutside c ss old (slice_set now k u)
outside-set c ss old now k t u stay got inn j v h out = at (ℕ_discrete j k)
  where
    same_token : (a b : Token) → Some a ≡ Some b → a ≡ b
    same_token a b e = cc e

    here : IsHeld now j v
    here = stay j v h out

    at : Dec (j ≡ k) → IsHeld (slice_set now k u) j v
    at (yes e) =
        let same : t ≡ v = same_token t v (sym got ∙ ap (slice_get now) (sym e) ∙ here.0) in
        cc (sym inn ∙ ap (λ (z : Token). stands_inside c ss z.step) same ∙ out)
    at (no off) = (set-elsewhere now k j u off ∙ here.0, here.1)

pub drained-gone : (c : ℕ) (ss : List Step) (old now next : List Token) (k count : ℕ) (t u : Token) → IsDrained c ss old now k count → slice_get now k ≡ Some t → held_inside c ss t ≡ true → u.serial ≡ 0 → next ≡ slice_set now k u → IsDrained c ss old next (k + 1) count
drained-gone c ss old now next k count t u D got inn free is =
    let b = both_so (is_live t) (stands_inside c ss t.step) inn in
    let none : held_inside c ss u ≡ false = ap (λ n. nat_lt 0 n && stands_inside c ss u.step) free in
    record {
      len = ap length is ∙ length-set now k u ∙ D.len;
      done = subst (λ z. None (held_inside c ss) (take (k + 1) z)) (sym is) (subst (λ n. None (held_inside c ss) (take n (slice_set now k u))) (let e : suc k ≡ k + 1 = omega arith in e) (none-put (held_inside c ss) now k t u D.done got none));
      rest = λ w.
          omega (
            arith,
            ap (λ z. weight (but (λ (t : Token). stands_inside c ss t.step) w) (live z)) is,
            removed (but (λ (t : Token). stands_inside c ss t.step) w) now k t u (drained-held c ss now k t got inn) free,
            ap {B = ℕ} (λ z. cond z 0 (w t)) b.1,
            D.rest w,
          );
      others = subst (StayOutside c ss old) (sym is) (outside-set c ss old now k t u D.others got b.1);
    }

pub drained-kept : (c : ℕ) (ss : List Step) (old now : List Token) (k count : ℕ) (t : Token) → IsDrained c ss old now k count → slice_get now k ≡ Some t → held_inside c ss t ≡ false → IsDrained c ss old now (k + 1) count
drained-kept c ss old now k count t D got out =
    record {
      len = D.len;
      done = subst (λ n. None (held_inside c ss) (take n now)) (let e : suc k ≡ k + 1 = omega arith in e) (none-next (held_inside c ss) now k t D.done got out);
      rest = D.rest;
      others = D.others;
    }

pub drained-all : (c : ℕ) (ss : List Step) (old now : List Token) (k count : ℕ) → IsDrained c ss old now k count → count ≤ k → (w : Token → ℕ) → weight w (live now) ≡ weight (but (λ (t : Token). stands_inside c ss t.step) w) (live old)
drained-all c ss old now k count D le w = live-outside c ss now k (omega (arith, le, D.len)) D.done w ∙ D.rest w
