-- Where each group has somebody in it, each side has: a token or a call, by the groups from the outside in.
use Rattle.std.proofs.Common.{◌≡◌, ◌≤◌, ◌<◌, ℕ, zero, suc, ◌+◌, List, [], ◌∷◌, refl, sym, ap, ◌∙◌, subst, arith, inl, inr, ◌⊎◌, ⊎_elim, Bool, true, false, Some, length, get_or}
use Rattle.std.proofs.lemmas.Bool.{ltb-false}
use Rattle.std.specs.Prelude.{slice_get, ◌||◌, nat_lt}
use Rattle.orc_rules.specs.Term.{Term}
use Rattle.orc_rules.specs.Timed.{IsIn}
use Rattle.orc_indexes.specs.Same.{weight, is_this}
use Rattle.orc_frames.specs.Spelling.{Path}
use Rattle.orc_ledger_spec.specs.Records.{Records, Sound, its_env, raw_path, token_out, call_out}
use Rattle.orc_frames.specs.Paths.{inwards, is_out}
use Rattle.orc_ledger_spec.specs.Homes.{home, home_by, Nest}
use Rattle.orc_ledger_spec.specs.Next.{Numbers, members, open_empty, is_empty, AreGrouped}
use Rattle.orc_tables.specs.declared.records.Token.{Token}
use Rattle.orc_tables.specs.declared.records.Call.{Call}
use Rattle.orc_tables.specs.declared.records.Frame.{Frame}
use Rattle.orc_tables.specs.declared.records.Frame.TheVariants.{SeqLeft, PruneRight, OtherwiseLeft}
use Rattle.orc_tables.specs.declared.records.Step.{Step}
use Rattle.orc_tables.specs.declared.records.Group.{Group}
use Rattle.orc_indexes.proofs.Weight.{weight-in, none-in, either_one, some-in, this_one}
use Rattle.orc_tables.proofs.Placed.{there}
use Rattle.orc_frames.proofs.Growth.{path-unfold}
use Rattle.orc_ledger_spec.proofs.Homes.{home-least}

pub some_same : (v w : Nest) → Some v ≡ Some w → v ≡ w
some_same v w e = cc e

or_false : (a b : Bool) → (a || b) ≡ false → (a ≡ false) × (b ≡ false)
or_false true b h = cc h
or_false false b h = (refl, h)

pub get-within : (xs : List Step) (j : ℕ) (x : Step) → slice_get xs j ≡ Some x → j < length xs
get-within [] j x h = cc h
get-within (y ∷ xs) zero x h = omega arith
get-within (y ∷ xs) (suc j) x h = omega (arith, get-within xs j x h)

abbrev unread : Step
unread = record { entered = OtherwiseLeft 0; outer = 0; group = 0; depth = 0; published = false }

-- the steps of tokens and calls are there
pub token_within : (s : Records) → Sound s → (t : Token) → IsIn t s.tokens → t.step ≤ length s.steps
token_within s S t i =
    let o : nat_lt (length s.steps) t.step ≡ false = (or_false (is_out (length s.scopes) t.standing) (nat_lt (length s.steps) t.step) (none-in (token_out (length s.scopes) (length s.steps)) s.tokens t S.tokens i)).1 in
    omega (arith, ltb-false (length s.steps) t.step o)

pub call_within : (s : Records) → Sound s → (c : Call) → IsIn c s.calls → c.step ≤ length s.steps
call_within s S c i = omega (arith, ltb-false (length s.steps) c.step (none-in (call_out (length s.steps)) s.calls c S.calls i))

-- a test of paths that a step by `>x>` doesn't change
pub record IsTest (code : ℕ → Term) (s : Records) (test : Path → Bool) (at : Frame → Bool) : Type 0 where
  pub frame : (e : Frame) (p : Path) → test (inwards code (its_env code s) e p) ≡ (at e || test p)
  pub feeds : (x g scope : ℕ) → at (SeqLeft x g scope) ≡ false

module _ (code : ℕ → Term) (s : Records) (S : Sound s) (n : Numbers) (G : AreGrouped n s) (test : Path → Bool) (at : Frame → Bool) (T : IsTest code s test at) where
  abbrev pub inn : ℕ → Bool
  inn i = test (raw_path code s i)

  pub inn-step : (k : ℕ) (p : Step) → slice_get s.steps k ≡ Some p → inn (suc k) ≡ (at p.entered || inn p.outer)
  inn-step k p h = ap test (path-unfold code (its_env code s) s.steps (suc k) k p (omega arith) h (S.outwards k p h)) ∙ T.frame p.entered (raw_path code s p.outer)

  at_home : (k : ℕ) (p : Step) (e : Frame) → p.entered ≡ e → slice_get s.steps k ≡ Some p → inn p.outer ≡ inn (home G.homes p.outer) → inn (suc k) ≡ inn (home_by G.homes (suc k) p e)
  at_home k p (SeqLeft x g scope) e h ih = inn-step k p h ∙ ap (λ z. at z || inn p.outer) e ∙ ap (λ b. b || inn p.outer) (T.feeds x g scope) ∙ ih
  at_home k p (PruneRight d) e h ih = refl
  at_home k p (OtherwiseLeft m) e h ih = refl

  pub inn-home : (f i : ℕ) → i ≤ f → i ≤ length s.steps → inn i ≡ inn (home G.homes i)
  inn-home f zero le within = refl
  inn-home zero (suc k) le within = absurd (omega (arith, le))
  inn-home (suc f) (suc k) le within =
      let p = get_or s.steps k unread in
      let h = there s.steps k unread (omega (arith, within)) in
      at_home k p p.entered refl h (inn-home f p.outer (omega (arith, S.outwards k p h, le)) (omega (arith, S.outwards k p h, within))) ∙ sym (ap inn (G.are_homes k p h))

  -- a token or a call of which it holds
  abbrev pub Somebody : Type 0
  Somebody = ((t : Token) × IsIn t s.tokens × (inn t.step ≡ true)) ⊎ ((c : Call) × IsIn c s.calls × (inn c.step ≡ true))

  -- the group of a child of group i
  pub child : (i : ℕ) (w : Nest) → G.groups i ≡ Some w → (g : Group) → IsIn g s.groups → n.parent g ≡ i
      → (v : Nest) × (k : ℕ) × (p : Step) × (G.groups (n.number g) ≡ Some v) × (v.step ≡ suc k) × (slice_get s.steps k ≡ Some p) × (home G.homes p.outer ≡ w.step) × (w.step < suc k) × (k < length s.steps)
  child i w is g at_g e =
      let d = G.sides g at_g in
      let v = d.0 in
      let k = d.1 in
      let p = d.2 in
      let a = G.nests.above (n.number g) v k p d.3 d.5 d.6 in
      let same : Some w ≡ Some a.0 = sym is ∙ ap G.groups (sym e ∙ sym d.4) ∙ a.1 in
      let w_is : w ≡ a.0 = some_same w a.0 same in
      let out = S.outwards k p d.6 in
      let within = get-within s.steps k p d.6 in
      let steps : home G.homes p.outer ≡ w.step = sym a.2 ∙ ap (λ (z : Nest). z.step) (sym w_is) in
      let least = home-least code (its_env code s) s.steps G.homes S.outwards G.are_homes 0 p.outer p.outer (omega arith) (omega (arith, out, within)) in
      (v, k, p, d.3, d.5, d.6, steps, omega (arith, steps, least, out), within)

  module _ (full : (i : ℕ) (w : Nest) → G.groups i ≡ Some w → 1 ≤ members n s i) where
    in_group : (i : ℕ) (w : Nest) → G.groups i ≡ Some w → inn w.step ≡ true
        → ((j : ℕ) (v : Nest) → G.groups j ≡ Some v → inn v.step ≡ true → w.step < v.step → v.step ≤ length s.steps → Somebody) → Somebody
    in_group i w is holds deeper =
        ⊎_elim (λ (a : 1 ≤ weight (λ (t : Token). is_this i (n.token t)) s.tokens). of_token (some-in (λ (t : Token). is_this i (n.token t)) s.tokens a))
        (λ z. ⊎_elim (λ (b : 1 ≤ weight (λ (c : Call). is_this i (n.call c)) s.calls). of_call (some-in (λ (c : Call). is_this i (n.call c)) s.calls b))
        (λ (b : 1 ≤ weight (λ (g : Group). is_this i (n.parent g)) s.groups). of_group (some-in (λ (g : Group). is_this i (n.parent g)) s.groups b))
        (either_one (weight (λ (c : Call). is_this i (n.call c)) s.calls) (weight (λ (g : Group). is_this i (n.parent g)) s.groups) z))
        (either_one (weight (λ (t : Token). is_this i (n.token t)) s.tokens) (weight (λ (c : Call). is_this i (n.call c)) s.calls + weight (λ (g : Group). is_this i (n.parent g)) s.groups) (full i w is))
      where
        at_step : (step : ℕ) (v : Nest) (j : ℕ) → i ≡ j → G.groups j ≡ Some v → v.step ≡ home G.homes step → step ≤ length s.steps → inn step ≡ true
        at_step step v j e there is_home le =
            let same : w ≡ v = some_same w v (sym is ∙ ap G.groups e ∙ there) in
            inn-home step step (omega arith) le ∙ ap inn (sym is_home ∙ ap (λ (z : Nest). z.step) (sym same)) ∙ holds

        of_token : ((t : Token) × IsIn t s.tokens × (1 ≤ is_this i (n.token t))) → Somebody
        of_token (t, at_t, h) = let d = G.tokens t at_t in inl (t, at_t, at_step t.step d.0 (n.token t) (this_one i (n.token t) h) d.1 d.2 (token_within s S t at_t))

        of_call : ((c : Call) × IsIn c s.calls × (1 ≤ is_this i (n.call c))) → Somebody
        of_call (c, at_c, h) = let d = G.calls c at_c in inr (c, at_c, at_step c.step d.0 (n.call c) (this_one i (n.call c) h) d.1 d.2 (call_within s S c at_c))

        or_true : (b c : Bool) → c ≡ true → (b || c) ≡ true
        or_true true c h = refl
        or_true false c h = h

        of_group : ((g : Group) × IsIn g s.groups × (1 ≤ is_this i (n.parent g))) → Somebody
        of_group (g, at_g, h) =
            let d = child i w is g at_g (sym (this_one i (n.parent g) h)) in
            let v = d.0 in
            let k = d.1 in
            let p = d.2 in
            let out = S.outwards k p d.5 in
            let outer : inn p.outer ≡ true = inn-home p.outer p.outer (omega arith) (omega (arith, out, d.8)) ∙ ap inn d.6 ∙ holds in
            let mine : inn (suc k) ≡ true = inn-step k p d.5 ∙ or_true (at p.entered) (inn p.outer) outer in
            deeper (n.number g) v d.3 (ap inn d.4 ∙ mine) (omega (arith, d.7, d.4)) (omega (arith, d.8, d.4))

    -- each group in which it holds has somebody
    pub someone : (f i : ℕ) (w : Nest) → G.groups i ≡ Some w → inn w.step ≡ true → length s.steps ≤ f + w.step → Somebody
    someone zero i w is holds le = in_group i w is holds (λ j v js more lt within. absurd (omega (arith, le, lt, within)))
    someone (suc f) i w is holds le = in_group i w is holds (λ j v js more lt within. someone f j v js more (omega (arith, le, lt)))

-- where none is empty each group has a member
pub all_full : (s : Records) (n : Numbers) (G : AreGrouped n s) → open_empty n s ≡ 0 → (i : ℕ) (w : Nest) → G.groups i ≡ Some w → 1 ≤ members n s i
all_full s n G none i w is = by_step w.step refl
  where
    not_empty : (k : ℕ) → is_empty k ≡ 0 → 1 ≤ k
    not_empty zero h = absurd (omega (arith, h))
    not_empty (suc k) h = omega arith

    by_step : (k : ℕ) → w.step ≡ k → 1 ≤ members n s i
    by_step zero e = let r : i ≡ 0 = G.nests.root i w is e in subst (λ z. 1 ≤ members n s z) (sym r) (not_empty (members n s 0) (omega (arith, none)))
    by_step (suc k) e =
        let g = G.listed i w k is e in
        subst (λ z. 1 ≤ members n s z) g.2 (not_empty (members n s (n.number g.0)) (omega (arith, none, weight-in (λ (h : Group). is_empty (members n s (n.number h))) s.groups g.0 g.1)))
