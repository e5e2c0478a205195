-- A token that goes on in its group, as a move.
use Rattle.std.proofs.Common.{◌≡◌, ◌<◌, ℕ, ◌+◌, List, [], ◌∷◌, ◌++◌, refl, sym, ap, ◌∙◌, subst, arith, append-nil, inl, inr, ◌⊎◌, Bool, true, false, cond, nat_eq, eq-eqb}
use Rattle.std.proofs.lemmas.Bool.{eqb-true}
use Rattle.orc_rules.specs.declared.entry.Entry.{Entry}
use Rattle.orc_rules.specs.Nodes.{Listing, code, definitions}
use Rattle.orc_rules.specs.Sites.{Site}
use Rattle.orc_rules.specs.Timed.{IsIn}
use Rattle.orc_env.specs.declared.names.Bound.{Bound}
use Rattle.orc_env.specs.declared.names.Scope.{Scope}
use Rattle.orc_indexes.specs.Same.{weight}
use Rattle.orc_indexes.proofs.Weight.{weight-in}
use Rattle.orc_ledger_spec.specs.Records.{Records, Lawful}
use Rattle.orc_ledger_spec.specs.Calls.{Turns}
use Rattle.orc_ledger_spec.specs.Doing.{what_of}
use Rattle.orc_ledger_spec.specs.Moves.{Moves, Does, Feeds, Enters, Misfits}
use Rattle.orc_ledger_spec.specs.declared.results.Moved.{Moved}
use Rattle.orc_ledger_spec.specs.declared.results.Moved.TheVariants as moved
use Rattle.orc_frames.specs.declared.action.Action.TheVariants as what
use Rattle.orc_tables.specs.Steps.{group_at}
use Rattle.orc_tables.specs.Tokens.{IsHeld}
use Rattle.orc_tables.specs.declared.records.Token.{Token}
use Rattle.orc_tables.specs.declared.records.Step.{Step}
use Rattle.orc_ledger_spec.proofs.Nests.{group-end}
use Rattle.orc_ledger_spec.proofs.Sound.{given}

-- one token comes in the place of another, in its group; the one in the slot has its serial
pub record WentOn (s s' : Records) (slot : ℕ) (t : Token) : Type 0 where
  pub token : Token
  pub scopes : List Scope
  pub steps : List Step
  pub cells : List Bound
  pub entry : Entry
  pub turns : Turns s s' t (token ∷ []) scopes steps [] cells entry
  pub same : group_at (s.steps ++ steps) token.step ≡ group_at s.steps t.step
  pub mark : token.serial ≡ s.next_mark
  pub held : (b : Token) × IsHeld s'.slots slot b × (b.serial ≡ s.next_mark)

module _ (l : Listing) (s : Records) (slot : ℕ) (t : Token) (s' : Records) (ks : List ℕ) where
  fed : Feeds l s slot t s' → WentOn s s' slot t
  fed F = record { token = _; scopes = []; steps = _; cells = []; entry = _; turns = F.done; same = group-end s.steps _; mark = refl; held = (_, F.held, refl) }

  entered : Enters l s slot t s' → WentOn s s' slot t
  entered E = let T = E.done in record { token = _; scopes = T.2; steps = []; cells = []; entry = _; turns = T.5; same = ap (λ z. group_at z t.step) (append-nil s.steps); mark = refl; held = E.held }

  by_seq : (m : Moved) → Does l s slot t s' ks what.Seq m → (m ≡ moved.On) × WentOn s s' slot t
  by_seq moved.On d = (refl, fed d)
  by_seq (moved.Gone g) d = elim d [ ]
  by_seq (moved.Forked k) d = elim d [ ]
  by_seq (moved.Sent g) d = elim d [ ]
  by_seq (moved.Bound c g) d = elim d [ ]
  by_seq moved.Calls d = elim d [ ]
  by_seq moved.Waits d = elim d [ ]

  by_def : (m : Moved) → Does l s slot t s' ks what.Def m → ((m ≡ moved.On) × WentOn s s' slot t) ⊎ ((m ≡ moved.Waits) × (s' ≡ s))
  by_def moved.On d = inl (refl, entered d)
  by_def moved.Waits d = inr (refl, Misfits.same d)
  by_def (moved.Gone g) d = elim d [ ]
  by_def (moved.Forked k) d = elim d [ ]
  by_def (moved.Sent g) d = elim d [ ]
  by_def (moved.Bound c g) d = elim d [ ]
  by_def moved.Calls d = elim d [ ]

  pub goes : (m : Moved) → (what_of (code l) (definitions l) s t ≡ what.Seq) ⊎ (what_of (code l) (definitions l) s t ≡ what.Def) → Moves l s slot t m ks s' → ((m ≡ moved.On) × WentOn s s' slot t) ⊎ ((m ≡ moved.Waits) × (s' ≡ s))
  goes m (inl e) d = inl (by_seq m (subst (λ w. Does l s slot t s' ks w m) e d))
  goes m (inr e) d = by_def m (subst (λ w. Does l s slot t s' ks w m) e d)

  pub went : (what_of (code l) (definitions l) s t ≡ what.Seq) ⊎ (what_of (code l) (definitions l) s t ≡ what.Def) → Moves l s slot t moved.On ks s' → WentOn s s' slot t
  went w d = by (goes moved.On w d)
    where
      by : ((moved.On ≡ moved.On) × WentOn s s' slot t) ⊎ ((moved.On ≡ moved.Waits) × (s' ≡ s)) → WentOn s s' slot t
      by (inl x) = x.1
      by (inr x) = cc x.0

-- ---- who has the newest serial is who came

pub weight-none-in : {X : Type 0} (w : X → ℕ) (xs : List X) → ((x : X) → IsIn x xs → w x ≡ 0) → weight w xs ≡ 0
weight-none-in w [] h = refl
weight-none-in w (x ∷ xs) h = omega (arith, h x (inl refl), weight-none-in w xs (λ y i. h y (inr i)))

-- 1 where the token has this serial and f of it isn't this
odd : (f : Token → ℕ) (n k : ℕ) → Token → ℕ
odd f n k u = cond (nat_eq u.serial n) (cond (nat_eq (f u) k) 0 1) 0

module _ (f : Token → ℕ) (n k : ℕ) (u : Token) where
  odd-other : (u.serial ≡ n → ⊥) → odd f n k u ≡ 0
  unfolding odd
  odd-other off = by (nat_eq u.serial n) refl
    where
      by : (b : Bool) → nat_eq u.serial n ≡ b → cond {A = ℕ} b (cond (nat_eq (f u) k) 0 1) 0 ≡ 0
      by true e = absurd (off (eqb-true u.serial n e))
      by false e = refl

  odd-same : f u ≡ k → odd f n k u ≡ 0
  unfolding odd
  odd-same e = ap (λ b. cond {A = ℕ} (nat_eq u.serial n) (cond b 0 1) 0) (eq-eqb (f u) k e) ∙ none (nat_eq u.serial n)
    where
      none : (b : Bool) → cond {A = ℕ} b 0 0 ≡ 0
      none true = refl
      none false = refl

  odd-none : u.serial ≡ n → odd f n k u ≡ 0 → f u ≡ k
  unfolding odd
  odd-none same z = by (nat_eq (f u) k) refl
    where
      by : (b : Bool) → nat_eq (f u) k ≡ b → f u ≡ k
      by true e = eqb-true (f u) k e
      by false e = cc (ap (λ b. cond {A = ℕ} b (cond (nat_eq (f u) k) 0 1) 0) (sym (eq-eqb u.serial n same)) ∙ z, ap (λ b. cond {A = ℕ} b 0 1) e)

pub newest : (s s' : Records) (t c b : Token) (f : Token → ℕ) → ((w : Token → ℕ) → weight w s'.tokens + w t ≡ weight w s.tokens + w c) → ((u : Token) → IsIn u s.tokens → u.serial < c.serial) → IsIn b s'.tokens → b.serial ≡ c.serial → f b ≡ f c
newest s s' t c b f T before i e =
    let w : Token → ℕ = odd f c.serial (f c) in
    let old : weight w s.tokens ≡ 0 = weight-none-in w s.tokens (λ u j. odd-other f c.serial (f c) u (λ x. absurd (omega (arith, before u j, x)))) in
    odd-none f c.serial (f c) b e (omega (arith, T w, old, odd-same f c.serial (f c) c refl, weight-in w s'.tokens b i))

module _ (l : Listing) (sites : List Site) (s s' : Records) (L : Lawful l sites s) (slot : ℕ) (t : Token) (W : WentOn s s' slot t) (b : Token) (held : IsHeld s'.slots slot b) (i : IsIn b s'.tokens) where
  same_one : b ≡ (W.held).0
  same_one = cc (held.0, ((W.held).1).0)

  pub went-group : group_at s'.steps b.step ≡ group_at s.steps t.step
  went-group =
      newest s s' t W.token b (λ (u : Token). group_at s'.steps u.step) (λ w. omega (arith, (W.turns).tokens w)) (λ u j. omega (arith, given l sites s L u j, W.mark)) i (ap (λ (z : Token). z.serial) same_one ∙ (W.held).2 ∙ sym W.mark)
      ∙ ap (λ z. group_at z (Token.step W.token)) (W.turns).steps
      ∙ W.same
