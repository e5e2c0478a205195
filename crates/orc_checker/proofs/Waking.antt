-- Whether a node of the program can move, by itself and by its parts.
use Rattle.std.proofs.Common.{◌≡◌, ◌<◌, ◌≤◌, ◌+◌, ℕ, zero, suc, List, [], ◌∷◌, length, get_or, refl, sym, ap, ◌∙◌, subst, inl, inr, ◌⊎◌, ⊎_elim, arith, Bool, true, false}
use Rattle.std.specs.Prelude.{slice_set, ◌||◌, ◌&&◌}
use Rattle.orc_rules.specs.declared.program.TermNode.{TermNode}
use Rattle.orc_rules.specs.declared.program.TermNode.TheVariants.{Stop}
use Rattle.orc_rules.specs.Term.{Term, Definition, stop, param, site, call, par, seq, prune, other, pending, opened}
use Rattle.orc_rules.specs.Idle.{has_halted, can_move}
use Rattle.orc_rules.specs.Lost.{IsSource}
use Rattle.orc_rules.specs.Nodes.{ArePartsFirst, HasParts, node_of}
use Rattle.orc_term.specs.Arena.{hits}
use Rattle.orc_env.specs.Scopes.{Env, close}
use Rattle.orc_term.specs.Halting.{halt_flag}
use Rattle.orc_term.specs.Settling.{flag}
use Rattle.orc_checker.specs.Stillness.{Wakes}
use Rattle.orc_term.proofs.Trees.{hit, hits-both}
use Rattle.orc_env.proofs.Closing.{close-stop, close-par, close-seq}
use Rattle.orc_term.proofs.Settling.{flag-set_same, flag-set_other}
use Rattle.orc_checker.proofs.Halting.{parts_in}

pub below_or : (k n : ℕ) → k < n + 1 → (k < n) ⊎ (k ≡ n)
below_or zero zero lt = inr refl
below_or zero (suc n) lt = inl (omega arith)
below_or (suc k) zero lt = absurd (omega (arith, lt))
below_or (suc k) (suc n) lt = ⊎_elim (λ (a : k < n). inl (omega (arith, a))) (λ e. inr (ap suc e)) (below_or k n (omega (arith, lt)))

less_or : (i n : ℕ) → (i < n) ⊎ (n ≤ i)
less_or i zero = inr (omega arith)
less_or zero (suc n) = inl (omega arith)
less_or (suc i) (suc n) = ⊎_elim (λ (a : i < n). inl (omega (arith, a))) (λ (a : n ≤ i). inr (omega (arith, a))) (less_or i n)

past : {X : Type 0} (xs : List X) (d : X) (i : ℕ) → length xs ≤ i → get_or xs i d ≡ d
past [] d i le = refl
past (x ∷ xs) d zero le = absurd (omega (arith, le))
past (x ∷ xs) d (suc i) le = past xs d i (omega (arith, le))

pub parts_total : (nodes : List TermNode) (i : ℕ) → ArePartsFirst nodes → HasParts i (node_of nodes i)
parts_total nodes i first = ⊎_elim (λ (lt : i < length nodes). parts_in nodes i first lt) (λ (le : length nodes ≤ i). subst (HasParts i) (sym (past nodes Stop i le)) tt) (less_or i (length nodes))

is_set : (queued queued' : List Bool) (f : ℕ) → queued' ≡ slice_set queued f true → flag queued' f ≡ true
is_set queued queued' f e = ap (λ z. flag z f) e ∙ flag-set_same queued f

keeps_set : (queued queued' : List Bool) (f : ℕ) → queued' ≡ slice_set queued f true → (k : ℕ) → flag queued k ≡ true → flag queued' k ≡ true
keeps_set queued queued' f e k h =
    ap (λ z. flag z k) e ∙
    ⊎_elim (λ (same : k ≡ f). ap (flag (slice_set queued f true)) same ∙ flag-set_same queued f)
    (λ (z : hits k f ≡ 0). flag-set_other queued f k true (λ same. omega (arith, z, hit f, ap (λ w. hits w f) same)) ∙ h)
    (hits-both k f)

-- what is set now was set before, or is the one that was set
was_set : (queued queued' : List Bool) (f : ℕ) → queued' ≡ slice_set queued f true → (k : ℕ) → flag queued' k ≡ true → (flag queued k ≡ true) ⊎ (k ≡ f)
was_set queued queued' f e k h =
    ⊎_elim (λ (same : k ≡ f). inr same)
    (λ (z : hits k f ≡ 0). inl (sym (flag-set_other queued f k true (λ same. omega (arith, z, hit f, ap (λ w. hits w f) same))) ∙ sym (ap (λ w. flag w k) e) ∙ h))
    (hits-both k f)

or_right : (a b : Bool) → b ≡ true → (a || b) ≡ true
or_right true b h = refl
or_right false b h = h

module _ (moves : ℕ → Bool) (queued queued' : List Bool) (i : ℕ) where
  pub wakes_itself : (b : Bool) → queued' ≡ queued → moves i ≡ b → Wakes moves queued queued' i b
  wakes_itself b same is =
      record {
        by_itself = λ yes. is ∙ yes;
        by_parts = λ no h. is ∙ no;
        kept = λ k on. ap (λ z. flag z k) same ∙ on;
        woken = λ k on. inl (sym (ap (λ z. flag z k) same) ∙ on);
      }

  pub wakes_one : (f : ℕ) (b : Bool) → f < i → queued' ≡ slice_set queued f true → moves i ≡ (moves f || b) → Wakes moves queued queued' i b
  wakes_one f b lt same is =
      record {
        by_itself = λ yes. is ∙ or_right (moves f) b yes;
        by_parts = λ no h. is ∙ (λ j. h f lt (is_set queued queued' f same) j || no j);
        kept = keeps_set queued queued' f same;
        woken = λ k on. ⊎_elim (λ was. inl was) (λ (e : k ≡ f). inr (λ yes. is ∙ ap (λ z. z || b) (sym (ap moves e) ∙ yes))) (was_set queued queued' f same k on);
      }

  pub wakes_two : (f g : ℕ) (mid : List Bool) → f < i → g < i → mid ≡ slice_set queued f true → queued' ≡ slice_set mid g true → moves i ≡ (moves f || moves g) → Wakes moves queued queued' i false
  wakes_two f g mid lt lt' first second is =
      record {
        by_itself = λ yes. absurd (cc yes);
        by_parts = λ no h. is ∙ (λ j. h f lt (keeps_set mid queued' g second f (is_set queued mid f first)) j || h g lt' (is_set mid queued' g second) j);
        kept = λ k on. keeps_set mid queued' g second k (keeps_set queued mid f first k on);
        woken = λ k on.
            ⊎_elim
            (λ was. ⊎_elim (λ before. inl before) (λ (e : k ≡ f). inr (λ yes. is ∙ ap (λ z. z || moves g) (sym (ap moves e) ∙ yes))) (was_set queued mid f first k was))
            (λ (e : k ≡ g). inr (λ yes. is ∙ or_right (moves f) (moves g) (sym (ap moves e) ∙ yes)))
            (was_set mid queued' g second k on);
      }

-- the nodes of a term are looked at from the last to the first: it can move exactly where a queued one can
pub record Looks (moves : ℕ → Bool) (node : ℕ) (queued : List Bool) (n : ℕ) : Type 0 where
  pub down : ((k : ℕ) → k < n → flag queued k ≡ true → moves k ≡ false) → moves node ≡ false
  pub up : (k : ℕ) → k < n → flag queued k ≡ true → moves k ≡ true → moves node ≡ true

module _ (moves : ℕ → Bool) (node : ℕ) (queued queued' : List Bool) where
  pub looks_first : Wakes moves queued queued' node false → ((k : ℕ) → k < node → flag queued k ≡ true → moves k ≡ false) → Looks moves node queued' node
  looks_first w none =
      record {
        down = w.by_parts refl;
        up = λ k lt on yes. ⊎_elim (λ was. absurd (cc (sym yes ∙ none k lt was))) (λ f. f yes) (w.woken k on);
      }

  pub looks_on : (m n : ℕ) → m ≡ n + 1 → flag queued n ≡ true → Wakes moves queued queued' n false → Looks moves node queued m → Looks moves node queued' n
  looks_on m n is here w l =
      record {
        down = λ h. l.down (λ k lt on. ⊎_elim (λ (a : k < n). h k a (w.kept k on)) (λ same. ap moves same ∙ w.by_parts refl h) (below_or k n (omega (arith, lt, is))));
        up = λ k lt on yes. ⊎_elim (λ was. l.up k (omega (arith, lt, is)) was yes) (λ f. l.up n (omega (arith, is)) here (f yes)) (w.woken k on);
      }

-- the flags of the nodes before n are cleared
abbrev pub AreCleared : List Bool → ℕ → Type 0
AreCleared queued n = (k : ℕ) → k < n → k < length queued → flag queued k ≡ false

set_off : (queued : List Bool) (n : ℕ) → n < length queued → flag (slice_set queued n false) n ≡ false
set_off [] n lt = absurd (omega (arith, lt))
set_off (b ∷ queued) zero lt = refl
set_off (b ∷ queued) (suc n) lt = set_off queued n (omega (arith, lt))

pub clears : (queued queued' : List Bool) (n : ℕ) → queued' ≡ slice_set queued n false → length queued' ≡ length queued → AreCleared queued n → AreCleared queued' (n + 1)
clears queued queued' n same len h k lt there =
    ap (λ z. flag z k) same ∙
    ⊎_elim (λ (a : k < n). flag-set_other queued n k false (λ e. omega (arith, a, e)) ∙ h k a (omega (arith, there, len)))
    (λ (e : k ≡ n). ap (flag (slice_set queued n false)) e ∙ set_off queued n (omega (arith, there, len, e)))
    (below_or k n lt)

both_hold : (a b : Bool) → (a && b) ≡ true → (a ≡ true) × (b ≡ true)
both_hold true b h = (refl, h)
both_hold false b h = absurd (cc h)

-- a source's term that has halted can't move
halted_stays : (defs : List Definition) (e : Env) (t : Term) → IsSource t → has_halted t ≡ true → can_move defs (close e t) ≡ false
halted_stays defs e stop s h = ap (can_move defs) (close-stop e)
halted_stays defs e (param p) s h = absurd (cc h)
halted_stays defs e (site m ps) s h = absurd (cc h)
halted_stays defs e (call d ps) s h = absurd (cc h)
halted_stays defs e (par f g) s h =
    let b = both_hold (has_halted f) (has_halted g) h in
    ap (can_move defs) (close-par e f g) ∙ (λ j. halted_stays defs e f s.0 b.0 j || halted_stays defs e g s.1 b.1 j)
halted_stays defs e (seq f x g) s h = ap (can_move defs) (close-seq e f x g) ∙ halted_stays defs e f s.0 h
halted_stays defs e (prune f x g) s h = absurd (cc h)
halted_stays defs e (other f g) s h = absurd (cc h)
halted_stays defs e (pending k) s h = absurd (cc h)
halted_stays defs e (opened f c g) s h = elim s [ ]

-- no node that is queued after the clearing can move: there is no flag for it
pub none_active : (defs : List Definition) (code : ℕ → Term) (e : Env) (halts queued : List Bool) (n : ℕ) → ((i : ℕ) → IsSource (code i)) → ((i : ℕ) → halt_flag halts i ≡ has_halted (code i)) → length halts ≤ length queued → AreCleared queued n
    → (k : ℕ) → k < n → flag queued k ≡ true → can_move defs (close e (code k)) ≡ false
none_active defs code e halts queued n source are room clear k lt on =
    ⊎_elim (λ (a : k < length queued). absurd (cc (sym on ∙ clear k lt a)))
    (λ (le : length queued ≤ k). halted_stays defs e (code k) (source k) (sym (are k) ∙ past halts true k (omega (arith, le, room))))
    (less_or k (length queued))
