-- Why a publication is refused rightly.
use Rattle.std.proofs.Common.{◌≡◌, ℕ, List, [], ap, ◌∙◌, refl}
use Rattle.orc_rules.specs.declared.value.Value.{Value}
use Rattle.orc_rules.specs.declared.param.Param.TheVariants.{Is}
use Rattle.orc_rules.specs.declared.entry.Entry.{Entry}
use Rattle.orc_rules.specs.declared.entry.Entry.TheVariants as entry
use Rattle.orc_rules.specs.declared.entry.RuleFault.{RuleFault}
use Rattle.orc_rules.specs.declared.entry.RuleFault.TheVariants as reason
use Rattle.orc_rules.specs.Term.{param}
use Rattle.orc_rules.specs.Step.{Act, binds, publishes, silent}
use Rattle.orc_rules.specs.Marked.{Marked, token, Emits}
use Rattle.orc_rules.specs.Nodes.{Listing, code}
use Rattle.orc_rules.specs.Numbered.{IsNumbered, mark}
use Rattle.orc_rules.specs.Sites.{Table}
use Rattle.orc_rules.specs.Timed.{Context}
use Rattle.orc_rules.specs.Journal.{Place}
use Rattle.orc_rules.specs.Refusal.{HasToken, Meets}
use Rattle.orc_rules.proofs.Standing.{act_one, emits_token, token_one}
use Rattle.orc_env.proofs.Reached.{reached_numbered}
use Rattle.orc_term.specs.declared.arena.Kind.TheVariants.{Leaf}
use Rattle.orc_term.specs.declared.arena.Tip.{Tip}
use Rattle.orc_term.specs.declared.walk.Taker.{Taker}
use Rattle.orc_term.specs.declared.walk.Taker.TheVariants.{Whole, Fed, Bound}
use Rattle.orc_term.specs.Arena.{at, living_kind, Frame, Tree}
use Rattle.orc_term.specs.Bearers.{BearsValue}
use Rattle.orc_checker.specs.Checker.{State, context}
use Rattle.orc_checker.specs.Refusing.{IsRightlyRefused, LacksBearer}
use Rattle.orc_term.specs.Rising.{act_of, IsTaker, Stands}
use Rattle.orc_checker.proofs.Bearers.{carried_token}
use Rattle.orc_checker.proofs.Offered.{published_up, token_stands}
use Rattle.orc_checker.proofs.Refusing.{lacks_token}
use Rattle.orc_checker.proofs.Shown.{shown}

-- an entry asks, no cancel due, that a token publishes a value, and that its taker does this
pub record AsksValue (e : Entry) (m : ℕ) (v : Value) (b : Act) : Type 0 where
  pub free : (x : Context) (p : Place) → Meets x p e reason.Cancel → p.to_cancel ≡ []
  pub there : (x : Context) (p : Place) → Meets x p e reason.Mark → HasToken p m
  pub form : (x : Context) (p : Place) → Meets x p e reason.Form → (n : ℕ) × (q : Marked) × Emits m n v p.marked b q

pub asks_send : (m a : ℕ) (v : Value) → AsksValue (entry.Send m a v) m v silent
asks_send m a v = record { free = λ x p h. h; there = λ x p h. h; form = λ x p h. (a, h.0, h.1) }

pub asks_bind : (m c : ℕ) (v : Value) → AsksValue (entry.Bind m c v) m v (binds c v)
asks_bind m c v = record { free = λ x p h. h; there = λ x p h. h.0; form = λ x p h. (p.mark, h.0, h.1) }

pub asks_publish : (m : ℕ) (v : Value) → AsksValue (entry.Publish m v) m v (publishes v)
asks_publish m v = record { free = λ x p h. h; there = λ x p h. h; form = λ x p h. (p.mark, h.0, h.1) }

module _ (l : Listing) (t : Table) (e : Entry) (s : State) where
  -- no token is found that stands on the value
  pub bearer_refused : (m : ℕ) (v : Value) (b : Act) (why : RuleFault) → AsksValue e m v b → LacksBearer (code l) s m v why → IsRightlyRefused l t e s why
  bearer_refused m v b reason.Form asks (q, i, k, there, carries, other) not_memory cancels p r sp h =
      let x = context l t cancels in
      let c = carried_token (code l) s.cells s.scopes m k carries in
      let f = asks.form x p h in
      let same = token_one m c.1 (param (Is v)) p.marked (IsNumbered.single (reached_numbered l t.sites cancels r.0 p r.1) (mark m)) (token_stands x l s p sp q i k there c.0 m c.1 c.2) (emits_token f.2) in
      other sp.scopes (c.2 ∙ ap (token m) same)
  bearer_refused m v b reason.Cancel asks lacks not_memory cancels p r sp h = lacks_token l t cancels s p r sp m reason.Cancel lacks e (asks.free (context l t cancels) p) (asks.there (context l t cancels) p) h
  bearer_refused m v b reason.Mark asks lacks not_memory cancels p r sp h = lacks_token l t cancels s p r sp m reason.Mark lacks e (asks.free (context l t cancels) p) (asks.there (context l t cancels) p) h
  bearer_refused m v b _ asks lacks not_memory cancels p r sp h = absurd lacks

  -- what takes it does something else
  pub taker_refused : (m : ℕ) (v : Value) (b : Act) (q i : ℕ) (k : Tip) (w : Taker) → AsksValue e m v b → at s.nodes q i (Leaf k) → living_kind (Leaf k) ≡ 1 → BearsValue (code l) s.cells s.scopes m k v → IsTaker s.nodes i w → (act_of w v ≡ b → ⊥) → IsRightlyRefused l t e s reason.Form
  taker_refused m v b q i k w asks there lives bears taker off not_memory cancels p r sp h =
      let x = context l t cancels in
      let f = asks.form x p h in
      let u = published_up x l s p sp q i k there lives m v (bears sp.scopes) w taker f.0 in
      off (act_one (IsNumbered.single (reached_numbered l t.sites cancels r.0 p r.1) (mark m)) u.1 f.2)

  -- a node that isn't gone stands somewhere
  pub standing_refused : (q i : ℕ) (k : Tip) (why : RuleFault) → at s.nodes q i (Leaf k) → living_kind (Leaf k) ≡ 1 → ((n : ℕ) (o : List Frame) (u : Tree) → Stands s.nodes n i o u → ⊥) → IsRightlyRefused l t e s why
  standing_refused q i k why there lives off not_memory cancels p r sp h = let w = shown (code l) s p.marked sp.drawn q i (Leaf k) there lives in off _ w.context w.tree w.there

-- who takes a publication by what it does
pub whole_takes : (w : Taker) (v : Value) → act_of w v ≡ publishes v → w ≡ Whole
whole_takes Whole v h = refl
whole_takes (Fed i) v h = cc h
whole_takes (Bound c i) v h = cc h

pub fed_takes : (w : Taker) (v : Value) → act_of w v ≡ silent → (i : ℕ) × (w ≡ Fed i)
fed_takes Whole v h = cc h
fed_takes (Fed i) v h = (i, refl)
fed_takes (Bound c i) v h = cc h

pub bound_takes : (w : Taker) (v : Value) (c : ℕ) → act_of w v ≡ binds c v → (i : ℕ) × (w ≡ Bound c i)
bound_takes Whole v c h = cc h
bound_takes (Fed i) v c h = cc h
bound_takes (Bound d i) v c h = (i, cc h)
