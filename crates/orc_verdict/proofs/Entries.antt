-- What each entry asks, by what it names.
use Rattle.std.proofs.Common.{◌≡◌, ℕ, List, [], ◌∷◌, Option, Some, None, refl, sym, ap, ◌∙◌, Bool, false}
use Rattle.std.specs.Prelude.{slice_get}
use Rattle.std.specs.Bool.{Decides}
use Rattle.std.proofs.lemmas.Bool.Decides.{Decides-like}
use Rattle.orc_rules.specs.declared.value.Answer.{Answer}
use Rattle.orc_rules.specs.declared.entry.Entry.{Entry}
use Rattle.orc_rules.specs.declared.entry.Entry.TheVariants.{Return, ReturnHalt, Lost, Right, Tick, Cancel}
use Rattle.orc_rules.specs.declared.entry.RuleFault.{RuleFault}
use Rattle.orc_rules.specs.declared.entry.RuleFault.TheVariants as reason
use Rattle.orc_rules.specs.Timed.{Context, IsDue, IsTick}
use Rattle.orc_rules.specs.Journal.{Place, moment}
use Rattle.orc_rules.specs.Refusal.{IsThere, IsInTurn, IsAnswer, IsAnswered, IsOnTime, IsOver, Meets}
use Rattle.orc_verdict.specs.declared.reasons.Asked.{Asked}
use Rattle.orc_verdict.specs.declared.reasons.Asked.TheVariants.{Cell, Otherwise}
use Rattle.orc_verdict.specs.Reasons.{asked_by, IsThereAs, cancel_of, answer_of, tick_of, IsRightOver, IsLeftOver}

pub as_there : (p : Place) (e : Entry) (b : Bool) → Decides b (IsThereAs p (asked_by e)) → Decides b (IsThere p e)
as_there p (Return k a v) b d = d
as_there p _ b d = d

abbrev pub IsOverAs : Place → Asked → Type 0
IsOverAs p (Cell c) = IsRightOver p c
IsOverAs p (Otherwise s) = IsLeftOver p s
IsOverAs p _ = Unit {0}

pub as_over : (p : Place) (e : Entry) (b : Bool) → Decides b (IsOverAs p (asked_by e)) → Decides b (IsOver p e)
as_over p (Lost c) b d = d
as_over p (Right s a) b d = d
as_over p _ b d = d

abbrev pub AnsweredAs : Context → Place → Option (ℕ × Answer) → Type 0
AnsweredAs x p (Some (k, a)) = IsAnswer x p k a
AnsweredAs x p None = Unit {0}

pub as_answered : (x : Context) (p : Place) (e : Entry) (b : Bool) → Decides b (AnsweredAs x p (answer_of e)) → Decides b (IsAnswered x p e)
as_answered x p (Return k a v) b d = d
as_answered x p (ReturnHalt k) b d = d
as_answered x p _ b d = d

abbrev pub TimedAs : Context → Place → Option ℕ → Option (ℕ × Answer) → Type 0
TimedAs x p (Some t) o = IsTick x (moment p) t
TimedAs x p None (Some (k, a)) = IsDue x.sites p.calls k a p.now
TimedAs x p None None = Unit {0}

pub as_timed : (x : Context) (p : Place) (e : Entry) (b : Bool) → Decides b (TimedAs x p (tick_of e) (answer_of e)) → Decides b (IsOnTime x p e)
as_timed x p (Return k a v) b d = d
as_timed x p (ReturnHalt k) b d = d
as_timed x p (Tick t) b d = d
as_timed x p _ b d = d

-- the first of a list
first_of : (k : ℕ) (ks : List ℕ) → Some k ≡ slice_get ks 0 → (js : List ℕ) × (ks ≡ k ∷ js)
first_of k [] h = cc h
first_of k (j ∷ js) h = (js, ap (λ z. z ∷ js) (same j k (sym h)))
  where
    same : (a b : ℕ) → Some a ≡ Some b → a ≡ b
    same a b e = cc e

none_of : (ks : List ℕ) → None ≡ slice_get ks 0 → ks ≡ []
none_of [] h = refl
none_of (k ∷ ks) h = cc h

pub as_turn : (p : Place) (e : Entry) (b : Bool) (next : Option ℕ) → next ≡ slice_get p.to_cancel 0 → Decides b (cancel_of e ≡ next) → Decides b (IsInTurn p e)
as_turn p (Cancel k) b next is d = Decides-like b (λ h. first_of k p.to_cancel (h ∙ is)) (λ h. sym (is ∙ ap (λ z. slice_get z 0) h.1)) d
as_turn p _ b next is d = Decides-like b (λ h. none_of p.to_cancel (h ∙ is)) (λ h. sym (is ∙ ap (λ z. slice_get z 0) h)) d

pub unmet : {X : Type 0} (b : Bool) → Decides b X → b ≡ false → X → ⊥
unmet b d e m = cc (sym e ∙ d.1 m)

pub all_met : (x : Context) (p : Place) (e : Entry) → Meets x p e reason.Cancel → Meets x p e reason.Mark → Meets x p e reason.Form → Meets x p e reason.Number → Meets x p e reason.Answer → Meets x p e reason.Time → Meets x p e reason.Halted → (r : RuleFault) → Meets x p e r
all_met x p e a b c d f g h reason.Cancel = a
all_met x p e a b c d f g h reason.Mark = b
all_met x p e a b c d f g h reason.Form = c
all_met x p e a b c d f g h reason.Number = d
all_met x p e a b c d f g h reason.Answer = f
all_met x p e a b c d f g h reason.Time = g
all_met x p e a b c d f g h reason.Halted = h
all_met x p e a b c d f g h reason.Deep = tt
all_met x p e a b c d f g h reason.Memory = tt
