-- What the rules and the records say of a call that is answered, and of a tick.
use Rattle.std.proofs.Common.{◌≡◌, ◌<◌, ◌^◌, ℕ, List, [], refl, sym, ◌∙◌, subst}
use Rattle.orc_rules.specs.declared.value.Answer.{Answer}
use Rattle.orc_rules.specs.declared.value.Found.{Found}
use Rattle.orc_rules.specs.declared.entry.RuleFault.{RuleFault}
use Rattle.orc_rules.specs.declared.entry.RuleFault.TheVariants as fault
use Rattle.orc_rules.specs.Nodes.{Listing, source}
use Rattle.orc_rules.specs.Sites.{Site}
use Rattle.orc_rules.specs.Timed.{IsIn, IsDue, IsTick}
use Rattle.orc_rules.specs.Journal.{Place, begin, moment}
use Rattle.orc_calls.specs.Due.{DueNow, IsNotDue}
use Rattle.orc_ledger_spec.specs.Records.{Records, context}
use Rattle.orc_ledger_spec.specs.Kept.{Kept}
use Rattle.orc_ledger_spec.specs.Answers.{IsAt, IsDueNow, MayTick}
use Rattle.orc_tables.specs.declared.records.Call.{Call}
use Rattle.orc_ledger_spec.proofs.Keeping.{journal_one, told-due}

-- what isn't due isn't due
pub not-due : (at : ℕ) (found : Found) (a : Answer) (t : ℕ) (r : RuleFault) → IsNotDue at found a t r → DueNow at found a t → ⊥
not-due at found a t fault.Answer h d = h d.delay d.says
not-due at found a t fault.Time h d = h.2 d
not-due at found a t fault.Cancel h d = elim h [ ]
not-due at found a t fault.Mark h d = elim h [ ]
not-due at found a t fault.Form h d = elim h [ ]
not-due at found a t fault.Number h d = elim h [ ]
not-due at found a t fault.Halted h d = elim h [ ]
not-due at found a t fault.Deep h d = elim h [ ]
not-due at found a t fault.Memory h d = elim h [ ]

module _ (l : Listing) (sites : List Site) (counts : List (List ℕ × ℕ)) (sizes : List ℕ) (s : Records) (K : Kept l sites counts sizes s) where
  -- the journal leads to one place
  pub one-place : (p : Place) → IsAt l sites s p → p ≡ K.lawful.place
  one-place p h = journal_one (context l sites) (source l) [] (begin (source l)) p K.lawful.place s.journal refl h K.lawful.leads

  pub ticks-there : (t : ℕ) → MayTick l sites s t → IsTick (context l sites) (moment K.lawful.place) t
  ticks-there t (p, h, tick) = subst (λ q. IsTick (context l sites) (moment q) t) (one-place p h) tick

  module _ (c : Call) (i : IsIn c s.calls) (a : Answer) where
    pub due-there : DueNow c.made_at c.found a s.now → IsDue sites K.lawful.place.calls c.number a K.lawful.place.now
    due-there d = (told-due l sites s K.lawful K.told c i a K.lawful.place.now).1 (d.delay, d.says, K.lawful.spells.now ∙ d.sum, subst (λ z. z < 2 ^ 64) (sym K.lawful.spells.now) d.fits)

    pub due-now : (k : ℕ) → c.number ≡ k → DueNow c.made_at c.found a s.now → IsDueNow l sites s k a
    due-now k is d = (K.lawful.place, K.lawful.leads, subst (λ z. IsDue sites K.lawful.place.calls z a K.lawful.place.now) is (due-there d))

    pub now-due : (k : ℕ) → c.number ≡ k → IsDueNow l sites s k a → DueNow c.made_at c.found a s.now
    now-due k is (p, h, due) =
        let at : IsDue sites K.lawful.place.calls c.number a K.lawful.place.now = subst (λ (q : Place). IsDue sites q.calls c.number a q.now) (one-place p h) (subst (λ z. IsDue sites p.calls z a p.now) (sym is) due) in
        let d = (told-due l sites s K.lawful K.told c i a K.lawful.place.now).0 at in
        record { delay = d.0; says = d.1; sum = sym K.lawful.spells.now ∙ d.2; fits = subst (λ z. z < 2 ^ 64) K.lawful.spells.now d.3 }
