-- Stories that grow by an entry.
use Rattle.std.proofs.Common.{◌≡◌, ℕ, ◌+◌, Bool, true, cond, List, [], ◌∷◌, ◌++◌, None, arith, refl, ap, ◌∙◌, sym, subst, length-append, append_assoc}
use Rattle.std.specs.Prelude.{slice_get}
use Rattle.orc_rules.specs.declared.entry.Entry.{Entry}
use Rattle.orc_rules.specs.declared.entry.Entry.TheVariants as entry
use Rattle.orc_rules.specs.Sites.{Table}
use Rattle.orc_rules.specs.Nodes.{Listing, source}
use Rattle.orc_rules.specs.Timed.{Context}
use Rattle.orc_rules.specs.Journal.{Place, Journal, Leads, begin}
use Rattle.orc_rules.specs.Trace.{published}
use Rattle.orc_journal.specs.Written.{Written, counts, count}
use Rattle.orc_journal_text.proofs.Stripping.{are_more, count_more}
use Rattle.orc_checker.specs.Checker.{Applies}
use Rattle.orc_outcome.specs.Outcome.{context}
use Rattle.orc_outcome.specs.declared.end.End.{End}
use Rattle.orc_reference.specs.Stories.{Story, IsStory, Grows, IsReached, Settles, HasEnded}
use Rattle.orc_journal.proofs.Shown.{published-more}

-- an entry more
journal-one_more : (x : Context) (p q r : Place) (es : List Entry) (e : Entry) → Journal x p es q → Leads x q e r → Journal x p (es ++ e ∷ []) r
journal-one_more x p q r [] e reached leads = (r, subst (λ m. Leads x m e r) (sym reached) leads, refl)
journal-one_more x p q r (e' ∷ es) e reached leads = (reached.0, reached.1, journal-one_more x reached.0 q r es e reached.2 leads)

-- a story grows by an entry that the marked term takes
pub grows : (l : Listing) (t : Table) (old new : Story) (e : Entry) → Applies l t e old.marked new.marked
    → new.published ≡ old.published ++ published (e ∷ []) → new.journal ≡ record { version = old.journal.version; entries = old.journal.entries ++ e ∷ [] } → Grows l t e old new
grows l t old new e applies values grown es p told =
    let (q, leads, spells) = applies true p (es, told.leads) told.spells in (
      q,
      leads,
      record {
        leads = journal-one_more (context l t) (begin (source l)) p q es e told.leads leads;
        spells = spells;
        values = values ∙ (ap (λ vs. vs ++ published (e ∷ [])) told.values ∙ sym (published-more es (e ∷ [])));
        entries = grown ∙ ap (λ (j : Written). record { version = j.version; entries = j.entries ++ e ∷ [] }) told.entries;
      },
    )

-- while no cancel is due, an entry counts
counted : (x : Context) (p : Place) (e : Entry) (q : Place) → p.to_cancel ≡ [] → Leads x p e q → counts e ≡ true
counted x p (entry.Cancel k) q free leads = cc (sym free ∙ leads.1.0)
counted x p e q free leads = refl

-- and where the story tells of none that is due, none is
pub none_due : (l : Listing) (t : Table) (story : Story) (es : List Entry) (p : Place) → IsStory l t story es p → None ≡ slice_get story.marked.rest.to_cancel 0 → p.to_cancel ≡ []
none_due l t story es p told none = empty p.to_cancel (none ∙ ap (λ (ks : List ℕ). slice_get ks 0) (sym told.spells.rest.due))
  where
    empty : (ks : List ℕ) → None ≡ slice_get ks 0 → ks ≡ []
    empty [] h = refl
    empty (k ∷ ks) h = cc h

-- a turn is one entry that counts, with the cancels behind it
pub turn : (l : Listing) (t : Table) (n : ℕ) (old mid new : Story) (e : Entry) → Grows l t e old mid → Settles l t mid new → IsReached l t n old → IsReached l t (n + 1) new
turn l t n old mid new e grown settled reached =
    let (q, leads, told) = grown reached.journal reached.place reached.told in
    let after = settled (reached.journal ++ e ∷ []) q told in
    record {
      journal = after.journal;
      place = after.place;
      told = after.told;
      paid = after.paid;
      turns_are = after.turns_are ∙ (count_more reached.journal e ∙ (ap (λ (b : Bool). cond b (count reached.journal + 1) (count reached.journal)) (counted (context l t) reached.place e q reached.paid leads) ∙ ap (λ (m : ℕ). m + 1) reached.turns_are));
    }

-- a question changes nothing
pub same_story : {l : Listing} {t : Table} {n : ℕ} {old new : Story} → new ≡ old → IsReached l t n old → IsReached l t n new
same_story {l} {t} {n} same reached = subst (λ (s : Story). IsReached l t n s) (sym same) reached

pub same_end : (l : Listing) (t : Table) (limit : ℕ) (old new : Story) (end : End) → new ≡ old → HasEnded l t limit old end → HasEnded l t limit new end
same_end l t limit old new end same ended = subst (λ (s : Story). HasEnded l t limit s end) (sym same) ended
