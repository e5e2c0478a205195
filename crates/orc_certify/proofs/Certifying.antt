-- A journal that the check takes is that of a run.
use Rattle.std.proofs.Common.{◌≡◌, ◌≤◌, ℕ, suc, Bool, true, false, List, [], ◌∷◌, length, refl, sym, subst, arith}
use Rattle.std.specs.Prelude.{if◌then◌else◌}
use Rattle.orc_rules.specs.declared.entry.Entry.{Entry}
use Rattle.orc_rules.specs.declared.entry.State.{State}
use Rattle.orc_rules.specs.Nodes.{Listing, source}
use Rattle.orc_rules.specs.Sites.{Table}
use Rattle.orc_rules.specs.Timed.{Context}
use Rattle.orc_rules.specs.Journal.{Place, Journal}
use Rattle.orc_rules.specs.Verdict.{AreTaken, IsVerdict}
use Rattle.orc_journal.specs.declared.journal.Version.TheVariants.{Two}
use Rattle.orc_journal.specs.Written.{Written, counts, count}
use Rattle.orc_journal_text.specs.Texts.{IsJournal}
use Rattle.orc_checker.specs.Checker.{context as context_of}
use Rattle.orc_verdict.specs.Verdicts.{records_cancels}
use Rattle.orc_outcome.specs.Outcome.{context}
use Rattle.orc_outcome.specs.declared.end.End.{End}
use Rattle.orc_certify.specs.Certified.{IsEndOf, IsRunOf}

are_journal : (x : Context) (p : Place) (es : List Entry) (q : Place) → AreTaken x p es q → Journal x p es q
are_journal x p [] q t = t
are_journal x p (e ∷ es) q t = (t.0, t.1.0, are_journal x t.0 es q t.2)

with_one : (b : Bool) (n m : ℕ) → n ≤ m → (if b then suc n else n) ≤ suc m
with_one true n m h = omega (arith, h)
with_one false n m h = omega (arith, h)

-- no more entries count than there are
count_within : (es : List Entry) → count es ≤ length es
count_within [] = omega arith
count_within (e ∷ es) = with_one (counts e) (count es) (length es) (count_within es)

module _ (l : Listing) (t : Table) (limit : ℕ) (text : List ℕ) where
  of_two : (es : List Entry) (state : State) (now : ℕ) (end : End) → IsVerdict (context l t) (source l) es state now → length es ≤ limit
      → IsEndOf state end → IsJournal t.names text (record { version = Two; entries = es }) → IsRunOf l t limit text (record { version = Two; entries = es }) end
  of_two es state now end v few ends is = record {
    outcome = record { journal = es; end = end; now = now };
    is_run = record {
      place = v.end;
      leads = are_journal (context l t) _ es v.end v.taken;
      ends = ends.1 limit (context l t) es v.end v.reached;
      paid = v.paid;
      now = v.time;
      within = omega (arith, few, count_within es);
    };
    is_its = refl;
    is_text = is;
    ended = refl;
    is_over = ends.0;
  }

  -- a journal of the second version with this verdict
  pub run_of : (j : Written) (state : State) (now : ℕ) (end : End) → j.version ≡ Two → IsVerdict (context_of l t (records_cancels j.version)) (source l) j.entries state now → length j.entries ≤ limit
      → IsEndOf state end → IsJournal t.names text j → IsRunOf l t limit text j end
  run_of j state now end two v few ends is =
      let same : ◌≡◌ {A = Written} j (record { version = Two; entries = j.entries }) = λ i. record { version = two i; entries = j.entries } in
      subst (λ (k : Written). IsRunOf l t limit text k end) (sym same)
      (of_two j.entries state now end
      (subst (λ (k : Written). IsVerdict (context_of l t (records_cancels k.version)) (source l) k.entries state now) same v)
      few ends (subst (λ (k : Written). IsJournal t.names text k) same is))
