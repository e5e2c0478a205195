-- What shows an outcome, and what is left where none is shown.
use Rattle.std.proofs.Common.{◌≡◌, ◌<◌, ◌≤◌, ◌-◌, ◌∙◌, ℕ, List, Some, Ok, Err, ap, inl, inr, length, option_map, slice_get, slice_index_or, subst, sym}
use Rattle.std.proofs.lemmas.Option.{slice_get-get_or, slice_get-map}
use Rattle.std.specs.Prelude.{IfErr, IfSome, OnOk}
use Rattle.std.specs.declared.option.Option.{Option}
use Rattle.std.specs.declared.result.Result.{Result}
use Rattle.orc_rules.specs.Nodes.{Listing}
use Rattle.orc_rules.specs.Sites.{Table}
use Rattle.orc_rules.specs.declared.value.Value.{Value}
use Rattle.orc_journal.specs.Written.{Written}
use Rattle.orc_journal.specs.declared.journal.Version.TheVariants.{Two}
use Rattle.orc_journal_text.specs.Texts.{journal_text}
use Rattle.orc_site.specs.Script.{Says}
use Rattle.orc_load.specs.Loading.{IsProgramOf}
use Rattle.orc_outcome.specs.Outcome.{IsPlayed}
use Rattle.orc_outcome.specs.declared.end.End.{End}
use Rattle.orc_outcome.specs.declared.played.Played.{Played}
use Rattle.orc_orders.specs.Survey.{IsSurvey}
use Rattle.orc_orders.specs.declared.seen.Seen.{Seen}
use Rattle.orc_rules.specs.Timed.{IsIn}
use Rattle.orc_schedules.specs.Ends.{IsEndOfRun}
use Rattle.orc_schedules.specs.Searched.{IsSearched}
use Rattle.orc_schedules.specs.declared.ended.Ended.{Ended}
use Rattle.orc_schedules.specs.declared.exploration.Schedules.{Schedules}
use Rattle.orc_schedules.specs.declared.exploration.Schedules.TheVariants as schedules
use Rattle.orc_schedules.proofs.Growing.{get_in}
use Rattle.orc_output.specs.declared.output.WriteFault.{WriteFault}
use Rattle.orc_run.specs.Searched.{IsUnseen, ended_of, found_of}
use Rattle.orc_run.specs.Shown.{HasOutcome, HasShown, HasWritten, IsJournalOf, IsNumbered, IsThere, IsUnshownBy, IsUnshownFor, IsUnwrittenBy, LeavesUnseen, LeavesUnshown, LeavesUnwritten, ShowsOutcome, WritesUnseen}
use Rattle.orc_run.specs.declared.faults.RunFault.TheVariants as fault
use Rattle.orc_run.specs.declared.shown.Unshown.{Unshown}
use Rattle.orc_run.specs.declared.shown.Unshown.TheVariants as unshown

-- the journal of a run that was played and has an outcome
pub journal_of : (l : Listing) (t : Table) (limit : ℕ) (p : Played) (j : Written) (end : End) (values : List Value)
    → IsPlayed l t limit p.summary p.published.items p.journal → p.journal ≡ Some j → p.summary.end ≡ end → p.published.items ≡ values → IsJournalOf l t end values (journal_text t.names j)
journal_of l t limit p j end values played there ends shows = record {
  limit = limit;
  outcome = played.outcome;
  run = played.is_run;
  ends = sym played.tells.end ∙ ends;
  shows = sym played.shows ∙ shows;
  lines = ap (journal_text t.names) (subst (λ (o : Option Written). IfSome o (λ j. j ≡ record { version = Two; entries = played.outcome.journal })) there played.is_its);
}

-- what was written of a run that was found is what is written of some outcome to which no order came,
pub unseen_written : (l : Listing) (t : Table) (limit : ℕ) (p : Played) (seen : List Seen) (e : Ended) (old new : Option (List ℕ)) (r : Result Unit Unshown) (end : End) (values : List Value)
    → IsPlayed l t limit p.summary p.published.items p.journal → IsUnseen seen e → end ≡ e.end → values ≡ e.values.items → OnOk r (HasWritten l t p end values old new) → OnOk r (WritesUnseen l t seen old new)
unseen_written l t limit p seen e old new (Ok u) end values played unseen ends shows written =
    let (text, is, grown) = written limit played in
    (e, unseen, (text, subst (λ (vs : List Value). IsJournalOf l t e.end vs text) shows (subst (λ (x : End). IsJournalOf l t x values text) ends is), grown))
unseen_written l t limit p seen e old new (Err f) end values played unseen ends shows written = written

-- and so is what is left where it wasn't written whole
pub unseen_left : (l : Listing) (t : Table) (limit : ℕ) (p : Played) (seen : List Seen) (e : Ended) (old new : Option (List ℕ)) (r : Result Unit Unshown) (end : End) (values : List Value)
    → IsPlayed l t limit p.summary p.published.items p.journal → IsUnseen seen e → end ≡ e.end → values ≡ e.values.items → IfErr r (LeavesUnwritten l t p end values old new) → IfErr r (LeavesUnseen l t seen old new)
unseen_left l t limit p seen e old new (Ok u) end values played unseen ends shows left = left
unseen_left l t limit p seen e old new (Err f) end values played unseen ends shows left = go f left
  where
    go : (f : Unshown) → LeavesUnwritten l t p end values old new f → LeavesUnseen l t seen old new f
    go (unshown.Fault (fault.Write w)) rest =
        let (text, is, grown) = rest limit played in
        (e, unseen, (text, subst (λ (vs : List Value). IsJournalOf l t e.end vs text) shows (subst (λ (x : End). IsJournalOf l t x values text) ends is), grown))
    go (unshown.Fault (fault.Syntax f)) rest = rest
    go (unshown.Fault (fault.Scope f)) rest = rest
    go (unshown.Fault (fault.Script f)) rest = rest
    go (unshown.Fault (fault.Test f)) rest = rest
    go (unshown.Fault (fault.Journal f)) rest = rest
    go (unshown.Fault (fault.Check f)) rest = rest
    go (unshown.Fault (fault.Engine f)) rest = rest
    go (unshown.NoOutcome n) rest = rest
    go (unshown.NoRun n) rest = rest

-- what is read at a place stands there
pub there_is : (seen : List Seen) (at n : ℕ) (x : Seen) → at ≡ n → at < length seen → x ≡ slice_index_or seen at x → slice_get seen n ≡ Some x
there_is seen at n x is inside same = subst (λ (k : ℕ). slice_get seen k ≡ Some x) is (slice_get-get_or seen at x inside ∙ ap Some (sym same))

-- what holds where a run lacks the outcome, and where the output is at fault, holds for each cause for which a run's journal isn't written
unwritten_by : (number : ℕ) (P : Unshown → Type 0) → ((n : ℕ) → n ≡ number → P (unshown.NoRun n)) → ((w : WriteFault) → P (unshown.Fault (fault.Write w))) → (r : Result Unit Unshown) → IfErr r (IsUnwrittenBy number) → IfErr r P
unwritten_by number P lacks output (Ok u) why = why
unwritten_by number P lacks output (Err f) why = go f why
  where
    go : (f : Unshown) → IsUnwrittenBy number f → P f
    go (unshown.NoOutcome n) is = absurd is
    go (unshown.NoRun n) is = lacks n is
    go (unshown.Fault (fault.Write w)) is = output w
    go (unshown.Fault (fault.Engine f)) is = absurd is
    go (unshown.Fault (fault.Syntax f)) is = absurd is
    go (unshown.Fault (fault.Scope f)) is = absurd is
    go (unshown.Fault (fault.Script f)) is = absurd is
    go (unshown.Fault (fault.Test f)) is = absurd is
    go (unshown.Fault (fault.Journal f)) is = absurd is
    go (unshown.Fault (fault.Check f)) is = absurd is

-- ---- of the source

module _ (source script : List ℕ) (orders limit number : ℕ) (l : Listing) (t : Table) (seen : List Seen) (says : Says script t) (spells : IsProgramOf source t l) (survey : IsSurvey l t limit orders seen) where
  shows : (e : Ended) (text : List ℕ) → IsNumbered seen number e → IsJournalOf l t e.end e.values.items text → ShowsOutcome source script orders limit number text
  shows e text numbered journal = record { listing = l; table = t; says = says; spells = spells; seen = seen; survey = survey; outcome = e; numbered = numbered; journal = journal }

  -- the journal of a run in the first order that came to the outcome was written,
  pub seen_written : (most : ℕ) (p : Played) (x : Seen) (values : List Value) (old new : Option (List ℕ)) (r : Result Unit Unshown)
      → slice_get seen (number - 1) ≡ Some x → values ≡ x.values.items → IsPlayed l t most p.summary p.published.items p.journal → OnOk r (HasWritten l t p x.end values old new) → OnOk r (HasShown source script orders limit number old new)
  seen_written most p x values old new (Ok u) there same played written =
      let (text, is, grown) = written most played in
      (text, shows (ended_of x) text (inl (slice_get-map ended_of seen (number - 1) ∙ ap (λ (o : Option Seen). option_map ended_of o) there)) (subst (λ (vs : List Value). IsJournalOf l t x.end vs text) same is), grown)
  seen_written most p x values old new (Err f) there same played written = written

  -- or a prefix of it
  pub seen_left : (most : ℕ) (p : Played) (x : Seen) (values : List Value) (old new : Option (List ℕ)) (r : Result Unit Unshown)
      → slice_get seen (number - 1) ≡ Some x → values ≡ x.values.items → IsPlayed l t most p.summary p.published.items p.journal → IfErr r (LeavesUnwritten l t p x.end values old new) → IfErr r (LeavesUnshown source script orders limit number old new)
  seen_left most p x values old new (Ok u) there same played left = left
  seen_left most p x values old new (Err f) there same played left = go f left
    where
      go : (f : Unshown) → LeavesUnwritten l t p x.end values old new f → LeavesUnshown source script orders limit number old new f
      go (unshown.Fault (fault.Write w)) rest =
          let (text, is, grown) = rest most played in
          (text, shows (ended_of x) text (inl (slice_get-map ended_of seen (number - 1) ∙ ap (λ (o : Option Seen). option_map ended_of o) there)) (subst (λ (vs : List Value). IsJournalOf l t x.end vs text) same is), grown)
      go (unshown.Fault (fault.Syntax f)) rest = rest
      go (unshown.Fault (fault.Scope f)) rest = rest
      go (unshown.Fault (fault.Script f)) rest = rest
      go (unshown.Fault (fault.Test f)) rest = rest
      go (unshown.Fault (fault.Journal f)) rest = rest
      go (unshown.Fault (fault.Check f)) rest = rest
      go (unshown.Fault (fault.Engine f)) rest = rest
      go (unshown.NoOutcome n) rest = rest
      go (unshown.NoRun n) rest = rest

  -- the journal of a run that has an outcome to which no order came was written,
  pub other_written : (old new : Option (List ℕ)) (r : Result Unit Unshown) → length seen ≤ number - 1 → OnOk r (WritesUnseen l t seen old new) → OnOk r (HasShown source script orders limit number old new)
  other_written old new (Ok u) fewer (e, unseen, (text, is, grown)) = (text, shows e text (inr (fewer, unseen)) is, grown)
  other_written old new (Err f) fewer written = written

  -- or a prefix of it
  pub other_left : (old new : Option (List ℕ)) (r : Result Unit Unshown) → length seen ≤ number - 1 → IfErr r (LeavesUnseen l t seen old new) → IfErr r (LeavesUnshown source script orders limit number old new)
  other_left old new (Ok u) fewer left = left
  other_left old new (Err f) fewer left = go f left
    where
      go : (f : Unshown) → LeavesUnseen l t seen old new f → LeavesUnshown source script orders limit number old new f
      go (unshown.Fault (fault.Write w)) (e, unseen, (text, is, grown)) = (text, shows e text (inr (fewer, unseen)) is, grown)
      go (unshown.Fault (fault.Syntax f)) rest = rest
      go (unshown.Fault (fault.Scope f)) rest = rest
      go (unshown.Fault (fault.Script f)) rest = rest
      go (unshown.Fault (fault.Test f)) rest = rest
      go (unshown.Fault (fault.Journal f)) rest = rest
      go (unshown.Fault (fault.Check f)) rest = rest
      go (unshown.Fault (fault.Engine f)) rest = rest
      go (unshown.NoOutcome n) rest = rest
      go (unshown.NoRun n) rest = rest

  -- there is no outcome with the number where fewer came up,
  pub none_with : (n : ℕ) → n ≡ number → length seen ≤ number - 1 → IsUnshownFor source script orders limit number (unshown.NoOutcome n)
  none_with n is fewer = (is, (seen, (l, t, says, spells, survey), fewer))

  has : (e : Ended) → IsThere l t seen number e → HasOutcome source script orders limit number
  has e there = record { listing = l; table = t; says = says; spells = spells; seen = seen; survey = survey; outcome = e; there = there }

  -- and that, or why another one isn't shown, is why none is
  pub unshown_for : (f : Unshown) → length seen ≤ number - 1 → IsUnshownBy l t seen number f → IsUnshownFor source script orders limit number f
  unshown_for (unshown.NoOutcome n) fewer is = none_with n is fewer
  unshown_for (unshown.NoRun n) fewer (is, (e, unseen, real)) = (is, has e (inr (fewer, unseen, real)))
  unshown_for (unshown.Fault (fault.Write w)) fewer is = tt
  unshown_for (unshown.Fault (fault.Engine f)) fewer is = (l, t, says, spells)
  unshown_for (unshown.Fault (fault.Syntax f)) fewer is = absurd is
  unshown_for (unshown.Fault (fault.Scope f)) fewer is = absurd is
  unshown_for (unshown.Fault (fault.Script f)) fewer is = absurd is
  unshown_for (unshown.Fault (fault.Test f)) fewer is = absurd is
  unshown_for (unshown.Fault (fault.Journal f)) fewer is = absurd is
  unshown_for (unshown.Fault (fault.Check f)) fewer is = absurd is

  -- why the journal of a run isn't written is why the outcome isn't shown to which its order came
  pub unwritten_for : (x : Seen) (r : Result Unit Unshown) → slice_get seen (number - 1) ≡ Some x → IfErr r (IsUnwrittenBy number) → IfErr r (IsUnshownFor source script orders limit number)
  unwritten_for x r there =
      unwritten_by number (IsUnshownFor source script orders limit number)
      (λ n is. (is, has (ended_of x) (inl (slice_get-map ended_of seen (number - 1) ∙ ap (λ (o : Option Seen). option_map ended_of o) there))))
      (λ w. tt)
      r

-- ---- an outcome to which no order came

-- one that a loop has read is among those that a search found
pub read_is_in : (found : List Ended) (i : ℕ) (e : Ended) → i < length found → e ≡ slice_index_or found i e → IsIn e found
read_is_in found i e inside same = get_in found i e (slice_get-get_or found i e inside ∙ ap Some (sym same))

-- a run ends with each outcome that a search found
pub real_of : (l : Listing) (t : Table) (limit : ℕ) (s : Schedules) (e : Ended) → IsSearched l t limit s → IsIn e (found_of s) → IsEndOfRun l t e
real_of l t limit (schedules.All es states) e (all, real) is = real e is
real_of l t limit schedules.TooMany e h is = absurd is
real_of l t limit schedules.TooLong e h is = absurd is

-- why the journal of a run isn't written is why the outcome isn't shown for which it was found
pub unwritten_unshown : (l : Listing) (t : Table) (seen : List Seen) (number : ℕ) (e : Ended) (r : Result Unit Unshown) → IsUnseen seen e → IsEndOfRun l t e → IfErr r (IsUnwrittenBy number) → IfErr r (IsUnshownBy l t seen number)
unwritten_unshown l t seen number e r unseen real = unwritten_by number (IsUnshownBy l t seen number) (λ n is. (is, (e, unseen, real))) (λ w. tt) r
