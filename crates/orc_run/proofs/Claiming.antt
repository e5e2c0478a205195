-- What holding claims against a journal leaves.
use Rattle.std.proofs.Common.{◌≡◌, ◌∙◌, ◌++◌, ℕ, List, [], length, ap, refl}
use Rattle.std.specs.declared.option.Option.{Option}
use Rattle.std.specs.Io.KnownBytes.{Keeps}
use Rattle.std.proofs.KnownBytes.{Appends-nil}
use Rattle.orc_rules.specs.Sites.{Table}
use Rattle.orc_rules.specs.declared.entry.State.{State}
use Rattle.orc_site.specs.Script.{Says}
use Rattle.orc_journal.specs.Written.{Written}
use Rattle.orc_ways.specs.Drafting.{test_of}
use Rattle.orc_ways.specs.Finishing.{Says as SaysTest}
use Rattle.orc_ways.specs.declared.test.Test.{Test}
use Rattle.orc_findings.specs.Findings.{failing, findings_text}
use Rattle.orc_run.specs.Checked.{IsJudgedAt, IsRefusal, verdict_line}
use Rattle.orc_run.specs.Claimed.{IsClaimed, IsUnclaimedFor, IsUnreadTest, LeavesUnclaimed, sight_at}
use Rattle.orc_run.specs.declared.faults.RunFault.{RunFault}
use Rattle.orc_run.specs.declared.faults.RunFault.TheVariants as fault
use Rattle.orc_output.specs.declared.output.WriteFault.{WriteFault}

-- the text of a test says this one, beside the sites of a script
abbrev pub IsTestOf : List ℕ → List ℕ → Test → Type 0
IsTestOf text script test = (others : Table) × Says script others × SaysTest text others (test_of test)

-- what is told of a journal that was checked
pub is_told : (source text script journal shown told : List ℕ) (number : ℕ) (test : Test) (table : Table) (written : Written) (state : State) (now : ℕ)
    → IsTestOf text script test → IsJudgedAt source script journal table written state now
    → shown ≡ findings_text test (sight_at test table written state now) → told ≡ verdict_line (length written.entries) state ++ shown → number ≡ failing test (sight_at test table written state now)
    → IsClaimed source text script journal told number
is_told source text script journal shown told number test table written state now (others, says, reads) judged is lines counted = record {
  others = others;
  says = says;
  test = test;
  reads = reads;
  table = table;
  written = written;
  state = state;
  now = now;
  judged = judged;
  lines = lines ∙ ap (λ t. verdict_line (length written.entries) state ++ t) is;
  failing = counted;
}

-- where memory is refused for it nothing was written
pub is_untold : (source text script journal : List ℕ) (old : Option (List ℕ)) (w : WriteFault) (test : Test) (table : Table) (written : Written) (state : State) (now : ℕ)
    → IsTestOf text script test → IsJudgedAt source script journal table written state now → LeavesUnclaimed source text script journal old old (fault.Write w)
is_untold source text script journal old w test table written state now said judged =
    let shown = findings_text test (sight_at test table written state now) in
    let told = verdict_line (length written.entries) state ++ shown in
    (told, failing test (sight_at test table written state now), is_told source text script journal shown told _ test table written state now said judged refl refl refl, ([], told, refl, Appends-nil old))

-- ---- faults

pub unread_for : (source text script journal : List ℕ) (f : RunFault) → IsUnreadTest source text script f → IsUnclaimedFor source text script journal f
unread_for source text script journal (fault.Syntax f) h = h
unread_for source text script journal (fault.Scope f) h = absurd h
unread_for source text script journal (fault.Script f) h = h
unread_for source text script journal (fault.Test f) h = h
unread_for source text script journal (fault.Journal f) h = absurd h
unread_for source text script journal (fault.Check f) h = absurd h
unread_for source text script journal (fault.Engine f) h = absurd h
unread_for source text script journal (fault.Write w) h = absurd h

pub unread_leaves : (source text script journal : List ℕ) (old new : Option (List ℕ)) (f : RunFault) → IsUnreadTest source text script f → Keeps old new → LeavesUnclaimed source text script journal old new f
unread_leaves source text script journal old new (fault.Syntax f) h keeps = keeps
unread_leaves source text script journal old new (fault.Scope f) h keeps = keeps
unread_leaves source text script journal old new (fault.Script f) h keeps = keeps
unread_leaves source text script journal old new (fault.Test f) h keeps = keeps
unread_leaves source text script journal old new (fault.Journal f) h keeps = keeps
unread_leaves source text script journal old new (fault.Check f) h keeps = keeps
unread_leaves source text script journal old new (fault.Engine f) h keeps = keeps
unread_leaves source text script journal old new (fault.Write w) h keeps = absurd h

pub refused_for : (source text script journal : List ℕ) (test : Test) (f : RunFault) → IsTestOf text script test → IsRefusal source script journal f → IsUnclaimedFor source text script journal f
refused_for source text script journal test (fault.Syntax f) known h = h
refused_for source text script journal test (fault.Scope f) (others, says, reads) h = ((others, test, says, reads), h)
refused_for source text script journal test (fault.Script f) known h = h
refused_for source text script journal test (fault.Test f) known h = absurd h
refused_for source text script journal test (fault.Journal f) (others, says, reads) h = ((others, test, says, reads), h)
refused_for source text script journal test (fault.Check f) (others, says, reads) h = ((others, test, says, reads), h)
refused_for source text script journal test (fault.Engine f) known h = absurd h
refused_for source text script journal test (fault.Write w) known h = absurd h

pub refused_leaves : (source text script journal : List ℕ) (old new : Option (List ℕ)) (f : RunFault) → IsRefusal source script journal f → Keeps old new → LeavesUnclaimed source text script journal old new f
refused_leaves source text script journal old new (fault.Syntax f) h keeps = keeps
refused_leaves source text script journal old new (fault.Scope f) h keeps = keeps
refused_leaves source text script journal old new (fault.Script f) h keeps = keeps
refused_leaves source text script journal old new (fault.Test f) h keeps = keeps
refused_leaves source text script journal old new (fault.Journal f) h keeps = keeps
refused_leaves source text script journal old new (fault.Check f) h keeps = keeps
refused_leaves source text script journal old new (fault.Engine f) h keeps = keeps
refused_leaves source text script journal old new (fault.Write w) h keeps = absurd h
