-- What judging the claims of a test on a journal does.
use Rattle.std.specs.Prelude.{◌≡◌, ◌++◌, ℕ, List, length}
use Rattle.std.specs.declared.option.Option.{Option}
use Rattle.std.specs.Io.KnownBytes.{Appends}
use Rattle.orc_rules.specs.Sites.{Table}
use Rattle.orc_rules.specs.declared.entry.State.{State}
use Rattle.orc_syntax.specs.Tree.{Source}
use Rattle.orc_site.specs.Script.{Says}
use Rattle.orc_load.specs.Loading.{SpellsTree}
use Rattle.orc_journal.specs.Written.{Written}
use Rattle.orc_ways.specs.Drafting.{test_of}
use Rattle.orc_ways.specs.Finishing.{IsFault, Says as SaysTest}
use Rattle.orc_ways.specs.Values.{sites_of}
use Rattle.orc_ways.specs.declared.test.Test.{Test}
use Rattle.orc_tally.specs.Sight.{Sight, sight}
use Rattle.orc_orders.specs.Trials.{claim_sites}
use Rattle.orc_findings.specs.Findings.{failing, findings_text}
use Rattle.orc_run.specs.Checked.{IsBeyond, IsCheckFault, IsJudgedAt, verdict_line}
use Rattle.orc_output.specs.Output.{AppendsPrefix}
use Rattle.orc_run.specs.Running.{IsUnloaded, KeepsOr}
use Rattle.orc_run.specs.declared.faults.RunFault.{RunFault}
use Rattle.orc_run.specs.declared.faults.RunFault.TheVariants as fault

-- what the claims of a test see of a journal with these sites, whose run has this state and this time at its end
abbrev pub sight_at : Test → Table → Written → State → ℕ → Sight
sight_at test t j state now = sight (claim_sites t (sites_of test.sites.items)) j.entries state now

-- `told` is the text on a journal that the check accepts: the line of the check, and then what the claims of the text's test say. `number` claims
-- fail.
pub record IsClaimed (source text script journal told : List ℕ) (number : ℕ) : Type 0 where
  pub others : Table
  pub says : Says script others
  pub test : Test
  pub reads : SaysTest text others (test_of test)
  pub table : Table
  pub written : Written
  pub state : State
  pub now : ℕ
  pub judged : IsJudgedAt source script journal table written state now
  pub lines : told ≡ verdict_line (length written.entries) state ++ findings_text test (sight_at test table written state now)
  pub failing : number ≡ failing test (sight_at test table written state now)

-- such a text was written, and so many claims fail
abbrev pub HasClaimed : List ℕ → List ℕ → List ℕ → List ℕ → Option (List ℕ) → Option (List ℕ) → ℕ → Type 0
HasClaimed source text script journal old new number = (told : List ℕ) × IsClaimed source text script journal told number × Appends old new told

-- at a fault nothing was written, or at a write fault a prefix of such a text
abbrev pub LeavesUnclaimed : List ℕ → List ℕ → List ℕ → List ℕ → Option (List ℕ) → Option (List ℕ) → RunFault → Type 0
LeavesUnclaimed source text script journal old new = KeepsOr ((told : List ℕ) × (number : ℕ) × IsClaimed source text script journal told number × AppendsPrefix old new told) old new

-- why the test isn't read: a fault of the source's text or of the script, or else one of its own
abbrev pub IsUnreadTest : List ℕ → List ℕ → List ℕ → RunFault → Type 0
IsUnreadTest source text script (fault.Syntax f) = IsUnloaded source script (fault.Syntax f)
IsUnreadTest source text script (fault.Script f) = IsUnloaded source script (fault.Script f)
IsUnreadTest source text script (fault.Test f) = ((s : Source) × SpellsTree source s) × ((others : Table) × Says script others × IsFault text others f)
IsUnreadTest source text script _ = ⊥

-- the text is a test, beside the sites that the script says
abbrev pub IsTest : List ℕ → List ℕ → Type 0
IsTest text script = (others : Table) × (test : Test) × Says script others × SaysTest text others (test_of test)

-- why no text is written: the test isn't read; or, where the text is a test, one of the source's names, of the journal's text or of one of its
-- entries; or one of the output
abbrev pub IsUnclaimedFor : List ℕ → List ℕ → List ℕ → List ℕ → RunFault → Type 0
IsUnclaimedFor source text script journal (fault.Test f) = IsUnreadTest source text script (fault.Test f)
IsUnclaimedFor source text script journal (fault.Scope f) = IsTest text script × IsCheckFault source script journal (fault.Scope f)
IsUnclaimedFor source text script journal (fault.Journal f) = IsTest text script × IsCheckFault source script journal (fault.Journal f)
IsUnclaimedFor source text script journal (fault.Check f) = IsTest text script × IsCheckFault source script journal (fault.Check f)
IsUnclaimedFor source text script journal f = IsCheckFault source script journal f

-- why the claims aren't held against the journal that a run wrote: their text is no test, or one of the causes of `IsBeyond`
abbrev pub IsBeyondClaims : RunFault → Type 0
IsBeyondClaims (fault.Test f) = Unit {0}
IsBeyondClaims f = IsBeyond f
