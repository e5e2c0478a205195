-- Which claims of a test every schedule keeps, and which ones a schedule breaks. `section` is the case of a claim, None for one below `always`.
use Rattle.std.specs.Prelude.{◌≡◌, ◌⊎◌, ◌<◌, ℕ, List, Option, Some, true, false, slice_get}
use Rattle.orc_rules.specs.Nodes.{Listing}
use Rattle.orc_rules.specs.Sites.{Table}
use Rattle.orc_site.specs.Script.{Says}
use Rattle.orc_load.specs.Loading.{IsProgramOf}
use Rattle.orc_claims.specs.declared.claim.Claim.{Claim}
use Rattle.orc_ways.specs.Values.{sites_of}
use Rattle.orc_ways.specs.declared.test.ClaimLine.{ClaimLine}
use Rattle.orc_tally.specs.Table.{are_full, is_held, section_of}
use Rattle.orc_tally.specs.declared.table.Broken.{Broken}
use Rattle.orc_tally.specs.declared.table.CaseReport.{CaseReport}
use Rattle.orc_tally.specs.declared.table.Searched.{Searched}
use Rattle.orc_tally.specs.declared.table.Searched.TheVariants as searched
use Rattle.orc_orders.specs.Trials.{claim_sites, texts}
use Rattle.orc_orders.specs.declared.trials.Trials.{Trials}
use Rattle.orc_schedules.specs.Claimed.{FailsInOne, HoldsInAll}
use Rattle.orc_schedules.specs.Explored.{answers_of, program_of, IsExplorer}
use Rattle.orc_schedules.specs.declared.claimed.ClaimSearched.{ClaimSearched}
use Rattle.orc_schedules.specs.declared.claimed.ClaimSearched.TheVariants as found
use Rattle.orc_schedules.specs.declared.claimed.Seen.{Seen}
use Rattle.orc_schedules.specs.declared.exploration.Explorer.{Explorer}
use Rattle.orc_run.specs.declared.searched.Searcher.{Searcher}
use Rattle.orc_run.specs.declared.searched.Way.{Way}
use Rattle.orc_run.specs.declared.scripts.CaseScripts.{CaseScripts}

-- the script of this way of this case
abbrev pub IsScriptAt : List CaseScripts → ℕ → ℕ → List ℕ → Type 0
IsScriptAt scripts case way text = (s : CaseScripts) × (slice_get scripts case ≡ Some s) × (slice_get (texts s.scripts.items) way ≡ Some text)

-- ---- a claim in a way

-- with this script the source is a program of which each run that ends by itself within the limit keeps the claim
pub record HoldsThere (t : Trials) (c : Claim) (script : List ℕ) : Type 0 where
  pub table : Table
  pub says : Says script table
  pub listing : Listing
  pub spells : IsProgramOf t.source.now table listing
  pub holds : HoldsInAll listing table (claim_sites table (sites_of t.sites.now)) c t.limit

-- with this script the source is a program that has a run that ends by itself and breaks the claim
pub record FailsThere (t : Trials) (c : Claim) (script : List ℕ) : Type 0 where
  pub table : Table
  pub says : Says script table
  pub listing : Listing
  pub spells : IsProgramOf t.source.now table listing
  pub seen : Seen
  pub fails : FailsInOne listing table (claim_sites table (sites_of t.sites.now)) c seen

-- ---- what is said of it

-- all ways of each case in whose runs the claim is judged were tried, no run was cut, and each of these ways keeps it
pub record IsWhole (t : Trials) (section : Option ℕ) (c : Claim) (scripts : List CaseScripts) (reports : List CaseReport) : Type 0 where
  pub full : are_full section 0 reports ≡ true
  pub holds : (case way : ℕ) (text : List ℕ) → is_held section case ≡ true → IsScriptAt scripts case way text → HoldsThere t c text

-- a way of such a case breaks it
pub record IsBroken (t : Trials) (section : Option ℕ) (c : Claim) (scripts : List CaseScripts) (b : Broken) : Type 0 where
  pub held : is_held section b.case ≡ true
  pub text : List ℕ
  pub script : IsScriptAt scripts b.case b.way text
  pub fails : FailsThere t c text

-- what is said of a claim is true: `No` says nothing
abbrev pub IsSaid : Trials → Option ℕ → Claim → List CaseScripts → List CaseReport → Searched → Type 0
IsSaid t section c scripts reports searched.No = Unit {0}
IsSaid t section c scripts reports searched.Whole = IsWhole t section c scripts reports
IsSaid t section c scripts reports (searched.Breaks b) = IsBroken t section c scripts b

-- what is said of each claim is true, where these are the claims' lines
abbrev pub AreSaid : Trials → List ClaimLine → List CaseScripts → List CaseReport → List Searched → Type 0
AreSaid t lines scripts reports ss = (claim : ℕ) (c : Claim) (s : Searched) → slice_get t.claims.now claim ≡ Some c → slice_get ss claim ≡ Some s → IsSaid t (section_of (slice_get lines claim)) c scripts reports s

-- ---- as it grows

-- what a search in a way says of a claim that was kept so far
abbrev pub said_of : Broken → ClaimSearched → Searched
said_of place (found.Holds states) = searched.Whole
said_of place (found.Fails seen) = searched.Breaks place
said_of place found.TooMany = searched.No
said_of place found.TooLong = searched.No
said_of place found.NotWatched = searched.No

-- the way's program and sites are those of its script
pub record IsWay (t : Trials) (w : Way) : Type 0 where
  pub says : Says w.script.now w.loaded.answers
  pub spells : IsProgramOf t.source.now w.loaded.answers w.loaded.program
  pub sites : w.sites.items ≡ claim_sites w.loaded.answers (sites_of t.sites.now)

-- the explorer is one of that way's program with its sites
pub record Explores (w : Way) (e : Explorer) : Type 0 where
  pub ready : IsExplorer e
  pub program : program_of e ≡ w.loaded.program
  pub answers : answers_of e ≡ w.loaded.answers

-- what is said of a claim before and after the way at this place: what is new after it is true of this way
pub record IsAfter (t : Trials) (section : Option ℕ) (c : Claim) (place : Broken) (script : List ℕ) (before after : Searched) : Type 0 where
  pub kept : after ≡ searched.Whole → before ≡ searched.Whole
  pub holds : after ≡ searched.Whole → is_held section place.case ≡ true → HoldsThere t c script
  pub fails : (b : Broken) → after ≡ searched.Breaks b → (before ≡ searched.Breaks b) ⊎ ((b ≡ place) × (is_held section place.case ≡ true) × FailsThere t c script)

-- this holds for each claim of which something is said after the way
abbrev pub AreAfter : Searcher → Broken → List ℕ → List Searched → List Searched → Type 0
AreAfter me place script before after = (claim : ℕ) (c : Claim) (s : Searched) → slice_get me.trials.now.claims.now claim ≡ Some c → slice_get after claim ≡ Some s
    → (b : Searched) × (slice_get before claim ≡ Some b) × IsAfter me.trials.now (section_of (slice_get me.test.now.claim_lines.items claim)) c place script b s

-- way w of case k comes before this way of this case
abbrev pub IsBefore : ℕ → ℕ → ℕ → ℕ → Type 0
IsBefore k w case way = (k < case) ⊎ ((k ≡ case) × (w < way))

-- no run was left out or cut, and all ways before this one keep the claim
pub record IsWholeSoFar (me : Searcher) (section : Option ℕ) (c : Claim) (case way : ℕ) : Type 0 where
  pub full : are_full section 0 me.reports.now ≡ true
  pub holds : (k w : ℕ) (text : List ℕ) → is_held section k ≡ true → IsBefore k w case way → IsScriptAt me.cases.now k w text → HoldsThere me.trials.now c text

-- what is said of a claim before the way at this place is true
abbrev pub IsSoFar : Searcher → Option ℕ → Claim → ℕ → ℕ → Searched → Type 0
IsSoFar me section c case way searched.No = Unit {0}
IsSoFar me section c case way searched.Whole = IsWholeSoFar me section c case way
IsSoFar me section c case way (searched.Breaks b) = IsBroken me.trials.now section c me.cases.now b

-- what is said of each claim before the way at this place is true
abbrev pub AreSoFar : Searcher → ℕ → ℕ → List Searched → Type 0
AreSoFar me case way ss = (claim : ℕ) (c : Claim) (s : Searched) → slice_get me.trials.now.claims.now claim ≡ Some c → slice_get ss claim ≡ Some s → IsSoFar me (section_of (slice_get me.test.now.claim_lines.items claim)) c case way s

-- no claim that is whole so far is judged in the runs of this case
abbrev pub IsUnwanted : Searcher → ℕ → List Searched → Type 0
IsUnwanted me case ss = (claim : ℕ) → slice_get ss claim ≡ Some searched.Whole → is_held (section_of (slice_get me.test.now.claim_lines.items claim)) case ≡ false
