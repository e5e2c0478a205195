-- A whole test, and what may be wrong with it.
use Rattle.std.specs.Prelude.{◌≡◌, ℕ, ◌<◌, ◌≤◌, Bool, ◌||◌, List, [], ◌∷◌, length, Option, Some, None, is_some, unwrap_or, if◌then◌else◌, codes}
use Rattle.std.specs.List.{list_any}
use Rattle.orc_rules.specs.Sites.{Table, site_named}
use Rattle.orc_rules.specs.declared.limits.TheConstants.{LONGEST_SOURCE}
use Rattle.orc_ways.specs.declared.fault.TestFault.{TestFault}
use Rattle.orc_ways.specs.declared.fault.TestFault.TheVariants as fault
use Rattle.orc_ways.specs.Claims.{Site, is_site}
use Rattle.orc_ways.specs.Drafts.{Case, ServiceLine, Test, Draft, says, no_line, no_place, add_case, read_text}

-- a text without a case has one that is called `given`, and begins there
abbrev pub only_case : Option ℕ → Case
only_case at = record { name = codes "given"; line = unwrap_or at 1 }

-- a test with at least one case
abbrev pub with_some_case : Draft → List Case → Test
with_some_case d [] = add_case d.test (only_case d.given_at)
with_some_case d (c ∷ cs) = d.test

-- the test that a draft says
abbrev pub test_said : Draft → Test
test_said d = with_some_case d d.test.cases

-- a service has the site's name and as many patterns as it has arguments
abbrev pub serves_site : Site → ServiceLine → Bool
serves_site s l = is_site l.service.name (length l.service.patterns) s

-- a service has the site, or another site has its name
abbrev pub is_known : Table → List ServiceLine → Site → Bool
is_known others ls s = list_any (serves_site s) ls || is_some (site_named others.names s.name)

-- the line of the first site that isn't known
abbrev pub unknown_line : Table → List ServiceLine → List Site → Option ℕ
unknown_line others ls [] = None
unknown_line others ls (s ∷ ss) = if is_known others ls s then unknown_line others ls ss else Some s.line

-- the line of the first site of a test that isn't known
abbrev pub unknown_in : Table → Test → Option ℕ
unknown_in others t = unknown_line others t.services t.sites

-- The text says this test, beside these other sites.
pub record Says (text : List ℕ) (others : Table) (t : Test) : Type 0 where
  pub within : length text ≤ LONGEST_SOURCE
  pub draft : Draft
  pub read : read_text text ≡ says draft
  pub test : t ≡ test_said draft
  pub known : unknown_in others t ≡ None

-- each line is one of a test and stands where it may, and this is the first site that isn't known
pub record IsUnknown (text : List ℕ) (others : Table) (number : ℕ) : Type 0 where
  pub draft : Draft
  pub read : read_text text ≡ says draft
  pub line : unknown_in others (test_said draft) ≡ Some number

-- why a test isn't read: a text within the limit has such a line, unless memory was refused
abbrev pub IsFault : List ℕ → Table → TestFault → Type 0
IsFault text others fault.Long = LONGEST_SOURCE < length text
IsFault text others fault.Memory = length text ≤ LONGEST_SOURCE
IsFault text others (fault.Line n) = (length text ≤ LONGEST_SOURCE) × (read_text text ≡ no_line n)
IsFault text others (fault.Place n) = (length text ≤ LONGEST_SOURCE) × (read_text text ≡ no_place n)
IsFault text others (fault.Unknown n) = (length text ≤ LONGEST_SOURCE) × IsUnknown text others n
IsFault text others (fault.Ways n) = ⊥
