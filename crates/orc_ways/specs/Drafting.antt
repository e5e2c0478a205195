-- What the reader's drafts stand for, and what becomes of a line.
use Rattle.std.specs.Prelude.{◌≡◌, ℕ, Bool, true, false, List, map, Option, Some, None}
use Rattle.orc_ways.specs.declared.kind.Kind.{Kind as CodeKind}
use Rattle.orc_ways.specs.declared.kind.Kind.TheVariants as kinds
use Rattle.orc_ways.specs.declared.draft.Draft.{Draft as CodeDraft}
use Rattle.orc_ways.specs.declared.draft.LineEnd.{LineEnd}
use Rattle.orc_ways.specs.declared.draft.LineEnd.TheVariants.{Read, NoLine, NoPlace}
use Rattle.orc_ways.specs.declared.test.Case.{Case as CodeCase}
use Rattle.orc_ways.specs.declared.test.ClaimLine.{ClaimLine as CodeClaimLine}
use Rattle.orc_ways.specs.declared.test.ServiceLine.{ServiceLine as CodeServiceLine}
use Rattle.orc_ways.specs.declared.test.Test.{Test as CodeTest}
use Rattle.orc_ways.specs.Values.{service_of, claim_of, sites_of}
use Rattle.orc_ways.specs.Lines.{Kind, blank, given, always, case, serves, claims}
use Rattle.orc_ways.specs.Drafts.{Case, ServiceLine, ClaimLine, Test, Draft, Reading, says, no_line, no_place}

abbrev pub kind_of : CodeKind → Kind
kind_of kinds.Blank = blank
kind_of kinds.Given = given
kind_of kinds.Always = always
kind_of (kinds.Case n) = case n.now
kind_of (kinds.Service s) = serves (service_of s)
kind_of (kinds.Claim c) = claims (claim_of c)

abbrev pub case_of : CodeCase → Case
case_of c = record { name = c.name.now; line = c.line }

abbrev pub cases_of : List CodeCase → List Case
cases_of cs = map case_of cs

abbrev pub service_line_of : CodeServiceLine → ServiceLine
service_line_of s = record { case_at = s.case; service = service_of s.service }

abbrev pub service_lines_of : List CodeServiceLine → List ServiceLine
service_lines_of ls = map service_line_of ls

abbrev pub claim_line_of : CodeClaimLine → ClaimLine
claim_line_of l = record { case_at = l.case; line = l.line; text = l.text.now }

abbrev pub test_of : CodeTest → Test
test_of t = record { sites = sites_of t.sites.items; services = service_lines_of t.services.items; claims = map claim_of t.claims.items; claim_lines = map claim_line_of t.claim_lines.items; cases = cases_of t.cases.items }

abbrev pub draft_of : CodeDraft → Draft
draft_of d = record { test = test_of d.test; given_at = d.given; always = d.has_always; part = d.part }

-- a line that has a place changes the draft so
abbrev pub IsPlaced : Option Draft → Draft → Bool → Type 0
IsPlaced None new good = good ≡ false
IsPlaced (Some d) new good = (good ≡ true) × (new ≡ d)

-- what became of the line of this number
abbrev pub IsRead : ℕ → Reading → Draft → LineEnd → Type 0
IsRead number (says d) new end = (end ≡ Read) × (new ≡ d)
IsRead number (no_line l) new end = (end ≡ NoLine) × (l ≡ number)
IsRead number (no_place l) new end = (end ≡ NoPlace) × (l ≡ number)
