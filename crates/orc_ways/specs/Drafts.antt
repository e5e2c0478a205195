-- A test, line by line.
use Rattle.std.specs.Prelude.{ℕ, ◌+◌, ◌-◌, Bool, true, false, ◌||◌, nat_le, nat_lt, List, [], ◌∷◌, ◌++◌, length, Option, Some, None, is_some, if◌then◌else◌, bytes_eq}
use Rattle.std.specs.List.{list_any}
use Rattle.orc_site.specs.Script.{is_built_in, lines}
use Rattle.orc_ways.specs.declared.limits.TheConstants.{MOST_CASES, MOST_CLAIMS, MOST_SERVICES, MOST_SITES}
use Rattle.orc_ways.specs.declared.draft.Part.{Part}
use Rattle.orc_ways.specs.declared.draft.Part.TheVariants.{Nowhere, Given, Always, Case as InCase}
use Rattle.orc_ways.specs.Tokens.{Token, cut}
use Rattle.orc_ways.specs.Claims.{Claim, Site}
use Rattle.orc_ways.specs.Lines.{Service, Kind, blank, given, always, case, serves, claims, kind_at, with_mentions}

-- a case, and the number of the line with which it begins
pub record Case : Type 0 where
  pub name : List ℕ
  pub line : ℕ

-- a service, and the place of its case among the cases; None below `given`
pub record ServiceLine : Type 0 where
  pub case_at : Option ℕ
  pub service : Service

-- where a claim stands: the place of its case, None below `always`; its line's number, and the line
pub record ClaimLine : Type 0 where
  pub case_at : Option ℕ
  pub line : ℕ
  pub text : List ℕ

-- a test: its sites, services, claims with a line each, and cases, each in the order of the text
pub record Test : Type 0 where
  pub sites : List Site
  pub services : List ServiceLine
  pub claims : List Claim
  pub claim_lines : List ClaimLine
  pub cases : List Case

-- what the lines so far say, the line of `given`, whether `always` was there, and the part in which the next line stands
pub record Draft : Type 0 where
  pub test : Test
  pub given_at : Option ℕ
  pub always : Bool
  pub part : Part

-- the draft of no lines
abbrev pub empty : Draft
empty = record { test = record { sites = []; services = []; claims = []; claim_lines = []; cases = [] }; given_at = None; always = false; part = Nowhere }

-- ---- sections

-- each of these is None where the line isn't allowed
abbrev pub with_given : Draft → ℕ → Option Draft
with_given d l = if is_some d.given_at then None else Some (record { test = d.test; given_at = Some l; always = d.always; part = Given })

abbrev pub with_always : Draft → Option Draft
with_always d = if d.always then None else Some (record { test = d.test; given_at = d.given_at; always = true; part = Always })

-- a case has this name
abbrev pub has_case : List Case → List ℕ → Bool
has_case cs n = list_any (λ c. bytes_eq c.name n) cs

abbrev pub add_case : Test → Case → Test
add_case t c = record { sites = t.sites; services = t.services; claims = t.claims; claim_lines = t.claim_lines; cases = t.cases ++ c ∷ [] }

abbrev pub with_case : Draft → ℕ → List ℕ → Option Draft
with_case d l n =
    if nat_le MOST_CASES (length d.test.cases) || has_case d.test.cases n then None
    else Some (record { test = add_case d.test (record { name = n; line = l }); given_at = d.given_at; always = d.always; part = InCase })

-- ---- services and claims

-- the place of the case that was begun last
abbrev pub last_case : Test → ℕ
last_case t = length t.cases - 1

-- the place of the case of a service, if one may stand in this part; of those of `given` there is none
abbrev pub case_of_service : Part → Test → Option (Option ℕ)
case_of_service Given t = Some None
case_of_service InCase t = Some (Some (last_case t))
case_of_service _ t = None

-- the place of the case of a claim, if one may stand in this part; of those of `always` there is none
abbrev pub case_of_claim : Part → Test → Option (Option ℕ)
case_of_claim Always t = Some None
case_of_claim InCase t = Some (Some (last_case t))
case_of_claim _ t = None

abbrev pub add_service : Test → ServiceLine → Test
add_service t s = record { sites = t.sites; services = t.services ++ s ∷ []; claims = t.claims; claim_lines = t.claim_lines; cases = t.cases }

abbrev pub with_service : Draft → Service → Option (Option ℕ) → Option Draft
with_service d s None = None
with_service d s (Some k) =
    if nat_le MOST_SERVICES (length d.test.services) || is_built_in s.name then None
    else Some (record { test = add_service d.test (record { case_at = k; service = s }); given_at = d.given_at; always = d.always; part = d.part })

abbrev pub add_claim : Test → ClaimLine → Claim → Test
add_claim t l c = record { sites = t.sites; services = t.services; claims = t.claims ++ c ∷ []; claim_lines = t.claim_lines ++ l ∷ []; cases = t.cases }

abbrev pub with_claim : Draft → ℕ → List ℕ → Claim → Option (Option ℕ) → Option Draft
with_claim d l text c None = None
with_claim d l text c (Some k) =
    if nat_le MOST_CLAIMS (length d.test.claims) then None
    else Some (record { test = add_claim d.test (record { case_at = k; line = l; text = text }) c; given_at = d.given_at; always = d.always; part = d.part })

-- a line of this kind, with its number and its text, if it may stand there
unfoldable pub placed : Draft → ℕ → List ℕ → Kind → Option Draft
placed d l text blank = Some d
placed d l text given = with_given d l
placed d l text always = with_always d
placed d l text (case n) = with_case d l n
placed d l text (serves s) = with_service d s (case_of_service d.part d.test)
placed d l text (claims c) = with_claim d l text c (case_of_claim d.part d.test)

-- ---- texts

-- the draft with these sites
abbrev pub with_sites : Draft → List Site → Draft
with_sites d ss = record { test = record { sites = ss; services = d.test.services; claims = d.test.claims; claim_lines = d.test.claim_lines; cases = d.test.cases }; given_at = d.given_at; always = d.always; part = d.part }

-- what lines say; or the number of the first that is none of a test, or none where it stands
pub data Reading : Type 0 where
  says : Draft → Reading
  no_line : ℕ → Reading
  no_place : ℕ → Reading

-- the reading with a line that makes this draft, or isn't allowed where it stands
abbrev pub of_place : ℕ → Option Draft → Reading
of_place l (Some d) = says d
of_place l None = no_place l

-- the reading with a line of this kind, or of none
abbrev pub of_kind : Draft → ℕ → List ℕ → Option Kind → Reading
of_kind d l text (Some k) = of_place l (placed d l text k)
of_kind d l text None = no_line l

-- a line of these tokens, where these are the sites with those that it names, which must be few enough
abbrev pub of_sites : Draft → ℕ → List ℕ → List Token → List Site → Reading
of_sites d l text ts ss = if nat_lt MOST_SITES (length ss) then no_line l else of_kind (with_sites d ss) l text (kind_at ss ts)

-- the reading with a line of these tokens, or one that has no tokens
abbrev pub of_tokens : Draft → ℕ → List ℕ → Option (List Token) → Reading
of_tokens d l text (Some ts) = of_sites d l text ts (with_mentions d.test.sites l ts)
of_tokens d l text None = no_line l

-- one line more, with its number
unfoldable pub read_line : Draft → ℕ → List ℕ → Reading
read_line d l text = of_tokens d l text (cut text)

-- a reading goes on if it is good so far
abbrev pub then_lines : Reading → (Draft → Reading) → Reading
then_lines (says d) f = f d
then_lines (no_line l) f = no_line l
then_lines (no_place l) f = no_place l

-- lines, of which the first has this number
abbrev pub read_lines : Draft → ℕ → List (List ℕ) → Reading
read_lines d l [] = says d
read_lines d l (t ∷ ts) = then_lines (read_line d l t) (λ e. read_lines e (l + 1) ts)

-- what a text says
unfoldable pub read_text : List ℕ → Reading
read_text text = read_lines empty 1 (lines text)
