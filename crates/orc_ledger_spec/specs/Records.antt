-- What the records of a ledger describe (spell): a place of a journal, that is a marked term with its time and counts.
use Rattle.std.specs.Prelude.{ℕ, suc, ◌+◌, ◌*◌, ◌≤◌, ◌≡◌, List, [], ◌++◌, length, map, filter, Bool, true, false, cond, nat_eq, nat_lt, not, ◌||◌, slice_get, Option, Some}
use Rattle.orc_rules.specs.declared.entry.Entry.{Entry}
use Rattle.orc_rules.specs.declared.entry.Entry.TheVariants.{Cancel}
use Rattle.orc_rules.specs.declared.entry.Entry.TheVariants as entry
use Rattle.orc_rules.specs.declared.limits.TheConstants.{MOST_ENTRIES}
use Rattle.orc_rules.specs.Term.{Term}
use Rattle.orc_rules.specs.Nodes.{Listing, code, source, definitions}
use Rattle.orc_rules.specs.Sites.{Site}
use Rattle.orc_rules.specs.Timed.{Context}
use Rattle.orc_rules.specs.Journal.{Place, Journal, begin}
use Rattle.orc_env.specs.declared.names.Bound.{Bound}
use Rattle.orc_env.specs.declared.names.Bound.TheVariants.{Cell}
use Rattle.orc_env.specs.declared.names.Scope.{Scope}
use Rattle.orc_env.specs.Scopes.{Env, env_of, close}
use Rattle.orc_env.specs.Names.{AreOrdered}
use Rattle.orc_indexes.specs.Same.{weight, Same, None as Nobody}
use Rattle.orc_frames.specs.Spelling.{Path, whole, Row, stands, pends, Numbered, right_of, left_of, marks, sides, seen}
use Rattle.orc_tables.specs.declared.records.Token.{Token}
use Rattle.orc_tables.specs.declared.records.Call.{Call}
use Rattle.orc_tables.specs.declared.records.Step.{Step}
use Rattle.orc_tables.specs.declared.records.Side.{Side}
use Rattle.orc_tables.specs.declared.records.Side.TheVariants.{Right, Left}
use Rattle.orc_tables.specs.declared.records.Group.{Group}
use Rattle.orc_frames.specs.Paths.{standing, path, has_published, is_out, step_out, tries}

-- what callers of a ledger see
pub record Records : Type 0 where
  pub limit : ℕ
  pub journal : List Entry
  pub entries : ℕ  -- how many of them are no cancels
  pub next_mark : ℕ
  pub now : ℕ
  pub made : ℕ  -- how many calls were made
  pub tokens : List Token
  pub slots : List Token  -- where each token is found; one with serial 0 is none
  pub calls : List Call  -- those that pend
  pub scopes : List Scope
  pub steps : List Step
  pub groups : List Group  -- the open ones, the root left out
  pub cells : List Bound  -- by number, an unbound one itself; there is no cell 0

module _ (code : ℕ → Term) (s : Records) where
  -- what stands for the names of a scope
  abbrev pub its_env : ℕ → Env
  its_env = env_of s.cells s.scopes

  -- what is around a token with this innermost step, with all otherwises
  abbrev pub raw_path : ℕ → Path
  raw_path = path code its_env s.steps

  -- the same without the otherwises that have published
  abbrev pub its_path : ℕ → Path
  its_path i = seen (has_published s.steps) (raw_path i)

  -- what a token and a call spell: their mark or number, a token's term, and their path
  abbrev pub token_row : Token → Row
  token_row t = stands t.serial (standing code its_env t.standing) (its_path t.step)

  abbrev pub call_row : Call → Row
  call_row c = pends c.number (its_path c.step)

  -- the marks that the records spell
  abbrev pub rows_of : List Row
  rows_of = map token_row s.tokens ++ map call_row s.calls

  -- what an open side with this path around it spells
  abbrev pub side_at : Path → Side → Numbered
  side_at p (Right c) = right_of c p
  side_at p (Left n g scope) = left_of n (close (its_env scope) (code g)) p

  -- what a group spells
  abbrev pub group_side : Group → Numbered
  group_side g = side_at (its_path g.outer) g.side

  -- a left side that has published is passed over
  abbrev pub is_over : Side → Bool
  is_over (Right c) = false
  is_over (Left n g scope) = has_published s.steps n

  -- the open sides that the groups spell
  abbrev pub sides_of : List Numbered
  sides_of = map group_side (filter (λ g. not (is_over g.side)) s.groups)

-- the records spell a place
pub record Spells (code : ℕ → Term) (s : Records) (p : Place) : Type 0 where
  pub rows : Same (marks whole p.marked) (rows_of code s)
  pub sides : Same (sides whole p.marked) (sides_of code s)
  pub mark : p.mark ≡ s.next_mark
  pub cells : length s.cells ≡ suc (length p.cells)
  pub now : p.now ≡ s.now
  pub made : length p.calls ≡ s.made
  pub none_due : p.to_cancel ≡ []

-- ---- what names a scope past the n or a step past the m that there are
abbrev pub token_out : ℕ → ℕ → Token → Bool
token_out n m t = is_out n t.standing || nat_lt m t.step

abbrev pub call_out : ℕ → Call → Bool
call_out m c = nat_lt m c.step

abbrev pub side_out : ℕ → Side → Bool
side_out n (Right c) = false
side_out n (Left m g scope) = nat_lt n scope

abbrev pub group_out : ℕ → ℕ → Group → Bool
group_out n m g = side_out n g.side || nat_lt m g.outer

-- 1 for a token with this mark
abbrev pub has_serial : ℕ → Token → ℕ
has_serial m t = cond (nat_eq m t.serial) 1 0

-- the cell isn't bound: it stands for itself
abbrev pub is_own : ℕ → Option Bound → Bool
is_own c (Some (Cell d)) = nat_eq c d
is_own c _ = false

-- the side is the right side of a cell that is bound or lost
abbrev pub is_settled : List Bound → Side → Bool
is_settled cells (Right c) = not (is_own c (slice_get cells c))
is_settled cells (Left n g scope) = false

-- what the records name is there, and no two things share a name
pub record Sound (s : Records) : Type 0 where
  pub tokens : Nobody (token_out (length s.scopes) (length s.steps)) s.tokens
  pub calls : Nobody (call_out (length s.steps)) s.calls
  pub groups : Nobody (group_out (length s.scopes) (length s.steps)) s.groups
  pub steps : Nobody (step_out (length s.scopes) s.next_mark) s.steps
  -- each step and each scope names one before it
  pub outwards : (k : ℕ) (p : Step) → slice_get s.steps k ≡ Some p → p.outer ≤ k
  pub scopes : AreOrdered s.scopes
  -- a cell that isn't bound stands for itself, and so does that of an open side
  pub own : (c d : ℕ) → slice_get s.cells c ≡ Some (Cell d) → c ≡ d
  pub cells : Nobody (λ g. is_settled s.cells g.side) s.groups
  -- no otherwise has a live token's serial
  pub apart : (m : ℕ) → 1 ≤ weight (has_serial m) s.tokens → weight (tries m) s.steps ≡ 0
  -- no two steps enter one otherwise
  pub once : (m : ℕ) → weight (tries m) s.steps ≤ 1

-- what a run of the program with these sites goes by
abbrev pub context : Listing → List Site → Context
context l sites = record { definitions = definitions l; sites = sites; cancels = true }

-- 1 for an entry that counts against the limit: a cancel doesn't
abbrev pub counts : Entry → ℕ
counts (Cancel k) = 0
counts _ = 1

-- the entry is call k
abbrev pub is_call : ℕ → Option Entry → Bool
is_call k (Some (entry.Call s j m args)) = nat_eq k j
is_call k _ = false

-- the call's entry is at its place in the journal
abbrev pub is_written : List Entry → Call → Bool
is_written es c = is_call c.number (slice_get es c.row)

-- the journal leads from the program's term to a place that the records spell
pub record Lawful (l : Listing) (sites : List Site) (s : Records) : Type 0 where
  pub place : Place
  pub leads : Journal (context l sites) (begin (source l)) s.journal place
  pub spells : Spells (code l) s place
  pub sound : Sound s
  pub written : Nobody (λ c. not (is_written s.journal c)) s.calls
  -- cancels don't count
  pub entries : s.entries ≡ weight counts s.journal
  pub within : s.entries ≤ s.limit
  pub small : s.limit ≤ MOST_ENTRIES
  pub counted : s.next_mark ≤ 2 * s.entries + 2
