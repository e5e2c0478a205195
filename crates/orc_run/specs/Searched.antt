-- What a search through all schedules of a source's program adds to a survey.
use Rattle.std.specs.Prelude.{◌≡◌, ◌++◌, ℕ, List, [], ◌∷◌, Bool, true, false, codes, decimal, map}
use Rattle.std.specs.List.{All, flat_map}
use Rattle.std.specs.declared.option.Option.{Option}
use Rattle.std.specs.Io.KnownBytes.{Appends}
use Rattle.orc_rules.specs.Sites.{Table}
use Rattle.orc_rules.specs.Nodes.{Listing}
use Rattle.orc_site.specs.Script.{Says}
use Rattle.orc_load.specs.Loading.{IsProgramOf}
use Rattle.orc_orders.specs.Lines.{lines, unseen_line}
use Rattle.orc_orders.specs.Survey.{IsOf, IsSurvey}
use Rattle.orc_orders.specs.declared.seen.Seen.{Seen}
use Rattle.orc_rules.specs.Timed.{IsIn}
use Rattle.orc_schedules.specs.Ends.{AreOfRuns}
use Rattle.orc_schedules.specs.Reached.{AreAll, IsAmong}
use Rattle.orc_schedules.specs.declared.ended.Ended.{Ended}
use Rattle.orc_schedules.specs.declared.exploration.Schedules.{Schedules}
use Rattle.orc_schedules.specs.declared.exploration.Schedules.TheVariants as schedules
use Rattle.orc_output.specs.Output.{AppendsPrefix}
use Rattle.orc_run.specs.declared.faults.RunFault.{RunFault}
use Rattle.orc_run.specs.Running.{KeepsOr}

-- ---- the outcomes

-- an outcome that came up, without the orders that came to it
abbrev pub ended_of : Seen → Ended
ended_of x = record { end = x.end; values = x.values }

-- those that came up, and more
abbrev pub together : List Seen → List Ended → List Ended
together seen more = map ended_of seen ++ more

-- no order came to it
abbrev pub IsUnseen : List Seen → Ended → Type 0
IsUnseen seen e = All (λ x. IsOf (record { end = e.end; values = e.values.items }) x → ⊥) seen

-- it is among them
abbrev pub HasEnd : List Ended → Ended → Type 0
HasEnd es e = IsAmong es e.end e.values.items

-- of the outcomes that a search found these are the ones that no order came to
pub record AreMore (seen : List Seen) (found more : List Ended) : Type 0 where
  pub each : All (HasEnd (together seen more)) found
  pub apart : All (IsUnseen seen) more
  pub from : (e : Ended) → IsIn e more → IsIn e found

-- ---- the text

-- a line for each outcome that no order came to
abbrev pub unseen_lines : ℕ → List Ended → List ℕ
unseen_lines orders more = flat_map (λ e. unseen_line orders e.end e.values.items) more

-- the last line where all outcomes were found, in so many states,
abbrev pub all_line : ℕ → List ℕ
all_line states = codes "all: every run that ends by itself has one of these outcomes (" ++ (decimal states ++ codes " states)\n")

-- where there is none,
abbrev pub none_line : ℕ → List ℕ
none_line states = codes "all: no run ends by itself (" ++ (decimal states ++ codes " states)\n")

-- where there are more states than a search may look at,
abbrev pub many_line : ℕ → List ℕ
many_line most = codes "not all: there are over " ++ (decimal most ++ codes " states\n")

-- and where times may be over 64 bits
abbrev pub long_line : List ℕ
long_line = codes "not all: delays may add up to 2^64 or more\n"

-- The last line, whether it says that these outcomes are all, and what that means: each run that ends by itself has one of them.
pub data Closes (l : Listing) (t : Table) (limit most : ℕ) (es : List Ended) : List ℕ → Bool → Type 0 where
  these : (states : ℕ) → AreAll l t limit es → Closes l t limit most es (all_line states) true
  none : (states : ℕ) → AreAll l t limit [] → Closes l t limit most es (none_line states) true
  many : Closes l t limit most es (many_line most) false
  long : Closes l t limit most es long_line false

-- The text reports so many orders of the source's program, with the sites that the script says, and a search through all its schedules, of so many
-- states at most: a line for each outcome that came up, one for each other one that the search found, with which a run ends too, and the last line.
pub record TellsAll (source script : List ℕ) (orders limit most : ℕ) (text : List ℕ) (all : Bool) : Type 0 where
  pub listing : Listing
  pub table : Table
  pub says : Says script table
  pub spells : IsProgramOf source table listing
  pub seen : List Seen
  pub survey : IsSurvey listing table limit orders seen
  pub more : List Ended
  pub apart : All (IsUnseen seen) more
  pub real : AreOfRuns listing table more
  pub last : List ℕ
  pub closes : Closes listing table limit most (together seen more) last all
  pub lines : text ≡ lines orders seen ++ (unseen_lines orders more ++ last)

-- such a text was written
abbrev pub HasSearched : List ℕ → List ℕ → ℕ → ℕ → ℕ → Option (List ℕ) → Option (List ℕ) → Bool → Type 0
HasSearched source script orders limit most old new all = (text : List ℕ) × TellsAll source script orders limit most text all × Appends old new text

-- at a fault nothing was written, or at a write fault a prefix of such a text
abbrev pub LeavesUnsearched : List ℕ → List ℕ → ℕ → ℕ → ℕ → Option (List ℕ) → Option (List ℕ) → RunFault → Type 0
LeavesUnsearched source script orders limit most old new = KeepsOr ((text : List ℕ) × (all : Bool) × TellsAll source script orders limit most text all × AppendsPrefix old new text) old new

-- ---- what a search answers

-- the outcomes that a search found; none where it gave up
abbrev pub found_of : Schedules → List Ended
found_of (schedules.All es states) = es.items
found_of schedules.TooMany = []
found_of schedules.TooLong = []

-- whether a search found all outcomes
abbrev pub says_all : Schedules → Bool
says_all (schedules.All es states) = true
says_all schedules.TooMany = false
says_all schedules.TooLong = false

-- the line that says all, of so many states
abbrev pub line_of_all : List Ended → ℕ → List ℕ
line_of_all [] states = none_line states
line_of_all (e ∷ es) states = all_line states

-- the last line, where a search may look at so many states
abbrev pub last_line : ℕ → Schedules → List ℕ
last_line most (schedules.All es states) = line_of_all es.items states
last_line most schedules.TooMany = many_line most
last_line most schedules.TooLong = long_line
