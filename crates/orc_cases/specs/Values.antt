-- What the code's values stand for.
use Rattle.std.specs.Prelude.{◌≡◌, ℕ, List, [], ◌∷◌, map, length, slice_get, Option, Some, None}
use Rattle.orc_ways.specs.Lines.{Service}
use Rattle.orc_ways.specs.Values.{service_of}
use Rattle.orc_ways.specs.declared.test.ServiceLine.{ServiceLine as CodeServiceLine}
use Rattle.orc_cases.specs.declared.choices.Choice.{Choice as CodeChoice}
use Rattle.orc_cases.specs.declared.frame.Frame.{Frame}
use Rattle.orc_cases.specs.declared.frame.Line.{Line as CodeLine}
use Rattle.orc_cases.specs.Choices.{Choice}
use Rattle.orc_cases.specs.Ways.{CaseWays, Line, choices_of, combinations, in_order}
use Rattle.orc_cases.specs.Places.{AreBelow, picked}

-- a choice of the code as one of the definitions
abbrev pub choice_of : CodeChoice → Choice
choice_of c = record { off = c.off; is_ranged = c.is_ranged; answers = c.answers.items }

abbrev pub choices_from : List CodeChoice → List Choice
choices_from cs = map choice_of cs

-- the services of the lines at these places
abbrev pub service_there : Option CodeServiceLine → Option Service
service_there (Some l) = Some (service_of l.service)
service_there None = None

abbrev pub with_service : Option Service → List Service → List Service
with_service (Some s) ss = s ∷ ss
with_service None ss = ss

abbrev pub services_at : List CodeServiceLine → List ℕ → List Service
services_at ls [] = []
services_at ls (n ∷ ns) = with_service (service_there (slice_get ls n)) (services_at ls ns)

-- a line of the code as one of the definitions
abbrev pub line_from : CodeLine → Line
line_from l = record { call = l.call.items; choices = choices_from l.choices.items }

abbrev pub lines_from : List CodeLine → List Line
lines_from ls = map line_from ls

-- what the lines may do
abbrev pub all_choices_of : List CodeLine → List (List Choice)
all_choices_of ls = choices_of (lines_from ls)

-- a frame of the code as the case of the definitions
abbrev pub ways_from : Frame → CaseWays
ways_from f = record { lines = lines_from f.lines.items; halts = f.halts.items }

-- it knows how many combinations there are
abbrev pub IsCounted : Frame → Type 0
IsCounted f = f.count ≡ length (combinations (all_choices_of f.lines.items))

-- the numbers are those of the combinations, in the order of the ways
pub record IsOrdered (f : Frame) (numbers : List ℕ) : Type 0 where
  pub counted : IsCounted f
  pub below : AreBelow f.count numbers
  pub placed : picked (combinations (all_choices_of f.lines.items)) numbers ≡ in_order (combinations (all_choices_of f.lines.items))
