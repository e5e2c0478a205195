-- What the code finds of a case.
use Rattle.std.specs.Prelude.{ℕ, List, map}
use Rattle.orc_ways.specs.declared.test.ServiceLine.{ServiceLine as CodeServiceLine}
use Rattle.orc_ways.specs.Drafting.{service_lines_of}
use Rattle.orc_cases.specs.Services.{names, new_names}
use Rattle.orc_cases.specs.Texts.{halts_text}
use Rattle.orc_cases.specs.Ways.{CaseWays, line_of}
use Rattle.orc_cases.specs.Values.{services_at}

-- what the services at these places give
abbrev pub case_at : List CodeServiceLine → List ℕ → CaseWays
case_at ls ns = record { lines = map line_of (services_at ls ns); halts = halts_text (new_names (names (services_at ls ns)) (map (λ l. l.service) (service_lines_of ls))) }
