-- What is told of the entries that are allowed.
use Rattle.std.specs.Prelude.{List, All}
use Rattle.orc_rules.specs.declared.entry.Entry.{Entry}
use Rattle.orc_rules.specs.Nodes.{Listing}
use Rattle.orc_rules.specs.Sites.{Table}
use Rattle.orc_checker.specs.Checker.{State}
use Rattle.orc_verdict.specs.Reasons.{MeetsAll}

-- each of the entries meets the conditions of all reasons there
abbrev pub AreTaken : Listing → Table → State → List Entry → Type 0
AreTaken l t s es = All (λ e. MeetsAll l t e s) es
