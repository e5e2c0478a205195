use Rattle.std.proofs.Common.{◌≡◌, take}
use Rattle.std.specs.Prelude.{map}
use Rattle.orc_rules.specs.Tables.{names_of}
use Rattle.orc_rules.proofs.answers.names_of.Given as goal

abbrev pub invariant-loop-site : goal.invariant-loop-site
invariant-loop-site l = map (λ n. n.now) l.names.items ≡ names_of (take l.site-index l.sites)
