-- What claims see of a run, and say of it.
use Rattle.std.specs.Prelude.{ℕ, suc, List, [], ◌∷◌, Bool, cond, not, ◌&&◌, map, length, nat_eq}
use Rattle.orc_rules.specs.declared.entry.Entry.{Entry}
use Rattle.orc_rules.specs.declared.entry.Entry.TheVariants as entry
use Rattle.orc_rules.specs.declared.entry.State.{State}
use Rattle.orc_claims.specs.Claims.{holds}
use Rattle.orc_claims.specs.Happenings.{happenings}
use Rattle.orc_claims.specs.Verdicts.{judged}
use Rattle.orc_claims.specs.declared.claim.Claim.{Claim}
use Rattle.orc_claims.specs.declared.happening.Happening.{Happening}
use Rattle.orc_claims.specs.declared.verdict.Judged.{Judged}
use Rattle.orc_tally.specs.declared.sight.ClaimSite.{ClaimSite}

-- the number that claims have, from one on, for a site of the table with so many arguments: its first place among theirs, or one past the last
abbrev pub number_from : ℕ → List ClaimSite → ℕ → ℕ → ℕ
number_from at [] site arguments = at
number_from at (s ∷ ss) site arguments = cond (nat_eq s.site site && nat_eq s.arguments arguments) at (number_from (suc at) ss site arguments)

-- an entry whose site has the number that claims have for it
abbrev pub renumbered : List ClaimSite → Entry → Entry
renumbered ss (entry.Call s k site args) = entry.Call s k (number_from 0 ss site (length args)) args
renumbered ss e = e

-- what claims see of a run
pub record Sight : Type 0 where
  pub happened : List Happening
  pub state : State
  pub now : ℕ

-- the same by its journal, where it stands at its end, and the time then
abbrev pub sight : List ClaimSite → List Entry → State → ℕ → Sight
sight ss es state now = record { happened = happenings (map (renumbered ss) es); state = state; now = now }

-- what is said of a claim in it
abbrev pub said : Claim → Sight → Judged
said c s = judged c s.happened s.state s.now

-- whether the claim fails there
abbrev pub fails : Claim → Sight → Bool
fails c s = not (holds c s.happened s.state s.now)

-- whether it was put to the test
abbrev pub tests : Claim → Sight → Bool
tests c s = (said c s).tested
