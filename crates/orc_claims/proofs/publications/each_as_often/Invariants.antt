-- What is left stands as often where the whole does.
use Rattle.std.proofs.Common.{◌≡◌, drop}
use Rattle.orc_claims.specs.Claims.{each_as_often}
use Rattle.orc_claims.proofs.publications.each_as_often.Given as goal

abbrev pub invariant-loop-at : goal.invariant-loop-at
invariant-loop-at l = each_as_often l.first l.values l.others ≡ each_as_often (drop l.at l.first) l.values l.others
