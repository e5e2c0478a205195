use Rattle.std.proofs.Common.{◌≡◌, [], subst}
use Rattle.std.specs.Prelude.{MatchOption}
use Rattle.orc_indexes.specs.Dues.{IsEarliest}
use Rattle.orc_indexes.proofs.Notes.{first_of}
use Rattle.orc_indexes.proofs.dues.Dues.first.Goals as goal

pub returns : goal.returns
returns c = subst (λ z. MatchOption c.self.inside.first (z ≡ []) (IsEarliest z)) c.self.view_is (first_of c.self.inside.first c.self.inside.others.keys c.self.invariant)
