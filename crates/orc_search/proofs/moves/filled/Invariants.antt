use Rattle.std.proofs.Common.{◌≡◌, ◌<◌, drop, length}
use Rattle.orc_search.specs.Small.{set_all}
use Rattle.orc_search.specs.Nodes.{smalls, small_at, Extends}
use Rattle.orc_search.proofs.moves.filled.Given as goal

abbrev pub invariant-loop-i : goal.invariant-loop-i
invariant-loop-i l = Extends (smalls l.fn.terms) (smalls l.terms) × (l.filled < length (smalls l.terms))
    × (set_all l.names l.params (small_at (smalls l.fn.terms) l.body) ≡ set_all (drop l.i l.names) (drop l.i l.params) (small_at (smalls l.terms) l.filled))
