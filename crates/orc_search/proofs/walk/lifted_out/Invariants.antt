use Rattle.std.proofs.Common.{◌≡◌, ◌<◌, reverse, take, length}
use Rattle.orc_search.specs.Nodes.{smalls, Extends}
use Rattle.orc_search.specs.Moving.{successor_of}
use Rattle.orc_search.specs.Walks.{through}
use Rattle.orc_search.proofs.walk.lifted_out.Given as goal

abbrev pub invariant-loop-i : goal.invariant-loop-i
invariant-loop-i l = Extends (smalls l.fn.terms) (smalls l.terms) × (l.successor.to < length (smalls l.terms))
    × (through (smalls l.fn.terms) (reverse l.path) (successor_of (smalls l.fn.terms) l.fn.successor) ≡ through (smalls l.fn.terms) (reverse (take l.i l.path)) (successor_of (smalls l.terms) l.successor))
