-- A program stays ready, whatever terms are added.
use Rattle.std.proofs.Common.{List}
use Rattle.orc_search.specs.declared.moves.Source.{Source}
use Rattle.orc_rules.specs.Nodes.{code}
use Rattle.orc_search.specs.Small.{Small}
use Rattle.orc_search.specs.Nodes.{Extends}
use Rattle.orc_search.specs.Programs.{small}
use Rattle.orc_search.specs.Ready.{IsReady}
use Rattle.orc_search.proofs.Changes.{kept_get}

pub ready_kept : (ts us : List Small) (s : Source) → Extends ts us → IsReady ts s → IsReady us s
ready_kept ts us s e is = (λ i n h. kept_get ts us n (small (code s.program.now i)) e (is.0 i n h), is.1)
