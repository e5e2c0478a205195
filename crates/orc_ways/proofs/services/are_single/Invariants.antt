use Rattle.std.proofs.Common.{◌≡◌, drop}
use Rattle.std.specs.List.{list_all}
use Rattle.orc_ways.specs.Lines.{is_one}
use Rattle.orc_ways.specs.Values.{histories_of}
use Rattle.orc_ways.proofs.services.are_single.Given as goal

abbrev pub invariant-loop-replies : goal.invariant-loop-replies
invariant-loop-replies l = list_all is_one (histories_of (drop l.replies-index l.alternatives)) ≡ list_all is_one (histories_of l.alternatives)
