use Rattle.std.proofs.Common.{◌≡◌, map, take}
use Rattle.orc_search.specs.Changes.{changed_param}
use Rattle.orc_search.proofs.change.changed_params.Given as goal

abbrev pub invariant-loop-param : goal.invariant-loop-param
invariant-loop-param l = l.changed.items ≡ map (changed_param l.change) (take l.param-index l.params)
