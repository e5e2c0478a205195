use Rattle.std.proofs.Common.{refl}
use Rattle.orc_schedules.proofs.Starting.{only_there}
use Rattle.orc_schedules.proofs.tables.Tables.begin.Goals as goal

pub returns : goal.returns
returns c = record {
  terms = refl;
  counts = refl;
  lists = c.new.ensures;
  ends = c.new-3.ensures;
  states = only_there c.new-2.result c.add.new.self (record { term = c.args.term; made = 0; seen = 0 }) c.new-2.ensures c.in_ok-add.ensures.there c.in_ok-add.ensures.kept;
}
