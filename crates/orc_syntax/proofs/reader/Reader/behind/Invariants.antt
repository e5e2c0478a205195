use Rattle.std.proofs.Common.{◌≡◌, ◌≤◌, [], length, take}
use Rattle.orc_syntax.specs.Machine as machine
use Rattle.orc_syntax.specs.View.{over}
use Rattle.orc_syntax.proofs.reader.Reader.behind.Given as goal

abbrev pub invariant-loop-count : goal.invariant-loop-count
invariant-loop-count l = record {
  within : l.count ≤ length l.self.frames.items;
  same : machine.behind (over [] (take l.count l.self.frames.items)) ≡ machine.behind (over [] l.self.frames.items);
}

abbrev pub decreases-loop-count : goal.decreases-loop-count
decreases-loop-count l = l.count
