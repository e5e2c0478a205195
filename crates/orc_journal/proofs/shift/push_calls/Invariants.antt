use Rattle.std.proofs.Common.{◌≡◌, ◌≤◌, ◌+◌, ◌++◌, length, map, take, vec_len, vec_capacity}
use Rattle.orc_journal.specs.Shifts.{called_by}
use Rattle.orc_journal.proofs.shift.push_calls.Given as goal

abbrev pub invariant-loop-called : goal.invariant-loop-called
invariant-loop-called l = record {
  moved : l.calls.items ≡ l.initial.calls.items ++ map (called_by l.shift) (take l.called-index l.part);
  room : vec_len l.calls + length l.part ≤ vec_capacity l.calls + l.called-index;
}
