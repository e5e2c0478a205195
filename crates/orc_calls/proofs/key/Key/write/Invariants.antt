-- The key has two numbers for each argument so far.
use Rattle.std.proofs.Common.{◌≡◌, ◌*◌, suc, length, take}
use Rattle.orc_calls.specs.Counting.{key}
use Rattle.orc_calls.proofs.key.Key.write.Given as goal

abbrev pub invariant-loop-value : goal.invariant-loop-value
invariant-loop-value l = (l.self ≡ key l.site (take l.value-index l.value-items)) × (length l.self ≡ suc (2 * l.value-index))
