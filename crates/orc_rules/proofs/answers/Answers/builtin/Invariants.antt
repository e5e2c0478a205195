use Rattle.std.proofs.Common.{◌≡◌, take}
use Rattle.orc_rules.specs.Sites.{built_in_table, built_ins}
use Rattle.orc_rules.proofs.answers.Answers.builtin.Given as goal

abbrev pub invariant-loop-built_in : goal.invariant-loop-built_in
invariant-loop-built_in l = l.answers ≡ built_in_table (take l.built_in-index built_ins)
