use Rattle.std.proofs.Common.{arith}
use Rattle.orc_rules.specs.Nodes.{code}
use Rattle.orc_verdict.proofs.Nesting.{place_most}
use Rattle.orc_verdict.proofs.depth.most_depth.Goals as goal

pub returns-in-Some : goal.returns-in-Some
returns-in-Some c x l p heights are low sp = omega (arith, c.in-Some.ensures, place_most x (code l) heights c.args.marked.now p c.in_ok-levels.levels c.args.most are low sp c.in_ok-levels.ensures)
