-- Which node of a program a graph's node means.
use Rattle.orc_rules.specs.declared.param.Operand.TheVariants as operand
use Rattle.orc_rules.specs.declared.program.TermNode.{TermNode}
use Rattle.orc_rules.specs.declared.program.TermNode.TheVariants as term
use Rattle.orc_graph.specs.declared.node.Node.{Node}
use Rattle.orc_graph.specs.declared.node.Node.TheVariants.{Stop, Name, Is, Site, Call, Par, Seq, Prune, Other}

-- the same node, with numbers of any size
abbrev pub term_node : Node → TermNode
term_node Stop = term.Stop
term_node (Name x) = term.Operand (operand.Name x)
term_node (Is v) = term.Operand (operand.Is v)
term_node (Site m l) = term.Site m l
term_node (Call e l) = term.Call e l
term_node (Par f g) = term.Par f g
term_node (Seq f x g) = term.Seq f x g
term_node (Prune f x g) = term.Prune f x g
term_node (Other f g) = term.Other f g
