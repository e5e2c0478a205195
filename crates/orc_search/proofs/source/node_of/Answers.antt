use Rattle.std.proofs.Common.{map, ap, ◌∙◌}
use Rattle.orc_rules.specs.Nodes.{param_of}
use Rattle.orc_search.proofs.Sources.{node_stop, node_gives, node_asks, node_enters, node_par, node_seq, node_prune, node_other}
use Rattle.orc_search.proofs.source.node_of.Goals as goal

pub returns-in-Stop : goal.returns-in-Stop
returns-in-Stop c = node_stop c.args.program.now c.args.numbers.now c.args.unfolded c.in-Stop.is

pub returns-in-Operand : goal.returns-in-Operand
returns-in-Operand c = node_gives c.args.program.now c.args.numbers.now c.args.unfolded c.in-Operand.operand _ c.in-Operand.is c.param_of.ensures

pub returns-in_ok-params-in-Site : goal.returns-in_ok-params-in-Site
returns-in_ok-params-in-Site c =
    node_asks c.args.program.now c.args.numbers.now c.args.unfolded c.in-Site.site c.in-Site.list c.in_ok-params-in-Site.params c.in-Site.is (c.in_ok-params-in-Site.ensures ∙ ap (map param_of) c.operands.ensures.value)

pub returns-in_ok-params-in-Call : goal.returns-in_ok-params-in-Call
returns-in_ok-params-in-Call c =
    node_enters c.args.program.now c.args.numbers.now c.args.unfolded c.in-Call.definition c.in-Call.list c.in_ok-params-in-Call.params c.in-Call.is (c.in_ok-params-in-Call.ensures ∙ ap (map param_of) c.operands-in-Call.ensures.value)

pub returns-in_ok-node-in-Par : goal.returns-in_ok-node-in-Par
returns-in_ok-node-in-Par c = node_par c.args.program.now c.args.numbers.now c.args.unfolded c.in-Par.f c.in-Par.g c.in_ok-node-in-Par.node c.in-Par.is c.in_ok-node-in-Par.ensures

pub returns-in_ok-node-in-Seq : goal.returns-in_ok-node-in-Seq
returns-in_ok-node-in-Seq c = node_seq c.args.program.now c.args.numbers.now c.args.unfolded c.in-Seq.f c.in-Seq.x c.in-Seq.g c.in_ok-node-in-Seq.node c.in-Seq.is c.in_ok-node-in-Seq.ensures

pub returns-in_ok-node-in-Prune : goal.returns-in_ok-node-in-Prune
returns-in_ok-node-in-Prune c = node_prune c.args.program.now c.args.numbers.now c.args.unfolded c.in-Prune.f c.in-Prune.x c.in-Prune.g c.in_ok-node-in-Prune.node c.in-Prune.is c.in_ok-node-in-Prune.ensures

pub returns-in_ok-node-in-Other : goal.returns-in_ok-node-in-Other
returns-in_ok-node-in-Other c = node_other c.args.program.now c.args.numbers.now c.args.unfolded c.in-Other.f c.in-Other.g c.in_ok-node-in-Other.node c.in-Other.is c.in_ok-node-in-Other.ensures
