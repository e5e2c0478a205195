use Rattle.std.proofs.Common.{◌≡◌, List, [], refl, false, None}
use Rattle.std.specs.Prelude.{slice_get, slice_index_or}
use Rattle.orc_rules.specs.declared.param.Operand.{Operand}
use Rattle.orc_rules.specs.declared.param.Operand.TheVariants as operand
use Rattle.orc_rules.specs.declared.param.Param.TheVariants as is
use Rattle.orc_rules.specs.declared.program.TermNode.TheVariants as node
use Rattle.orc_rules.specs.Nodes.{code, definitions}
use Rattle.orc_env.specs.declared.names.Bound.TheVariants as bound
use Rattle.orc_env.proofs.Scopes.{close-given}
use Rattle.orc_ledger_spec.specs.Records.{its_env}
use Rattle.orc_frames.specs.Doing.{scan, closed, what_def}
use Rattle.orc_frames.specs.declared.action.Action.TheVariants.{Halt, Fork, Seq}
use Rattle.orc_ledger_spec.proofs.Advancing.{stands-param, word-stop, word-site, word-call, word-par, word-seq}
use Rattle.orc_ledger_spec.proofs.Claiming.{asked-none, def-claims, site-claims}
use Rattle.orc_ledger.proofs.Placed.{at-node}
use Rattle.orc_ledger.proofs.ledger.Ledger.advance_by.Goals as goal

pub move_end-requires-clause-at : goal.move_end-requires-clause-at
move_end-requires-clause-at g c =
    let l = g.P.Run.listing in
    let a = c.args in
    (c.in-At.scope, at-node l a.inputs.now.graph.now c.args.inputs.now.its_graph a.token c.in-At.node c.in-At.scope c.in-At.is node.Stop c.in-Stop.ensures.term)

pub move_name-requires-clause-at : goal.move_name-requires-clause-at
move_name-requires-clause-at g c =
    let l = g.P.Run.listing in
    let a = c.args in
    at-node l a.inputs.now.graph.now c.args.inputs.now.its_graph a.token c.in-At.node c.in-At.scope c.in-At.is (node.Operand (operand.Name c.in-Name.name)) c.in-Name.ensures.term

pub move_value-requires-in-Is-clause-form : goal.move_value-requires-in-Is-clause-form
move_value-requires-in-Is-clause-form g c =
    let l = g.P.Run.listing in
    let a = c.args in
    let v = c.in-Is.value in
    stands-param l a.self.now a.token c.in-At.scope (is.Is v) (is.Is v) (at-node l a.inputs.now.graph.now c.args.inputs.now.its_graph a.token c.in-At.node c.in-At.scope c.in-At.is (node.Operand (operand.Is c.in-Is.value)) c.in-Is.ensures.term) (close-given (its_env (code l) a.self.now c.in-At.scope) (bound.Is v))

pub move_site-requires-clause-at : goal.move_site-requires-clause-at
move_site-requires-clause-at g c =
    let l = g.P.Run.listing in
    let a = c.args in
    (c.in-Site.field-0, at-node l a.inputs.now.graph.now c.args.inputs.now.its_graph a.token c.in-At.node c.in-At.scope c.in-At.is (node.Site c.in-Site.field-0 c.in-Site.list) c.in-Site.ensures.term)

pub move_def-requires-clause-at : goal.move_def-requires-clause-at
move_def-requires-clause-at g c =
    let l = g.P.Run.listing in
    let a = c.args in
    at-node l a.inputs.now.graph.now c.args.inputs.now.its_graph a.token c.in-At.node c.in-At.scope c.in-At.is (node.Call c.in-Call.definition c.in-Call.list) c.in-Call.ensures.term

pub move_fork-requires-clause-at : goal.move_fork-requires-clause-at
move_fork-requires-clause-at g c =
    let l = g.P.Run.listing in
    let a = c.args in
    at-node l a.inputs.now.graph.now c.args.inputs.now.its_graph a.token c.in-At.node c.in-At.scope c.in-At.is (node.Par c.in-Par.left c.in-Par.right) c.in-Par.ensures.term

pub move_feed-requires-clause-at : goal.move_feed-requires-clause-at
move_feed-requires-clause-at g c =
    let l = g.P.Run.listing in
    let a = c.args in
    at-node l a.inputs.now.graph.now c.args.inputs.now.its_graph a.token c.in-At.node c.in-At.scope c.in-At.is (node.Seq c.in-Seq.left c.in-Seq.name c.in-Seq.right) c.in-Seq.ensures.term

pub move_prune-requires-clause-at : goal.move_prune-requires-clause-at
move_prune-requires-clause-at g c =
    let l = g.P.Run.listing in
    let a = c.args in
    at-node l a.inputs.now.graph.now c.args.inputs.now.its_graph a.token c.in-At.node c.in-At.scope c.in-At.is (node.Prune c.in-Prune.left c.in-Prune.name c.in-Prune.right) c.in-Prune.ensures.term

pub move_other-requires-clause-at : goal.move_other-requires-clause-at
move_other-requires-clause-at g c =
    let l = g.P.Run.listing in
    let a = c.args in
    at-node l a.inputs.now.graph.now c.args.inputs.now.its_graph a.token c.in-At.node c.in-At.scope c.in-At.is (node.Other c.in-Other.left c.in-Other.right) c.in-Other.ensures.term

pub returns-in-Stop-clause-asked : goal.returns-in-Stop-clause-asked
returns-in-Stop-clause-asked g c =
    let l = g.P.Run.listing in
    let a = c.args in
    asked-none l a.self.now a.token (a.claim.now ≡ a.claim.now) (g.C.Claim.got a.claim.now a.claim.now) c.move_end.result Halt (word-stop l a.self.now a.token c.in-At.scope (at-node l a.inputs.now.graph.now c.args.inputs.now.its_graph a.token c.in-At.node c.in-At.scope c.in-At.is node.Stop c.in-Stop.ensures.term)) refl

pub returns-in-Site-clause-asked : goal.returns-in-Site-clause-asked
returns-in-Site-clause-asked g c =
    let l = g.P.Run.listing in
    let a = c.args in
    let ops : List Operand = slice_index_or l.lists c.in-Site.list [] in
    let ps = closed (its_env (code l) a.self.now c.in-At.scope) ops in
    asked-none l a.self.now a.token (a.claim.now ≡ a.claim.now) (g.C.Claim.got a.claim.now a.claim.now) c.move_site.result (scan false None ps) (word-site l a.self.now a.token c.in-At.scope c.in-Site.field-0 ops (at-node l a.inputs.now.graph.now c.args.inputs.now.its_graph a.token c.in-At.node c.in-At.scope c.in-At.is (node.Site c.in-Site.field-0 c.in-Site.list) c.in-Site.ensures.term)) (site-claims (a.claim.now ≡ a.claim.now) (g.C.Claim.got a.claim.now a.claim.now) ps refl)

pub returns-in-Call-clause-asked : goal.returns-in-Call-clause-asked
returns-in-Call-clause-asked g c =
    let l = g.P.Run.listing in
    let a = c.args in
    let d = slice_get (definitions l) c.in-Call.definition in
    asked-none l a.self.now a.token (a.claim.now ≡ a.claim.now) (g.C.Claim.got a.claim.now a.claim.now) c.move_def.result (what_def d) (word-call l a.self.now a.token c.in-At.scope c.in-Call.definition _ (at-node l a.inputs.now.graph.now c.args.inputs.now.its_graph a.token c.in-At.node c.in-At.scope c.in-At.is (node.Call c.in-Call.definition c.in-Call.list) c.in-Call.ensures.term)) (def-claims (a.claim.now ≡ a.claim.now) (g.C.Claim.got a.claim.now a.claim.now) d refl)

pub returns-in-Par-clause-asked : goal.returns-in-Par-clause-asked
returns-in-Par-clause-asked g c =
    let l = g.P.Run.listing in
    let a = c.args in
    asked-none l a.self.now a.token (a.claim.now ≡ a.claim.now) (g.C.Claim.got a.claim.now a.claim.now) c.move_fork.result Fork (word-par l a.self.now a.token c.in-At.scope (code l c.in-Par.left) (code l c.in-Par.right) (at-node l a.inputs.now.graph.now c.args.inputs.now.its_graph a.token c.in-At.node c.in-At.scope c.in-At.is (node.Par c.in-Par.left c.in-Par.right) c.in-Par.ensures.term)) refl

pub returns-in-Seq-clause-asked : goal.returns-in-Seq-clause-asked
returns-in-Seq-clause-asked g c =
    let l = g.P.Run.listing in
    let a = c.args in
    asked-none l a.self.now a.token (a.claim.now ≡ a.claim.now) (g.C.Claim.got a.claim.now a.claim.now) c.move_feed.result Seq (word-seq l a.self.now a.token c.in-At.scope (code l c.in-Seq.left) c.in-Seq.name (code l c.in-Seq.right) (at-node l a.inputs.now.graph.now c.args.inputs.now.its_graph a.token c.in-At.node c.in-At.scope c.in-At.is (node.Seq c.in-Seq.left c.in-Seq.name c.in-Seq.right) c.in-Seq.ensures.term)) refl
