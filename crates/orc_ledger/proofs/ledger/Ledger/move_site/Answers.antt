use Rattle.std.proofs.Common.{◌≡◌, List, [], ap, sym, refl, ◌∙◌, false, None}
use Rattle.std.specs.Prelude.{slice_index_or}
use Rattle.orc_rules.specs.declared.param.Operand.{Operand}
use Rattle.orc_rules.specs.Nodes.{Listing, code}
use Rattle.orc_ledger_spec.specs.Records.{its_env}
use Rattle.orc_frames.specs.Doing.{scan, closed}
use Rattle.orc_frames.specs.declared.action.Action.TheVariants.{Call, Wait}
use Rattle.orc_ledger_spec.proofs.Advancing.{word-site, void-site, site-waits, moves-by}
use Rattle.orc_ledger.proofs.ledger.Ledger.move_site.Goals as goal

pub move_void-requires-clause-void : goal.move_void-requires-clause-void
move_void-requires-clause-void g c =
    let l = g.P.Run.listing in
    let a = c.args in
    let ops : List Operand = slice_index_or l.lists a.list [] in
    let env = its_env (code l) a.self.now a.scope in
    let same : c.operands-operands.result.now ≡ ops = c.operands-operands.ensures.value ∙ ap (λ (z : Listing). slice_index_or z.lists a.list []) c.args.inputs.now.its_graph in
    void-site l a.self.now a.token a.scope c.requires.at.0 ops c.requires.at.1 (sym (ap (λ (z : List Operand). scan false None (closed env z)) same) ∙ sym c.in-Void.ensures)

pub returns-in-Call-clause-done : goal.returns-in-Call-clause-done
returns-in-Call-clause-done g c ks =
    let l = g.P.Run.listing in
    let a = c.args in
    let ops : List Operand = slice_index_or l.lists a.list [] in
    let env = its_env (code l) a.self.now a.scope in
    let same : c.operands-operands.result.now ≡ ops = c.operands-operands.ensures.value ∙ ap (λ (z : Listing). slice_index_or z.lists a.list []) c.args.inputs.now.its_graph in
    moves-by l a.self.now a.token a.slot _ _ ks Call (word-site l a.self.now a.token a.scope c.requires.at.0 (slice_index_or l.lists a.list []) c.requires.at.1 ∙ sym (ap (λ (z : List Operand). scan false None (closed env z)) same) ∙ sym c.in-Call.ensures) (refl)

pub returns-in_default : goal.returns-in_default
returns-in_default g c =
    let l = g.P.Run.listing in
    let a = c.args in
    let ops : List Operand = slice_index_or l.lists a.list [] in
    let env = its_env (code l) a.self.now a.scope in
    let same : c.operands-operands.result.now ≡ ops = c.operands-operands.ensures.value ∙ ap (λ (z : Listing). slice_index_or z.lists a.list []) c.args.inputs.now.its_graph in
    let said : c.scan.result ≡ scan false None (closed env ops) = c.scan.ensures ∙ ap (λ (z : List Operand). scan false None (closed env z)) same in
    let waits = site-waits (closed env ops) (λ e. c.in_default.not-Call (said ∙ e)) (λ e. c.in_default.not-Void (said ∙ e)) in
    record { done = λ ks. moves-by l a.self.now a.token a.slot _ _ ks (Wait waits.0) (word-site l a.self.now a.token a.scope c.requires.at.0 (slice_index_or l.lists a.list []) c.requires.at.1 ∙ waits.1) refl; others = λ i t off h. h; refused = tt; why = tt }

pub returns-then-have_values-clause-done : goal.returns-then-have_values-clause-done
returns-then-have_values-clause-done g c ks =
    let l = g.P.Run.listing in
    let a = c.args in
    let ops : List Operand = slice_index_or l.lists a.list [] in
    let env = its_env (code l) a.self.now a.scope in
    let same : c.operands-operands.result.now ≡ ops = c.operands-operands.ensures.value ∙ ap (λ (z : Listing). slice_index_or z.lists a.list []) c.args.inputs.now.its_graph in
    moves-by l a.self.now a.token a.slot _ _ ks Call (word-site l a.self.now a.token a.scope c.requires.at.0 (slice_index_or l.lists a.list []) c.requires.at.1 ∙ sym (ap (λ (z : List Operand). scan false None (closed env z)) same) ∙ c.if-have_values.ensures refl) (refl)
