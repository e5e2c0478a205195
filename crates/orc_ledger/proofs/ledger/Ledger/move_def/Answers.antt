use Rattle.std.proofs.Common.{ap, sym, refl, ◌∙◌}
use Rattle.std.specs.Prelude.{slice_get, option_map}
use Rattle.orc_rules.specs.Nodes.{Listing, Routine}
use Rattle.orc_frames.specs.declared.action.Action.TheVariants.{Def, Wait}
use Rattle.std.proofs.lemmas.Result.{err_from_is_err_and}
use Rattle.orc_frames.proofs.Forms.{defined, undefined}
use Rattle.orc_ledger_spec.proofs.Advancing.{word-call, moves-by, hindered-by}
use Rattle.orc_ledger.proofs.ledger.Ledger.move_def.Goals as goal

pub returns-in-None-clause-done : goal.returns-in-None-clause-done
returns-in-None-clause-done g c ks =
    let l = g.P.Run.listing in
    let a = c.args in
    moves-by l a.self.now a.token a.slot _ _ ks (Wait 0) (word-call l a.self.now a.token a.scope a.definition _ c.requires.at ∙ undefined l a.definition (ap (λ (z : Listing). option_map (λ (r : Routine). r.body) (slice_get z.routines a.definition)) (sym c.args.inputs.now.its_graph) ∙ sym c.in-None.ensures)) (refl)

pub returns-then-branch-clause-done : goal.returns-then-branch-clause-done
returns-then-branch-clause-done g c ks =
    let l = g.P.Run.listing in
    let a = c.args in
    moves-by l a.self.now a.token a.slot _ _ ks Def (word-call l a.self.now a.token a.scope a.definition _ c.requires.at ∙ defined l a.definition _ (ap (λ (z : Listing). option_map (λ (r : Routine). r.body) (slice_get z.routines a.definition)) (sym c.args.inputs.now.its_graph) ∙ sym c.in-Some.ensures)) (record { scope = a.scope; definition = a.definition; list = a.list; at = c.requires.at; done = c.in_ok-def-in-Some.ensures.done c.if-branch.true; held = c.in_ok-def-in-Some.ensures.held c.if-branch.true })

pub returns-else-branch-clause-done : goal.returns-else-branch-clause-done
returns-else-branch-clause-done g c ks =
    let l = g.P.Run.listing in
    let a = c.args in
    moves-by l a.self.now a.token a.slot _ _ ks Def (word-call l a.self.now a.token a.scope a.definition _ c.requires.at ∙ defined l a.definition _ (ap (λ (z : Listing). option_map (λ (r : Routine). r.body) (slice_get z.routines a.definition)) (sym c.args.inputs.now.its_graph) ∙ sym c.in-Some.ensures)) (record { scope = a.scope; definition = a.definition; list = a.list; at = c.requires.at; undone = c.in_ok-def-in-Some.ensures.undone c.if-branch.false; same = c.in_ok-def-in-Some.ensures.same c.if-branch.false })

pub returns-in_err-def-in-Some-clause-why : goal.returns-in_err-def-in-Some-clause-why
returns-in_err-def-in-Some-clause-why g c =
    let l = g.P.Run.listing in
    let a = c.args in
    let p = err_from_is_err_and c.from_residual.result c.from_residual.ensures.1 in
    rw (p.1, p.2) (hindered-by l a.self.now a.token _ Def (word-call l a.self.now a.token a.scope a.definition _ c.requires.at ∙ defined l a.definition _ (ap (λ (z : Listing). option_map (λ (r : Routine). r.body) (slice_get z.routines a.definition)) (sym c.args.inputs.now.its_graph) ∙ sym c.in-Some.ensures)) c.in_err-def-in-Some.ensures.why)
