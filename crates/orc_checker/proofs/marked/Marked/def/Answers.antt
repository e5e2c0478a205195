use Rattle.std.proofs.Common.{rules, ◌≡◌, sym, refl, ap, ◌∙◌, length, subst, [], ◌++◌, length-set, arith, None}
use Rattle.std.specs.Prelude.{IfNone, slice_get, slice_set, slice_index_or}
use Rattle.orc_rules.specs.Nodes.{code, unfold_node, definition_of, definitions}
use Rattle.orc_rules.specs.Programs.{routine_of}
use Rattle.orc_term.specs.declared.arena.Kind.TheVariants.{Leaf}
use Rattle.orc_term.specs.declared.arena.Tip.TheVariants.{Token}
use Rattle.orc_term.specs.Settling.{Settles}
use Rattle.orc_term.specs.Halting.{halt_flag}
use Rattle.orc_env.specs.Parameters.{Adds}
use Rattle.orc_checker.specs.Parameters.{LacksArguments}
use Rattle.orc_checker.specs.Checker.{State, context}
use Rattle.orc_term.proofs.Trees.{node}
use Rattle.orc_checker.proofs.Answering.{one_more}
use Rattle.orc_checker.proofs.Defining.{def-enters}
use Rattle.orc_term.proofs.Hints.{can_wake}
use Rattle.orc_checker.proofs.Noting.{still_noted, same_wait, wait_on, wait_written}
use Rattle.orc_term.proofs.KeptSides.{known_kept, sides_on, sides_same, sides_woken}
use Rattle.orc_checker.proofs.Indexed.{indexed_token}
use Rattle.std.proofs.lemmas.Result.{err_from_is_err_and}
use Rattle.orc_rules.specs.declared.entry.Entry.TheVariants as entry
use Rattle.orc_checker.proofs.Arguments.{arguments_refused, undefined_refused}
use Rattle.orc_checker.proofs.Refusing.{HasSort, asks_def, call_node, mark_refused, refused_for, sort_refused, spot_refused}
use Rattle.orc_checker.proofs.marked.Marked.def.Goals as goal

pub returns-clause-done : goal.returns-clause-done
returns-clause-done c = λ table cancels p reached.
    let l = c.args.program.now in
    let t = c.in_ok-spot.spot in
    let v = c.self.view_is in
    let s = c.args.self.now in
    let d = c.in-Some.called.now in
    let n = c.in_ok-added.scope in
    let more = c.in_ok-added.added.items in
    let ps = slice_index_or l.lists c.in-Call.list [] in
    let halted : c.at-halted.result ≡ halt_flag s.halts d.body = c.at-halted.ensures ∙ ap (λ (z : State). halt_flag z.halts d.body) v in
    def-enters (code l) s _ t.at t.parent c.args.s t.node t.scope c.in_ok-spot.ensures.there (context l table cancels) (definition_of l (routine_of d)) c.in-Call.number c.args.a d.body n ps more
    (c.node.ensures.term ∙ ap (unfold_node (code l) l.lists) c.in-Call.is)
    c.in-Some.ensures.there
    refl
    c.in_ok-expect_mark.ensures.next
    (subst (λ z. Adds s.cells s.scopes t.scope d.params.items z more n) c.operands-operands.ensures.value
    (subst (λ (z : State). Adds z.cells z.scopes t.scope d.params.items c.operands-operands.result.now more n) v
    (subst (λ ss. Adds c.self.inside.cells.items ss t.scope d.params.items c.operands-operands.result.now more n) c.deref.ensures.value
    (subst (λ cs. Adds cs c.deref.result.now t.scope d.params.items c.operands-operands.result.now more n) c.deref-2.ensures.value
    (subst (λ z. Adds c.deref-2.result.now c.deref.result.now t.scope z c.operands-operands.result.now more n) c.deref-3.ensures.value c.in_ok-added.ensures.added)))))
    (c.wake.ensures.items ∙ ap (λ z. slice_set z t.at (node (Leaf (Token c.args.a d.body n)) t.parent)) (c.reserve_wake.ensures.nodes ∙ ap State.nodes v))
    (c.settle.ensures.len ∙ ap (λ (z : State). length z.flags) v)
    (subst (λ (z : State). Settles c.wake.new.self.items z.flags t.at (halt_flag s.halts d.body) c.settle.new.flags.items) v (subst (λ b. Settles c.wake.new.self.items c.self.inside.flags.items t.at b c.settle.new.flags.items) halted c.settle.ensures.settles))
    (c.in_ok-extend_scopes.ensures.items ∙ ap (λ z. z ++ more) (ap State.scopes v))
    (ap State.cells v)
    (ap State.halts v)
    (one_more s.marks _ _ _ c.args.a (c.reserve_wake.ensures.marks ∙ ap State.marks v) c.push_within.ensures.items c.in_ok-expect_mark.ensures.next)
    (ap State.rest v)
    c.in_ok-spot.ensures.free
    (c.wake.ensures.asked ∙ c.reserve_wake.ensures.asked ∙ ap State.asked v)
    p

pub wake-requires : goal.wake-requires
wake-requires c = record { room = search rules; node = can_wake c.args.self.now.nodes _ _ _ _ _ (c.reserve_wake.ensures.nodes ∙ ap State.nodes c.self.view_is) c.in_ok-spot.ensures.there (λ v. refl) }

pub invariant_of-self-2 : goal.invariant_of-self-2
invariant_of-self-2 c = (
  still_noted _ _ _ _ _ (wait_on _ _ _ (same_wait _ _ c.reserve_wake.ensures.nodes) (wait_written _ _ _ _ c.wake.ensures.items refl)) refl c.self.invariant.0,
  known_kept _ _ _ _ _ _ _ c.self.invariant.1 (sides_on (length c.self.inside.nodes.items) _ _ _ (sides_same (length c.self.inside.nodes.items) _ _ c.reserve_wake.ensures.nodes) (sides_woken (length c.self.inside.nodes.items) _ _ _ _ c.wake.ensures.items (can_wake c.args.self.now.nodes _ _ _ _ _ (c.reserve_wake.ensures.nodes ∙ ap State.nodes c.self.view_is) c.in_ok-spot.ensures.there (λ v. refl)) (λ p lt. refl))) c.settle.ensures.known c.settle.ensures.kept refl c.settle.ensures.len (ap length c.wake.ensures.items ∙ length-set c.reserve_wake.new.nodes.items _ _ ∙ ap length c.reserve_wake.ensures.nodes),
  indexed_token _ _ _ _ _ _ _ _ _ _ _ _ c.self.invariant.2 c.reserve_wake.ensures.nodes c.wake.ensures.items refl (c.in_ok-expect_mark.ensures.next ∙ ap (λ (z : State). length z.marks) (sym c.self.view_is)) c.reserve_wake.ensures.marks c.push_within.ensures.items,
  c.self.invariant.3,
)

pub returns-in_err-spot-clause-reason : goal.returns-in_err-spot-clause-reason
returns-in_err-spot-clause-reason c =
    let p = err_from_is_err_and c.from_residual.result c.from_residual.ensures.1 in
    let a = c.args in
    rw (p.1, p.2) (λ t closed. spot_refused a.program.now t (entry.Def a.s a.a) a.self.now a.s (HasSort 3) _ (asks_def a.s a.a) (λ v e. absurd (omega (arith, e))) c.in_err-spot.ensures.refused)

pub returns-in_default : goal.returns-in_default
returns-in_default c =
    let a = c.args in
    let o = c.in_ok-spot.spot in
    record { done = tt; refused = refl; reason = λ t closed. sort_refused a.program.now t (entry.Def a.s a.a) a.self.now a.s o.at o.parent o.node o.scope 3 c.node.result (asks_def a.s a.a) c.in_ok-spot.ensures.there c.node.ensures.term (λ e. let w = call_node _ e in c.in_default.not-Call w.0 w.1 w.2) }

pub returns-in_err-expect_mark-clause-reason : goal.returns-in_err-expect_mark-clause-reason
returns-in_err-expect_mark-clause-reason c =
    let p = err_from_is_err_and c.from_residual-in_err-expect_mark.result c.from_residual-in_err-expect_mark.ensures.1 in
    let a = c.args in
    rw (p.1, p.2) (λ t closed. let w = c.in_err-expect_mark.ensures.refused in refused_for a.program.now t (entry.Def a.s a.a) a.self.now _ _ w.0 (mark_refused a.program.now t (entry.Def a.s a.a) a.self.now a.a (λ x q h. h) w.1))

pub returns-in_default-definition-clause-reason : goal.returns-in_default-definition-clause-reason
returns-in_default-definition-clause-reason c t closed =
    let a = c.args in
    let l = a.program.now in
    let o = c.in_ok-spot.spot in
    undefined_refused l t a.self.now a.s a.a o.parent o.at o.node o.scope c.in-Call.number (slice_index_or l.lists c.in-Call.list []) c.in_ok-spot.ensures.there
    (c.node.ensures.term ∙ ap (unfold_node (code l) l.lists) c.in-Call.is)
    (subst (λ d. IfNone d (slice_get (definitions l) c.in-Call.number ≡ None)) c.in_default-definition.is c.definition.ensures.none)

pub returns-in_err-added-clause-reason : goal.returns-in_err-added-clause-reason
returns-in_err-added-clause-reason c =
    let p = err_from_is_err_and c.from_residual-in_err-added.result c.from_residual-in_err-added.ensures.1 in
    let a = c.args in
    let l = a.program.now in
    let o = c.in_ok-spot.spot in
    let s = a.self.now in
    let d = c.in-Some.called.now in
    let why = c.in_err-added.field-0.0 in
    rw (p.1, p.2) (λ t closed.
    arguments_refused l t s a.s a.a o.parent o.at o.node o.scope c.in-Call.number (slice_index_or l.lists c.in-Call.list []) c.in_ok-spot.ensures.there
    (c.node.ensures.term ∙ ap (unfold_node (code l) l.lists) c.in-Call.is)
    (definition_of l (routine_of d)) why closed c.in-Some.ensures.there
    (subst (λ z. LacksArguments s.cells s.scopes o.scope d.params.items z why) c.operands-operands.ensures.value
    (subst (λ (z : State). LacksArguments z.cells z.scopes o.scope d.params.items c.operands-operands.result.now why) c.self.view_is
    (subst (λ ss. LacksArguments c.self.inside.cells.items ss o.scope d.params.items c.operands-operands.result.now why) c.deref.ensures.value
    (subst (λ cs. LacksArguments cs c.deref.result.now o.scope d.params.items c.operands-operands.result.now why) c.deref-2.ensures.value
    (subst (λ z. LacksArguments c.deref-2.result.now c.deref.result.now o.scope z c.operands-operands.result.now why) c.deref-3.ensures.value c.in_err-added.ensures.refused))))))
