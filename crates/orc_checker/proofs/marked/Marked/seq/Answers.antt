use Rattle.std.proofs.Common.{refl, sym, ap, ◌∙◌, ◌++◌, ◌∷◌, [], length, arith}
use Rattle.orc_rules.specs.Nodes.{code, unfold_node}
use Rattle.orc_checker.specs.Checker.{State}
use Rattle.orc_term.specs.Halting.{halt_flag}
use Rattle.orc_checker.proofs.Moves.{seq-enters}
use Rattle.orc_checker.proofs.Answering.{set_one, one_more}
use Rattle.orc_term.proofs.Hints.{can_rest}
use Rattle.orc_term.specs.declared.arena.Node.{Node}
use Rattle.orc_checker.specs.NextDue.{waits}
use Rattle.orc_term.specs.Sides.{is_side}
use Rattle.orc_checker.proofs.Noting.{still_noted, same_wait, wait_on, wait_written, wait_more}
use Rattle.orc_term.proofs.KeptSides.{known_one, flags_same, sides_one, length_one}
use Rattle.orc_checker.specs.Index.{name_of}
use Rattle.orc_checker.proofs.Indexed.{indexed_one}
use Rattle.std.proofs.lemmas.Result.{err_from_is_err_and}
use Rattle.orc_rules.specs.declared.entry.Entry.TheVariants as entry
use Rattle.orc_checker.proofs.Refusing.{HasSort, asks_seq, mark_refused, refused_for, seq_node, sort_refused, spot_refused}
use Rattle.orc_checker.proofs.marked.Marked.seq.Goals as goal

pub returns-clause-done : goal.returns-clause-done
returns-clause-done c =
    let terms = code c.args.program.now in
    let t = c.in_ok-spot.spot in
    let v = c.self.view_is in
    let k = c.in-Seq in
    let next = c.in_ok-expect_mark.ensures.next in
    seq-enters terms c.args.self.now _ t.at t.parent c.args.s t.node t.scope c.in_ok-spot.ensures.there c.next_number-n.result c.args.a k.f k.x k.g
    (c.node.ensures.term ∙ ap (unfold_node terms c.args.program.now.lists) k.is)
    (c.next_number-n.ensures.count ∙ ap length (c.reserve_numbered.ensures.nodes ∙ ap State.nodes v))
    next
    (set_one c.args.self.now.nodes _ _ t.at _ _ _ (c.reserve_numbered.ensures.nodes ∙ ap State.nodes v) (c.push_within.ensures.items ∙ ap (λ z. z ++ c.token_node.result ∷ []) c.write_node.ensures.items) c.token_node.ensures)
    (c.push_flag.ensures.items ∙ (λ j. (c.reserve_numbered.ensures.flags ∙ ap State.flags v) j ++ (c.at-halted.ensures ∙ ap (λ (z : State). halt_flag z.halts k.f) v) j ∷ []))
    (record { free = c.in_ok-spot.ensures.free; scopes = ap State.scopes v; cells = ap State.cells v; marks = one_more c.args.self.now.marks _ _ _ c.args.a (c.reserve_numbered.ensures.marks ∙ ap State.marks v) c.push_within-2.ensures.items next; rest = ap State.rest v; halts = ap State.halts v; asked = c.push_within.ensures.asked ∙ c.write_node.ensures.asked ∙ c.reserve_numbered.ensures.asked ∙ ap State.asked v })

pub write_node-requires : goal.write_node-requires
write_node-requires c = can_rest c.args.self.now.nodes _ _ _ _ _ (c.reserve_numbered.ensures.nodes ∙ ap State.nodes c.self.view_is) c.in_ok-spot.ensures.there (λ v. refl) refl

pub invariant_of-self-2 : goal.invariant_of-self-2
invariant_of-self-2 c = (
  still_noted _ _ _ _ _
      (wait_on _ _ _ (wait_on _ _ _ (same_wait _ _ c.reserve_numbered.ensures.nodes) (wait_written _ _ _ _ c.write_node.ensures.items refl)) (wait_more _ _ _ c.push_within.ensures.items (ap (λ (z : Node). waits z.kind) c.token_node.ensures)))
      refl c.self.invariant.0,
  known_one _ _ _ _ _ _ _ c.self.invariant.1 (sides_one c.self.inside.nodes.items c.reserve_numbered.new.nodes.items c.in_ok-spot.spot.at _ c.reserve_numbered.ensures.nodes (can_rest c.args.self.now.nodes _ _ _ _ _ (c.reserve_numbered.ensures.nodes ∙ ap State.nodes c.self.view_is) c.in_ok-spot.ensures.there (λ v. refl) refl) (λ p lt. refl) _ _ (c.push_within.ensures.items ∙ ap (λ z. z ++ c.token_node.result ∷ []) c.write_node.ensures.items) (λ p lt. ap (λ (z : Node). is_side z.kind p) c.token_node.ensures)) (flags_same _ _ _ _ refl) c.push_flag.ensures.kept _ _ (c.push_flag.ensures.items ∙ ap (λ z. z ++ c.at-halted.result ∷ []) c.reserve_numbered.ensures.flags) refl (length_one c.self.inside.nodes.items c.reserve_numbered.new.nodes.items c.in_ok-spot.spot.at _ c.reserve_numbered.ensures.nodes (can_rest c.args.self.now.nodes _ _ _ _ _ (c.reserve_numbered.ensures.nodes ∙ ap State.nodes c.self.view_is) c.in_ok-spot.ensures.there (λ v. refl) refl) (λ p lt. refl) _ _ (c.push_within.ensures.items ∙ ap (λ z. z ++ c.token_node.result ∷ []) c.write_node.ensures.items)) (c.next_number-n.ensures.count ∙ ap length c.reserve_numbered.ensures.nodes) c.push_flag.ensures.known,
  indexed_one _ _ _ _ _ _ _ _ _ _ _ _ _ _ _ c.self.invariant.2 c.reserve_numbered.ensures.nodes c.write_node.ensures.items c.push_within.ensures.items (λ m x b e. cc e) (ap (λ (z : Node). name_of z.kind) c.token_node.ensures) c.next_number-n.ensures.count (c.in_ok-expect_mark.ensures.next ∙ ap (λ (z : State). length z.marks) (sym c.self.view_is)) c.reserve_numbered.ensures.marks c.push_within-2.ensures.items,
  c.self.invariant.3,
)

pub returns-in_err-spot-clause-reason : goal.returns-in_err-spot-clause-reason
returns-in_err-spot-clause-reason c =
    let p = err_from_is_err_and c.from_residual.result c.from_residual.ensures.1 in
    let a = c.args in
    rw (p.1, p.2) (λ t. spot_refused a.program.now t (entry.Seq a.s a.a) a.self.now a.s (HasSort 5) _ (asks_seq a.s a.a) (λ v e. absurd (omega (arith, e))) c.in_err-spot.ensures.refused)

pub returns-in_default : goal.returns-in_default
returns-in_default c =
    let a = c.args in
    let t = c.in_ok-spot.spot in
    record { done = tt; refused = refl; reason = λ sites. sort_refused a.program.now sites (entry.Seq a.s a.a) a.self.now a.s t.at t.parent t.node t.scope 5 c.node.result (asks_seq a.s a.a) c.in_ok-spot.ensures.there c.node.ensures.term (λ e. let w = seq_node _ e in c.in_default.not-Seq w.0 w.1 w.2 w.3) }

pub returns-in_err-expect_mark-clause-reason : goal.returns-in_err-expect_mark-clause-reason
returns-in_err-expect_mark-clause-reason c =
    let p = err_from_is_err_and c.from_residual-in_err-expect_mark.result c.from_residual-in_err-expect_mark.ensures.1 in
    let a = c.args in
    rw (p.1, p.2) (λ t. let w = c.in_err-expect_mark.ensures.refused in refused_for a.program.now t (entry.Seq a.s a.a) a.self.now _ _ w.0 (mark_refused a.program.now t (entry.Seq a.s a.a) a.self.now a.a (λ x q h. h) w.1))
