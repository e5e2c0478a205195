use Rattle.std.proofs.Common.{refl, sym, ◌≡◌, ◌∷◌, ◌++◌, [], ap, ◌∙◌, length, suc, ◌+◌, subst, arith, length-append}
use Rattle.std.specs.Prelude.{◌&&◌}
use Rattle.std.proofs.lemmas.Bool.{ne_eqb}
use Rattle.orc_rules.specs.Nodes.{code, unfold_node}
use Rattle.orc_env.specs.declared.names.Bound.TheVariants.{Cell}
use Rattle.orc_env.specs.declared.names.Scope.{Scope}
use Rattle.orc_term.specs.declared.arena.Tip.TheVariants.{Token}
use Rattle.orc_term.specs.declared.arena.Kind.TheVariants.{Leaf}
use Rattle.orc_checker.specs.Checker.{State}
use Rattle.orc_term.specs.Halting.{halt_flag}
use Rattle.orc_term.specs.Settling.{Settles}
use Rattle.orc_term.proofs.Trees.{node}
use Rattle.orc_checker.proofs.Opening.{open-enters}
use Rattle.orc_checker.proofs.Answering.{set_two, two_more}
use Rattle.orc_term.proofs.Hints.{can_rest}
use Rattle.orc_term.specs.declared.arena.Node.{Node}
use Rattle.orc_checker.specs.NextDue.{waits}
use Rattle.orc_term.specs.Sides.{is_side}
use Rattle.orc_checker.proofs.Noting.{still_noted, same_wait, wait_on, wait_written, wait_more}
use Rattle.orc_term.proofs.KeptSides.{known_two, sides_two, length_two}
use Rattle.orc_checker.specs.Index.{name_of}
use Rattle.orc_checker.proofs.Indexed.{get_grown, get_last, indexed_two, opened_put}
use Rattle.std.proofs.lemmas.Result.{err_from_is_err_and}
use Rattle.orc_rules.specs.declared.entry.Entry.TheVariants as entry
use Rattle.orc_checker.proofs.Refusing.{HasSort, after_refused, asks_open, cell_refused, mark_refused, prune_node, refused_for, sort_refused, spot_refused}
use Rattle.orc_checker.proofs.marked.Marked.open.Goals as goal

pub returns-clause-done : goal.returns-clause-done
returns-clause-done c =
    let terms = code c.args.program.now in
    let t = c.in_ok-spot.spot in
    let v = c.self.view_is in
    let k = c.in-Prune in
    let next = c.in_ok-expect_mark.ensures.next in
    let b_is : c.args.b ≡ suc c.args.a = c.in_ok-expect_after.ensures.next in
    let s = c.args.self.now in
    let scopes = c.push_within.ensures.items ∙ ap (λ (z : Scope). c.reserve_cell.new.scopes.items ++ z ∷ []) c.new.ensures ∙ ap (λ z. z ++ record { name = k.x; bound = Cell c.args.c; outer = t.scope } ∷ []) (c.reserve_cell.ensures.scopes ∙ ap State.scopes v) in
    let inner : c.scope_count.result ≡ suc (length s.scopes) = omega (arith, c.scope_count.ensures, ap length scopes, length-append s.scopes (record { name = k.x; bound = Cell c.args.c; outer = t.scope } ∷ [])) in
    let left = halt_flag s.halts k.f in
    let right = halt_flag s.halts k.g in
    let is_left : c.at-left.result ≡ left = c.at-left.ensures ∙ ap (λ (z : State). halt_flag z.halts k.f) v in
    let is_right : c.at-right.result ≡ right = c.at-right.ensures ∙ ap (λ (z : State). halt_flag z.halts k.g) v in
    let flags : c.push_flag-2.new.flags.items ≡ (s.flags ++ left ∷ []) ++ right ∷ [] = c.push_flag-2.ensures.items ∙ (λ j. (c.push_flag.ensures.items ∙ (λ j. (c.reserve_numbered.ensures.flags ∙ ap State.flags v) j ++ is_left j ∷ [])) j ++ is_right j ∷ []) in
    open-enters terms s _ t.at t.parent c.args.s t.node t.scope c.in_ok-spot.ensures.there c.next_number-n.result c.args.c c.args.a c.args.b k.f k.x k.g
    (c.node.ensures.term ∙ ap (unfold_node terms c.args.program.now.lists) k.is)
    (c.next_number-n.ensures.count ∙ ap length (c.reserve_numbered.ensures.nodes ∙ ap State.nodes v))
    c.in_ok-expect_cell.ensures.next
    next
    b_is
    (set_two s.nodes _ _ _ t.at _ _ _ _ _ (c.reserve_numbered.ensures.nodes ∙ ap State.nodes v) (c.push_within-3.ensures.items ∙ ap (λ z. z ++ c.token_node.result ∷ []) c.write_node.ensures.items) c.push_within-4.ensures.items (c.token_node.ensures ∙ ap (λ z. node (Leaf (Token c.args.a k.f z)) t.at) inner) c.token_node-2.ensures)
    scopes
    (c.push_within-2.ensures.items ∙ ap (λ z. z ++ Cell c.args.c ∷ []) (c.reserve_cell.ensures.cells ∙ ap State.cells v))
    (ap State.halts v)
    (c.settle.ensures.len ∙ ap length flags)
    (subst (λ z. Settles c.push_within-4.new.self.items z t.at (left && right) c.settle.new.flags.items) flags (subst (λ z. Settles c.push_within-4.new.self.items c.push_flag-2.new.flags.items t.at z c.settle.new.flags.items) (c.both.ensures ∙ (λ j. is_left j && is_right j)) c.settle.ensures.settles))
    (two_more s.marks _ _ _ _ _ c.args.a c.args.b (c.reserve_numbered.ensures.marks ∙ ap State.marks v) c.push_within-5.ensures.items c.push_within-6.ensures.items next b_is)
    (ap State.rest v)
    c.in_ok-spot.ensures.free
    (c.push_within-4.ensures.asked ∙ c.push_within-3.ensures.asked ∙ c.write_node.ensures.asked ∙ c.reserve_numbered.ensures.asked ∙ ap State.asked v)

pub write_node-requires : goal.write_node-requires
write_node-requires c = can_rest c.args.self.now.nodes _ _ _ _ _ (c.reserve_numbered.ensures.nodes ∙ ap State.nodes c.self.view_is) c.in_ok-spot.ensures.there (λ v. refl) refl

pub invariant_of-self-2 : goal.invariant_of-self-2
invariant_of-self-2 c =
    let prunings = c.push_within-7.ensures.items ∙ ap (λ z. z ++ c.in_ok-spot.spot.at ∷ []) c.reserve_cell.ensures.prunings in
    let cells = c.push_within-2.ensures.items ∙ ap (λ z. z ++ Cell c.args.c ∷ []) c.reserve_cell.ensures.cells in (
      still_noted _ _ _ _ _
          (wait_on _ _ _ (wait_on _ _ _ (same_wait _ _ c.reserve_numbered.ensures.nodes) (wait_written _ _ _ _ c.write_node.ensures.items refl))
          (wait_on _ _ _ (wait_more _ _ _ c.push_within-3.ensures.items (ap (λ (z : Node). waits z.kind) c.token_node.ensures)) (wait_more _ _ _ c.push_within-4.ensures.items (ap (λ (z : Node). waits z.kind) c.token_node-2.ensures))))
          refl c.self.invariant.0,
      known_two _ _ _ _ _ _ _ c.self.invariant.1 (sides_two c.self.inside.nodes.items c.reserve_numbered.new.nodes.items c.in_ok-spot.spot.at _ c.reserve_numbered.ensures.nodes (can_rest c.args.self.now.nodes _ _ _ _ _ (c.reserve_numbered.ensures.nodes ∙ ap State.nodes c.self.view_is) c.in_ok-spot.ensures.there (λ v. refl) refl) (λ p lt. ne_eqb _ p (λ e. omega (arith, lt, e, c.next_number-n.ensures.count, ap length c.reserve_numbered.ensures.nodes))) _ _ _ _ (c.push_within-3.ensures.items ∙ ap (λ z. z ++ c.token_node.result ∷ []) c.write_node.ensures.items) c.push_within-4.ensures.items (λ p lt. ap (λ (z : Node). is_side z.kind p) c.token_node.ensures) (λ p lt. ap (λ (z : Node). is_side z.kind p) c.token_node-2.ensures)) c.settle.ensures.known (λ p m. c.settle.ensures.kept p (c.push_flag-2.ensures.kept p (c.push_flag.ensures.kept p m))) _ _ _ (c.push_flag-2.ensures.items ∙ ap (λ z. z ++ c.at-right.result ∷ []) (c.push_flag.ensures.items ∙ ap (λ z. z ++ c.at-left.result ∷ []) c.reserve_numbered.ensures.flags)) c.settle.ensures.len (length_two c.self.inside.nodes.items c.reserve_numbered.new.nodes.items c.in_ok-spot.spot.at _ c.reserve_numbered.ensures.nodes (can_rest c.args.self.now.nodes _ _ _ _ _ (c.reserve_numbered.ensures.nodes ∙ ap State.nodes c.self.view_is) c.in_ok-spot.ensures.there (λ v. refl) refl) (λ p lt. ne_eqb _ p (λ e. omega (arith, lt, e, c.next_number-n.ensures.count, ap length c.reserve_numbered.ensures.nodes))) _ _ _ _ (c.push_within-3.ensures.items ∙ ap (λ z. z ++ c.token_node.result ∷ []) c.write_node.ensures.items) c.push_within-4.ensures.items) (c.next_number-n.ensures.count ∙ ap length c.reserve_numbered.ensures.nodes) (λ e. c.settle.ensures.kept _ (c.push_flag-2.ensures.kept _ (c.push_flag.ensures.known e))) (λ e. c.settle.ensures.kept _ (c.push_flag-2.ensures.known e)),
      indexed_two _ _ _ _ _ _ _ _ _ _ _ _ _ _ _ _ _ _ _ _ _ c.self.invariant.2 c.reserve_numbered.ensures.nodes c.write_node.ensures.items c.push_within-3.ensures.items c.push_within-4.ensures.items (opened_put _ c.args.c c.next_number-n.result (c.next_number-n.result + 1) _ (get_last _ _ _ c.args.c prunings (c.in_ok-expect_cell.ensures.next ∙ ap (λ (z : State). length z.cells) (sym c.self.view_is) ∙ sym c.self.invariant.3)) (get_last _ _ _ c.args.c cells (c.in_ok-expect_cell.ensures.next ∙ ap (λ (z : State). length z.cells) (sym c.self.view_is)))) (ap (λ (z : Node). name_of z.kind) c.token_node.ensures) (ap (λ (z : Node). name_of z.kind) c.token_node-2.ensures) c.next_number-n.ensures.count (c.in_ok-expect_mark.ensures.next ∙ ap (λ (z : State). length z.marks) (sym c.self.view_is)) c.in_ok-expect_after.ensures.next c.reserve_numbered.ensures.marks c.push_within-5.ensures.items c.push_within-6.ensures.items (get_grown _ _ _ prunings) (λ d e. get_grown _ _ _ cells d (Cell d) e),
      omega (arith, ap length prunings, ap length cells, length-append c.self.inside.prunings.items (c.in_ok-spot.spot.at ∷ []), length-append c.self.inside.cells.items (Cell c.args.c ∷ []), c.self.invariant.3),
    )

pub returns-in_err-spot-clause-reason : goal.returns-in_err-spot-clause-reason
returns-in_err-spot-clause-reason c =
    let p = err_from_is_err_and c.from_residual.result c.from_residual.ensures.1 in
    let a = c.args in
    rw (p.1, p.2) (λ t. spot_refused a.program.now t (entry.Open a.s a.c a.a a.b) a.self.now a.s (HasSort 6) _ (asks_open a.s a.c a.a a.b) (λ v e. absurd (omega (arith, e))) c.in_err-spot.ensures.refused)

pub returns-in_default : goal.returns-in_default
returns-in_default c =
    let a = c.args in
    let t = c.in_ok-spot.spot in
    record { done = tt; refused = refl; reason = λ sites. sort_refused a.program.now sites (entry.Open a.s a.c a.a a.b) a.self.now a.s t.at t.parent t.node t.scope 6 c.node.result (asks_open a.s a.c a.a a.b) c.in_ok-spot.ensures.there c.node.ensures.term (λ e. let w = prune_node _ e in c.in_default.not-Prune w.0 w.1 w.2 w.3) }

pub returns-in_err-expect_cell-clause-reason : goal.returns-in_err-expect_cell-clause-reason
returns-in_err-expect_cell-clause-reason c =
    let p = err_from_is_err_and c.from_residual-in_err-expect_cell.result c.from_residual-in_err-expect_cell.ensures.1 in
    let a = c.args in
    rw (p.1, p.2) (λ t. let w = c.in_err-expect_cell.ensures.refused in refused_for a.program.now t (entry.Open a.s a.c a.a a.b) a.self.now _ _ w.0 (cell_refused a.program.now t (entry.Open a.s a.c a.a a.b) a.self.now a.c (λ x q h. h.0) w.1))

pub returns-in_err-expect_mark-clause-reason : goal.returns-in_err-expect_mark-clause-reason
returns-in_err-expect_mark-clause-reason c =
    let p = err_from_is_err_and c.from_residual-in_err-expect_mark.result c.from_residual-in_err-expect_mark.ensures.1 in
    let a = c.args in
    rw (p.1, p.2) (λ t. let w = c.in_err-expect_mark.ensures.refused in refused_for a.program.now t (entry.Open a.s a.c a.a a.b) a.self.now _ _ w.0 (mark_refused a.program.now t (entry.Open a.s a.c a.a a.b) a.self.now a.a (λ x q h. h.1) w.1))

pub returns-in_err-expect_after-clause-reason : goal.returns-in_err-expect_after-clause-reason
returns-in_err-expect_after-clause-reason c =
    let p = err_from_is_err_and c.from_residual-in_err-expect_after.result c.from_residual-in_err-expect_after.ensures.1 in
    let a = c.args in
    rw (p.1, p.2) (λ t. let w = c.in_err-expect_after.ensures.refused in refused_for a.program.now t (entry.Open a.s a.c a.a a.b) a.self.now _ _ w.0 (after_refused a.program.now t (entry.Open a.s a.c a.a a.b) a.self.now a.a a.b (λ x q h. h.2) w.1))
