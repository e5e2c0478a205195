use Rattle.std.proofs.Common.{◌++◌, ◌∷◌, [], ap, sym, subst, ◌∙◌, length, arith, length-set, length-append, refl, rules}
use Rattle.std.specs.Prelude.{slice_set}
use Rattle.orc_term.specs.Settling.{Settles}
use Rattle.orc_term.specs.Halting.{halt_flag}
use Rattle.orc_term.specs.declared.arena.Tip.TheVariants.{Token}
use Rattle.orc_term.specs.declared.arena.Kind.TheVariants.{Leaf}
use Rattle.orc_checker.specs.Checker.{State}
use Rattle.orc_term.proofs.Trees.{node}
use Rattle.orc_checker.proofs.Resuming.{resume-enters}
use Rattle.orc_term.proofs.KeptSides.{known_kept, sides_same, sides_on, sides_woken}
use Rattle.orc_term.proofs.Hints.{can_wake}
use Rattle.orc_checker.proofs.Noting.{still_noted, same_wait, wait_on, wait_written, wait_dropped}
use Rattle.orc_checker.proofs.Indexed.{indexed_kept, indexed_token, names_dropped}
use Rattle.std.proofs.lemmas.Result.{err_from_is_err_and}
use Rattle.orc_rules.specs.declared.entry.Entry.TheVariants as entry
use Rattle.orc_rules.specs.Nodes.{code}
use Rattle.orc_checker.specs.Refusing.{NoOtherwise}
use Rattle.orc_checker.proofs.Parts.{no_otherwise}
use Rattle.orc_checker.proofs.Refusing.{lacks_refused, mark_refused, refused_for, right_refused}
use Rattle.orc_checker.proofs.marked.Marked.right.Goals as goal

pub returns-clause-done : goal.returns-clause-done
returns-clause-done c code =
    let v = c.self.view_is in
    let w = c.in_ok-otherwise in
    let o = w.otherwise in
    let s = c.args.self.now in
    resume-enters code s _ o.at o.parent c.args.s o.left o.node o.scope c.args.a c.in_ok-side.side.items c.wake.new.self.items w.ensures.there (sym c.part_has_halted.ensures ∙ c.if-not-part_has_halted.false)
    (record {
      free = w.ensures.free;
      next = c.in_ok-expect_mark.ensures.next;
      all = c.in_ok-side.ensures.nodes;
      nodes = c.wake.ensures.items ∙ ap (λ z. slice_set z o.at (node (Leaf (Token c.args.a o.node o.scope)) o.parent)) (c.reserve_wake.ensures.nodes ∙ ap State.nodes v);
      dropped = c.drop_nodes.ensures.dropped;
      len = c.drop_nodes.ensures.len ∙ ap length c.wake.ensures.items ∙ length-set c.reserve_wake.new.nodes.items o.at _ ∙ ap length (c.reserve_wake.ensures.nodes ∙ ap State.nodes v);
      scopes = ap State.scopes v;
      cells = ap State.cells v;
      marks = omega (arith, ap length (c.push_within.ensures.items ∙ ap (λ z. z ++ o.at ∷ []) (c.reserve_wake.ensures.marks ∙ ap State.marks v)), length-append s.marks (o.at ∷ []));
      halts = ap State.halts v;
      asked = c.drop_nodes.ensures.asked ∙ c.wake.ensures.asked ∙ c.reserve_wake.ensures.asked ∙ ap State.asked v;
      rest = ap State.rest v;
      flags_len = c.settle.ensures.len ∙ ap length (ap State.flags v);
      settles = subst (λ z. Settles c.drop_nodes.new.nodes.items z o.at (halt_flag s.halts o.node) c.settle.new.flags.items) (ap State.flags v)
          (subst (λ b. Settles c.drop_nodes.new.nodes.items c.self.inside.flags.items o.at b c.settle.new.flags.items) (c.at-halted.ensures ∙ ap (λ (z : State). halt_flag z.halts o.node) v) c.settle.ensures.settles);
    })

pub wake-requires : goal.wake-requires
wake-requires c = record { room = search rules; node = can_wake c.args.self.now.nodes _ _ _ _ _ (c.reserve_wake.ensures.nodes ∙ ap State.nodes c.self.view_is) c.in_ok-otherwise.ensures.there (λ v. refl) }

pub invariant_of-self-2 : goal.invariant_of-self-2
invariant_of-self-2 c =
    let n = length c.self.inside.nodes.items in
    let can = can_wake c.args.self.now.nodes _ _ _ _ _ (c.reserve_wake.ensures.nodes ∙ ap State.nodes c.self.view_is) c.in_ok-otherwise.ensures.there (λ v. refl) in (
      still_noted _ _ _ _ _ (wait_on _ _ _ (same_wait _ _ c.reserve_wake.ensures.nodes) (wait_on _ _ _ (wait_written _ _ _ _ c.wake.ensures.items refl) (wait_dropped _ _ _ c.drop_nodes.ensures.dropped))) refl c.self.invariant.0,
      known_kept _ _ _ _ _ _ _ c.self.invariant.1 (sides_on n _ _ _ (sides_same n _ _ c.reserve_wake.ensures.nodes) (sides_on n _ _ _ (sides_woken n _ _ _ _ c.wake.ensures.items can (λ p lt. refl)) (c.drop_nodes.ensures.sides n))) c.settle.ensures.known c.settle.ensures.kept refl c.settle.ensures.len
          (c.drop_nodes.ensures.len ∙ ap length c.wake.ensures.items ∙ length-set c.reserve_wake.new.nodes.items _ _ ∙ ap length c.reserve_wake.ensures.nodes),
      indexed_kept _ _ _ (indexed_token _ _ _ _ _ _ _ _ _ _ _ _ c.self.invariant.2 c.reserve_wake.ensures.nodes c.wake.ensures.items refl (c.in_ok-expect_mark.ensures.next ∙ ap (λ (z : State). length z.marks) (sym c.self.view_is)) c.reserve_wake.ensures.marks c.push_within.ensures.items) (names_dropped _ _ _ _ c.drop_nodes.ensures.dropped),
      c.self.invariant.3,
    )

pub returns-in_err-otherwise-clause-reason : goal.returns-in_err-otherwise-clause-reason
returns-in_err-otherwise-clause-reason c =
    let p = err_from_is_err_and c.from_residual.result c.from_residual.ensures.1 in
    let a = c.args in
    rw (p.1, p.2) (λ l t. lacks_refused l t (entry.Right a.s a.a) a.self.now (NoOtherwise a.self.now.nodes a.s) _ c.in_err-otherwise.ensures.refused (λ x q h. h) (λ x q sp h none. no_otherwise x (code l) a.self.now q sp a.s none h))

pub returns-in_err-expect_mark-clause-reason : goal.returns-in_err-expect_mark-clause-reason
returns-in_err-expect_mark-clause-reason c =
    let p = err_from_is_err_and c.from_residual-in_err-expect_mark.result c.from_residual-in_err-expect_mark.ensures.1 in
    let a = c.args in
    rw (p.1, p.2) (λ l t. let w = c.in_err-expect_mark.ensures.refused in refused_for l t (entry.Right a.s a.a) a.self.now _ _ w.0 (mark_refused l t (entry.Right a.s a.a) a.self.now a.a (λ x q h. h) w.1))

pub returns-then-not-part_has_halted-clause-reason : goal.returns-then-not-part_has_halted-clause-reason
returns-then-not-part_has_halted-clause-reason c l t =
    let o = c.in_ok-otherwise.otherwise in
    right_refused l t c.args.self.now c.args.s c.args.a o.parent o.at o.left o.node o.scope c.in_ok-otherwise.ensures.there (sym c.part_has_halted.ensures ∙ c.if-not-part_has_halted.true)
