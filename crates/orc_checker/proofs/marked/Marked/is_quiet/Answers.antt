use Rattle.std.proofs.Common.{◌≡◌, ◌∙◌, Bool, true, false, not, ap, sym, subst, refl, None}
use Rattle.orc_rules.specs.Journal.{moment}
use Rattle.orc_rules.specs.Marked.{erase}
use Rattle.orc_rules.specs.Pending.{IsNextDue}
use Rattle.orc_rules.specs.Nodes.{code}
use Rattle.orc_checker.specs.Checker.{Spells}
use Rattle.orc_checker.proofs.marked.Marked.is_quiet.Goals as goal

of_not : (b : Bool) → not b ≡ true → b ≡ false
of_not true h = cc h
of_not false h = refl

pub returns-then-has_halted-clause-quiet : goal.returns-then-has_halted-clause-quiet
returns-then-has_halted-clause-quiet c x p own sp =
    let halted = (c.tests_are_right.ensures.halted (erase p.marked)).1 (sym (c.has_halted.ensures x c.args.program.now p sp) ∙ c.if-has_halted.true) in (
      λ no. absurd (cc no),
      λ quiet. absurd (quiet.running halted),
    )

pub returns-in-Some-clause-quiet : goal.returns-in-Some-clause-quiet
returns-in-Some-clause-quiet c x p own sp =
    let law = c.tests_are_right.ensures.quiet x (moment p) c.next_due.result (c.next_due.ensures.next x c.args.program.now p sp) in (
      λ no. absurd (cc no),
      λ quiet. absurd (cc (sym c.in-Some.is ∙ (law.0 quiet).2)),
    )

pub returns-in-None-clause-quiet : goal.returns-in-None-clause-quiet
returns-in-None-clause-quiet c x p own sp =
    let l = c.args.program.now in
    let next = subst (IsNextDue x (moment p)) c.in-None.is (c.next_due.ensures.next x l p sp) in
    let running = sym (c.has_halted.ensures x l p sp) ∙ c.if-has_halted.false in
    let moves = c.can_move.ensures.moves x p own (subst (λ z. Spells x (code l) z p) (sym c.next_due.ensures.same) sp) in
    let law = c.tests_are_right.ensures.quiet x (moment p) None next in (
      λ still. law.1 (running, sym moves ∙ of_not c.can_move.result still, refl),
      λ quiet. ap not (moves ∙ (law.0 quiet).1),
    )
