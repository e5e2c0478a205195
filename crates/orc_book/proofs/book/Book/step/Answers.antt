use Rattle.std.proofs.Common.{◌≡◌, ◌++◌, ◌∷◌, [], ap, sym, ◌∙◌, refl, subst, inl, inr, true, OnOk}
use Rattle.orc_rules.specs.Nodes.{code, definitions}
use Rattle.orc_ledger_spec.specs.Doing.{what_of}
use Rattle.orc_book.specs.Refusals.{is_end, is_fork, is_onward, is_other, is_prune, is_send}
use Rattle.orc_book.specs.Held.{AreBorn}
use Rattle.orc_book.specs.Stepping.{HasSpent, HasStepped, HaveCome, Lent, SpendsIdle}
use Rattle.orc_book.proofs.Spent.{end-spent, fork-spent, ok-all, ok-of, ok-on, ok-with, on-spent, other-spent, prune-spent, send-spent}
use Rattle.orc_book.proofs.Added.{none-born, none-left}
use Rattle.orc_book.proofs.Causes.{weaker-err}
use Rattle.orc_book.proofs.book.Book.step.Goals as goal

pub returns-in-Halt-clause-born : goal.returns-in-Halt-clause-born
returns-in-Halt-clause-born g c = none-born c.step_end.result _ _ c.step_end.new.self (ap (λ z. z.items) c.step_end.ensures.born ∙ c.reserve.ensures.born)

pub returns-in-Seq-clause-leave : goal.returns-in-Seq-clause-leave
returns-in-Seq-clause-leave g c = none-left c.step_on.result _ _ (ap (λ z. z.items) c.step_on.ensures.leave ∙ c.reserve.ensures.leave)

pub returns-in-Fork-clause-leave : goal.returns-in-Fork-clause-leave
returns-in-Fork-clause-leave g c = none-left c.step_fork.result _ _ (ap (λ z. z.items) c.step_fork.ensures.leave ∙ c.reserve.ensures.leave)

pub returns-in-Prune-clause-leave : goal.returns-in-Prune-clause-leave
returns-in-Prune-clause-leave g c = none-left c.step_prune.result _ _ (ap (λ z. z.items) c.step_prune.ensures.leave ∙ c.reserve.ensures.leave)

pub returns-in-Other-clause-leave : goal.returns-in-Other-clause-leave
returns-in-Other-clause-leave g c = none-left c.step_other.result _ _ (ap (λ z. z.items) c.step_other.ensures.leave ∙ c.reserve.ensures.leave)

pub returns-in-Halt-clause-done : goal.returns-in-Halt-clause-done
returns-in-Halt-clause-done g c = subst (λ z. OnOk c.step_end.result (HasStepped g.P.Run.listing c.args.self.now c.args.token z c.step_end.new.out.born.items c.step_end.new.self)) c.reserve.ensures.born c.step_end.ensures.done

pub returns-in-Seq-clause-done : goal.returns-in-Seq-clause-done
returns-in-Seq-clause-done g c = subst (λ z. OnOk c.step_on.result (HasStepped g.P.Run.listing c.args.self.now c.args.token z c.step_on.new.out.born.items c.step_on.new.self)) c.reserve.ensures.born c.step_on.ensures.done

pub returns-in-Fork-clause-done : goal.returns-in-Fork-clause-done
returns-in-Fork-clause-done g c = subst (λ z. OnOk c.step_fork.result (HasStepped g.P.Run.listing c.args.self.now c.args.token z c.step_fork.new.out.born.items c.step_fork.new.self)) c.reserve.ensures.born c.step_fork.ensures.done

pub returns-in-Prune-clause-done : goal.returns-in-Prune-clause-done
returns-in-Prune-clause-done g c = subst (λ z. OnOk c.step_prune.result (HasStepped g.P.Run.listing c.args.self.now c.args.token z c.step_prune.new.out.born.items c.step_prune.new.self)) c.reserve.ensures.born c.step_prune.ensures.done

pub returns-in-Other-clause-done : goal.returns-in-Other-clause-done
returns-in-Other-clause-done g c = subst (λ z. OnOk c.step_other.result (HasStepped g.P.Run.listing c.args.self.now c.args.token z c.step_other.new.out.born.items c.step_other.new.self)) c.reserve.ensures.born c.step_other.ensures.done

pub returns-in-Send-clause-done : goal.returns-in-Send-clause-done
returns-in-Send-clause-done g c = subst (λ z. OnOk c.send.result (HasStepped g.P.Run.listing c.args.self.now c.args.token z c.send.new.out.born.items c.send.new.self)) c.reserve.ensures.born c.send.ensures.done

pub returns-in-Seq-clause-born : goal.returns-in-Seq-clause-born
returns-in-Seq-clause-born g c = subst (λ z. OnOk c.step_on.result (AreBorn z c.step_on.new.out.born.items c.step_on.new.self)) c.reserve.ensures.born c.step_on.ensures.born

pub returns-in-Fork-clause-born : goal.returns-in-Fork-clause-born
returns-in-Fork-clause-born g c = subst (λ z. OnOk c.step_fork.result (AreBorn z c.step_fork.new.out.born.items c.step_fork.new.self)) c.reserve.ensures.born c.step_fork.ensures.born

pub returns-in-Prune-clause-born : goal.returns-in-Prune-clause-born
returns-in-Prune-clause-born g c = subst (λ z. OnOk c.step_prune.result (AreBorn z c.step_prune.new.out.born.items c.step_prune.new.self)) c.reserve.ensures.born c.step_prune.ensures.born

pub returns-in-Other-clause-born : goal.returns-in-Other-clause-born
returns-in-Other-clause-born g c = subst (λ z. OnOk c.step_other.result (AreBorn z c.step_other.new.out.born.items c.step_other.new.self)) c.reserve.ensures.born c.step_other.ensures.born

pub returns-in-Send-clause-born : goal.returns-in-Send-clause-born
returns-in-Send-clause-born g c = subst (λ z. OnOk c.send.result (AreBorn z c.send.new.out.born.items c.send.new.self)) c.reserve.ensures.born c.send.ensures.born

pub returns-in-Halt-clause-stands : goal.returns-in-Halt-clause-stands
returns-in-Halt-clause-stands g c = inl c.step_end.ensures.stands.0

pub returns-in-Seq-clause-stands : goal.returns-in-Seq-clause-stands
returns-in-Seq-clause-stands g c = inl c.step_on.ensures.stands.0

pub returns-in-Fork-clause-stands : goal.returns-in-Fork-clause-stands
returns-in-Fork-clause-stands g c = inl c.step_fork.ensures.stands.0

pub returns-in-Send-clause-stands : goal.returns-in-Send-clause-stands
returns-in-Send-clause-stands g c = inl c.send.ensures.stands.0

pub returns-in-Seq-clause-why : goal.returns-in-Seq-clause-why
returns-in-Seq-clause-why g c = weaker-err c.step_on.result _ _ (λ r h. inr h) (c.step_on.ensures.why c.args.births.now.same.items c.args.births.now.idle.items)

pub returns-in-Halt-clause-spent : goal.returns-in-Halt-clause-spent
returns-in-Halt-clause-spent g c =
    let l = g.P.Run.listing in
    let b = c.args.self.now in
    let k = c.args.token in
    let t = c.in-Ok.found.its in
    let does : c.in-Ok.found.what ≡ what_of (code l) (definitions l) b.ledger t = c.in-Ok.ensures.found.what in
    let before : Lent = record { same = c.args.births.now.same.items; idle = c.args.births.now.idle.items; leave = c.args.out.now.leave.items } in
    let after : Lent = record { same = c.args.births.now.same.items; idle = c.args.births.now.idle.items; leave = c.step_end.new.out.leave.items } in
    let next : is_end (what_of (code l) (definitions l) b.ledger t) ≡ true = elim c.in-Halt.is [ inl e ↦ ap is_end (sym does ∙ e) | inr e ↦ ap is_end (sym does ∙ e) ] in
    ok-on c.step_end.result _ (HasSpent l b k before after c.args.out.now.born.items c.step_end.new.out.born.items) (λ e. end-spent l b k before after _ _ t c.in-Ok.ensures.found.unkept next refl refl (e ∙ ap (λ z. z ++ k.pass ∷ []) c.reserve.ensures.leave) (ap (λ z. z.items) c.step_end.ensures.born ∙ c.reserve.ensures.born)) c.step_end.ensures.left

pub returns-in-Seq-clause-spent : goal.returns-in-Seq-clause-spent
returns-in-Seq-clause-spent g c =
    let l = g.P.Run.listing in
    let b = c.args.self.now in
    let k = c.args.token in
    let t = c.in-Ok.found.its in
    let does : c.in-Ok.found.what ≡ what_of (code l) (definitions l) b.ledger t = c.in-Ok.ensures.found.what in
    let before : Lent = record { same = c.args.births.now.same.items; idle = c.args.births.now.idle.items; leave = c.args.out.now.leave.items } in
    let after : Lent = record { same = c.args.births.now.same.items; idle = c.args.births.now.idle.items; leave = c.step_on.new.out.leave.items } in
    let next : is_onward (what_of (code l) (definitions l) b.ledger t) ≡ true = elim c.in-Seq.is [ inl e ↦ ap is_onward (sym does ∙ e) | inr e ↦ ap is_onward (sym does ∙ e) ] in
    ok-on c.step_on.result _ (HasSpent l b k before after c.args.out.now.born.items c.step_on.new.out.born.items) (λ h. on-spent l b k before after _ _ t c.in-Ok.ensures.found.unkept next refl refl (ap (λ z. z.items) c.step_on.ensures.leave ∙ c.reserve.ensures.leave) (subst (λ z. HaveCome z c.step_on.new.out.born.items (k.pass ∷ [])) c.reserve.ensures.born h)) c.step_on.ensures.come

pub returns-in-Fork-clause-spent : goal.returns-in-Fork-clause-spent
returns-in-Fork-clause-spent g c =
    let l = g.P.Run.listing in
    let b = c.args.self.now in
    let k = c.args.token in
    let t = c.in-Ok.found.its in
    let does : c.in-Ok.found.what ≡ what_of (code l) (definitions l) b.ledger t = c.in-Ok.ensures.found.what in
    let before : Lent = record { same = c.args.births.now.same.items; idle = c.args.births.now.idle.items; leave = c.args.out.now.leave.items } in
    let after : Lent = record { same = c.step_fork.new.births.same.items; idle = c.step_fork.new.births.idle.items; leave = c.step_fork.new.out.leave.items } in
    ok-of c.step_fork.result _ _ (HasSpent l b k before after c.args.out.now.born.items c.step_fork.new.out.born.items) (λ s. fork-spent l b k before after _ _ t c.in-Ok.ensures.found.unkept (ap is_fork (sym does ∙ c.in-Fork.is)) (s.0, s.1, subst (λ z. HaveCome z c.step_fork.new.out.born.items (k.pass ∷ s.0 ∷ [])) c.reserve.ensures.born s.2) (ap (λ z. z.items) c.step_fork.ensures.idle) (ap (λ z. z.items) c.step_fork.ensures.leave ∙ c.reserve.ensures.leave)) c.step_fork.ensures.same

pub returns-in-Prune-clause-spent : goal.returns-in-Prune-clause-spent
returns-in-Prune-clause-spent g c =
    let l = g.P.Run.listing in
    let b = c.args.self.now in
    let k = c.args.token in
    let t = c.in-Ok.found.its in
    let does : c.in-Ok.found.what ≡ what_of (code l) (definitions l) b.ledger t = c.in-Ok.ensures.found.what in
    let before : Lent = record { same = c.args.births.now.same.items; idle = c.args.births.now.idle.items; leave = c.args.out.now.leave.items } in
    let after : Lent = record { same = c.step_prune.new.births.same.items; idle = c.step_prune.new.births.idle.items; leave = c.step_prune.new.out.leave.items } in
    ok-all c.step_prune.result _ _ _ _ _ (HasSpent l b k before after c.args.out.now.born.items c.step_prune.new.out.born.items) (λ s i h. prune-spent l b k before after _ _ t c.in-Ok.ensures.found.unkept (ap is_prune (sym does ∙ c.in-Prune.is)) s i (ap (λ z. z.items) c.step_prune.ensures.leave ∙ c.reserve.ensures.leave) (h.0, subst (λ z. HaveCome z c.step_prune.new.out.born.items (k.pass ∷ h.0 ∷ [])) c.reserve.ensures.born h.1)) c.step_prune.ensures.same c.step_prune.ensures.idle c.step_prune.ensures.come

pub returns-in-Other-clause-spent : goal.returns-in-Other-clause-spent
returns-in-Other-clause-spent g c =
    let l = g.P.Run.listing in
    let b = c.args.self.now in
    let k = c.args.token in
    let t = c.in-Ok.found.its in
    let does : c.in-Ok.found.what ≡ what_of (code l) (definitions l) b.ledger t = c.in-Ok.ensures.found.what in
    let before : Lent = record { same = c.args.births.now.same.items; idle = c.args.births.now.idle.items; leave = c.args.out.now.leave.items } in
    let after : Lent = record { same = c.step_other.new.births.same.items; idle = c.step_other.new.births.idle.items; leave = c.step_other.new.out.leave.items } in
    ok-with c.step_other.result _ _ _ (HasSpent l b k before after c.args.out.now.born.items c.step_other.new.out.born.items) (λ i h. other-spent l b k before after _ _ t c.in-Ok.ensures.found.unkept (ap is_other (sym does ∙ c.in-Other.is)) (ap (λ z. z.items) c.step_other.ensures.same) i (ap (λ z. z.items) c.step_other.ensures.leave ∙ c.reserve.ensures.leave) (h.0, subst (λ z. HaveCome z c.step_other.new.out.born.items (h.0 ∷ [])) c.reserve.ensures.born h.1)) c.step_other.ensures.idle c.step_other.ensures.come

pub returns-in-Send-clause-spent : goal.returns-in-Send-clause-spent
returns-in-Send-clause-spent g c =
    let l = g.P.Run.listing in
    let b = c.args.self.now in
    let k = c.args.token in
    let t = c.in-Ok.found.its in
    let does : c.in-Ok.found.what ≡ what_of (code l) (definitions l) b.ledger t = c.in-Ok.ensures.found.what in
    let before : Lent = record { same = c.args.births.now.same.items; idle = c.args.births.now.idle.items; leave = c.args.out.now.leave.items } in
    let after : Lent = record { same = c.send.new.births.same.items; idle = c.send.new.births.idle.items; leave = c.send.new.out.leave.items } in
    ok-of c.send.result _ _ (HasSpent l b k before after c.args.out.now.born.items c.send.new.out.born.items) (λ i. send-spent l b k before after _ _ t c.in-Ok.ensures.found.unkept (ap is_send (sym does ∙ c.in-Send.is)) (ap (λ z. z.items) c.send.ensures.same) (subst (λ z. SpendsIdle k.pass before.idle after.idle before.leave after.leave z c.send.new.out.born.items) c.reserve.ensures.born (subst (λ z. SpendsIdle k.pass before.idle after.idle z after.leave c.reserve.new.self.born.items c.send.new.out.born.items) c.reserve.ensures.leave i))) c.send.ensures.idle
