use Rattle.std.proofs.Common.{◌≡◌, sym, ap, ◌∙◌, Some, eq-eqb, eqb-true}
use Rattle.orc_tables.specs.PendingCalls.{due_of}
use Rattle.orc_tables.proofs.Placed.{got-in, in-got_at, one-call}
use Rattle.orc_tables.proofs.pending.is_due.Goals as goal

pub returns-in-None-clause-other : goal.returns-in-None-clause-other
returns-in-None-clause-other c = λ e d i n s. let at = in-got_at c.args.items.now.items d i in c.in-None.ensures.none c.requires at.0 d at.1 n

pub returns-in-None-due_of-clause-other : goal.returns-in-None-due_of-clause-other
returns-in-None-due_of-clause-other c = λ e d i n s.
    let spot = c.in-Some.spot in
    let same : d ≡ spot.call = one-call c.args.items.now.items c.args.places.now.items spot.place d spot.call c.requires i c.in-Some.ensures.found.0 (n ∙ sym c.in-Some.ensures.found.1) in
    cc (sym s ∙ ap due_of same ∙ sym c.due_of.ensures ∙ c.in-None-due_of.is)

pub returns-in-Some-due_of-clause-due : goal.returns-in-Some-due_of-clause-due
returns-in-Some-due_of-clause-due c = λ e.
    let spot = c.in-Some.spot in
    (spot.call, got-in c.args.items.now.items spot.place spot.call c.in-Some.ensures.found.0, c.in-Some.ensures.found.1, sym c.due_of.ensures ∙ c.in-Some-due_of.is ∙ ap Some (eqb-true c.in-Some-due_of.due c.args.time e))

pub returns-in-Some-due_of-clause-other : goal.returns-in-Some-due_of-clause-other
returns-in-Some-due_of-clause-other c = λ e d i n s.
    let spot = c.in-Some.spot in
    let same : d ≡ spot.call = one-call c.args.items.now.items c.args.places.now.items spot.place d spot.call c.requires i c.in-Some.ensures.found.0 (n ∙ sym c.in-Some.ensures.found.1) in
    let time : c.in-Some-due_of.due ≡ c.args.time = cc (sym c.in-Some-due_of.is, c.due_of.ensures, ap due_of same, s) in
    cc (sym e ∙ eq-eqb c.in-Some-due_of.due c.args.time time)
