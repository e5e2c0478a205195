use Rattle.std.proofs.Common.{◌≡◌, ℕ, sym, ap, ◌∙◌, subst, ⊎_elim, arith, cond, eq-eqb}
use Rattle.orc_rules.specs.Timed.{IsIn}
use Rattle.orc_indexes.specs.Same.{weight}
use Rattle.orc_tables.specs.PendingCalls.{has_number}
use Rattle.orc_tables.specs.PendingCalls.{Pendings}
use Rattle.orc_tables.specs.declared.records.Call.{Call}
use Rattle.orc_indexes.proofs.Weight.{weight-in}
use Rattle.orc_tables.proofs.Placed.{same_some, one-call, none-there, none-taken, one-taken, got-in}
use Rattle.orc_tables.proofs.pending.Pending.take.Goals as goal

pub invariant_of-self : goal.invariant_of-self
invariant_of-self c =
    (c.remove_at-call.ensures.placed, λ e i t due. ⊎_elim (λ a. a) (λ b. absurd ((c.remove_at-call.ensures.others e i).1 b)) (c.forget.ensures t e.number (c.self.invariant.1 e (c.remove_at-call.ensures.others e i).0 t due)))

pub returns-in-None-clause-taken : goal.returns-in-None-clause-taken
returns-in-None-clause-taken c =
    let b = c.self.inside in
    none-taken c.args.number c.args.self.now.items (ap (λ (p : Pendings). weight (has_number c.args.number) p.items) (sym c.self.view_is) ∙ none-there c.args.number b.items.items (c.in-None.ensures.none c.self.invariant.0))

pub returns-in-None-clause-call : goal.returns-in-None-clause-call
returns-in-None-clause-call c =
    let b = c.self.inside in
    ap (λ (p : Pendings). weight (has_number c.args.number) p.items) (sym c.self.view_is) ∙ none-there c.args.number b.items.items (c.in-None.ensures.none c.self.invariant.0)

pub returns-in-Some-clause-taken : goal.returns-in-Some-clause-taken
returns-in-Some-clause-taken c =
    let call = c.remove_at-call.result in
    let same : call ≡ c.in-Some.spot.call = same_some call c.in-Some.spot.call (sym c.remove_at-call.ensures.call ∙ c.in-Some.ensures.found.0) in
    let is : call.number ≡ c.args.number = ap (λ (z : Call). z.number) same ∙ c.in-Some.ensures.found.1 in
    one-taken c.args.number c.args.self.now.items c.remove_at-call.new.items.items call is (λ e i. (c.remove_at-call.ensures.others e i).1) (λ w. c.remove_at-call.ensures.rest w ∙ ap (λ (p : Pendings). weight w p.items) c.self.view_is)

pub returns-in-Some-clause-call : goal.returns-in-Some-clause-call
returns-in-Some-clause-call c =
    let b = c.self.inside in
    let call = c.remove_at-call.result in
    let same : call ≡ c.in-Some.spot.call = same_some call c.in-Some.spot.call (sym c.remove_at-call.ensures.call ∙ c.in-Some.ensures.found.0) in (
      subst (λ (p : Pendings). IsIn call p.items) c.self.view_is (got-in b.items.items c.in-Some.spot.place call c.remove_at-call.ensures.call),
      ap (λ (z : Call). z.number) same ∙ c.in-Some.ensures.found.1,
    )

pub returns-in-None-clause-one : goal.returns-in-None-clause-one
returns-in-None-clause-one c = λ e i n w.
    let b = c.self.inside in
    let none : weight (has_number c.args.number) c.args.self.now.items ≡ 0 = ap (λ (p : Pendings). weight (has_number c.args.number) p.items) (sym c.self.view_is) ∙ none-there c.args.number b.items.items (c.in-None.ensures.none c.self.invariant.0) in
    let one : has_number c.args.number e ≡ 1 = ap (λ z. cond {A = ℕ} z 1 0) (eq-eqb c.args.number (Call.number e) (sym n)) in
    absurd (omega (arith, none, one, weight-in (has_number c.args.number) c.args.self.now.items e i))

pub returns-in-Some-clause-one : goal.returns-in-Some-clause-one
returns-in-Some-clause-one c = λ e i n w.
    let b = c.self.inside in
    let call = c.remove_at-call.result in
    let same : call ≡ c.in-Some.spot.call = same_some call c.in-Some.spot.call (sym c.remove_at-call.ensures.call ∙ c.in-Some.ensures.found.0) in
    let number : call.number ≡ c.args.number = ap (λ (z : Call). z.number) same ∙ c.in-Some.ensures.found.1 in
    let is : e ≡ call = one-call b.items.items b.places.items c.in-Some.spot.place e call c.self.invariant.0 (subst (λ (p : Pendings). IsIn e p.items) (sym c.self.view_is) i) c.remove_at-call.ensures.call (n ∙ sym number) in
    omega (arith, ap w is, c.remove_at-call.ensures.rest w, ap (λ (p : Pendings). weight w p.items) c.self.view_is)
