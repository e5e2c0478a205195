use Rattle.std.proofs.Common.{◌≡◌, ◌+◌, ◌++◌, ◌∷◌, [], ℕ, sym, ap, ◌∙◌, subst, arith, length}
use Rattle.orc_indexes.specs.Same.{weight}
use Rattle.orc_tables.specs.PendingCalls.{Pendings, ArePlaced, HasNote, HaveNotes}
use Rattle.orc_indexes.proofs.Weight.{weight-append}
use Rattle.orc_tables.proofs.Placed.{placed-push, noted-push}
use Rattle.orc_tables.proofs.pending.Pending.add.Goals as goal

pub invariant_of-self : goal.invariant_of-self
invariant_of-self c =
    let b = c.self.inside in
    let call = c.args.call in
    let number : call.number ≡ length b.places.items + 1 = omega (arith, c.requires.number, ap (λ (p : Pendings). p.made) c.self.view_is) in
    let items : c.push_within.new.items.items ≡ b.items.items ++ call ∷ [] = c.push_within.ensures.items in
    let len : c.len-place.result ≡ length b.items.items = omega (arith, c.len-place.ensures, b.items.ok.0) in
    let places : c.push_within-2.new.items.items ≡ b.places.items ++ length b.items.items ∷ [] = c.push_within-2.ensures.items ∙ ap (λ (n : ℕ). b.places.items ++ n ∷ []) len in
    let noted : HasNote b.dues call = subst (λ (p : Pendings). HasNote p.notes call) (sym c.self.view_is) c.requires.noted in (
      subst (λ z. ArePlaced z c.push_within-2.new.items.items) (sym items) (subst (λ z. ArePlaced (b.items.items ++ call ∷ []) z) (sym places) (placed-push b.items.items b.places.items call number c.self.invariant.0)),
      subst (λ z. HaveNotes b.dues z) (sym items) (noted-push b.items.items b.dues call c.self.invariant.1 noted),
    )

pub returns-clause-added : goal.returns-clause-added
returns-clause-added c = λ w.
    let b = c.self.inside in
    let more = ap (weight w) c.push_within.ensures.items ∙ weight-append w b.items.items (c.args.call ∷ []) in
    omega (arith, more, ap (λ (p : Pendings). weight w p.items) c.self.view_is)
