use Rattle.std.proofs.Common.{◌≡◌, List, Bool, true, Some, refl, arith, ap, sym, subst, ◌∙◌}
use Rattle.orc_search.specs.declared.node.Joint.{Joint}
use Rattle.orc_search.specs.declared.node.Summary.{Summary}
use Rattle.orc_search.specs.Small.{Small}
use Rattle.orc_search.specs.Ticks.{is_over}
use Rattle.orc_search.specs.Successors.{Successor, silently}
use Rattle.orc_search.specs.Nodes.{joined, smalls, small_at}
use Rattle.orc_search.specs.Own.{own, Turns}
use Rattle.orc_search.proofs.Nodes.{same_len, there}
use Rattle.orc_search.proofs.moves.turned.Goals as goal

pub returns-then-summary-clause-turned : goal.returns-then-summary-clause-turned
returns-then-summary-clause-turned c = λ defs ask.
    let ts = smalls c.args.terms.now in
    let f : Small = small_at ts c.args.f in
    let g : Small = small_at ts c.args.g in
    let over : is_over f ≡ true = sym (ap (λ (s : Summary). s.over) c.summary.ensures) ∙ c.if-summary.true in
    let is : own defs ask c.args.depth (joined c.args.joint f g) ≡ silently true g
    = ap (λ (j : Joint). own defs ask c.args.depth (joined j f g)) c.in-Instead.is ∙ ap (λ (b : Bool). silently b g) over in
    subst (λ (ms : List Successor). Turns ts (Some c.args.g) ms) (sym is) ((refl, there ts c.args.g (omega (arith, same_len c.args.terms.now, c.requires.right))), tt)
