use Rattle.std.proofs.Common.{ℕ, ap, ◌∙◌, sym, [], List, Some, None}
use Rattle.std.specs.Prelude.{option_map}
use Rattle.orc_rules.specs.Nodes.{Routine}
use Rattle.orc_graph.specs.Ranges.{cut, params_at, params_or_none}
use Rattle.orc_graph.specs.Bodies.{routine_in}
use Rattle.orc_graph.proofs.Runs.{inside_at, map_get}
use Rattle.orc_graph.proofs.definitions.Definitions.params.Goals as goal

pub part-requires-clause-order : goal.part-requires-clause-order
part-requires-clause-order c = (inside_at _ _ _ _ c.self.invariant (sym c.in-Some.ensures)).0

pub part-requires-clause-within : goal.part-requires-clause-within
part-requires-clause-within c = rw c.deref.ensures.value ((inside_at _ _ _ _ c.self.invariant (sym c.in-Some.ensures)).1)

pub returns-in-Some : goal.returns-in-Some
returns-in-Some c =
    c.part.ensures ∙ (ap (λ (xs : List ℕ). cut xs c.in-Some.body.params) c.deref.ensures.value ∙
    (ap (λ o. params_or_none (option_map (routine_in c.self.inside.names.items) o)) c.in-Some.ensures ∙
    (ap params_or_none (sym (map_get (routine_in c.self.inside.names.items) c.self.inside.bodies.items c.args.number)) ∙
    ap (λ (rs : List Routine). params_at rs c.args.number) c.self.view_is)))

pub returns-in-None : goal.returns-in-None
returns-in-None c =
    ap (λ o. params_or_none (option_map (routine_in c.self.inside.names.items) o)) c.in-None.ensures ∙
    (ap params_or_none (sym (map_get (routine_in c.self.inside.names.items) c.self.inside.bodies.items c.args.number)) ∙
    ap (λ (rs : List Routine). params_at rs c.args.number) c.self.view_is)
