use Rattle.std.proofs.Common.{◌≡◌, ◌++◌, ◌∷◌, [], reverse, ap, ◌∙◌}
use Rattle.std.specs.Vec.{vec_len}
use Rattle.orc_search.specs.declared.walk.Task.{Task}
use Rattle.orc_search.specs.declared.walk.Task.TheVariants.{Enter, Leave}
use Rattle.orc_search.specs.declared.walk.Walk.{Walk}
use Rattle.orc_search.specs.Walks.{outer}
use Rattle.orc_search.proofs.Walks.{still_left, still_entered, within_left, within_entered, outer_out}
use Rattle.orc_search.proofs.walk.Walk.next.Goals as goal

pub loop-task-preserved : goal.loop-task-preserved
loop-task-preserved c =
    let w : Walk = c.loop-task.self in
    let w' : Walk = record { path = c.pop-left.new.self; todo = c.pop.new.self } in
    let task : c.in-Some.task ≡ Leave = c.in-Leave.is in
    let todo : w.todo.items ≡ w'.todo.items ++ Leave ∷ [] = c.in-Some.ensures.items ∙ ap (λ (t : Task). w'.todo.items ++ t ∷ []) task in
    let path : outer (reverse w.path.items) ≡ reverse w'.path.items
    = outer_out w.path.items w'.path.items c.pop-left.result (vec_len w.path) (vec_len w'.path) _ c.pop-left.ensures.items w'.path.ok.0 c.pop-left.ensures.cases in (
      λ defs ask terms. c.loop-task.invariant.0 defs ask terms ∙ still_left defs ask terms w w' todo path,
      λ n is. within_left n w w' todo path (c.loop-task.invariant.1 n is),
    )

pub returns-in-Enter : goal.returns-in-Enter
returns-in-Enter c =
    let w : Walk = c.loop-task.self in
    let w' : Walk = record { path = c.push.new.self; todo = c.push-in-Enter.new.self } in
    let tasks = c.pop.new.self.items in
    let task : c.in-Some.task ≡ Enter c.in-Enter.frame c.in-Enter.spot = c.in-Enter.is in
    let from : w.todo.items ≡ tasks ++ Enter c.in-Enter.frame c.in-Enter.spot ∷ [] = c.in-Some.ensures.items ∙ ap (λ (t : Task). tasks ++ t ∷ []) task in
    let path : w'.path.items ≡ w.path.items ++ c.in-Enter.frame ∷ [] = c.in_ok-push-in-Enter.ensures.items in
    let todo : w'.todo.items ≡ tasks ++ Leave ∷ [] = c.in_ok-push-in-Enter-2.ensures.items in (
      λ defs ask terms. c.loop-task.invariant.0 defs ask terms ∙ still_entered defs ask terms w w' tasks c.in-Enter.frame c.in-Enter.spot from path todo,
      λ n is. within_entered n w w' tasks c.in-Enter.frame c.in-Enter.spot from path todo (c.loop-task.invariant.1 n is),
    )
