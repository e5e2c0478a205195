use Rattle.std.proofs.Common.{rules, ◌≡◌, ◌-◌, ◌∷◌, [], ℕ, List, map, reverse, ap, subst, ◌∙◌}
use Rattle.std.specs.Prelude.{IfOk, OnOk}
use Rattle.orc_syntax.specs.Tree.{Item}
use Rattle.orc_syntax.specs.Ast.{item}
use Rattle.orc_scope.specs.Scope.{IsLeast, faults}
use Rattle.orc_scope.specs.Looking.{looks, weighs, task, known_of, tasks_of, Fits, waiting}
use Rattle.orc_scope.specs.Written.{written, size}
use Rattle.orc_scope.proofs.Walk.{look_whole}
use Rattle.orc_scope.proofs.Weight.{weigh_whole, sized}
use Rattle.orc_scope.proofs.finder.Looking.expression.Goals as goal

pub wait-requires : goal.wait-requires
unfolding Fits
wait-requires c = rw c.clear.ensures.items tt

pub returns-clause-least : goal.returns-clause-least
unfolding tasks_of
returns-clause-least c = λ t e.
    let k = known_of c.args.known.now in
    let names = c.args.self.now.scope in
    let w : waiting c.wait.new.self ≡ task names 0 ∷ [] = c.in_ok-wait.ensures.tasks ∙ ap (λ (l : List _). task names 0 ∷ tasks_of names (reverse l)) c.clear.ensures.items in
    let all : looks k (waiting c.wait.new.self) (reverse (map item c.args.nodes.now)) ≡ faults k names t =
    ap (λ (ts : List _). looks k ts (reverse (map item c.args.nodes.now))) w ∙ ap (λ (l : List Item). looks k (task names 0 ∷ []) (reverse l)) e ∙ look_whole k t names in
    subst (λ (fs : List _). IfOk c.find.result (λ least. IsLeast least fs)) all c.find.ensures.least

pub returns-clause-room : goal.returns-clause-room
unfolding tasks_of
returns-clause-room c = λ t k xs e.
    let names = c.args.self.now.scope in
    let w : waiting c.wait.new.self ≡ task names 0 ∷ [] = c.in_ok-wait.ensures.tasks ∙ ap (λ (l : List _). task names 0 ∷ tasks_of names (reverse l)) c.clear.ensures.items in
    let all : weighs (waiting c.wait.new.self) (reverse (map item c.args.nodes.now)) ≡ size (written k xs t) =
    ap (λ (ts : List _). weighs ts (reverse (map item c.args.nodes.now))) w ∙ ap (λ (l : List Item). weighs (task names 0 ∷ []) (reverse l)) e ∙ weigh_whole t names ∙ sized k xs t in
    let room : c.wait.new.self.room ≡ c.args.self.now.room = search rules in
    subst (λ (n : ℕ). OnOk c.find.result (c.find.new.self.room ≡ n - size (written k xs t))) room (subst (λ (n : ℕ). OnOk c.find.result (c.find.new.self.room ≡ c.wait.new.self.room - n)) all c.find.ensures.room)
