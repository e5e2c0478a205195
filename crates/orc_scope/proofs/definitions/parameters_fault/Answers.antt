use Rattle.std.proofs.Common.{rules, ◌≡◌, ◌≤◌, ◌+◌, ◌++◌, [], List, length, map, drop, refl, sym, ap, subst, ◌∙◌}
use Rattle.std.proofs.lemmas.List.{append-nil, take_all, drop_all}
use Rattle.orc_syntax.specs.declared.tree.Name.{Name}
use Rattle.orc_syntax.specs.Ast.{label}
use Rattle.orc_scope.specs.declared.fault.ScopeFault.{ScopeFault}
use Rattle.orc_scope.specs.Scope.{IsLeast}
use Rattle.orc_scope.specs.Program.{text, parameter_faults}
use Rattle.orc_scope.proofs.Programs.{parameters_step, texts_step}
use Rattle.orc_scope.proofs.definitions.parameters_fault.Goals as goal

pub loop-at-init : goal.loop-at-init
loop-at-init c = record {
  done = [];
  least = refl;
  all = ap (λ (seen : List (List _)). parameter_faults seen 1 (map label c.args.parameters.now)) (c.truncate.ensures);
  scope = c.truncate.ensures;
  room = refl;
  high = search rules;
}

pub loop-at-preserved : goal.loop-at-preserved
loop-at-preserved c =
    let i = c.loop-at.invariant in
    let at = c.loop-at.at in
    let z = parameters_step c.args.parameters.now at _ c.loop-at.looking.scope c.push.new.self c.loop-at.least c.lesser-own.result c.lesser-least.result i.done _ (search rules) c.in_ok-push.ensures.added i.least
    (c.lesser-own.ensures _ _ (search rules) c.number_fault.ensures) c.lesser-least.ensures i.all in
    record {
      done = z.0;
      least = z.1;
      all = z.2;
      scope = texts_step c.args.parameters.now at _ c.loop-at.looking.scope c.push.new.self (search rules) c.in_ok-push.ensures.added i.scope;
      room = i.room;
      high = search rules;
    }

pub returns-in_err-push-clause-room : goal.returns-in_err-push-clause-room
returns-in_err-push-clause-room c = c.loop-at.invariant.room

pub returns-clause-least : goal.returns-clause-least
returns-clause-least c =
    let i = c.loop-at.invariant in
    let end : length c.args.parameters.now ≤ c.loop-at.at = search rules in
    let none : map label (drop c.loop-at.at c.args.parameters.now) ≡ [] = ap (map label) (drop_all c.loop-at.at c.args.parameters.now end) in
    let e : i.done ≡ parameter_faults [] 1 (map label c.args.parameters.now) =
    sym (append-nil i.done) ∙ sym (ap (λ (l : List _). i.done ++ parameter_faults c.loop-at.looking.scope (c.loop-at.at + 1) l) none) ∙ i.all in
    subst (λ (l : List ScopeFault). IsLeast c.loop-at.least l) e i.least

pub returns-clause-scope : goal.returns-clause-scope
returns-clause-scope c =
    let end : length c.args.parameters.now ≤ c.loop-at.at = search rules in
    c.loop-at.invariant.scope ∙ ap (λ (l : List Name). map text (map label l)) (take_all c.loop-at.at c.args.parameters.now end)

pub returns-clause-room : goal.returns-clause-room
returns-clause-room c = c.loop-at.invariant.room
