use Rattle.std.proofs.Common.{rules, ◌≡◌, ◌++◌, [], ℕ, List, map, reverse, take, sym, ap, subst, ◌∙◌, arith}
use Rattle.std.proofs.lemmas.List.{append-nil}
use Rattle.orc_scope.specs.declared.fault.ScopeFault.{ScopeFault}
use Rattle.orc_scope.specs.Scope.{IsLeast}
use Rattle.orc_syntax.specs.Ast.{item}
use Rattle.orc_scope.specs.Looking.{looks, weighs, known_of, waiting}
use Rattle.orc_scope.proofs.Walk.{looks_none, find_step}
use Rattle.orc_scope.proofs.Weight.{weigh_step, weighs_none, weighs_end}
use Rattle.orc_scope.proofs.finder.Looking.find.Goals as goal

pub returns-in_default-clause-least : goal.returns-in_default-clause-least
returns-in_default-clause-least c =
    let k = known_of c.args.known.now in
    let items = reverse (map item (take c.loop-count.count c.args.nodes.now)) in
    let i = c.loop-count.invariant in
    let none : waiting c.loop-count.self ≡ [] = search rules in
    let e : i.done ≡ looks k (waiting c.args.self.now) (reverse (map item c.args.nodes.now)) =
    sym (append-nil i.done) ∙ ap (λ (l : List ScopeFault). i.done ++ l) (sym (looks_none k items)) ∙ ap (λ (ts : List _). i.done ++ looks k ts items) (sym none) ∙ i.all in
    subst (λ (l : List ScopeFault). IsLeast c.loop-count.least l) e i.least

pub returns-in_default-clause-room : goal.returns-in_default-clause-room
returns-in_default-clause-room c =
    let items = reverse (map item (take c.loop-count.count c.args.nodes.now)) in
    let i = c.loop-count.invariant in
    let none : waiting c.loop-count.self ≡ [] = search rules in
    let w : weighs (waiting c.loop-count.self) items ≡ 0 = ap (λ (ts : List _). weighs ts items) none ∙ weighs_none items in
    let r : c.next.new.self.room ≡ c.loop-count.self.room = search rules in
    let all = i.room in
    omega (arith, w, r, all)

pub loop-count-preserved : goal.loop-count-preserved
loop-count-preserved c =
    let i = c.loop-count.invariant in
    let n = c.loop-count.count in
    let z = find_step (known_of c.args.known.now) c.next.new.self.scope c.in-Some.number (waiting c.loop-count.self) (waiting c.parts.new.self) (waiting c.next.new.self) c.args.nodes.now n _ c.loop-count.least c.lesser-own.result c.lesser-least.result i.done _
    (search rules) (search rules) (search rules) i.high i.least (c.lesser-own.ensures _ _ c.number_fault.ensures c.node_fault.ensures) c.lesser-least.ensures i.all in
    record {
      done = z.0;
      least = z.1;
      all = z.2;
      room = weigh_step c.next.new.self.scope c.in-Some.number c.loop-count.self.room c.parts.new.self.room c.weight.result (waiting c.loop-count.self) (waiting c.parts.new.self) (waiting c.next.new.self) c.args.nodes.now n _ _ c.weight.ensures.value (search rules) (search rules) (search rules) (search rules) i.high i.room;
      fit = c.in_ok-parts.ensures.fit;
      high = omega (arith, i.high);
    }

pub returns-clause-least : goal.returns-clause-least
unfolding looks
returns-clause-least c =
    let i = c.loop-count.invariant in
    let zero : c.loop-count.count ≡ 0 = search rules in
    let e : i.done ≡ looks (known_of c.args.known.now) (waiting c.args.self.now) (reverse (map item c.args.nodes.now)) =
    sym (append-nil i.done) ∙ sym (ap (λ (n : ℕ). i.done ++ looks (known_of c.args.known.now) (waiting c.loop-count.self) (reverse (map item (take n c.args.nodes.now)))) zero) ∙ i.all in
    subst (λ (l : List ScopeFault). IsLeast c.loop-count.least l) e i.least

pub returns-clause-room : goal.returns-clause-room
returns-clause-room c =
    let i = c.loop-count.invariant in
    let zero : c.loop-count.count ≡ 0 = search rules in
    let w : weighs (waiting c.loop-count.self) (reverse (map item (take c.loop-count.count c.args.nodes.now))) ≡ 0 = ap (λ (n : ℕ). weighs (waiting c.loop-count.self) (reverse (map item (take n c.args.nodes.now)))) zero ∙ weighs_end (waiting c.loop-count.self) in
    let all = i.room in
    omega (arith, w, all)
