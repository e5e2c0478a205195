use Rattle.std.proofs.Common.{◌≡◌, ◌+◌, ◌∙◌, ◌++◌, ◌-◌, ◌∷◌, [], ap, sym, subst, arith, max, take}
use Rattle.std.specs.Prelude.{vec_len}
use Rattle.orc_rules.specs.Nodes.{code}
use Rattle.orc_term.specs.Arena.{Tree, Holds, place}
use Rattle.orc_term.specs.Dropping.{parts_of}
use Rattle.orc_verdict.specs.Depth.{own_levels, step_down, with_levels}
use Rattle.orc_verdict.proofs.Nesting.{IsLooked, looks_first, looks_on, looks_all, place_depth, tree_depth}
use Rattle.orc_verdict.proofs.depth.depth_of.Goals as goal

pub loop-step-init : goal.loop-step-init
loop-step-init c = subst (λ z. IsLooked c.args.heights.now c.nodes-nodes.result.now z 0) (sym (c.in_ok-push.ensures.items ∙ ap (λ z. z ++ (0, 0) ∷ []) c.new-left.ensures.items)) (looks_first c.args.heights.now c.nodes-nodes.result.now)

pub returns-in_default : goal.returns-in_default
returns-in_default c = λ x l p are sp.
    let s = c.args.marked.now in
    let levels = c.args.heights.now in
    let none : c.loop-step.left.items ≡ [] = c.in_default.ensures.items ∙ ap (λ z. z ++ []) (c.in_default.ensures.rest ∙ ap (λ n. take n c.loop-step.left.items) (let e : vec_len c.loop-step.left - 1 ≡ 0 = omega (arith, c.in_default.ensures.cases.0) in e)) in
    place_depth x (code l) levels s p c.loop-step.deepest are sp
    (subst (λ nodes. (n : _) (t : Tree) → Holds nodes n 0 t → place t ≡ 0 → c.loop-step.deepest ≡ tree_depth levels t) c.nodes-nodes.ensures (looks_all levels c.nodes-nodes.result.now c.loop-step.left.items c.loop-step.deepest none c.loop-step.invariant))

pub loop-step-preserved : goal.loop-step-preserved
loop-step-preserved c =
    let levels = c.args.heights.now in
    let nodes = c.nodes-nodes.result.now in
    let k = c.in-Some in
    let kind = c.kind_of-kind.ensures in
    looks_on levels nodes c.pop.new.self.items c.push_parts.new.left.items k.node k.above c.in_ok-above.above c.loop-step.deepest c.max-deepest.result
    (subst (λ z. IsLooked levels nodes z c.loop-step.deepest) c.in-Some.ensures.items c.loop-step.invariant)
    (c.in_ok-above.ensures ∙ ap (λ z. k.above + z) (c.step_down.ensures ∙ ap step_down kind))
    (c.max-deepest.ensures ∙ ap (max c.loop-step.deepest) (c.in_ok-sum.ensures ∙ ap (λ z. c.in_ok-above.above + z) (c.own_levels.ensures ∙ ap (own_levels levels) kind)))
    (c.in_ok-push_parts.ensures ∙ ap (λ z. c.pop.new.self.items ++ with_levels c.in_ok-above.above (parts_of z)) kind)
