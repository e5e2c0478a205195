use Rattle.std.proofs.Common.{Bool, ◌∷◌, ◌++◌, [], ap, sym, ◌∙◌, subst, ℕ, List}
use Rattle.orc_term.specs.declared.arena.Node.{Node}
use Rattle.orc_term.specs.declared.arena.Kind.{Kind}
use Rattle.orc_env.specs.declared.names.Bound.{Bound}
use Rattle.orc_env.specs.declared.names.Scope.{Scope}
use Rattle.orc_rules.specs.Nodes.{source}
use Rattle.orc_rules.specs.Journal.{begin}
use Rattle.orc_checker.specs.Calls.{Rest}
use Rattle.orc_term.specs.Halting.{halt_flag}
use Rattle.orc_checker.specs.Checker.{State, Begins}
use Rattle.orc_term.specs.declared.arena.Tip.TheVariants.{Token}
use Rattle.orc_term.specs.declared.arena.Single.TheVariants.{Passed}
use Rattle.orc_term.specs.declared.arena.Kind.TheVariants.{Leaf, One}
use Rattle.orc_env.specs.declared.names.Bound.TheVariants.{Void}
use Rattle.orc_term.proofs.Trees.{node}
use Rattle.orc_checker.proofs.Beginning.{spells_first}
use Rattle.orc_checker.proofs.marked.Marked.new.Goals as goal

abbrev state : List Node → List Scope → List Bound → List ℕ → List Bool → List Bool → List Kind → Rest → State
state ns ss cs ms hs fs ks r = record { nodes = ns; scopes = ss; cells = cs; marks = ms; halts = hs; flags = fs; asked = ks; rest = r }

pub returns : goal.returns
returns c =
    let l = c.args.program.now in
    let nodes = c.push_within-2.ensures.items ∙ (λ j. (c.push_within.ensures.items ∙ ap (λ z. z ++ node (One Passed 1) 0 ∷ []) c.in_ok-nodes.ensures.items) j ++ node (Leaf (Token 1 (c.source-root.ensures j) 0)) 0 ∷ []) in
    let marks = c.push_within-4.ensures.items ∙ ap (λ z. z ++ 1 ∷ []) (c.push_within-3.ensures.items ∙ ap (λ z. z ++ 0 ∷ []) c.in_ok-marks.ensures.items) in
    let cells = c.push_within-5.ensures.items ∙ ap (λ z. z ++ Void ∷ []) c.in_ok-cells.ensures.items in
    let halts = c.in_ok-halts.halts in
    let halted = c.at-halted.result in
    let flags = c.push_within-7.ensures.items ∙ ap (λ z. z ++ halted ∷ []) (c.push_within-6.ensures.items ∙ ap (λ z. z ++ halted ∷ []) c.in_ok-flags.ensures.items) in
    let asked = c.push_within-2.ensures.asked ∙ c.push_within.ensures.asked ∙ c.in_ok-nodes.ensures.asked in
    subst (λ z. Begins l c.args.cancels z (begin (source l))) (sym (λ j. state (nodes j) (c.new-3.ensures.items j) (cells j) (marks j) halts (flags j) (asked j) (c.new-4.ensures j))) (spells_first l c.args.cancels halts halted c.in_ok-halts.ensures (c.at-halted.ensures ∙ ap (halt_flag halts) c.source-root.ensures))
