use Rattle.std.proofs.Common.{refl, ◌+◌, ◌∷◌, ◌++◌, [], ◌∙◌, ap, sym, subst, length, arith, length-append, get_or}
use Rattle.orc_term.specs.declared.arena.Node.{Node}
use Rattle.orc_term.specs.declared.arena.Kind.TheVariants.{Leaf, Two}
use Rattle.orc_term.specs.declared.arena.Double.TheVariants.{Both}
use Rattle.orc_term.specs.Hints.{IsBeside, lifted}
use Rattle.orc_term.proofs.Trees.{node}
use Rattle.orc_term.proofs.Hints.{length_lifted}
use Rattle.orc_term.specs.Rising.{nowhere}
use Rattle.orc_term.specs.Sides.{is_side}
use Rattle.orc_term.proofs.KeptSides.{sides_on, sides_more, sides_lifted}
use Rattle.orc_checker.proofs.Moving.{kind_of}
use Rattle.orc_checker.proofs.Noting.{wait_on, wait_more, wait_lifted}
use Rattle.orc_term.proofs.Feeding.{beside_there, grafts}
use Rattle.orc_checker.proofs.Indexed.{names_lifted, names_more, names_on}
use Rattle.orc_checker.proofs.feed.graft.Goals as goal

pub lift-requires : goal.lift-requires
lift-requires c =
    let nodes = c.args.nodes.now.items in
    let at = c.args.at in
    let e1 = c.push_within.ensures.items ∙ (λ j. nodes ++ node (Two Both at (c.next_number-both.ensures.count j + 1)) (Node.parent (c.node_at-parent.ensures j)) ∷ []) in
    let e2 = c.push_within-2.ensures.items ∙ (λ j. e1 j ++ node (Leaf c.args.tip) (c.next_number-both.ensures.count j) ∷ []) in
    subst (λ z. IsBeside c.push_within-2.new.self.items at z) (sym c.next_number-both.ensures.count) (subst (λ z. IsBeside z at (length nodes)) (sym e2) (beside_there nodes at c.args.tip c.requires.there))

pub returns-clause-grafts : goal.returns-clause-grafts
returns-clause-grafts c =
    let nodes = c.args.nodes.now.items in
    let at = c.args.at in
    let e1 = c.push_within.ensures.items ∙ (λ j. nodes ++ node (Two Both at (c.next_number-both.ensures.count j + 1)) (Node.parent (c.node_at-parent.ensures j)) ∷ []) in
    let e2 = c.push_within-2.ensures.items ∙ (λ j. e1 j ++ node (Leaf c.args.tip) (c.next_number-both.ensures.count j) ∷ []) in
    grafts nodes at c.args.tip _ (c.lift.ensures.items ∙ (λ j. lifted (e2 j) at (c.next_number-both.ensures.count j)))

pub returns-clause-len : goal.returns-clause-len
returns-clause-len c =
    let nodes = c.args.nodes.now.items in
    omega (
      arith,
      ap length c.lift.ensures.items,
      length_lifted c.push_within-2.new.self.items c.args.at c.next_number-both.result,
      ap length c.push_within.ensures.items,
      ap length c.push_within-2.ensures.items,
      length-append nodes (node (Two Both c.args.at (c.next_number-both.result + 1)) c.node_at-parent.result.parent ∷ []),
      length-append c.push_within.new.self.items (node (Leaf c.args.tip) c.next_number-both.result ∷ []),
    )

pub returns-clause-calls : goal.returns-clause-calls
returns-clause-calls c still = wait_on _ _ _ (wait_on _ _ _ (wait_more _ _ _ c.push_within.ensures.items refl) (wait_more _ _ _ c.push_within-2.ensures.items still)) (wait_lifted _ _ _ _ c.lift.ensures.items)

pub returns-clause-sides : goal.returns-clause-sides
returns-clause-sides c =
    let nodes = c.args.nodes.now.items in
    let first = c.push_within.new.self.items in
    let second = c.push_within-2.new.self.items in
    let parent = Node.parent (get_or second c.args.at nowhere) in
    let one = ap length c.push_within.ensures.items ∙ length-append nodes (node (Two Both c.args.at (c.next_number-both.result + 1)) c.node_at-parent.result.parent ∷ []) in
    let e1 = c.push_within.ensures.items ∙ (λ j. nodes ++ node (Two Both c.args.at (c.next_number-both.ensures.count j + 1)) (Node.parent (c.node_at-parent.ensures j)) ∷ []) in
    let e2 = c.push_within-2.ensures.items ∙ (λ j. e1 j ++ node (Leaf c.args.tip) (c.next_number-both.ensures.count j) ∷ []) in
    let beside = subst (λ z. IsBeside second c.args.at z) (sym c.next_number-both.ensures.count) (subst (λ z. IsBeside z c.args.at (length nodes)) (sym e2) (beside_there nodes c.args.at c.args.tip c.requires.there)) in
    let kind = kind_of second c.next_number-both.result parent (Two Both c.args.at (c.next_number-both.result + 1)) beside.1 in
    sides_on (length nodes) nodes first c.lift.new.self.items (sides_more (length nodes) nodes first _ c.push_within.ensures.items (omega arith) (λ p lt. refl))
    (sides_on (length nodes) first second c.lift.new.self.items (sides_more (length nodes) first second _ c.push_within-2.ensures.items (omega (arith, one)) (λ p lt. refl))
    (sides_lifted (length nodes) second c.lift.new.self.items c.args.at c.next_number-both.result c.lift.ensures.items (omega (arith, c.next_number-both.ensures.count)) (λ p. ap (λ z. is_side z p) kind)))

pub returns-clause-names : goal.returns-clause-names
returns-clause-names c =
    let one = ap length c.push_within.ensures.items ∙ length-append c.args.nodes.now.items (node (Two Both c.args.at (c.next_number-both.result + 1)) c.node_at-parent.result.parent ∷ []) in
    names_on _ _ _ _ (names_more _ _ _ _ c.push_within.ensures.items (λ m e. cc e)) (names_on _ _ _ _ (names_more _ _ _ _ c.push_within-2.ensures.items (λ m e. (e, one))) (names_lifted _ _ _ _ _ c.lift.ensures.items))
