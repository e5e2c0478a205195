-- A program's terms name no cell.
use Rattle.std.proofs.Common.{◌≡◌, ℕ, zero, suc, List, [], ◌∷◌, ◌++◌, map, get_or, Option, Some, None, refl, ap, subst}
use Rattle.orc_rules.specs.declared.param.Operand.{Operand}
use Rattle.orc_rules.specs.declared.param.Operand.TheVariants.{Name, Is}
use Rattle.orc_rules.specs.declared.program.TermNode.{TermNode}
use Rattle.orc_rules.specs.declared.program.TermNode.TheVariants.{Stop, Operand as On, Site, Call, Par, Seq, Prune, Other}
use Rattle.orc_rules.specs.Term.{Term, Definition, stop, param, site, call, par, seq, prune, other}
use Rattle.orc_rules.specs.Nodes.{Routine, code, definition_of, param_of, unfold_node, terms_from}
use Rattle.orc_subrun.specs.declared.numbers.Numbering.{Numbering}
use Rattle.orc_subrun.specs.Moved.{moved_param, IsStill, AreStill}
use Rattle.orc_subrun.specs.Grafts.{ProgramIsStill}

AllStill : List Term → Type 0
AllStill ts = (i : ℕ) → IsStill (get_or ts i stop)

still_last : (ts : List Term) (t : Term) → AllStill ts → IsStill t → AllStill (ts ++ t ∷ [])
unfolding AllStill
still_last [] t all h zero = h
still_last [] t all h (suc i) = λ n. refl
still_last (u ∷ ts) t all h zero = all 0
still_last (u ∷ ts) t all h (suc i) = still_last ts t (λ j. all (suc j)) h i

operand_still : (n : Numbering) (p : Operand) → moved_param n (param_of p) ≡ param_of p
operand_still n (Name x) = refl
operand_still n (Is v) = refl

operands_still : (n : Numbering) (ps : List Operand) → map (moved_param n) (map param_of ps) ≡ map param_of ps
operands_still n [] = refl
operands_still n (p ∷ ps) = λ i. operand_still n p i ∷ operands_still n ps i

module _ (lists : List (List Operand)) where
  node_still : (at : ℕ → Term) (node : TermNode) → ((i : ℕ) → IsStill (at i)) → IsStill (unfold_node at lists node)
  node_still at Stop h n = refl
  node_still at (On p) h n = ap param (operand_still n p)
  node_still at (Site m l) h n = ap (site m) (operands_still n _)
  node_still at (Call e l) h n = ap (call e) (operands_still n _)
  node_still at (Par f g) h n = λ i. par (h f n i) (h g n i)
  node_still at (Seq f x g) h n = λ i. seq (h f n i) x (h g n i)
  node_still at (Prune f x g) h n = λ i. prune (h f n i) x (h g n i)
  node_still at (Other f g) h n = λ i. other (h f n i) (h g n i)

  terms_still : (ts : List Term) (nodes : List TermNode) → AllStill ts → AllStill (terms_from lists ts nodes)
  unfolding AllStill
  terms_still ts [] all = all
  terms_still ts (node ∷ nodes) all = terms_still (ts ++ unfold_node (λ i. get_or ts i stop) lists node ∷ []) nodes (still_last ts _ all (node_still (λ i. get_or ts i stop) node all))

pub program_is_still : ProgramIsStill
unfolding AllStill
program_is_still l = (node, bodies l.routines)
  where
    node : (i : ℕ) → IsStill (code l i)
    node = terms_still l.lists [] l.nodes (λ i n. refl)

    bodies : (rs : List Routine) → AreStill (map (definition_of l) rs)
    bodies [] e d h = cc h
    bodies (r ∷ rs) zero d h = subst (λ (z : Definition). IsStill z.body) (ap (or_else (definition_of l r)) h) (node r.body)
      where
        or_else : Definition → Option Definition → Definition
        or_else z (Some y) = y
        or_else z None = z
    bodies (r ∷ rs) (suc e) d h = bodies rs e d h
