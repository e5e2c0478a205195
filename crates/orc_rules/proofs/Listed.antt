-- A program's nodes spell terms as a source has them.
use Rattle.std.proofs.Common.{ℕ, zero, suc, List, [], ◌∷◌, ◌++◌, map, get_or}
use Rattle.orc_rules.specs.declared.param.Operand.{Operand}
use Rattle.orc_rules.specs.declared.program.TermNode.{TermNode}
use Rattle.orc_rules.specs.declared.program.TermNode.TheVariants.{Stop, Operand as On, Site, Call, Par, Seq, Prune, Other}
use Rattle.orc_rules.specs.Term.{Term, stop}
use Rattle.orc_rules.specs.Nodes.{Routine, code, definition_of, unfold_node, terms_from}
use Rattle.orc_rules.specs.Lost.{IsSource, AreSource, ProgramIsSource}

abbrev AllSource : List Term → Type 0
AllSource [] = Unit {0}
AllSource (t ∷ ts) = IsSource t × AllSource ts

source_at : (ts : List Term) (i : ℕ) → AllSource ts → IsSource (get_or ts i stop)
source_at [] i s = tt
source_at (t ∷ ts) zero s = s.0
source_at (t ∷ ts) (suc i) s = source_at ts i s.1

source_last : (ts : List Term) (t : Term) → AllSource ts → IsSource t → AllSource (ts ++ t ∷ [])
source_last [] t s h = (h, tt)
source_last (u ∷ ts) t s h = (s.0, source_last ts t s.1 h)

module _ (lists : List (List Operand)) where
  node_source : (at : ℕ → Term) (n : TermNode) → ((i : ℕ) → IsSource (at i)) → IsSource (unfold_node at lists n)
  node_source at Stop h = tt
  node_source at (On p) h = tt
  node_source at (Site m l) h = tt
  node_source at (Call e l) h = tt
  node_source at (Par f g) h = (h f, h g)
  node_source at (Seq f x g) h = (h f, h g)
  node_source at (Prune f x g) h = (h f, h g)
  node_source at (Other f g) h = (h f, h g)

  terms_source : (ts : List Term) (ns : List TermNode) → AllSource ts → AllSource (terms_from lists ts ns)
  terms_source ts [] s = s
  terms_source ts (n ∷ ns) s = terms_source (ts ++ unfold_node (λ i. get_or ts i stop) lists n ∷ []) ns (source_last ts _ s (node_source (λ i. get_or ts i stop) n (λ i. source_at ts i s)))

pub program_is_source : ProgramIsSource
program_is_source l = (node, bodies l.routines)
  where
    node : (i : ℕ) → IsSource (code l i)
    node i = source_at (terms_from l.lists [] l.nodes) i (terms_source l.lists [] l.nodes tt)

    bodies : (rs : List Routine) → AreSource (map (definition_of l) rs)
    bodies [] = tt
    bodies (r ∷ rs) = (node r.body, bodies rs)
