-- The cells for which a token waits.
use Rattle.std.specs.Prelude.{ℕ, List, [], ◌∷◌}
use Rattle.orc_rules.specs.declared.param.Param.{Param}
use Rattle.orc_rules.specs.declared.param.Param.TheVariants as is
use Rattle.orc_rules.specs.Term.{Term, param, site}

-- the cells among arguments that aren't bound, in their order
abbrev pub cells_among : List Param → List ℕ
cells_among [] = []
cells_among (is.Cell c ∷ ps) = c ∷ cells_among ps
cells_among (is.Name x ∷ ps) = cells_among ps
cells_among (is.Is v ∷ ps) = cells_among ps
cells_among (is.Void ∷ ps) = cells_among ps

-- the cells for which a token waits, by its term: a variable's, or those of a call of a site; at another term it waits for none
abbrev pub cells_of : Term → List ℕ
cells_of (param q) = cells_among (q ∷ [])
cells_of (site m ps) = cells_among ps
cells_of _ = []
