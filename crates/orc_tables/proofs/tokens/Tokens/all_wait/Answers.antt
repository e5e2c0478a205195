use Rattle.std.proofs.Common.{sym, ◌∙◌}
use Rattle.std.proofs.lemmas.Bool.{eqb-true}
use Rattle.orc_tables.proofs.Parked.{all-set}
use Rattle.orc_tables.proofs.tokens.Tokens.all_wait.Goals as goal

pub returns : goal.returns
returns c = let b = c.self.inside in rw (← c.self.view_is) (λ e. all-set b.slots.items b.parking.flags c.self.invariant.1 (sym c.len.ensures ∙ eqb-true _ _ e ∙ c.self.invariant.0))
