use Rattle.std.proofs.Common.{inl, inr, ⊎_elim}
use Rattle.orc_tables.proofs.pending.forget.Goals as goal

pub returns-in-Some : goal.returns-in-Some
returns-in-Some c = λ t k h. ⊎_elim (λ a. inl a) (λ b. inr b.1) (c.forget.ensures.kept t k h)
