-- The last step, when no token, call or group is at it any more, and the records without it.
use Rattle.std.specs.Prelude.{◌≡◌, [], ◌∷◌, ◌++◌, false, Some, length, nat_eq}
use Rattle.orc_indexes.specs.Same.{None}
use Rattle.orc_tables.specs.Steps.{step_at}
use Rattle.orc_tables.specs.declared.records.Token.{Token}
use Rattle.orc_tables.specs.declared.records.Call.{Call}
use Rattle.orc_tables.specs.declared.records.Step.{Step}
use Rattle.orc_tables.specs.declared.records.Group.{Group}
use Rattle.orc_ledger_spec.specs.Next.{opens}
use Rattle.orc_ledger_spec.specs.Records.{Records}

-- the last step enters the left side of a `>x>`, and no token, call or open group is there
pub record IsVacant (s : Records) : Type 0 where
  pub step : Step
  pub last : step_at s.steps (length s.steps) ≡ Some step
  pub feeds : opens step.entered ≡ false
  pub tokens : None (λ (t : Token). nat_eq (length s.steps) t.step) s.tokens
  pub calls : None (λ (c : Call). nat_eq (length s.steps) c.step) s.calls
  pub groups : None (λ (g : Group). nat_eq (length s.steps) g.outer) s.groups

-- that step goes, and all else stays as it was
pub record Sheds (s s' : Records) : Type 0 where
  pub vacant : IsVacant s
  pub gone : Step
  pub rest : s ≡ record s' { steps = s'.steps ++ gone ∷ [] }
