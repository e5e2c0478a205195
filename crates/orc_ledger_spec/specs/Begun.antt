-- The records of a new run.
use Rattle.std.specs.Prelude.{ℕ, [], ◌∷◌}
use Rattle.orc_env.specs.declared.names.Bound.TheVariants as bound
use Rattle.orc_ledger_spec.specs.Records.{Records}
use Rattle.orc_tables.specs.declared.records.Standing.TheVariants.{At}

-- token 1 stands at the root, and nothing has been done
abbrev pub begun : ℕ → ℕ → Records
begun limit root =
    record {
      limit = limit;
      journal = [];
      entries = 0;
      next_mark = 2;
      now = 0;
      made = 0;
      tokens = record { serial = 1; standing = At root 0; step = 0 } ∷ [];
      slots = record { serial = 1; standing = At root 0; step = 0 } ∷ [];
      calls = [];
      scopes = [];
      steps = [];
      groups = [];
      cells = bound.Void ∷ [];
    }
