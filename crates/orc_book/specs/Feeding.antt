-- What a token publishes into a `>x>`.
use Rattle.std.specs.Prelude.{◌≡◌}
use Rattle.orc_rules.specs.Nodes.{Listing, code, definitions}
use Rattle.orc_frames.specs.Paths.{has_published}
use Rattle.orc_frames.specs.Taking.{Takes, IsOnWay}
use Rattle.orc_frames.specs.declared.action.Action.TheVariants.{Send}
use Rattle.orc_frames.specs.declared.takers.Taker.TheVariants.{SeqLeft}
use Rattle.orc_ledger_spec.specs.Records.{Records, its_env}
use Rattle.orc_ledger_spec.specs.Doing.{what_of}
use Rattle.orc_ledger_spec.specs.Moves.{IsThere}
use Rattle.orc_tables.specs.declared.records.Token.{Token}
use Rattle.orc_book.specs.declared.send.Fed.{Fed}

-- the token publishes the value, and this `>x>` takes it
abbrev pub IsFedBy : Listing → Records → Token → Fed → Type 0
IsFedBy l s t f =
    (what_of (code l) (definitions l) s t ≡ Send f.value)
    × Takes (code l) (its_env (code l) s) (has_published s.steps) s.steps t.step (SeqLeft f.name f.right f.scope f.outer)
    × IsOnWay s.steps t.step (SeqLeft f.name f.right f.scope f.outer)
    × IsThere s (SeqLeft f.name f.right f.scope f.outer)
