-- What the journal of a ledger is, as a whole.
use Rattle.std.specs.Prelude.{◌≡◌, ◌≤◌, List, [], Bool, true, false}
use Rattle.orc_rules.specs.Nodes.{Listing, source}
use Rattle.orc_rules.specs.Sites.{Site}
use Rattle.orc_rules.specs.Journal.{Place, Journal, begin}
use Rattle.orc_journal.specs.Written.{count}
use Rattle.orc_ledger_spec.specs.Records.{Records, context}
use Rattle.orc_frames.specs.declared.action.Action.{Action}
use Rattle.orc_frames.specs.declared.action.Action.TheVariants.{Halt, Fork, Seq, Other, Wait}

-- the journal leads from the program's term to a place where no cancel is due, at the ledger's time; the ledger says how many entries it has,
-- cancels not counted, and those are within its limit
pub record IsWhole (l : Listing) (sites : List Site) (s : Records) : Type 0 where
  pub place : Place
  pub leads : Journal (context l sites) (begin (source l)) s.journal place
  pub paid : place.to_cancel ≡ []
  pub now : place.now ≡ s.now
  pub entries : count s.journal ≡ s.entries
  pub within : s.entries ≤ s.limit

-- what a token does by a rule: it neither waits nor makes a move of marks
abbrev pub is_rule : Action → Bool
is_rule Halt = false
is_rule Fork = false
is_rule Seq = false
is_rule Other = false
is_rule (Wait c) = false
is_rule _ = true
