use Rattle.std.proofs.Common.{[], refl}
use Rattle.orc_rules.specs.Nodes.{source}
use Rattle.orc_rules.specs.Journal.{begin}
use Rattle.orc_outcome.specs.Outcome.{context}
use Rattle.orc_reference.proofs.history.History.new.Goals as goal

-- the empty journal
pub returns : goal.returns
returns c t =
    let l = c.args.program.now in
    record {
      journal = [];
      place = begin (source l);
      told = record { leads = refl; spells = c.in_ok-new.ensures (context l t) refl; values = c.new-2.ensures.items; entries = c.new-3.ensures };
      paid = refl;
      turns_are = refl;
    }
