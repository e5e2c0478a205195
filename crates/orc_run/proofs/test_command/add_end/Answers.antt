-- The claim stands behind those that were read.
use Rattle.std.proofs.Common.{None, refl, true}
use Rattle.orc_claims.specs.declared.claim.Plain.TheVariants.{Ends}
use Rattle.orc_run.proofs.test_command.add_end.Goals as goal

pub returns : goal.returns
returns c = record {
  sites = refl;
  services = refl;
  lines = refl;
  cases = refl;
  end = record { conditions = c.new.result; plain = Ends true true None };
  of_end = record { always = c.new.ensures.items; plain = refl };
  claims = c.in_ok-push.ensures.items;
}
