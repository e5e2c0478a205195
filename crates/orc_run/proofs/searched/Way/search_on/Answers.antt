-- What a search says of the explored program, it says of the way's.
use Rattle.std.proofs.Common.{◌∙◌, List, subst}
use Rattle.orc_rules.specs.Nodes.{Listing}
use Rattle.orc_rules.specs.Sites.{Table}
use Rattle.orc_tally.specs.declared.sight.ClaimSite.{ClaimSite}
use Rattle.orc_schedules.specs.Claimed.{IsClaimSearched}
use Rattle.orc_schedules.specs.Explored.{answers_of, program_of}
use Rattle.orc_run.proofs.searched.Way.search_on.Goals as goal

pub returns : goal.returns
returns c =
    let w = c.args.self.now in
    let found = c.in_ok-found.found in
    let says = c.in_ok-found.ensures in
    record {
      searched = subst (λ (a : Table). IsClaimSearched w.loaded.program a w.sites.items c.args.claim.now c.args.limit found) c.requires.answers
          (subst (λ (l : Listing). IsClaimSearched l (answers_of c.args.explorer.now) w.sites.items c.args.claim.now c.args.limit found) c.requires.program
          (subst (λ (ss : List ClaimSite). IsClaimSearched (program_of c.args.explorer.now) (answers_of c.args.explorer.now) ss c.args.claim.now c.args.limit found) c.as_slice.ensures.value says.searched));
      ready = record { ready = says.ready; program = says.program ∙ c.requires.program; answers = says.answers ∙ c.requires.answers };
    }
