use Rattle.std.proofs.Common.{[], refl}
use Rattle.std.proofs.KnownBytes.{Appends-nil}
use Rattle.orc_run.proofs.outcomes.survey_text.Goals as goal

-- no text was made, and nothing was written
pub returns-in_default-clause-fault : goal.returns-in_default-clause-fault
returns-in_default-clause-fault g c =
    let loaded = c.in_ok-_loaded._loaded in
    let came = c.in_ok-_loaded.ensures in
    (c.in_ok-_loaded.seen.items, (loaded.program, loaded.answers, came.says, came.spells, came.survey), ([], _, refl, Appends-nil _))
