use Rattle.std.proofs.Common.{rules}
use Rattle.orc_run.specs.Running.{IsOwnOf, written}
use Rattle.orc_run.proofs.Told.{told, shown, taken}
use Rattle.orc_run.proofs.runner.run_source.Goals as goal

-- the run of which what is wanted was written
pub returns-in-Ok-clause-ran : goal.returns-in-Ok-clause-ran
returns-in-Ok-clause-ran g c =
    let loaded = c.in_ok-loaded.loaded in
    let played = c.in_ok-played.played in
    let run = c.in_ok-played.ensures.ran in
    let shows = shown loaded.program loaded.answers c.args.options.now played.summary played.published.items played.journal run c.in_ok-played.ensures.kept in
    let tells = told loaded.program loaded.answers c.args.options.now played.summary played.published.items played.journal run (c.in-Ok.ensures.fits run.outcome.journal shows) in
    let text = written c.args.options.now.wanted loaded.answers.names run.outcome.journal in
    (text, (loaded.program, loaded.answers, c.in_ok-loaded.ensures.says, c.in_ok-loaded.ensures.spells, tells), c.in-Ok.ensures.ok run.outcome.journal shows)

-- a prefix of it was written
pub returns-in-Err-clause-fault : goal.returns-in-Err-clause-fault
returns-in-Err-clause-fault g c =
    let loaded = c.in_ok-loaded.loaded in
    let played = c.in_ok-played.played in
    let run = c.in_ok-played.ensures.ran in
    let shows = shown loaded.program loaded.answers c.args.options.now played.summary played.published.items played.journal run c.in_ok-played.ensures.kept in
    (loaded.program, loaded.answers, run.outcome, c.in_ok-loaded.ensures.says, c.in_ok-loaded.ensures.spells, run.is_run, c.in-Err.ensures.err run.outcome.journal shows)

-- a fault of the engine's own comes of no program that was loaded
pub returns-in_err-played-clause-sound : goal.returns-in_err-played-clause-sound
returns-in_err-played-clause-sound g c =
    let loaded = c.in_ok-loaded.loaded in
    let good = taken c.args.source.now loaded.answers loaded.program c.in_ok-loaded.ensures.spells in
    let unowned : IsOwnOf c.in_err-played.field-0.0 → ⊥ = λ own. c.in_err-played.ensures.sound own good in
    search (rules, unowned)
