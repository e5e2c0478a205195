use Rattle.std.proofs.Common.{rules, arith, ◌≡◌, ◌≤◌, length}
use Rattle.orc_journal.specs.declared.journal.Version.TheVariants.{Two}
use Rattle.orc_certify.proofs.Certifying.{run_of}
use Rattle.orc_certify.proofs.certificate.check.Goals as goal

-- the journal is that of a run of the program that was loaded
pub returns : goal.returns
returns c =
    let l = c.in-Ok.loaded.program in
    let t = c.in-Ok.loaded.answers in
    let j = c.in-Ok-read_journal.journal in
    let verdict = c.in-Ok-check_journal.verdict in
    let two : j.version ≡ Two = search rules in
    let few : length j.entries ≤ c.args.limit = omega (arith, c.if-len-limit.false, c.len.ensures) in
    let run = run_of l t c.args.limit c.args.text.now j verdict.state verdict.now c.in_ok-end.end two c.in-Ok-check_journal.ensures.verdict few c.in_ok-end.ensures c.in-Ok-read_journal.ensures.read in
    (l, t, c.in-Ok.ensures.says, c.in-Ok.ensures.spells, run)
