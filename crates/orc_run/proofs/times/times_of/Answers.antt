use Rattle.std.proofs.Common.{◌+◌, ◌++◌, drop, ap, sym, ◌∙◌}
use Rattle.orc_run.specs.Times.{timed}
use Rattle.orc_run.proofs.Timing.{publishes, ticks, goes_on}
use Rattle.orc_run.proofs.times.times_of.Goals as goal
use Rattle.orc_run.proofs.times.times_of.Goals.{in-Publish+in_ok-write_line-in-Publish, in-Tick, in_default-entry}

pub loop-at-preserved : goal.loop-at-preserved
loop-at-preserved c =
    let es = c.args.journal.now.entries in
    let told = c.loop-at.lines.items in
    let now = c.loop-at.now in
    let i = c.loop-at.at in
    let e = c.in-Some.entry in
    let here = sym c.get.ensures ∙ c.in-Some.is in
    let so_far = c.loop-at.invariant in
    elim c.match-entry.branch [
      | in-Publish+in_ok-write_line-in-Publish w ↦
          publishes es told now i so_far e here w.in-Publish.field-0 w.in-Publish.value w.in-Publish.is
          ∙ ap (λ ls. ls ++ timed now (drop (i + 1) es)) (sym w.in_ok-write_line-in-Publish.ensures ∙ ap (λ ls. ls.items) (sym w.lines-is))
          ∙ ap (λ n. c.match-entry.lines.items ++ timed n (drop (i + 1) es)) (sym w.now-is)
      | in-Tick w ↦
          ticks es told now i so_far e here w.in-Tick.time w.in-Tick.is
          ∙ ap (λ ls. ls.items ++ timed w.in-Tick.time (drop (i + 1) es)) (sym w.lines-is)
          ∙ ap (λ n. c.match-entry.lines.items ++ timed n (drop (i + 1) es)) (sym w.now-is)
      | in_default-entry w ↦
          goes_on es told now i so_far e here w.in_default-entry.not-Publish w.in_default-entry.not-Tick
          ∙ ap (λ ls. ls.items ++ timed now (drop (i + 1) es)) (sym w.lines-is)
          ∙ ap (λ n. c.match-entry.lines.items ++ timed n (drop (i + 1) es)) (sym w.now-is)
    ]
