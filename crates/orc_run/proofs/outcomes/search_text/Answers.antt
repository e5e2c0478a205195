-- What came of the program in all schedules was told.
use Rattle.std.proofs.Common.{refl, subst}
use Rattle.std.specs.Io.KnownBytes.{Appends}
use Rattle.orc_output.specs.Output.{AppendsPrefix}
use Rattle.orc_run.specs.Searched.{says_all}
use Rattle.orc_run.proofs.Searching.{all_told, not_told}
use Rattle.orc_run.proofs.outcomes.search_text.Goals as goal

-- memory was refused for what is told
pub returns-in_default-text_of-clause-fault : goal.returns-in_default-text_of-clause-fault
returns-in_default-text_of-clause-fault g c =
    let loaded = c.in_ok-loaded.loaded in
    let came = c.in_ok-loaded.ensures in
    not_told c.args.source.now c.args.script.now c.args.options.now.survey.orders c.args.options.now.survey.limit c.args.options.now.states loaded.program loaded.answers c.in_ok-loaded.seen.items came.says came.spells came.survey (g.W.Write.contents c.args.out.now)

-- it was written whole, or a prefix of it
pub returns-in-Ok-write_text-clause-searched : goal.returns-in-Ok-write_text-clause-searched
returns-in-Ok-write_text-clause-searched g c =
    let loaded = c.in_ok-loaded.loaded in
    let came = c.in_ok-loaded.ensures in
    let text = c.in-Ok-text_of.text.items in (
      text,
      all_told c.args.source.now c.args.script.now c.args.options.now.survey.orders c.args.options.now.survey.limit c.args.options.now.states loaded.program loaded.answers c.in_ok-loaded.seen.items came.says came.spells came.survey
          c.in-Ok.found c.as_slice.result.now text c.says_all.result c.in-Ok.ensures.all c.as_slice.ensures.value c.in-Ok-text_of.ensures c.says_all.ensures,
      subst (Appends (g.W.Write.contents c.args.out.now) (g.W.Write.contents c.write_text.new.out)) c.as_slice-2.ensures.value c.in-Ok-write_text.ensures.ok,
    )

pub returns-clause-fault : goal.returns-clause-fault
returns-clause-fault g c =
    let loaded = c.in_ok-loaded.loaded in
    let came = c.in_ok-loaded.ensures in
    let text = c.in-Ok-text_of.text.items in (
      text,
      says_all c.in-Ok.found,
      all_told c.args.source.now c.args.script.now c.args.options.now.survey.orders c.args.options.now.survey.limit c.args.options.now.states loaded.program loaded.answers c.in_ok-loaded.seen.items came.says came.spells came.survey
          c.in-Ok.found c.as_slice.result.now text _ c.in-Ok.ensures.all c.as_slice.ensures.value c.in-Ok-text_of.ensures refl,
      subst (AppendsPrefix (g.W.Write.contents c.args.out.now) (g.W.Write.contents c.write_text.new.out)) c.as_slice-2.ensures.value c.in-Err.ensures.err,
    )
