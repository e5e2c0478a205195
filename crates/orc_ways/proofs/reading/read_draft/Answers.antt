use Rattle.std.proofs.Common.{[], sym, arith}
use Rattle.std.specs.Prelude.{option_map}
use Rattle.orc_site.specs.Script.{lines}
use Rattle.orc_site.specs.Reading.{lines_behind}
use Rattle.orc_ways.specs.Drafts.{read_text}
use Rattle.orc_ways.specs.Drafting.{draft_of}
use Rattle.orc_ways.proofs.Texts.{started, goes_on, no_line_there, no_place_there}
use Rattle.orc_ways.proofs.reading.read_draft.Goals as goal

pub loop-draft-init : goal.loop-draft-init
loop-draft-init c = record { from_one = omega arith; left = omega (arith, c.requires); so_far = started c.args.text.now (draft_of c.new-draft.result) c.new-draft.ensures }

pub loop-draft-preserved : goal.loop-draft-preserved
loop-draft-preserved c =
    let behind = rw c.in-Some.is at c.split_line.ensures.shorter in
    let parts = rw c.in-Some.is at c.split_line.ensures.value in
    record {
      from_one = omega (arith, c.loop-draft.invariant.from_one);
      left = omega (arith, behind, c.loop-draft.invariant.left);
      so_far = goes_on (draft_of c.loop-draft.draft) (draft_of c.read_line.new.self) c.loop-draft.number c.split_line.result.0.now (lines c.in-Some.behind.now) (lines c.loop-draft.rest.now) _ (read_text c.args.text.now) parts c.in-Ok-Read.ensures c.in-Ok-Read.field-0-is c.loop-draft.invariant.so_far;
    }

pub returns-in_default-clause-read : goal.returns-in_default-clause-read
returns-in_default-clause-read c =
    let parts = rw c.in_default.is at c.split_line.ensures.value in
    sym (goes_on (draft_of c.loop-draft.draft) (draft_of c.read_line.new.self) c.loop-draft.number c.split_line.result.0.now [] (lines c.loop-draft.rest.now) _ (read_text c.args.text.now) parts c.in-Ok-Read.ensures c.in-Ok-Read.field-0-is c.loop-draft.invariant.so_far)

pub returns-in-Ok-NoLine-clause-fault : goal.returns-in-Ok-NoLine-clause-fault
returns-in-Ok-NoLine-clause-fault c = no_line_there (draft_of c.loop-draft.draft) (draft_of c.read_line.new.self) c.loop-draft.number c.split_line.result.0.now (lines_behind (option_map (λ t. t.now) c.split_line.result.1)) (lines c.loop-draft.rest.now) _ (read_text c.args.text.now) c.split_line.ensures.value c.in-Ok-NoLine.ensures c.in-Ok-NoLine.field-0-is c.loop-draft.invariant.so_far

pub returns-in-Ok-NoPlace-clause-fault : goal.returns-in-Ok-NoPlace-clause-fault
returns-in-Ok-NoPlace-clause-fault c = no_place_there (draft_of c.loop-draft.draft) (draft_of c.read_line.new.self) c.loop-draft.number c.split_line.result.0.now (lines_behind (option_map (λ t. t.now) c.split_line.result.1)) (lines c.loop-draft.rest.now) _ (read_text c.args.text.now) c.split_line.ensures.value c.in-Ok-NoPlace.ensures c.in-Ok-NoPlace.field-0-is c.loop-draft.invariant.so_far
