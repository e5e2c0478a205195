use Rattle.std.proofs.Common.{◌≡◌, ◌-◌, List, refl, sym, ap, ◌∙◌, false, arith}
use Rattle.orc_tables.specs.declared.records.Step.{Step}
use Rattle.orc_tables.specs.Steps.{step_at, is_try}
use Rattle.orc_tables.proofs.Takers.{taker-stops}
use Rattle.orc_frames.proofs.Outwards.{on-feed, on-aid}
use Rattle.orc_frames.proofs.Taken.{is-past, get-step, next-round, none-whole}
use Rattle.orc_frames.specs.Spelling.{seen}
use Rattle.orc_frames.specs.Paths.{path}
use Rattle.orc_frames.specs.Taking.{taker}
use Rattle.orc_frames.proofs.takers.find_taker.Goals as goal

pub returns-in-SeqLeft-clause-takes : goal.returns-in-SeqLeft-clause-takes
returns-in-SeqLeft-clause-takes c code env left =
    let ss : List Step = c.args.steps.now.items in
    let t = c.taker.result in
    let g = get-step ss t c.in-Some.step (sym c.at.ensures ∙ c.in-Some.is) in
    (is-past ss c.requires.outwards c.args.from).way code env left
    ∙ ap (λ i. taker (seen left (path code env ss i))) (sym c.taker.ensures)
    ∙ on-feed ss c.requires.outwards t c.in-Some.step g.0 g.1 c.in-SeqLeft.name c.in-SeqLeft.node c.in-SeqLeft.scope c.in-SeqLeft.is code env left

pub returns-in-SeqLeft-clause-way : goal.returns-in-SeqLeft-clause-way
returns-in-SeqLeft-clause-way c =
    let ss : List Step = c.args.steps.now.items in
    let past = (is-past ss c.requires.outwards c.args.from).round in
    next-round ss c.args.from c.taker.result c.in-Some.step (sym c.at.ensures ∙ c.in-Some.is) (past.0, past.1 ∙ sym c.taker.ensures)

pub returns-in-PruneRight-clause-takes : goal.returns-in-PruneRight-clause-takes
returns-in-PruneRight-clause-takes c code env left =
    let ss : List Step = c.args.steps.now.items in
    let t = c.taker.result in
    let g = get-step ss t c.in-Some.step (sym c.at.ensures ∙ c.in-Some.is) in
    (is-past ss c.requires.outwards c.args.from).way code env left
    ∙ ap (λ i. taker (seen left (path code env ss i))) (sym c.taker.ensures)
    ∙ on-aid ss c.requires.outwards t c.in-Some.step g.0 g.1 c.in-PruneRight.cell c.in-PruneRight.is code env left

pub returns-in-SeqLeft-clause-entered : goal.returns-in-SeqLeft-clause-entered
returns-in-SeqLeft-clause-entered c =
    let ss : List Step = c.args.steps.now.items in
    (c.taker.result - 1, c.in-Some.step, (get-step ss c.taker.result c.in-Some.step (sym c.at.ensures ∙ c.in-Some.is)).1, c.in-SeqLeft.is, refl)

pub returns-in-PruneRight-clause-entered : goal.returns-in-PruneRight-clause-entered
returns-in-PruneRight-clause-entered c =
    let ss : List Step = c.args.steps.now.items in
    (c.taker.result - 1, c.in-Some.step, (get-step ss c.taker.result c.in-Some.step (sym c.at.ensures ∙ c.in-Some.is)).1, c.in-PruneRight.is, refl)

pub returns-in-OtherwiseLeft-clause-takes : goal.returns-in-OtherwiseLeft-clause-takes
returns-in-OtherwiseLeft-clause-takes c =
    let ss : List Step = c.args.steps.now.items in
    let stops : is_try c.in-Some.step.entered ≡ false = taker-stops ss c.requires.outwards c.args.from c.args.from (omega arith) c.in-Some.step (ap (step_at ss) (sym c.taker.ensures) ∙ sym c.at.ensures ∙ c.in-Some.is) in
    cc (sym stops ∙ ap is_try c.in-OtherwiseLeft.is)

pub returns-in-None-clause-takes : goal.returns-in-None-clause-takes
returns-in-None-clause-takes c code env left =
    let ss : List Step = c.args.steps.now.items in
    (is-past ss c.requires.outwards c.args.from).way code env left
    ∙ ap (λ i. taker (seen left (path code env ss i))) (sym c.taker.ensures)
    ∙ none-whole ss c.taker.result (sym c.at.ensures ∙ c.in-None.is) code env left
