use Rattle.std.proofs.Common.{◌≡◌, [], refl, sym, subst, ◌∙◌, take, arith}
use Rattle.std.proofs.lemmas.List.{take_all}
use Rattle.orc_rules.specs.Nodes.{code, source}
use Rattle.orc_rules.specs.Journal.{Journal, begin}
use Rattle.orc_checker.specs.Checker.{Spells}
use Rattle.orc_outcome.specs.Outcome.{context}
use Rattle.orc_ledger_spec.proofs.Keeping.{journal_one}
use Rattle.orc_scheduler.proofs.Reading.{spelt-more}
use Rattle.orc_scheduler.proofs.quiet.is_quiet_at.Goals as goal

pub loop-at-init : goal.loop-at-init
loop-at-init c = (begin (source c.args.program.now), refl, c.in-Ok.ensures (context c.args.program.now c.args.answers.now) refl)

pub loop-at-preserved : goal.loop-at-preserved
loop-at-preserved c =
    spelt-more c.args.program.now c.args.answers.now c.args.journal.now.entries c.loop-at.at c.in-Some.entry c.loop-at.marked c.step.new.self (sym c.get.ensures ∙ c.in-Some.is) c.loop-at.invariant c.in-Ok-step.ensures.done

pub returns : goal.returns
returns c p at =
    let l = c.args.program.now in
    let t = c.args.answers.now in
    let es = c.args.journal.now.entries in
    let (q, leads, spells) = c.loop-at.invariant in
    let all : take c.loop-at.at es ≡ es = take_all c.loop-at.at es (omega (arith, c.loop-at-test.false, c.len-at-end.ensures)) in
    let same : q ≡ p = journal_one (context l t) (source l) [] (begin (source l)) q p es refl (subst (λ z. Journal (context l t) (begin (source l)) z q) all leads) at in
    c.is_quiet.ensures.quiet (context l t) p refl (subst (λ z. Spells (context l t) (code l) c.loop-at.marked z) same spells)
