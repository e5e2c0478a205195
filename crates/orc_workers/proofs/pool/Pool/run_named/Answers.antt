use Rattle.std.proofs.Common.{◌≡◌, true, sym, subst, rules}
use Rattle.std.specs.Prelude.{MatchOption, is_some}
use Rattle.orc_outcome.specs.Outcome.{IsPlayed}
use Rattle.orc_workers.proofs.pool.Pool.run_named.Goals as goal

pub returns-in-Ok-Some-clause-played : goal.returns-in-Ok-Some-clause-played
returns-in-Ok-Some-clause-played g c =
    let p = c.in-Ok-Some.played in
    let t = c.new-inputs.result.answers.now in
    let finished : IsPlayed g.P.Run.listing t g.P.Run.limit p.summary p.published.items p.journal = search rules in
    let told = subst (λ z. IsPlayed g.P.Run.listing z g.P.Run.limit p.summary p.published.items p.journal) c.new-inputs.ensures.answers finished in
    subst (λ n. IsPlayed c.args.program.now c.args.answers.now n p.summary p.published.items p.journal) (sym c.requires.named)
    (subst (λ l. IsPlayed l c.args.answers.now g.P.Run.limit p.summary p.published.items p.journal) (sym c.requires.program) told)

-- whose journal is kept can be told how it ends
pub unreachable-requires : goal.unreachable-requires
unreachable-requires g c = subst (λ played. MatchOption played ⊥ (λ p. is_some p.journal ≡ true)) c.in-Ok-None.field-0-is (c.in-Ok-None.ensures.kept c.requires.kept)
