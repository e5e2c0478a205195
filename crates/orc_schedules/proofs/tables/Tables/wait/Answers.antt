use Rattle.std.proofs.Common.{◌≡◌, ℕ, length, arith, ap, subst, ◌∙◌}
use Rattle.orc_rules.specs.Timed.{IsIn}
use Rattle.orc_search.specs.Small.{nothing}
use Rattle.orc_search.specs.Nodes.{small_at, smalls}
use Rattle.orc_search.specs.States.{waits}
use Rattle.orc_search.specs.Ticks.{pass}
use Rattle.orc_search.proofs.Nodes.{same_len, within}
use Rattle.orc_schedules.specs.declared.states.Key.{Key}
use Rattle.orc_schedules.specs.declared.tables.Tables.{Tables}
use Rattle.orc_schedules.specs.Adding.{IsWaited}
use Rattle.orc_schedules.specs.Lists.{lists}
use Rattle.orc_schedules.specs.Reached.{Reached}
use Rattle.orc_schedules.specs.Seen.{kept_by, seen_after}
use Rattle.orc_schedules.specs.Tables.{coming_at, seen_at, reached, reached_at}
use Rattle.orc_schedules.proofs.Adding.{added_one, time_waited}
use Rattle.orc_schedules.proofs.Growing.{grows_self, grows_len, grows_added, get_or_is, in_map}
use Rattle.orc_schedules.proofs.Keeping.{ends_known, states_known, time_some}
use Rattle.orc_schedules.proofs.tables.Tables.wait.Goals as goal

pub changed-requires : goal.changed-requires
changed-requires c = let known = c.requires.from.0 in omega (arith, same_len c.args.self.now.terms, known)

pub returns-clause-all : goal.returns-clause-all
returns-clause-all c =
    let t = c.args.self.now in
    let terms = smalls c.changed.new.terms in
    let key : Key = record { term = c.in_ok-term.term; made = c.args.from.made; seen = c.in_ok-seen.seen } in
    let more = grows_len (smalls t.terms) terms c.in_ok-term.ensures.kept in
    let seen = grows_len (lists t.lists) (lists c.wait.new.self) c.in_ok-seen.ensures.kept in (
      states_known (length (smalls t.terms)) (length t.counts) (length (lists t.lists)) (length terms) (length t.counts) (length (lists c.wait.new.self)) more (omega arith) seen
          t.states c.add.new.self key c.in_ok-add.ensures.kept c.requires.all.0 (within terms c.in_ok-term.term _ c.in_ok-term.ensures.image, c.requires.from.1, c.in_ok-seen.ensures.there),
      ends_known (length (lists t.lists)) (length (lists c.wait.new.self)) seen t.ends c.requires.all.1,
    )

pub returns-clause-kept : goal.returns-clause-kept
returns-clause-kept c =
    let t = c.args.self.now in
    let key : Key = record { term = c.in_ok-term.term; made = c.args.from.made; seen = c.in_ok-seen.seen } in
    let longest = c.max-self.ensures in
    record { terms = c.in_ok-term.ensures.kept; counts = grows_self t.counts; lists = c.in_ok-seen.ensures.kept; states = grows_added t.states c.add.new.self key c.in_ok-add.ensures.kept; ends = grows_self t.ends; longest = omega (arith, longest) }

pub returns-clause-waited : goal.returns-clause-waited
returns-clause-waited c = λ sites by h.
    let t = c.args.self.now in
    let f = small_at (smalls t.terms) c.args.from.term in
    let key : Key = record { term = c.in_ok-term.term; made = c.args.from.made; seen = c.in_ok-seen.seen } in
    let u : Tables = record { terms = c.changed.new.terms; counts = t.counts; lists = c.wait.new.self; states = c.add.new.self; ends = t.ends; longest = c.max-self.result } in
    let same : c.in-Some.by ≡ by = time_some f c.summary.result c.in-Some.by by c.summary.ensures c.in-Some.is h in
    let term : small_at (smalls c.changed.new.terms) c.in_ok-term.term ≡ pass by f = get_or_is (smalls c.changed.new.terms) c.in_ok-term.term (pass c.in-Some.by f) nothing c.in_ok-term.ensures.image ∙ ap (λ (n : ℕ). pass n f) same in
    let longest = c.max-self.ensures in (
      omega (arith, longest, same),
      subst (λ (r : Reached). IsIn {X = Reached} r (reached sites u)) (λ i. (record { term = term i; coming = coming_at sites t c.args.from.made }, (c.in_ok-seen.ensures.list ∙ ap (λ (n : ℕ). seen_after (kept_by c.args.sieve.now) (seen_at t c.args.from.seen) (waits n)) same) i))
          (in_map (reached_at sites u) key c.add.new.self c.in_ok-add.ensures.there),
    )

pub returns-clause-added : goal.returns-clause-added
returns-clause-added c = λ sites.
    let t = c.args.self.now in
    let f = small_at (smalls t.terms) c.args.from.term in
    let by : ℕ = c.in-Some.by in
    let key : Key = record { term = c.in_ok-term.term; made = c.args.from.made; seen = c.in_ok-seen.seen } in
    let u : Tables = record { terms = c.changed.new.terms; counts = t.counts; lists = c.wait.new.self; states = c.add.new.self; ends = t.ends; longest = c.max-self.result } in
    let term : small_at (smalls c.changed.new.terms) c.in_ok-term.term ≡ pass by f = get_or_is (smalls c.changed.new.terms) c.in_ok-term.term (pass by f) nothing c.in_ok-term.ensures.image in
    let longest = c.max-self.ensures in
    added_one sites (IsWaited (kept_by c.args.sieve.now) sites t c.args.from u.longest) t u key c.in_ok-add.ensures.kept
    (by, time_waited f c.summary.result by c.summary.ensures c.in-Some.is c.if-by-eq0.false, (λ i. (record { term = term i; coming = coming_at sites t c.args.from.made }, c.in_ok-seen.ensures.list i)), omega (arith, longest))
