use Rattle.std.proofs.Common.{◌≡◌, length, arith, subst}
use Rattle.orc_rules.specs.Timed.{IsIn}
use Rattle.orc_search.specs.Nodes.{small_at, smalls}
use Rattle.orc_schedules.specs.declared.states.Key.{Key}
use Rattle.orc_schedules.specs.declared.tables.Tables.{Tables}
use Rattle.orc_schedules.specs.Lists.{lists}
use Rattle.orc_schedules.specs.Reached.{Reached}
use Rattle.orc_schedules.specs.Seen.{kept_by}
use Rattle.orc_schedules.specs.Tables.{after, reached, reached_at}
use Rattle.orc_schedules.proofs.Adding.{added_one}
use Rattle.orc_schedules.proofs.Growing.{grows_self, grows_len, grows_added, in_map}
use Rattle.orc_schedules.proofs.Keeping.{states_known, ends_known}
use Rattle.orc_schedules.proofs.tables.Tables.follow.Goals as goal

pub returns-clause-all : goal.returns-clause-all
returns-clause-all c =
    let t = c.args.self.now in
    let key : Key = record { term = c.args.successor.now.to; made = c.in_ok-made.made; seen = c.in_ok-seen.seen } in
    let counts = grows_len t.counts c.after.new.self c.in_ok-made.ensures.kept in
    let values = grows_len (lists t.lists) (lists c.after-2.new.self) c.in_ok-seen.ensures.kept in (
      states_known (length (smalls t.terms)) (length t.counts) (length (lists t.lists)) (length (smalls t.terms)) (length c.after.new.self) (length (lists c.after-2.new.self)) (omega arith) counts values
          t.states c.add.new.self key c.in_ok-add.ensures.kept c.requires.all.0 (c.requires.to, c.in_ok-made.ensures.there, c.in_ok-seen.ensures.there),
      ends_known (length (lists t.lists)) (length (lists c.after-2.new.self)) values t.ends c.requires.all.1,
    )

pub returns-clause-kept : goal.returns-clause-kept
returns-clause-kept c =
    let t = c.args.self.now in
    let key : Key = record { term = c.args.successor.now.to; made = c.in_ok-made.made; seen = c.in_ok-seen.seen } in
    record { terms = grows_self (smalls t.terms); counts = c.in_ok-made.ensures.kept; lists = c.in_ok-seen.ensures.kept; states = grows_added t.states c.add.new.self key c.in_ok-add.ensures.kept; ends = grows_self t.ends; longest = omega arith }

pub returns-clause-followed : goal.returns-clause-followed
returns-clause-followed c =
    let t = c.args.self.now in
    let keep = kept_by c.args.sieve.now in
    let sites = c.args.answers.now.sites in
    let key : Key = record { term = c.args.successor.now.to; made = c.in_ok-made.made; seen = c.in_ok-seen.seen } in
    let u : Tables = record { terms = t.terms; counts = c.after.new.self; lists = c.after-2.new.self; states = c.add.new.self; ends = t.ends; longest = t.longest } in
    subst (λ (r : Reached). IsIn {X = Reached} r (reached sites u))
    (λ i. (record { term = small_at (smalls t.terms) c.args.successor.now.to; coming = c.in_ok-made.ensures.coming i }, c.in_ok-seen.ensures.list i))
    (in_map (reached_at sites u) key c.add.new.self c.in_ok-add.ensures.there)

pub returns-clause-added : goal.returns-clause-added
returns-clause-added c =
    let t = c.args.self.now in
    let keep = kept_by c.args.sieve.now in
    let sites = c.args.answers.now.sites in
    let key : Key = record { term = c.args.successor.now.to; made = c.in_ok-made.made; seen = c.in_ok-seen.seen } in
    let u : Tables = record { terms = t.terms; counts = c.after.new.self; lists = c.after-2.new.self; states = c.add.new.self; ends = t.ends; longest = t.longest } in
    added_one sites (λ (r : Reached). r ≡ after keep sites t c.args.from c.args.successor.now) t u key c.in_ok-add.ensures.kept
    (λ i. (record { term = small_at (smalls t.terms) c.args.successor.now.to; coming = c.in_ok-made.ensures.coming i }, c.in_ok-seen.ensures.list i))
