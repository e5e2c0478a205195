use Rattle.std.proofs.Common.{◌≡◌, refl, arith}
use Rattle.std.proofs.lemmas.Bool.{eqb-true}
use Rattle.orc_search.specs.Moving.{happening_of}
use Rattle.orc_search.specs.Nodes.{smalls}
use Rattle.orc_schedules.specs.declared.tables.Tables.{Tables}
use Rattle.orc_schedules.specs.Seen.{kept_by}
use Rattle.orc_schedules.specs.Tables.{Keeps}
use Rattle.orc_schedules.proofs.Growing.{grows_self}
use Rattle.orc_schedules.proofs.Leading.{known_all, is_hidden}
use Rattle.orc_schedules.proofs.tables.Tables.is_unseen.Goals as goal

pub returns-then-made-from-clause-all : goal.returns-then-made-from-clause-all
returns-then-made-from-clause-all c =
    let t : Tables = c.args.self.now in
    let u : Tables = record { terms = t.terms; counts = c.after.new.self; lists = c.after-2.new.self; states = t.states; ends = t.ends; longest = t.longest } in
    let keeps : Keeps t u = record { terms = grows_self (smalls t.terms); counts = c.in_ok-made.ensures.kept; lists = c.in_ok-seen.ensures.kept; states = grows_self t.states; ends = grows_self t.ends; longest = omega arith } in
    known_all t u keeps refl refl c.requires.all

pub returns-clause-all : goal.returns-clause-all
returns-clause-all c =
    let t : Tables = c.args.self.now in
    let u : Tables = record { terms = t.terms; counts = c.after.new.self; lists = c.after-2.new.self; states = t.states; ends = t.ends; longest = t.longest } in
    let keeps : Keeps t u = record { terms = grows_self (smalls t.terms); counts = c.in_ok-made.ensures.kept; lists = c.in_ok-seen.ensures.kept; states = grows_self t.states; ends = grows_self t.ends; longest = omega arith } in
    known_all t u keeps refl refl c.requires.all

pub returns-clause-hidden : goal.returns-clause-hidden
returns-clause-hidden c = λ is.
    let t : Tables = c.args.self.now in
    let u : Tables = record { terms = t.terms; counts = c.after.new.self; lists = c.after-2.new.self; states = t.states; ends = t.ends; longest = t.longest } in
    let keeps : Keeps t u = record { terms = grows_self (smalls t.terms); counts = c.in_ok-made.ensures.kept; lists = c.in_ok-seen.ensures.kept; states = grows_self t.states; ends = grows_self t.ends; longest = omega arith } in
    let made : c.in_ok-made.made ≡ c.args.from.made = omega arith in
    is_hidden (kept_by c.args.sieve.now) c.args.answers.now.sites t u c.args.from c.in_ok-made.made c.in_ok-seen.seen (happening_of c.args.happening.now) keeps c.requires.from made (eqb-true c.in_ok-seen.seen c.args.from.seen is)
    c.in_ok-made.ensures.coming c.in_ok-seen.ensures.list
