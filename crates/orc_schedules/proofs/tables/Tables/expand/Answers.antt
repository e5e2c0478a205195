use Rattle.std.proofs.Common.{◌≡◌, ◌<◌, List, [], length, sym, ap, subst, ◌∙◌}
use Rattle.std.proofs.lemmas.Bool.{eqb-true, eq-eqb}
use Rattle.std.specs.List.{AllZip}
use Rattle.std.specs.Prelude.{slice_get}
use Rattle.orc_search.specs.declared.successor.Successor.{Successor}
use Rattle.orc_search.specs.Asked.{coming_of_made}
use Rattle.orc_search.specs.Moving.{IsSuccessor}
use Rattle.orc_search.specs.Nodes.{small_at, smalls}
use Rattle.orc_search.specs.Programs.{small_definitions}
use Rattle.orc_search.specs.States.{next_call}
use Rattle.orc_search.specs.Successors.{moves}
use Rattle.orc_search.proofs.Nodes.{within}
use Rattle.orc_schedules.specs.declared.tables.Tables.{Tables}
use Rattle.orc_schedules.specs.Counts.{made_at}
use Rattle.orc_schedules.specs.Listed.{next_at}
use Rattle.orc_schedules.specs.Seen.{kept_by}
use Rattle.orc_schedules.proofs.Adding.{still_found, moving_found}
use Rattle.orc_schedules.proofs.Growing.{none_of_len}
use Rattle.orc_schedules.proofs.Keeping.{zip_each, terms_keep, keeps_both, moving_done, still_done}
use Rattle.orc_schedules.proofs.Listing.{all_kept}
use Rattle.orc_schedules.proofs.tables.Tables.expand.Goals as goal

pub follow_all-requires-clause-to : goal.follow_all-requires-clause-to
follow_all-requires-clause-to c = λ i s h.
    let terms = smalls c.find.new.terms in
    let listed = moves (small_definitions c.args.source.now.program.now) (next_call (coming_of_made c.args.source.now.answers.now.sites (made_at c.args.self.now.counts c.args.from.made))) 0 (small_at (smalls c.args.self.now.terms) c.args.from.term) in
    zip_each (IsSuccessor terms) (λ (x : Successor). x.to < length terms) (λ x y r. within terms x.to y.1 r.1) (next_at c.find.new.self c.in_ok-at.at) listed c.in_ok-at.ensures.all i s
    (ap (λ (xs : List Successor). slice_get xs i) (sym c.next-next.ensures) ∙ h)

pub returns-then-is_empty-clause-done : goal.returns-then-is_empty-clause-done
returns-then-is_empty-clause-done c =
    let t = c.args.self.now in
    let defs = small_definitions c.args.source.now.program.now in
    let keep = kept_by c.args.sieve.now in
    let sites = c.args.source.now.answers.now.sites in
    let terms = c.find.new.terms in
    let k = c.args.from in
    let next = c.next-next.result.now in
    let all : AllZip (IsSuccessor (smalls terms)) next (moves defs (next_call (coming_of_made sites (made_at t.counts k.made))) 0 (small_at (smalls t.terms) k.term)) =
    subst (λ (xs : List Successor). AllZip (IsSuccessor (smalls terms)) xs (moves defs (next_call (coming_of_made sites (made_at t.counts k.made))) 0 (small_at (smalls t.terms) k.term))) (sym c.next-next.ensures) c.in_ok-at.ensures.all in
    let u = c.follow_all.new.self in
    let w = c.wait.new.self in
    let v = c.tell.new.self in
    let grown = terms_keep t terms c.in_ok-at.ensures.kept in
    let first : Tables = record { terms = terms; counts = t.counts; lists = t.lists; states = t.states; ends = t.ends; longest = t.longest } in
    let keeps = keeps_both t first u grown c.in_ok-follow_all.ensures.kept in
    let none = none_of_len next (eqb-true (length next) 0 (sym c.is_empty.ensures ∙ c.if-is_empty.true)) in
    still_done defs keep sites t terms k next all u w none keeps c.requires.from c.in_ok-wait.ensures.waited v (keeps_both t u w keeps c.in_ok-wait.ensures.kept) c.in_ok-wait.ensures.all c.in_ok-tell.ensures.kept c.in_ok-tell.ensures.told

pub returns-clause-done : goal.returns-clause-done
returns-clause-done c =
    let t = c.args.self.now in
    let defs = small_definitions c.args.source.now.program.now in
    let keep = kept_by c.args.sieve.now in
    let sites = c.args.source.now.answers.now.sites in
    let terms = c.find.new.terms in
    let k = c.args.from in
    let next = c.next-next.result.now in
    let all : AllZip (IsSuccessor (smalls terms)) next (moves defs (next_call (coming_of_made sites (made_at t.counts k.made))) 0 (small_at (smalls t.terms) k.term)) =
    subst (λ (xs : List Successor). AllZip (IsSuccessor (smalls terms)) xs (moves defs (next_call (coming_of_made sites (made_at t.counts k.made))) 0 (small_at (smalls t.terms) k.term))) (sym c.next-next.ensures) c.in_ok-at.ensures.all in
    let u = c.follow_all.new.self in
    let v = c.tell-2.new.self in
    let grown = terms_keep t terms c.in_ok-at.ensures.kept in
    let first : Tables = record { terms = terms; counts = t.counts; lists = t.lists; states = t.states; ends = t.ends; longest = t.longest } in
    let keeps = keeps_both t first u grown c.in_ok-follow_all.ensures.kept in
    let some : next ≡ [] → ⊥ = λ e.
    let tested = eq-eqb (length next) 0 (ap length e) in
    let empty = sym c.is_empty.ensures ∙ c.if-is_empty.false in
    cc (tested, empty) in
    moving_done defs keep sites t terms k next all u v some keeps c.in_ok-follow_all.ensures.all c.requires.from c.in_ok-tell-2.ensures.kept
    c.in_ok-follow_all.ensures.followed c.in_ok-tell-2.ensures.told

pub returns-then-is_empty-clause-found : goal.returns-then-is_empty-clause-found
returns-then-is_empty-clause-found c = λ begin behind is leads found.
    let t = c.args.self.now in
    let defs = small_definitions c.args.source.now.program.now in
    let keep = kept_by c.args.sieve.now in
    let sites = c.args.source.now.answers.now.sites in
    let terms = c.find.new.terms in
    let k = c.args.from in
    let next = c.next-next.result.now in
    let f = small_at (smalls t.terms) k.term in
    let ask = next_call (coming_of_made sites (made_at t.counts k.made)) in
    let all : AllZip (IsSuccessor (smalls terms)) next (moves defs ask 0 f) =
    subst (λ (xs : List Successor). AllZip (IsSuccessor (smalls terms)) xs (moves defs (next_call (coming_of_made sites (made_at t.counts k.made))) 0 (small_at (smalls t.terms) k.term))) (sym c.next-next.ensures) c.in_ok-at.ensures.all in
    let u = c.follow_all.new.self in
    let w = c.wait.new.self in
    let v = c.tell.new.self in
    let grown = terms_keep t terms c.in_ok-at.ensures.kept in
    let first : Tables = record { terms = terms; counts = t.counts; lists = t.lists; states = t.states; ends = t.ends; longest = t.longest } in
    let keeps = keeps_both t first u grown c.in_ok-follow_all.ensures.kept in
    let none = none_of_len next (eqb-true (length next) 0 (sym c.is_empty.ensures ∙ c.if-is_empty.true)) in
    let adds = c.in_ok-follow_all.ensures.added in
    still_found defs keep sites begin t u w v behind k terms next all none c.requires.all keeps c.in_ok-follow_all.ensures.all c.in_ok-wait.ensures.kept c.in_ok-wait.ensures.all c.in_ok-tell.ensures.kept c.requires.from is leads
    adds c.in_ok-follow_all.ensures.ends (c.in_ok-wait.ensures.added sites) c.in_ok-wait.ensures.ends c.in_ok-tell.ensures.states c.in_ok-tell.ensures.added found

pub returns-clause-found : goal.returns-clause-found
returns-clause-found c = λ begin behind is leads found.
    let t = c.args.self.now in
    let defs = small_definitions c.args.source.now.program.now in
    let keep = kept_by c.args.sieve.now in
    let sites = c.args.source.now.answers.now.sites in
    let terms = c.find.new.terms in
    let k = c.args.from in
    let next = c.next-next.result.now in
    let f = small_at (smalls t.terms) k.term in
    let ask = next_call (coming_of_made sites (made_at t.counts k.made)) in
    let all : AllZip (IsSuccessor (smalls terms)) next (moves defs ask 0 f) =
    subst (λ (xs : List Successor). AllZip (IsSuccessor (smalls terms)) xs (moves defs (next_call (coming_of_made sites (made_at t.counts k.made))) 0 (small_at (smalls t.terms) k.term))) (sym c.next-next.ensures) c.in_ok-at.ensures.all in
    let u = c.follow_all.new.self in
    let v = c.tell-2.new.self in
    let grown = terms_keep t terms c.in_ok-at.ensures.kept in
    let first : Tables = record { terms = terms; counts = t.counts; lists = t.lists; states = t.states; ends = t.ends; longest = t.longest } in
    let keeps = keeps_both t first u grown c.in_ok-follow_all.ensures.kept in
    let adds = c.in_ok-follow_all.ensures.added in
    moving_found defs keep sites begin t u v behind k terms next all c.requires.all keeps c.in_ok-follow_all.ensures.all c.in_ok-tell-2.ensures.kept c.requires.from is leads
    adds c.in_ok-follow_all.ensures.ends c.in_ok-tell-2.ensures.states c.in_ok-tell-2.ensures.added found

pub returns-then-is_empty-clause-listed : goal.returns-then-is_empty-clause-listed
returns-then-is_empty-clause-listed c =
    let u = c.follow_all.new.self in
    let w = c.wait.new.self in
    let v = c.tell.new.self in
    let t : Tables = record c.args.self.now { terms = c.find.new.terms } in
    let kept = keeps_both t u v c.in_ok-follow_all.ensures.kept (keeps_both u w v c.in_ok-wait.ensures.kept c.in_ok-tell.ensures.kept) in
    all_kept (small_definitions c.args.source.now.program.now) c.args.source.now.answers.now.sites (smalls t.terms) (smalls v.terms) t.counts v.counts c.find.new.self kept.terms kept.counts c.in_ok-at.ensures.listed

pub returns-clause-listed : goal.returns-clause-listed
returns-clause-listed c =
    let u = c.follow_all.new.self in
    let v = c.tell-2.new.self in
    let t : Tables = record c.args.self.now { terms = c.find.new.terms } in
    let kept = keeps_both t u v c.in_ok-follow_all.ensures.kept c.in_ok-tell-2.ensures.kept in
    all_kept (small_definitions c.args.source.now.program.now) c.args.source.now.answers.now.sites (smalls t.terms) (smalls v.terms) t.counts v.counts c.find.new.self kept.terms kept.counts c.in_ok-at.ensures.listed
