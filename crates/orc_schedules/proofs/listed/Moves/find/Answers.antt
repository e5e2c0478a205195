use Rattle.std.proofs.Common.{◌≡◌, ◌<◌, List, [], ◌∷◌, ◌++◌, length, sym, subst, ◌∙◌, arith}
use Rattle.orc_search.specs.declared.made.Made.{Made}
use Rattle.orc_search.specs.Nodes.{small_at, smalls}
use Rattle.orc_search.specs.Programs.{small_definitions}
use Rattle.orc_search.specs.Small.{nothing}
use Rattle.orc_search.proofs.Nodes.{same_len}
use Rattle.orc_schedules.specs.declared.listed.Listed.{Listed}
use Rattle.orc_schedules.specs.Listed.{AreNext, IsListed}
use Rattle.orc_schedules.proofs.Growing.{grows_len, grows_or, grows_self}
use Rattle.orc_schedules.proofs.Listing.{last_listed, next_kept, of_listed, one_listed}
use Rattle.orc_schedules.proofs.listed.Moves.find.Goals as goal

pub successors-requires-clause-there : goal.successors-requires-clause-there
successors-requires-clause-there c = let known = c.requires.term in omega (arith, same_len c.args.terms.now, known)

pub returns-then-stands_at-clause-all : goal.returns-then-stands_at-clause-all
returns-then-stands_at-clause-all c =
    of_listed (small_definitions c.args.source.now.program.now) c.args.source.now.answers.now.sites (smalls c.args.terms.now) c.args.counts.now c.args.self.now c.args.from c.in-Some.at c.requires.listed
    (c.stands_at.ensures c.if-stands_at.true)

pub returns : goal.returns
returns c =
    let defs = small_definitions c.args.source.now.program.now in
    let sites = c.args.source.now.answers.now.sites in
    let ts = smalls c.args.terms.now in
    let us = smalls c.successors.new.terms in
    let cs = c.args.counts.now in
    let k = c.args.from in
    let l : Listed = record { term = k.term; made = k.made; next = c.in_ok-next.next } in
    let kept = c.make_room.new.self in
    let grown = c.in_ok-next.ensures.kept in
    let more : c.remember.new.self ≡ kept ++ l ∷ [] = c.remember.ensures ∙ c.in_ok-at.ensures.added in
    let all : AreNext defs sites us cs k.made (small_at ts k.term) l.next.items =
    subst (λ (calls : List Made). AreNext defs sites us (calls ∷ []) 0 (small_at ts k.term) l.next.items) c.made.ensures c.in_ok-next.ensures.all in
    let within : k.term < length us = let lt = c.requires.term in let le = grows_len ts us grown in omega (arith, lt, le) in
    let here : IsListed defs sites us cs l = record {
      term = within;
      made = c.requires.made;
      all = next_kept defs sites us us cs cs k.made (small_at ts k.term) (small_at us k.term) l.next.items (grows_self us) (grows_self cs) c.requires.made (sym (grows_or ts us k.term nothing grown c.requires.term)) all;
    } in
    record {
      listed = one_listed defs sites ts us cs c.args.self.now kept c.remember.new.self l grown c.requires.listed c.make_room.ensures more here;
      all = last_listed defs sites us cs kept c.remember.new.self l c.in_ok-at.at (small_at ts k.term) c.in_ok-at.ensures.number more all;
      kept = grown;
    }
