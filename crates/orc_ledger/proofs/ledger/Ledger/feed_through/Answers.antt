use Rattle.std.proofs.Common.{◌≡◌, ◌∙◌, [], map, length, ap, refl, subst, sym}
use Rattle.std.specs.Prelude.{slice_index_or}
use Rattle.std.proofs.lemmas.Result.{err_from_is_err_and}
use Rattle.orc_rules.specs.Nodes.{Listing, code, param_of}
use Rattle.orc_rules.specs.Term.{site}
use Rattle.orc_ledger_spec.specs.Records.{Records, Sound}
use Rattle.orc_ledger_spec.specs.Moves.{Feeds}
use Rattle.orc_frames.specs.declared.action.Action.TheVariants.{Seq}
use Rattle.orc_ledger_spec.proofs.Advancing.{word-seq, moves-by, hindered-by}
use Rattle.orc_ledger_spec.proofs.Onward.{fed-held, fed-passes}
use Rattle.orc_ledger_spec.proofs.Cleared.{through-vacant, halted-vacant}
use Rattle.orc_ledger.proofs.Others.{on-others, same-all, on-all}
use Rattle.orc_ledger.proofs.ledger.Ledger.feed_through.Goals as goal

pub returns-in_err-feed-clause-why : goal.returns-in_err-feed-clause-why
returns-in_err-feed-clause-why g c =
    let l = g.P.Run.listing in
    let a = c.args in
    let p = err_from_is_err_and c.from_residual.result c.from_residual.ensures.1 in
    rw (p.1, p.2) (hindered-by l a.self.now a.token _ Seq (word-seq l a.self.now a.token a.scope (code l a.sequence.left) a.sequence.name (code l a.sequence.right) c.requires.at) c.in_err-feed.ensures.why)

pub returns-in_default : goal.returns-in_default
returns-in_default g c =
    let l = g.P.Run.listing in
    let a = c.args in
    let enters : Feeds l a.self.now a.slot a.token c.feed.new.self = record { scope = a.scope; left = a.sequence.left; name = a.sequence.name; right = a.sequence.right; at = c.requires.at; done = c.in_ok-feed.ensures.done; held = c.in_ok-feed.ensures.left } in
    record { done = λ ks. moves-by l a.self.now a.token a.slot _ _ ks Seq (word-seq l a.self.now a.token a.scope (code l a.sequence.left) a.sequence.name (code l a.sequence.right) c.requires.at) enters; others = c.in_ok-feed.ensures.others; refused = tt; why = tt }

pub call_on-requires-clause-at : goal.call_on-requires-clause-at
call_on-requires-clause-at g c =
    let a = c.args in
    let n = c.in-Site in
    (a.sequence.left, refl, subst (λ (z : Listing). code z a.sequence.left ≡ site n.site (map param_of (slice_index_or z.lists n.list []))) c.args.inputs.now.its_graph n.ensures.term)

pub shed-requires : goal.shed-requires
shed-requires g c =
    let l = g.P.Run.listing in
    let a = c.args in
    let enters : Feeds l a.self.now a.slot a.token c.feed.new.self = record { scope = a.scope; left = a.sequence.left; name = a.sequence.name; right = a.sequence.right; at = c.requires.at; done = c.in_ok-feed.ensures.done; held = c.in_ok-feed.ensures.left } in
    let held = fed-held l a.self.now a.slot a.token c.feed.new.self enters c.self.inside.next_mark c.len.result (ap (λ (z : Records). z.next_mark) c.self.view_is) (c.len.ensures.count ∙ ap (λ (z : Records). length z.steps) c.self-2.view_is) in
    through-vacant l g.P.Run.sites a.self.now a.slot a.token c.feed.new.self _ (subst Sound c.self.view_is c.self.invariant.kept.lawful.sound) enters held c.call_on.new.self c.in-Through.ensures.goes

pub shed-requires-in-Halted : goal.shed-requires-in-Halted
shed-requires-in-Halted g c =
    let l = g.P.Run.listing in
    let a = c.args in
    let enters : Feeds l a.self.now a.slot a.token c.feed.new.self = record { scope = a.scope; left = a.sequence.left; name = a.sequence.name; right = a.sequence.right; at = c.requires.at; done = c.in_ok-feed.ensures.done; held = c.in_ok-feed.ensures.left } in
    let held = fed-held l a.self.now a.slot a.token c.feed.new.self enters c.self.inside.next_mark c.len.result (ap (λ (z : Records). z.next_mark) c.self.view_is) (c.len.ensures.count ∙ ap (λ (z : Records). length z.steps) c.self-2.view_is) in
    halted-vacant l g.P.Run.sites a.self.now a.slot a.token c.feed.new.self _ (subst Sound c.self.view_is c.self.invariant.kept.lawful.sound) enters held c.in-Halted.group c.call_on.new.self c.in-Halted.ensures.goes

pub returns-in_default-call_on : goal.returns-in_default-call_on
returns-in_default-call_on g c =
    let l = g.P.Run.listing in
    let a = c.args in
    let enters : Feeds l a.self.now a.slot a.token c.feed.new.self = record { scope = a.scope; left = a.sequence.left; name = a.sequence.name; right = a.sequence.right; at = c.requires.at; done = c.in_ok-feed.ensures.done; held = c.in_ok-feed.ensures.left } in
    let held = fed-held l a.self.now a.slot a.token c.feed.new.self enters c.self.inside.next_mark c.len.result (ap (λ (z : Records). z.next_mark) c.self.view_is) (c.len.ensures.count ∙ ap (λ (z : Records). length z.steps) c.self-2.view_is) in
    record {
      done = λ ks.
          fed-passes l g.P.Run.sites a.self.now a.slot a.token c.feed.new.self _ enters held ks
          (moves-by l a.self.now a.token a.slot _ _ ks Seq (word-seq l a.self.now a.token a.scope (code l a.sequence.left) a.sequence.name (code l a.sequence.right) c.requires.at) enters)
          c.call_on.result c.in_default-call_on.not-Through c.in_default-call_on.not-Halted c.call_on.new.self c.call_on.ensures.goes;
      others = on-others a.self.now.slots c.feed.new.self.slots c.call_on.new.self.slots a.slot c.in_ok-feed.ensures.others c.call_on.ensures.others;
      refused = tt;
      why = tt;
    }

pub returns-in-Halted-clause-others : goal.returns-in-Halted-clause-others
returns-in-Halted-clause-others g c =
    let a = c.args in
    let s' : Records = c.shed-in-Halted.new.self in
    on-all a.self.now.slots c.call_on.new.self.slots s'.slots a.slot
    (on-others a.self.now.slots c.feed.new.self.slots c.call_on.new.self.slots a.slot c.in_ok-feed.ensures.others c.call_on.ensures.others)
    (same-all c.call_on.new.self.slots s'.slots (sym (ap (λ (z : Records). z.slots) c.shed-in-Halted.ensures.rest)))
