use Rattle.std.proofs.Common.{refl, ap, ◌∙◌, subst, length, length-set, true}
use Rattle.std.specs.Prelude.{slice_set}
use Rattle.orc_term.specs.declared.arena.Kind.TheVariants.{Leaf}
use Rattle.orc_term.specs.declared.arena.Tip.TheVariants.{Ended}
use Rattle.orc_rules.specs.Nodes.{code}
use Rattle.orc_term.specs.Rising.{IsTaker, Rises}
use Rattle.orc_checker.specs.Checker.{State}
use Rattle.orc_term.specs.Settling.{Settles}
use Rattle.orc_term.proofs.Trees.{node}
use Rattle.orc_checker.proofs.Publishing.{publish-enters}
use Rattle.orc_term.proofs.Hints.{can_publish}
use Rattle.orc_checker.proofs.Noting.{still_noted, wait_on, wait_written, wait_passed}
use Rattle.orc_term.proofs.KeptSides.{known_kept, sides_on, sides_written, sides_passed}
use Rattle.orc_checker.proofs.Indexed.{indexed_kept, names_on, names_passed, names_written}
use Rattle.std.proofs.lemmas.Result.{err_from_is_err_and}
use Rattle.orc_rules.specs.Step.{publishes}
use Rattle.orc_rules.specs.declared.entry.Entry.TheVariants as entry
use Rattle.std.proofs.Common.{ℕ, List}
use Rattle.std.specs.Prelude.{IfNone}
use Rattle.orc_term.specs.Arena.{Frame, Tree}
use Rattle.orc_term.specs.Rising.{Stands}
use Rattle.orc_checker.proofs.Values.{asks_publish, bearer_refused, standing_refused, taker_refused, whole_takes}
use Rattle.orc_checker.proofs.marked.Marked.publish.Goals as goal

pub returns-clause-done : goal.returns-clause-done
returns-clause-done c =
    let terms = code c.args.program.now in
    let t = c.in_ok-bearer.bearer in
    let v = c.self.view_is in
    let s = c.args.self.now in
    publish-enters terms s _ t.at t.parent c.args.s t.tip c.args.v c.in_ok-bearer.ensures.there c.in_ok-bearer.ensures.lives c.in_ok-bearer.ensures.bears
    (subst (IsTaker s.nodes t.at) c.in-Whole.is (subst (λ (z : State). IsTaker z.nodes t.at c.in-Some.taker) v c.in-Some.ensures.taker))
    (subst (λ z. Rises z t.at c.rise.new.nodes.items) (c.write_node.ensures.items ∙ ap (λ (z : State). slice_set z.nodes t.at (node (Leaf Ended) t.parent)) v) c.rise.ensures.rises)
    (c.rise.ensures.len ∙ ap length c.write_node.ensures.items ∙ length-set c.self.inside.nodes.items t.at (node (Leaf Ended) t.parent) ∙ ap (λ (z : State). length z.nodes) v)
    (c.settle.ensures.len ∙ ap (λ (z : State). length z.flags) v)
    (subst (λ z. Settles c.rise.new.nodes.items z t.at true c.settle.new.flags.items) (ap State.flags v) c.settle.ensures.settles)
    (record { free = c.in_ok-bearer.ensures.free; scopes = ap State.scopes v; cells = ap State.cells v; marks = ap (λ (z : State). length z.marks) v; rest = ap State.rest v; halts = ap State.halts v; asked = c.rise.ensures.asked ∙ c.write_node.ensures.asked ∙ ap State.asked v })

pub write_node-requires : goal.write_node-requires
write_node-requires c = can_publish c.args.self.now.nodes _ _ _ c.args.s _ _ (ap State.nodes c.self.view_is) c.in_ok-bearer.ensures.there c.in_ok-bearer.ensures.carries refl

pub invariant_of-self : goal.invariant_of-self
invariant_of-self c = (
  still_noted _ _ _ _ _ (wait_on _ _ _ (wait_written _ _ _ _ c.write_node.ensures.items refl) (wait_passed _ _ c.rise.ensures.passes)) refl c.self.invariant.0,
  known_kept _ _ _ _ _ _ _ c.self.invariant.1 (sides_on (length c.self.inside.nodes.items) _ _ _ (sides_written (length c.self.inside.nodes.items) _ _ _ _ c.write_node.ensures.items (can_publish c.args.self.now.nodes _ _ _ c.args.s _ _ (ap State.nodes c.self.view_is) c.in_ok-bearer.ensures.there c.in_ok-bearer.ensures.carries refl) (λ p lt. refl)) (sides_passed (length c.self.inside.nodes.items) _ _ c.rise.ensures.passes)) c.settle.ensures.known c.settle.ensures.kept refl c.settle.ensures.len (c.rise.ensures.len ∙ ap length c.write_node.ensures.items ∙ length-set c.self.inside.nodes.items _ _),
  indexed_kept _ _ _ c.self.invariant.2 (names_on _ _ _ _ (names_written _ _ _ _ _ c.write_node.ensures.items refl) (names_passed _ _ _ c.rise.ensures.passes)),
  c.self.invariant.3,
)

pub returns-in_err-bearer-clause-reason : goal.returns-in_err-bearer-clause-reason
returns-in_err-bearer-clause-reason c =
    let p = err_from_is_err_and c.from_residual.result c.from_residual.ensures.1 in
    let a = c.args in
    rw (p.1, p.2) (λ t. bearer_refused a.program.now t (entry.Publish a.s a.v) a.self.now a.s a.v (publishes a.v) _ (asks_publish a.s a.v) c.in_err-bearer.ensures.refused)

pub returns-in_default-clause-reason : goal.returns-in_default-clause-reason
returns-in_default-clause-reason c t =
    let a = c.args in
    let b = c.in_ok-bearer.bearer in
    standing_refused a.program.now t (entry.Publish a.s a.v) a.self.now b.parent b.at b.tip _ c.in_ok-bearer.ensures.there c.in_ok-bearer.ensures.lives
    (subst (λ (z : State). (n : ℕ) (k : List Frame) (u : Tree) → Stands z.nodes n b.at k u → ⊥) c.self.view_is (subst (λ o. IfNone o ((n : ℕ) (k : List Frame) (u : Tree) → Stands c.self.inside.nodes.items n b.at k u → ⊥)) c.in_default.is c.way_up.ensures.none))

pub returns-in_default-taker : goal.returns-in_default-taker
returns-in_default-taker c =
    let a = c.args in
    let b = c.in_ok-bearer.bearer in
    record {
      done = tt;
      refused = refl;
      reason = λ t. taker_refused a.program.now t (entry.Publish a.s a.v) a.self.now a.s a.v (publishes a.v) b.parent b.at b.tip c.in-Some.taker (asks_publish a.s a.v) c.in_ok-bearer.ensures.there c.in_ok-bearer.ensures.lives c.in_ok-bearer.ensures.bears
          (subst (λ (z : State). IsTaker z.nodes b.at c.in-Some.taker) c.self.view_is c.in-Some.ensures.taker)
          (λ e. c.in_default-taker.not-Whole (whole_takes _ _ e));
    }
