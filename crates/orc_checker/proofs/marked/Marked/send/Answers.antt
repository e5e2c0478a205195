use Rattle.std.proofs.Common.{refl, ◌≡◌, ◌+◌, ◌∷◌, ◌++◌, [], Some, ap, sym, ◌∙◌, subst, length, get_or, length-append, length-set, true, false, arith, rules}
use Rattle.std.specs.Prelude.{slice_set}
use Rattle.orc_term.specs.declared.arena.Node.{Node}
use Rattle.orc_env.specs.declared.names.Scope.{Scope}
use Rattle.orc_env.specs.declared.names.Bound.TheVariants.{Is}
use Rattle.orc_term.specs.declared.arena.Kind.TheVariants.{Leaf, One}
use Rattle.orc_term.specs.declared.arena.Tip.TheVariants.{Ended, Token}
use Rattle.orc_rules.specs.Nodes.{code}
use Rattle.orc_term.specs.Rising.{IsTaker, Rises, nowhere}
use Rattle.orc_term.specs.Grafting.{Grafts}
use Rattle.orc_checker.specs.Checker.{State}
use Rattle.orc_term.specs.Halting.{halt_flag}
use Rattle.orc_term.specs.Settling.{Settles}
use Rattle.orc_term.proofs.Trees.{node}
use Rattle.orc_checker.proofs.Answering.{one_more}
use Rattle.orc_checker.proofs.Sending.{send-enters}
use Rattle.orc_term.proofs.Hints.{can_publish, one_in}
use Rattle.orc_checker.proofs.Noting.{still_noted, same_wait, wait_on, wait_written, wait_passed}
use Rattle.orc_term.specs.Sides.{NoNewSides}
use Rattle.orc_term.proofs.KeptSides.{known_two, sides_same, sides_on, sides_written, sides_passed}
use Rattle.orc_rules.specs.Numbered.{mark}
use Rattle.orc_checker.specs.Index.{Tables, IsPut}
use Rattle.orc_checker.proofs.Indexed.{get_grown, get_last, indexed_on, its, names_map, names_on, names_passed, names_same, names_written, put_more}
use Rattle.std.proofs.lemmas.Result.{err_from_is_err_and}
use Rattle.orc_rules.specs.Step.{silent}
use Rattle.orc_rules.specs.declared.entry.Entry.TheVariants as entry
use Rattle.std.proofs.Common.{ℕ, List}
use Rattle.std.specs.Prelude.{IfNone}
use Rattle.orc_term.specs.Arena.{Frame, Tree}
use Rattle.orc_term.specs.Rising.{Stands}
use Rattle.orc_checker.proofs.Values.{asks_send, bearer_refused, fed_takes, standing_refused, taker_refused}
use Rattle.orc_checker.proofs.Refusing.{mark_refused, refused_for}
use Rattle.orc_checker.proofs.marked.Marked.send.Goals as goal

pub returns-clause-done : goal.returns-clause-done
returns-clause-done c =
    let terms = code c.args.program.now in
    let t = c.in_ok-bearer.bearer in
    let v = c.self.view_is in
    let s = c.args.self.now in
    let f = c.in-Feeds in
    let scope : Scope = record { name = f.x; bound = Is c.args.v; outer = f.outer } in
    let scopes = c.push_within.ensures.items ∙ ap (λ (z : Scope). c.reserve_scope.new.scopes.items ++ z ∷ []) c.new.ensures ∙ ap (λ z. z ++ scope ∷ []) (c.reserve_scope.ensures.items ∙ ap State.scopes v) in
    let count : c.scope_count.result ≡ length s.scopes + 1 = c.scope_count.ensures ∙ ap length scopes ∙ length-append s.scopes (scope ∷ []) in
    let flags : c.push_flag-2.new.flags.items ≡ (s.flags ++ false ∷ []) ++ halt_flag s.halts f.g ∷ [] =
    c.push_flag-2.ensures.items ∙ (λ j. (c.push_flag.ensures.items ∙ (λ j. (c.reserve.ensures.flags ∙ ap State.flags v) j ++ false ∷ [])) j ++ (c.at-halted.ensures ∙ ap (λ (z : State). halt_flag z.halts f.g) v) j ∷ []) in
    send-enters terms s _ t.at t.parent c.args.s c.in-Fed.at f.x f.g f.outer c.in-One.field-1 c.args.a t.tip c.args.v c.rise.new.nodes.items
    c.in_ok-bearer.ensures.there c.in_ok-bearer.ensures.lives c.in_ok-bearer.ensures.bears
    (subst (IsTaker s.nodes t.at) c.in-Fed.is (subst (λ (z : State). IsTaker z.nodes t.at c.in-Some.taker) v c.in-Some.ensures.taker))
    (sym (ap (λ (z : State). Node.kind (get_or z.nodes c.in-Fed.at nowhere)) v) ∙ sym (ap Node.kind c.node_at.ensures) ∙ c.in-One.is ∙ ap (λ z. One z c.in-One.field-1) f.is)
    (subst (λ z. Rises z t.at c.rise.new.nodes.items) (c.write_node.ensures.items ∙ ap (λ z. slice_set z t.at (node (Leaf Ended) t.parent)) (c.reserve.ensures.nodes ∙ ap State.nodes v)) c.rise.ensures.rises)
    (record {
      free = c.in_ok-bearer.ensures.free;
      grafts = subst (λ z. Grafts c.rise.new.nodes.items c.in-Fed.at (Token c.args.a f.g z) c.graft.new.nodes.items) count c.graft.ensures.grafts;
      scopes = scopes;
      cells = ap State.cells v;
      asked = c.graft.ensures.asked ∙ c.rise.ensures.asked ∙ c.write_node.ensures.asked ∙ c.reserve.ensures.asked ∙ ap State.asked v;
      marks = one_more s.marks _ _ _ c.args.a (c.reserve.ensures.marks ∙ ap State.marks v) c.push_within-2.ensures.items c.in_ok-expect_mark.ensures.next;
      next = c.in_ok-expect_mark.ensures.next;
      rest = ap State.rest v;
      halts = ap State.halts v;
      same_len = c.rise.ensures.len ∙ ap length c.write_node.ensures.items ∙ length-set c.reserve.new.nodes.items t.at (node (Leaf Ended) t.parent) ∙ ap length (c.reserve.ensures.nodes ∙ ap State.nodes v);
      len = c.graft.ensures.len;
      flags_len = c.settle.ensures.len ∙ ap length flags;
      settles = subst (λ z. Settles c.graft.new.nodes.items z t.at true c.settle.new.flags.items) flags c.settle.ensures.settles;
    })

pub write_node-requires : goal.write_node-requires
write_node-requires c = can_publish c.args.self.now.nodes _ _ _ c.args.s _ _ (c.reserve.ensures.nodes ∙ ap State.nodes c.self.view_is) c.in_ok-bearer.ensures.there c.in_ok-bearer.ensures.carries refl

pub graft-requires : goal.graft-requires
graft-requires c =
    let t = c.in_ok-bearer.bearer in
    let len = c.rise.ensures.len ∙ ap length c.write_node.ensures.items ∙ length-set c.reserve.new.nodes.items t.at (node (Leaf Ended) t.parent) ∙ ap length c.reserve.ensures.nodes in
    record { there = omega (arith, len, one_in c.self.inside.nodes.items c.in-Fed.at c.in-One.single c.in-One.field-1 (sym (ap Node.kind c.node_at.ensures) ∙ c.in-One.is)); room = search rules }

pub invariant_of-self-2 : goal.invariant_of-self-2
invariant_of-self-2 c =
    let n = length c.self.inside.nodes.items in
    let t = c.in_ok-bearer.bearer in
    let can = can_publish c.args.self.now.nodes _ _ _ c.args.s _ _ (c.reserve.ensures.nodes ∙ ap State.nodes c.self.view_is) c.in_ok-bearer.ensures.there c.in_ok-bearer.ensures.carries refl in
    let len : length c.rise.new.nodes.items ≡ n = c.rise.ensures.len ∙ ap length c.write_node.ensures.items ∙ length-set c.reserve.new.nodes.items t.at (node (Leaf Ended) t.parent) ∙ ap length c.reserve.ensures.nodes in
    let f = c.in-Feeds in
    let marks_are = c.push_within-2.ensures.items ∙ ap (λ z. z ++ (c.next_number-both.result + 1) ∷ []) c.reserve.ensures.marks in
    let old : Tables = record { marks = c.self.inside.marks.items; prunings = c.self.inside.prunings.items; calls = c.self.inside.rest.calls; cells = c.self.inside.cells.items } in
    let new : Tables = record old { marks = c.push_within-2.new.items.items } in
    let put = get_last _ _ _ c.args.a marks_are (c.in_ok-expect_mark.ensures.next ∙ ap (λ (z : State). length z.marks) (sym c.self.view_is)) in
    let renamed =
    names_on (IsPut new) _ _ _ (names_same (IsPut new) _ _ c.reserve.ensures.nodes)
    (names_on (IsPut new) _ _ _ (names_written (IsPut new) _ _ _ _ c.write_node.ensures.items refl)
    (names_on (IsPut new) _ _ _ (names_passed (IsPut new) _ _ c.rise.ensures.passes)
    (names_map _ (IsPut new) _ _ (λ m i h. its (λ w. IsPut new w i) (Leaf (Token c.args.a f.g c.scope_count.result)) (mark c.args.a) m refl (put ∙ ap Some (ap (λ z. z + 1) c.next_number-both.ensures.count ∙ sym h.1)) h.0) c.graft.ensures.names))) in (
      still_noted _ _ _ _ _
          (wait_on _ _ _ (wait_on _ _ _ (same_wait _ _ c.reserve.ensures.nodes) (wait_written _ _ _ _ c.write_node.ensures.items refl)) (wait_on _ _ _ (wait_passed _ _ c.rise.ensures.passes) (c.graft.ensures.calls refl)))
          refl c.self.invariant.0,
      known_two _ _ _ _ _ _ _ c.self.invariant.1
          (sides_on n _ _ _ (sides_same n _ _ c.reserve.ensures.nodes)
          (sides_on n _ _ _ (sides_written n _ _ _ _ c.write_node.ensures.items can (λ p lt. refl)) (sides_on n _ _ _ (sides_passed n _ _ c.rise.ensures.passes) (subst (λ z. NoNewSides z c.rise.new.nodes.items c.graft.new.nodes.items) len c.graft.ensures.sides))))
          c.settle.ensures.known (λ p m. c.settle.ensures.kept p (c.push_flag-2.ensures.kept p (c.push_flag.ensures.kept p m))) _ _ _ (c.push_flag-2.ensures.items ∙ ap (λ z. z ++ c.at-halted.result ∷ []) (c.push_flag.ensures.items ∙ ap (λ z. z ++ false ∷ []) c.reserve.ensures.flags)) c.settle.ensures.len
          (c.graft.ensures.len ∙ ap (λ z. z + 2) len) (c.next_number-both.ensures.count ∙ len) (λ e. c.settle.ensures.kept _ (c.push_flag-2.ensures.kept _ (c.push_flag.ensures.known e))) (λ e. c.settle.ensures.kept _ (c.push_flag-2.ensures.known e)),
      indexed_on old new _ _ c.self.invariant.2 renamed (λ i m e. put_more old new (get_grown _ _ _ marks_are) (λ d k f. f) (λ d k f. f) (λ d f. f) i m),
      c.self.invariant.3,
    )

pub returns-in_err-bearer-clause-reason : goal.returns-in_err-bearer-clause-reason
returns-in_err-bearer-clause-reason c =
    let p = err_from_is_err_and c.from_residual.result c.from_residual.ensures.1 in
    let a = c.args in
    rw (p.1, p.2) (λ t. bearer_refused a.program.now t (entry.Send a.s a.a a.v) a.self.now a.s a.v (silent) _ (asks_send a.s a.a a.v) c.in_err-bearer.ensures.refused)

pub returns-in_default-clause-reason : goal.returns-in_default-clause-reason
returns-in_default-clause-reason c t =
    let a = c.args in
    let b = c.in_ok-bearer.bearer in
    standing_refused a.program.now t (entry.Send a.s a.a a.v) a.self.now b.parent b.at b.tip _ c.in_ok-bearer.ensures.there c.in_ok-bearer.ensures.lives
    (subst (λ (z : State). (n : ℕ) (k : List Frame) (u : Tree) → Stands z.nodes n b.at k u → ⊥) c.self.view_is (subst (λ o. IfNone o ((n : ℕ) (k : List Frame) (u : Tree) → Stands c.self.inside.nodes.items n b.at k u → ⊥)) c.in_default.is c.way_up.ensures.none))

pub returns-in_default-taker : goal.returns-in_default-taker
returns-in_default-taker c =
    let a = c.args in
    let b = c.in_ok-bearer.bearer in
    record {
      done = tt;
      refused = refl;
      reason = λ t. taker_refused a.program.now t (entry.Send a.s a.a a.v) a.self.now a.s a.v (silent) b.parent b.at b.tip c.in-Some.taker (asks_send a.s a.a a.v) c.in_ok-bearer.ensures.there c.in_ok-bearer.ensures.lives c.in_ok-bearer.ensures.bears
          (subst (λ (z : State). IsTaker z.nodes b.at c.in-Some.taker) c.self.view_is c.in-Some.ensures.taker)
          (λ e. let w = fed_takes _ _ e in c.in_default-taker.not-Fed w.0 w.1);
    }

pub returns-in_err-expect_mark-clause-reason : goal.returns-in_err-expect_mark-clause-reason
returns-in_err-expect_mark-clause-reason c =
    let p = err_from_is_err_and c.from_residual-in_err-expect_mark.result c.from_residual-in_err-expect_mark.ensures.1 in
    let a = c.args in
    rw (p.1, p.2) (λ t. let w = c.in_err-expect_mark.ensures.refused in refused_for a.program.now t (entry.Send a.s a.a a.v) a.self.now _ _ w.0 (mark_refused a.program.now t (entry.Send a.s a.a a.v) a.self.now a.a (λ x q h. h) w.1))
