use Rattle.std.proofs.Common.{◌≡◌, refl, sym, ◌∙◌, ap, subst, map, [], suc, length, length-set}
use Rattle.std.specs.Prelude.{slice_set, slice_index_or}
use Rattle.orc_term.specs.declared.arena.Kind.TheVariants.{Leaf}
use Rattle.orc_term.specs.declared.arena.Tip.TheVariants.{Waits}
use Rattle.orc_checker.specs.declared.rest.Called.{Called}
use Rattle.orc_rules.specs.Nodes.{code, unfold_node, param_of}
use Rattle.orc_rules.specs.Term.{site, values_of}
use Rattle.orc_env.specs.Names.{AreArguments, AreOthers}
use Rattle.orc_checker.specs.Checker.{State}
use Rattle.orc_checker.specs.Calls.{Rest, AddsCall}
use Rattle.orc_calls.specs.Counting.{NextFound}
use Rattle.orc_term.proofs.Trees.{node}
use Rattle.orc_checker.proofs.CallEntries.{call-enters}
use Rattle.orc_term.proofs.Hints.{can_rest}
use Rattle.orc_checker.proofs.Earliest.{noted_call, noted_more}
use Rattle.orc_checker.proofs.Noting.{still_noted, same_wait}
use Rattle.orc_term.proofs.KeptSides.{known_kept, flags_same, sides_written}
use Rattle.orc_checker.proofs.Indexed.{indexed_call, indexed_calls}
use Rattle.std.proofs.lemmas.Result.{err_from_is_err_and}
use Rattle.orc_rules.specs.declared.entry.Entry.TheVariants as entry
use Rattle.orc_checker.proofs.Refusing.{IsCallOf, sort, asks_call, call_refused, form_refused, refused_for, site_node, sort_under, spot_refused}
use Rattle.orc_env.specs.Scopes.{close, close_param, env_of}
use Rattle.orc_env.proofs.Scopes.{close-site}
use Rattle.orc_checker.proofs.marked.Marked.call.Goals.{then-named-site-via-then-named-site, then-named-site-via-else-named-site+then-not-are_arguments}
use Rattle.orc_checker.proofs.marked.Marked.call.Goals as goal

pub returns-clause-done : goal.returns-clause-done
returns-clause-done c =
    let l = c.args.program.now in
    let t = c.in_ok-spot.spot in
    let v = c.self.view_is in
    let s = c.args.self.now in
    let sites = c.args.answers.now.sites in
    let called : Called = record { found = c.found.result; at = c.time.result; node = t.at } in
    let ps = map param_of (slice_index_or l.lists c.in-Site.list []) in
    call-enters (code l) sites s _ t.at t.parent c.args.s c.args.k c.args.site t.node t.scope ps c.args.args.now called c.in_ok-spot.ensures.there
    (c.node.ensures.term ∙ ap (unfold_node (code l) l.lists) c.in-Site.is ∙ ap (λ z. site z ps) c.if-named-site.false)
    (subst (λ z. AreArguments s.cells s.scopes t.scope z c.args.args.now) c.operands-operands.ensures.value
    (subst (λ (z : State). AreArguments z.cells z.scopes t.scope c.operands-operands.result.now c.args.args.now) v (subst (λ ss. AreArguments c.self.inside.cells.items ss t.scope c.operands-operands.result.now c.args.args.now) c.deref.ensures.value
    (subst (λ cs. AreArguments cs c.deref.result.now t.scope c.operands-operands.result.now c.args.args.now) c.deref-else-named-site.ensures.value
    (subst (λ z. AreArguments c.deref-else-named-site.result.now c.deref.result.now t.scope c.operands-operands.result.now z) c.as_slice.ensures.value (c.are_arguments.ensures.are c.if-not-are_arguments.false))))))
    (c.write_node.ensures.items ∙ ap (λ (z : State). slice_set z.nodes t.at (node (Leaf (Waits c.args.k)) t.parent)) v)
    (ap State.flags v)
    (ap State.halts v)
    (ap State.scopes v)
    (ap State.cells v)
    (ap State.marks v)
    c.in_ok-expect_call.ensures.next
    (subst (λ (z : State). NextFound sites (Rest.counts z.rest) c.args.site c.args.args.now c.found.result) v c.found.ensures)
    (c.time.ensures ∙ ap (λ (z : State). Rest.time z.rest) v)
    (subst (λ (z : State). AddsCall sites called c.args.site c.args.args.now z.rest c.add.new.self) v c.in_ok-add.ensures.added)
    c.in_ok-spot.ensures.free
    (c.write_node.ensures.asked ∙ ap State.asked v)

pub write_node-requires : goal.write_node-requires
write_node-requires c = can_rest c.args.self.now.nodes _ _ _ _ _ (ap State.nodes c.self.view_is) c.in_ok-spot.ensures.there (λ v. refl) refl

pub invariant_of-self : goal.invariant_of-self
invariant_of-self c = (noted_more _ _ _ _ c.note.ensures.kept c.self.invariant.0, c.self.invariant.1, c.self.invariant.2, c.self.invariant.3)

pub invariant_of-self-in_err-add : goal.invariant_of-self-in_err-add
invariant_of-self-in_err-add c = (still_noted _ _ _ _ _ (same_wait _ _ refl) (ap Rest.calls c.in_err-add.ensures.refused) (noted_more _ _ _ _ c.note.ensures.kept c.self.invariant.0), c.self.invariant.1, indexed_calls _ _ _ _ _ _ (ap Rest.calls c.in_err-add.ensures.refused) c.self.invariant.2, c.self.invariant.3)

pub invariant_of-self-2 : goal.invariant_of-self-2
invariant_of-self-2 c = (
  noted_call _ _ _ _ _ _ c.in_ok-spot.spot.at c.in_ok-spot.spot.parent c.args.k _ c.due_time.result c.self.invariant.0 (c.in_ok-expect_call.ensures.next ∙ ap (λ (z : State). suc (length (Rest.calls z.rest))) (sym c.self.view_is)) c.write_node.ensures.items
      (ap Rest.calls c.in_ok-add.ensures.added.same) c.due_time.ensures c.in_ok-note.ensures.noted c.note.ensures.kept,
  known_kept _ _ _ _ _ _ _ c.self.invariant.1 (sides_written (length c.self.inside.nodes.items) _ _ _ _ c.write_node.ensures.items (can_rest c.args.self.now.nodes _ _ _ _ _ (ap State.nodes c.self.view_is) c.in_ok-spot.ensures.there (λ v. refl) refl) (λ p lt. refl)) (flags_same _ _ _ _ refl) (λ p m. m) refl refl (ap length c.write_node.ensures.items ∙ length-set c.self.inside.nodes.items _ _),
  indexed_call _ _ _ _ _ _ _ _ _ _ _ c.self.invariant.2 c.write_node.ensures.items refl (c.in_ok-expect_call.ensures.next ∙ ap (λ (z : State). suc (length (Rest.calls z.rest))) (sym c.self.view_is)) (ap Rest.calls c.in_ok-add.ensures.added.same) refl,
  c.self.invariant.3,
)

pub returns-in_err-spot-clause-reason : goal.returns-in_err-spot-clause-reason
returns-in_err-spot-clause-reason c =
    let p = err_from_is_err_and c.from_residual.result c.from_residual.ensures.1 in
    let a = c.args in
    rw (p.1, p.2) (spot_refused a.program.now a.answers.now (entry.Call a.s a.k a.site a.args.now) a.self.now a.s (IsCallOf a.site a.args.now) _ (asks_call a.s a.k a.site a.args.now) (λ v e. cc e.2) c.in_err-spot.ensures.refused)

pub returns-in_default : goal.returns-in_default
returns-in_default c =
    let a = c.args in
    let o = c.in_ok-spot.spot in
    record {
      done = tt;
      refused = refl;
      reason = form_refused a.program.now a.answers.now (entry.Call a.s a.k a.site a.args.now) a.self.now a.s o.at o.parent o.node o.scope (IsCallOf a.site a.args.now) (asks_call a.s a.k a.site a.args.now) c.in_ok-spot.ensures.there
          (λ ordered w. let k = site_node c.node.result (sym (sort_under (env_of a.self.now.cells a.self.now.scopes o.scope) (code a.program.now) a.program.now.lists c.node.result (code a.program.now o.node) c.node.ensures.term) ∙ ap sort w.2) in c.in_default.not-Site k.0 k.1 k.2);
    }

pub returns-then-named-site-clause-reason : goal.returns-then-named-site-clause-reason
returns-then-named-site-clause-reason c =
    let a = c.args in
    let l = a.program.now in
    let o = c.in_ok-spot.spot in
    let s = a.self.now in
    let env = env_of s.cells s.scopes o.scope in
    let ps = map param_of (slice_index_or l.lists c.in-Site.list []) in
    let term : close env (code l o.node) ≡ site c.in-Site.named (map (close_param env) ps) = ap (close env) (c.node.ensures.term ∙ ap (unfold_node (code l) l.lists) c.in-Site.is) ∙ close-site env c.in-Site.named ps in
    form_refused l a.answers.now (entry.Call a.s a.k a.site a.args.now) s a.s o.at o.parent o.node o.scope (IsCallOf a.site a.args.now) (asks_call a.s a.k a.site a.args.now) c.in_ok-spot.ensures.there
    (λ ordered w.
    let same : site c.in-Site.named (map (close_param env) ps) ≡ site a.site w.0 = sym term ∙ w.2 in
    let all : map (close_param env) ps ≡ w.0 = cc same in
    elim c.then-named-site.branch [
      | then-named-site-via-then-named-site v ↦ absurd (v.if-named-site.true (cc same))
      | then-named-site-via-else-named-site+then-not-are_arguments v ↦
          subst (λ z. AreOthers s.cells s.scopes o.scope z a.args.now) c.operands-operands.ensures.value
          (subst (λ (z : State). AreOthers z.cells z.scopes o.scope c.operands-operands.result.now a.args.now) c.self.view_is (subst (λ ss. AreOthers c.self.inside.cells.items ss o.scope c.operands-operands.result.now a.args.now) v.deref.ensures.value
          (subst (λ cs. AreOthers cs v.deref.result.now o.scope c.operands-operands.result.now a.args.now) v.deref-else-named-site.ensures.value
          (subst (λ z. AreOthers v.deref-else-named-site.result.now v.deref.result.now o.scope c.operands-operands.result.now z) v.as_slice.ensures.value (v.are_arguments.ensures.others v.if-not-are_arguments.true)))))
          ordered (ap values_of all ∙ w.1)
    ])

pub returns-in_err-expect_call-clause-reason : goal.returns-in_err-expect_call-clause-reason
returns-in_err-expect_call-clause-reason c =
    let p = err_from_is_err_and c.from_residual-in_err-expect_call.result c.from_residual-in_err-expect_call.ensures.1 in
    let a = c.args in
    let l = a.program.now in
    let w = c.in_err-expect_call.ensures.refused in
    rw (p.1, p.2) (refused_for l a.answers.now (entry.Call a.s a.k a.site a.args.now) a.self.now _ _ w.0 (call_refused l a.answers.now (entry.Call a.s a.k a.site a.args.now) a.self.now a.k (λ x q h. h) w.1))
