-- A token on void ends.
use Rattle.std.proofs.Common.{◌≡◌, ℕ, List, [], ◌∷◌, length, refl, sym, ap, ◌∙◌, inl, inr, ◌⊎◌, ⊎_elim, true, false, length-set}
use Rattle.std.specs.Prelude.{slice_set}
use Rattle.orc_rules.specs.declared.entry.Entry.TheVariants as entry
use Rattle.orc_rules.specs.declared.param.Param.{Param}
use Rattle.orc_rules.specs.declared.param.Param.TheVariants.{Name, Is, Cell, Void}
use Rattle.orc_term.specs.declared.arena.Tip.TheVariants.{Token, Ended}
use Rattle.orc_term.specs.declared.arena.Kind.TheVariants.{Leaf}
use Rattle.orc_rules.specs.declared.param.Operand.{Operand}
use Rattle.orc_rules.specs.declared.program.TermNode.{TermNode}
use Rattle.orc_rules.specs.declared.program.TermNode.TheVariants as on
use Rattle.orc_rules.specs.Nodes.{unfold_node}
use Rattle.orc_rules.specs.Term.{Term, stop, param, site, call, par, seq, prune, other, pending, opened, HasVoid}
use Rattle.orc_rules.specs.Idle.{has_halted, has_void}
use Rattle.orc_rules.specs.Journal.{Place, IsVoid}
use Rattle.orc_rules.specs.Marked.{ended}
use Rattle.orc_term.specs.Arena.{leaf, at}
use Rattle.orc_env.specs.Scopes.{Env, env_of, close}
use Rattle.orc_checker.specs.Checker.{State, Enters}
use Rattle.orc_env.specs.Names.{AreOrdered}
use Rattle.orc_term.specs.Settling.{Settles}
use Rattle.orc_checker.proofs.Flagging.{reflag_leaf_settled}
use Rattle.orc_checker.proofs.Refusing.{sort, sort_under, operand_node, site_node}
use Rattle.orc_term.proofs.Trees.{node}
use Rattle.orc_checker.proofs.Moves.{Stays, staying, written, token_turns}

-- the test finds a void one
pub void_among : (ps : List Param) → has_void ps ≡ true → HasVoid ps
void_among [] h = absurd (cc h)
void_among (Is v ∷ ps) h = inr (void_among ps h)
void_among (Cell c ∷ ps) h = inr (void_among ps h)
void_among (Name x ∷ ps) h = inr (void_among ps h)
void_among (Void ∷ ps) h = inl refl

-- and each
pub among_void : (ps : List Param) → HasVoid ps → has_void ps ≡ true
among_void [] h = absurd h
among_void (Is v ∷ ps) h = ⊎_elim (λ e. cc e) (λ k. among_void ps k) h
among_void (Cell c ∷ ps) h = ⊎_elim (λ e. cc e) (λ k. among_void ps k) h
among_void (Name x ∷ ps) h = ⊎_elim (λ e. cc e) (λ k. among_void ps k) h
among_void (Void ∷ ps) h = refl

-- what stands on void is a variable or a call of a site
pub void_sort : (t : Term) → IsVoid t → (sort t ≡ 1) ⊎ (sort t ≡ 2)
void_sort stop h = absurd h
void_sort (param p) h = inl refl
void_sort (site m ps) h = inr refl
void_sort (call e ps) h = absurd h
void_sort (par f g) h = absurd h
void_sort (seq f x g) h = absurd h
void_sort (prune f x g) h = absurd h
void_sort (other f g) h = absurd h
void_sort (pending k) h = absurd h
void_sort (opened f c g) h = absurd h

-- another node isn't void
pub void_not : (e : Env) (terms : ℕ → Term) (lists : List (List Operand)) (n : TermNode) (t : Term) → t ≡ unfold_node terms lists n → ((p : Operand) → n ≡ on.Operand p → ⊥) → ((m l : ℕ) → n ≡ on.Site m l → ⊥) → IsVoid (close e t) → ⊥
void_not e terms lists n t is no_operand no_site h =
    let same = sort_under e terms lists n t is in
    ⊎_elim (λ k. let w = operand_node n (sym same ∙ k) in no_operand w.0 w.1) (λ k. let w = site_node n (sym same ∙ k) in no_site w.0 w.1 w.2) (void_sort (close e t) h)

module _ (code : ℕ → Term) (s s' : State) (i q m f e : ℕ) (a : at s.nodes q i (Leaf (Token m f e))) where
  pub void-enters : (AreOrdered s.scopes → IsVoid (close (env_of s.cells s.scopes e) (code f))) → has_halted (code f) ≡ false → s'.nodes ≡ slice_set s.nodes i (node (Leaf Ended) q)
      → length s'.flags ≡ length s.flags → Settles s'.nodes s.flags i true s'.flags → Stays s s' (length s.marks) → Enters code (entry.Void m) s s'
  void-enters is_void running nodes flags settles st x p sp =
      let b = written s s' i q (Token m f e) Ended a refl refl (staying s s' st.scopes st.cells) tt nodes in
      let new = ap length nodes ∙ length-set s.nodes i (node (Leaf Ended) q) in
      let fl = reflag_leaf_settled code s.nodes s'.nodes s.halts s.flags s'.halts s'.flags i (Token m f e) st.halts Ended true flags new (λ h. h f ∙ running) refl settles in
      let r = token_turns code s s' i q m f e a (leaf i Ended) (code f) ended p.mark x p sp b fl (record { free = st.free; scopes = st.scopes; cells = st.cells; marks = st.marks ∙ sym sp.mark; rest = st.rest; halts = st.halts; asked = st.asked }) refl refl in (
        r.0,
        (
          inr (sp.rest.due ∙ st.free),
          (
            close (env_of s.cells s.scopes e) (code f),
            r.1.inside,
            is_void sp.scopes,
            r.1.part,
            record {
              to_cancel = ap Place.to_cancel r.1.same ∙ sp.rest.due ∙ st.free;
              same = r.1.same ∙ ap (λ z. record { marked = r.0.marked; mark = p.mark; now = p.now; calls = p.calls; cells = p.cells; to_cancel = z }) (sym (ap Place.to_cancel r.1.same));
            },
          ),
        ),
        r.2,
      )
