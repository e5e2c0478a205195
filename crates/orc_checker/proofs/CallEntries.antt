-- The entries of calls and of their answers.
use Rattle.orc_checker.proofs.Flagging.{reflag_leaf, reflag_leaf_settled}
use Rattle.orc_rules.specs.Idle.{has_halted}
use Rattle.orc_term.specs.Settling.{Settles}
use Rattle.std.proofs.Common.{◌≡◌, ℕ, suc, List, [], ◌∷◌, ◌++◌, length, map, Some, refl, sym, ap, ◌∙◌, subst, inr, length-set, true}
use Rattle.std.specs.Prelude.{slice_set}
use Rattle.orc_rules.specs.declared.value.Value.{Value}
use Rattle.orc_rules.specs.declared.value.Answer.{Answer}
use Rattle.orc_rules.specs.declared.value.Answer.TheVariants.{Value as Gives, Halt}
use Rattle.orc_rules.specs.declared.param.Param.{Param}
use Rattle.orc_rules.specs.declared.entry.Entry.TheVariants as entry
use Rattle.orc_term.specs.declared.arena.Tip.TheVariants.{Token, Bears, Waits, Ended}
use Rattle.orc_term.specs.declared.arena.Kind.TheVariants.{Leaf}
use Rattle.orc_checker.specs.declared.rest.Called.{Called}
use Rattle.orc_rules.specs.Term.{Term, site, values_of}
use Rattle.orc_rules.specs.Sites.{Site}
use Rattle.orc_rules.specs.Step.{calls}
use Rattle.orc_rules.specs.Marked.{token, in_call, Replaces}
use Rattle.orc_rules.specs.Timed.{Context, CallMade, nth_of, calls_after}
use Rattle.orc_rules.specs.Journal.{Place, moment}
use Rattle.orc_term.specs.Arena.{leaf, at}
use Rattle.orc_env.specs.Scopes.{close, close_param, env_of}
use Rattle.orc_env.specs.Names.{AreOrdered}
use Rattle.orc_checker.specs.Calls.{Rest, Keeps, told, AddsCall, IsCall, IsDueNow}
use Rattle.orc_calls.specs.Counting.{NextFound}
use Rattle.orc_checker.specs.Checker.{State, EntersBy, AreCells}
use Rattle.orc_term.proofs.Trees.{node}
use Rattle.orc_checker.proofs.Moves.{written, turn, staying, still_on, Stays}
use Rattle.orc_env.proofs.Scopes.{close-site}
use Rattle.orc_checker.proofs.CallsMade.{kept_length, map-more, is_due}

-- what is kept after one more call
pub keeps_call : (x : Context) (p : Place) (r r' : Rest) (k m : ℕ) (args : List Value) (cs : List ℕ) (c : Called) → Keeps x p.now p.calls p.to_cancel r → r.to_cancel ≡ [] → k ≡ suc (length r.calls) → NextFound x.sites r.counts m args c.found → c.at ≡ r.time
    → AddsCall x.sites c m args r r' → Keeps x p.now (calls_after (moment p) (calls k m args cs)) [] r'
keeps_call x p r r' k m args cs c keeps free is_k found time adds =
    let made : CallMade = record { number = k; site = m; args = args; nth = nth_of m args p.calls; at = p.now } in
    subst (Keeps x p.now (made ∷ p.calls) []) (sym adds.same)
    (record {
      time = keeps.time;
      calls_are = map-more told r.calls c ∙ (λ j. keeps.calls_are j ++ (found p.calls keeps.counted j, (time ∙ sym keeps.time) j) ∷ []);
      counted = adds.counted p.calls made refl refl keeps.counted;
      numbered = (is_k ∙ ap suc (kept_length x p.now p.calls p.to_cancel r keeps), keeps.numbered);
      due = sym free;
      cancels_are = keeps.cancels_are;
    })

pub call-enters : (code : ℕ → Term) (sites : List Site) (s s' : State) (i q m k w f e : ℕ) (ps : List Param) (args : List Value) (c : Called) → at s.nodes q i (Leaf (Token m f e)) → code f ≡ site w ps
    → (AreOrdered s.scopes → values_of (map (close_param (env_of s.cells s.scopes e)) ps) ≡ Some args)
    → s'.nodes ≡ slice_set s.nodes i (node (Leaf (Waits k)) q) → s'.flags ≡ s.flags → s'.halts ≡ s.halts → s'.scopes ≡ s.scopes → s'.cells ≡ s.cells → s'.marks ≡ s.marks → k ≡ suc (length s.rest.calls)
    → NextFound sites s.rest.counts w args c.found → c.at ≡ s.rest.time → AddsCall sites c w args s.rest s'.rest → s.rest.to_cancel ≡ [] → s'.asked ≡ s.asked → EntersBy sites code (entry.Call m k w args) s s'
call-enters code sites s s' i q m k w f e ps args c a is values nodes flags halts scopes cells marks is_k found time rest free asked x of_sites p sp =
    let env = env_of s.cells s.scopes in
    let b = written s s' i q (Token m f e) (Waits k) a refl refl (staying s s' scopes cells) tt nodes in
    let new = ap length nodes ∙ length-set s.nodes i (node (Leaf (Waits k)) q) in
    let fl = reflag_leaf code s.nodes s'.nodes s.halts s.flags s'.halts s'.flags i (Token m f e) halts (Waits k) flags new (λ h. h f ∙ ap has_halted is) in
    let t = turn code s s' p.marked sp.drawn i q (Token m f e) (leaf i (Waits k)) a refl b fl in
    let its : List Param = map (close_param (env e)) ps in
    let part : Replaces (token m (site w its)) (in_call k) p.marked t.inside t.after =
    subst (λ z. Replaces (token m z) (in_call k) p.marked t.inside t.after) ((λ j. close (env_of (cells j) (scopes j) e) (is j)) ∙ close-site (env e) w ps) t.part in
    let act = calls k w args t.inside in (
      record { marked = t.after; mark = p.mark; now = p.now; calls = calls_after (moment p) act; cells = p.cells; to_cancel = [] },
      (
        inr (sp.rest.due ∙ free),
        (its, t.inside, is_k ∙ ap suc (kept_length x p.now p.calls p.to_cancel s.rest sp.rest), values sp.scopes, part, record { to_cancel = refl; same = refl }),
      ),
      record {
        drawn = t.drawn;
        mark = sp.mark ∙ sym (ap length marks);
        scopes = subst AreOrdered (sym scopes) sp.scopes;
        cells = subst (AreCells p.cells) (sym cells) sp.cells;
        rest =
            keeps_call x p s.rest s'.rest k w args t.inside c sp.rest free is_k (subst (λ z. NextFound z s.rest.counts w args c.found) (sym of_sites) found) time
            (subst (λ z. AddsCall z c w args s.rest s'.rest) (sym of_sites) rest);
        still = still_on x.definitions code s s' (staying s s' scopes cells) asked sp.still;
      },
    )

pub return-enters : (code : ℕ → Term) (sites : List Site) (s s' : State) (i q k a : ℕ) (v : Value) (c : Called) → at s.nodes q i (Leaf (Waits k)) → IsCall s.rest k c → IsDueNow c (Gives v) s.rest.time
    → s'.nodes ≡ slice_set s.nodes i (node (Leaf (Bears a v)) q) → s'.flags ≡ s.flags → a ≡ length s.marks → Stays s s' (suc a) → EntersBy sites code (entry.Return k a v) s s'
return-enters code sites s s' i q k a v c is_at call due nodes flags next st x of_sites p sp =
    let b = written s s' i q (Waits k) (Bears a v) is_at refl refl (staying s s' st.scopes st.cells) tt nodes in
    let new = ap length nodes ∙ length-set s.nodes i (node (Leaf (Bears a v)) q) in
    let fl = reflag_leaf code s.nodes s'.nodes s.halts s.flags s'.halts s'.flags i (Waits k) st.halts (Bears a v) flags new (λ h. refl) in
    let t = turn code s s' p.marked sp.drawn i q (Waits k) (leaf i (Bears a v)) is_at refl b fl in
    let free : p.to_cancel ≡ [] = sp.rest.due ∙ st.free in (
      record p { marked = t.after; mark = suc a },
      (inr free, (t.inside, next ∙ sym sp.mark, is_due x p.now p.calls p.to_cancel s.rest k c (Gives v) sp.rest call due, t.part, record { to_cancel = free; same = refl })),
      record {
        drawn = t.drawn;
        mark = sym st.marks;
        scopes = subst AreOrdered (sym st.scopes) sp.scopes;
        cells = subst (AreCells p.cells) (sym st.cells) sp.cells;
        rest = subst (Keeps x p.now p.calls p.to_cancel) (sym st.rest) sp.rest;
        still = still_on x.definitions code s s' (staying s s' st.scopes st.cells) st.asked sp.still;
      },
    )

pub halt-enters : (code : ℕ → Term) (sites : List Site) (s s' : State) (i q k : ℕ) (c : Called) → at s.nodes q i (Leaf (Waits k)) → IsCall s.rest k c → IsDueNow c Halt s.rest.time
    → s'.nodes ≡ slice_set s.nodes i (node (Leaf Ended) q) → length s'.flags ≡ length s.flags → Settles s'.nodes s.flags i true s'.flags → Stays s s' (length s.marks) → EntersBy sites code (entry.ReturnHalt k) s s'
halt-enters code sites s s' i q k c is_at call due nodes len settles st x of_sites p sp =
    let b = written s s' i q (Waits k) Ended is_at refl refl (staying s s' st.scopes st.cells) tt nodes in
    let new = ap length nodes ∙ length-set s.nodes i (node (Leaf Ended) q) in
    let fl = reflag_leaf_settled code s.nodes s'.nodes s.halts s.flags s'.halts s'.flags i (Waits k) st.halts Ended true len new (λ h. refl) refl settles in
    let t = turn code s s' p.marked sp.drawn i q (Waits k) (leaf i Ended) is_at refl b fl in
    let free : p.to_cancel ≡ [] = sp.rest.due ∙ st.free in (
      record p { marked = t.after },
      (inr free, (t.inside, is_due x p.now p.calls p.to_cancel s.rest k c Halt sp.rest call due, t.part, record { to_cancel = free; same = refl })),
      record {
        drawn = t.drawn;
        mark = sp.mark ∙ sym st.marks;
        scopes = subst AreOrdered (sym st.scopes) sp.scopes;
        cells = subst (AreCells p.cells) (sym st.cells) sp.cells;
        rest = subst (Keeps x p.now p.calls p.to_cancel) (sym st.rest) sp.rest;
        still = still_on x.definitions code s s' (staying s s' st.scopes st.cells) st.asked sp.still;
      },
    )

-- the same time, said otherwise
pub due_at : (c : Called) (a : Answer) (t u : ℕ) → t ≡ u → IsDueNow c a t → IsDueNow c a u
due_at c a t u e d = subst (IsDueNow c a) e d
