-- What is published goes up, and leaves each otherwise between.
use Rattle.std.proofs.Common.{◌≡◌, ℕ, List, [], ◌∷◌, length, refl, sym, ap, ◌∙◌, subst, inr, true, false}
use Rattle.std.specs.Prelude.{slice_set}
use Rattle.orc_rules.specs.declared.value.Value.{Value}
use Rattle.orc_rules.specs.declared.entry.Entry.TheVariants as entry
use Rattle.orc_term.specs.declared.arena.Tip.{Tip}
use Rattle.orc_term.specs.declared.arena.Tip.TheVariants.{Ended}
use Rattle.orc_term.specs.declared.arena.Kind.TheVariants.{Leaf}
use Rattle.orc_term.specs.declared.arena.Single.TheVariants.{Feeds, Entered, Passed}
use Rattle.orc_term.specs.declared.arena.Double.TheVariants.{Both, Side}
use Rattle.orc_term.specs.declared.walk.Taker.TheVariants.{Whole}
use Rattle.orc_rules.specs.Term.{Term}
use Rattle.orc_rules.specs.Step.{publishes}
use Rattle.orc_rules.specs.Marked.{erase, ended, Emits, emits, passes, on_main}
use Rattle.orc_rules.specs.Marked.{on_left as emits_left, on_right as emits_right}
use Rattle.orc_term.specs.Arena.{Tree, leaf, one, two, place, Holds, StandOnce, IsTopped, at, living_kind, spelled, Frame, on_one, on_left, on_right, plug}
use Rattle.orc_env.specs.Scopes.{Env, env_of}
use Rattle.orc_term.specs.Rising.{takes, rest, under, risen, IsTaker, Rises}
use Rattle.orc_checker.specs.Checker.{State, Enters, AreCells}
use Rattle.orc_term.specs.Bearers.{BearsValue}
use Rattle.orc_env.specs.Names.{AreOrdered}
use Rattle.orc_checker.specs.Calls.{Keeps}
use Rattle.orc_term.proofs.Trees.{topped-plug, place-plug, node}
use Rattle.orc_term.specs.Settling.{flag, HasFlags, Settles}
use Rattle.orc_term.proofs.Settling.{flag_says, flagged-out, flag-set_same}
use Rattle.orc_checker.proofs.Flagging.{risen_flags}
use Rattle.orc_rules.specs.Idle.{has_halted}
use Rattle.orc_checker.proofs.Change.{changed}
use Rattle.orc_checker.proofs.Moves.{written, still_on, Stays, staying}
use Rattle.orc_term.proofs.Rising.{plug-under}

module _ (code : ℕ → Term) (env : ℕ → Env) where
  -- what goes up is published by the part that it comes to
  pub goes_up : (k : List Frame) (t t' : Tree) {s a : ℕ} {v : Value} → Emits s a v (spelled code env t) (publishes v) (spelled code env t') → Emits s a v (spelled code env (under k t)) (publishes v) (spelled code env (risen k t'))
  goes_up [] t t' r = r
  goes_up (on_one i (Feeds x g e) ∷ k) t t' r = r
  goes_up (on_one i (Entered n g e) ∷ k) t t' r = goes_up k (one i (Entered n g e) t) (one i Passed t') (passes r)
  goes_up (on_one i Passed ∷ k) t t' r = goes_up k (one i Passed t) (one i Passed t') r
  goes_up (on_left i Both u ∷ k) t t' r = goes_up k (two i Both t u) (two i Both t' u) (emits_left r)
  goes_up (on_left i (Side c) u ∷ k) t t' r = goes_up k (two i (Side c) t u) (two i (Side c) t' u) (on_main r)
  goes_up (on_right i Both u ∷ k) t t' r = goes_up k (two i Both u t) (two i Both u t') (emits_right r)
  goes_up (on_right i (Side c) u ∷ k) t t' r = r

pub place-risen : (k : List Frame) (t : Tree) → place (plug (rest k) (risen k t)) ≡ place (plug k t)
place-risen [] t = refl
place-risen (on_one i (Feeds x g e) ∷ k) t = refl
place-risen (on_one i (Entered n g e) ∷ k) t = place-risen k (one i Passed t) ∙ place-plug k (one i Passed t) (one i (Entered n g e) t) refl
place-risen (on_one i Passed ∷ k) t = place-risen k (one i Passed t)
place-risen (on_left i d u ∷ k) t = place-risen k (two i d t u)
place-risen (on_right i Both u ∷ k) t = place-risen k (two i Both u t)
place-risen (on_right i (Side c) u ∷ k) t = refl

-- nothing takes it
pub free : (k : List Frame) → Whole ≡ takes k → rest k ≡ []
free [] h = refl
free (on_one i (Feeds x g e) ∷ k) h = absurd (cc h)
free (on_one i (Entered n g e) ∷ k) h = free k h
free (on_one i Passed ∷ k) h = free k h
free (on_left i d u ∷ k) h = free k h
free (on_right i Both u ∷ k) h = free k h
free (on_right i (Side c) u ∷ k) h = absurd (cc h)

-- the outermost node stays where a publication goes up
pub topped-risen : (k : List Frame) (t t' : Tree) → (IsTopped t → IsTopped t') → IsTopped (plug k t) → IsTopped (plug (rest k) (risen k t'))
topped-risen [] t t' h a = h a
topped-risen (on_one i (Feeds x g e) ∷ k) t t' h a = topped-plug (on_one i (Feeds x g e)) k t t' a
topped-risen (on_one i (Entered n g e) ∷ k) t t' h a = topped-risen k (one i (Entered n g e) t) (one i Passed t') (λ z. absurd z) a
topped-risen (on_one i Passed ∷ k) t t' h a = topped-risen k (one i Passed t) (one i Passed t') (λ z. z) a
topped-risen (on_left i d u ∷ k) t t' h a = topped-risen k (two i d t u) (two i d t' u) (λ z. z) a
topped-risen (on_right i Both u ∷ k) t t' h a = topped-risen k (two i Both u t) (two i Both u t') (λ z. z) a
topped-risen (on_right i (Side c) u ∷ k) t t' h a = topped-plug (on_right i (Side c) u) k t t' a

pub publish-enters : (code : ℕ → Term) (s s' : State) (i q m : ℕ) (l : Tip) (v : Value) → at s.nodes q i (Leaf l) → living_kind (Leaf l) ≡ 1 → BearsValue code s.cells s.scopes m l v
    → IsTaker s.nodes i Whole → Rises (slice_set s.nodes i (node (Leaf Ended) q)) i s'.nodes
    → length s'.nodes ≡ length s.nodes → length s'.flags ≡ length s.flags → Settles s'.nodes s.flags i true s'.flags
    → Stays s s' (length s.marks) → Enters code (entry.Publish m v) s s'
publish-enters code s s' i q m l v a lives bears taker rises nodes_len flags_len settles st x p sp =
    let env = env_of s.cells s.scopes in
    let mid : State = record s { nodes = slice_set s.nodes i (node (Leaf Ended) q) } in
    let ch = changed code s mid p.marked sp.drawn i q l (leaf i Ended) a lives (written s mid i q l Ended a lives refl (staying s mid refl refl) tt refl) in
    let k = ch.context in
    let n = length s.scopes in
    let by = taker n k (leaf i l) ch.before in
    let r = rises n k (leaf i Ended) (record { holds = ch.holds; once = ch.once; there = refl; root = ch.root }) in
    let none : rest k ≡ [] = free k by in
    let flags = subst (λ z. HasFlags code s.nodes s.halts s.flags z) (sym ch.is) sp.drawn.flags in
    let its = (flagged-out s.halts s.flags k (leaf i l) flags.each).1 in
    let off : flag s.flags i ≡ false = flag_says code env s.halts flags.are_halts s.flags (leaf i l) its ∙ ap (λ z. has_halted (erase z)) (bears sp.scopes) in
    let now_flags = risen_flags code s.nodes s'.nodes s.halts s.flags s'.halts s'.flags n i k (leaf i l) (leaf i Ended) ch.before flags off refl r.0 r.1 (place-risen k (leaf i Ended) ∙ ch.root) st.halts nodes_len flags_len true (flag-set_same s.flags i) settles in
    let after = spelled code env (risen k (leaf i Ended)) in
    let first : Emits m p.mark v (spelled code env (leaf i l)) (publishes v) (spelled code env (leaf i Ended)) =
    subst (λ z. Emits m p.mark v z (publishes v) ended) (sym (bears sp.scopes)) emits in
    let whole : under k (leaf i l) ≡ plug k (leaf i l) = sym (ap (λ z. plug z (under k (leaf i l))) none) ∙ plug-under k (leaf i l) in
    let shown : Emits m p.mark v p.marked (publishes v) after =
    subst (λ z. Emits m p.mark v z (publishes v) after) (ap (spelled code env) whole ∙ sym ch.was) (goes_up code env k (leaf i l) (leaf i Ended) first) in
    let due : p.to_cancel ≡ [] = sp.rest.due ∙ st.free in (
      record p { marked = after },
      (inr due, (shown, record { to_cancel = due; same = refl })),
      record {
        drawn = record {
          tree = risen k (leaf i Ended);
          holds = subst (λ z. Holds s'.nodes (length z) 0 (risen k (leaf i Ended))) (sym st.scopes) (subst (λ z. Holds s'.nodes n 0 (plug z (risen k (leaf i Ended)))) none r.0);
          root = sym (ap (λ z. place (plug z (risen k (leaf i Ended)))) none) ∙ place-risen k (leaf i Ended) ∙ ch.root;
          once = subst (λ z. StandOnce s'.nodes (plug z (risen k (leaf i Ended)))) none r.1;
          top = subst (λ z. IsTopped (plug z (risen k (leaf i Ended)))) none (topped-risen k (leaf i Ended) (leaf i Ended) (λ z. z) ch.top);
          marked = sym (λ j. spelled code (env_of (st.cells j) (st.scopes j)) (risen k (leaf i Ended)));
          flags = subst (λ z. HasFlags code s'.nodes s'.halts s'.flags (plug z (risen k (leaf i Ended)))) none now_flags;
        };
        mark = sp.mark ∙ sym st.marks;
        scopes = subst AreOrdered (sym st.scopes) sp.scopes;
        cells = subst (AreCells p.cells) (sym st.cells) sp.cells;
        rest = subst (Keeps x p.now p.calls p.to_cancel) (sym st.rest) sp.rest;
        still = still_on x.definitions code s s' (staying s s' st.scopes st.cells) st.asked sp.still;
      },
    )
