-- What is published goes up to a `>x>`, and its right side starts.
use Rattle.std.proofs.Common.{◌≡◌, ◌≤◌, ◌+◌, ℕ, suc, List, [], ◌∷◌, ◌++◌, length, get_or, refl, sym, ap, ◌∙◌, subst, inr, ⊎_elim, arith, length-append, true, false}
use Rattle.std.specs.Prelude.{slice_set}
use Rattle.orc_rules.specs.declared.value.Value.{Value}
use Rattle.orc_rules.specs.declared.param.Param.TheVariants.{Is}
use Rattle.orc_rules.specs.declared.entry.Entry.TheVariants as entry
use Rattle.orc_term.specs.declared.arena.Node.{Node}
use Rattle.orc_env.specs.declared.names.Scope.{Scope}
use Rattle.orc_env.specs.declared.names.Bound.TheVariants as bound
use Rattle.orc_term.specs.declared.arena.Tip.{Tip}
use Rattle.orc_term.specs.declared.arena.Tip.TheVariants.{Ended, Token}
use Rattle.orc_term.specs.declared.arena.Kind.{Kind}
use Rattle.orc_term.specs.declared.arena.Kind.TheVariants.{Leaf, One}
use Rattle.orc_term.specs.declared.arena.Single.{Single}
use Rattle.orc_term.specs.declared.arena.Single.TheVariants.{Feeds, Entered, Passed}
use Rattle.orc_term.specs.declared.arena.Double.TheVariants.{Both, Side}
use Rattle.orc_term.specs.declared.walk.Taker.{Taker}
use Rattle.orc_term.specs.declared.walk.Taker.TheVariants.{Whole, Fed}
use Rattle.orc_term.specs.declared.walk.Taker.TheVariants as taker
use Rattle.orc_rules.specs.Term.{Term, param, put}
use Rattle.orc_rules.specs.Step.{publishes, silent}
use Rattle.orc_rules.specs.Marked.{erase, token, ended, in_seq, in_par, Emits, emits, is_fed}
use Rattle.orc_term.specs.Arena.{Tree, leaf, one, place, Holds, StandOnce, IsTopped, at, SingleIn, living_kind, spelled, Frame, on_one, on_left, on_right, fit, plug}
use Rattle.orc_env.specs.Scopes.{Env, env_of, close, without}
use Rattle.orc_term.specs.Around.{above}
use Rattle.orc_term.proofs.Feeding.{place-fit}
use Rattle.orc_term.specs.Rising.{takes, rest, under, risen, nowhere, IsTaker, Rises}
use Rattle.orc_term.specs.Grafting.{grafted, Grafts}
use Rattle.orc_checker.specs.Checker.{State, Enters, AreCells}
use Rattle.orc_term.specs.Bearers.{BearsValue}
use Rattle.orc_env.specs.Names.{AreOrdered}
use Rattle.orc_checker.specs.Calls.{Keeps}
use Rattle.orc_rules.specs.Idle.{has_halted}
use Rattle.orc_term.specs.Halting.{halt_flag}
use Rattle.orc_term.specs.Settling.{flag, HasFlags, Settles}
use Rattle.orc_term.proofs.Settling.{flag_says, flagged-out, flag-set_same}
use Rattle.orc_checker.proofs.Flagging.{sent_flags}
use Rattle.orc_term.proofs.Trees.{holds-out, topped-plug, place-plug, node}
use Rattle.orc_term.proofs.Lists.{get-more}
use Rattle.orc_checker.proofs.Change.{changed}
use Rattle.orc_checker.proofs.Moves.{written, still_on, Grows}
use Rattle.orc_term.proofs.Rising.{plug-under, get_or-some}
use Rattle.orc_env.proofs.Closing.{close-more}
use Rattle.orc_env.proofs.Scopes.{env-kept, env-new}
use Rattle.orc_checker.proofs.Spelling.{spelled-kept, taken}
use Rattle.orc_checker.proofs.Publishing.{goes_up, place-risen, topped-risen}

-- the `>x>` that takes it is the first one around
pub record IsFed (k : List Frame) (i : ℕ) : Type 0 where
  pub x : ℕ
  pub g : ℕ
  pub e : ℕ
  pub around : List Frame
  pub is : rest k ≡ on_one i (Feeds x g e) ∷ around

its_place : Taker → ℕ
its_place (Fed n) = n
its_place (taker.Bound c n) = n
its_place Whole = 0

pub fed_there : (k : List Frame) (i : ℕ) → Fed i ≡ takes k → IsFed k i
unfolding its_place
fed_there [] i h = absurd (cc h)
fed_there (on_one j (Feeds x g e) ∷ k) i h = record { x = x; g = g; e = e; around = k; is = ap (λ z. on_one (its_place z) (Feeds x g e) ∷ k) (sym h) }
fed_there (on_one j (Entered n g e) ∷ k) i h = let f = fed_there k i h in record { x = f.x; g = f.g; e = f.e; around = f.around; is = f.is }
fed_there (on_one j Passed ∷ k) i h = let f = fed_there k i h in record { x = f.x; g = f.g; e = f.e; around = f.around; is = f.is }
fed_there (on_left j d u ∷ k) i h = let f = fed_there k i h in record { x = f.x; g = f.g; e = f.e; around = f.around; is = f.is }
fed_there (on_right j Both u ∷ k) i h = let f = fed_there k i h in record { x = f.x; g = f.g; e = f.e; around = f.around; is = f.is }
fed_there (on_right j (Side c) u ∷ k) i h = absurd (cc h)

single_of : Kind → Single
single_of (One s p) = s
single_of _ = Passed

pub one_single : (s r : Single) (p q : ℕ) → One s p ≡ One r q → s ≡ r
unfolding single_of
one_single s r p q h = ap single_of h

-- scopes stay in order
pub ordered-more : (ss : List Scope) (s : Scope) → AreOrdered ss → s.outer ≤ length ss → AreOrdered (ss ++ s ∷ [])
ordered-more ss s ordered below i r h = ⊎_elim (λ e. ordered i r e) (λ e. omega (arith, below, e.0, ap Scope.outer e.1)) (get-more ss s i r h)

-- the root stays where a part below it changes
pub place-over : (f : Frame) (o : List Frame) (t t' : Tree) → place (plug (f ∷ o) t) ≡ place (plug (f ∷ o) t')
place-over f o t t' = place-plug o (fit f t) (fit f t') (place-fit f t ∙ sym (place-fit f t'))

-- what there is above a `>x>`
abbrev pub Around : List Frame → Type 0
Around o = (f : Frame) × (k : List Frame) × (o ≡ f ∷ k)

pub around_feeds : (o : List Frame) (i x g e : ℕ) (t : Tree) → IsTopped (plug o (one i (Feeds x g e) t)) → Around o
around_feeds [] i x g e t h = absurd h
around_feeds (f ∷ k) i x g e t h = (f, k, refl)

-- the state after it
pub record Sent (s s' : State) (i at x g outer a : ℕ) (v : Value) (between : List Node) : Type 0 where
  pub free : s.rest.to_cancel ≡ []
  pub grafts : Grafts between at (Token a g (length s.scopes + 1)) s'.nodes
  pub scopes : s'.scopes ≡ s.scopes ++ (record { name = x; bound = bound.Is v; outer = outer }) ∷ []
  pub cells : s'.cells ≡ s.cells
  pub marks : length s'.marks ≡ suc a
  pub next : a ≡ length s.marks
  pub rest : s'.rest ≡ s.rest
  pub halts : s'.halts ≡ s.halts
  pub asked : s'.asked ≡ s.asked
  pub same_len : length between ≡ length s.nodes
  pub len : length s'.nodes ≡ length between + 2
  pub flags_len : length s'.flags ≡ length ((s.flags ++ false ∷ []) ++ halt_flag s.halts g ∷ [])
  pub settles : Settles s'.nodes ((s.flags ++ false ∷ []) ++ halt_flag s.halts g ∷ []) i true s'.flags

pub send-enters : (code : ℕ → Term) (s s' : State) (i q m fed x g outer part a : ℕ) (l : Tip) (v : Value) (between : List Node) → at s.nodes q i (Leaf l) → living_kind (Leaf l) ≡ 1 → BearsValue code s.cells s.scopes m l v
    → IsTaker s.nodes i (Fed fed) → Node.kind (get_or s.nodes fed nowhere) ≡ One (Feeds x g outer) part
    → Rises (slice_set s.nodes i (node (Leaf Ended) q)) i between
    → Sent s s' i fed x g outer a v between → Enters code (entry.Send m a v) s s'
send-enters code s s' i q m fed x g outer part a l v between is_at lives bears taker_is feeds rises st con p sp =
    let new : Scope = record { name = x; bound = bound.Is v; outer = outer } in
    let n = length s.scopes in
    let n' = length s'.scopes in
    let env = env_of s.cells s.scopes in
    let env' = env_of s'.cells s'.scopes in
    let len : n' ≡ n + 1 = omega (arith, ap length st.scopes, length-append s.scopes (new ∷ [])) in
    let kept : (e : ℕ) → e ≤ n → env e ≡ env' e = λ e h. env-kept s.cells s.scopes (new ∷ []) e h ∙ sym (λ j. env_of (st.cells j) (st.scopes j) e) in
    let mid : State = record { nodes = slice_set s.nodes i (node (Leaf Ended) q); scopes = s'.scopes; cells = s'.cells; marks = s.marks; halts = s.halts; flags = s.flags; asked = s.asked; rest = s.rest } in
    let gr : Grows s mid = record { grows = omega (arith, len); kept = kept } in
    let ch = changed code s mid p.marked sp.drawn i q l (leaf i Ended) is_at lives (written s mid i q l Ended is_at lives refl gr tt refl) in
    let k = ch.context in
    let by = taker_is n k (leaf i l) ch.before in
    let r = rises n' k (leaf i Ended) (record { holds = ch.holds; once = ch.once; there = refl; root = ch.root }) in
    let f = fed_there k fed by in
    let old = under k (leaf i l) in
    let was : Holds s.nodes n 0 (plug (on_one fed (Feeds f.x f.g f.e) ∷ f.around) old) = subst (λ z. Holds s.nodes n 0 z) (sym (plug-under k (leaf i l)) ∙ ap (λ z. plug z old) f.is) ch.before.holds in
    let o = holds-out s.nodes n 0 (on_one fed (Feeds f.x f.g f.e) ∷ f.around) old was in
    let same : Feeds f.x f.g f.e ≡ Feeds x g outer = one_single _ _ _ _ (sym (ap Node.kind (get_or-some s.nodes n s.nodes fed nowhere _ o.0.0)) ∙ feeds) in
    let is : rest k ≡ on_one fed (Feeds x g outer) ∷ f.around = f.is ∙ ap (λ z. on_one fed z ∷ f.around) same in
    let below : outer ≤ n = subst (λ z. SingleIn n z) same o.0.1 in
    let top = topped-risen k (leaf i Ended) (leaf i Ended) (λ z. z) ch.top in
    let fr = around_feeds f.around fed x g outer (risen k (leaf i Ended)) (subst (λ z. IsTopped (plug z (risen k (leaf i Ended)))) is top) in
    let whole : rest k ≡ on_one fed (Feeds x g outer) ∷ fr.0 ∷ fr.1 = is ∙ ap (λ z. on_one fed (Feeds x g outer) ∷ z) fr.2 in
    let its : Single = Feeds x g outer in
    let t : Tree = risen k (leaf i Ended) in
    let t' : Tree = grafted between fed its t (Token a g (n + 1)) in
    let gh = st.grafts n' n' its fr.0 fr.1 t (omega arith) refl (omega (arith, len)) (subst (λ z. Holds between n' 0 (plug z t)) whole r.0) (subst (λ z. StandOnce between (plug z t)) whole r.1) in
    let root = place-over fr.0 fr.1 t' (one fed its t) ∙ sym (ap (λ z. place (plug z t)) whole) ∙ place-risen k (leaf i Ended) ∙ ch.root in
    let flags = subst (λ z. HasFlags code s.nodes s.halts s.flags z) (sym ch.is) sp.drawn.flags in
    let was_flagged = (flagged-out s.halts s.flags k (leaf i l) flags.each).1 in
    let off : flag s.flags i ≡ false = flag_says code env s.halts flags.are_halts s.flags (leaf i l) was_flagged ∙ ap (λ z. has_halted (erase z)) (bears sp.scopes) in
    let now_flags =
    sent_flags code s.nodes s'.nodes s.halts s.flags s'.halts s'.flags n n' i k (leaf i l) (leaf i Ended) ch.before flags off fed x g outer (length between) fr.0 fr.1 (Token a g (n + 1)) (halt_flag s.halts g) whole st.same_len refl refl gh.0 gh.1 root
    st.halts (omega (arith, st.len)) st.flags_len (flag-set_same ((s.flags ++ false ∷ []) ++ halt_flag s.halts g ∷ []) i) st.settles in
    let leaf_holds = (holds-out s.nodes n 0 k (leaf i l) ch.before.holds).1 in
    let bears' : spelled code env' (leaf i l) ≡ token m (param (Is v)) = sym (spelled-kept code env env' n kept s.nodes (above 0 k) (leaf i l) leaf_holds) ∙ bears sp.scopes in
    let first : Emits m a v (spelled code env' (leaf i l)) (publishes v) (spelled code env' (leaf i Ended)) = subst (λ z. Emits m a v z (publishes v) ended) (sym bears') emits in
    let side : Term = close (without x (env' outer)) (code g) in
    let up = goes_up code env' k (leaf i l) (leaf i Ended) first in
    let scope' : env' (n + 1) ≡ (x, bound.Is v) ∷ env' outer = (λ j. env_of (st.cells j) (st.scopes j) (n + 1)) ∙ env-new s.cells s.scopes new (n + 1) refl ∙ ap (λ (z : Env). (x, bound.Is v) ∷ z) (kept outer below) in
    let right : put (Is v) x side ≡ close (env' (n + 1)) (code g) = close-more (env' outer) x (bound.Is v) (code g) ∙ ap (λ z. close z (code g)) (sym scope') in
    let fed' : Emits m a v (spelled code env' (one fed its old)) silent (spelled code env' t') =
    subst (λ z. Emits m a v (in_seq (spelled code env' old) x side) silent (in_par (in_seq (spelled code env' t) x side) (token a z))) right (is_fed up) in
    let shown : Emits m a v p.marked silent (spelled code env' (plug (fr.0 ∷ fr.1) t')) =
    subst (λ z. Emits m a v z silent (spelled code env' (plug (fr.0 ∷ fr.1) t'))) (ap (spelled code env') (sym (ap (λ z. plug z old) whole) ∙ plug-under k (leaf i l)) ∙ sym ch.was)
    (taken code env' (fr.0 ∷ fr.1) (one fed its old) t' fed') in
    let due : p.to_cancel ≡ [] = sp.rest.due ∙ st.free in (
      record p { marked = spelled code env' (plug (fr.0 ∷ fr.1) t'); mark = suc a },
      (inr due, (st.next ∙ sym sp.mark, shown, record { to_cancel = due; same = refl })),
      record {
        drawn = record {
          tree = plug (fr.0 ∷ fr.1) t';
          holds = gh.0;
          root = root;
          once = gh.1;
          top = topped-plug fr.0 fr.1 (one fed its t) t' (subst (λ z. IsTopped (plug z t)) whole top);
          marked = refl;
          flags = now_flags;
        };
        mark = sym st.marks;
        scopes = subst AreOrdered (sym st.scopes) (ordered-more s.scopes new sp.scopes below);
        cells = subst (AreCells p.cells) (sym st.cells) sp.cells;
        rest = subst (Keeps con p.now p.calls p.to_cancel) (sym st.rest) sp.rest;
        still = still_on con.definitions code s s' (record { grows = omega (arith, len); kept = kept }) st.asked sp.still;
      },
    )
