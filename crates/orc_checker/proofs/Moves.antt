-- The moves of marks.
use Rattle.std.proofs.Common.{◌≡◌, ◌≤◌, ◌+◌, ℕ, suc, List, [], ◌∷◌, ◌++◌, length, refl, sym, ap, ◌∙◌, subst, inr, arith, false, length-append, length-set}
use Rattle.std.specs.Prelude.{slice_get, slice_set, ◌&&◌}
use Rattle.orc_rules.specs.declared.entry.Entry.TheVariants as entry
use Rattle.orc_term.specs.declared.arena.Tip.{Tip}
use Rattle.orc_term.specs.declared.arena.Tip.TheVariants.{Gone, Ended, Token, Bears, Waits}
use Rattle.orc_term.specs.declared.arena.Single.{Single}
use Rattle.orc_term.specs.declared.arena.Single.TheVariants.{Feeds, Entered}
use Rattle.orc_term.specs.declared.arena.Double.{Double}
use Rattle.orc_term.specs.declared.arena.Double.TheVariants.{Both}
use Rattle.orc_term.specs.declared.arena.Kind.{Kind}
use Rattle.orc_term.specs.declared.arena.Kind.TheVariants.{Leaf, One, Two}
use Rattle.orc_rules.specs.Term.{Term, Definition, stop, par, seq, other}
use Rattle.orc_rules.specs.Marked.{Marked, ended, token, in_par, in_seq, in_other, Replaces, here}
use Rattle.orc_term.specs.Arena.{Tree, leaf, one, two, hits, at, TipIn, SingleIn, living, living_kind, spelled, plug}
use Rattle.orc_env.specs.Scopes.{Env, env_of, close, without}
use Rattle.orc_checker.specs.Checker.{State, Draws, Spells, Enters, AreCells}
use Rattle.orc_env.specs.Names.{AreOrdered}
use Rattle.orc_checker.specs.Calls.{Keeps}
use Rattle.orc_term.specs.Halting.{halt_flag}
use Rattle.orc_term.specs.Settling.{HasFlags, Reflags}
use Rattle.orc_checker.proofs.Flagging.{reflag_leaf, reflag_one, reflag_two}
use Rattle.orc_rules.specs.Idle.{has_halted, can_move}
use Rattle.orc_checker.specs.Stillness.{token_moves, AreStill, HasScope}
use Rattle.orc_rules.specs.Journal.{Place, Moves}
use Rattle.orc_rules.specs.Timed.{Context, IsIn}
use Rattle.orc_term.proofs.Trees.{holds-out, node}
use Rattle.orc_term.proofs.Lists.{get-set_same, get-set_other, get-append, get-end, living-set, living-push}
use Rattle.orc_checker.proofs.Change.{says_of, Becomes, changed}
use Rattle.orc_checker.proofs.Spelling.{replaces}
use Rattle.orc_env.proofs.Closing.{close-stop, close-par, close-seq, close-other}

-- the scopes that are there stay
pub record Grows (s s' : State) : Type 0 where
  pub grows : length s.scopes ≤ length s'.scopes
  pub kept : (e : ℕ) → e ≤ length s.scopes → env_of s.cells s.scopes e ≡ env_of s'.cells s'.scopes e

-- one node is written
pub written : (s s' : State) (i q : ℕ) (k l : Tip) → at s.nodes q i (Leaf k) → living_kind (Leaf k) ≡ 1 → living_kind (Leaf l) ≡ 1 → Grows s s' → TipIn (length s'.scopes) l → s'.nodes ≡ slice_set s.nodes i (node (Leaf l) q) → Becomes s s' i q (leaf i l)
written s s' i q k l a lives lives' g inside nodes =
    record {
      grows = g.grows;
      kept = g.kept;
      there = refl;
      same = λ u x off e. ap (λ z. slice_get z u) nodes ∙ get-set_other s.nodes i u (node (Leaf l) q) off ∙ e;
      holds = (ap (λ z. slice_get z i) nodes ∙ get-set_same s.nodes i (node (Leaf l) q) (node (Leaf k) q) a, inside);
      counted = λ u. omega (arith, living-set s.nodes i u (node (Leaf l) q) (node (Leaf k) q) a (lives' ∙ sym lives), ap (λ z. living (slice_get z u)) nodes);
    }

module _ (s s' : State) (i q n : ℕ) (k l : Tip) (a : at s.nodes q i (Leaf k)) (lives : living_kind (Leaf k) ≡ 1) (lives' : living_kind (Leaf l) ≡ 1) (is_n : n ≡ length s.nodes) (g : Grows s s') (l_in : TipIn (length s'.scopes) l) where
  -- one node is written, and one comes below it
  pub over_one : (d : Single) → SingleIn (length s'.scopes) d → s'.nodes ≡ slice_set s.nodes i (node (One d n) q) ++ node (Leaf l) i ∷ [] → Becomes s s' i q (one i d (leaf n l))
  over_one d inside nodes =
      let first = slice_set s.nodes i (node (One d n) q) in
      let len : length first ≡ length s.nodes = length-set s.nodes i (node (One d n) q) in
      record {
        grows = g.grows;
        kept = g.kept;
        there = refl;
        same = λ u x off e. ap (λ z. slice_get z u) nodes ∙ get-append first (node (Leaf l) i ∷ []) u x (get-set_other s.nodes i u (node (One d n) q) off ∙ e);
        holds = (
          ap (λ z. slice_get z i) nodes ∙ get-append first (node (Leaf l) i ∷ []) i (node (One d n) q) (get-set_same s.nodes i (node (One d n) q) (node (Leaf k) q) a),
          inside,
          (ap (λ z. slice_get z n) nodes ∙ get-end first (node (Leaf l) i ∷ []) n (is_n ∙ sym len), l_in),
        );
        counted =
            λ u.
            omega (
              arith,
              living-set s.nodes i u (node (One d n) q) (node (Leaf k) q) a (sym lives),
              living-push first u (node (Leaf l) i) lives',
              ap (λ z. hits u z) (is_n ∙ sym len),
              ap (λ z. living (slice_get z u)) nodes,
            );
      }

  -- one node is written, and two come below it
  pub over_two : (d : Double) (m : Tip) → living_kind (Leaf m) ≡ 1 → TipIn (length s'.scopes) m → s'.nodes ≡ (slice_set s.nodes i (node (Two d n (n + 1)) q) ++ node (Leaf l) i ∷ []) ++ node (Leaf m) i ∷ [] → Becomes s s' i q (two i d (leaf n l) (leaf (n + 1) m))
  over_two d m lives_m m_in nodes =
      let first = slice_set s.nodes i (node (Two d n (n + 1)) q) in
      let second = first ++ node (Leaf l) i ∷ [] in
      let len : length first ≡ length s.nodes = length-set s.nodes i (node (Two d n (n + 1)) q) in
      let len' : n + 1 ≡ length second = omega (arith, is_n, len, length-append first (node (Leaf l) i ∷ [])) in
      record {
        grows = g.grows;
        kept = g.kept;
        there = refl;
        same = λ u x off e. ap (λ z. slice_get z u) nodes ∙ get-append second (node (Leaf m) i ∷ []) u x (get-append first (node (Leaf l) i ∷ []) u x (get-set_other s.nodes i u (node (Two d n (n + 1)) q) off ∙ e));
        holds = (
          ap (λ z. slice_get z i) nodes ∙ get-append second (node (Leaf m) i ∷ []) i (node (Two d n (n + 1)) q)
              (get-append first (node (Leaf l) i ∷ []) i (node (Two d n (n + 1)) q) (get-set_same s.nodes i (node (Two d n (n + 1)) q) (node (Leaf k) q) a)),
          (
            ap (λ z. slice_get z n) nodes ∙ get-append second (node (Leaf m) i ∷ []) n (node (Leaf l) i) (get-end first (node (Leaf l) i ∷ []) n (is_n ∙ sym len)),
            l_in,
          ),
          (ap (λ z. slice_get z (n + 1)) nodes ∙ get-end second (node (Leaf m) i ∷ []) (n + 1) len', m_in),
        );
        counted =
            λ u.
            omega (
              arith,
              living-set s.nodes i u (node (Two d n (n + 1)) q) (node (Leaf k) q) a (sym lives),
              living-push first u (node (Leaf l) i) lives',
              living-push second u (node (Leaf m) i) lives_m,
              ap (λ z. hits u z) (is_n ∙ sym len),
              ap (λ z. hits u z) len',
              ap (λ z. living (slice_get z u)) nodes,
            );
      }

-- the scope of a token is there
pub scope_there : (code : ℕ → Term) (s : State) (o : Marked) → Draws code s o → (i q m f e : ℕ) → at s.nodes q i (Leaf (Token m f e)) → e ≤ length s.scopes
scope_there code s o d i q m f e a =
    let w = says_of s.nodes (length s.scopes) 0 i q (Token m f e) d.tree d.holds d.once a refl in
    (holds-out s.nodes (length s.scopes) 0 w.context (leaf i (Token m f e)) w.holds).1.1

-- where all are asked again
pub still_none : (defs : List Definition) (code : ℕ → Term) (s' : State) → s'.asked ≡ [] → AreStill defs code s'.cells s'.scopes s'.asked
still_none defs code s' none k is = elim (subst (IsIn k) none is) [ ]

-- one part changes, and the state draws what that leaves
pub record Turn (code : ℕ → Term) (s' : State) (m x y : Marked) : Type 0 where
  pub after : Marked
  pub inside : List ℕ
  pub part : Replaces x y m inside after
  pub drawn : Draws code s' after

pub turn : (code : ℕ → Term) (s s' : State) (m : Marked) → Draws code s m → (i q : ℕ) (k : Tip) (t' : Tree) → at s.nodes q i (Leaf k) → living_kind (Leaf k) ≡ 1 → Becomes s s' i q t' → Reflags code s.nodes s.halts s.flags s'.nodes s'.halts s'.flags i (leaf i k) t' → Turn code s' m (spelled code (env_of s'.cells s'.scopes) (leaf i k)) (spelled code (env_of s'.cells s'.scopes) t')
turn code s s' m d i q k t' a lives b fl =
    let env = env_of s'.cells s'.scopes in
    let ch = changed code s s' m d i q k t' a lives b in
    let h : Replaces (spelled code env (leaf i k)) (spelled code env t') (spelled code env (leaf i k)) [] (spelled code env t') = here in
    let r = replaces code env ch.context (leaf i k) t' h in
    record {
      after = spelled code env (plug ch.context t');
      inside = r.0;
      part = subst (λ z. Replaces (spelled code env (leaf i k)) (spelled code env t') z r.0 (spelled code env (plug ch.context t'))) (sym ch.was) r.1;
      drawn = record { tree = plug ch.context t'; holds = ch.holds; root = ch.root; once = ch.once; top = ch.top; marked = refl; flags = fl (length s.scopes) (length s'.scopes) ch.context ch.before (record { holds = ch.holds; once = ch.once; there = b.there; root = ch.root }) (subst (λ z. HasFlags code s.nodes s.halts s.flags z) (sym ch.is) d.flags) };
    }

-- what stays where one part changes
pub record Stays (s s' : State) (new : ℕ) : Type 0 where
  pub free : s.rest.to_cancel ≡ []
  pub scopes : s'.scopes ≡ s.scopes
  pub cells : s'.cells ≡ s.cells
  pub marks : length s'.marks ≡ new
  pub rest : s'.rest ≡ s.rest
  pub halts : s'.halts ≡ s.halts
  pub asked : s'.asked ≡ s.asked

pub staying : (s s' : State) → s'.scopes ≡ s.scopes → s'.cells ≡ s.cells → Grows s s'
staying s s' scopes cells = record { grows = omega (arith, ap length scopes); kept = λ e h. sym (λ j. env_of (cells j) (scopes j) e) }

-- tokens that couldn't move still can't where the scopes that were there stay
pub still_on : (defs : List Definition) (code : ℕ → Term) (s s' : State) → Grows s s' → s'.asked ≡ s.asked → AreStill defs code s.cells s.scopes s.asked → AreStill defs code s'.cells s'.scopes s'.asked
still_on defs code s s' g asked still k is = go k (still k (subst (IsIn k) asked is))
  where
    go : (k : Kind) → (token_moves defs code s.cells s.scopes k ≡ false) × HasScope (length s.scopes) k → (token_moves defs code s'.cells s'.scopes k ≡ false) × HasScope (length s'.scopes) k
    go (Leaf Gone) w = w
    go (Leaf Ended) w = w
    go (Leaf (Token m f e)) w = (ap (λ z. can_move defs (close z (code f))) (sym (g.kept e w.1)) ∙ w.0, omega (arith, w.1, g.grows))
    go (Leaf (Bears m v)) w = w
    go (Leaf (Waits k)) w = w
    go (One a i) w = w
    go (Two a i j) w = w

module _ (code : ℕ → Term) (s s' : State) (i q m f e : ℕ) (a : at s.nodes q i (Leaf (Token m f e))) where
  abbrev env : ℕ → Env
  env = env_of s.cells s.scopes

  abbrev its : Term → Marked
  its t = token m (close (env e) t)

  -- a token's node becomes a tree
  pub token_turns : (t' : Tree) (c : Term) (y : Marked) (new : ℕ) (x : Context) (p : Place) → Spells x code s p → Becomes s s' i q t' → Reflags code s.nodes s.halts s.flags s'.nodes s'.halts s'.flags i (leaf i (Token m f e)) t' → Stays s s' new → code f ≡ c → spelled code env t' ≡ y → (r : Place) × Moves p (its c) y new r × Spells x code s' r
  token_turns t' c y new x p sp b fl st is its_y =
      let t = turn code s s' p.marked sp.drawn i q (Token m f e) t' a refl b fl in
      let at_env : (n : ℕ) → env_of s'.cells s'.scopes n ≡ env n = λ n j. env_of (st.cells j) (st.scopes j) n in
      let is_x : spelled code (env_of s'.cells s'.scopes) (leaf i (Token m f e)) ≡ its c = λ j. token m (close (at_env e j) (is j)) in
      let is_y : spelled code (env_of s'.cells s'.scopes) t' ≡ y = (λ j. spelled code (env_of (st.cells j) (st.scopes j)) t') ∙ its_y in (
        record p { marked = t.after; mark = new },
        record { inside = t.inside; part = subst (λ z. Replaces z y p.marked t.inside t.after) is_x (subst (λ z. Replaces (spelled code (env_of s'.cells s'.scopes) (leaf i (Token m f e))) z p.marked t.inside t.after) is_y t.part); same = refl },
        record {
          drawn = t.drawn;
          mark = sym st.marks;
          scopes = subst AreOrdered (sym st.scopes) sp.scopes;
          cells = subst (AreCells p.cells) (sym st.cells) sp.cells;
          rest = subst (Keeps x p.now p.calls p.to_cancel) (sym st.rest) sp.rest;
          still = still_on x.definitions code s s' (staying s s' st.scopes st.cells) st.asked sp.still;
        },
      )

  -- its scope is there afterwards
  its_scope : {new : ℕ} (x : Context) (p : Place) → Spells x code s p → Stays s s' new → e ≤ length s'.scopes
  its_scope x p sp st = omega (arith, scope_there code s p.marked sp.drawn i q m f e a, ap length st.scopes)

  -- one more node
  grown : (k : Kind) (n : ℕ) (l : Tip) → n ≡ length s.nodes → s'.nodes ≡ slice_set s.nodes i (node k q) ++ node (Leaf l) i ∷ [] → length s'.nodes ≡ suc n
  grown k n l is_n nodes = omega (arith, is_n, ap length nodes, length-append (slice_set s.nodes i (node k q)) (node (Leaf l) i ∷ []), length-set s.nodes i (node k q))

  pub end-enters : code f ≡ stop → s'.nodes ≡ slice_set s.nodes i (node (Leaf Ended) q) → s'.flags ≡ s.flags → Stays s s' (length s.marks) → Enters code (entry.End m) s s'
  end-enters is nodes flags st x p sp =
      let b = written s s' i q (Token m f e) Ended a refl refl (staying s s' st.scopes st.cells) tt nodes in
      let new = ap length nodes ∙ length-set s.nodes i (node (Leaf Ended) q) in
      let fl = reflag_leaf code s.nodes s'.nodes s.halts s.flags s'.halts s'.flags i (Token m f e) st.halts Ended flags new (λ h. h f ∙ ap has_halted is) in
      let r = token_turns (leaf i Ended) stop ended p.mark x p sp b fl (record { free = st.free; scopes = st.scopes; cells = st.cells; marks = st.marks ∙ sym sp.mark; rest = st.rest; halts = st.halts; asked = st.asked }) is refl in
      (r.0, (inr (sp.rest.due ∙ st.free), subst (λ z. Moves p (token m z) ended p.mark r.0) (close-stop (env e)) r.1), r.2)

  pub fork-enters : (n b1 b2 g h : ℕ) → code f ≡ par (code g) (code h) → n ≡ length s.nodes → b1 ≡ length s.marks → b2 ≡ suc b1
      → s'.nodes ≡ (slice_set s.nodes i (node (Two Both n (n + 1)) q) ++ node (Leaf (Token b1 g e)) i ∷ []) ++ node (Leaf (Token b2 h e)) i ∷ []
      → s'.flags ≡ (s.flags ++ halt_flag s.halts g ∷ []) ++ halt_flag s.halts h ∷ [] → Stays s s' (suc b2) → Enters code (entry.Fork m b1 b2) s s'
  fork-enters n b1 b2 g h is is_n is1 is2 nodes flags st x p sp =
      let inside = its_scope x p sp st in
      let b = over_two s s' i q n (Token m f e) (Token b1 g e) a refl refl is_n (staying s s' st.scopes st.cells) inside Both (Token b2 h e) refl inside nodes in
      let first = slice_set s.nodes i (node (Two Both n (n + 1)) q) in
      let new : length s'.nodes ≡ suc (suc n) = omega (arith, is_n, ap length nodes, length-append (first ++ node (Leaf (Token b1 g e)) i ∷ []) (node (Leaf (Token b2 h e)) i ∷ []), length-append first (node (Leaf (Token b1 g e)) i ∷ []), length-set s.nodes i (node (Two Both n (n + 1)) q)) in
      let fl = reflag_two code s.nodes s'.nodes s.halts s.flags s'.halts s'.flags i (Token m f e) st.halts Both n (Token b1 g e) (Token b2 h e) (halt_flag s.halts g) (halt_flag s.halts h) flags is_n new (λ w. w f ∙ ap has_halted is ∙ (λ j. sym (w g) j && sym (w h) j)) refl refl in
      let r = token_turns (two i Both (leaf n (Token b1 g e)) (leaf (n + 1) (Token b2 h e))) (par (code g) (code h)) _ (suc b2) x p sp b fl st is refl in (
        r.0,
        (
          inr (sp.rest.due ∙ st.free),
          (
            close (env e) (code g),
            close (env e) (code h),
            is1 ∙ sym sp.mark,
            is2,
            subst (λ z. Moves p (token m z) (in_par (token b1 (close (env e) (code g))) (token b2 (close (env e) (code h)))) (suc b2) r.0) (close-par (env e) (code g) (code h)) r.1,
          ),
        ),
        r.2,
      )

  pub seq-enters : (n b g x h : ℕ) → code f ≡ seq (code g) x (code h) → n ≡ length s.nodes → b ≡ length s.marks
      → s'.nodes ≡ slice_set s.nodes i (node (One (Feeds x h e) n) q) ++ node (Leaf (Token b g e)) i ∷ []
      → s'.flags ≡ s.flags ++ halt_flag s.halts g ∷ [] → Stays s s' (suc b) → Enters code (entry.Seq m b) s s'
  seq-enters n b g z h is is_n is1 nodes flags st x p sp =
      let inside = its_scope x p sp st in
      let c = over_one s s' i q n (Token m f e) (Token b g e) a refl refl is_n (staying s s' st.scopes st.cells) inside (Feeds z h e) inside nodes in
      let new = grown (One (Feeds z h e) n) n (Token b g e) is_n nodes in
      let fl = reflag_one code s.nodes s'.nodes s.halts s.flags s'.halts s'.flags i (Token m f e) st.halts (Feeds z h e) n (Token b g e) (halt_flag s.halts g) flags is_n new (λ w. w f ∙ ap has_halted is ∙ sym (w g)) refl in
      let r = token_turns (one i (Feeds z h e) (leaf n (Token b g e))) (seq (code g) z (code h)) _ (suc b) x p sp c fl st is refl in (
        r.0,
        (
          inr (sp.rest.due ∙ st.free),
          (
            close (env e) (code g),
            close (without z (env e)) (code h),
            z,
            is1 ∙ sym sp.mark,
            subst (λ w. Moves p (token m w) (in_seq (token b (close (env e) (code g))) z (close (without z (env e)) (code h))) (suc b) r.0) (close-seq (env e) (code g) z (code h)) r.1,
          ),
        ),
        r.2,
      )

  pub other-enters : (n b g h : ℕ) → code f ≡ other (code g) (code h) → n ≡ length s.nodes → b ≡ length s.marks
      → s'.nodes ≡ slice_set s.nodes i (node (One (Entered m h e) n) q) ++ node (Leaf (Token b g e)) i ∷ []
      → s'.flags ≡ s.flags ++ halt_flag s.halts g ∷ [] → Stays s s' (suc b) → Enters code (entry.Other m b) s s'
  other-enters n b g h is is_n is1 nodes flags st x p sp =
      let inside = its_scope x p sp st in
      let c = over_one s s' i q n (Token m f e) (Token b g e) a refl refl is_n (staying s s' st.scopes st.cells) inside (Entered m h e) inside nodes in
      let new = grown (One (Entered m h e) n) n (Token b g e) is_n nodes in
      let fl = reflag_one code s.nodes s'.nodes s.halts s.flags s'.halts s'.flags i (Token m f e) st.halts (Entered m h e) n (Token b g e) (halt_flag s.halts g) flags is_n new (λ w. w f ∙ ap has_halted is) refl in
      let r = token_turns (one i (Entered m h e) (leaf n (Token b g e))) (other (code g) (code h)) _ (suc b) x p sp c fl st is refl in (
        r.0,
        (
          inr (sp.rest.due ∙ st.free),
          (
            close (env e) (code g),
            close (env e) (code h),
            is1 ∙ sym sp.mark,
            subst (λ w. Moves p (token m w) (in_other m (token b (close (env e) (code g))) (close (env e) (code h))) (suc b) r.0) (close-other (env e) (code g) (code h)) r.1,
          ),
        ),
        r.2,
      )
