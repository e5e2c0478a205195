-- A pruning is opened.
use Rattle.std.proofs.Common.{◌≡◌, ◌≤◌, ◌+◌, ℕ, zero, suc, List, [], ◌∷◌, ◌++◌, length, refl, sym, ap, ◌∙◌, subst, inr, arith, length-append, length-set, Some, Option, get_or}
use Rattle.std.specs.Prelude.{slice_get, slice_set, ◌&&◌}
use Rattle.orc_rules.specs.declared.entry.Entry.TheVariants as entry
use Rattle.orc_rules.specs.declared.param.Param.TheVariants as is
use Rattle.orc_env.specs.declared.names.Bound.{Bound}
use Rattle.orc_env.specs.declared.names.Bound.TheVariants.{Cell}
use Rattle.orc_env.specs.declared.names.Scope.{Scope}
use Rattle.orc_term.specs.declared.arena.Tip.TheVariants.{Token}
use Rattle.orc_term.specs.declared.arena.Double.TheVariants.{Side}
use Rattle.orc_term.specs.declared.arena.Kind.TheVariants.{Leaf, Two}
use Rattle.orc_rules.specs.Term.{Term, prune, put}
use Rattle.orc_rules.specs.Marked.{token, in_opened, Replaces}
use Rattle.orc_rules.specs.Timed.{Context}
use Rattle.orc_rules.specs.Journal.{Place, next}
use Rattle.orc_term.specs.Arena.{leaf, two, at, spelled}
use Rattle.orc_env.specs.Scopes.{Env, current, env_of, close, without}
use Rattle.orc_checker.specs.Checker.{State, Enters, AreCells, numbers}
use Rattle.orc_env.specs.Parameters.{AreOwn}
use Rattle.orc_env.proofs.Parameters.{ordered_push}
use Rattle.orc_env.specs.Names.{AreOrdered}
use Rattle.orc_checker.specs.Calls.{Rest, Keeps}
use Rattle.orc_term.specs.Halting.{halt_flag}
use Rattle.orc_term.specs.Settling.{Settles}
use Rattle.orc_checker.proofs.Flagging.{reflag_two_settled}
use Rattle.orc_rules.specs.Idle.{has_halted}
use Rattle.orc_env.proofs.Closing.{close-prune, close-more}
use Rattle.orc_checker.proofs.Growth.{env-kept, env-new, current-push, env-current}
use Rattle.orc_term.proofs.Trees.{node}
use Rattle.orc_checker.proofs.Moves.{over_two, turn, scope_there, still_on}

-- what is kept besides the term stays where no cancel comes due
pub keeps_free : (x : Context) (p : Place) (r r' : Rest) → Keeps x p.now p.calls p.to_cancel r → r.to_cancel ≡ [] → r' ≡ r → Keeps x p.now p.calls [] r'
keeps_free x p r r' k free is = subst (λ z. Keeps x p.now p.calls [] z) (sym is) (subst (λ z. Keeps x p.now p.calls z r) (k.due ∙ free) k)

get_or-end : {X : Type 0} (xs : List X) (d : X) → get_or xs (length xs) d ≡ d
get_or-end [] d = refl
get_or-end (x ∷ xs) d = get_or-end xs d

length-numbers : (n : ℕ) → length (numbers n) ≡ n
length-numbers zero = refl
length-numbers (suc n) = ap suc (length-numbers n)

own_more : (cells : List Bound) (c : ℕ) → AreOwn cells → c ≡ length cells → AreOwn (cells ++ Cell c ∷ [])
own_more cells c own is d e h = go cells d (λ k. own d e k) (λ z. z ∙ sym is) h
  where
    cell_or : ℕ → Option Bound → ℕ
    cell_or d (Some (Cell z)) = z
    cell_or d _ = d

    go : (xs : List Bound) (j : ℕ) → (slice_get xs j ≡ Some (Cell e) → d ≡ e) → (j ≡ length xs → d ≡ c) → slice_get (xs ++ Cell c ∷ []) j ≡ Some (Cell e) → d ≡ e
    go [] zero k l h = l refl ∙ ap (cell_or c) h
    go [] (suc j) k l h = cc h
    go (x ∷ xs) zero k l h = k h
    go (x ∷ xs) (suc j) k l h = go xs j k (λ z. l (ap suc z)) h

-- a cell that comes is the next one
pub cells_more : (opened : List ℕ) (cells cells' : List Bound) (c : ℕ) → AreCells opened cells → c ≡ length cells → cells' ≡ cells ++ Cell c ∷ [] → (c ≡ next opened) × AreCells (c ∷ opened) cells'
cells_more opened cells cells' c (n, len, is, own) is_c more = (
  omega (arith, is_c, len, ap length is, length-numbers n),
  (suc n, omega (arith, ap length more, length-append cells (Cell c ∷ []), len), (λ j. (is_c ∙ len) j ∷ is j), subst AreOwn (sym more) (own_more cells c own is_c)),
)

module _ (code : ℕ → Term) (s s' : State) (i q m f e : ℕ) (a : at s.nodes q i (Leaf (Token m f e))) where
  abbrev env : ℕ → Env
  env = env_of s.cells s.scopes

  abbrev env' : ℕ → Env
  env' = env_of s'.cells s'.scopes

  pub open-enters : (n c b1 b2 g z h : ℕ) → code f ≡ prune (code g) z (code h) → n ≡ length s.nodes → c ≡ length s.cells → b1 ≡ length s.marks → b2 ≡ suc b1
      → s'.nodes ≡ (slice_set s.nodes i (node (Two (Side c) n (n + 1)) q) ++ node (Leaf (Token b1 g (suc (length s.scopes)))) i ∷ []) ++ node (Leaf (Token b2 h e)) i ∷ []
      → s'.scopes ≡ s.scopes ++ record { name = z; bound = Cell c; outer = e } ∷ [] → s'.cells ≡ s.cells ++ Cell c ∷ []
      → s'.halts ≡ s.halts → length s'.flags ≡ length ((s.flags ++ halt_flag s.halts g ∷ []) ++ halt_flag s.halts h ∷ [])
      → Settles s'.nodes ((s.flags ++ halt_flag s.halts g ∷ []) ++ halt_flag s.halts h ∷ []) i (halt_flag s.halts g && halt_flag s.halts h) s'.flags
      → length s'.marks ≡ suc b2 → s'.rest ≡ s.rest → s.rest.to_cancel ≡ [] → s'.asked ≡ s.asked → Enters code (entry.Open m c b1 b2) s s'
  open-enters n c b1 b2 g z h is_f is_n is_c is1 is2 nodes scopes cells halts flags_len settles marks rest free asked x p sp =
      let there : e ≤ length s.scopes = scope_there code s p.marked sp.drawn i q m f e a in
      let new : Scope = record { name = z; bound = Cell c; outer = e } in
      let pushed : s'.cells ≡ s.cells ++ Cell (length s.cells) ∷ [] = cells ∙ ap (λ y. s.cells ++ Cell y ∷ []) is_c in
      let same : (b : Bound) → _ = λ b. current-push s.cells b in
      let grown : (k : ℕ) → env' k ≡ env_of s.cells (s.scopes ++ new ∷ []) k = λ k. (λ j. env_of (pushed j) (scopes j) k) ∙ env-current s.cells (s.cells ++ Cell (length s.cells) ∷ []) same (s.scopes ++ new ∷ []) k in
      let kept : (k : ℕ) → k ≤ length s.scopes → env k ≡ env' k = λ k le. sym (grown k ∙ env-kept s.cells s.scopes new k le) in
      let longer : length s'.scopes ≡ suc (length s.scopes) = omega (arith, ap length scopes, length-append s.scopes (new ∷ [])) in
      let inner = suc (length s.scopes) in
      let itself : current s.cells (Cell c) ≡ Cell c = ap (λ y. get_or s.cells y (Cell c)) is_c ∙ get_or-end s.cells (Cell c) in
      let env_inner : env' inner ≡ (z, Cell c) ∷ env e = grown inner ∙ env-new s.cells s.scopes new inner refl ∙ ap (λ y. (z, y) ∷ env e) itself in
      let left = close (without z (env e)) (code g) in
      let right = close (env e) (code h) in
      let t' = two i (Side c) (leaf n (Token b1 g inner)) (leaf (n + 1) (Token b2 h e)) in
      let b = over_two s s' i q n (Token m f e) (Token b1 g inner) a refl refl is_n (record { grows = omega (arith, longer); kept = kept }) (omega (arith, longer)) (Side c) (Token b2 h e) refl (omega (arith, longer, there)) nodes in
      let first = slice_set s.nodes i (node (Two (Side c) n (n + 1)) q) in
      let more : length s'.nodes ≡ suc (suc n) = omega (arith, is_n, ap length nodes, length-append (first ++ node (Leaf (Token b1 g inner)) i ∷ []) (node (Leaf (Token b2 h e)) i ∷ []), length-append first (node (Leaf (Token b1 g inner)) i ∷ []), length-set s.nodes i (node (Two (Side c) n (n + 1)) q)) in
      let fl = reflag_two_settled code s.nodes s'.nodes s.halts s.flags s'.halts s'.flags i (Token m f e) halts (Side c) n (Token b1 g inner) (Token b2 h e) (halt_flag s.halts g) (halt_flag s.halts h) flags_len is_n more (λ w. w f ∙ ap has_halted is_f) refl refl settles in
      let t = turn code s s' p.marked sp.drawn i q (Token m f e) t' a refl b fl in
      let is_x : spelled code env' (leaf i (Token m f e)) ≡ token m (prune left z right) = ap (token m) ((λ j. close (sym (kept e there) j) (is_f j)) ∙ close-prune (env e) (code g) z (code h)) in
      let is_left : close (env' inner) (code g) ≡ put (is.Cell c) z left = ap (λ y. close y (code g)) env_inner ∙ sym (close-more (env e) z (Cell c) (code g)) in
      let is_right : close (env' e) (code h) ≡ right = ap (λ y. close y (code h)) (sym (kept e there)) in
      let is_y : spelled code env' t' ≡ in_opened (token b1 (put (is.Cell c) z left)) c (token b2 right) = λ j. in_opened (token b1 (is_left j)) c (token b2 (is_right j)) in
      let cell = cells_more p.cells s.cells s'.cells c sp.cells is_c cells in (
        record { marked = t.after; mark = suc b2; now = p.now; calls = p.calls; cells = c ∷ p.cells; to_cancel = [] },
        (
          inr (sp.rest.due ∙ free),
          (
            left,
            right,
            z,
            t.inside,
            cell.0,
            is1 ∙ sym sp.mark,
            is2,
            subst (λ w. Replaces w (in_opened (token b1 (put (is.Cell c) z left)) c (token b2 right)) p.marked t.inside t.after) is_x (subst (λ w. Replaces (spelled code env' (leaf i (Token m f e))) w p.marked t.inside t.after) is_y t.part),
            record { to_cancel = refl; same = refl },
          ),
        ),
        record {
          drawn = t.drawn;
          mark = sym marks;
          scopes = subst AreOrdered (sym scopes) (ordered_push s.scopes new sp.scopes there);
          cells = cell.1;
          rest = keeps_free x p s.rest s'.rest sp.rest free rest;
          still = still_on x.definitions code s s' (record { grows = omega (arith, longer); kept = kept }) asked sp.still;
        },
      )
