-- A call of a definition becomes its body.
use Rattle.std.proofs.Common.{◌≡◌, ◌≤◌, ℕ, suc, List, [], ◌++◌, length, map, Some, None, refl, sym, ap, ◌∙◌, subst, inr, arith, length-append, length-set}
use Rattle.std.specs.Prelude.{slice_get, slice_set}
use Rattle.orc_rules.specs.declared.entry.Entry.TheVariants as entry
use Rattle.orc_rules.specs.declared.param.Operand.{Operand}
use Rattle.orc_rules.specs.Term.{Term, Definition, call, put_all}
use Rattle.std.specs.Option.{option_map}
use Rattle.std.proofs.lemmas.Option.{slice_get-map}
use Rattle.orc_rules.specs.declared.program.Definition.{Definition as Declared}
use Rattle.orc_rules.specs.Programs.{routine_of}
use Rattle.orc_rules.specs.Nodes.{param_of, Listing, definition_of, definitions}
use Rattle.orc_rules.specs.Idle.{has_halted}
use Rattle.orc_rules.specs.Marked.{token, Replaces}
use Rattle.orc_rules.specs.Timed.{Context}
use Rattle.orc_env.specs.declared.names.Scope.{Scope}
use Rattle.orc_term.specs.declared.arena.Tip.TheVariants.{Token}
use Rattle.orc_term.specs.declared.arena.Kind.TheVariants.{Leaf}
use Rattle.orc_term.specs.Arena.{leaf, at, spelled}
use Rattle.orc_env.specs.Scopes.{Env, env_of, close, close_param}
use Rattle.orc_checker.specs.Checker.{State, Follows, AreCells}
use Rattle.orc_env.specs.Names.{AreOrdered}
use Rattle.orc_term.specs.Halting.{halt_flag}
use Rattle.orc_term.specs.Settling.{Settles}
use Rattle.orc_env.specs.Parameters.{Adds}
use Rattle.orc_checker.proofs.Flagging.{reflag_leaf_settled}
use Rattle.orc_env.proofs.Scopes.{close-call, env-kept}
use Rattle.orc_checker.proofs.Opening.{keeps_free}
use Rattle.orc_term.proofs.Trees.{node}
use Rattle.orc_checker.proofs.Moves.{written, turn, scope_there, still_on}

-- a definition of the code is one of the program
pub defined : (l : Listing) (ds : List Declared) (e : ℕ) (d : Declared) → map routine_of ds ≡ l.routines → slice_get ds e ≡ Some d → slice_get (definitions l) e ≡ Some (definition_of l (routine_of d))
defined l ds e d is h = slice_get-map (definition_of l) l.routines e ∙ ap (option_map (definition_of l)) (ap (λ z. slice_get z e) (sym is) ∙ slice_get-map routine_of ds e ∙ ap (option_map routine_of) h)

pub not_defined : (l : Listing) (ds : List Declared) (e : ℕ) → map routine_of ds ≡ l.routines → slice_get ds e ≡ None → slice_get (definitions l) e ≡ None
not_defined l ds e is h = slice_get-map (definition_of l) l.routines e ∙ ap (option_map (definition_of l)) (ap (λ z. slice_get z e) (sym is) ∙ slice_get-map routine_of ds e ∙ ap (option_map routine_of) h)

module _ (code : ℕ → Term) (s s' : State) (i q m f e : ℕ) (a : at s.nodes q i (Leaf (Token m f e))) where
  abbrev env : ℕ → Env
  env = env_of s.cells s.scopes

  abbrev env' : ℕ → Env
  env' = env_of s'.cells s'.scopes

  pub def-enters : (x : Context) (d : Definition) (k b g n : ℕ) (ps : List Operand) (more : List Scope) → code f ≡ call k (map param_of ps) → slice_get x.definitions k ≡ Some d → code g ≡ d.body → b ≡ length s.marks
      → Adds s.cells s.scopes e d.params ps more n → s'.nodes ≡ slice_set s.nodes i (node (Leaf (Token b g n)) q) → length s'.flags ≡ length s.flags → Settles s'.nodes s.flags i (halt_flag s.halts g) s'.flags
      → s'.scopes ≡ s.scopes ++ more → s'.cells ≡ s.cells → s'.halts ≡ s.halts → length s'.marks ≡ suc b → s'.rest ≡ s.rest → s.rest.to_cancel ≡ [] → s'.asked ≡ s.asked → Follows x code (entry.Def m b) s s'
  def-enters x d k b g n ps more is_f is_d is_g next adds nodes flags settles scopes cells halts marks rest free asked p sp =
      let there : e ≤ length s.scopes = scope_there code s p.marked sp.drawn i q m f e a in
      let grown : (j : ℕ) → env' j ≡ env_of s.cells (s.scopes ++ more) j = λ j w. env_of (cells w) (scopes w) j in
      let kept : (j : ℕ) → j ≤ length s.scopes → env j ≡ env' j = λ j le. env-kept s.cells s.scopes more j le ∙ sym (grown j) in
      let grows : length s.scopes ≤ length s'.scopes = omega (arith, ap length scopes, length-append s.scopes more) in
      let inside : n ≤ length s'.scopes = omega (arith, adds.0, ap length scopes) in
      let w = written s s' i q (Token m f e) (Token b g n) a refl refl (record { grows = grows; kept = kept }) inside nodes in
      let new = ap length nodes ∙ length-set s.nodes i (node (Leaf (Token b g n)) q) in
      let fl = reflag_leaf_settled code s.nodes s'.nodes s.halts s.flags s'.halts s'.flags i (Token m f e) halts (Token b g n) (halt_flag s.halts g) flags new (λ h. h f ∙ ap has_halted is_f) refl settles in
      let t = turn code s s' p.marked sp.drawn i q (Token m f e) (leaf i (Token b g n)) a refl w fl in
      let its = map (close_param (env e)) (map param_of ps) in
      let is_x : spelled code env' (leaf i (Token m f e)) ≡ token m (call k its) = ap (token m) ((λ j. close (sym (kept e there) j) (is_f j)) ∙ close-call (env e) k (map param_of ps)) in
      let is_y : spelled code env' (leaf i (Token b g n)) ≡ token b (put_all d.params its d.body) = ap (token b) ((λ j. close (grown n j) (is_g j)) ∙ adds.2 sp.scopes sp.cells.3 d.body) in (
        record { marked = t.after; mark = suc b; now = p.now; calls = p.calls; cells = p.cells; to_cancel = [] },
        (
          inr (sp.rest.due ∙ free),
          (
            k,
            its,
            d,
            t.inside,
            next ∙ sym sp.mark,
            is_d,
            subst (λ z. Replaces z (token b (put_all d.params its d.body)) p.marked t.inside t.after) is_x (subst (λ z. Replaces (spelled code env' (leaf i (Token m f e))) z p.marked t.inside t.after) is_y t.part),
            record { to_cancel = refl; same = refl },
          ),
        ),
        record {
          drawn = t.drawn;
          mark = sym marks;
          scopes = subst AreOrdered (sym scopes) (adds.1 sp.scopes);
          cells = subst (AreCells p.cells) (sym cells) sp.cells;
          rest = keeps_free x p s.rest s'.rest sp.rest free rest;
          still = still_on x.definitions code s s' (record { grows = grows; kept = kept }) asked sp.still;
        },
      )
