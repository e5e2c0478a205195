-- Why a call of a definition is refused rightly.
use Rattle.std.proofs.Common.{◌≡◌, ℕ, List, [], map, Some, None, refl, sym, ap, ◌∙◌, subst, inl, inr}
use Rattle.std.specs.Prelude.{slice_get}
use Rattle.orc_rules.specs.declared.param.Operand.{Operand}
use Rattle.orc_rules.specs.declared.entry.Entry.TheVariants as entry
use Rattle.orc_rules.specs.declared.entry.RuleFault.{RuleFault}
use Rattle.orc_rules.specs.declared.entry.RuleFault.TheVariants as reason
use Rattle.orc_rules.specs.Term.{Definition, call}
use Rattle.orc_rules.specs.Nodes.{Listing, code, definitions, source, param_of}
use Rattle.orc_rules.specs.Program.{IsProgram}
use Rattle.orc_rules.specs.Sites.{Table}
use Rattle.orc_env.specs.Scopes.{close, close_param, env_of}
use Rattle.orc_env.proofs.Closed.{IsNamed, IsShut, named_at, program_shut, token_shut}
use Rattle.orc_env.proofs.Scopes.{close-call}
use Rattle.orc_term.specs.declared.arena.Kind.TheVariants.{Leaf}
use Rattle.orc_term.specs.declared.arena.Tip.TheVariants.{Token}
use Rattle.orc_term.specs.Arena.{at}
use Rattle.orc_checker.specs.Checker.{State, context}
use Rattle.orc_checker.specs.Parameters.{LacksArguments}
use Rattle.orc_checker.specs.Refusing.{IsRightlyRefused}
use Rattle.orc_checker.proofs.CallsMade.{get-map, length-map}
use Rattle.orc_checker.proofs.Offered.{token_stands}
use Rattle.orc_checker.proofs.Refusing.{stands_on}

module _ (l : Listing) (t : Table) (s : State) (m a q i f o number : ℕ) (ops : List Operand) (there : at s.nodes q i (Leaf (Token m f o))) (is_call : code l f ≡ call number (map param_of ops)) where
  closed_call : close (env_of s.cells s.scopes o) (code l f) ≡ call number (map (close_param (env_of s.cells s.scopes o)) (map param_of ops))
  closed_call = ap (close (env_of s.cells s.scopes o)) is_call ∙ close-call (env_of s.cells s.scopes o) number (map param_of ops)

  -- the definition isn't there
  pub undefined_refused : slice_get (definitions l) number ≡ None → IsRightlyRefused l t (entry.Def m a) s reason.Form
  undefined_refused none not_memory cancels p r sp (e, ps, d, defined, st) =
      let same : call number (map (close_param (env_of s.cells s.scopes o)) (map param_of ops)) ≡ call e ps = sym closed_call ∙ stands_on l t cancels s p r sp m i q f o there (call e ps) st in
      let number_is : number ≡ e = cc same in
      cc (sym none ∙ ap (slice_get (definitions l)) number_is ∙ defined)

  -- its arguments don't serve: in a run of a closed program they do
  pub arguments_refused : (d : Definition) (why : RuleFault) → IsProgram (definitions l) (source l) → slice_get (definitions l) number ≡ Some d → LacksArguments s.cells s.scopes o d.params ops why → IsRightlyRefused l t (entry.Def m a) s why
  arguments_refused d reason.Form closed defined lacks not_memory cancels p r sp h =
      let x = context l t cancels in
      let env = env_of s.cells s.scopes o in
      let shut : IsShut (definitions l) [] (call number (map (close_param env) (map param_of ops))) =
      subst (IsShut (definitions l) []) closed_call (token_shut (definitions l) p.marked m (close env (code l f)) (program_shut x (source l) r.0 p closed r.1) (token_stands x l s p sp q i (Token m f o) there refl m _ refl)) in
      elim lacks [
        | inl len ↦ len (shut.1 d defined ∙ length-map (close_param env) (map param_of ops) ∙ length-map param_of ops)
        | inr w ↦ subst (IsNamed []) (ap (λ z. close_param env (param_of z)) w.3.1 ∙ w.3.2 sp.scopes) (named_at [] _ w.0 (close_param env (param_of w.1)) shut.0 (get-map (close_param env) (map param_of ops) w.0 (param_of w.1) (get-map param_of ops w.0 w.1 w.2)))
      ]
  arguments_refused d reason.Memory closed defined lacks not_memory cancels p r sp h = absurd (not_memory refl)
  arguments_refused d _ closed defined lacks not_memory cancels p r sp h = absurd lacks
