-- In a run of a closed program the operands of each call of a definition fit its parameters.
use Rattle.std.proofs.Common.{◌≡◌, ℕ, List, [], ◌∷◌, map, Some, None, refl, sym, ap, ◌∙◌, subst, inl, inr}
use Rattle.std.specs.Prelude.{slice_get, slice_index_or, option_map}
use Rattle.std.proofs.lemmas.List.{length-map}
use Rattle.orc_rules.specs.declared.param.Operand.{Operand}
use Rattle.orc_rules.specs.declared.param.Param.{Param}
use Rattle.orc_rules.specs.Term.{call}
use Rattle.orc_rules.specs.Nodes.{Listing, Routine, code, definitions, definition_of, source, param_of}
use Rattle.orc_rules.specs.Program.{IsProgram}
use Rattle.orc_rules.specs.Sites.{Site}
use Rattle.orc_rules.specs.Timed.{IsIn}
use Rattle.orc_graph.proofs.Runs.{map_get}
use Rattle.orc_env.specs.Scopes.{Env, close, close_param}
use Rattle.orc_env.proofs.Closed.{IsNamed, AreNamed, IsShut, program_shut, token_shut}
use Rattle.orc_env.proofs.Scopes.{close-call}
use Rattle.orc_frames.specs.Doing.{what_by, what_def}
use Rattle.orc_frames.specs.Paths.{standing}
use Rattle.orc_frames.specs.Parameters.{Misfit}
use Rattle.orc_frames.specs.declared.action.Action.TheVariants.{Def}
use Rattle.orc_tables.specs.declared.records.Token.{Token}
use Rattle.orc_ledger_spec.specs.Records.{Records, Lawful, context, its_env, its_path}
use Rattle.orc_ledger_spec.specs.Doing.{term_of, what_of}
use Rattle.orc_ledger_spec.specs.Moves.{StandsAt}
use Rattle.orc_ledger_spec.specs.Parameters.{IsUndone}
use Rattle.orc_ledger_spec.proofs.Offers.{stands_so}

-- where all have a name from a list, each one has
one_named : (xs : List ℕ) (f : Operand → Param) (ps : List Operand) (p : Operand) → AreNamed xs (map f ps) → IsIn p ps → IsNamed xs (f p)
one_named xs f [] p h i = elim i [ ]
one_named xs f (q ∷ ps) p h (inl e) = subst (λ z. IsNamed xs (f z)) (sym e) h.0
one_named xs f (q ∷ ps) p h (inr i) = one_named xs f ps p h.1 i

all_named : (xs : List ℕ) (f : Operand → Param) (g : Param → Param) (ps : List Operand) → AreNamed xs (map g (map f ps)) → AreNamed xs (map (λ p. g (f p)) ps)
all_named xs f g [] h = tt
all_named xs f g (p ∷ ps) h = (h.0, all_named xs f g ps h.1)

module _ (l : Listing) (sites : List Site) (s : Records) (L : Lawful l sites s) (closed : IsProgram (definitions l) (source l)) (t : Token) (i : IsIn t s.tokens) (scope e list : ℕ) (at : StandsAt l t scope (call e (map param_of (slice_index_or l.lists list [])))) where
  abbrev ops : List Operand
  ops = slice_index_or l.lists list []

  abbrev env : Env
  env = its_env (code l) s scope

  its_term : term_of (code l) s t ≡ call e (map (close_param env) (map param_of ops))
  its_term = ap (standing (code l) (its_env (code l) s)) (at.1) ∙ (ap (close env) (at.2) ∙ close-call env e (map param_of ops))

  shut : IsShut (definitions l) [] (call e (map (close_param env) (map param_of ops)))
  shut = token_shut (definitions l) L.place.marked t.serial _ (program_shut (context l sites) (source l) s.journal L.place closed L.leads) (stands_so l sites s L t i t.serial _ refl its_term)

  undefined : slice_get l.routines e ≡ None → what_of (code l) (definitions l) s t ≡ Def → ⊥
  undefined none word =
      let gone : slice_get (definitions l) e ≡ None = map_get (definition_of l) l.routines e ∙ ap (option_map (definition_of l)) none in
      cc (sym word ∙ ap (what_by (definitions l) (its_path (code l) s t.step)) its_term ∙ ap what_def gone)

  misfits : (r : Routine) → slice_get l.routines e ≡ Some r → Misfit s.cells s.scopes scope r.params ops → ⊥
  misfits r is (inl len) =
      let there : slice_get (definitions l) e ≡ Some (definition_of l r) = map_get (definition_of l) l.routines e ∙ ap (option_map (definition_of l)) is in
      len (shut.1 (definition_of l r) there ∙ length-map (map param_of ops) (close_param env) ∙ length-map ops param_of)
  misfits r is (inr (p, k, free)) =
      subst (IsNamed []) (ap (λ z. close_param env (param_of z)) free.1 ∙ free.2 L.sound.scopes) (one_named [] (λ z. close_param env (param_of z)) ops p (all_named [] param_of (close_param env) ops shut.0) k)

  -- so a call of a definition is done
  pub call-fits : what_of (code l) (definitions l) s t ≡ Def → IsUndone l s scope e list → ⊥
  call-fits word (inl none) = undefined none word
  call-fits word (inr (r, is, misfit)) = misfits r is misfit
