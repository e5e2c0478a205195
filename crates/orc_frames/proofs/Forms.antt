-- What a token does, by the form of the node at which it stands.
use Rattle.std.proofs.Common.{◌≡◌, ◌<◌, ◌+◌, ℕ, List, [], ◌∷◌, ◌++◌, refl, sym, ap, ◌∙◌, map, length, get_or, arith, length-append, Bool, true, false, Option, Some, None}
use Rattle.std.specs.Prelude.{slice_get, option_map}
use Rattle.std.proofs.lemmas.List.{get_or_past}
use Rattle.orc_rules.specs.declared.value.Value.{Value}
use Rattle.orc_rules.specs.declared.param.Param.{Param}
use Rattle.orc_rules.specs.declared.param.Param.TheVariants as is
use Rattle.orc_rules.specs.Term.{Term, stop, param, site, call, par, seq, prune, other, Definition, values_of}
use Rattle.orc_rules.specs.Nodes.{Listing, Routine, definitions, definition_of}
use Rattle.orc_rules.specs.Idle.{has_void}
use Rattle.orc_env.specs.Scopes.{Env, close, close_param}
use Rattle.orc_graph.proofs.Runs.{map_get}
use Rattle.orc_env.proofs.Closing.{close-stop, close-par, close-other, close-seq, close-prune}
use Rattle.orc_env.proofs.Scopes.{close-of-param, close-site, close-call}
use Rattle.orc_frames.specs.Spelling.{Path, whole}
use Rattle.orc_frames.specs.Paths.{inwards, paths_from, path}
use Rattle.orc_frames.specs.Doing.{first_cell, what_site, or_else, scan, of_param, what_def, what_by}
use Rattle.orc_tables.specs.declared.records.Step.{Step}
use Rattle.orc_frames.specs.declared.action.Action.{Action}
use Rattle.orc_frames.specs.declared.action.Action.TheVariants.{Halt, Fork, Seq, Prune, Other, Def, Void, Call, Wait}
use Rattle.orc_frames.proofs.Meaning.{rest_none, rest_some}

-- ---- one pass over the arguments

-- the first cell, where one before the arguments was found
abbrev first_from : Option ℕ → List Param → ℕ
first_from (Some c) ps = c
first_from None ps = first_cell ps

scan_void : (ps : List Param) (w : Bool) (f : Option ℕ) → has_void ps ≡ true → scan w f ps ≡ Void
scan_void [] w f h = cc h
scan_void (is.Void ∷ ps) w f h = refl
scan_void (is.Is v ∷ ps) w f h = scan_void ps w f h
scan_void (is.Name x ∷ ps) w f h = scan_void ps true f h
scan_void (is.Cell c ∷ ps) w f h = scan_void ps true (or_else f c) h

scan_true : (ps : List Param) (f : Option ℕ) → has_void ps ≡ false → scan true f ps ≡ Wait (first_from f ps)
scan_true [] (Some c) h = refl
scan_true [] None h = refl
scan_true (is.Void ∷ ps) f h = cc h
scan_true (is.Is v ∷ ps) (Some c) h = scan_true ps (Some c) h
scan_true (is.Is v ∷ ps) None h = scan_true ps None h
scan_true (is.Name x ∷ ps) (Some c) h = scan_true ps (Some c) h
scan_true (is.Name x ∷ ps) None h = scan_true ps None h
scan_true (is.Cell d ∷ ps) (Some c) h = scan_true ps (Some c) h
scan_true (is.Cell d ∷ ps) None h = scan_true ps (Some d) h

scan_none : (ps : List Param) → has_void ps ≡ false → values_of ps ≡ None → scan false None ps ≡ Wait (first_cell ps)
scan_none [] h n = cc n
scan_none (is.Void ∷ ps) h n = cc h
scan_none (is.Is v ∷ ps) h n = scan_none ps h (rest_none v ps n)
scan_none (is.Name x ∷ ps) h n = scan_true ps None h
scan_none (is.Cell d ∷ ps) h n = scan_true ps (Some d) h

scan_values : (ps : List Param) (vs : List Value) → values_of ps ≡ Some vs → scan false None ps ≡ Call
scan_values [] vs h = refl
scan_values (is.Void ∷ ps) vs h = cc h
scan_values (is.Is v ∷ ps) vs h = let d = rest_some v ps vs h in scan_values ps d.0 d.1
scan_values (is.Name x ∷ ps) vs h = cc h
scan_values (is.Cell d ∷ ps) vs h = cc h

pub scan-is : (ps : List Param) → scan false None ps ≡ what_site ps (has_void ps) (values_of ps)
scan-is ps = go (has_void ps) refl (values_of ps) refl
  where
    go : (b : Bool) → has_void ps ≡ b → (o : Option (List Value)) → values_of ps ≡ o → scan false None ps ≡ what_site ps b o
    go true e o n = scan_void ps false None e
    go false e (Some vs) n = scan_values ps vs n
    go false e None n = scan_none ps e n

-- ---- the forms
module _ (defs : List Definition) (p : Path) (e : Env) (t : Term) where
  abbrev its : Term → Action
  its u = what_by defs p (close e u)

  pub at-stop : t ≡ stop → Halt ≡ its t
  at-stop h = sym (ap its h ∙ ap (what_by defs p) (close-stop e))

  pub at-param : (q : Param) → t ≡ param q → of_param p (close_param e q) ≡ its t
  at-param q h = sym (ap its h ∙ ap (what_by defs p) (close-of-param e q))

  pub at-site : (m : ℕ) (qs : List Param) → t ≡ site m qs → scan false None (map (close_param e) qs) ≡ its t
  at-site m qs h = scan-is (map (close_param e) qs) ∙ sym (ap its h ∙ ap (what_by defs p) (close-site e m qs))

  pub at-call : (d : ℕ) (qs : List Param) → t ≡ call d qs → what_def (slice_get defs d) ≡ its t
  at-call d qs h = sym (ap its h ∙ ap (what_by defs p) (close-call e d qs))

  pub at-par : (f g : Term) → t ≡ par f g → Fork ≡ its t
  at-par f g h = sym (ap its h ∙ ap (what_by defs p) (close-par e f g))

  pub at-seq : (f : Term) (x : ℕ) (g : Term) → t ≡ seq f x g → Seq ≡ its t
  at-seq f x g h = sym (ap its h ∙ ap (what_by defs p) (close-seq e f x g))

  pub at-prune : (f : Term) (x : ℕ) (g : Term) → t ≡ prune f x g → Prune ≡ its t
  at-prune f x g h = sym (ap its h ∙ ap (what_by defs p) (close-prune e f x g))

  pub at-other : (f g : Term) → t ≡ other f g → Other ≡ its t
  at-other f g h = sym (ap its h ∙ ap (what_by defs p) (close-other e f g))

-- a definition of the program is there exactly where the graph has its body
pub defined : (l : Listing) (e : ℕ) (n : ℕ) → option_map (λ (r : Routine). r.body) (slice_get l.routines e) ≡ Some n → what_def (slice_get (definitions l) e) ≡ Def
defined l e n h = go (slice_get l.routines e) refl h
  where
    go : (o : Option Routine) → slice_get l.routines e ≡ o → option_map (λ (r : Routine). r.body) o ≡ Some n → what_def (slice_get (definitions l) e) ≡ Def
    go (Some r) f k = ap what_def (map_get (definition_of l) l.routines e ∙ ap (option_map (definition_of l)) f)
    go None f k = cc k

pub undefined : (l : Listing) (e : ℕ) → option_map (λ (r : Routine). r.body) (slice_get l.routines e) ≡ None → what_def (slice_get (definitions l) e) ≡ Wait 0
undefined l e h = go (slice_get l.routines e) refl h
  where
    go : (o : Option Routine) → slice_get l.routines e ≡ o → option_map (λ (r : Routine). r.body) o ≡ None → what_def (slice_get (definitions l) e) ≡ Wait 0
    go (Some r) f k = cc k
    go None f k = ap what_def (map_get (definition_of l) l.routines e ∙ ap (option_map (definition_of l)) f)

-- ---- past the last step stands no path
module _ (code : ℕ → Term) (env : ℕ → Env) where
  paths-length : (ps : List Path) (ss : List Step) → length (paths_from code env ps ss) ≡ length ps + length ss
  paths-length ps [] = omega arith
  paths-length ps (s ∷ ss) = omega (arith, paths-length (ps ++ inwards code env s.entered (get_or ps s.outer whole) ∷ []) ss, length-append ps (inwards code env s.entered (get_or ps s.outer whole) ∷ []))

  pub path-past : (ss : List Step) (i : ℕ) → length ss < i → path code env ss i ≡ whole
  path-past ss i past = get_or_past (paths_from code env (whole ∷ []) ss) i whole (omega (arith, past, paths-length (whole ∷ []) ss))
