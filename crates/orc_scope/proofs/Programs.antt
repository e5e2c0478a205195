-- The faults and sizes of definitions, one after another.
use Rattle.std.proofs.Common.{◌≡◌, ◌^◌, ℕ, zero, suc, ◌+◌, ◌-◌, ◌<◌, List, [], ◌∷◌, ◌++◌, map, take, drop, length, get_or, Option, refl, sym, ap, ◌∙◌, arith}
use Rattle.std.proofs.lemmas.List.{append_assoc, drop_more, take_more, map-append, length-map, get_or-map}
use Rattle.orc_lex.specs.declared.token.Span.{Span}
use Rattle.orc_lex.specs.declared.token.Plain.TheVariants as plains
use Rattle.orc_syntax.specs.declared.tree.Name.{Name}
use Rattle.orc_syntax.specs.declared.tree.Definition.{Definition}
use Rattle.orc_syntax.specs.Tree.{Label, Leaf, Define, Source}
use Rattle.orc_syntax.specs.Ast.{label, IsDefinition, AreDefinitions}
use Rattle.orc_scope.specs.declared.fault.ScopeFault.{ScopeFault}
use Rattle.orc_scope.specs.declared.fault.FaultKind.TheVariants.{ParameterTwice}
use Rattle.orc_scope.specs.Scope.{Known, IsLeast, position, number_faults}
use Rattle.orc_scope.specs.declared.known.Known.{Known as CodeKnown}
use Rattle.orc_scope.specs.Looking.{known_of, name_text, arity}
use Rattle.orc_scope.specs.Program.{text, known_in, repeated, name_of, arity_of, parameter_faults, definition_faults, definitions_faults, size_of_define, sizes_of}

-- a turn of the loop over parameters
pub parameters_step : (ps : List Name) (at : ℕ) (d : Name) (seen more : List (List ℕ)) (least own result : Option ScopeFault) (done all : List ScopeFault) → at < length ps
    → more ≡ seen ++ (label (get_or ps at d)).text ∷ [] → IsLeast least done
    → IsLeast own (repeated ParameterTwice (position seen (label (get_or ps at d)).text) (label (get_or ps at d)).span ++ number_faults (at + 1) (label (get_or ps at d)).span)
    → ((fs gs : List ScopeFault) → IsLeast least fs → IsLeast own gs → IsLeast result (fs ++ gs))
    → done ++ parameter_faults seen (at + 1) (map label (drop at ps)) ≡ all
    → (after : List ScopeFault) × IsLeast result after × (after ++ parameter_faults more (at + 1 + 1) (map label (drop (at + 1) ps)) ≡ all)
parameters_step ps at d seen more least own result done all h m l o both is =
    let x = label (get_or ps at d) in
    let here = repeated ParameterTwice (position seen x.text) x.span ++ number_faults (at + 1) x.span in
    let rest = map label (drop (at + 1) ps) in
    let n : suc (at + 1) ≡ at + 1 + 1 = omega arith in (
      done ++ here,
      both done here l o,
      append_assoc done here (parameter_faults more (at + 1 + 1) rest)
          ∙ ap (λ (seen : List (List ℕ)). done ++ (here ++ parameter_faults seen (at + 1 + 1) rest)) m
          ∙ ap (λ (k : ℕ). done ++ (here ++ parameter_faults (seen ++ x.text ∷ []) k rest)) (sym n)
          ∙ ap (λ (l : List Name). done ++ parameter_faults seen (at + 1) (map label l)) (sym (drop_more ps at d h))
          ∙ is,
    )

-- the names of the first parameters
pub texts_step : (ps : List Name) (at : ℕ) (d : Name) (seen more : List (List ℕ)) → at < length ps → more ≡ seen ++ (label (get_or ps at d)).text ∷ [] → seen ≡ map text (map label (take at ps)) → more ≡ map text (map label (take (at + 1) ps))
texts_step ps at d seen more h m is =
    m ∙ ap (λ (l : List (List ℕ)). l ++ (label (get_or ps at d)).text ∷ []) is
    ∙ sym (ap (λ (l : List Name). map text (map label l)) (take_more ps at d h) ∙ ap (map text) (map-append label (take at ps) (get_or ps at d ∷ [])) ∙ map-append text (map label (take at ps)) (label (get_or ps at d) ∷ []))

-- the definition of a number
pub no_span : Span
no_span = record { start = 0; end = 0 }

pub no_define : Define
no_define = record { name = record { text = []; span = no_span }; parameters = []; body = Leaf plains.Stop no_span }

pub defines_at : (ds : List Definition) (es : List Define) (i : ℕ) (d : Definition) → i < length ds → AreDefinitions ds es → IsDefinition (get_or ds i d) (get_or es i no_define)
defines_at [] es i d h are = absurd (omega (arith, h))
defines_at (d' ∷ ds) [] i d h are = elim are [ ]
defines_at (d' ∷ ds) (e ∷ es) zero d h are = are.0
defines_at (d' ∷ ds) (e ∷ es) (suc i) d h are = defines_at ds es i d (omega (arith, h)) are.1

pub defines_length : (ds : List Definition) (es : List Define) → AreDefinitions ds es → length ds ≡ length es
defines_length [] [] are = refl
defines_length [] (e ∷ es) are = elim are [ ]
defines_length (d ∷ ds) [] are = elim are [ ]
defines_length (d ∷ ds) (e ∷ es) are = ap suc (defines_length ds es are.1)

pub defines_names : (ds : List Definition) (es : List Define) → AreDefinitions ds es → map name_text ds ≡ map name_of es
defines_names [] [] are = refl
defines_names [] (e ∷ es) are = elim are [ ]
defines_names (d ∷ ds) [] are = elim are [ ]
defines_names (d ∷ ds) (e ∷ es) are = ap (λ (x : Label). x.text ∷ map name_text ds) are.0.name ∙ ap (λ (l : List (List ℕ)). e.name.text ∷ l) (defines_names ds es are.1)

pub defines_arities : (ds : List Definition) (es : List Define) → AreDefinitions ds es → map arity ds ≡ map arity_of es
defines_arities [] [] are = refl
defines_arities [] (e ∷ es) are = elim are [ ]
defines_arities (d ∷ ds) [] are = elim are [ ]
defines_arities (d ∷ ds) (e ∷ es) are = ap (λ (n : ℕ). n ∷ map arity ds) (sym (length-map d.parameters.items label) ∙ ap (λ (l : List Label). length l) are.0.parameters) ∙ ap (λ (l : List ℕ). arity_of e ∷ l) (defines_arities ds es are.1)

-- a turn of the loop over definitions
pub definitions_step : (known : Known) (ds : List Definition) (es : List Define) (i : ℕ) (d : Definition) (least own result : Option ScopeFault) (done all : List ScopeFault) → i < length ds → AreDefinitions ds es
    → IsLeast least done → ((e : Define) → IsDefinition (get_or ds i d) e → IsLeast own (definition_faults known (take i (map name_of es)) e))
    → ((fs gs : List ScopeFault) → IsLeast least fs → IsLeast own gs → IsLeast result (fs ++ gs))
    → done ++ definitions_faults known (take i (map name_of es)) (drop i es) ≡ all
    → (after : List ScopeFault) × IsLeast result after × (after ++ definitions_faults known (take (i + 1) (map name_of es)) (drop (i + 1) es) ≡ all)
definitions_step known ds es i d least own result done all h are l o both is =
    let e = get_or es i no_define in
    let le : i < length es = rw (sym (defines_length ds es are)) h in
    let lm : i < length (map name_of es) = rw (length-map es name_of) le in
    let seen = take i (map name_of es) in
    let here = definition_faults known seen e in
    let more : take (i + 1) (map name_of es) ≡ seen ++ e.name.text ∷ [] = take_more (map name_of es) i (name_of no_define) lm ∙ ap (λ (t : List ℕ). seen ++ t ∷ []) (get_or-map name_of es i no_define (name_of no_define) le) in (
      done ++ here,
      both done here l (o e (defines_at ds es i d h are)),
      append_assoc done here (definitions_faults known (take (i + 1) (map name_of es)) (drop (i + 1) es))
          ∙ ap (λ (names : List (List ℕ)). done ++ (here ++ definitions_faults known names (drop (i + 1) es))) more
          ∙ ap (λ (l : List Define). done ++ definitions_faults known seen l) (sym (drop_more es i no_define le))
          ∙ is,
    )

pub sizes_step : (known : Known) (names : List (List ℕ)) (ds : List Definition) (es : List Define) (i : ℕ) (d : Definition) (room more all : ℕ) → i < length ds → AreDefinitions ds es
    → ((e : Define) → IsDefinition (get_or ds i d) e → more ≡ room - size_of_define known names e)
    → room - sizes_of known names (drop i es) ≡ all → more - sizes_of known names (drop (i + 1) es) ≡ all
sizes_step known names ds es i d room more all h are o is =
    let e = get_or es i no_define in
    let le : i < length es = rw (sym (defines_length ds es are)) h in
    let m = o e (defines_at ds es i d h are) in
    let s : sizes_of known names (drop i es) ≡ size_of_define known names e + sizes_of known names (drop (i + 1) es) = ap (λ (l : List Define). sizes_of known names l) (drop_more es i no_define le) in
    omega (arith, m, s, is)

-- what the code knows is what the program makes known
pub same_known : (k : CodeKnown) (ds : List Definition) (sites : List (List ℕ)) (s : Source) → AreDefinitions ds s.definitions → k.definitions ≡ map name_text ds → k.arities.items ≡ map arity ds → k.sites ≡ take (2 ^ 32) sites → known_of k ≡ known_in sites s
same_known k ds sites s are n a m = λ j. record { definitions = (n ∙ defines_names ds s.definitions are) j; arities = (a ∙ defines_arities ds s.definitions are) j; sites = m j }
