-- What was read of files whose bytes are known.
use Rattle.std.proofs.Common.{◌≡◌, ◌∙◌, ℕ, List, ap, refl, sym, subst}
use Rattle.std.specs.declared.option.Option.{Option}
use Rattle.std.specs.declared.option.Option.TheVariants.{None, Some}
use Rattle.std.specs.Io.KnownBytes.{Keeps}
use Rattle.orc_journal_text.specs.Pieces.{MayCome}
use Rattle.orc_outcome.specs.declared.end.Summary.{Summary}
use Rattle.orc_run.specs.Checked.{IsOfRun}
use Rattle.orc_run.specs.Inputs.{IsHeld, IsKnown, IsRead}

-- no read changes a file
pub held_before : (old new : Option (List ℕ)) (bytes text : List ℕ) → new ≡ old → text ≡ bytes → IsHeld new bytes → IsHeld old text
held_before old new bytes text same is held = subst (λ (b : List ℕ). IsHeld old b) (sym is) (subst (λ (o : Option (List ℕ)). IsHeld o bytes) same held)

pub read_before : (old new : List ℕ → Option (List ℕ)) (path : Option (List ℕ)) (bytes text : List ℕ) → ((at : List ℕ) → new at ≡ old at) → text ≡ bytes → IsRead new path bytes → IsRead old path text
read_before old new None bytes text same is none = subst (λ (b : List ℕ). IsRead old None b) (sym is) none
read_before old new (Some path) bytes text same is held = held_before (old path) (new path) bytes text (same path) is held

-- a source, a journal and a script that were read one after another are what these files held before the first was read
pub all_before : (first second third : List ℕ → Option (List ℕ)) (file journal : List ℕ) (script : Option (List ℕ)) (sources lines answers source text read : List ℕ)
    → ((at : List ℕ) → second at ≡ first at) → ((at : List ℕ) → third at ≡ second at) → source ≡ sources → text ≡ lines → read ≡ answers
    → IsHeld (first file) sources → IsHeld (second journal) lines → IsRead third script answers → IsHeld (first file) source × IsHeld (first journal) text × IsRead first script read
all_before first second third file journal script sources lines answers source text read one two is this that held kept told = (
  held_before (first file) (first file) sources source refl is held,
  held_before (first journal) (second journal) lines text (one journal) this kept,
  read_before first third script answers read (λ at. two at ∙ one at) that told,
)

-- the same with a test between the journal and the script
pub four_before : (first second third fourth : List ℕ → Option (List ℕ)) (file journal test : List ℕ) (script : Option (List ℕ)) (sources lines claims answers source text said read : List ℕ)
    → ((at : List ℕ) → second at ≡ first at) → ((at : List ℕ) → third at ≡ second at) → ((at : List ℕ) → fourth at ≡ third at) → source ≡ sources → text ≡ lines → said ≡ claims → read ≡ answers
    → IsHeld (first file) sources → IsHeld (second journal) lines → IsHeld (third test) claims → IsRead fourth script answers
    → IsHeld (first file) source × IsHeld (first journal) text × IsHeld (first test) said × IsRead first script read
four_before first second third fourth file journal test script sources lines claims answers source text said read one two three is this those that held kept known told =
    let later = all_before second third fourth journal test script lines claims answers text said read two three this those that kept known told in (
      held_before (first file) (first file) sources source refl is held,
      held_before (first journal) (second journal) text text (one journal) refl later.0,
      held_before (first test) (second test) said said (one test) refl later.1,
      read_before first second script read read one refl later.2,
    )

-- ---- a file that is read piece by piece

-- its text, where its bytes are known
pub known_text : (left : Option (List ℕ)) (text whole : List ℕ) → left ≡ Some text → MayCome left whole → whole ≡ text
known_text left text whole is may = subst (λ (o : Option (List ℕ)). MayCome o whole) is may

-- what was read of it is what the file holds
pub held_opened : (held left : Option (List ℕ)) (whole : List ℕ) → Keeps held left → MayCome left whole → IsHeld held whole
held_opened None left whole kept may = tt
held_opened (Some bytes) None whole kept may = absurd kept
held_opened (Some bytes) (Some known) whole kept may = may ∙ kept

-- all of it is left before the first read
pub all_left : (held left : Option (List ℕ)) (text : List ℕ) → Keeps held left → held ≡ Some text → left ≡ Some text
all_left held None text kept is = absurd (subst (λ (o : Option (List ℕ)). Keeps o None) is kept)
all_left held (Some bytes) text kept is = ap Some (subst (λ (o : Option (List ℕ)). Keeps o (Some bytes)) is kept)

-- ---- files that are known

known_bytes : (held : Option (List ℕ)) (bytes text : List ℕ) → IsHeld held bytes → held ≡ Some text → bytes ≡ text
known_bytes held bytes text holds is = subst (λ (o : Option (List ℕ)). IsHeld o bytes) is holds

known_read : (holds : List ℕ → Option (List ℕ)) (path : Option (List ℕ)) (bytes text : List ℕ) → IsRead holds path bytes → IsKnown holds path text → bytes ≡ text
known_read holds None bytes text none is = none ∙ sym is
known_read holds (Some path) bytes text held is = known_bytes (holds path) bytes text held is

-- the journal of a run of a source and a script is one of what was read of their files
pub of_known : (holds : List ℕ → Option (List ℕ)) (file : List ℕ) (script : Option (List ℕ)) (s : Summary) (source read sources answers text : List ℕ)
    → holds file ≡ Some source → IsKnown holds script read → IsOfRun source read text s → IsHeld (holds file) sources → IsRead holds script answers → IsOfRun sources answers text s
of_known holds file script s source read sources answers text is_file is_script of held said =
    subst (λ (b : List ℕ). IsOfRun b answers text s) (sym (known_bytes (holds file) sources source held is_file))
    (subst (λ (b : List ℕ). IsOfRun source b text s) (sym (known_read holds script answers read said is_script)) of)

pub of_known_all : (holds : List ℕ → Option (List ℕ)) (file journal : List ℕ) (script : Option (List ℕ)) (s : Summary) (source text read sources lines answers : List ℕ)
    → holds file ≡ Some source → holds journal ≡ Some text → IsKnown holds script read → IsOfRun source read text s → IsHeld (holds file) sources → IsHeld (holds journal) lines → IsRead holds script answers → IsOfRun sources answers lines s
of_known_all holds file journal script s source text read sources lines answers is_file is_journal is_script of held kept said =
    subst (λ (b : List ℕ). IsOfRun sources answers b s) (sym (known_bytes (holds journal) lines text kept is_journal)) (of_known holds file script s source read sources answers text is_file is_script of held said)
