-- What holds after every list of events.
use Rattle.std.specs.Prelude.{◌≡◌, ℕ, ◌≤◌, true, false, List, [], ◌∷◌, ◌++◌}
use Rattle.std.specs.List.{sum_by}
use Rattle.orc_word.specs.Machine.{State, Event, Bit, opens, leaves, Has, Step, Run, start, named, NoRecord, is_opening, Frees, wins}

-- none of the events opens g
abbrev pub NoOpening : ℕ → List Event → Type 0
NoOpening g es = (e : Event) → Has es e → is_opening g e ≡ false

-- none of the events frees g
abbrev pub NoFreeing : ℕ → List Event → Type 0
NoFreeing g es = (e : Event) → Has es e → Frees g e → ⊥

pub record Counts : Type 0 where
  -- a word's count is the number of passes that name its group
  pub exact : (es : List Event) (t : State) → Run start es t → (g : ℕ) → (t.words g).count ≡ named g t
  -- a word that counts 0 has no record, and none comes until the number is opened anew
  pub empty : (es more : List Event) (s t : State) → Run start es s → Run s more t → (g : ℕ) → (s.words g).count ≡ 0 → NoOpening g more → NoRecord g t
  -- between two openings each mark is won at most once
  pub once : (es more : List Event) (s t : State) → Run start es s → Run s more t → (g : ℕ) → NoOpening g more → (b : Bit) → sum_by (wins b g) more ≤ 1
  -- between a last leave and the commit that frees its group, the group has no record and nobody names it
  pub closed : (es more : List Event) (s t : State) (p g : ℕ) → Run start (es ++ leaves p g true ∷ []) s → Run s more t → NoFreeing g more → NoRecord g t × (named g t ≡ 0)
  -- a number is opened only while no pass names it
  pub fresh : (es : List Event) (s t : State) (p g : ℕ) → Run start es s → Step s (opens p g) t → named g s ≡ 0
