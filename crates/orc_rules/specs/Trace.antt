-- What a run shows: its trace, its publications, and where its calls stand.
use Rattle.std.specs.Prelude.{◌≡◌, ◌≢◌, ℕ, List, [], ◌∷◌}
use Rattle.orc_rules.specs.declared.value.Value.{Value}
use Rattle.orc_rules.specs.declared.entry.Entry.{Entry}
use Rattle.orc_rules.specs.declared.entry.Entry.TheVariants.{Publish}
use Rattle.orc_rules.specs.Term.{Term}
use Rattle.orc_rules.specs.Step.{Act, calls, binds, loses, publishes, silent, opens}
use Rattle.orc_rules.specs.Timed.{Context, Moment, IsIn, Event, does, ticks, Run, start}
use Rattle.orc_rules.specs.Journal.{Place, moment, Journal, begin, AreEventsOf}
use Rattle.orc_rules.specs.Lost.{IsSource, AreSource}

-- the label of an act: an opening's is silent
abbrev pub label_of : Act → Act
label_of (opens c) = silent
label_of a = a

-- the labels of a run without the silent ones; ticks have none
abbrev pub trace : List Event → List Event
trace [] = []
trace (does silent ∷ es) = trace es
trace (does (opens c) ∷ es) = trace es
trace (ticks t ∷ es) = trace es
trace (e ∷ es) = e ∷ trace es

-- the publications of a run, in order
abbrev pub publications : List Event → List Value
publications [] = []
publications (does (publishes v) ∷ es) = v ∷ publications es
publications (e ∷ es) = publications es

-- the values that a journal publishes, in order: what is written, a line each
abbrev pub published : List Entry → List Value
published [] = []
published (Publish s v ∷ es) = v ∷ published es
published (e ∷ es) = published es

-- no call of these events stands inside the right side of cell c
abbrev pub IsOutside : ℕ → List Event → Type 0
IsOutside c [] = Unit {0}
IsOutside c (does (calls k m args cs) ∷ es) = (IsIn c cs → ⊥) × IsOutside c es
IsOutside c (e ∷ es) = IsOutside c es

-- the cell is neither bound nor lost in these events
abbrev pub LeavesAlone : ℕ → List Event → Type 0
LeavesAlone c [] = Unit {0}
LeavesAlone c (does (binds d v) ∷ es) = (c ≢ d) × LeavesAlone c es
LeavesAlone c (does (loses d) ∷ es) = (c ≢ d) × LeavesAlone c es
LeavesAlone c (e ∷ es) = LeavesAlone c es

-- after a cell is bound or lost no later call stands inside its right side, and each cell is bound or lost at most once
abbrev pub AreInside : List Event → Type 0
AreInside [] = Unit {0}
AreInside (does (binds c v) ∷ es) = IsOutside c es × LeavesAlone c es × AreInside es
AreInside (does (loses c) ∷ es) = IsOutside c es × LeavesAlone c es × AreInside es
AreInside (e ∷ es) = AreInside es

-- every run of a source's term is so
abbrev pub RunsAreInside : Type 0
RunsAreInside = (x : Context) (t : Term) (es : List Event) (s : Moment) → AreSource x.definitions → IsSource t → Run x (start t) es s → AreInside es

-- the run that a journal is: its entries' events, in order, the values that they publish, and no cell settled twice
pub record IsExplained (x : Context) (t : Term) (es : List Entry) (q : Place) : Type 0 where
  pub events : List Event
  pub named : AreEventsOf es events
  pub run : Run x (start t) events (moment q)
  pub shown : published es ≡ publications events
  pub inside : AreInside events

-- every journal of a program is explained so
abbrev pub JournalIsExplained : Type 0
JournalIsExplained = (x : Context) (t : Term) (es : List Entry) (q : Place) → AreSource x.definitions → IsSource t → Journal x (begin t) es q → IsExplained x t es q
