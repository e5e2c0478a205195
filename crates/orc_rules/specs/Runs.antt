-- Every timed run is a journal's.
use Rattle.std.specs.Prelude.{◌≡◌, List, [], ◌∷◌}
use Rattle.orc_rules.specs.declared.entry.Entry.{Entry}
use Rattle.orc_rules.specs.Term.{Term}
use Rattle.orc_rules.specs.Step.{calls, opens}
use Rattle.orc_rules.specs.Timed.{Context, Moment, Event, does, Happens, start}
use Rattle.orc_rules.specs.Journal.{Place, moment, next, Journal, begin, AreEventsOf}
use Rattle.orc_rules.specs.Lost.{IsSource, AreSource}

-- a new call or cell has the next number
abbrev pub IsCountedOn : Moment → Event → Type 0
IsCountedOn s (does (calls k m args cs)) = k ≡ next s.calls
IsCountedOn s (does (opens c)) = c ≡ next s.cells
IsCountedOn s e = Unit {0}

-- a timed run that numbers its calls and cells from 1 on
abbrev pub CountedRun : Context → Moment → List Event → Moment → Type 0
CountedRun x s [] s' = s ≡ s'
CountedRun x s (e ∷ es) s' = (mid : Moment) × Happens x s e mid × IsCountedOn s e × CountedRun x mid es s'

-- each such run of a source's term is that of a journal, whose entries name its events
abbrev pub RunIsJournal : Type 0
RunIsJournal = (x : Context) (t : Term) (events : List Event) (s : Moment) → AreSource x.definitions → IsSource t → CountedRun x (start t) events s → (es : List Entry) × (q : Place) × Journal x (begin t) es q × AreEventsOf es events × (moment q ≡ s)
