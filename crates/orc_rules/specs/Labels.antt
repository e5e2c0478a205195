-- The labels that entries show.
use Rattle.std.specs.Prelude.{ℕ, List, Option, Some, None}
use Rattle.orc_rules.specs.declared.entry.Entry.{Entry}
use Rattle.orc_rules.specs.declared.entry.Label.{Label}
use Rattle.orc_rules.specs.declared.entry.Label.TheVariants.{Call, Return, Bind, Lost, Publish, Silent, Cancel}
use Rattle.orc_rules.specs.Step.{calls, returns, binds, loses, publishes, silent}
use Rattle.orc_rules.specs.Timed.{Event, does, ticks, cancels}
use Rattle.orc_rules.specs.Journal.{event_of}
use Rattle.orc_rules.specs.Trace.{label_of}

-- the event that a label shows
abbrev pub event_shown : Label → Event
event_shown (Call k m args cs) = does (calls k m args cs.items)
event_shown (Return k a) = does (returns k a)
event_shown (Bind c v) = does (binds c v)
event_shown (Lost c) = does (loses c)
event_shown (Publish v) = does (publishes v)
event_shown Silent = does silent
event_shown (Cancel k) = cancels k

-- what can be seen of an event: an opening's label is silent, and a tick has none
abbrev pub shown_of : Option Event → Option Event
shown_of (Some (does a)) = Some (does (label_of a))
shown_of (Some (ticks t)) = None
shown_of o = o

-- what an entry shows, where a call stands inside the right sides of the cells cs: none for a move of marks or a tick
abbrev pub label_shown : Entry → List ℕ → Option Event
label_shown e cs = shown_of (event_of e cs)
