-- Cancels so far: the story tells of the same journal with them, and they don't count.
use Rattle.std.proofs.Common.{◌≡◌, List}
use Rattle.orc_rules.specs.declared.entry.Entry.{Entry}
use Rattle.orc_rules.specs.Journal.{Place}
use Rattle.orc_journal.specs.Written.{count}
use Rattle.orc_reference.specs.Stories.{IsStory}
use Rattle.orc_reference.proofs.reference.settle.Given as goal

abbrev pub invariant-loop-turn : goal.invariant-loop-turn
invariant-loop-turn l =
    (es : List Entry) (p : Place) → IsStory l.program l.answers l.initial.history es p
    → (fs : List Entry) × (q : Place) × IsStory l.program l.answers l.history fs q × (count fs ≡ count es)
