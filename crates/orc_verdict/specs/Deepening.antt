-- How much deeper an entry can make the marked term.
use Rattle.std.specs.Prelude.{◌≡◌, ◌≤◌, ◌+◌, ℕ, Some, slice_get}
use Rattle.orc_rules.specs.declared.entry.Entry.{Entry}
use Rattle.orc_rules.specs.declared.entry.Entry.TheVariants.{Def, Send}
use Rattle.orc_rules.specs.Term.{Definition}
use Rattle.orc_rules.specs.Marked.{erase}
use Rattle.orc_rules.specs.Timed.{Context}
use Rattle.orc_rules.specs.Journal.{Place, Leads}
use Rattle.orc_rules.specs.Refusal.{depth}

-- by how many levels an entry deepens the term at most, where no definition's body has more than `most`
abbrev pub deepening : ℕ → Entry → ℕ
deepening most (Def s a) = most
deepening most (Send s a v) = 1
deepening most _ = 0

-- no definition's body has more levels
abbrev pub AreBodiesAtMost : Context → ℕ → Type 0
AreBodiesAtMost x most = (k : ℕ) (d : Definition) → slice_get x.definitions k ≡ Some d → depth d.body ≤ most

-- no entry deepens the term more
abbrev pub DeepensAtMost : Type 0
DeepensAtMost = (x : Context) (p : Place) (e : Entry) (q : Place) (most : ℕ) → AreBodiesAtMost x most → Leads x p e q → depth (erase q.marked) ≤ depth (erase p.marked) + deepening most e
