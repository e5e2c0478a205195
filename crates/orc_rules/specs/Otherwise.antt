-- Otherwises: a right side never starts after a publication of the left one.
use Rattle.std.specs.Prelude.{◌≡◌, ℕ, List}
use Rattle.orc_rules.specs.declared.value.Value.{Value}
use Rattle.orc_rules.specs.declared.entry.Entry.{Entry}
use Rattle.orc_rules.specs.declared.entry.Entry.TheVariants.{Send, Bind, Right, Publish}
use Rattle.orc_rules.specs.Term.{Term}
use Rattle.orc_rules.specs.Step.{publishes}
use Rattle.orc_rules.specs.Marked.{Marked, in_other, Emits}
use Rattle.orc_rules.specs.Timed.{Context}
use Rattle.orc_rules.specs.Journal.{Place, Leads, Journal}
use Rattle.orc_rules.specs.Numbered.{IsNumbered}
use Rattle.orc_rules.specs.Refusal.{Stands}

-- token s stands in the left side of the otherwise n, and its publication is one of the whole left side
abbrev pub PassesOther : Place → ℕ → Value → ℕ → Type 0
PassesOther p s v n = (f f' : Marked) × (g : Term) × Stands (in_other n f g) p.marked × Emits s p.mark v f (publishes v) f'

-- the entry is a publication of token s, of this value
abbrev pub Publishes : Entry → ℕ → Value → Type 0
Publishes (Send r a w) s v = (r ≡ s) × (w ≡ v)
Publishes (Bind r c w) s v = (r ≡ s) × (w ≡ v)
Publishes (Publish r w) s v = (r ≡ s) × (w ≡ v)
Publishes _ s v = ⊥

-- after a publication of its left side an otherwise's right side never starts
abbrev pub NoRightAfter : Type 0
NoRightAfter = (x : Context) (p q r : Place) (e : Entry) (es : List Entry) (s n : ℕ) (v : Value) → IsNumbered p → Publishes e s v → PassesOther p s v n → Leads x p e q → Journal x q es r → (a : ℕ) (u : Place) → Leads x r (Right n a) u → ⊥
