-- What the scope check promises of a program's terms.
use Rattle.std.specs.Prelude.{◌≡◌, ℕ, List, [], ◌∷◌, length, Some, slice_get}
use Rattle.orc_rules.specs.declared.param.Param.{Param}
use Rattle.orc_rules.specs.declared.param.Param.TheVariants.{Name, Is, Cell, Void}
use Rattle.orc_rules.specs.Term.{Term, stop, param, site, call, par, seq, prune, other, pending, opened, Definition}
use Rattle.orc_rules.specs.Timed.{IsIn}

-- a parameter of a source: a name in scope or a value
abbrev pub IsKnown : List ℕ → Param → Type 0
IsKnown xs (Name x) = IsIn x xs
IsKnown xs (Is v) = Unit {0}
IsKnown xs (Cell c) = ⊥
IsKnown xs Void = ⊥

abbrev pub AreKnown : List ℕ → List Param → Type 0
AreKnown xs [] = Unit {0}
AreKnown xs (p ∷ ps) = IsKnown xs p × AreKnown xs ps

-- the names in scope are xs, each call of a definition has one and its number of arguments, and nothing has run yet
abbrev pub IsClosed : List Definition → List ℕ → Term → Type 0
IsClosed defs xs stop = Unit {0}
IsClosed defs xs (param p) = IsKnown xs p
IsClosed defs xs (site m ps) = AreKnown xs ps
IsClosed defs xs (call e ps) = AreKnown xs ps × (d : Definition) × (slice_get defs e ≡ Some d) × (length d.params ≡ length ps)
IsClosed defs xs (par f g) = IsClosed defs xs f × IsClosed defs xs g
IsClosed defs xs (seq f x g) = IsClosed defs xs f × IsClosed defs (x ∷ xs) g
IsClosed defs xs (prune f x g) = IsClosed defs (x ∷ xs) f × IsClosed defs xs g
IsClosed defs xs (other f g) = IsClosed defs xs f × IsClosed defs xs g
IsClosed defs xs (pending k) = ⊥
IsClosed defs xs (opened f c g) = ⊥

abbrev pub AreClosed : List Definition → List Definition → Type 0
AreClosed defs [] = Unit {0}
AreClosed defs (d ∷ ds) = IsClosed defs d.params d.body × AreClosed defs ds

-- a program: its term with no name in scope, and each body with its parameters
abbrev pub IsProgram : List Definition → Term → Type 0
IsProgram defs t = IsClosed defs [] t × AreClosed defs defs
