-- A sub-run (part): a call of a definition that was run by itself; and what merging it does to the records.
use Rattle.std.specs.Prelude.{◌≡◌, ◌<◌, ◌≤◌, ℕ, zero, suc, ◌+◌, ◌-◌, ◌*◌, ◌⊎◌, List, [], ◌∷◌, ◌++◌, map, length, Option, Some, None}
use Rattle.orc_rules.specs.declared.value.Value.{Value}
use Rattle.orc_rules.specs.declared.param.Param.TheVariants.{Is}
use Rattle.orc_rules.specs.declared.entry.Entry.{Entry}
use Rattle.orc_rules.specs.Term.{Term, call, param}
use Rattle.orc_rules.specs.Nodes.{Listing, code}
use Rattle.orc_rules.specs.Sites.{Site}
use Rattle.orc_rules.specs.Journal.{Place, Journal, begin}
use Rattle.orc_subrun.specs.declared.numbers.Numbering.{Numbering}
use Rattle.orc_subrun.specs.Moved.{mark_in, moved, AreLocal, AreSilent}
use Rattle.orc_env.specs.declared.names.Bound.{Bound}
use Rattle.orc_env.specs.declared.names.Bound.TheVariants.{Cell}
use Rattle.orc_indexes.specs.Same.{weight}
use Rattle.orc_tables.specs.declared.records.Standing.TheVariants.{On}
use Rattle.orc_tables.specs.declared.records.Token.{Token}
use Rattle.orc_tables.specs.declared.records.Group.{Group}
use Rattle.orc_frames.specs.Paths.{standing}
use Rattle.orc_frames.specs.Spelling.{Row, stands, whole, marks, sides}
use Rattle.orc_ledger_spec.specs.Records.{Records, context, its_env}
use Rattle.orc_ledger_spec.specs.declared.parts.Yield.{Yield}
use Rattle.orc_ledger_spec.specs.declared.faults.LedgerFault.{LedgerFault}
use Rattle.orc_ledger_spec.specs.declared.faults.LedgerFault.TheVariants as fault

-- a sub-run: the call of a definition with values, the entries of its own run, its next mark, how many calls it has made and cells it has opened,
-- and what is left of it
pub record Apart : Type 0 where
  pub definition : ℕ
  pub args : List Value
  pub entries : List Entry
  pub mark : ℕ
  pub calls : ℕ
  pub cells : ℕ
  pub left : Option Yield

-- the call of a definition with values, as a term
abbrev pub call_of : ℕ → List Value → Term
call_of definition args = call definition (map Is args)

-- nothing is left, or a token on a value
abbrev pub rows_left : Option Yield → List Row
rows_left None = []
rows_left (Some y) = stands y.mark (param (Is y.value)) whole ∷ []

-- if a token is left, the run has published nothing, and the token isn't the first one
abbrev pub IsLeftOf : List Entry → ℕ → Option Yield → Type 0
IsLeftOf es mark None = Unit {0}
IsLeftOf es mark (Some y) = AreSilent es × (2 ≤ y.mark) × (y.mark < mark)

-- the entries are local, and lead from the call to a place where nothing is left but `left`
pub record IsOver (l : Listing) (sites : List Site) (a : Apart) : Type 0 where
  pub place : Place
  pub leads : Journal (context l sites) (begin (call_of a.definition a.args)) a.entries place
  pub local : AreLocal sites a.entries
  pub rows : marks whole place.marked ≡ rows_left a.left
  pub sides_left : sides whole place.marked ≡ []
  pub yields : IsLeftOf a.entries a.mark a.left
  pub free : place.to_cancel ≡ []
  pub mark : place.mark ≡ a.mark
  pub calls : length place.calls ≡ a.calls
  pub cells : length place.cells ≡ a.cells
  pub begun : 2 ≤ a.mark
  pub counted : a.mark ≤ 2 * length a.entries + 2

-- the token stands at the call
abbrev pub StandsFor : Listing → Records → Token → ℕ → List Value → Type 0
StandsFor l s t definition args = standing (code l) (its_env (code l) s) t.standing ≡ call_of definition args

-- the part may be merged in the place of token t: if nothing is left of it, either the whole program publishes what the part does, or that is
-- nothing
abbrev pub Fits : Apart → Token → Type 0
Fits a t = a.left ≡ None → (t.step ≡ 0) ⊎ AreSilent a.entries

-- the numbers that the part's marks, calls and cells have where the token stood
abbrev pub numbering : Records → Token → Numbering
numbering s t = record { token = t.serial; mark = s.next_mark; calls = s.made; cells = length s.cells - 1 }

-- n cells from number c on, all unbound: each stands for itself
abbrev pub cells_from : ℕ → ℕ → List Bound
cells_from c zero = []
cells_from c (suc n) = Cell c ∷ cells_from (suc c) n

-- the token that comes in the place of t, if one is left of the part
abbrev pub comers : Numbering → Token → Option Yield → List Token
comers n t None = []
comers n t (Some y) = record { serial = mark_in n y.mark; standing = On y.value; step = t.step } ∷ []

-- the part's entries stand in the journal; token t is gone, or one on the value that the call yields is in its place; no name stands for a cell of
-- the part
pub record TakesIn (s s' : Records) (t : Token) (a : Apart) : Type 0 where
  pub limit : s'.limit ≡ s.limit
  pub some : 1 ≤ length a.entries
  pub journal : s'.journal ≡ s.journal ++ map (moved (numbering s t)) a.entries
  pub entries : s'.entries ≡ s.entries + length a.entries
  pub mark : s'.next_mark + 2 ≡ s.next_mark + a.mark
  pub now : s'.now ≡ s.now
  pub made : s'.made ≡ s.made + a.calls
  pub tokens : (w : Token → ℕ) → weight w s'.tokens + w t ≡ weight w s.tokens + weight w (comers (numbering s t) t a.left)
  pub calls : s'.calls ≡ s.calls
  pub groups : (w : Group → ℕ) → weight w s'.groups ≡ weight w s.groups
  pub scopes : s'.scopes ≡ s.scopes
  pub steps : s'.steps ≡ s.steps
  pub cells : s'.cells ≡ s.cells ++ cells_from (length s.cells) a.cells

-- why a part isn't merged: the limit has no room for its entries, or memory was refused
abbrev pub IsUntaken : Records → Apart → LedgerFault → Type 0
IsUntaken s a fault.Full = ⊥
IsUntaken s a fault.Limit = s.limit < s.entries + length a.entries
IsUntaken s a fault.Memory = s.entries + length a.entries ≤ s.limit
IsUntaken s a fault.Unclaimed = ⊥
