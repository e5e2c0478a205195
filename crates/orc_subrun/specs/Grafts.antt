-- A part's own run continues the enclosing run: what that needs, and where it leads.
use Rattle.std.specs.Prelude.{◌≡◌, ◌<◌, ◌≤◌, ℕ, ◌+◌, ◌^◌, List, [], ◌++◌, ◌⊎◌, false, length, map}
use Rattle.std.specs.List.{AllByRecursion}
use Rattle.orc_rules.specs.declared.entry.Entry.{Entry}
use Rattle.orc_rules.specs.Term.{Term}
use Rattle.orc_rules.specs.Sites.{Site, is_scripted}
use Rattle.orc_rules.specs.Marked.{Marked, token, in_par, in_opened, Replaces}
use Rattle.orc_rules.specs.Timed.{Context, CallMade}
use Rattle.orc_rules.specs.Journal.{Place, Journal, begin}
use Rattle.orc_rules.specs.Nodes.{Listing, code, definitions}
use Rattle.orc_subrun.specs.declared.numbers.Numbering.{Numbering}
use Rattle.orc_subrun.specs.Moved.{moved, moved_marked, AreLocal, AreSilent, IsStill, AreStill}

-- m' is m with y in the place of one x that nothing encloses but sides of `|` and left sides of opened prunings: so the whole publishes all that x
-- publishes
pub data Branches (x y : Marked) : Marked → Marked → Type 0 where
  whole : Branches x y x y
  on_left : {f g f' : Marked} → Branches x y f f' → Branches x y (in_par f g) (in_par f' g)
  on_right : {f g g' : Marked} → Branches x y g g' → Branches x y (in_par f g) (in_par f g')
  on_main : {f g f' : Marked} {c : ℕ} → Branches x y f f' → Branches x y (in_opened f c g) (in_opened f' c g)

-- m' is m with y in the place of x. Unless the entries publish nothing, x stands where the whole publishes all that x publishes
abbrev pub Hangs : List Entry → Marked → Marked → Marked → Marked → Type 0
Hangs es x y m m' = Branches x y m m' ⊎ (AreSilent es × (cs : List ℕ) × Replaces x y m cs m')

-- the part's numbers go on from those that have been given out at a place
pub record Follows (n : Numbering) (p : Place) : Type 0 where
  pub mark : n.mark ≡ p.mark
  pub calls : n.calls ≡ length p.calls
  pub cells : n.cells ≡ length p.cells
  pub later : 2 ≤ p.mark

-- a call of the part: its number is behind those made before, and no script answers it
abbrev pub IsNewCall : List Site → ℕ → CallMade → Type 0
IsNewCall sites made c = (made < c.number) × (is_scripted sites c.site ≡ false)

-- the part's entries, under their new numbers, continue the whole's journal from p to r; in the part's own run they lead to q
pub record Grafts (x : Context) (n : Numbering) (es : List Entry) (q p r : Place) : Type 0 where
  pub leads : Journal x p (map (moved n) es) r
  pub mark : r.mark + 2 ≡ p.mark + q.mark
  pub now : r.now ≡ p.now
  pub to_cancel : r.to_cancel ≡ []
  pub calls : List CallMade
  pub made : r.calls ≡ calls ++ p.calls
  pub as_many : length calls ≡ length q.calls
  pub new : AllByRecursion (IsNewCall x.sites (length p.calls)) calls
  pub opened : length r.cells ≡ length p.cells + length q.cells

-- the journal of a part's own run continues that of a run in which the part is still a token: q is where the part's own run leads, p where the
-- enclosing run is, and r where it is afterwards, with the part's marked term in the token's place
abbrev pub PartIsGrafted : Type 0
PartIsGrafted = (x : Context) (n : Numbering) (t : Term) (es : List Entry) (q p : Place) (m : Marked)
    → AreStill x.definitions → IsStill t
    → Journal x (begin t) es q → AreLocal x.sites es → q.to_cancel ≡ [] → Follows n p → p.now < 2 ^ 64 → p.to_cancel ≡ []
    → Hangs es (token n.token t) (moved_marked n q.marked) p.marked m
    → (r : Place) × (r.marked ≡ m) × Grafts x n es q p r

-- the terms of a program name no cell
abbrev pub ProgramIsStill : Type 0
ProgramIsStill = (l : Listing) → ((i : ℕ) → IsStill (code l i)) × AreStill (definitions l)
