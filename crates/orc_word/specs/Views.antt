-- What a seat's view says, and the rule over the views of all seats.
use Rattle.std.specs.Prelude.{◌≡◌, ℕ, ◌+◌, ◌<◌, ◌==◌, Bool, cond, List, [], ◌∷◌, ◌++◌, map, slice_index, Option, Some}
use Rattle.std.specs.List.{sum_by}
use mathlib.Core.Option.{some}
use lib.ListN.{get_elem?}
use Rattle.atomic_table.specs.Table.{State}
use Rattle.orc_word.specs.declared.bits.Bit.{Bit}
use Rattle.orc_word.specs.declared.bits.Bit.TheVariants.{Published, Killed}
use Rattle.orc_word.specs.declared.bits.Bits.{Bits}
use Rattle.orc_word.specs.declared.view.Stance.{Stance}
use Rattle.orc_word.specs.declared.view.Deed.{Deed}
use Rattle.orc_word.specs.declared.view.Deed.TheVariants.{Opened, Found, Ended, Won}
use Rattle.orc_word.specs.declared.view.View.{View}
use Rattle.orc_word.specs.declared.view.Plan.{Plan}
use Rattle.orc_word.specs.Words.{count_of, bit_of, flag, has, worth, Rule, group_in, seen_in, won_in}

abbrev pub view_of : Stance → List Deed → View
view_of stance deeds = record { stance = stance; deeds = deeds }

-- what the seat stands for: a supply, or a pass that is idle or names a group
abbrev pub stance_of : View → Stance
stance_of v = v.stance

-- what the seat has done that nothing undoes, in order
abbrev pub deeds_of : View → List Deed
deeds_of v = v.deeds

-- the group that the pass names
abbrev pub group_of : View → Option ℕ
group_of v = group_in v.stance

-- the bits that the pass has seen
abbrev pub seen_of : View → Bits
seen_of v = seen_in v.stance

-- the bits that the pass has won
abbrev pub won_of : View → Bits
won_of v = won_in v.stance

-- 1 where the deed found that nobody named g, and let a pass name it
abbrev pub begins : ℕ → Deed → ℕ
begins g (Opened h found) = cond (h == g) 1 0
begins g (Found h) = cond (h == g) 1 0
begins g (Ended h) = 0
begins g (Won h c) = 0

-- 1 where the deed was the last leave of g
abbrev pub ends : ℕ → Deed → ℕ
ends g (Opened h found) = 0
ends g (Found h) = 0
ends g (Ended h) = cond (h == g) 1 0
ends g (Won h c) = 0

-- 1 where the bits are the same one
abbrev pub same : Bit → Bit → ℕ
same Published Published = 1
same Published Killed = 0
same Killed Published = 0
same Killed Killed = 1

-- 1 where the deed won the bit of g
abbrev pub wins : Bit → ℕ → Deed → ℕ
wins b g (Opened h found) = 0
wins b g (Found h) = 0
wins b g (Ended h) = 0
wins b g (Won h c) = cond (h == g) (same b c) 0

-- 1 where the deed cleared the bit of g, which it found set
abbrev pub clears : Bit → ℕ → Deed → ℕ
clears b g (Opened h found) = cond (h == g) (flag (has b found)) 0
clears b g (Found h) = 0
clears b g (Ended h) = 0
clears b g (Won h c) = 0

-- over all deeds of a view
abbrev pub over : (Deed → ℕ) → View → ℕ
over f v = sum_by f v.deeds

-- 1 where a word counts somebody
abbrev pub some_of : ℕ → ℕ
some_of w = cond (count_of w == 0) 0 1

-- Word g: its count isn't 0 exactly if the deeds have one beginning more than last leaves; and a bit is set exactly if it was won once more than it
-- was cleared
pub record Balanced (views : List View) (g w : ℕ) : Type 0 where
  pub begun : sum_by (over (begins g)) views ≡ sum_by (over (ends g)) views + some_of w
  pub won : (b : Bit) → sum_by (over (wins b g)) views ≡ sum_by (over (clears b g)) views + bit_of b w

-- A seat that stands for no pass has no deeds: so nobody can get rid of what a pass has done
abbrev pub Bare : List View → Type 0
Bare views = (p : ℕ) (v : View) → get_elem? views p ≡ some v → worth v.stance ≡ 0 → v.deeds ≡ []

-- the rule holds of what the seats stand for, and each word is in balance with what all seats have done
abbrev pub Keeps : Plan → List ℕ → List View → Type 0
Keeps plan words views = Rule plan words (map stance_of views) × ((g : ℕ) → g < plan.groups → Balanced views g (slice_index words g)) × Bare views

-- where a seat is split, the first keeps the deeds if it is still worth a pass, else the second has them
abbrev pub kept_deeds : Stance → List Deed → List Deed
kept_deeds s ds = cond (worth s == 0) [] ds

abbrev pub given_deeds : Stance → List Deed → List Deed
given_deeds s ds = cond (worth s == 0) ds []

-- the same, of a table
abbrev pub Kept : Plan → State (Unit {0}) View → Type 0
Kept plan s = Keeps plan s.words s.views

-- an opening, which clears whatever bits it finds
abbrev pub Opens : ℕ → List Deed → List Deed → Type 0
Opens g before after = (found : Bits) × (after ≡ before ++ Opened g found ∷ [])

-- A pass came to name g. If it found that nobody did, that is a deed; if it found somebody, nothing is added
abbrev pub Comes : Option ℕ → List Deed → List Deed → Type 0
Comes o before after = (g : ℕ) × (o ≡ Some g) × (nobody : Bool) × (after ≡ before ++ cond nobody (Found g ∷ []) [])

-- a mark of the group, which was won or not
abbrev pub Marks : Option ℕ → Bit → Bool → List Deed → List Deed → Type 0
Marks o b won before after = (g : ℕ) × (o ≡ Some g) × (after ≡ before ++ cond won (Won g b ∷ []) [])
