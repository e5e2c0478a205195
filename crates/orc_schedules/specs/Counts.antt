-- Lists of calls that were made by their numbers.
use Rattle.std.specs.Prelude.{ℕ, suc, List, [], ◌∷◌, ◌++◌, take, drop, Bool, cond, nat_eq, ◌&&◌, slice_index_or}
use Rattle.orc_rules.specs.declared.value.Value.{Value}
use Rattle.orc_rules.specs.Sites.{values_eq}
use Rattle.orc_search.specs.declared.made.Made.{Made}

-- the list of a number, and the empty one where there is none
abbrev pub made_at : List (List Made) → ℕ → List Made
made_at ls i = slice_index_or ls i []

-- so many calls of a site with these arguments were made
pub record Count : Type 0 where
  pub site : ℕ
  pub args : List Value
  pub times : ℕ

-- an entry of the code as one of the definitions
abbrev pub count_of : Made → Count
count_of m = record { site = m.site; args = m.args.items; times = m.times }

-- whether both count the same calls
abbrev pub is_kind : Count → Count → Bool
is_kind c d = nat_eq c.site d.site && values_eq c.args d.args

-- the counts with this one at a place: in place of the one that is there, or before it
abbrev pub raised : Count → ℕ → Bool → List Count → List Count
raised c at again ds = take at ds ++ c ∷ drop (cond again (suc at) at) ds

-- how many calls were made, with this count for its calls
abbrev pub times_with : Count → (ℕ → List Value → ℕ) → ℕ → List Value → ℕ
times_with c times m args = cond (nat_eq m c.site && values_eq args c.args) c.times (times m args)
