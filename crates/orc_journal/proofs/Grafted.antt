-- A part's entries, row by row.
use Rattle.std.proofs.Common.{◌<◌, ◌+◌, ℕ, List, [], ◌∷◌, ◌++◌, length, map, take, get_or, sym, subst}
use Rattle.std.proofs.lemmas.List.{map_more}
use Rattle.orc_rules.specs.declared.entry.Entry.{Entry}
use Rattle.orc_rules.specs.Sites.{Site}
use Rattle.orc_subrun.specs.Moved.{IsLocal, AreLocal, IsSilent, AreSilent}

local_push : (sites : List Site) (es : List Entry) (e : Entry) → AreLocal sites es → IsLocal sites e → AreLocal sites (es ++ e ∷ [])
local_push sites [] e are is = (is, tt)
local_push sites (d ∷ es) e are is = (are.0, local_push sites es e are.1 is)

-- one row more
pub local_more : {R : Type 0} (sites : List Site) (entry : R → Entry) (rows : List R) (i : ℕ) (d : R) → i < length rows → AreLocal sites (map entry (take i rows))
    → IsLocal sites (entry (get_or rows i d)) → AreLocal sites (map entry (take (i + 1) rows))
local_more sites entry rows i d within are is =
    subst (AreLocal sites) (sym (map_more entry rows i d within)) (local_push sites (map entry (take i rows)) (entry (get_or rows i d)) are is)

silent_push : (es : List Entry) (e : Entry) → AreSilent es → IsSilent e → AreSilent (es ++ e ∷ [])
silent_push [] e are is = (is, tt)
silent_push (d ∷ es) e are is = (are.0, silent_push es e are.1 is)

-- the same of silent ones
pub silent_more : {R : Type 0} (entry : R → Entry) (rows : List R) (i : ℕ) (d : R) → i < length rows → AreSilent (map entry (take i rows)) → IsSilent (entry (get_or rows i d))
    → AreSilent (map entry (take (i + 1) rows))
silent_more entry rows i d within are is =
    subst AreSilent (sym (map_more entry rows i d within)) (silent_push (map entry (take i rows)) (entry (get_or rows i d)) are is)
