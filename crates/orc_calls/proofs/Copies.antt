-- A map that counts, once more.
use Rattle.std.proofs.Common.{◌≡◌, ℕ, List, [], ◌∷◌, map, refl}
use Rattle.std.specs.Global.{Vec}
use Rattle.std.specs.List.{AllZip}
use Rattle.std.specs.Prelude.{vec_len}
use Rattle.std.proofs.lemmas.List.Elements.{same_from_all_zip}
use Rattle.orc_calls.specs.Counting.{entry_of}

-- an entry and its clone
abbrev pub IsSame : Vec ℕ × ℕ → Vec ℕ × ℕ → Type 0
IsSame e f = (AllZip (λ x y. y ≡ x) e.0.items f.0.items × (vec_len f.0 ≡ vec_len e.0)) × (f.1 ≡ e.1)

pub same_entries : (es fs : List (Vec ℕ × ℕ)) → AllZip IsSame es fs → map entry_of fs ≡ map entry_of es
same_entries [] [] z = refl
same_entries [] (f ∷ fs) z = absurd z
same_entries (e ∷ es) [] z = absurd z
same_entries (e ∷ es) (f ∷ fs) z =
    let rest = same_entries es fs z.1 in
    λ i. (same_from_all_zip (λ x y. y ≡ x) e.0.items f.0.items z.0.0.0 (λ x y h. h) i, z.0.1 i) ∷ rest i
