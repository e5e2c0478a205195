-- The map from the names of the sites to their numbers.
use Rattle.std.proofs.Common.{◌≡◌, ℕ, suc, ◌<◌, Bool, true, false, cond, List, [], ◌∷◌, ◌++◌, Option, Some, None, length, refl, sym, ap, subst, ◌∙◌, arith}
use Rattle.std.specs.Prelude.{option_map, bytes_eq}
use Rattle.std.specs.Global.{Vec}
use Rattle.std.specs.Map.{lookup, KeepsOthers}
use Rattle.std.specs.HashMap.{HashMap, UpdatesBy}
use Rattle.std.specs.Cmp.Lexicographic.{bytes_decides}
use Rattle.std.proofs.lemmas.Cmp.{nat_list_eq_equiv}
use Rattle.orc_rules.specs.Sites.{site_named}
use Rattle.orc_rules.specs.Tables.{AreNumbers}
use Rattle.orc_rules.proofs.Adding.{new_name, some_apart, same_some}

-- two names as the map compares them
abbrev same_names : Vec ℕ → Vec ℕ → Bool
same_names k l = bytes_eq k.items l.items

abbrev number_of : List ℕ → List (Vec ℕ × ℕ) → Option ℕ
number_of q es = lookup (λ k. bytes_eq q k.items) es

-- at another name the same stands after a change at k
other_numbers : (k : List ℕ) (es fs : List (Vec ℕ × ℕ)) → KeepsOthers same_names (λ x. bytes_eq k x.items) es fs → (q : List ℕ) → bytes_eq q k ≡ false → number_of q fs ≡ number_of q es
unfolding KeepsOthers
other_numbers k es fs keeps q e = keeps (λ x. bytes_eq q x.items) (λ x y. nat_list_eq_equiv.congr q x.items y.items) (λ x h. subst (λ z. bytes_eq q z ≡ false) ((bytes_decides k x.items).0 h) e)

-- after a change at k v stands there
number_put : {S : Type 0} (k : List ℕ) (v : ℕ) (m n : HashMap (Vec ℕ) ℕ S) → UpdatesBy same_names (λ x. bytes_eq k x.items) m n (Some v) → (q : List ℕ) → number_of q n.entries ≡ cond (bytes_eq q k) (Some v) (number_of q m.entries)
number_put k v m n updates q = go (bytes_eq q k) refl
  where
    go : (b : Bool) → bytes_eq q k ≡ b → number_of q n.entries ≡ cond (bytes_eq q k) (Some v) (number_of q m.entries)
    go true e = rw e (ap (λ z. number_of z n.entries) ((bytes_decides q k).0 e) ∙ updates.1)
    go false e = rw e (other_numbers k m.entries n.entries updates.3 q e)

-- a new name stands behind the others
one_more : (ns : List (List ℕ)) (name q : List ℕ) → site_named ns name ≡ None → site_named (ns ++ name ∷ []) q ≡ cond (bytes_eq q name) (Some (length ns)) (site_named ns q)
one_more [] name q new = ap (λ b. cond b (Some 0) None) (nat_list_eq_equiv.symm name q)
one_more (n ∷ ns) name q new =
    let p = new_name n name ns new in
    go p.0 (one_more ns name q p.1) (bytes_eq q name) refl
  where
    go : bytes_eq n name ≡ false → site_named (ns ++ name ∷ []) q ≡ cond (bytes_eq q name) (Some (length ns)) (site_named ns q) → (b : Bool) → bytes_eq q name ≡ b
        → cond (bytes_eq n q) (Some 0) (option_map suc (site_named (ns ++ name ∷ []) q)) ≡ cond (bytes_eq q name) (Some (suc (length ns))) (cond (bytes_eq n q) (Some 0) (option_map suc (site_named ns q)))
    go apart before true is =
        let other : bytes_eq n q ≡ false = ap (bytes_eq n) ((bytes_decides q name).0 is) ∙ apart in
        rw (other, before, is) refl
    go apart before false is = rw (before, is) refl

-- the numbers with the new name's
pub more_numbers : {S : Type 0} (ns : List (List ℕ)) (m n : HashMap (Vec ℕ) ℕ S) (k : Vec ℕ) (v : ℕ) → AreNumbers ns m.entries → site_named ns k.items ≡ None → v ≡ length ns → UpdatesBy same_names (λ x. bytes_eq k.items x.items) m n (Some v) → AreNumbers (ns ++ k.items ∷ []) n.entries
more_numbers ns m n k v are new is updates q =
    number_put k.items v m n updates q ∙ (λ i. cond (bytes_eq q k.items) (Some (is i)) (are q i)) ∙ sym (one_more ns k.items q new)

-- a name's number is one of a site
pub number_within : (ns : List (List ℕ)) (name : List ℕ) (at : ℕ) → site_named ns name ≡ Some at → at < length ns
number_within [] name at e = absurd (some_apart at e)
number_within (n ∷ ns) name at e = go (bytes_eq n name) (site_named ns name) (number_within ns name) e
  where
    go : (b : Bool) (o : Option ℕ) → ((k : ℕ) → o ≡ Some k → k < length ns) → cond b (Some 0) (option_map suc o) ≡ Some at → at < suc (length ns)
    go true o before p = omega (arith, same_some 0 at p)
    go false None before p = absurd (some_apart at p)
    go false (Some k) before p = omega (arith, same_some (suc k) at p, before k refl)
