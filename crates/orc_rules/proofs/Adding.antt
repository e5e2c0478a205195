-- One more line in a table of sites.
use Rattle.std.proofs.Common.{◌≡◌, ℕ, suc, ◌+◌, ◌<◌, ◌^◌, Bool, true, false, cond, List, [], ◌∷◌, ◌++◌, Option, Some, None, length, get_or, map, slice_set, refl, sym, ap, subst, ◌∙◌, arith, length-append}
use Rattle.std.specs.Prelude.{option_map, bytes_eq}
use Rattle.std.proofs.Math.Seq.{map-set_same}
use Rattle.std.proofs.Math.ListN.{get_or-map}
use Rattle.std.proofs.lemmas.List.{map-set, map-append, length-map}
use Rattle.std.proofs.lemmas.Slice.Eq.{bytes_eq-Decides}
use Rattle.orc_rules.specs.declared.answers.Named.{Named}
use Rattle.orc_rules.specs.Sites.{Line, Site, Table, scripted, site_named, site_with, names_with, sites_with, with_line, IsBare, AreNames, IsTable}
use Rattle.orc_rules.specs.Tables.{table, table_with, names_of, site_of}

pub some_apart : (at : ℕ) → ◌≡◌ {A = Option ℕ} None (Some at) → ⊥
some_apart at e = absurd cc

pub same_some : (x y : ℕ) → ◌≡◌ {A = Option ℕ} (Some x) (Some y) → x ≡ y
same_some x y e = cc

-- a name that is there stays alone
known_names : (names : List (List ℕ)) (name : List ℕ) (at : ℕ) → site_named names name ≡ Some at → names_with names name ≡ names
known_names [] name at e = absurd (some_apart at e)
known_names (n ∷ ns) name at e = go (bytes_eq n name) (site_named ns name) (known_names ns name) e where
  go : (b : Bool) (o : Option ℕ) → ((k : ℕ) → o ≡ Some k → names_with ns name ≡ ns) → cond b (Some 0) (option_map suc o) ≡ Some at → cond b (n ∷ ns) (n ∷ names_with ns name) ≡ n ∷ ns
  go true o ih p = refl
  go false None ih p = absurd (some_apart at p)
  go false (Some k) ih p = ap (λ (t : List (List ℕ)). n ∷ t) (ih k refl)

known_sites : (names : List (List ℕ)) (ss : List Site) (name : List ℕ) (l : Line) (at : ℕ) (d : Site) → length names ≡ length ss → site_named names name ≡ Some at
    → sites_with names ss name l ≡ slice_set ss at (site_with (get_or ss at d) l)
known_sites [] ss name l at d same e = absurd (some_apart at e)
known_sites (n ∷ ns) [] name l at d same e = absurd (omega (arith, same))
known_sites (n ∷ ns) (s ∷ ss) name l at d same e = go (bytes_eq n name) (site_named ns name) (λ k. known_sites ns ss name l k d (omega (arith, same))) e where
  go : (b : Bool) (o : Option ℕ) → ((k : ℕ) → o ≡ Some k → sites_with ns ss name l ≡ slice_set ss k (site_with (get_or ss k d) l)) → cond b (Some 0) (option_map suc o) ≡ Some at
      → cond b (site_with s l ∷ ss) (s ∷ sites_with ns ss name l) ≡ slice_set (s ∷ ss) at (site_with (get_or (s ∷ ss) at d) l)
  go true o ih p = subst (λ (k : ℕ). site_with s l ∷ ss ≡ slice_set (s ∷ ss) k (site_with (get_or (s ∷ ss) k d) l)) (same_some 0 at p) refl
  go false None ih p = absurd (some_apart at p)
  go false (Some k) ih p = subst (λ (j : ℕ). s ∷ sites_with ns ss name l ≡ slice_set (s ∷ ss) j (site_with (get_or (s ∷ ss) j d) l)) (same_some (suc k) at p) (ap (λ (t : List Site). s ∷ t) (ih k refl))

none_apart : (o : Option ℕ) → option_map suc o ≡ None → o ≡ None
none_apart None e = refl
none_apart (Some k) e = absurd cc

pub new_name : (n name : List ℕ) (ns : List (List ℕ)) → site_named (n ∷ ns) name ≡ None → (bytes_eq n name ≡ false) × (site_named ns name ≡ None)
new_name n name ns e = go (bytes_eq n name) e where
  go : (b : Bool) → cond b (Some 0) (option_map suc (site_named ns name)) ≡ None → (b ≡ false) × (site_named ns name ≡ None)
  go true p = absurd cc
  go false p = (refl, none_apart (site_named ns name) p)

-- a new name stands behind the others
new_names : (names : List (List ℕ)) (name : List ℕ) → site_named names name ≡ None → names_with names name ≡ names ++ name ∷ []
new_names [] name e = refl
new_names (n ∷ ns) name e =
    let p = new_name n name ns e in
    rw p.0 (ap (λ (t : List (List ℕ)). n ∷ t) (new_names ns name p.1))

new_sites : (names : List (List ℕ)) (ss : List Site) (name : List ℕ) (l : Line) → length names ≡ length ss → site_named names name ≡ None → sites_with names ss name l ≡ ss ++ scripted (l ∷ []) ∷ []
new_sites [] ss name l same e = refl
new_sites (n ∷ ns) [] name l same e = absurd (omega (arith, same))
new_sites (n ∷ ns) (s ∷ ss) name l same e =
    let p = new_name n name ns e in
    rw p.0 (ap (λ (t : List Site). s ∷ t) (new_sites ns ss name l (omega (arith, same)) p.1))

turned : (n name : List ℕ) → bytes_eq n name ≡ false → bytes_eq name n ≡ false
turned n name e = go (bytes_eq name n) refl where
  go : (b : Bool) → bytes_eq name n ≡ b → b ≡ false
  go false q = refl
  go true q =
      let same : name ≡ n = (bytes_eq-Decides name n).0 q in
      let yes : bytes_eq n name ≡ true = (bytes_eq-Decides n name).1 (sym same) in
      absurd cc

not_last : (ns : List (List ℕ)) (name n : List ℕ) → site_named ns n ≡ None → bytes_eq name n ≡ false → site_named (ns ++ name ∷ []) n ≡ None
not_last [] name n e q = rw q refl
not_last (m ∷ ms) name n e q =
    let p = new_name m n ms e in
    rw (p.0, not_last ms name n p.1 q) refl

more_names : (names : List (List ℕ)) (name : List ℕ) → AreNames names → IsBare name → site_named names name ≡ None → AreNames (names ++ name ∷ [])
more_names [] name are bare e = (bare, refl, tt)
more_names (n ∷ ns) name are bare e =
    let p = new_name n name ns e in
    (are.0, not_last ns name n are.1 (turned n name p.0), more_names ns name are.2 bare p.1)

-- a site that was changed keeps its name
pub changed : (ns : List Named) (at : ℕ) (x y : Named) (name : List ℕ) (l : Line) → IsTable (table ns) → y ≡ get_or ns at y → x.name.items ≡ y.name.items → site_of x.rule ≡ site_with (site_of y.rule) l
    → site_named (names_of ns) name ≡ Some at → table (slice_set ns at x) ≡ with_line (table ns) name l
changed ns at x y name l is old same rule found =
    let names : names_of (slice_set ns at x) ≡ names_with (names_of ns) name = map-set_same (λ (n : Named). n.name.items) ns at x y (same ∙ ap (λ (n : Named). n.name.items) old) ∙ sym (known_names (names_of ns) name at found) in
    let there : get_or (map (λ (n : Named). site_of n.rule) ns) at (site_of y.rule) ≡ site_of y.rule = get_or-map (λ (n : Named). site_of n.rule) ns at y ∙ ap (λ (n : Named). site_of n.rule) (sym old) in
    let sites : map (λ (n : Named). site_of n.rule) (slice_set ns at x) ≡ sites_with (names_of ns) (map (λ (n : Named). site_of n.rule) ns) name l =
    map-set (λ (n : Named). site_of n.rule) ns at x ∙ ap (slice_set (map (λ (n : Named). site_of n.rule) ns) at) (rule ∙ ap (λ (s : Site). site_with s l) (sym there))
    ∙ sym (known_sites (names_of ns) (map (λ (n : Named). site_of n.rule) ns) name l at (site_of y.rule) is.1 found) in
    λ i. record { names = names i; sites = sites i }

pub unchanged : (ns : List Named) (at : ℕ) (x y : Named) → y ≡ get_or ns at y → x.name.items ≡ y.name.items → site_of x.rule ≡ site_of y.rule → table (slice_set ns at x) ≡ table ns
unchanged ns at x y old same rule =
    let names = map-set_same (λ (n : Named). n.name.items) ns at x y (same ∙ ap (λ (n : Named). n.name.items) old) in
    let sites = map-set_same (λ (n : Named). site_of n.rule) ns at x y (rule ∙ ap (λ (n : Named). site_of n.rule) old) in
    λ i. record { names = names i; sites = sites i }

pub same_names : (ns : List Named) (at : ℕ) (x y : Named) → y ≡ get_or ns at y → x.name.items ≡ y.name.items → names_of (slice_set ns at x) ≡ names_of ns
same_names ns at x y old same = map-set_same (λ (n : Named). n.name.items) ns at x y (same ∙ ap (λ (n : Named). n.name.items) old)

pub still_table : (ns : List Named) (at : ℕ) (x y : Named) → IsTable (table ns) → y ≡ get_or ns at y → x.name.items ≡ y.name.items → IsTable (table (slice_set ns at x))
still_table ns at x y is old same =
    let names = same_names ns at x y old same in
    let count : length (map (λ (n : Named). site_of n.rule) (slice_set ns at x)) ≡ length (names_of (slice_set ns at x)) = length-map (slice_set ns at x) (λ (n : Named). site_of n.rule) ∙ sym (length-map (slice_set ns at x) (λ (n : Named). n.name.items)) in
    (subst AreNames (sym names) is.0, sym count, subst (λ (t : List (List ℕ)). length t < 2 ^ 32) (sym names) is.2)

pub names_more : (ns ms : List Named) (x : Named) (name : List ℕ) → ms ≡ ns ++ x ∷ [] → x.name.items ≡ name → names_of ms ≡ names_of ns ++ name ∷ []
names_more ns ms x name same named = ap names_of same ∙ map-append (λ (n : Named). n.name.items) ns (x ∷ []) ∙ ap (λ (t : List ℕ). names_of ns ++ t ∷ []) named

-- a site of a new name, with its first line, stands behind the others
pub added : (t : Table) (name : List ℕ) (l : Line) → IsTable t → site_named t.names name ≡ None → table_with t name (scripted (l ∷ [])) ≡ with_line t name l
added t name l is none =
    let names = sym (new_names t.names name none) in
    let sites = sym (new_sites t.names t.sites name l is.1 none) in
    λ i. record { names = names i; sites = sites i }

pub more_table : (ns ms : List Named) (x : Named) (name : List ℕ) → IsTable (table ns) → ms ≡ ns ++ x ∷ [] → x.name.items ≡ name → IsBare name → length (names_of ns) + 1 < 2 ^ 32 → site_named (names_of ns) name ≡ None → IsTable (table ms)
more_table ns ms x name is same named bare room none =
    let names = names_more ns ms x name same named in
    let count : length (names_of ms) ≡ length (map (λ (n : Named). site_of n.rule) ms) = length-map ms (λ (n : Named). n.name.items) ∙ sym (length-map ms (λ (n : Named). site_of n.rule)) in
    let less : length (names_of ns ++ name ∷ []) < 2 ^ 32 = omega (arith, length-append (names_of ns) (name ∷ []), room) in
    (subst AreNames (sym names) (more_names (names_of ns) name is.0 bare none), count, subst (λ (t : List (List ℕ)). length t < 2 ^ 32) (sym names) less)
