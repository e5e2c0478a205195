-- Which word each open group has, after a change.
use Rattle.std.proofs.Common.{◌≡◌, ◌≤◌, ◌<◌, ◌⊎◌, ◌+◌, inl, inr, ℕ, List, [], ◌∷◌, refl, sym, ap, ◌∙◌, subst, arith, Bool, true, false, nat_eq, eq-eqb, Option, Some}
use Rattle.std.proofs.lemmas.Bool.{eqb-true}
use Rattle.orc_indexes.specs.Same.{weight}
use Rattle.orc_indexes.proofs.Weight.{weight-in, some-in, this_is, this_not, this_one}
use Rattle.orc_ledger_spec.specs.Records.{Records}
use Rattle.orc_ledger_spec.specs.Calls.{IsFree}
use Rattle.orc_ledger_spec.specs.Homes.{Nest}
use Rattle.orc_ledger_spec.specs.Next.{AreGrouped, numbers_of}
use Rattle.orc_rules.specs.Timed.{IsIn}
use Rattle.orc_tables.specs.OpenGroups.{is_named}
use Rattle.orc_tables.specs.declared.records.Group.{Group}
use Rattle.orc_word.specs.declared.view.View.{View}
use Rattle.orc_book.specs.declared.word_table.Kind.TheVariants.{Free, Open, Dying}
use Rattle.orc_book.specs.Held.{Hold, Stood, IsMissing, IsThere, word_at}
use Rattle.orc_book.specs.Words.{AreNamed, AreThere, HaveDied, IsOpened, Turns, kind_at, stood_at, unused}
use Rattle.orc_book.proofs.Loose.{not-both}

one_open : (a b : ℕ) → Open a ≡ Open b → a ≡ b
one_open a b h = cc h

not_same : (a b : ℕ) → nat_eq a b ≡ false → a ≡ b → ⊥
not_same a b e same = cc (eq-eqb a b same, e)

-- ---- which groups are there

-- a group that is there is where there are no fewer with its number
there-as : (s s' : Records) (i : ℕ) → weight (is_named i) s.groups ≤ weight (is_named i) s'.groups → IsThere s i → IsThere s' i
there-as s s' i more (inl z) = inl z
there-as s s' i more (inr g) =
    let k = some-in (is_named i) s'.groups (omega (arith, more, weight-in (is_named i) s.groups g.0 (g.1).0, this_is i (Group.number g.0) (sym (g.1).1))) in
    inr (k.0, (k.1, sym (this_one i (Group.number k.0) k.2)))

-- no group with a number that is free is there
free-missing : (s : Records) (n : ℕ) → IsFree s n → IsThere s n → ⊥
free-missing s n F (inl z) = absurd (omega (arith, F.0, z))
free-missing s n F (inr g) = absurd (omega (arith, F.1, weight-in (is_named n) s.groups g.0 (g.1).0, this_is n (Group.number g.0) (sym (g.1).1)))

-- ---- no group comes or goes

pub named-kept : (s s' : Records) (ps ps' : List Hold) (ws : List Stood) → ((w : Group → ℕ) → weight w s'.groups ≡ weight w s.groups) → ((i : ℕ) → word_at ps' i ≡ word_at ps i) → AreNamed s ps ws → AreNamed s' ps' ws
named-kept s s' ps ps' ws groups words N =
    record {
      root = words 0 ∙ N.root;
      has = λ i h. ap (kind_at ws) (words i) ∙ N.has i (there-as s' s i (omega (arith, groups (is_named i))) h);
      is = λ w i e. let x = N.is w i e in (there-as s s' i (omega (arith, groups (is_named i))) x.0, words i ∙ x.1);
    }

pub named-same-words : (s s' : Records) (ps ps' : List Hold) (ws : List Stood) → s'.groups ≡ s.groups → ((i : ℕ) → word_at ps' i ≡ word_at ps i) → AreNamed s ps ws → AreNamed s' ps' ws
named-same-words s s' ps ps' ws groups words N = named-kept s s' ps ps' ws (λ w. ap (weight w) groups) words N

pub named-same : (s s' : Records) (ps : List Hold) (ws : List Stood) → s'.groups ≡ s.groups → AreNamed s ps ws → AreNamed s' ps ws
named-same s s' ps ws groups N = named-same-words s s' ps ps ws groups (λ i. refl) N

pub none-came : (s s' : Records) → ((w : Group → ℕ) → weight w s'.groups ≡ weight w s.groups + weight w []) → (w : Group → ℕ) → weight w s'.groups ≡ weight w s.groups
none-came s s' more w = omega (arith, more w)

-- ---- a group comes, with a word that was free

module _ (s s' : Records) (ps ps' : List Hold) (ws ws' : List Stood) (n v : ℕ) (F : IsFree s n) (g : Group) (number : g.number ≡ n) (more : (w : Group → ℕ) → weight w s'.groups ≡ weight w s.groups + weight w (g ∷ [])) (words : (i : ℕ) → (i ≡ n → ⊥) → word_at ps' i ≡ word_at ps i) (word : word_at ps' n ≡ v) (O : IsOpened ws v n ws') (N : AreNamed s ps ws) where
  groups : (w : Group → ℕ) → weight w s'.groups ≡ weight w s.groups + w g
  groups w = omega (arith, more w)

  come : IsThere s' n
  come =
      let k = some-in (is_named n) s'.groups (omega (arith, groups (is_named n), this_is n g.number (sym number))) in
      inr (k.0, (k.1, sym (this_one n (Group.number k.0) k.2)))

  were : (i : ℕ) → (i ≡ n → ⊥) → IsThere s' i → IsThere s i
  were i off h = there-as s' s i (omega (arith, groups (is_named i), this_not i g.number (λ e. off (e ∙ number)))) h

  still : (i : ℕ) → IsThere s i → IsThere s' i
  still i h = there-as s s' i (omega (arith, groups (is_named i))) h

  pub named-opened : AreNamed s' ps' ws'
  named-opened = record { root = words 0 (λ z. absurd (omega (arith, F.0, z))) ∙ N.root; has = λ i h. has_by i h (nat_eq i n) refl; is = λ w i e. is_by w i e (nat_eq w v) refl }
    where
      has_by : (i : ℕ) → IsThere s' i → (b : Bool) → nat_eq i n ≡ b → kind_at ws' (word_at ps' i) ≡ Open i
      has_by i h true e = let same = eqb-true i n e in ap (kind_at ws') (ap (word_at ps') same ∙ word) ∙ ap Stood.kind (O.1).turned ∙ ap Open (sym same)
      has_by i h false e =
          let off = not_same i n e in
          let before : kind_at ws (word_at ps i) ≡ Open i = N.has i (were i off h) in
          let apart : word_at ps i ≡ v → ⊥ = λ same. cc (ap (kind_at ws) same, before, O.0) in
          ap (kind_at ws') (words i off) ∙ ap Stood.kind ((O.1).others (word_at ps i) apart) ∙ before

      is_by : (w i : ℕ) → kind_at ws' w ≡ Open i → (b : Bool) → nat_eq w v ≡ b → IsThere s' i × (word_at ps' i ≡ w)
      is_by w i e true same =
          let at = eqb-true w v same in
          let number_is : n ≡ i = one_open n i (sym (ap (kind_at ws') at ∙ ap Stood.kind (O.1).turned) ∙ e) in
          (subst (IsThere s') number_is come, ap (word_at ps') (sym number_is) ∙ word ∙ sym at)
      is_by w i e false other =
          let before : kind_at ws w ≡ Open i = ap Stood.kind (sym ((O.1).others w (not_same w v other))) ∙ e in
          let x = N.is w i before in
          (still i x.0, words i (λ same. free-missing s n F (subst (IsThere s) same x.0)) ∙ x.1)

-- ---- a group goes, and its word is free

-- an open group isn't the program's own
pub not-root : (s : Records) → AreGrouped (numbers_of s) s → (g : Group) → IsIn g s.groups → (n : ℕ) → g.number ≡ n → n ≡ 0 → ⊥
not-root s G g there n number z =
    let d = G.sides g there in
    absurd (omega (arith, d.5, ap (λ (w : Nest). w.step) (one_nest d.0 (G.root).0 (sym d.3 ∙ ap G.groups (number ∙ z) ∙ (G.root).1)), (G.root).2))
  where
    one_nest : (a b : Nest) → Some a ≡ Some b → a ≡ b
    one_nest a b e = cc e

module _ (s s' : Records) (ps ps' : List Hold) (ws ws' : List Stood) (n v : ℕ) (not_root : n ≡ 0 → ⊥) (g : Group) (number : g.number ≡ n) (once : weight (is_named n) s.groups ≤ 1) (groups : (w : Group → ℕ) → weight w s'.groups + w g ≡ weight w s.groups) (words : (i : ℕ) → word_at ps' i ≡ word_at ps i) (stood : kind_at ws v ≡ Open n) (T : Turns ws v unused ws') (N : AreNamed s ps ws) where
  had : (i : ℕ) → IsThere s' i → IsThere s i
  had i h = there-as s' s i (omega (arith, groups (is_named i))) h

  has_still : (i : ℕ) → (i ≡ n → ⊥) → IsThere s i → IsThere s' i
  has_still i off h = there-as s s' i (omega (arith, groups (is_named i), this_not i g.number (λ e. off (e ∙ number)))) h

  gone : IsThere s' n → ⊥
  gone (inl z) = not_root z
  gone (inr k) = absurd (omega (arith, once, groups (is_named n), this_is n g.number (sym number), weight-in (is_named n) s'.groups k.0 (k.1).0, this_is n (Group.number k.0) (sym (k.1).1)))

  pub named-gone : AreNamed s' ps' ws'
  named-gone = record { root = words 0 ∙ N.root; has = has_by; is = λ w i e. is_by w i e (nat_eq w v) refl }
    where
      has_by : (i : ℕ) → IsThere s' i → kind_at ws' (word_at ps' i) ≡ Open i
      has_by i h =
          let before : kind_at ws (word_at ps i) ≡ Open i = N.has i (had i h) in
          let other : i ≡ n → ⊥ = λ same. gone (subst (IsThere s') same h) in
          let apart : word_at ps i ≡ v → ⊥ = λ same. other (one_open i n (sym before ∙ ap (kind_at ws) same ∙ stood)) in
          ap (kind_at ws') (words i) ∙ ap Stood.kind (T.others (word_at ps i) apart) ∙ before

      is_by : (w i : ℕ) → kind_at ws' w ≡ Open i → (b : Bool) → nat_eq w v ≡ b → IsThere s' i × (word_at ps' i ≡ w)
      is_by w i e true same = cc (ap (kind_at ws') (eqb-true w v same), ap Stood.kind T.turned, e)
      is_by w i e false other =
          let before : kind_at ws w ≡ Open i = ap Stood.kind (sym (T.others w (not_same w v other))) ∙ e in
          let x = N.is w i before in
          let off : i ≡ n → ⊥ = λ same. not_same w v other (sym x.1 ∙ ap (word_at ps) same ∙ (N.is v n stood).1) in
          (has_still i off x.0, words i ∙ x.1)

-- ---- groups go, and their words stand for killed ones

pub named-dropped : (s s' : Records) (ps ps' : List Hold) (ws ws' : List Stood) → ((w : Group → ℕ) → weight w s'.groups ≤ weight w s.groups) → ((i : ℕ) → word_at ps' i ≡ word_at ps i) → HaveDied s' ws ws' → AreThere s' ws' → AreNamed s ps ws → AreNamed s' ps' ws'
named-dropped s s' ps ps' ws ws' groups words D there N = record { root = words 0 ∙ N.root; has = λ i h. has_by i h (D (word_at ps i)); is = λ w i e. is_by w i e (D w) }
  where
    has_by : (i : ℕ) → IsThere s' i → (stood_at ws' (word_at ps i) ≡ stood_at ws (word_at ps i)) ⊎ ((n : ℕ) × (kind_at ws (word_at ps i) ≡ Open n) × IsMissing s' n × (kind_at ws' (word_at ps i) ≡ Dying)) → kind_at ws' (word_at ps' i) ≡ Open i
    has_by i h (inl same) = ap (kind_at ws') (words i) ∙ ap Stood.kind same ∙ N.has i (there-as s' s i (groups (is_named i)) h)
    has_by i h (inr x) = absurd (not-both s' i x.0 h x.2 (one_open i x.0 (sym (N.has i (there-as s' s i (groups (is_named i)) h)) ∙ x.1)))

    is_by : (w i : ℕ) → kind_at ws' w ≡ Open i → (stood_at ws' w ≡ stood_at ws w) ⊎ ((n : ℕ) × (kind_at ws w ≡ Open n) × IsMissing s' n × (kind_at ws' w ≡ Dying)) → IsThere s' i × (word_at ps' i ≡ w)
    is_by w i e (inl same) = (there w i e, words i ∙ (N.is w i (ap Stood.kind (sym same) ∙ e)).1)
    is_by w i e (inr x) = cc (x.3, e)

-- ---- the word of a killed group is free

pub named-freed : (s : Records) (ps : List Hold) (ws ws' : List Stood) (v : ℕ) → kind_at ws v ≡ Dying → Turns ws v unused ws' → AreNamed s ps ws → AreNamed s ps ws'
named-freed s ps ws ws' v stood T N = record { root = N.root; has = has_by; is = λ w i e. is_by w i e (nat_eq w v) refl }
  where
    has_by : (i : ℕ) → IsThere s i → kind_at ws' (word_at ps i) ≡ Open i
    has_by i h =
        let before : kind_at ws (word_at ps i) ≡ Open i = N.has i h in
        ap Stood.kind (T.others (word_at ps i) (λ same. cc (ap (kind_at ws) same, before, stood))) ∙ before

    is_by : (w i : ℕ) → kind_at ws' w ≡ Open i → (b : Bool) → nat_eq w v ≡ b → IsThere s i × (word_at ps i ≡ w)
    is_by w i e true same = cc (ap (kind_at ws') (eqb-true w v same), ap Stood.kind T.turned, e)
    is_by w i e false other = N.is w i (ap Stood.kind (sym (T.others w (not_same w v other))) ∙ e)

-- ---- a run begins: the first word stands for the program's own group

pub named-first : (s : Records) (ps : List Hold) (ws : List Stood) → s.groups ≡ [] → word_at ps 0 ≡ 0 → IsOpened [] 0 0 ws → AreNamed s ps ws
named-first s ps ws none word O = record { root = word; has = λ i h. has_by i (only i h); is = λ w i e. is_by w i e (nat_eq w 0) refl }
  where
    only : (i : ℕ) → IsThere s i → i ≡ 0
    only i (inl z) = z
    only i (inr g) = absurd (omega (arith, ap (weight (is_named i)) none, weight-in (is_named i) s.groups g.0 (g.1).0, this_is i (Group.number g.0) (sym (g.1).1)))

    has_by : (i : ℕ) → i ≡ 0 → kind_at ws (word_at ps i) ≡ Open i
    has_by i z = ap (λ k. kind_at ws (word_at ps k)) z ∙ ap (kind_at ws) word ∙ ap Stood.kind (O.1).turned ∙ ap Open (sym z)

    is_by : (w i : ℕ) → kind_at ws w ≡ Open i → (b : Bool) → nat_eq w 0 ≡ b → IsThere s i × (word_at ps i ≡ w)
    is_by w i e true same =
        let at = eqb-true w 0 same in
        let z : 0 ≡ i = one_open 0 i (sym (ap (kind_at ws) at ∙ ap Stood.kind (O.1).turned) ∙ e) in
        (inl (sym z), ap (word_at ps) (sym z) ∙ word ∙ sym at)
    is_by w i e false other = cc (sym (ap Stood.kind ((O.1).others w (not_same w 0 other))) ∙ e)
