-- The flags after a part has changed.
use Rattle.std.proofs.Common.{◌≡◌, ◌≤◌, ◌<◌, ◌+◌, ℕ, zero, suc, List, [], ◌∷◌, ◌++◌, length, refl, sym, ap, ◌∙◌, subst, arith, Bool, true, false, length-append}
use Rattle.std.specs.Prelude.{slice_get, slice_set, ◌&&◌}
use Rattle.orc_term.specs.declared.arena.Node.{Node}
use Rattle.orc_term.specs.declared.arena.Tip.{Tip}
use Rattle.orc_term.specs.declared.arena.Single.{Single}
use Rattle.orc_term.specs.declared.arena.Double.{Double}
use Rattle.orc_term.specs.declared.arena.Single.TheVariants.{Feeds, Entered, Passed}
use Rattle.orc_term.specs.declared.arena.Double.TheVariants.{Both, Side}
use Rattle.orc_rules.specs.Term.{Term}
use Rattle.orc_term.specs.Arena.{Tree, leaf, one, two, place, count, living, Holds, StandOnce, Frame, on_one, on_left, on_right, plug}
use Rattle.orc_term.specs.Around.{around}
use Rattle.orc_term.specs.Rising.{Stands, rest, risen}
use Rattle.orc_term.specs.Halting.{AreHalts}
use Rattle.orc_term.specs.Settling.{flag, one_flag, tip_flag, Flagged, FlaggedAround, Settles, HasFlags, Reflags}
use Rattle.orc_term.proofs.Trees.{count-plug}
use Rattle.orc_term.proofs.Rising.{itself}
use Rattle.orc_term.proofs.Settling.{flag-set_other, around_flags_kept, flagged-out, flagged-in}

-- flags that are there stay
abbrev pub Extends : List Bool → List Bool → Type 0
Extends flags flags' = (u : ℕ) → u < length flags → flag flags' u ≡ flag flags u

pub extends-append : (flags new : List Bool) → Extends flags (flags ++ new)
extends-append [] new u lt = absurd (omega (arith, lt))
extends-append (b ∷ flags) new zero lt = refl
extends-append (b ∷ flags) new (suc u) lt = extends-append flags new u (omega (arith, lt))

pub flag-end : (flags : List Bool) (b : Bool) (new : List Bool) (i : ℕ) → i ≡ length flags → flag (flags ++ b ∷ new) i ≡ b
flag-end [] b new zero e = refl
flag-end [] b new (suc i) e = absurd (omega (arith, e))
flag-end (c ∷ flags) b new zero e = absurd (omega (arith, e))
flag-end (c ∷ flags) b new (suc i) e = flag-end flags b new i (omega (arith, e))

module _ (nodes : List Node) where
  there : (u : ℕ) → 1 ≤ living (slice_get nodes u) → u < length nodes
  there u = go nodes u
    where
      go : (xs : List Node) (u : ℕ) → 1 ≤ living (slice_get xs u) → u < length xs
      go [] u h = absurd (omega (arith, h))
      go (x ∷ xs) zero h = omega arith
      go (x ∷ xs) (suc u) h = omega (arith, go xs u h)

  -- what stands in a tree is there
  pub stands_there : (n i : ℕ) (k : List Frame) (t : Tree) → Stands nodes n i k t → (u : ℕ) → 1 ≤ around u k + count u t → u < length nodes
  stands_there n i k t s u a = there u (omega (arith, a, count-plug u k t, s.once u))

module _ (code : ℕ → Term) (nodes nodes' : List Node) (halts : List Bool) (flags flags' : List Bool) (i : ℕ) (t t' : Tree) where
  around_extends : (mid : List Bool) (n : ℕ) (k : List Frame) (b : Bool) → Stands nodes n i k t → length flags ≡ length nodes → Extends flags mid → FlaggedAround halts flags k b → FlaggedAround halts mid k b
  around_extends mid n k b s len more a =
      around_flags_kept halts flags mid k b (λ u c. more u (omega (arith, len, stands_there nodes n i k t s u (omega (arith, c))))) a

  its_place : (n : ℕ) (k : List Frame) → Stands nodes n i k t → length flags ≡ length nodes → i < length flags
  its_place n k s len = omega (arith, len, stands_there nodes n i k t s i (omega (arith, itself t, ap (λ z. count z t) s.there)))

  -- a part that keeps its flag
  pub reflag : Extends flags flags' → (length flags ≡ length nodes → length flags' ≡ length nodes') → (i < length flags → HasFlags code nodes halts flags t → Flagged halts flags' t') → Reflags code nodes halts flags nodes' halts flags' i t t'
  reflag more len inner n m k s s' h =
      let o = flagged-out halts flags k t h.each in
      let lt = its_place n k s h.len in
      record {
        are_halts = h.are_halts;
        len = len h.len;
        each =
            flagged-in halts flags' k t'
            (subst (FlaggedAround halts flags' k) (ap (flag flags) s.there ∙ sym (more i lt) ∙ ap (flag flags') (sym s'.there)) (around_extends flags' n k (flag flags (place t)) s h.len more o.0))
            (inner lt (record { are_halts = h.are_halts; len = h.len; each = o.1 }));
      }

  -- a part that hadn't halted
  pub reflag_settled : (mid : List Bool) (b : Bool) → Extends flags mid → (length flags ≡ length nodes → length flags' ≡ length nodes') → (i < length flags → HasFlags code nodes halts flags t → (flag flags i ≡ false) × Flagged halts (slice_set mid i b) t') → Settles nodes' mid i b flags' → Reflags code nodes halts flags nodes' halts flags' i t t'
  reflag_settled mid b more len inner settles n m k s s' h =
      let o = flagged-out halts flags k t h.each in
      let lt = its_place n k s h.len in
      let w = inner lt (record { are_halts = h.are_halts; len = h.len; each = o.1 }) in
      record {
        are_halts = h.are_halts;
        len = len h.len;
        each =
            settles halts m k t' s'
            (around_extends mid n k false s h.len more (subst (FlaggedAround halts flags k) (ap (flag flags) s.there ∙ w.0) o.0))
            w.1
            (more i lt ∙ w.0);
      }

pub flag-set_at : (flags : List Bool) (i : ℕ) (b : Bool) → i < length flags → flag (slice_set flags i b) i ≡ b
flag-set_at [] i b lt = absurd (omega (arith, lt))
flag-set_at (c ∷ flags) zero b lt = refl
flag-set_at (c ∷ flags) (suc i) b lt = flag-set_at flags i b (omega (arith, lt))

-- a node without parts
module _ (code : ℕ → Term) (nodes nodes' : List Node) (halts flags halts' flags' : List Bool) (i : ℕ) (k : Tip) (same_halts : halts' ≡ halts) where
  -- it becomes another with its flag
  pub reflag_leaf : (l : Tip) → flags' ≡ flags → length nodes' ≡ length nodes → (AreHalts code halts → tip_flag halts k ≡ tip_flag halts l) → Reflags code nodes halts flags nodes' halts' flags' i (leaf i k) (leaf i l)
  reflag_leaf l same len e =
      subst (λ z. Reflags code nodes halts flags nodes' z flags' i (leaf i k) (leaf i l)) (sym same_halts)
      (subst (λ z. Reflags code nodes halts flags nodes' halts z i (leaf i k) (leaf i l)) (sym same)
      (reflag code nodes nodes' halts flags flags i (leaf i k) (leaf i l) (λ u lt. refl) (λ h. h ∙ sym len) (λ lt h. h.each ∙ e h.are_halts)))

  -- it hadn't halted, and becomes another
  pub reflag_leaf_settled : (l : Tip) (b : Bool) → length flags' ≡ length flags → length nodes' ≡ length nodes → (AreHalts code halts → tip_flag halts k ≡ false) → b ≡ tip_flag halts l → Settles nodes' flags i b flags' → Reflags code nodes halts flags nodes' halts' flags' i (leaf i k) (leaf i l)
  reflag_leaf_settled l b same len off is settles =
      subst (λ z. Reflags code nodes halts flags nodes' z flags' i (leaf i k) (leaf i l)) (sym same_halts)
      (reflag_settled code nodes nodes' halts flags flags' i (leaf i k) (leaf i l) flags b (λ u lt. refl) (λ h. same ∙ h ∙ sym len)
      (λ lt h. (h.each ∙ off h.are_halts, flag-set_at flags i b lt ∙ is)) settles)

  -- one node comes below it
  pub reflag_one : (d : Single) (n : ℕ) (l : Tip) (b : Bool) → flags' ≡ flags ++ b ∷ [] → n ≡ length nodes → length nodes' ≡ suc n → (AreHalts code halts → tip_flag halts k ≡ one_flag d b) → b ≡ tip_flag halts l → Reflags code nodes halts flags nodes' halts' flags' i (leaf i k) (one i d (leaf n l))
  reflag_one d n l b same is_n len e is =
      subst (λ z. Reflags code nodes halts flags nodes' z flags' i (leaf i k) (one i d (leaf n l))) (sym same_halts)
      (subst (λ z. Reflags code nodes halts flags nodes' halts z i (leaf i k) (one i d (leaf n l))) (sym same)
      (reflag code nodes nodes' halts flags (flags ++ b ∷ []) i (leaf i k) (one i d (leaf n l)) (extends-append flags (b ∷ []))
      (λ h. omega (arith, h, is_n, len, length-append flags (b ∷ [])))
      (λ lt h.
      let w : flag (flags ++ b ∷ []) n ≡ b = flag-end flags b [] n (is_n ∙ sym h.len) in
      (extends-append flags (b ∷ []) i lt ∙ h.each ∙ e h.are_halts ∙ ap (one_flag d) (sym w), w ∙ is))))

  -- two nodes come below it
  abbrev pub two_more : Bool → Bool → List Bool
  two_more b c = (flags ++ b ∷ []) ++ c ∷ []

  more_two : (b c : Bool) → Extends flags (two_more b c)
  more_two b c u lt = extends-append (flags ++ b ∷ []) (c ∷ []) u (omega (arith, lt, length-append flags (b ∷ []))) ∙ extends-append flags (b ∷ []) u lt

  first_is : (b c : Bool) (n : ℕ) → n ≡ length flags → flag (two_more b c) n ≡ b
  first_is b c n e = extends-append (flags ++ b ∷ []) (c ∷ []) n (omega (arith, e, length-append flags (b ∷ []))) ∙ flag-end flags b [] n e

  second_is : (b c : Bool) (n : ℕ) → n ≡ length flags → flag (two_more b c) (n + 1) ≡ c
  second_is b c n e = flag-end (flags ++ b ∷ []) c [] (n + 1) (omega (arith, e, length-append flags (b ∷ [])))

  two_len : (b c : Bool) (n : ℕ) → length flags ≡ n → length (two_more b c) ≡ suc (suc n)
  two_len b c n e = omega (arith, e, length-append flags (b ∷ []), length-append (flags ++ b ∷ []) (c ∷ []))

  pub reflag_two : (d : Double) (n : ℕ) (l m : Tip) (b c : Bool) → flags' ≡ two_more b c → n ≡ length nodes → length nodes' ≡ suc (suc n) → (AreHalts code halts → tip_flag halts k ≡ (b && c)) → b ≡ tip_flag halts l → c ≡ tip_flag halts m → Reflags code nodes halts flags nodes' halts' flags' i (leaf i k) (two i d (leaf n l) (leaf (n + 1) m))
  reflag_two d n l m b c same is_n len e is is' =
      let t' = two i d (leaf n l) (leaf (n + 1) m) in
      subst (λ z. Reflags code nodes halts flags nodes' z flags' i (leaf i k) t') (sym same_halts)
      (subst (λ z. Reflags code nodes halts flags nodes' halts z i (leaf i k) t') (sym same)
      (reflag code nodes nodes' halts flags (two_more b c) i (leaf i k) t' (more_two b c)
      (λ h. two_len b c n (h ∙ sym is_n) ∙ sym len)
      (λ lt h.
      let v : flag (two_more b c) n ≡ b = first_is b c n (is_n ∙ sym h.len) in
      let w : flag (two_more b c) (n + 1) ≡ c = second_is b c n (is_n ∙ sym h.len) in
      (more_two b c i lt ∙ h.each ∙ e h.are_halts ∙ (λ j. sym v j && sym w j), v ∙ is, w ∙ is'))))

  pub reflag_two_settled : (d : Double) (n : ℕ) (l m : Tip) (b c : Bool) → length flags' ≡ length (two_more b c) → n ≡ length nodes → length nodes' ≡ suc (suc n) → (AreHalts code halts → tip_flag halts k ≡ false) → b ≡ tip_flag halts l → c ≡ tip_flag halts m → Settles nodes' (two_more b c) i (b && c) flags' → Reflags code nodes halts flags nodes' halts' flags' i (leaf i k) (two i d (leaf n l) (leaf (n + 1) m))
  reflag_two_settled d n l m b c same is_n len off is is' settles =
      let t' = two i d (leaf n l) (leaf (n + 1) m) in
      let mid = two_more b c in
      subst (λ z. Reflags code nodes halts flags nodes' z flags' i (leaf i k) t') (sym same_halts)
      (reflag_settled code nodes nodes' halts flags flags' i (leaf i k) t' mid (b && c) (more_two b c)
      (λ h. same ∙ two_len b c n (h ∙ sym is_n) ∙ sym len)
      (λ lt h.
      let e : n ≡ length flags = is_n ∙ sym h.len in
      let v : flag (slice_set mid i (b && c)) n ≡ b = flag-set_other mid i n (b && c) (λ z. omega (arith, z, lt, e)) ∙ first_is b c n e in
      let w : flag (slice_set mid i (b && c)) (n + 1) ≡ c = flag-set_other mid i (n + 1) (b && c) (λ z. omega (arith, z, lt, e)) ∙ second_is b c n e in
      let x : flag (slice_set mid i (b && c)) i ≡ (b && c) = flag-set_at mid i (b && c) (omega (arith, lt, two_len b c (length flags) refl)) in
      (h.each ∙ off h.are_halts, (x ∙ (λ j. sym v j && sym w j), v ∙ is, w ∙ is')))
      settles)

-- what is around a hole after a publication from it: each otherwise up to the taker is left
abbrev pub raise : List Frame → List Frame
raise [] = []
raise (on_one i (Feeds x g e) ∷ k) = on_one i (Feeds x g e) ∷ k
raise (on_one i (Entered n g e) ∷ k) = on_one i Passed ∷ raise k
raise (on_one i Passed ∷ k) = on_one i Passed ∷ raise k
raise (on_left i d u ∷ k) = on_left i d u ∷ raise k
raise (on_right i Both u ∷ k) = on_right i Both u ∷ raise k
raise (on_right i (Side c) u ∷ k) = on_right i (Side c) u ∷ k

pub plug-raise : (k : List Frame) (t : Tree) → plug (raise k) t ≡ plug (rest k) (risen k t)
plug-raise [] t = refl
plug-raise (on_one i (Feeds x g e) ∷ k) t = refl
plug-raise (on_one i (Entered n g e) ∷ k) t = plug-raise k (one i Passed t)
plug-raise (on_one i Passed ∷ k) t = plug-raise k (one i Passed t)
plug-raise (on_left i d u ∷ k) t = plug-raise k (two i d t u)
plug-raise (on_right i Both u ∷ k) t = plug-raise k (two i Both u t)
plug-raise (on_right i (Side c) u ∷ k) t = refl

and_false : (b : Bool) → (b && false) ≡ false
and_false true = refl
and_false false = refl

module _ (halts flags : List Bool) where
  raised : (b : Bool) (k l : List Frame) → b ≡ false → (FlaggedAround halts flags k false → FlaggedAround halts flags l false) → FlaggedAround halts flags k b → FlaggedAround halts flags l b
  raised b k l e f h = subst (FlaggedAround halts flags l) (sym e) (f (subst (FlaggedAround halts flags k) e h))

  -- a part that hadn't halted leaves no flag above it
  pub around-raise : (k : List Frame) → FlaggedAround halts flags k false → FlaggedAround halts flags (raise k) false
  around-raise [] h = tt
  around-raise (on_one i (Feeds x g e) ∷ k) h = h
  around-raise (on_one i (Entered n g e) ∷ k) h = (h.0, raised (flag flags i) k (raise k) h.0 (around-raise k) h.1)
  around-raise (on_one i Passed ∷ k) h = (h.0, raised (flag flags i) k (raise k) h.0 (around-raise k) h.1)
  around-raise (on_left i d u ∷ k) h = (h.0, h.1, raised (flag flags i) k (raise k) h.0 (around-raise k) h.2)
  around-raise (on_right i Both u ∷ k) h = (h.0, h.1, raised (flag flags i) k (raise k) (h.0 ∙ and_false (flag flags (place u))) (around-raise k) h.2)
  around-raise (on_right i (Side c) u ∷ k) h = h

-- a part that hadn't halted publishes and ends
pub risen_flags : (code : ℕ → Term) (nodes nodes' : List Node) (halts flags halts' flags' : List Bool) (n i : ℕ) (k : List Frame) (t t' : Tree) → Stands nodes n i k t → HasFlags code nodes halts flags (plug k t) → flag flags i ≡ false
    → place t' ≡ i → Holds nodes' n 0 (plug (rest k) (risen k t')) → StandOnce nodes' (plug (rest k) (risen k t')) → place (plug (rest k) (risen k t')) ≡ 0
    → halts' ≡ halts → length nodes' ≡ length nodes → length flags' ≡ length flags → (b : Bool) → Flagged halts (slice_set flags i b) t' → Settles nodes' flags i b flags' → HasFlags code nodes' halts' flags' (plug (rest k) (risen k t'))
risen_flags code nodes nodes' halts flags halts' flags' n i k t t' s h off there holds once root same len flags_len b inner settles =
    let o = flagged-out halts flags k t h.each in
    let e = plug-raise k t' in
    let s' : Stands nodes' n i (raise k) t' =
    record { holds = subst (Holds nodes' n 0) (sym e) holds; once = subst (StandOnce nodes') (sym e) once; there = there; root = ap place e ∙ root } in
    let a = around-raise halts flags k (subst (FlaggedAround halts flags k) (ap (flag flags) s.there ∙ off) o.0) in
    record {
      are_halts = subst (AreHalts code) (sym same) h.are_halts;
      len = flags_len ∙ h.len ∙ sym len;
      each = subst (λ z. Flagged z flags' (plug (rest k) (risen k t'))) (sym same) (subst (Flagged halts flags') e (settles halts n (raise k) t' s' a inner off));
    }

-- what is between a hole and the taker after a publication
abbrev pub passed : List Frame → List Frame
passed [] = []
passed (on_one i (Feeds x g e) ∷ k) = []
passed (on_one i (Entered n g e) ∷ k) = on_one i Passed ∷ passed k
passed (on_one i Passed ∷ k) = on_one i Passed ∷ passed k
passed (on_left i d u ∷ k) = on_left i d u ∷ passed k
passed (on_right i Both u ∷ k) = on_right i Both u ∷ passed k
passed (on_right i (Side c) u ∷ k) = []

pub plug-passed : (k r : List Frame) (t : Tree) → plug (passed k ++ r) t ≡ plug r (risen k t)
plug-passed [] r t = refl
plug-passed (on_one i (Feeds x g e) ∷ k) r t = refl
plug-passed (on_one i (Entered n g e) ∷ k) r t = plug-passed k r (one i Passed t)
plug-passed (on_one i Passed ∷ k) r t = plug-passed k r (one i Passed t)
plug-passed (on_left i d u ∷ k) r t = plug-passed k r (two i d t u)
plug-passed (on_right i Both u ∷ k) r t = plug-passed k r (two i Both u t)
plug-passed (on_right i (Side c) u ∷ k) r t = refl

module _ (halts flags : List Bool) (r : List Frame) where
  -- the same where what is around the taker changes too
  pub around-passed : (k : List Frame) → FlaggedAround halts flags k false → (FlaggedAround halts flags (rest k) false → FlaggedAround halts flags r false) → FlaggedAround halts flags (passed k ++ r) false
  around-passed [] h f = f h
  around-passed (on_one i (Feeds x g e) ∷ k) h f = f h
  around-passed (on_one i (Entered n g e) ∷ k) h f = (h.0, raised halts flags (flag flags i) k (passed k ++ r) h.0 (λ w. around-passed k w f) h.1)
  around-passed (on_one i Passed ∷ k) h f = (h.0, raised halts flags (flag flags i) k (passed k ++ r) h.0 (λ w. around-passed k w f) h.1)
  around-passed (on_left i d u ∷ k) h f = (h.0, h.1, raised halts flags (flag flags i) k (passed k ++ r) h.0 (λ w. around-passed k w f) h.2)
  around-passed (on_right i Both u ∷ k) h f = (h.0, h.1, raised halts flags (flag flags i) k (passed k ++ r) (h.0 ∙ and_false (flag flags (place u))) (λ w. around-passed k w f) h.2)
  around-passed (on_right i (Side c) u ∷ k) h f = f h

-- a `>x>` takes the publication of a part that hadn't halted, and its right side starts
pub sent_flags : (code : ℕ → Term) (nodes nodes' : List Node) (halts flags halts' flags' : List Bool) (n n' i : ℕ) (k : List Frame) (t t' : Tree) → Stands nodes n i k t → HasFlags code nodes halts flags (plug k t) → flag flags i ≡ false
    → (fed x g e m : ℕ) (f : Frame) (o : List Frame) (l : Tip) (b : Bool) → rest k ≡ on_one fed (Feeds x g e) ∷ f ∷ o → m ≡ length nodes → b ≡ tip_flag halts l → place t' ≡ i
    → Holds nodes' n' 0 (plug (f ∷ o) (two m Both (one fed (Feeds x g e) (risen k t')) (leaf (m + 1) l))) → StandOnce nodes' (plug (f ∷ o) (two m Both (one fed (Feeds x g e) (risen k t')) (leaf (m + 1) l))) → place (plug (f ∷ o) (two m Both (one fed (Feeds x g e) (risen k t')) (leaf (m + 1) l))) ≡ 0
    → halts' ≡ halts → length nodes' ≡ suc (suc m) → length flags' ≡ length ((flags ++ false ∷ []) ++ b ∷ []) → Flagged halts (slice_set ((flags ++ false ∷ []) ++ b ∷ []) i true) t' → Settles nodes' ((flags ++ false ∷ []) ++ b ∷ []) i true flags'
    → HasFlags code nodes' halts' flags' (plug (f ∷ o) (two m Both (one fed (Feeds x g e) (risen k t')) (leaf (m + 1) l)))
sent_flags code nodes nodes' halts flags halts' flags' n n' i k t t' s h off fed x g e m f o l b is is_m is_b there holds once root same len flags_len inner settles =
    let mid = (flags ++ false ∷ []) ++ b ∷ [] in
    let is_n : m ≡ length flags = is_m ∙ sym h.len in
    let more : Extends flags mid = λ u lt. extends-append (flags ++ false ∷ []) (b ∷ []) u (omega (arith, lt, length-append flags (false ∷ []))) ∙ extends-append flags (false ∷ []) u lt in
    let at_m : flag mid m ≡ false = extends-append (flags ++ false ∷ []) (b ∷ []) m (omega (arith, is_n, length-append flags (false ∷ []))) ∙ flag-end flags false [] m is_n in
    let at_new : flag mid (m + 1) ≡ b = flag-end (flags ++ false ∷ []) b [] (m + 1) (omega (arith, is_n, length-append flags (false ∷ []))) in
    let r = on_one fed (Feeds x g e) ∷ on_left m Both (leaf (m + 1) l) ∷ f ∷ o in
    let q = flagged-out halts flags k t h.each in
    let a : FlaggedAround halts mid k false =
    around_flags_kept halts flags mid k false (λ u c. more u (omega (arith, h.len, stands_there nodes n i k t s u (omega (arith, c))))) (subst (FlaggedAround halts flags k) (ap (flag flags) s.there ∙ off) q.0) in
    let turn : FlaggedAround halts mid (rest k) false → FlaggedAround halts mid r false =
    λ w. let v : FlaggedAround halts mid (on_one fed (Feeds x g e) ∷ f ∷ o) false = subst (λ z. FlaggedAround halts mid z false) is w in
    (v.0, (at_m ∙ ap (λ z. z && flag mid (m + 1)) (sym v.0), at_new ∙ is_b, subst (FlaggedAround halts mid (f ∷ o)) (v.0 ∙ sym at_m) v.1)) in
    let whole = plug-passed k r t' in
    let s' : Stands nodes' n' i (passed k ++ r) t' =
    record { holds = subst (Holds nodes' n' 0) (sym whole) holds; once = subst (StandOnce nodes') (sym whole) once; there = there; root = ap place whole ∙ root } in
    let lt : i < length flags = omega (arith, h.len, stands_there nodes n i k t s i (omega (arith, itself t, ap (λ z. count z t) s.there))) in
    let each = settles halts n' (passed k ++ r) t' s' (around-passed halts mid r k a turn) inner (more i lt ∙ off) in
    record {
      are_halts = subst (AreHalts code) (sym same) h.are_halts;
      len = omega (arith, flags_len, len, is_n, length-append flags (false ∷ []), length-append (flags ++ false ∷ []) (b ∷ []));
      each = subst (λ z. Flagged z flags' (plug r (risen k t'))) (sym same) (subst (Flagged halts flags') whole each);
    }
