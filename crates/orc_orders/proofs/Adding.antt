-- Ways that are added one after another.
use Rattle.std.proofs.Common.{◌≡◌, ◌≤◌, ◌<◌, ◌+◌, ◌-◌, ◌++◌, ◌∷◌, ◌∙◌, ℕ, List, [], Ok, Err, MatchResult, arith, drop, length, min, slice_index_or, take, ap, refl, subst, sym}
use Rattle.std.specs.Prelude.{Result}
use Rattle.std.proofs.Math.Seq.{take-add}
use Rattle.std.proofs.lemmas.List.{append_assoc, append-nil, length-drop, length-take, take-append-drop, take_all, take_more}
use Rattle.std.specs.Global.{Vec}
use Rattle.orc_engine.specs.Ranges.{IsInRange}
use Rattle.orc_scheduler.specs.declared.fault.EngineFault.TheVariants as engine
use Rattle.orc_orders.proofs.Telling.{are_loaded, one_way_more}
use Rattle.orc_orders.specs.TrialFaults.{Breaks, IsFaultOfWay, IsTrialFault}
use Rattle.orc_orders.specs.Trials.{texts, Adds, Tells}
use Rattle.orc_orders.specs.Trying.{CameOf, IsJoined, IsToldOfWay}
use Rattle.orc_orders.specs.declared.trials.Trials.{Trials}
use Rattle.orc_orders.specs.declared.trials.TrialFault.{TrialFault}
use Rattle.orc_orders.specs.declared.trials.TrialFault.TheVariants as fault
use Rattle.orc_orders.specs.declared.trials.WayTold.{WayTold}
use Rattle.orc_orders.specs.declared.ways.CaseTold.{CaseTold}
use Rattle.orc_ways.specs.Values.{sites_of}

-- one of them
some : {X : Type 0} (xs : List X) (at : ℕ) → at < length xs → X
some [] at lt = absurd (omega (arith, lt))
some (x ∷ xs) at lt = x

texts_append : (xs ys : List (Vec ℕ)) → texts (xs ++ ys) ≡ texts xs ++ texts ys
texts_append [] ys = refl
texts_append (x ∷ xs) ys = ap (λ ts. x.items ∷ ts) (texts_append xs ys)

-- a fault of the ways of some scripts is one of those of more
earlier : (source : List ℕ) (xs ys : List (List ℕ)) (f : TrialFault) → IsTrialFault source xs f → IsTrialFault source (xs ++ ys) f
earlier source xs ys (fault.Engine f) is = is
earlier source xs ys (fault.Load f) is = record {
  front = is.front;
  script = is.script;
  back = is.back ++ ys;
  place = ap (λ ss. ss ++ ys) is.place ∙ append_assoc is.front (is.script ∷ is.back) ys;
  loaded = is.loaded;
  fault = is.fault;
}

module _ (t : Trials) where
  -- ---- some, and then others

  then_added : (xs ys : List (List ℕ)) (old now new : CaseTold) → Adds t xs old now → Adds t ys now new → Adds t (xs ++ ys) old new
  then_added xs ys old now new first second before told = subst (λ ss. Tells t ss new) (append_assoc before xs ys) (second (before ++ xs) (first before told))

  then_breaks : (xs ys : List (List ℕ)) (old now : CaseTold) (f : TrialFault) → Adds t xs old now → Breaks t ys now f → Breaks t (xs ++ ys) old f
  then_breaks xs ys old now f first second before told = subst (λ ss. IsTrialFault t.source.now ss f) (append_assoc before xs ys) (second (before ++ xs) (first before told))

  breaks_early : (xs ys : List (List ℕ)) (old : CaseTold) (f : TrialFault) → Breaks t xs old f → Breaks t (xs ++ ys) old f
  breaks_early xs ys old f first before told = subst (λ ss. IsTrialFault t.source.now ss f) (append_assoc before xs ys) (earlier t.source.now (before ++ xs) ys f (first before told))

  -- ---- one way

  single_added : (script : List ℕ) (way : ℕ) (now new : CaseTold) (w : WayTold) → IsToldOfWay t.source.now (sites_of t.sites.now) t.claims.now t.orders t.limit way script w → way ≡ now.ways → IsJoined now w new → Adds t (script ∷ []) now new
  single_added script way now new w is number joined before told = one_way_more t.source.now (sites_of t.sites.now) t.claims.now t.orders t.limit before script way now new w told is number joined

  single_breaks : (script : List ℕ) (now : CaseTold) (f : TrialFault) → IsFaultOfWay t.source.now script t.limit f → Breaks t (script ∷ []) now f
  single_breaks script now (fault.Engine f) is before told = is.1
  single_breaks script now (fault.Load f) is before told = record {
    front = before;
    script = script;
    back = [];
    place = refl;
    loaded = are_loaded t.source.now (sites_of t.sites.now) t.claims.now t.orders t.limit before now told;
    fault = is;
  }

  -- ---- the ways of scripts, up to a place

  module _ (scripts : List (Vec ℕ)) (old now : CaseTold) where
    next_text : (at : ℕ) (d : Vec ℕ) → at < length scripts → texts (take at scripts) ++ (slice_index_or scripts at d).items ∷ [] ≡ texts (take (at + 1) scripts)
    next_text at d lt = sym (ap texts (take_more scripts at d lt) ∙ texts_append (take at scripts) (slice_index_or scripts at d ∷ []))

    all_texts : (n : ℕ) → texts (take n scripts) ++ texts (drop n scripts) ≡ texts scripts
    all_texts n = sym (texts_append (take n scripts) (drop n scripts)) ∙ ap texts (take-append-drop n scripts)

    more_texts : (n m : ℕ) → texts (take n scripts) ++ texts (take (n + m - n) (drop n scripts)) ≡ texts (take (n + m) scripts)
    more_texts n m =
        let more : n + m - n ≡ m = omega arith in
        ap (λ k. texts (take n scripts) ++ texts (take k (drop n scripts))) more ∙ sym (ap texts (take-add n m scripts) ∙ texts_append (take n scripts) (take m (drop n scripts)))

    up_to : (n : ℕ) (f : TrialFault) → Breaks t (texts (take n scripts)) old f → Breaks t (texts scripts) old f
    up_to n f breaks = subst (λ ss. Breaks t ss old f) (all_texts n) (breaks_early (texts (take n scripts)) (texts (drop n scripts)) old f breaks)

    pub none_added : Adds t (texts (take 0 scripts)) old old
    none_added before told = subst (λ ss. Tells t ss old) (sym (append-nil before)) told

    pub all_added : (n : ℕ) → length scripts ≤ n → Adds t (texts (take n scripts)) old now → Adds t (texts scripts) old now
    all_added n le added = subst (λ xs. Adds t (texts xs) old now) (take_all n scripts le) added

    -- the next one, where this came of it
    pub one_added : (at way : ℕ) (new : CaseTold) (came : Result WayTold TrialFault) (w : WayTold) → at < length scripts → Adds t (texts (take at scripts)) old now → CameOf t scripts at way came → came ≡ Ok w → way ≡ now.ways → IsJoined now w new → Adds t (texts (take (at + 1) scripts)) old new
    one_added at way new came w lt added tried is number joined =
        let d = some scripts at lt in
        let script = (slice_index_or scripts at d).items in
        let told = subst (λ r. MatchResult r (IsToldOfWay t.source.now (sites_of t.sites.now) t.claims.now t.orders t.limit way script) (IsFaultOfWay t.source.now script t.limit)) is (tried d) in
        subst (λ ss. Adds t ss old new) (next_text at d lt) (then_added (texts (take at scripts)) (script ∷ []) old now new added (single_added script way now new w told number joined))

    pub one_breaks : (at way : ℕ) (came : Result WayTold TrialFault) (f : TrialFault) → at < length scripts → Adds t (texts (take at scripts)) old now → CameOf t scripts at way came → came ≡ Err f → Breaks t (texts scripts) old f
    one_breaks at way came f lt added tried is =
        let d = some scripts at lt in
        let script = (slice_index_or scripts at d).items in
        let fault = subst (λ r. MatchResult r (IsToldOfWay t.source.now (sites_of t.sites.now) t.claims.now t.orders t.limit way script) (IsFaultOfWay t.source.now script t.limit)) is (tried d) in
        up_to (at + 1) f (subst (λ ss. Breaks t ss old f) (next_text at d lt) (then_breaks (texts (take at scripts)) (script ∷ []) old now f added (single_breaks script now f fault)))

    -- the next ones
    pub more_added : (n m : ℕ) (new : CaseTold) → Adds t (texts (take n scripts)) old now → Adds t (texts (take (n + m - n) (drop n scripts))) now new → Adds t (texts (take (n + m) scripts)) old new
    more_added n m new first second = subst (λ ss. Adds t ss old new) (more_texts n m) (then_added (texts (take n scripts)) (texts (take (n + m - n) (drop n scripts))) old now new first second)

    pub more_break : (n m : ℕ) (f : TrialFault) → Adds t (texts (take n scripts)) old now → Breaks t (texts (take (n + m - n) (drop n scripts))) now f → Breaks t (texts scripts) old f
    more_break n m f first second = up_to (n + m) f (subst (λ ss. Breaks t ss old f) (more_texts n m) (then_breaks (texts (take n scripts)) (texts (take (n + m - n) (drop n scripts))) old now f first second))

-- the range is a fault of no run that is within it
pub in_range : (t : Trials) (scripts : List (Vec ℕ)) (at way : ℕ) (came : Result WayTold TrialFault) (f : TrialFault) → at < length scripts → CameOf t scripts at way came → came ≡ Err f → f ≡ fault.Engine engine.Range → IsInRange 1 t.limit → ⊥
in_range t scripts at way came f lt tried is range =
    let script = (slice_index_or scripts at (some scripts at lt)).items in
    (subst (λ r. MatchResult r (IsToldOfWay t.source.now (sites_of t.sites.now) t.claims.now t.orders t.limit way script) (IsFaultOfWay t.source.now script t.limit)) (is ∙ ap Err range) (tried (some scripts at lt))).0 refl

-- how many there are in a part
pub part_long : {X : Type 0} (xs : List X) (n m : ℕ) → n + m ≤ length xs → length (take (n + m - n) (drop n xs)) ≡ m
part_long xs n m le =
    let more : n + m - n ≡ m = omega arith in
    let rest : m ≤ length (drop n xs) = omega (arith, le, length-drop n xs) in
    let least : min m (length (drop n xs)) ≡ m = omega (arith, rest) in
    ap (λ k. length (take k (drop n xs))) more ∙ length-take m (drop n xs) ∙ least
