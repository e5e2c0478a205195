-- The verdict on a journal, entry by entry.
use Rattle.std.proofs.Common.{◌≡◌, ◌≢◌, ◌<◌, ◌≤◌, ◌+◌, ℕ, zero, suc, List, [], ◌∷◌, ◌++◌, length, map, take, Bool, Some, None, refl, sym, ap, subst, inl, inr, arith, append_assoc, length-append}
use Rattle.std.specs.Prelude.{slice_get}
use Rattle.orc_rules.specs.declared.entry.Entry.{Entry}
use Rattle.orc_rules.specs.declared.entry.RuleFault.{RuleFault}
use Rattle.orc_rules.specs.declared.entry.RuleFault.TheVariants.{Cancel, Mark, Form, Number, Answer, Time, Halted, Deep, Memory}
use Rattle.orc_rules.specs.Term.{Definition}
use Rattle.orc_rules.specs.Marked.{erase}
use Rattle.orc_rules.specs.Nodes.{Listing, Routine, code, source, definition_of}
use Rattle.orc_rules.specs.Sites.{Table}
use Rattle.orc_rules.specs.Timed.{Context}
use Rattle.orc_rules.specs.Journal.{Place, Journal, begin}
use Rattle.orc_rules.specs.declared.limits.TheConstants.{MOST_LEVELS}
use Rattle.orc_rules.specs.Refusal.{Meets, MeetsAndLeads, IsTaken, IsRefused, depth}
use Rattle.orc_rules.specs.Verdict.{AreTaken, FaultFrom}
use Rattle.orc_checker.specs.Checker.{State, Spells, Begins, Applies, context}
use Rattle.orc_verdict.specs.Deepening.{deepening}
use Rattle.orc_verdict.specs.Heights.{AreHeights, AreAtMost}
use Rattle.orc_verdict.specs.Reasons.{RefusedFor}
use Rattle.orc_journal.specs.declared.journal.Version.{Version}
use Rattle.orc_verdict.specs.Lines.{IsRefusedAt}
use Rattle.orc_verdict.specs.Verdicts.{records_cancels, Takes, IsStopped, Stops, IsCutFrom}
use Rattle.orc_verdict.proofs.Deepening.{deepens_at_most}

are_journal : (x : Context) (p : Place) (es : List Entry) (q : Place) → AreTaken x p es q → Journal x p es q
are_journal x p [] q t = t
are_journal x p (e ∷ es) q t = (t.0, t.1.0, are_journal x t.0 es q t.2)

one_more : (x : Context) (p : Place) (es : List Entry) (e : Entry) (q r : Place) → AreTaken x p es q → IsTaken x q e r → AreTaken x p (es ++ e ∷ []) r
one_more x p [] e q r t one = (r, subst (λ z. IsTaken x z e r) (sym t) one, refl)
one_more x p (d ∷ es) e q r t one = (t.0, t.1, one_more x t.0 es e q r t.2 one)

-- the entries are taken, and the state spells the place to which they lead, of at most so many levels
abbrev pub AreDone : Listing → Table → Bool → List Entry → State → ℕ → Type 0
AreDone l t cancels es s levels = (q : Place) × AreTaken (context l t cancels) (begin (source l)) es q × Spells (context l t cancels) (code l) s q × (depth (erase q.marked) ≤ levels)

module _ (l : Listing) (t : Table) (cancels : Bool) where
  pub none_done : (s : State) (levels : ℕ) → Begins l cancels s (begin (source l)) → levels ≡ depth (source l) → AreDone l t cancels [] s levels
  none_done s levels b is = (begin (source l), refl, b (context l t cancels) refl, omega (arith, is))

  pub one_done : (es : List Entry) (e : Entry) (s : State) (levels : ℕ) (s' : State) (levels' : ℕ) → AreDone l t cancels es s levels → Takes l t e s levels s' levels' → AreDone l t cancels (es ++ e ∷ []) s' levels'
  one_done es e s levels s' levels' d takes =
      let x = context l t cancels in
      let w = takes cancels d.0 (es, are_journal x (begin (source l)) es d.0 d.1) d.2 d.3 in
      (w.0, one_more x (begin (source l)) es e d.0 w.0 d.1 w.1, w.2, w.3)

  pub stopped_there : (es : List Entry) (e : Entry) (s : State) (levels : ℕ) (why : RuleFault) (d : AreDone l t cancels es s levels) → Stops l t e s why → IsStopped (context l t cancels) d.0 e why
  stopped_there es e s levels why d stops = stops cancels d.0 (es, are_journal (context l t cancels) (begin (source l)) es d.0 d.1) d.2

bodies_from : (l : Listing) (levels : List ℕ) (most : ℕ) → AreHeights (code l) levels → AreAtMost levels most → (rs : List Routine) (k : ℕ) (d : Definition) → slice_get (map (definition_of l) rs) k ≡ Some d → depth d.body ≤ most
bodies_from l levels most are low [] k d h = cc h
bodies_from l levels most are low (r ∷ rs) zero d h =
    let same : definition_of l r ≡ d = cc h in
    omega (arith, ap (λ z. depth (Definition.body z)) same, are r.body, low r.body)
bodies_from l levels most are low (r ∷ rs) (suc k) d h = bodies_from l levels most are low rs k d h

module _ (l : Listing) (t : Table) (e : Entry) (s s' : State) (applies : Applies l t e s s') where
  pub takes_within : (heights : List ℕ) (most levels levels' : ℕ) → AreHeights (code l) heights → AreAtMost heights most → levels' ≡ levels + deepening most e → levels' ≤ MOST_LEVELS → Takes l t e s levels s' levels'
  takes_within heights most levels levels' are low is fits cancels p reached sp deep =
      let a = applies cancels p reached sp in
      let more = deepens_at_most (context l t cancels) p e a.0 most (bodies_from l heights most are low l.routines) a.1 in
      let less : depth (erase (Place.marked a.0)) ≤ levels' = omega (arith, more, is, deep) in
      (a.0, (a.1, omega (arith, less, fits)), a.2, less)

  -- the state after the entry spells places of this depth
  abbrev pub IsExact : ℕ → Type 0
  IsExact levels = (x : Context) (p : Place) → Spells x (code l) s' p → levels ≡ depth (erase p.marked)

  pub takes_exactly : (levels levels' : ℕ) → IsExact levels' → levels' ≤ MOST_LEVELS → Takes l t e s levels s' levels'
  takes_exactly levels levels' exact fits cancels p reached sp deep =
      let a = applies cancels p reached sp in
      let is = exact (context l t cancels) a.0 a.2 in
      (a.0, (a.1, omega (arith, is, fits)), a.2, omega (arith, is))

  pub takes_bounded : (levels levels' : ℕ) → ((x : Context) (p : Place) → Spells x (code l) s' p → depth (erase p.marked) ≤ levels') → levels' ≤ MOST_LEVELS → Takes l t e s levels s' levels'
  takes_bounded levels levels' bounded fits cancels p reached sp deep =
      let a = applies cancels p reached sp in
      let less = bounded (context l t cancels) a.0 a.2 in
      (a.0, (a.1, omega (arith, less, fits)), a.2, less)

  pub stops_deep : (levels : ℕ) → IsExact levels → MOST_LEVELS < levels → Stops l t e s Deep
  stops_deep levels exact over cancels p reached sp =
      let a = applies cancels p reached sp in
      (a.0, a.1, omega (arith, exact (context l t cancels) a.0 a.2, over))

  pub stops_there : MeetsAndLeads → Stops l t e s Memory
  stops_there law cancels p reached sp = let a = applies cancels p reached sp in (law (context l t cancels) p e).1 a.0 a.1

pub stops_refused : (l : Listing) (t : Table) (e : Entry) (s : State) (why : RuleFault) → MeetsAndLeads → RefusedFor l t e s why → Stops l t e s why
stops_refused l t e s why law refused cancels p reached sp = go why (refused cancels p reached sp)
  where
    go : (why : RuleFault) → IsRefused (context l t cancels) p e why → IsStopped (context l t cancels) p e why
    go Cancel h = h
    go Mark h = h
    go Form h = h
    go Number h = h
    go Answer h = h
    go Time h = h
    go Halted h = h
    go Deep h = h
    go Memory h = (law (context l t cancels) p e).1 h.0 h.1.0

pub refused_of : (x : Context) (p : Place) (e : Entry) (why : RuleFault) → why ≢ Memory → IsStopped x p e why → IsRefused x p e why
refused_of x p e Cancel off h = h
refused_of x p e Mark off h = h
refused_of x p e Form off h = h
refused_of x p e Number off h = h
refused_of x p e Answer off h = h
refused_of x p e Time off h = h
refused_of x p e Halted off h = h
refused_of x p e Deep off h = h
refused_of x p e Memory off h = absurd (off refl)

-- the first entry that is refused
pub fault_from : (x : Context) (p : Place) (n : ℕ) (es : List Entry) (i : ℕ) (e : Entry) (q : Place) (why : RuleFault) (at : ℕ) → AreTaken x p (take i es) q → slice_get es i ≡ Some e → IsRefused x q e why → at ≡ n + i → FaultFrom x p n es at why
fault_from x p n [] i e q why at t there refused is = cc there
fault_from x p n (d ∷ es) zero e q why at t there refused is =
    let same : d ≡ e = cc there in
    inl (omega (arith, is), subst (λ z. IsRefused x z d why) (sym t) (subst (λ z. IsRefused x q z why) (sym same) refused))
fault_from x p n (d ∷ es) (suc i) e q why at t there refused is = inr (t.0, t.1, fault_from x t.0 (suc n) es i e q why at t.2 there refused (omega (arith, is)))

pub cut_from : (x : Context) (p : Place) (n : ℕ) (es : List Entry) (i : ℕ) (e : Entry) (q : Place) (at : ℕ) → AreTaken x p (take i es) q → slice_get es i ≡ Some e → ((r : RuleFault) → Meets x q e r) → at ≡ n + i → IsCutFrom x p n es at
cut_from x p n [] i e q at t there meets is = cc there
cut_from x p n (d ∷ es) zero e q at t there meets is =
    let same : d ≡ e = cc there in
    inl (omega (arith, is), subst (λ z. (r : RuleFault) → Meets x z d r) (sym t) (subst (λ z. (r : RuleFault) → Meets x q z r) (sym same) meets))
cut_from x p n (d ∷ es) (suc i) e q at t there meets is = inr (t.0, t.1, cut_from x t.0 (suc n) es i e q at t.2 there meets (omega (arith, is)))

-- a cancel that is due at the end
pub fault_end : (x : Context) (p : Place) (n : ℕ) (es : List Entry) (q : Place) (at : ℕ) → AreTaken x p es q → q.to_cancel ≢ [] → at ≡ n + length es → FaultFrom x p n es at Cancel
fault_end x p n [] q at t due is = (omega (arith, is), refl, subst (λ (z : Place). z.to_cancel ≢ []) (sym t) due)
fault_end x p n (e ∷ es) q at t due is = inr (t.0, t.1, fault_end x t.0 (suc n) es q at t.2 due (omega (arith, is)))

pub none_due : (ks : List ℕ) → slice_get ks 0 ≡ None → ks ≡ []
none_due [] h = refl
none_due (k ∷ ks) h = cc h

pub some_due : (ks : List ℕ) (k : ℕ) → slice_get ks 0 ≡ Some k → ks ≢ []
some_due [] k h e = cc h
some_due (j ∷ ks) k h e = cc e

pub take_one : {X : Type 0} (xs : List X) (i : ℕ) (x : X) → slice_get xs i ≡ Some x → take (suc i) xs ≡ take i xs ++ x ∷ []
take_one [] i x h = cc h
take_one (y ∷ xs) zero x h = let same : y ≡ x = cc h in ap (λ z. z ∷ []) same
take_one (y ∷ xs) (suc i) x h = ap (λ z. y ∷ z) (take_one xs i x h)

pub take_all : {X : Type 0} (xs : List X) (n : ℕ) → length xs ≤ n → take n xs ≡ xs
take_all [] zero le = refl
take_all [] (suc n) le = refl
take_all (x ∷ xs) zero le = absurd (omega (arith, le))
take_all (x ∷ xs) (suc n) le = ap (λ z. x ∷ z) (take_all xs n (omega (arith, le)))

-- ---- entries that are taken as they are read

front_of : {X : Type 0} (xs ys : List X) → take (length xs) (xs ++ ys) ≡ xs
front_of [] [] = refl
front_of [] (y ∷ ys) = refl
front_of (x ∷ xs) ys = ap (λ z. x ∷ z) (front_of xs ys)

next_of : {X : Type 0} (xs : List X) (x : X) (ys : List X) → slice_get (xs ++ x ∷ ys) (length xs) ≡ Some x
next_of [] x ys = refl
next_of (z ∷ xs) x ys = next_of xs x ys

-- the journal of a text is refused at the entry that was read last, whatever is left
pub refused_at : (l : Listing) (t : Table) (v : Version) (es : List Entry) (e : Entry) (more : List Entry) (s : State) (levels : ℕ) (at : ℕ) (why : RuleFault) → AreDone l t (records_cancels v) es s levels → Stops l t e s why → at ≡ length (es ++ e ∷ [])
    → IsRefusedAt l t v ((es ++ e ∷ []) ++ more) (record { at = at; why = why })
refused_at l t v es e more s levels at why done stops is =
    let x = context l t (records_cancels v) in
    let stopped = stopped_there l t (records_cancels v) es e s levels why done stops in
    let taken = subst (λ z. AreTaken x (begin (source l)) z done.0) (sym (front_of es (e ∷ more))) done.1 in
    let number : at ≡ 1 + length es = omega (arith, is, length-append es (e ∷ [])) in
    subst (λ z. IsRefusedAt l t v z (record { at = at; why = why })) (sym (append_assoc es (e ∷ []) more)) (
      λ firm. fault_from x (begin (source l)) 1 (es ++ e ∷ more) (length es) e done.0 why at taken (next_of es e more) (refused_of x done.0 e why firm stopped) number,
      λ memory. inr (cut_from x (begin (source l)) 1 (es ++ e ∷ more) (length es) e done.0 at taken (next_of es e more) (subst (IsStopped x done.0 e) memory stopped) number),
    )
