-- Each kind of change of the records keeps what pending calls are told: the calls' part of Turns, Crosses, Resumes, Exchanges and Drops.
use Rattle.std.proofs.Common.{◌≡◌, ℕ, ◌+◌, List, [], ◌∷◌, ◌++◌, ap, arith, map, true}
use Rattle.orc_rules.specs.declared.value.Value.{Value}
use Rattle.orc_rules.specs.declared.entry.Entry.{Entry}
use Rattle.orc_rules.specs.declared.entry.Entry.TheVariants as entry
use Rattle.orc_rules.specs.Nodes.{Listing, code}
use Rattle.orc_rules.specs.Sites.{Site, find, is_scripted}
use Rattle.orc_rules.specs.Timed.{nth_of}
use Rattle.orc_env.specs.declared.names.Bound.{Bound}
use Rattle.orc_env.specs.declared.names.Scope.{Scope}
use Rattle.orc_indexes.specs.Same.{weight}
use Rattle.orc_ledger_spec.specs.Records.{Records, Lawful}
use Rattle.orc_ledger_spec.specs.Told.{AreTold}
use Rattle.orc_ledger_spec.specs.Calls.{Turns, Crosses, Resumes, Exchanges, Drops, call_goes}
use Rattle.orc_tables.specs.declared.records.Token.{Token}
use Rattle.orc_tables.specs.declared.records.Call.{Call}
use Rattle.orc_tables.specs.declared.records.Step.{Step}
use Rattle.orc_tables.specs.declared.records.Group.{Group}
use Rattle.orc_indexes.proofs.Weight.{weight-but}
use Rattle.orc_ledger_spec.proofs.Keeping.{IsNoCall, cancels_none, told-kept, told-call}

module _ (l : Listing) (sites : List Site) (s s' : Records) (L : Lawful l sites s) (L' : Lawful l sites s') (told : AreTold sites L.place.calls s.calls) where
  pub turns-told : (t : Token) (births : List Token) (ss : List Scope) (ps : List Step) (gs : List Group) (cs : List Bound) (e : Entry) → IsNoCall e → Turns s s' t births ss ps gs cs e → AreTold sites L'.place.calls s'.calls
  turns-told t births ss ps gs cs e none T = told-kept l sites s s' L L' (e ∷ []) T.journal (none, tt) (λ w. omega (arith, ap (weight w) T.calls)) told

  pub crosses-told : (t : Token) (births : List Token) (ss : List Scope) (ns : List ℕ) (e : Entry) → IsNoCall e → Crosses s s' t births ss ns e → AreTold sites L'.place.calls s'.calls
  crosses-told t births ss ns e none T = told-kept l sites s s' L L' (e ∷ []) T.journal (none, tt) (λ w. omega (arith, ap (weight w) T.calls)) told

  pub resumes-told : (g : Group) (n node scope : ℕ) → Resumes s s' g n node scope → AreTold sites L'.place.calls s'.calls
  resumes-told g n node scope T = told-kept l sites s s' L L' (entry.Right n s.next_mark ∷ []) T.journal (tt, tt) (λ w. omega (arith, ap (weight w) T.calls)) told

  -- a return: its call goes
  pub returns-told : (ts ts' : List Token) (c : Call) (e : Entry) → IsNoCall e → Exchanges s s' ts ts' (c ∷ []) [] 0 e → AreTold sites L'.place.calls s'.calls
  returns-told ts ts' c e none T = told-kept l sites s s' L L' (e ∷ []) T.journal (none, tt) (λ w. omega (arith, T.calls w)) told

  -- a bind, with its cancels; and a lost cell, with none
  pub drops-told : (c : ℕ) (u : Bound) (e : Entry) (ks : List ℕ) → IsNoCall e → Drops (code l) c u s s' → s'.journal ≡ s.journal ++ e ∷ map entry.Cancel ks → AreTold sites L'.place.calls s'.calls
  drops-told c u e ks none D journal =
      told-kept l sites s s' L L' (e ∷ map entry.Cancel ks) journal (none, cancels_none ks)
      (λ w. omega (arith, D.calls w, weight-but (call_goes (code l) c s) w s.calls)) told

  pub tick-told : (t : ℕ) → s'.journal ≡ s.journal ++ entry.Tick t ∷ [] → s'.calls ≡ s.calls → AreTold sites L'.place.calls s'.calls
  tick-told t journal calls = told-kept l sites s s' L L' (entry.Tick t ∷ []) journal (tt, tt) (λ w. omega (arith, ap (weight w) calls)) told

  -- a call: its record has the table's word on it
  pub calls-told : (t : Token) (m : ℕ) (args : List Value) (c : Call) → c.number ≡ s.made + 1 → c.found ≡ find sites m args (nth_of m args L.place.calls) → (is_scripted sites m ≡ true → c.nth ≡ nth_of m args L.place.calls) → c.made_at ≡ s.now
      → Exchanges s s' (t ∷ []) [] [] (c ∷ []) 1 (entry.Call t.serial c.number m args) → AreTold sites L'.place.calls s'.calls
  calls-told t m args c number found which at T = told-call l sites s s' L L' t.serial m args c T.journal number found which at (λ w. omega (arith, T.calls w)) told
