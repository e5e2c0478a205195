-- Telling entry by entry when a journal publishes what.
use Rattle.std.proofs.Common.{◌≡◌, ℕ, zero, suc, ◌+◌, List, [], ◌∷◌, ◌++◌, drop, Some, refl, sym, ap, ◌∙◌, append_assoc, arith}
use Rattle.std.specs.Prelude.{slice_get}
use Rattle.orc_rules.specs.declared.value.Value.{Value}
use Rattle.orc_rules.specs.declared.entry.Entry.{Entry}
use Rattle.orc_rules.specs.declared.entry.Entry.TheVariants.{End, Fork, Seq, Other, Def, Void, Open, Send, Call, Return, ReturnHalt, Bind, Lost, Right, Publish, Tick, Cancel}
use Rattle.orc_journal_text.proofs.Codes.{same_some}
use Rattle.orc_journal_text.proofs.Stripping.{none_some}
use Rattle.orc_run.specs.Times.{timed, timed_line}

-- the entry at a place is the first of those from there on
first_from : (es : List Entry) (i : ℕ) (e : Entry) → slice_get es i ≡ Some e → drop i es ≡ e ∷ drop (i + 1) es
first_from [] zero e is = absurd (none_some e (sym is))
first_from [] (suc i) e is = absurd (none_some e (sym is))
first_from (f ∷ fs) zero e is = ap (λ (g : Entry). g ∷ fs) (same_some f e is)
first_from (f ∷ fs) (suc i) e is =
    let on : suc (i + 1) ≡ suc i + 1 = omega arith in
    first_from fs i e is ∙ ap (λ (n : ℕ). e ∷ drop n (f ∷ fs)) on

module _ (es : List Entry) (told : List ℕ) (now i : ℕ) (so_far : timed 0 es ≡ told ++ timed now (drop i es)) (e : Entry) (here : slice_get es i ≡ Some e) where
  tells : timed 0 es ≡ told ++ timed now (e ∷ drop (i + 1) es)
  tells = so_far ∙ ap (λ (fs : List Entry). told ++ timed now fs) (first_from es i e here)

  pub publishes : (s : ℕ) (v : Value) → e ≡ Publish s v → timed 0 es ≡ (told ++ timed_line v now) ++ timed now (drop (i + 1) es)
  publishes s v is = tells ∙ ap (λ (f : Entry). told ++ timed now (f ∷ drop (i + 1) es)) is ∙ sym (append_assoc told (timed_line v now) (timed now (drop (i + 1) es)))

  pub ticks : (t : ℕ) → e ≡ Tick t → timed 0 es ≡ told ++ timed t (drop (i + 1) es)
  ticks t is = tells ∙ ap (λ (f : Entry). told ++ timed now (f ∷ drop (i + 1) es)) is

  pub goes_on : ((s : ℕ) (v : Value) → e ≡ Publish s v → ⊥) → ((t : ℕ) → e ≡ Tick t → ⊥) → timed 0 es ≡ told ++ timed now (drop (i + 1) es)
  goes_on values times = tells ∙ ap (λ (text : List ℕ). told ++ text) (silent e values times) where
    silent : (f : Entry) → ((s : ℕ) (v : Value) → f ≡ Publish s v → ⊥) → ((t : ℕ) → f ≡ Tick t → ⊥) → timed now (f ∷ drop (i + 1) es) ≡ timed now (drop (i + 1) es)
    silent (Publish s v) values times = absurd (values s v refl)
    silent (Tick t) values times = absurd (times t refl)
    silent (End s) values times = refl
    silent (Fork s a b) values times = refl
    silent (Seq s a) values times = refl
    silent (Other s a) values times = refl
    silent (Def s a) values times = refl
    silent (Void s) values times = refl
    silent (Open s c a b) values times = refl
    silent (Send s a v) values times = refl
    silent (Call s k m args) values times = refl
    silent (Return k a v) values times = refl
    silent (ReturnHalt k) values times = refl
    silent (Bind s c v) values times = refl
    silent (Lost c) values times = refl
    silent (Right s a) values times = refl
    silent (Cancel k) values times = refl
