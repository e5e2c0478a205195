-- The next numbers.
use Rattle.std.proofs.Common.{◌≡◌, ℕ, zero, suc, List, length, refl, sym, ap, ◌∙◌, nat_eq}
use Rattle.std.specs.Prelude.{◌&&◌}
use Rattle.std.specs.Bool.{Decides}
use Rattle.std.proofs.lemmas.Bool.Decides.{Decides-eqb, Decides-and, Decides-like}
use Rattle.orc_rules.specs.declared.entry.Entry.{Entry}
use Rattle.orc_rules.specs.declared.entry.Entry.TheVariants as entry
use Rattle.orc_rules.specs.Timed.{Context}
use Rattle.orc_rules.specs.Journal.{Place, next}
use Rattle.orc_rules.specs.Refusal.{IsCounted}
use Rattle.orc_rules.specs.Term.{Term}
use Rattle.orc_env.specs.declared.names.Bound.{Bound}
use Rattle.orc_checker.specs.Checker.{State, Spells, AreCells, numbers}
use Rattle.orc_checker.proofs.CallsMade.{kept_length}
use Rattle.orc_verdict.specs.Reasons.{counted_as}

counted : (p : Place) (e : Entry) → Decides (counted_as e p.mark (next p.calls) (next p.cells)) (IsCounted p e)
counted p (entry.Fork s a b) = Decides-and (nat_eq a p.mark) (nat_eq b (suc a)) (Decides-eqb a p.mark) (Decides-eqb b (suc a))
counted p (entry.Seq s a) = Decides-eqb a p.mark
counted p (entry.Other s a) = Decides-eqb a p.mark
counted p (entry.Def s a) = Decides-eqb a p.mark
counted p (entry.Open s c a b) =
    Decides-like (nat_eq c (next p.cells) && (nat_eq a p.mark && nat_eq b (suc a))) (λ h. (h.0, h.1.0, h.1.1)) (λ h. (h.0, (h.1, h.2)))
    (Decides-and (nat_eq c (next p.cells)) (nat_eq a p.mark && nat_eq b (suc a)) (Decides-eqb c (next p.cells)) (Decides-and (nat_eq a p.mark) (nat_eq b (suc a)) (Decides-eqb a p.mark) (Decides-eqb b (suc a))))
counted p (entry.Send s a v) = Decides-eqb a p.mark
counted p (entry.Call s k m args) = Decides-eqb k (next p.calls)
counted p (entry.Return k a v) = Decides-eqb a p.mark
counted p (entry.Right s a) = Decides-eqb a p.mark
counted p (entry.End s) = (λ e. tt, λ h. refl)
counted p (entry.Void s) = (λ e. tt, λ h. refl)
counted p (entry.ReturnHalt k) = (λ e. tt, λ h. refl)
counted p (entry.Bind s c v) = (λ e. tt, λ h. refl)
counted p (entry.Lost c) = (λ e. tt, λ h. refl)
counted p (entry.Publish s v) = (λ e. tt, λ h. refl)
counted p (entry.Tick t) = (λ e. tt, λ h. refl)
counted p (entry.Cancel k) = (λ e. tt, λ h. refl)

length_numbers : (n : ℕ) → length (numbers n) ≡ n
length_numbers zero = refl
length_numbers (suc n) = ap suc (length_numbers n)

next_cell : (opened : List ℕ) (cells : List Bound) → AreCells opened cells → next opened ≡ length cells
next_cell opened cells a = ap (λ z. suc (length z)) a.2 ∙ ap suc (length_numbers a.0) ∙ sym a.1

pub counted_there : (x : Context) (code : ℕ → Term) (s : State) (p : Place) (e : Entry) (mark call cell : ℕ) → Spells x code s p → mark ≡ length s.marks → call ≡ suc (length s.rest.calls) → cell ≡ length s.cells → Decides (counted_as e mark call cell) (IsCounted p e)
counted_there x code s p e mark call cell sp is_mark is_call is_cell =
    let same : counted_as e p.mark (next p.calls) (next p.cells) ≡ counted_as e mark call cell =
    (λ i. counted_as e ((sp.mark ∙ sym is_mark) i) (sym (is_call ∙ ap suc (kept_length x p.now p.calls p.to_cancel s.rest sp.rest)) i) ((next_cell p.cells s.cells sp.cells ∙ sym is_cell) i)) in
    let d = counted p e in
    (λ h. d.0 (same ∙ h), λ h. sym same ∙ d.1 h)
