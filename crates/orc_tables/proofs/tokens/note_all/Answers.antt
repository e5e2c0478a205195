use Rattle.std.proofs.Common.{◌+◌, ℕ, List, sym, subst, ◌∙◌, take, get_or, inl, inr}
use Rattle.std.proofs.lemmas.List.{take_more}
use Rattle.orc_rules.specs.Timed.{IsIn}
use Rattle.orc_indexes.specs.Parking.{IsNoted}
use Rattle.orc_indexes.proofs.Flags.{in-either}
use Rattle.orc_tables.proofs.tokens.note_all.Goals as goal

pub returns-in_err-note-clause-kept : goal.returns-in_err-note-clause-kept
returns-in_err-note-clause-kept c = λ d k n i. c.in_err-note.ensures.kept d (record { slot = k; serial = n }) (c.loop-cell.invariant.kept d k n i)

pub loop-cell-preserved : goal.loop-cell-preserved
loop-cell-preserved c =
    let I = c.loop-cell.invariant in
    let xs : List ℕ = c.deref-cell-items.result.now in
    let i = c.loop-cell.cell-index in
    record {
      flags = c.in_ok-note.ensures.flags ∙ I.flags;
      kept = λ d k n j. c.in_ok-note.ensures.kept d (record { slot = k; serial = n }) (I.kept d k n j);
      noted = λ d j. elim (in-either (take i xs) (get_or xs i _) d (subst (λ (z : List ℕ). IsIn d z) (take_more xs i _ c.loop-cell-test.true) (subst (λ (z : List ℕ). IsIn d (take (i + 1) z)) (sym c.deref-cell-items.ensures.value) j))) [
        | inl e ↦ c.in_ok-note.ensures.kept d (record { slot = c.args.slot; serial = c.args.serial }) (I.noted d (subst (λ (z : List ℕ). IsIn d (take i z)) c.deref-cell-items.ensures.value e))
        | inr e ↦ subst (λ z. IsNoted c.note.new.self z c.args.slot c.args.serial) (sym e) c.in_ok-note.ensures.noted
      ];
    }
