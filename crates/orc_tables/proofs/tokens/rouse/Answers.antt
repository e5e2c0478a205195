use Rattle.std.proofs.Common.{refl, sym, ap, ◌∙◌}
use Rattle.orc_indexes.specs.Parking.{is_set}
use Rattle.orc_indexes.proofs.Flags.{was-set}
use Rattle.orc_tables.proofs.tokens.rouse.Goals as goal

pub returns-clause-flags : goal.returns-clause-flags
returns-clause-flags c = λ k f. (was-set c.args.parking.now.flags c.args.note.slot k (ap (λ z. is_set z k) (sym c.clear.ensures.flags) ∙ f)).1

pub returns-clause-gone : goal.returns-clause-gone
returns-clause-gone c = λ t h e f. (was-set c.args.parking.now.flags c.args.note.slot c.args.note.slot (ap (λ z. is_set z c.args.note.slot) (sym c.clear.ensures.flags) ∙ f)).0 refl
