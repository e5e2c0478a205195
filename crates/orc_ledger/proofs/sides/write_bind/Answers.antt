use Rattle.std.proofs.Common.{◌∷◌, map, drop, sym, ap, ◌∙◌, subst}
use Rattle.std.proofs.lemmas.List.{drop_at}
use Rattle.orc_rules.specs.declared.entry.Entry.TheVariants.{Bind, Cancel}
use Rattle.orc_subrun.specs.Moved.{AreSilent}
use Rattle.orc_ledger_spec.proofs.Claiming.{bind-silent}
use Rattle.orc_ledger.proofs.sides.write_bind.Goals as goal

pub truncate-requires : goal.truncate-requires
truncate-requires g c =
    let a = c.args in
    let n = c.len-entries.result in
    let more = Bind a.token a.cell a.value ∷ map Cancel c.deref.result.now in
    subst AreSilent (sym (ap (λ j. drop n j.entries) c.in-Ok.ensures.added ∙ drop_at a.journal.now.entries more n (sym c.len-entries.ensures.entries))) (bind-silent a.token a.cell a.value c.deref.result.now)
