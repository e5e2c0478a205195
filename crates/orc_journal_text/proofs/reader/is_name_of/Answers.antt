use Rattle.std.proofs.Common.{sym, ◌∙◌, ap}
use Rattle.std.specs.Prelude.{Some}
use Rattle.orc_journal_text.proofs.Names.{whole_name}
use Rattle.orc_journal_text.proofs.reader.is_name_of.Goals as goal

pub returns-in-Some-empty : goal.returns-in-Some-empty
returns-in-Some-empty c _ = sym c.in-Some.ensures ∙ ap Some (whole_name c.in-Some.known.now c.args.name.now c.in-Some-empty.field-0.now c.in-Some-empty.len_below c.in-Some-empty.ensures)
