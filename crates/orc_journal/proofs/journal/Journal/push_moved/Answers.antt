use Rattle.std.proofs.Common.{◌++◌, ◌∷◌, [], List, ap, ◌∙◌}
use Rattle.std.proofs.lemmas.Result.{err_from_is_err_and}
use Rattle.orc_subrun.specs.Moved.{moved}
use Rattle.orc_journal.specs.declared.rows.Row.{Row}
use Rattle.orc_journal.specs.Written.{Written, journal_with}
use Rattle.orc_journal.specs.Rows.{entry_of}
use Rattle.orc_journal.proofs.Keeping.{row_more, same_journal}
use Rattle.orc_journal.proofs.journal.Journal.push_moved.Goals as goal

pub returns-in_err-row-clause-refused : goal.returns-in_err-row-clause-refused
returns-in_err-row-clause-refused c =
    let same = same_journal c.self.inside.version c.self.inside.tables c.add_moved.new.self c.self.inside.rows.items c.make_room.new.items.items c.in_err-row.ensures.kept c.self.invariant c.in_ok-make_room.ensures.items in
    let p = err_from_is_err_and c.from_residual-in_err-row.result c.from_residual-in_err-row.ensures.1 in
    rw (p.1) (same ∙ c.self.view_is)

pub invariant_of-self-2 : goal.invariant_of-self-2
invariant_of-self-2 c = (row_more c.self.inside.version c.self.inside.tables c.add_moved.new.self c.self.inside.rows.items c.push_reserved.new.self.items c.in_ok-row.row (moved c.args.numbering (entry_of c.args.part.now c.args.row))
    c.in_ok-row.ensures.kept c.self.invariant c.in_ok-row.ensures.row (c.push_reserved.ensures.items ∙ ap (λ (rs : List Row). rs ++ c.in_ok-row.row ∷ []) c.in_ok-make_room.ensures.items)).0

pub returns-clause-added : goal.returns-clause-added
returns-clause-added c =
    let more = (row_more c.self.inside.version c.self.inside.tables c.add_moved.new.self c.self.inside.rows.items c.push_reserved.new.self.items c.in_ok-row.row (moved c.args.numbering (entry_of c.args.part.now c.args.row))
    c.in_ok-row.ensures.kept c.self.invariant c.in_ok-row.ensures.row (c.push_reserved.ensures.items ∙ ap (λ (rs : List Row). rs ++ c.in_ok-row.row ∷ []) c.in_ok-make_room.ensures.items)).1 in
    more ∙ ap (λ (j : Written). journal_with j (moved c.args.numbering (entry_of c.args.part.now c.args.row) ∷ [])) c.self.view_is
