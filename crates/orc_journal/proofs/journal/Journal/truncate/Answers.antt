use Rattle.std.proofs.Common.{List, map, take, ap, sym, ◌∙◌}
use Rattle.std.proofs.lemmas.List.{take-map}
use Rattle.orc_rules.specs.declared.entry.Entry.{Entry}
use Rattle.orc_journal.specs.Rows.{entry_of}
use Rattle.orc_journal.specs.Written.{Written}
use Rattle.orc_journal.proofs.journal.Journal.truncate.Goals as goal

pub returns : goal.returns
returns c =
    let entries = ap (map (entry_of c.self.inside.tables)) c.truncate.ensures.items ∙ sym (take-map (entry_of c.self.inside.tables) c.args.len c.self.inside.rows.items) in
    let first : Written → Written = λ j. record { version = j.version; entries = take c.args.len j.entries } in
    ap {B = Written} (λ (es : List Entry). record { version = c.self.inside.version; entries = es }) entries ∙ ap first c.self.view_is
