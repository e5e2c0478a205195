use Rattle.orc_journal_text.proofs.Whole.{is_found, is_only}
use Rattle.orc_journal_text.proofs.reader.read_entry.Goals as goal

pub returns-clause-found : goal.returns-clause-found
returns-clause-found c = is_found (λ r. (c.entry_at.new.entry, r.now)) c.args.answers.now.names c.are_apart.ensures.0 c.args.bytes.now c.entry_at.result c.entry_at.ensures

pub returns-clause-only : goal.returns-clause-only
returns-clause-only c = is_only (λ r. (c.entry_at.new.entry, r.now)) c.args.answers.now.names c.are_apart.ensures.0 c.args.bytes.now c.entry_at.result c.entry_at.ensures
