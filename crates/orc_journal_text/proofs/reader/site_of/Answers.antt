use Rattle.std.proofs.Common.{sym}
use Rattle.orc_journal_text.proofs.Names.{named_at}
use Rattle.orc_journal_text.proofs.reader.site_of.Goals as goal

pub returns-then-is_name_of : goal.returns-then-is_name_of
returns-then-is_name_of c = sym (named_at c.args.answers.now.names c.likely_site-site.result c.args.name.now c.are_apart.ensures.0 (c.is_name_of.ensures c.if-is_name_of.true))
