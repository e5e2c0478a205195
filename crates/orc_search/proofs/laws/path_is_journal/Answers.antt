use Rattle.orc_search.proofs.Paths.{path_is_journal}
use Rattle.orc_search.proofs.laws.path_is_journal.Goals as goal

pub returns : goal.returns
returns c = path_is_journal
