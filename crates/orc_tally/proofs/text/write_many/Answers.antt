-- The three parts of the text.
use Rattle.orc_tally.proofs.Appended.{all_appended}
use Rattle.orc_tally.proofs.text.write_many.Goals as goal

pub returns : goal.returns
returns c = all_appended _ _ _ _ _ _ _ c.in_ok-extend_from_slice.ensures.items c.in_ok-write_number.ensures c.in_ok-extend_from_slice-2.ensures.items
