-- The seven parts of the text.
use Rattle.std.proofs.Common.{ap}
use Rattle.orc_tally.specs.Shell.{word_of}
use Rattle.orc_tally.proofs.Appended.{more_appended}
use Rattle.orc_tally.proofs.text.Call.write_commands.Goals as goal

pub returns : goal.returns
returns c = more_appended _ _ _ _ _ _ _ _ _ _ _ _ _ _ _ _ (ap word_of c.as_bytes.ensures.value) c.in_ok-extend_from_slice.ensures.items c.in_ok-write_call.ensures c.in_ok-extend_from_slice-2.ensures.items c.in_ok-write_call-2.ensures c.in_ok-extend_from_slice-3.ensures.items c.in_ok-write_word.ensures c.in_ok-extend_from_slice-4.ensures.items
