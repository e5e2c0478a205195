use Rattle.std.proofs.Common.{◌∙◌}
use Rattle.orc_findings.proofs.Appended.{six_appended}
use Rattle.orc_findings.proofs.counterexample.Ended.write_seen.Goals as goal

-- margin, word, happenings, end and time stand behind one another
pub returns : goal.returns
returns c = six_appended _ _ _ _ _ _ _ _ _ _ _ _ _ _ c.in_ok-extend_from_slice.ensures.items c.in_ok-extend_from_slice-2.ensures.items c.in_ok-write_all.ensures
    c.in_ok-extend_from_slice-3.ensures.items (c.as_bytes.ensures.value ∙ c.word_of.ensures) c.in_ok-write_at.ensures c.in_ok-push.ensures.items
