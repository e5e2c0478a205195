use Rattle.orc_tests.proofs.parts.a_group_is_opened_anew_once_all_have_left.Given as goal

abbrev pub ghosts-live : goal.ghosts-live
ghosts-live g a = record { table = a.made.table.shared.table_id }
