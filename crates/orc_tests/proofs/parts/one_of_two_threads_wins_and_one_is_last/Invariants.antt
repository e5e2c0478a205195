use Rattle.orc_tests.proofs.parts.one_of_two_threads_wins_and_one_is_last.Given as goal

abbrev pub ghosts-rounds : goal.ghosts-rounds
ghosts-rounds g a = record { table = a.made.table.shared.table_id }
