use Rattle.orc_tests.proofs.parts.a_supply_of_two_gives_two.Given as goal

abbrev pub ghosts-takes : goal.ghosts-takes
ghosts-takes g a = record { table = a.made.table.shared.table_id }
