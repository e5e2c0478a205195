-- What the calls to come are answered, from counts of those that were made.
use Rattle.std.specs.Prelude.{ℕ, suc, ◌+◌, List, [], ◌∷◌, cond, nat_eq, ◌&&◌}
use Rattle.orc_rules.specs.declared.value.Value.{Value}
use Rattle.orc_rules.specs.Sites.{Site, find, values_eq}
use Rattle.orc_search.specs.declared.made.Made.{Made}
use Rattle.orc_search.specs.States.{Coming}

-- how many calls of a site with these arguments were made: the first entry of them says so
abbrev pub times_of : List Made → ℕ → List Value → ℕ
times_of [] m args = 0
times_of (calls ∷ made) m args = cond (nat_eq m calls.site && values_eq args calls.args.items) calls.times (times_of made m args)

-- what the table says of the calls to come, after those that were made; with none made it is `coming_of sites []` as it computes
abbrev pub coming_of_made : List Site → List Made → Coming
coming_of_made sites made m args i = find sites m args (suc (i + times_of made m args))
