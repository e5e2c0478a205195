-- Small terms that are worked out: what may come of them, by computing.
use Rattle.std.proofs.Common.{◌≡◌, ℕ, List, [], ◌∷◌, Some, None, refl}
use Rattle.std.specs.Prelude.{pos}
use Rattle.orc_rules.specs.declared.value.Value.{Value}
use Rattle.orc_rules.specs.declared.value.Value.TheVariants.{Number}
use Rattle.orc_rules.specs.declared.value.Answer.TheVariants.{Value as Gives}
use Rattle.orc_rules.specs.declared.value.Found.TheVariants.{After, Never}
use Rattle.orc_rules.specs.declared.param.Param.TheVariants.{Name, Is, Cell, Void}
use Rattle.orc_search.specs.Small.{Out, nothing, gives, asks, both, feeds, prunes, instead, awaits, needs}
use Rattle.orc_search.specs.Moves.{called, answered, published, unseen}
use Rattle.orc_search.specs.Ticks.{pass}
use Rattle.orc_search.specs.Successors.{moves, wait}
use Rattle.orc_search.specs.Graphs.{halted, quiet, ending}
use Rattle.orc_search.specs.States.{happens, waits as passing}
use Rattle.orc_search.specs.Paths.{time_in, published_in}

abbrev one : Value
one = Number (pos 1)

-- a call of site 7 that gives 1 after this time
abbrev out : ℕ → Out
out left = record { site = 7; args = []; rest = After (Gives one) left }

-- the table gives each call 1 after 2 units
abbrev ask : ℕ → List Value → Out
ask m args = record { site = m; args = args; rest = After (Gives one) 2 }

-- M(x) <x< 1: it opens, the value is taken, and the call is made
opens : moves [] ask 0 (prunes (asks 7 (Name 5 ∷ [])) 5 (gives (Is one))) ≡ (unseen, needs (asks 7 (Cell 0 ∷ [])) (gives (Is one))) ∷ []
opens = refl

binds : moves [] ask 0 (needs (asks 7 (Cell 0 ∷ [])) (gives (Is one))) ≡ (unseen, asks 7 (Is one ∷ [])) ∷ []
binds = refl

calls : moves [] ask 0 (asks 7 (Is one ∷ [])) ≡ (called 7 (one ∷ []), awaits (record { site = 7; args = one ∷ []; rest = After (Gives one) 2 })) ∷ []
calls = refl

-- M(x) <x< stop: the cell is lost, and the call halts
loses : moves [] ask 0 (needs (asks 7 (Cell 0 ∷ [])) nothing) ≡ (unseen, asks 7 (Void ∷ [])) ∷ []
loses = refl

halts : moves [] ask 0 (asks 7 (Void ∷ [])) ≡ (unseen, nothing) ∷ []
halts = refl

-- a cell inside is named by the one around it: when that is bound it moves up
moves_up : moves [] ask 0 (needs (needs (asks 7 (Cell 0 ∷ Cell 1 ∷ [])) (awaits (out 3))) (gives (Is one))) ≡ (unseen, needs (asks 7 (Is one ∷ Cell 0 ∷ [])) (awaits (out 3))) ∷ []
moves_up = refl

-- two answers at one time: either comes first
tie : moves [] ask 0 (both (awaits (out 0)) (awaits (out 0))) ≡ (answered 7 [] (Gives one), both (gives (Is one)) (awaits (out 0))) ∷ (answered 7 [] (Gives one), both (awaits (out 0)) (gives (Is one))) ∷ []
tie = refl

-- 1 >x> x: what is published goes to the right, and the left side is over then
sends : moves [] ask 0 (feeds (gives (Is one)) 5 (gives (Name 5))) ≡ (unseen, both (feeds nothing 5 (gives (Name 5))) (gives (Is one))) ∷ []
sends = refl

-- stop ; 1 falls to its right side, and 1 ; 2 passes the value on
falls : moves [] ask 0 (instead nothing (gives (Is one))) ≡ (unseen, gives (Is one)) ∷ []
falls = refl

passes : moves [] ask 0 (instead (gives (Is one)) (asks 7 [])) ≡ (published one, nothing) ∷ []
passes = refl

-- the least time passes, for both, and none where a call may return now
waits : wait [] (both (awaits (out 3)) (awaits (out 5))) ≡ Some 3
waits = refl

passed : pass 3 (both (awaits (out 3)) (awaits (out 5))) ≡ both (awaits (out 0)) (awaits (out 2))
passed = refl

no_wait : wait [] (both (awaits (out 0)) (awaits (out 5))) ≡ None
no_wait = refl

-- how runs end
over : ending [] (both nothing (feeds nothing 5 (gives (Name 5)))) ≡ Some halted
over = refl

stuck : ending [] (awaits (record { site = 7; args = []; rest = Never })) ≡ Some quiet
stuck = refl

goes_on : ending [] (awaits (out 3)) ≡ None
goes_on = refl

-- what is published on a path, and how long it takes
shows : published_in (happens (called 7 []) ∷ passing 3 ∷ happens (answered 7 [] (Gives one)) ∷ happens (published one) ∷ happens unseen ∷ happens (published one) ∷ []) ≡ one ∷ one ∷ []
shows = refl

takes : time_in (passing 3 ∷ happens (published one) ∷ passing 2 ∷ []) ≡ 5
takes = refl
