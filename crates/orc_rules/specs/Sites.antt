-- The table of sites: the built-in ones and those of a script.
use Rattle.std.specs.Prelude.{ℕ, zero, suc, ◌-◌, ◌^◌, List, [], ◌∷◌, ◌++◌, ◌≡◌, length, map, Bool, true, false, cond, not, ◌&&◌, Option, Some, None, slice_get, ℤ, pos, negsuc, ◌+ℤ◌, ◌-ℤ◌, int_lt, int_le, ◌≢◌, ◌<◌, if◌then◌else◌, option_map, bytes_eq, codes}
use Rattle.std.specs.List.{AllByRecursion}
use Rattle.std.specs.Ordering.{int_eq}
use Rattle.orc_rules.specs.declared.value.Value.{Value}
use Rattle.orc_rules.specs.declared.value.Value.TheVariants.{Number, Truth, Signal}
use Rattle.orc_rules.specs.declared.value.Answer.TheVariants.{Value as Gives, Halt}
use Rattle.orc_rules.specs.declared.value.Found.{Found}
use Rattle.orc_rules.specs.declared.value.Found.TheVariants.{After}
use Rattle.orc_rules.specs.declared.builtin.Builtin.{Builtin}
use Rattle.orc_rules.specs.declared.builtin.Builtin.TheVariants as builtins

-- whether two values are the same
abbrev pub value_eq : Value → Value → Bool
value_eq (Number a) (Number b) = int_eq a b
value_eq (Truth a) (Truth b) = cond a b (not b)
value_eq Signal Signal = true
value_eq _ _ = false

-- as many values, and each the same
abbrev pub values_eq : List Value → List Value → Bool
values_eq [] [] = true
values_eq (v ∷ vs) (w ∷ ws) = value_eq v w && values_eq vs ws
values_eq _ _ = false

-- a line of a script: a pattern is a value, or None for `_`; the answers are one or more, each with its delay, in their order
pub record Line : Type 0 where
  pub patterns : List (Option Value)
  pub answers : List Found

-- a site: a built-in one, or the script's lines of one name in their order; a site's number is its place in the table
pub data Site : Type 0 where
  built_in : Builtin → Site
  scripted : List Line → Site

-- the sites by their numbers, each with its name
pub record Table : Type 0 where
  pub names : List (List ℕ)
  pub sites : List Site

-- the number of the first site with this name
abbrev pub site_named : List (List ℕ) → List ℕ → Option ℕ
site_named [] name = None
site_named (n ∷ ns) name = if bytes_eq n name then Some 0 else option_map suc (site_named ns name)

-- no byte of a name is a `(`, whose code is 40
abbrev pub IsBare : List ℕ → Type 0
IsBare name = AllByRecursion (λ c. c ≢ 40) name

-- names that differ from one another, none with a `(`
abbrev pub AreNames : List (List ℕ) → Type 0
AreNames [] = Unit {0}
AreNames (n ∷ ns) = IsBare n × (site_named ns n ≡ None) × AreNames ns

-- each site has a name, no two have the same, and a site's number fits 32 bits
abbrev pub IsTable : Table → Type 0
IsTable t = AreNames t.names × (length t.names ≡ length t.sites) × (length t.names < 2 ^ 32)

-- the name of a built-in site
abbrev pub built_in_name : Builtin → List ℕ
built_in_name builtins.Add = codes "Add"
built_in_name builtins.Sub = codes "Sub"
built_in_name builtins.Eq = codes "Eq"
built_in_name builtins.Lt = codes "Lt"
built_in_name builtins.Ift = codes "Ift"
built_in_name builtins.Iff = codes "Iff"
built_in_name builtins.Rwait = codes "Rwait"

-- the built-in sites in the order of their numbers
abbrev pub built_ins : List Builtin
built_ins = builtins.Add ∷ builtins.Sub ∷ builtins.Eq ∷ builtins.Lt ∷ builtins.Ift ∷ builtins.Iff ∷ builtins.Rwait ∷ []

-- the table that has these built-in sites alone
abbrev pub built_in_table : List Builtin → Table
built_in_table bs = record { names = map built_in_name bs; sites = map built_in bs }

-- a site with one more line behind those that it has; a built-in site stays as it is
abbrev pub site_with : Site → Line → Site
site_with (built_in b) l = built_in b
site_with (scripted ls) l = scripted (ls ++ l ∷ [])

-- the names with one more behind them, where it is new
abbrev pub names_with : List (List ℕ) → List ℕ → List (List ℕ)
names_with [] name = name ∷ []
names_with (n ∷ ns) name = if bytes_eq n name then n ∷ ns else n ∷ names_with ns name

-- the sites ss, which have these names, with one more line for the site of that name; a new site behind them if there is none
abbrev pub sites_with : List (List ℕ) → List Site → List ℕ → Line → List Site
sites_with [] ss name l = ss ++ scripted (l ∷ []) ∷ []
sites_with (n ∷ ns) [] name l = []
sites_with (n ∷ ns) (s ∷ ss) name l = if bytes_eq n name then site_with s l ∷ ss else s ∷ sites_with ns ss name l

-- the table with one more line for the calls of that name
abbrev pub with_line : Table → List ℕ → Line → Table
with_line t name l = record { names = names_with t.names name; sites = sites_with t.names t.sites name l }

-- this value without delay
abbrev pub at_once : Value → Found
at_once v = After (Gives v) 0

-- halt without delay
abbrev pub halts : Found
halts = After Halt 0

-- the number at once if it fits 64 signed bits, else halt
abbrev pub in_range : ℤ → Found
in_range z = cond (int_le (negsuc (2 ^ 63 - 1)) z && int_lt z (pos (2 ^ 63))) (at_once (Number z)) halts

-- `signal` after n units, halt for a negative n
abbrev pub waiting : ℤ → Found
waiting (pos n) = After (Gives Signal) n
waiting (negsuc n) = halts

-- what a built-in site answers
abbrev pub built_in_answer : Builtin → List Value → Found
built_in_answer builtins.Add (Number a ∷ Number b ∷ []) = in_range (a +ℤ b)
built_in_answer builtins.Sub (Number a ∷ Number b ∷ []) = in_range (a -ℤ b)
built_in_answer builtins.Eq (a ∷ b ∷ []) = at_once (Truth (value_eq a b))
built_in_answer builtins.Lt (Number a ∷ Number b ∷ []) = at_once (Truth (int_lt a b))
built_in_answer builtins.Ift (Truth b ∷ []) = cond b (at_once Signal) halts
built_in_answer builtins.Iff (Truth b ∷ []) = cond b halts (at_once Signal)
built_in_answer builtins.Rwait (Number n ∷ []) = waiting n
built_in_answer _ _ = halts

-- whether a line matches these arguments
abbrev pub matches : List (Option Value) → List Value → Bool
matches [] [] = true
matches (None ∷ ps) (v ∷ vs) = matches ps vs
matches (Some p ∷ ps) (v ∷ vs) = value_eq p v && matches ps vs
matches _ _ = false

-- the n-th answer from 0, and after the last one the last again
abbrev pub nth_answer : List Found → ℕ → Found
nth_answer [] n = halts
nth_answer (a ∷ []) n = a
nth_answer (a ∷ b ∷ more) zero = a
nth_answer (a ∷ b ∷ more) (suc n) = nth_answer (b ∷ more) n

-- the answer of the first line that matches, to the call with the number n from 0; halt if none does
abbrev pub line_answer : List Line → List Value → ℕ → Found
line_answer [] args n = halts
line_answer (l ∷ ls) args n = cond (matches l.patterns args) (nth_answer l.answers n) (line_answer ls args n)

-- the answer of a site to the nth call, from 1
abbrev pub site_answer : Option Site → List Value → ℕ → Found
site_answer None args nth = halts
site_answer (Some (built_in b)) args nth = built_in_answer b args
site_answer (Some (scripted ls)) args nth = line_answer ls args (nth - 1)

-- the number, from 0, of the last answer of the first line that matches
abbrev pub last_of_line : List Line → List Value → ℕ
last_of_line [] args = 0
last_of_line (l ∷ ls) args = cond (matches l.patterns args) (length l.answers - 1) (last_of_line ls args)

-- the number, from 0, of the last answer of a site; 0 for a built-in one
abbrev pub last_answer : Option Site → List Value → ℕ
last_answer None args = 0
last_answer (Some (built_in b)) args = 0
last_answer (Some (scripted ls)) args = last_of_line ls args

-- what the table says of the nth call, from 1, of a site with these arguments
abbrev pub find : List Site → ℕ → List Value → ℕ → Found
find sites site args nth = site_answer (slice_get sites site) args nth

-- whether there is a site and a script answers it
abbrev pub is_script : Option Site → Bool
is_script (Some (scripted ls)) = true
is_script _ = false

-- whether a script answers the calls of a site: only there the table's answer depends on how many such calls there were
abbrev pub is_scripted : List Site → ℕ → Bool
is_scripted sites m = is_script (slice_get sites m)
