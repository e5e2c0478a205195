-- What the table of sites says, and what substitution gives, by computing.
use Rattle.std.proofs.Common.{◌≡◌, ℕ, List, [], ◌∷◌, refl, true, false, pos, Some, None}
use Rattle.std.specs.Prelude.{negsuc}
use Rattle.orc_rules.specs.declared.value.Value.{Value}
use Rattle.orc_rules.specs.declared.value.Value.TheVariants.{Number, Truth, Signal}
use Rattle.orc_rules.specs.declared.param.Param.{Param}
use Rattle.orc_rules.specs.declared.param.Param.TheVariants.{Is, Name, Cell, Void}
use Rattle.orc_rules.specs.declared.value.Answer.TheVariants.{Value as Gives}
use Rattle.orc_rules.specs.declared.value.Found.TheVariants.{After, Never}
use Rattle.orc_rules.specs.declared.builtin.Builtin.TheVariants as builtins
use Rattle.orc_rules.specs.Sites.{Site, built_in, scripted, find, halts, at_once}
use Rattle.orc_rules.specs.Term.{Term, stop, param, site, call, par, seq, prune, other, pending, opened, put, fill, put_all, pending_of, values_of}
use Rattle.orc_rules.specs.Refusal.{depth}

abbrev number : ℕ → Value
number n = Number (pos n)

abbrev table : List Site
table =
    built_in builtins.Add ∷ built_in builtins.Sub ∷ built_in builtins.Eq ∷ built_in builtins.Lt ∷ built_in builtins.Ift ∷ built_in builtins.Iff ∷ built_in builtins.Rwait
    ∷ scripted (record { patterns = Some (Number (pos 1)) ∷ None ∷ []; answers = After (Gives (Number (pos 5))) 2 ∷ [] } ∷ record { patterns = None ∷ None ∷ []; answers = halts ∷ [] } ∷ [])
    ∷ scripted (record { patterns = []; answers = at_once (Number (pos 1)) ∷ halts ∷ After (Gives (Number (pos 3))) 2 ∷ [] } ∷ [])
    ∷ scripted (record { patterns = []; answers = Never ∷ at_once (Number (pos 1)) ∷ [] } ∷ []) ∷ []

add_largest : find table 0 (Number (pos 9223372036854775807) ∷ Number (pos 0) ∷ []) 1 ≡ at_once (Number (pos 9223372036854775807))
add_largest = refl

add_over : find table 0 (Number (pos 9223372036854775807) ∷ Number (pos 1) ∷ []) 1 ≡ halts
add_over = refl

sub_least : find table 1 (Number (negsuc 9223372036854775806) ∷ Number (pos 1) ∷ []) 1 ≡ at_once (Number (negsuc 9223372036854775807))
sub_least = refl

sub_under : find table 1 (Number (negsuc 9223372036854775807) ∷ Number (pos 1) ∷ []) 1 ≡ halts
sub_under = refl

add_three : find table 0 (number 1 ∷ number 2 ∷ number 3 ∷ []) 1 ≡ halts
add_three = refl

add_truth : find table 0 (number 1 ∷ Truth true ∷ []) 1 ≡ halts
add_truth = refl

eq_kinds : find table 2 (Truth true ∷ Signal ∷ []) 1 ≡ at_once (Truth false)
eq_kinds = refl

eq_falses : find table 2 (Truth false ∷ Truth false ∷ []) 1 ≡ at_once (Truth true)
eq_falses = refl

lt_less : find table 3 (Number (negsuc 0) ∷ Number (pos 0) ∷ []) 1 ≡ at_once (Truth true)
lt_less = refl

lt_same : find table 3 (Number (pos 4) ∷ Number (pos 4) ∷ []) 1 ≡ at_once (Truth false)
lt_same = refl

ift_true : find table 4 (Truth true ∷ []) 1 ≡ at_once Signal
ift_true = refl

ift_false : find table 4 (Truth false ∷ []) 1 ≡ halts
ift_false = refl

iff_false : find table 5 (Truth false ∷ []) 1 ≡ at_once Signal
iff_false = refl

iff_true : find table 5 (Truth true ∷ []) 1 ≡ halts
iff_true = refl

rwait_later : find table 6 (Number (pos 3) ∷ []) 9 ≡ After (Gives Signal) 3
rwait_later = refl

rwait_negative : find table 6 (Number (negsuc 0) ∷ []) 1 ≡ halts
rwait_negative = refl

pair_first : find table 7 (Number (pos 1) ∷ Number (pos 9) ∷ []) 1 ≡ After (Gives (Number (pos 5))) 2
pair_first = refl

pair_second : find table 7 (Number (pos 2) ∷ Number (pos 9) ∷ []) 1 ≡ halts
pair_second = refl

pair_unmatched : find table 7 (Number (pos 1) ∷ []) 1 ≡ halts
pair_unmatched = refl

flip_second : find table 8 [] 2 ≡ halts
flip_second = refl

flip_repeats : find table 8 [] 7 ≡ After (Gives (Number (pos 3))) 2
flip_repeats = refl

never_first : find table 9 [] 1 ≡ Never
never_first = refl

never_then : find table 9 [] 2 ≡ at_once (Number (pos 1))
never_then = refl

no_site : find table 10 [] 1 ≡ halts
no_site = refl

-- x is bound in g of `f >x> g` and in f of `f <x< g`
put_seq : put Void 0 (seq (param (Name 0)) 0 (param (Name 0))) ≡ seq (param Void) 0 (param (Name 0))
put_seq = refl

put_prune : put Void 0 (prune (param (Name 0)) 0 (param (Name 0))) ≡ prune (param (Name 0)) 0 (param Void)
put_prune = refl

put_other_name : put Void 0 (seq (param (Name 0)) 1 (param (Name 0))) ≡ seq (param Void) 1 (param Void)
put_other_name = refl

fill_under_binders : fill Void 1 (seq (param (Cell 1)) 0 (param (Cell 1))) ≡ seq (param Void) 0 (param Void)
fill_under_binders = refl

parameters : put_all (0 ∷ 1 ∷ []) (Cell 1 ∷ Void ∷ []) (call 0 (Name 1 ∷ Name 0 ∷ [])) ≡ call 0 (Void ∷ Cell 1 ∷ [])
parameters = refl

levels : depth (seq (param Void) 0 (site 0 [])) ≡ 2
levels = refl

-- a term with the same parameter at each place where one can stand free
abbrev everywhere : Param → Term
everywhere p =
    par (other (param p) (site 0 (p ∷ Is (number 7) ∷ p ∷ []))) (prune (seq (call 0 (p ∷ [])) 1 (param p)) 2 (opened (other (pending 4) (param p)) 3 (param p)))

put_everywhere : put (Is (number 5)) 0 (everywhere (Name 0)) ≡ everywhere (Is (number 5))
put_everywhere = refl

put_elsewhere : put (Is (number 5)) 0 (everywhere (Name 3)) ≡ everywhere (Name 3)
put_elsewhere = refl

put_leaves_cells : put (Is (number 5)) 1 (everywhere (Cell 1)) ≡ everywhere (Cell 1)
put_leaves_cells = refl

fill_everywhere : fill (Is (number 5)) 1 (everywhere (Cell 1)) ≡ everywhere (Is (number 5))
fill_everywhere = refl

fill_elsewhere : fill Void 1 (everywhere (Cell 2)) ≡ everywhere (Cell 2)
fill_elsewhere = refl

fill_leaves_names : fill Void 1 (everywhere (Name 1)) ≡ everywhere (Name 1)
fill_leaves_names = refl

-- the deepest part counts, left or right
levels_left : depth (par (seq (prune (other (opened stop 1 stop) stop) 0 stop) 0 stop) stop) ≡ 6
levels_left = refl

levels_right : depth (par stop (seq stop 0 (prune stop 0 (other stop (opened stop 1 (pending 1)))))) ≡ 6
levels_right = refl

-- what pends: never on a right side of `>x>` or `;`
pending_everywhere : pending_of (par (pending 1) (opened (seq (pending 2) 0 (pending 9)) 1 (other (pending 3) (pending 8)))) ≡ 1 ∷ 2 ∷ 3 ∷ []
pending_everywhere = refl

-- all parameters are values, or they give none
values_all : values_of (Is (number 1) ∷ Is Signal ∷ []) ≡ Some (number 1 ∷ Signal ∷ [])
values_all = refl

values_cell : values_of (Is (number 1) ∷ Cell 1 ∷ []) ≡ None
values_cell = refl
