-- What a token stands on, in short, and which entries fit it.
use Rattle.std.specs.Prelude.{ℕ, List, [], ◌∷◌, Bool, true, false, nat_eq, ◌&&◌, Option, Some, None, is_some, slice_get}
use Rattle.orc_rules.specs.declared.value.Value.{Value}
use Rattle.orc_rules.specs.declared.param.Param.{Param}
use Rattle.orc_rules.specs.declared.param.Param.TheVariants.{Is, Void}
use Rattle.orc_rules.specs.declared.entry.Entry.{Entry}
use Rattle.orc_rules.specs.declared.entry.Entry.TheVariants as entry
use Rattle.orc_rules.specs.Term.{Term, Definition, stop, param, site, call, par, seq, prune, other, pending, opened}
use Rattle.orc_rules.specs.Sites.{value_eq}
use Rattle.orc_rules.specs.Idle.{has_void}
use Rattle.orc_term.specs.declared.arena.Kind.{Kind}
use Rattle.orc_term.specs.declared.arena.Kind.TheVariants.{Leaf}
use Rattle.orc_term.specs.declared.arena.Tip.TheVariants.{Token, Bears}
use Rattle.orc_term.specs.declared.walk.Taker.{Taker}
use Rattle.orc_term.specs.declared.walk.Taker.TheVariants.{Whole, Fed, Bound}
use Rattle.orc_env.specs.Scopes.{Env, close}
use Rattle.orc_verdict.specs.declared.position.Standing.{Standing}
use Rattle.orc_verdict.specs.declared.position.Standing.TheVariants.{Nothing, Stop, On, Site, Call, Par, Seq, Prune, Other}

-- whether a parameter is this value
abbrev pub is_this : Param → Value → Bool
is_this (Is v) w = value_eq v w
is_this _ w = false

-- whether the parameters are these values
abbrev pub are_these : List Param → List Value → Bool
are_these [] [] = true
are_these [] (w ∷ args) = false
are_these (p ∷ ps) [] = false
are_these (p ∷ ps) (w ∷ args) = is_this p w && are_these ps args

-- what a token stands on whose term this is. Of a call of a site it says whether an argument is void, and whether the arguments are these; of a call
-- of a definition whether there is such a definition
abbrev pub summary : List Definition → List Value → Term → Standing
summary defs args stop = Stop
summary defs args (param p) = On p
summary defs args (site m ps) = Site m (has_void ps) (are_these ps args)
summary defs args (call e ps) = Call (is_some (slice_get defs e))
summary defs args (par f g) = Par
summary defs args (seq f x g) = Seq
summary defs args (prune f x g) = Prune
summary defs args (other f g) = Other
summary defs args (pending k) = Nothing
summary defs args (opened f c g) = Nothing

-- the term on which the token of a node stands, a pending one where the node is no token
abbrev pub under : (ℕ → Term) → (ℕ → Env) → Kind → Term
under code env (Leaf (Token s f e)) = close (env e) (code f)
under code env (Leaf (Bears s v)) = param (Is v)
under code env _ = pending 0

-- the token that an entry names
abbrev pub mark_of : Entry → Option ℕ
mark_of (entry.End s) = Some s
mark_of (entry.Fork s a b) = Some s
mark_of (entry.Seq s a) = Some s
mark_of (entry.Other s a) = Some s
mark_of (entry.Def s a) = Some s
mark_of (entry.Void s) = Some s
mark_of (entry.Open s c a b) = Some s
mark_of (entry.Send s a v) = Some s
mark_of (entry.Call s k m args) = Some s
mark_of (entry.Return k a v) = None
mark_of (entry.ReturnHalt k) = None
mark_of (entry.Bind s c v) = Some s
mark_of (entry.Lost c) = None
mark_of (entry.Right s a) = None
mark_of (entry.Publish s v) = Some s
mark_of (entry.Tick t) = None
mark_of (entry.Cancel k) = None

-- the arguments of a call
abbrev pub args_of : Entry → List Value
args_of (entry.Call s k m args) = args
args_of _ = []

-- whether a `>x>` takes a publication
abbrev pub is_sent : Option Taker → Bool
is_sent (Some (Fed i)) = true
is_sent _ = false

-- whether the pruning of this cell takes a publication
abbrev pub is_bound : ℕ → Option Taker → Bool
is_bound c (Some (Bound d i)) = nat_eq d c
is_bound c _ = false

-- whether nothing takes a publication
abbrev pub is_whole : Option Taker → Bool
is_whole (Some Whole) = true
is_whole _ = false

-- whether the token is on this value
abbrev pub is_value : Value → Standing → Bool
is_value v (On (Is w)) = value_eq w v
is_value v _ = false

-- whether the token is on void, or on a call of a site with a void argument
abbrev pub is_void : Standing → Bool
is_void (On Void) = true
is_void (Site m void these) = void
is_void _ = false

-- whether the token is on a call of this site with the arguments that were asked for
abbrev pub is_call : ℕ → Standing → Bool
is_call m (Site n void these) = nat_eq n m && these
is_call m _ = false

-- whether the token is on `stop`, and below whether it is on each other kind of term
abbrev pub is_stop : Standing → Bool
is_stop Stop = true
is_stop _ = false

abbrev pub is_par : Standing → Bool
is_par Par = true
is_par _ = false

abbrev pub is_seq : Standing → Bool
is_seq Seq = true
is_seq _ = false

abbrev pub is_prune : Standing → Bool
is_prune Prune = true
is_prune _ = false

abbrev pub is_other : Standing → Bool
is_other Other = true
is_other _ = false

-- whether the token is on a call of a definition that there is
abbrev pub is_known : Standing → Bool
is_known (Call known) = known
is_known _ = false

-- whether an entry of a token fits what the token stands on and what takes its publications
abbrev pub fits_as : Entry → Standing → Option Taker → Bool
fits_as (entry.End s) k w = is_stop k
fits_as (entry.Fork s a b) k w = is_par k
fits_as (entry.Seq s a) k w = is_seq k
fits_as (entry.Other s a) k w = is_other k
fits_as (entry.Def s a) k w = is_known k
fits_as (entry.Void s) k w = is_void k
fits_as (entry.Open s c a b) k w = is_prune k
fits_as (entry.Send s a v) k w = is_value v k && is_sent w
fits_as (entry.Call s k m args) u w = is_call m u
fits_as (entry.Bind s c v) k w = is_value v k && is_bound c w
fits_as (entry.Publish s v) k w = is_value v k && is_whole w
fits_as _ k w = true
