-- What a token can do next, and for what it waits.
use Rattle.std.specs.Prelude.{◌≡◌, ◌++◌, ◌⊎◌, ℕ, List, map, Bool, true, false, Some, None, slice_get}
use Rattle.orc_rules.specs.declared.value.Value.{Value}
use Rattle.orc_rules.specs.declared.param.Param.{Param}
use Rattle.orc_rules.specs.declared.param.Param.TheVariants.{Cell}
use Rattle.orc_rules.specs.declared.param.Operand.{Operand}
use Rattle.orc_rules.specs.declared.entry.Entry.TheVariants as entry
use Rattle.orc_rules.specs.Term.{Term, Definition, stop, param, site, call, par, seq, prune, other, values_of}
use Rattle.orc_rules.specs.Nodes.{param_of}
use Rattle.orc_rules.specs.Idle.{can_move}
use Rattle.orc_rules.specs.Marked.{token}
use Rattle.orc_rules.specs.Timed.{Context}
use Rattle.orc_rules.specs.Journal.{Place, IsVoid}
use Rattle.orc_rules.specs.Refusal.{Stands, Fits}
use Rattle.orc_env.specs.declared.names.Bound.{Bound}
use Rattle.orc_env.specs.declared.names.Scope.{Scope}
use Rattle.orc_term.specs.declared.arena.Node.{Node}
use Rattle.orc_checker.specs.declared.next.Next.{Next}
use Rattle.orc_checker.specs.declared.next.Next.TheVariants as next
use Rattle.orc_term.specs.declared.walk.Taker.{Taker}
use Rattle.orc_term.specs.declared.walk.Taker.TheVariants.{Whole, Fed, Bound as To}
use Rattle.orc_term.specs.Rising.{IsTaker}
use Rattle.orc_checker.specs.Stillness.{params_in}

-- a variable, a value or a call of a site
abbrev pub IsAsking : Term → Type 0
IsAsking (param p) = Unit {0}
IsAsking (site m ps) = Unit {0}
IsAsking _ = ⊥

-- what a token can do on a term, but for publications
abbrev pub Allows : List Definition → Term → Next → Type 0
Allows defs t next.End = t ≡ stop
Allows defs t next.Fork = (f g : Term) × (t ≡ par f g)
Allows defs t next.Seq = (f g : Term) × (x : ℕ) × (t ≡ seq f x g)
Allows defs t next.Other = (f g : Term) × (t ≡ other f g)
Allows defs t next.Def = (e : ℕ) × (ps : List Param) × (d : Definition) × (slice_get defs e ≡ Some d) × (t ≡ call e ps)
Allows defs t next.Void = IsVoid t
Allows defs t next.Open = (f g : Term) × (x : ℕ) × (t ≡ prune f x g)
Allows defs t (next.Call m args) = (ps : List Param) × (values_of ps ≡ Some args) × (t ≡ site m ps)
Allows defs t next.Wait = IsAsking t × (can_move defs t ≡ false)
Allows defs t _ = ⊥

-- token s stands on a variable or a call of a site, and no rule can be used
abbrev pub Waits : Context → Place → ℕ → Type 0
Waits x p s = (t : Term) × Stands (token s t) p.marked × IsAsking t × (can_move x.definitions t ≡ false)

-- the entry by which the token can go on fits, whatever the new numbers; or it waits
abbrev pub Offers : Context → Place → ℕ → Next → Type 0
Offers x p s next.End = Fits x p (entry.End s)
Offers x p s next.Fork = (a b : ℕ) → Fits x p (entry.Fork s a b)
Offers x p s next.Seq = (a : ℕ) → Fits x p (entry.Seq s a)
Offers x p s next.Other = (a : ℕ) → Fits x p (entry.Other s a)
Offers x p s next.Def = (a : ℕ) → Fits x p (entry.Def s a)
Offers x p s next.Void = Fits x p (entry.Void s)
Offers x p s next.Open = (c a b : ℕ) → Fits x p (entry.Open s c a b)
Offers x p s (next.Send v) = (a : ℕ) → Fits x p (entry.Send s a v)
Offers x p s (next.Bind c v) = Fits x p (entry.Bind s c v)
Offers x p s (next.Publish v) = Fits x p (entry.Publish s v)
Offers x p s (next.Call m args) = (k : ℕ) → Fits x p (entry.Call s k m args)
Offers x p s next.Wait = Waits x p s

-- what a token on a value does, by what takes its publication
abbrev pub taken : Taker → Value → Next
taken Whole v = next.Publish v
taken (Fed i) v = next.Send v
taken (To c i) v = next.Bind c v

-- this is what a token on a value at node i does
abbrev pub IsPublished : List Node → ℕ → Value → Next → Type 0
IsPublished nodes i v n = (w : Taker) × IsTaker nodes i w × (n ≡ taken w v)

-- cell c stands at a position of a term's parameters
abbrev pub HasAt : ℕ → ℕ → Term → Type 0
HasAt i c (param p) = (i ≡ 0) × (p ≡ Cell c)
HasAt i c (site m ps) = slice_get ps i ≡ Some (Cell c)
HasAt i c _ = ⊥

-- the operand stands at a position of a program's term
abbrev pub IsOperandAt : Term → ℕ → Operand → Type 0
IsOperandAt t i o = ((i ≡ 0) × (t ≡ param (param_of o))) ⊎ ((m : ℕ) × (ps : List Operand) × (t ≡ site m (map param_of ps)) × (slice_get ps i ≡ Some o))

-- token s stands on a variable or a call of a site, with cell c at this position
abbrev pub AwaitsAt : Place → ℕ → ℕ → ℕ → Type 0
AwaitsAt p s i c = (t : Term) × Stands (token s t) p.marked × HasAt i c t

-- the values of the operands are added, where all are values
abbrev pub AddsValues : List Bound → List Scope → ℕ → List Operand → List Value → List Value → Bool → Type 0
AddsValues cells ss e ps args args' true = (vs : List Value) × (values_of (params_in cells ss e ps) ≡ Some vs) × (args' ≡ args ++ vs)
AddsValues cells ss e ps args args' false = values_of (params_in cells ss e ps) ≡ None
