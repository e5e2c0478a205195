-- Why an entry is refused.
use Rattle.std.specs.Prelude.{◌≡◌, ℕ, suc, ◌<◌, ◌≤◌, max, List, [], ◌∷◌, Some, slice_get}
use Rattle.orc_rules.specs.declared.limits.TheConstants.{MOST_LEVELS}
use Rattle.orc_rules.specs.declared.param.Param.{Param}
use Rattle.orc_rules.specs.declared.value.Answer.{Answer}
use Rattle.orc_rules.specs.declared.value.Answer.TheVariants.{Value as Gives, Halt}
use Rattle.orc_rules.specs.declared.value.Found.TheVariants.{After}
use Rattle.orc_rules.specs.declared.entry.Entry.{Entry}
use Rattle.orc_rules.specs.declared.entry.Entry.TheVariants.{End, Fork, Seq, Other, Def, Open, Send, Call, Return, ReturnHalt, Bind, Lost, Right, Publish, Tick, Cancel}
use Rattle.orc_rules.specs.declared.entry.Entry.TheVariants as entry
use Rattle.orc_rules.specs.declared.entry.RuleFault.{RuleFault}
use Rattle.orc_rules.specs.declared.entry.RuleFault.TheVariants.{Mark, Form, Number, Time, Deep, Memory}
use Rattle.orc_rules.specs.declared.entry.RuleFault.TheVariants as reason
use Rattle.orc_rules.specs.Term.{Term, stop, site, call, par, seq, prune, other, opened, Definition, values_of, Halted}
use Rattle.orc_rules.specs.Step.{silent, publishes, binds}
use Rattle.orc_rules.specs.Marked.{Marked, token, in_call, in_opened, in_other, erase, Replaces, Emits}
use Rattle.orc_rules.specs.Timed.{Context, CallMade, IsIn, IsDue, IsTick, says_of}
use Rattle.orc_rules.specs.Journal.{Place, moment, next, IsVoid, Leads}

-- x is a part of m
abbrev pub Stands : Marked → Marked → Type 0
Stands x m = (cs : List ℕ) × Replaces x x m cs m

-- a token has the mark s
abbrev pub HasToken : Place → ℕ → Type 0
HasToken p s = (t : Term) × Stands (token s t) p.marked

-- call k is pending
abbrev pub HasCall : Place → ℕ → Type 0
HasCall p k = Stands (in_call k) p.marked

-- the pruning with cell c is open
abbrev pub HasCell : Place → ℕ → Type 0
HasCell p c = (f g : Marked) × Stands (in_opened f c g) p.marked

-- the otherwise s is there: its left side was entered and has published nothing yet
abbrev pub HasOther : Place → ℕ → Type 0
HasOther p s = (f : Marked) × (g : Term) × Stands (in_other s f g) p.marked

-- the token, pending call, cell or otherwise that an entry names is there
abbrev pub IsThere : Place → Entry → Type 0
IsThere p (End s) = HasToken p s
IsThere p (Fork s a b) = HasToken p s
IsThere p (Seq s a) = HasToken p s
IsThere p (Other s a) = HasToken p s
IsThere p (Def s a) = HasToken p s
IsThere p (entry.Void s) = HasToken p s
IsThere p (Open s c a b) = HasToken p s
IsThere p (Send s a v) = HasToken p s
IsThere p (Call s k m args) = HasToken p s
IsThere p (Return k a v) = HasCall p k
IsThere p (ReturnHalt k) = HasCall p k
IsThere p (Bind s c v) = HasToken p s × HasCell p c
IsThere p (Lost c) = HasCell p c
IsThere p (Right s a) = HasOther p s
IsThere p (Publish s v) = HasToken p s
IsThere p (Tick t) = Unit {0}
IsThere p (Cancel k) = Unit {0}

-- the kind of term, the name, the arguments, the value and the taker are the entry's
abbrev pub Fits : Context → Place → Entry → Type 0
Fits x p (End s) = Stands (token s stop) p.marked
Fits x p (Fork s a b) = (f g : Term) × Stands (token s (par f g)) p.marked
Fits x p (Seq s a) = (f g : Term) × (z : ℕ) × Stands (token s (seq f z g)) p.marked
Fits x p (Other s a) = (f g : Term) × Stands (token s (other f g)) p.marked
Fits x p (Def s a) = (e : ℕ) × (ps : List Param) × (d : Definition) × (slice_get x.definitions e ≡ Some d) × Stands (token s (call e ps)) p.marked
Fits x p (entry.Void s) = (t : Term) × IsVoid t × Stands (token s t) p.marked
Fits x p (Open s c a b) = (f g : Term) × (z : ℕ) × Stands (token s (prune f z g)) p.marked
Fits x p (Send s a v) = (m : Marked) × Emits s a v p.marked silent m
Fits x p (Call s k m args) = (ps : List Param) × (values_of ps ≡ Some args) × Stands (token s (site m ps)) p.marked
Fits x p (Bind s c v) = (m : Marked) × Emits s p.mark v p.marked (binds c v) m
Fits x p (Publish s v) = (m : Marked) × Emits s p.mark v p.marked (publishes v) m
Fits x p _ = Unit {0}

-- the new numbers are the next ones
abbrev pub IsCounted : Place → Entry → Type 0
IsCounted p (Fork s a b) = (a ≡ p.mark) × (b ≡ suc a)
IsCounted p (Seq s a) = a ≡ p.mark
IsCounted p (Other s a) = a ≡ p.mark
IsCounted p (Def s a) = a ≡ p.mark
IsCounted p (Open s c a b) = (c ≡ next p.cells) × (a ≡ p.mark) × (b ≡ suc a)
IsCounted p (Send s a v) = a ≡ p.mark
IsCounted p (Call s k m args) = k ≡ next p.calls
IsCounted p (Return k a v) = a ≡ p.mark
IsCounted p (Right s a) = a ≡ p.mark
IsCounted p _ = Unit {0}

-- the table's answer to call k
abbrev pub IsAnswer : Context → Place → ℕ → Answer → Type 0
IsAnswer x p k a = (c : CallMade) × (d : ℕ) × IsIn c p.calls × (c.number ≡ k) × (says_of x.sites c ≡ After a d)

-- while a cancel is due the entry is the least of those due, and else it is no cancel
abbrev pub IsInTurn : Place → Entry → Type 0
IsInTurn p (Cancel k) = (ks : List ℕ) × (p.to_cancel ≡ k ∷ ks)
IsInTurn p _ = p.to_cancel ≡ []

-- a return has the table's answer
abbrev pub IsAnswered : Context → Place → Entry → Type 0
IsAnswered x p (Return k a v) = IsAnswer x p k (Gives v)
IsAnswered x p (ReturnHalt k) = IsAnswer x p k Halt
IsAnswered x p _ = Unit {0}

-- a return stands at its due time, and a tick is allowed
abbrev pub IsOnTime : Context → Place → Entry → Type 0
IsOnTime x p (Return k a v) = IsDue x.sites p.calls k (Gives v) p.now
IsOnTime x p (ReturnHalt k) = IsDue x.sites p.calls k Halt p.now
IsOnTime x p (Tick t) = IsTick x (moment p) t
IsOnTime x p _ = Unit {0}

-- the side that an entry leaves has halted
abbrev pub IsOver : Place → Entry → Type 0
IsOver p (Lost c) = (f g : Marked) × Stands (in_opened f c g) p.marked × Halted (erase g)
IsOver p (Right s a) = (f : Marked) × (g : Term) × Stands (in_other s f g) p.marked × Halted (erase f)
IsOver p _ = Unit {0}

-- the condition of an entry that each reason finds broken; Deep and Memory are no conditions of an entry
abbrev pub Meets : Context → Place → Entry → RuleFault → Type 0
Meets x p e reason.Cancel = IsInTurn p e
Meets x p e Mark = IsThere p e
Meets x p e Form = Fits x p e
Meets x p e Number = IsCounted p e
Meets x p e reason.Answer = IsAnswered x p e
Meets x p e Time = IsOnTime x p e
Meets x p e reason.Halted = IsOver p e
Meets x p e Deep = Unit {0}
Meets x p e Memory = Unit {0}

-- how deep a term nests
abbrev pub depth : Term → ℕ
depth (par f g) = suc (max (depth f) (depth g))
depth (seq f x g) = suc (max (depth f) (depth g))
depth (prune f x g) = suc (max (depth f) (depth g))
depth (other f g) = suc (max (depth f) (depth g))
depth (opened f c g) = suc (max (depth f) (depth g))
depth _ = 1

-- the conditions of all reasons before this one are met
abbrev pub MeetsBefore : Context → Place → Entry → RuleFault → Type 0
MeetsBefore x p e reason.Cancel = Unit {0}
MeetsBefore x p e Mark = Meets x p e reason.Cancel
MeetsBefore x p e Form = Meets x p e reason.Cancel × Meets x p e Mark
MeetsBefore x p e Number = Meets x p e reason.Cancel × Meets x p e Mark × Meets x p e Form
MeetsBefore x p e reason.Answer = Meets x p e reason.Cancel × Meets x p e Mark × Meets x p e Form × Meets x p e Number
MeetsBefore x p e Time = Meets x p e reason.Cancel × Meets x p e Mark × Meets x p e Form × Meets x p e Number × Meets x p e reason.Answer
MeetsBefore x p e reason.Halted = Meets x p e reason.Cancel × Meets x p e Mark × Meets x p e Form × Meets x p e Number × Meets x p e reason.Answer × Meets x p e Time
MeetsBefore x p e _ = Meets x p e reason.Cancel × Meets x p e Mark × Meets x p e Form × Meets x p e Number × Meets x p e reason.Answer × Meets x p e Time × Meets x p e reason.Halted

-- the checker takes the entry: it leads from p to q, whose term isn't too deep
abbrev pub IsTaken : Context → Place → Entry → Place → Type 0
IsTaken x p e q = Leads x p e q × (depth (erase q.marked) ≤ MOST_LEVELS)

-- the first reason why the entry is refused at p; memory is refused only where nothing else is wrong
abbrev pub IsRefused : Context → Place → Entry → RuleFault → Type 0
IsRefused x p e Deep = (q : Place) × Leads x p e q × (MOST_LEVELS < depth (erase q.marked))
IsRefused x p e Memory = (q : Place) × IsTaken x p e q
IsRefused x p e r = MeetsBefore x p e r × (Meets x p e r → ⊥)

-- an entry leads somewhere exactly where all its conditions are met
abbrev pub MeetsAndLeads : Type 0
MeetsAndLeads = (x : Context) (p : Place) (e : Entry) → (((r : RuleFault) → Meets x p e r) → (q : Place) × Leads x p e q) × ((q : Place) → Leads x p e q → (r : RuleFault) → Meets x p e r)
