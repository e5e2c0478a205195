-- What an entry of a journal asks, and what it does.
use Rattle.std.specs.Prelude.{◌≡◌, ℕ, suc, List, [], ◌∷◌, ◌++◌, length, Option, Some, None, slice_get, ◌⊎◌}
use Rattle.std.specs.Option.{option_to_list}
use Rattle.orc_rules.specs.declared.param.Param.{Param}
use Rattle.orc_rules.specs.declared.param.Param.TheVariants.{Is, Cell, Void}
use Rattle.orc_rules.specs.declared.value.Answer.TheVariants.{Value as Gives, Halt}
use Rattle.orc_rules.specs.declared.entry.Entry.{Entry}
use Rattle.orc_rules.specs.declared.entry.Entry.TheVariants.{End, Fork, Seq, Other, Def, Open, Send, Call, Return, ReturnHalt, Bind, Lost, Right, Publish, Tick, Cancel}
use Rattle.orc_rules.specs.declared.entry.Entry.TheVariants as entry
use Rattle.orc_rules.specs.Term.{Term, stop, param, site, call, par, seq, prune, other, Definition, put, put_all, values_of, HasVoid, Halted}
use Rattle.orc_rules.specs.Step.{Act, calls, returns, binds, loses, publishes, silent, opens, Rule, ValueRule, VoidValue, SiteCall, VoidCall, ReturnRule, DefRule, SeqValue, PruneOpen, PruneBind, PruneLost, OtherHalt, rule_of}
use Rattle.orc_rules.specs.Marked.{Marked, ended, token, in_call, in_par, in_seq, in_opened, in_other, erase, fill_marked, Replaces, Emits}
use Rattle.orc_rules.specs.Timed.{Context, CallMade, Moment, IsDue, IsTick, CancelsAfter, Event, does, ticks, cancels, Does, Happens, Run, calls_after, cells_after}

-- a place: where a journal has led. It has the marked term, the next mark, the time, the calls that were made and the cells that were opened (the
-- newest first), and the calls whose cancel is due.
pub record Place : Type 0 where
  pub marked : Marked
  pub mark : ℕ
  pub now : ℕ
  pub calls : List CallMade
  pub cells : List ℕ
  pub to_cancel : List ℕ

-- the place without the marks
abbrev pub moment : Place → Moment
moment p = record { term = erase p.marked; now = p.now; calls = p.calls; cells = p.cells; to_cancel = p.to_cancel }

-- the next number of a call or a cell
abbrev pub next : {X : Type 0} → List X → ℕ
next used = suc (length used)

-- a move of marks: the part x becomes y, with new marks from the next one on
pub record Moves (p : Place) (x y : Marked) (new : ℕ) (q : Place) : Type 0 where
  pub inside : List ℕ
  pub part : Replaces x y p.marked inside q.marked
  pub same : q ≡ record p { marked = q.marked; mark = new }

-- one use of a rule: the marked term after it is q's, with `new` as the next mark
pub record Acts (x : Context) (p : Place) (a : Act) (new : ℕ) (q : Place) : Type 0 where
  pub to_cancel : CancelsAfter x a (erase p.marked) (erase q.marked) q.to_cancel
  pub same : q ≡ record { marked = q.marked; mark = new; now = p.now; calls = calls_after (moment p) a; cells = cells_after (moment p) a; to_cancel = q.to_cancel }

-- void, or a site call with a void argument
abbrev pub IsVoid : Term → Type 0
IsVoid (param v) = v ≡ Void
IsVoid (site m ps) = HasVoid ps
IsVoid _ = ⊥

-- the entry's condition and effect, but for the rule on cancels
abbrev pub Enters : Context → Place → Entry → Place → Type 0
Enters x p (End s) q = Moves p (token s stop) ended p.mark q
Enters x p (Fork s a b) q = (f g : Term) × (a ≡ p.mark) × (b ≡ suc a) × Moves p (token s (par f g)) (in_par (token a f) (token b g)) (suc b) q
Enters x p (Seq s a) q = (f g : Term) × (z : ℕ) × (a ≡ p.mark) × Moves p (token s (seq f z g)) (in_seq (token a f) z g) (suc a) q
Enters x p (Other s a) q = (f g : Term) × (a ≡ p.mark) × Moves p (token s (other f g)) (in_other s (token a f) g) (suc a) q
Enters x p (Def s a) q = (e : ℕ) × (ps : List Param) × (d : Definition) × (cs : List ℕ) × (a ≡ p.mark) × (slice_get x.definitions e ≡ Some d)
    × Replaces (token s (call e ps)) (token a (put_all d.params ps d.body)) p.marked cs q.marked × Acts x p silent (suc a) q
Enters x p (entry.Void s) q = (t : Term) × (cs : List ℕ) × IsVoid t × Replaces (token s t) ended p.marked cs q.marked × Acts x p silent p.mark q
Enters x p (Open s c a b) q = (f g : Term) × (z : ℕ) × (cs : List ℕ) × (c ≡ next p.cells) × (a ≡ p.mark) × (b ≡ suc a)
    × Replaces (token s (prune f z g)) (in_opened (token a (put (Cell c) z f)) c (token b g)) p.marked cs q.marked × Acts x p (opens c) (suc b) q
Enters x p (Send s a v) q = (a ≡ p.mark) × Emits s a v p.marked silent q.marked × Acts x p silent (suc a) q
Enters x p (Call s k m args) q = (ps : List Param) × (cs : List ℕ) × (k ≡ next p.calls) × (values_of ps ≡ Some args)
    × Replaces (token s (site m ps)) (in_call k) p.marked cs q.marked × Acts x p (calls k m args cs) p.mark q
Enters x p (Return k a v) q = (cs : List ℕ) × (a ≡ p.mark) × IsDue x.sites p.calls k (Gives v) p.now
    × Replaces (in_call k) (token a (param (Is v))) p.marked cs q.marked × Acts x p (returns k (Gives v)) (suc a) q
Enters x p (ReturnHalt k) q = (cs : List ℕ) × IsDue x.sites p.calls k Halt p.now
    × Replaces (in_call k) ended p.marked cs q.marked × Acts x p (returns k Halt) p.mark q
Enters x p (Bind s c v) q = Emits s p.mark v p.marked (binds c v) q.marked × Acts x p (binds c v) p.mark q
Enters x p (Lost c) q = (f g : Marked) × (cs : List ℕ) × Halted (erase g)
    × Replaces (in_opened f c g) (fill_marked Void c f) p.marked cs q.marked × Acts x p (loses c) p.mark q
Enters x p (Right s a) q = (f : Marked) × (g : Term) × (cs : List ℕ) × (a ≡ p.mark) × Halted (erase f)
    × Replaces (in_other s f g) (token a g) p.marked cs q.marked × Acts x p silent (suc a) q
Enters x p (Publish s v) q = Emits s p.mark v p.marked (publishes v) q.marked × Acts x p (publishes v) p.mark q
Enters x p (Tick t) q = IsTick x (moment p) t × (q ≡ record p { now = t })
Enters x p (Cancel k) q = (p.to_cancel ≡ k ∷ q.to_cancel) × (q ≡ record p { to_cancel = q.to_cancel })

-- whether the entry is a cancel
abbrev pub IsCancel : Entry → Type 0
IsCancel (Cancel k) = Unit {0}
IsCancel _ = ⊥

-- the entry is allowed at p, Deep and Memory aside, and leads to q; while a cancel is due, only a cancel
abbrev pub Leads : Context → Place → Entry → Place → Type 0
Leads x p e q = (IsCancel e ⊎ (p.to_cancel ≡ [])) × Enters x p e q

-- a journal's entries, one after another
abbrev pub Journal : Context → Place → List Entry → Place → Type 0
Journal x p [] q = p ≡ q
Journal x p (e ∷ es) q = (mid : Place) × Leads x p e mid × Journal x mid es q

-- the event that an entry names, for a call with the cells around it; none for a move of marks
abbrev pub event_of : Entry → List ℕ → Option Event
event_of (End s) cs = None
event_of (Fork s a b) cs = None
event_of (Seq s a) cs = None
event_of (Other s a) cs = None
event_of (Def s a) cs = Some (does silent)
event_of (entry.Void s) cs = Some (does silent)
event_of (Open s c a b) cs = Some (does (opens c))
event_of (Send s a v) cs = Some (does silent)
event_of (Call s k m args) cs = Some (does (calls k m args cs))
event_of (Return k a v) cs = Some (does (returns k (Gives v)))
event_of (ReturnHalt k) cs = Some (does (returns k Halt))
event_of (Bind s c v) cs = Some (does (binds c v))
event_of (Lost c) cs = Some (does (loses c))
event_of (Right s a) cs = Some (does silent)
event_of (Publish s v) cs = Some (does (publishes v))
event_of (Tick t) cs = Some (ticks t)
event_of (Cancel k) cs = Some (cancels k)

-- mark 1 on the whole of a program's term
abbrev pub begin : Term → Place
begin t = record { marked = token 1 t; mark = 2; now = 0; calls = []; cells = []; to_cancel = [] }

-- the events that a journal's entries name, in their order
abbrev pub AreEventsOf : List Entry → List Event → Type 0
AreEventsOf [] events = events ≡ []
AreEventsOf (e ∷ es) events = (cs : List ℕ) × (rest : List Event) × (events ≡ option_to_list (event_of e cs) ++ rest) × AreEventsOf es rest

-- a journal is a timed run of the term, with the events that its entries name
abbrev pub IsTimedRun : Context → Place → List Entry → Place → Type 0
IsTimedRun x p es q = (events : List Event) × AreEventsOf es events × Run x (moment p) events (moment q)

-- from a program's term on, each journal is a timed run
abbrev pub JournalIsTimedRun : Type 0
JournalIsTimedRun = (x : Context) (t : Term) (es : List Entry) (q : Place) → Journal x (begin t) es q → IsTimedRun x (begin t) es q

-- the rule that an entry uses, whatever rules around it pass it on
abbrev pub IsRuleOf : Entry → Rule → Type 0
IsRuleOf (Def s a) r = r ≡ DefRule
IsRuleOf (entry.Void s) r = (r ≡ VoidValue) ⊎ (r ≡ VoidCall)
IsRuleOf (Open s c a b) r = r ≡ PruneOpen
IsRuleOf (Send s a v) r = r ≡ SeqValue
IsRuleOf (Call s k m args) r = r ≡ SiteCall
IsRuleOf (Return k a v) r = r ≡ ReturnRule
IsRuleOf (ReturnHalt k) r = r ≡ ReturnRule
IsRuleOf (Bind s c v) r = r ≡ PruneBind
IsRuleOf (Lost c) r = r ≡ PruneLost
IsRuleOf (Right s a) r = r ≡ OtherHalt
IsRuleOf (Publish s v) r = r ≡ ValueRule
IsRuleOf _ r = ⊥

-- what an entry does to the moment: nothing, or one event; where that is a step, by the entry's rule
abbrev pub Shows : Context → Moment → Entry → Option Event → Moment → Type 0
Shows x s e None s' = s ≡ s'
Shows x s e (Some (does a)) s' = (d : Does x s a s') × IsRuleOf e (rule_of d.step)
Shows x s e (Some (ticks t)) s' = Happens x s (ticks t) s'
Shows x s e (Some (cancels k)) s' = Happens x s (cancels k) s'

-- from each place to which a journal of a program leads, each entry is the step, tick, cancel or move that it names
abbrev pub EntryIsItsStep : Type 0
EntryIsItsStep = (x : Context) (t : Term) (es : List Entry) (p : Place) (e : Entry) (q : Place) → Journal x (begin t) es p → Leads x p e q → (cs : List ℕ) × Shows x (moment p) e (event_of e cs) (moment q)

-- from a place to which a journal of a program leads, an entry leads to one place at most: the marked term is a function of the journal
abbrev pub LeadsToOne : Type 0
LeadsToOne = (x : Context) (t : Term) (es : List Entry) (p : Place) (e : Entry) (q r : Place) → Journal x (begin t) es p → Leads x p e q → Leads x p e r → q ≡ r
