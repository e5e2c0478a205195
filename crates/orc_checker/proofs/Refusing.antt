-- Why what is refused is refused rightly.
use Rattle.std.proofs.Common.{◌≡◌, ℕ, zero, suc, List, [], length, Some, refl, sym, ap, ◌∙◌, subst, Bool, false, arith, ◌<◌, Option, Result, Ok, Err, IfErr}
use Rattle.std.specs.Prelude.{slice_get}
use Rattle.orc_rules.specs.declared.value.Value.{Value}
use Rattle.orc_rules.specs.declared.value.Answer.{Answer}
use Rattle.orc_rules.specs.declared.param.Operand.{Operand}
use Rattle.orc_rules.specs.declared.param.Param.{Param}
use Rattle.orc_rules.specs.declared.param.Param.TheVariants.{Is}
use Rattle.orc_rules.specs.declared.entry.Entry.{Entry}
use Rattle.orc_rules.specs.declared.entry.Entry.TheVariants as entry
use Rattle.orc_rules.specs.declared.entry.RuleFault.{RuleFault}
use Rattle.orc_rules.specs.declared.entry.RuleFault.TheVariants as reason
use Rattle.orc_rules.specs.declared.program.TermNode.{TermNode}
use Rattle.orc_rules.specs.declared.program.TermNode.TheVariants as node
use Rattle.orc_rules.specs.Term.{Term, values_of, stop, param, site, call, par, seq, prune, other, pending, opened}
use Rattle.orc_rules.specs.Idle.{can_move, has_halted}
use Rattle.orc_rules.specs.Lost.{ProgramIsSource}
use Rattle.orc_rules.specs.Marked.{token, erase}
use Rattle.orc_rules.specs.Nodes.{Listing, code, definitions, source, param_of, unfold_node}
use Rattle.orc_rules.specs.Numbered.{IsNumbered, mark, cell}
use Rattle.orc_rules.specs.Sites.{Table}
use Rattle.orc_rules.specs.Timed.{Context, IsDue}
use Rattle.orc_rules.specs.Journal.{Place, moment, IsVoid}
use Rattle.orc_rules.specs.Refusal.{Stands, HasToken, IsAnswer, Meets}
use Rattle.orc_rules.specs.Tests.{TickByTest}
use Rattle.orc_rules.proofs.Idle.{halted_test}
use Rattle.orc_rules.proofs.Standing.{cell_one, other_one, token_one}
use Rattle.orc_calls.specs.Due.{IsNotDue}
use Rattle.orc_env.specs.Names.{AreOrdered}
use Rattle.orc_env.specs.Scopes.{Env, close, env_of}
use Rattle.orc_env.proofs.Closing.{close-stop, close-par, close-other, close-seq, close-prune}
use Rattle.orc_env.proofs.Scopes.{close-of-param, close-site, close-call}
use Rattle.orc_env.proofs.Reached.{reached_numbered}
use Rattle.orc_term.specs.declared.arena.Kind.TheVariants.{Leaf, One, Two}
use Rattle.orc_term.specs.declared.arena.Single.TheVariants.{Entered}
use Rattle.orc_term.specs.declared.arena.Double.TheVariants.{Side}
use Rattle.orc_checker.specs.declared.rest.Called.{Called}
use Rattle.orc_term.specs.declared.arena.Tip.TheVariants.{Token, Bears}
use Rattle.orc_term.specs.Arena.{at}
use Rattle.orc_checker.specs.Calls.{IsCall, IsDueNow}
use Rattle.orc_checker.specs.Checker.{State, Spells, context, numbers, IsReached}
use Rattle.orc_checker.specs.NextDue.{IsNext}
use Rattle.orc_checker.specs.Refusing.{IsRightlyRefused, Lacks, LacksSpot, NoToken, Presumes}
use Rattle.orc_term.specs.Settling.{flag}
use Rattle.orc_checker.proofs.CallsMade.{kept_length}
use Rattle.orc_checker.proofs.KeptCalls.{answer_found, due_found}
use Rattle.orc_checker.proofs.Offered.{token_stands}
use Rattle.orc_checker.proofs.Parts.{no_token}
use Rattle.orc_checker.proofs.Shown.{shown}
use Rattle.orc_checker.proofs.Ticking.{next_is}

length-numbers : (n : ℕ) → length (numbers n) ≡ n
length-numbers zero = refl
length-numbers (suc n) = ap suc (length-numbers n)

-- what kind of term a term is
abbrev pub sort : Term → ℕ
sort stop = 0
sort (param p) = 1
sort (site m ps) = 2
sort (call e ps) = 3
sort (par f g) = 4
sort (seq f x g) = 5
sort (prune f x g) = 6
sort (other f g) = 7
sort (pending k) = 8
sort (opened f c g) = 9

-- the same of a program's node
abbrev pub node_sort : TermNode → ℕ
node_sort node.Stop = 0
node_sort (node.Operand p) = 1
node_sort (node.Site m l) = 2
node_sort (node.Call e l) = 3
node_sort (node.Par f g) = 4
node_sort (node.Seq f x g) = 5
node_sort (node.Prune f x g) = 6
node_sort (node.Other f g) = 7

sort_is : (e : Env) (terms : ℕ → Term) (lists : List (List Operand)) (n : TermNode) → sort (close e (unfold_node terms lists n)) ≡ node_sort n
sort_is e terms lists node.Stop = ap sort (close-stop e)
sort_is e terms lists (node.Operand p) = ap sort (close-of-param e (param_of p))
sort_is e terms lists (node.Site m l) = ap sort (close-site e m _)
sort_is e terms lists (node.Call m l) = ap sort (close-call e m _)
sort_is e terms lists (node.Par f g) = ap sort (close-par e (terms f) (terms g))
sort_is e terms lists (node.Seq f x g) = ap sort (close-seq e (terms f) x (terms g))
sort_is e terms lists (node.Prune f x g) = ap sort (close-prune e (terms f) x (terms g))
sort_is e terms lists (node.Other f g) = ap sort (close-other e (terms f) (terms g))

-- what kind of term a token on a program's node stands on
pub sort_under : (e : Env) (terms : ℕ → Term) (lists : List (List Operand)) (n : TermNode) (t : Term) → t ≡ unfold_node terms lists n → sort (close e t) ≡ node_sort n
sort_under e terms lists n t is = ap (λ z. sort (close e z)) is ∙ sort_is e terms lists n

module _ (l : Listing) (t : Table) (cancels : Bool) (s : State) (p : Place) (r : IsReached (context l t cancels) (source l) p) (sp : Spells (context l t cancels) (code l) s p) where
  abbrev x : Context
  x = context l t cancels

  numbered : IsNumbered p
  numbered = reached_numbered l t.sites cancels r.0 p r.1

  -- the term on which a token stands that was found on a node of the program
  pub stands_on : (m i q f e : ℕ) → at s.nodes q i (Leaf (Token m f e)) → (u : Term) → Stands (token m u) p.marked → close (env_of s.cells s.scopes e) (code l f) ≡ u
  stands_on m i q f e a u st = token_one m _ u p.marked (IsNumbered.single numbered (mark m)) (token_stands x l s p sp q i (Token m f e) a refl m _ refl) st

  -- a token that isn't found, where an entry asks for it
  pub lacks_token : (m : ℕ) (why : RuleFault) → Lacks s (NoToken s.nodes m) why → (e : Entry) → (Meets x p e reason.Cancel → p.to_cancel ≡ []) → (Meets x p e reason.Mark → HasToken p m) → Meets x p e why → ⊥
  lacks_token m reason.Cancel lacks e free there h = lacks (sym sp.rest.due ∙ free h)
  lacks_token m reason.Mark lacks e free there h = no_token x (code l) s p sp m lacks (there h)
  lacks_token m _ lacks e free there h = absurd lacks

  -- no token is found on a node of the program, where an entry asks for one that stands on no value
  pub lacks_spot : (m : ℕ) (why : RuleFault) → LacksSpot s m why → (e : Entry) → (Meets x p e reason.Cancel → p.to_cancel ≡ []) → (Meets x p e reason.Mark → HasToken p m)
      → (Meets x p e reason.Form → (u : Term) × Stands (token m u) p.marked × ((v : Value) → u ≡ param (Is v) → ⊥)) → Meets x p e why → ⊥
  lacks_spot m reason.Cancel lacks e free there form h = lacks_token m reason.Cancel lacks e free there h
  lacks_spot m reason.Mark lacks e free there form h = lacks_token m reason.Mark lacks e free there h
  lacks_spot m reason.Form lacks e free there form h =
      let u = form h in
      u.2 lacks.2 (sym (token_one m (param (Is lacks.2)) u.0 p.marked (IsNumbered.single numbered (mark m)) (token_stands x l s p sp lacks.0 lacks.1 (Bears m lacks.2) lacks.3 refl m (param (Is lacks.2)) refl) u.1))
  lacks_spot m _ lacks e free there form h = absurd lacks

-- what is refused for this reason
pub refused_for : (l : Listing) (t : Table) (e : Entry) (s : State) (why why' : RuleFault) → why ≡ why' → IsRightlyRefused l t e s why' → IsRightlyRefused l t e s why
refused_for l t e s why why' is h = subst (IsRightlyRefused l t e s) (sym is) h

-- an entry asks for a token, no cancel due, that stands on a term of this form
pub record Asks (e : Entry) (m : ℕ) (Form : Term → Type 0) : Type 0 where
  pub free : (x : Context) (p : Place) → Meets x p e reason.Cancel → p.to_cancel ≡ []
  pub there : (x : Context) (p : Place) → Meets x p e reason.Mark → HasToken p m
  pub form : (x : Context) (p : Place) → Meets x p e reason.Form → (u : Term) × Stands (token m u) p.marked × Form u

abbrev pub HasSort : ℕ → Term → Type 0
HasSort k u = sort u ≡ k

pub asks_end : (m : ℕ) → Asks (entry.End m) m (HasSort 0)
asks_end m = record { free = λ x p h. h; there = λ x p h. h; form = λ x p h. (stop, h, refl) }

pub asks_fork : (m a b : ℕ) → Asks (entry.Fork m a b) m (HasSort 4)
asks_fork m a b = record { free = λ x p h. h; there = λ x p h. h; form = λ x p h. (par h.0 h.1, h.2, refl) }

pub asks_seq : (m a : ℕ) → Asks (entry.Seq m a) m (HasSort 5)
asks_seq m a = record { free = λ x p h. h; there = λ x p h. h; form = λ x p h. (seq h.0 h.2 h.1, h.3, refl) }

pub asks_other : (m a : ℕ) → Asks (entry.Other m a) m (HasSort 7)
asks_other m a = record { free = λ x p h. h; there = λ x p h. h; form = λ x p h. (other h.0 h.1, h.2, refl) }

pub asks_void : (m : ℕ) → Asks (entry.Void m) m IsVoid
asks_void m = record { free = λ x p h. h; there = λ x p h. h; form = λ x p h. (h.0, h.2, h.1) }

-- a call of this site with these values
abbrev pub IsCallOf : ℕ → List Value → Term → Type 0
IsCallOf n args u = (ps : List Param) × (values_of ps ≡ Some args) × (u ≡ site n ps)

pub asks_call : (m k n : ℕ) (args : List Value) → Asks (entry.Call m k n args) m (IsCallOf n args)
asks_call m k n args = record { free = λ x p h. h; there = λ x p h. h; form = λ x p h. (site n h.0, h.2, (h.0, h.1, refl)) }

pub asks_def : (m a : ℕ) → Asks (entry.Def m a) m (HasSort 3)
asks_def m a = record { free = λ x p h. h; there = λ x p h. h; form = λ x p h. (call h.0 h.1, h.4, refl) }

pub asks_open : (m c a b : ℕ) → Asks (entry.Open m c a b) m (HasSort 6)
asks_open m c a b = record { free = λ x p h. h; there = λ x p h. h; form = λ x p h. (prune h.0 h.2 h.1, h.3, refl) }

module _ (l : Listing) (t : Table) (e : Entry) (s : State) where
  -- its token isn't found on a node of the program
  pub spot_refused : (m : ℕ) (Form : Term → Type 0) (why : RuleFault) → Asks e m Form → ((v : Value) → Form (param (Is v)) → ⊥) → LacksSpot s m why → IsRightlyRefused l t e s why
  spot_refused m Form why asks off lacks not_memory cancels p r sp h =
      lacks_spot l t cancels s p r sp m why lacks e (asks.free (context l t cancels) p) (asks.there (context l t cancels) p)
      (λ f. let u = asks.form (context l t cancels) p f in (u.0, u.1, λ v is. off v (subst Form is u.2))) h

  -- its token stands on another term
  pub form_refused : (m i q f o : ℕ) (Form : Term → Type 0) → Asks e m Form → at s.nodes q i (Leaf (Token m f o)) → (AreOrdered s.scopes → Form (close (env_of s.cells s.scopes o) (code l f)) → ⊥) → IsRightlyRefused l t e s reason.Form
  form_refused m i q f o Form asks a off not_memory cancels p r sp h =
      let u = asks.form (context l t cancels) p h in
      off sp.scopes (subst Form (sym (stands_on l t cancels s p r sp m i q f o a u.0 u.1)) u.2)

  -- its token stands on another kind of node
  pub sort_refused : (m i q f o k : ℕ) (n : TermNode) → Asks e m (HasSort k) → at s.nodes q i (Leaf (Token m f o)) → code l f ≡ unfold_node (code l) l.lists n → (node_sort n ≡ k → ⊥) → IsRightlyRefused l t e s reason.Form
  sort_refused m i q f o k n asks a is off =
      form_refused m i q f o (HasSort k) asks a (λ ordered h. off (sym (sort_under (env_of s.cells s.scopes o) (code l) l.lists n (code l f) is) ∙ h))

  -- its number isn't the next mark
  pub mark_refused : (a : ℕ) → ((x : Context) (p : Place) → Meets x p e reason.Number → a ≡ p.mark) → (a ≡ length s.marks → ⊥) → IsRightlyRefused l t e s reason.Number
  mark_refused a next off not_memory cancels p r sp h = off (next (context l t cancels) p h ∙ sp.mark)

  -- its number isn't the next cell
  pub cell_refused : (c : ℕ) → ((x : Context) (p : Place) → Meets x p e reason.Number → c ≡ suc (length p.cells)) → (c ≡ length s.cells → ⊥) → IsRightlyRefused l t e s reason.Number
  cell_refused c next off not_memory cancels p r sp h = off (next (context l t cancels) p h ∙ ap suc (ap length sp.cells.2 ∙ length-numbers sp.cells.0) ∙ sym sp.cells.1)

  -- its number isn't the next call
  pub call_refused : (k : ℕ) → ((x : Context) (p : Place) → Meets x p e reason.Number → k ≡ suc (length p.calls)) → (k ≡ suc (length s.rest.calls) → ⊥) → IsRightlyRefused l t e s reason.Number
  call_refused k next off not_memory cancels p r sp h =
      let x = context l t cancels in
      off (next x p h ∙ ap suc (sym (kept_length x p.now p.calls p.to_cancel s.rest sp.rest)))

  -- its other number isn't the one after that
  pub after_refused : (a b : ℕ) → ((x : Context) (p : Place) → Meets x p e reason.Number → b ≡ suc a) → (b ≡ suc a → ⊥) → IsRightlyRefused l t e s reason.Number
  after_refused a b next off not_memory cancels p r sp h = off (next (context l t cancels) p h)

module _ (l : Listing) (t : Table) (e : Entry) (s : State) where
  -- what it names isn't found
  pub lacks_refused : (Missing : Type 0) (why : RuleFault) → Lacks s Missing why → ((x : Context) (p : Place) → Meets x p e reason.Cancel → p.to_cancel ≡ []) → ((x : Context) (p : Place) → Spells x (code l) s p → Meets x p e reason.Mark → Missing → ⊥) → IsRightlyRefused l t e s why
  lacks_refused Missing reason.Cancel lacks free there not_memory cancels p r sp h = lacks (sym sp.rest.due ∙ free (context l t cancels) p h)
  lacks_refused Missing reason.Mark lacks free there not_memory cancels p r sp h = there (context l t cancels) p sp h lacks
  lacks_refused Missing _ lacks free there not_memory cancels p r sp h = absurd lacks

  -- its call has another answer, or is due at another time
  pub answer_refused : (k : ℕ) (c : Called) (a : Answer) (now : ℕ) (why : RuleFault) → IsCall s.rest k c → now ≡ s.rest.time → IsNotDue c.at c.found a now why → ((x : Context) (p : Place) → Meets x p e reason.Answer → IsAnswer x p k a) → ((x : Context) (p : Place) → Meets x p e reason.Time → IsDue x.sites p.calls k a p.now)
      → IsRightlyRefused l t e s why
  answer_refused k c a now reason.Answer made is off asks times not_memory cancels p r sp h =
      cc ((answer_found (context l t cancels) (code l) s p sp k a c made false (λ z. cc z, λ z. absurd (off z.0 z.1))).1 (asks (context l t cancels) p h))
  answer_refused k c a now reason.Time made is off asks times not_memory cancels p r sp h =
      cc ((due_found (context l t cancels) (code l) s p sp k a c made false p.now refl (λ z. cc z, λ z. absurd (off.2 (subst (IsDueNow c a) (sp.rest.time ∙ sym is) z)))).1 (times (context l t cancels) p h))
  answer_refused k c a now _ made is off asks times not_memory cancels p r sp h = absurd off

-- the right side of a pruning hasn't halted
pub lost_refused : (l : Listing) (t : Table) (s : State) (c q i left right : ℕ) → at s.nodes q i (Two (Side c) left right) → flag s.flags right ≡ false → IsRightlyRefused l t (entry.Lost c) s reason.Halted
lost_refused l t s c q i left right a running not_memory cancels p r sp h =
    let w = shown (code l) s p.marked sp.drawn q i (Two (Side c) left right) a refl in
    let single = IsNumbered.single (reached_numbered l t.sites cancels r.0 p r.1) in
    let same = cell_one c h.0 h.1 w.shows.0 w.shows.1 p.marked (single (cell c)) h.2 (subst (λ z. Stands z p.marked) w.shows.2 w.stands) in
    cc (sym running ∙ w.shows.3 ∙ ap (λ z. has_halted (erase z)) (sym same.1) ∙ halted_test (erase h.1) h.3)

-- the left side of an otherwise hasn't halted
pub right_refused : (l : Listing) (t : Table) (s : State) (m n q i left g o : ℕ) → at s.nodes q i (One (Entered m g o) left) → flag s.flags left ≡ false → IsRightlyRefused l t (entry.Right m n) s reason.Halted
right_refused l t s m n q i left g o a running not_memory cancels p r sp h =
    let w = shown (code l) s p.marked sp.drawn q i (One (Entered m g o) left) a refl in
    let single = IsNumbered.single (reached_numbered l t.sites cancels r.0 p r.1) in
    let same = other_one m h.0 w.shows.0 h.1 _ p.marked (single (mark m)) h.2 (subst (λ z. Stands z p.marked) w.shows.1 w.stands) in
    cc (sym running ∙ w.shows.2 ∙ ap (λ z. has_halted (erase z)) (sym same.0) ∙ halted_test (erase h.0) h.3)

-- another cancel is due, or none
pub cancel_other : (l : Listing) (t : Table) (s : State) (k : ℕ) → (slice_get s.rest.to_cancel 0 ≡ Some k → ⊥) → IsRightlyRefused l t (entry.Cancel k) s reason.Cancel
cancel_other l t s k off not_memory cancels p r sp h = off (ap (λ z. slice_get z 0) (sym sp.rest.due ∙ h.1))

pub some_is : (a b : ℕ) → Some a ≡ Some b → a ≡ b
some_is a b e = cc e

-- a tick that the test doesn't allow
pub tick_refused : (l : Listing) (t : Table) (s : State) (time : ℕ) (due : Option ℕ) → ProgramIsSource → TickByTest → IsNext s.nodes s.rest.calls due
    → ((x : Context) (p : Place) → x.definitions ≡ definitions l → Spells x (code l) s p → can_move x.definitions (erase p.marked) ≡ false → due ≡ Some time → s.rest.time < time → ⊥) → IsRightlyRefused l t (entry.Tick time) s reason.Time
tick_refused l t s time due source law next off not_memory cancels p r sp h =
    let x = context l t cancels in
    let by = (law x (moment p) due (next_is x (code l) s p sp (source l).0 due next) time).0 h in
    off x p refl sp by.0 by.1 (subst (λ z. z < time) sp.rest.time by.2)

-- what is so of a refusal is so in other words
pub err_map : {X : Type 0} {P Q : RuleFault → Type 0} (o : Result X RuleFault) → ((why : RuleFault) → P why → Q why) → IfErr o P → IfErr o Q
err_map (Ok x) f h = tt
err_map (Err why) f h = f why h

-- a refusal of an entry is that of its kind
pub refused_so : {X : Type 0} (l : Listing) (t : Table) (e e' : Entry) (s : State) (o : Result X RuleFault) → e ≡ e' → IfErr o (λ why. Presumes l e' → IsRightlyRefused l t e' s why) → IfErr o (λ why. Presumes l e → IsRightlyRefused l t e s why)
refused_so l t e e' s o is h = subst (λ z. IfErr o (λ why. Presumes l z → IsRightlyRefused l t z s why)) (sym is) h

-- the nodes of these sorts
pub stop_node : (n : TermNode) → node_sort n ≡ 0 → n ≡ node.Stop
stop_node node.Stop h = refl
stop_node (node.Operand p) h = absurd (omega (arith, h))
stop_node (node.Site m l) h = absurd (omega (arith, h))
stop_node (node.Call e l) h = absurd (omega (arith, h))
stop_node (node.Par f g) h = absurd (omega (arith, h))
stop_node (node.Seq f x g) h = absurd (omega (arith, h))
stop_node (node.Prune f x g) h = absurd (omega (arith, h))
stop_node (node.Other f g) h = absurd (omega (arith, h))

pub operand_node : (n : TermNode) → node_sort n ≡ 1 → (p : Operand) × (n ≡ node.Operand p)
operand_node node.Stop h = absurd (omega (arith, h))
operand_node (node.Operand p) h = (p, refl)
operand_node (node.Site m l) h = absurd (omega (arith, h))
operand_node (node.Call e l) h = absurd (omega (arith, h))
operand_node (node.Par f g) h = absurd (omega (arith, h))
operand_node (node.Seq f x g) h = absurd (omega (arith, h))
operand_node (node.Prune f x g) h = absurd (omega (arith, h))
operand_node (node.Other f g) h = absurd (omega (arith, h))

pub site_node : (n : TermNode) → node_sort n ≡ 2 → (m l : ℕ) × (n ≡ node.Site m l)
site_node node.Stop h = absurd (omega (arith, h))
site_node (node.Operand p) h = absurd (omega (arith, h))
site_node (node.Site m l) h = (m, l, refl)
site_node (node.Call e l) h = absurd (omega (arith, h))
site_node (node.Par f g) h = absurd (omega (arith, h))
site_node (node.Seq f x g) h = absurd (omega (arith, h))
site_node (node.Prune f x g) h = absurd (omega (arith, h))
site_node (node.Other f g) h = absurd (omega (arith, h))

pub call_node : (n : TermNode) → node_sort n ≡ 3 → (e l : ℕ) × (n ≡ node.Call e l)
call_node node.Stop h = absurd (omega (arith, h))
call_node (node.Operand p) h = absurd (omega (arith, h))
call_node (node.Site m l) h = absurd (omega (arith, h))
call_node (node.Call e l) h = (e, l, refl)
call_node (node.Par f g) h = absurd (omega (arith, h))
call_node (node.Seq f x g) h = absurd (omega (arith, h))
call_node (node.Prune f x g) h = absurd (omega (arith, h))
call_node (node.Other f g) h = absurd (omega (arith, h))

pub par_node : (n : TermNode) → node_sort n ≡ 4 → (f g : ℕ) × (n ≡ node.Par f g)
par_node node.Stop h = absurd (omega (arith, h))
par_node (node.Operand p) h = absurd (omega (arith, h))
par_node (node.Site m l) h = absurd (omega (arith, h))
par_node (node.Call e l) h = absurd (omega (arith, h))
par_node (node.Par f g) h = (f, g, refl)
par_node (node.Seq f x g) h = absurd (omega (arith, h))
par_node (node.Prune f x g) h = absurd (omega (arith, h))
par_node (node.Other f g) h = absurd (omega (arith, h))

pub seq_node : (n : TermNode) → node_sort n ≡ 5 → (f x g : ℕ) × (n ≡ node.Seq f x g)
seq_node node.Stop h = absurd (omega (arith, h))
seq_node (node.Operand p) h = absurd (omega (arith, h))
seq_node (node.Site m l) h = absurd (omega (arith, h))
seq_node (node.Call e l) h = absurd (omega (arith, h))
seq_node (node.Par f g) h = absurd (omega (arith, h))
seq_node (node.Seq f x g) h = (f, x, g, refl)
seq_node (node.Prune f x g) h = absurd (omega (arith, h))
seq_node (node.Other f g) h = absurd (omega (arith, h))

pub prune_node : (n : TermNode) → node_sort n ≡ 6 → (f x g : ℕ) × (n ≡ node.Prune f x g)
prune_node node.Stop h = absurd (omega (arith, h))
prune_node (node.Operand p) h = absurd (omega (arith, h))
prune_node (node.Site m l) h = absurd (omega (arith, h))
prune_node (node.Call e l) h = absurd (omega (arith, h))
prune_node (node.Par f g) h = absurd (omega (arith, h))
prune_node (node.Seq f x g) h = absurd (omega (arith, h))
prune_node (node.Prune f x g) h = (f, x, g, refl)
prune_node (node.Other f g) h = absurd (omega (arith, h))

pub other_node : (n : TermNode) → node_sort n ≡ 7 → (f g : ℕ) × (n ≡ node.Other f g)
other_node node.Stop h = absurd (omega (arith, h))
other_node (node.Operand p) h = absurd (omega (arith, h))
other_node (node.Site m l) h = absurd (omega (arith, h))
other_node (node.Call e l) h = absurd (omega (arith, h))
other_node (node.Par f g) h = absurd (omega (arith, h))
other_node (node.Seq f x g) h = absurd (omega (arith, h))
other_node (node.Prune f x g) h = absurd (omega (arith, h))
other_node (node.Other f g) h = (f, g, refl)
