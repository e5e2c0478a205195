-- Nothing of Orc is lost: what the rules allow, some entries do.
use Rattle.std.specs.Prelude.{◌≡◌, ℕ, List, [], ◌∷◌, map, Some}
use Rattle.orc_rules.specs.declared.entry.Entry.{Entry}
use Rattle.orc_rules.specs.declared.entry.Entry.TheVariants.{End, Fork, Seq, Other, Tick, Cancel}
use Rattle.orc_rules.specs.Term.{Term, stop, param, site, call, par, seq, prune, other, pending, opened, Definition}
use Rattle.orc_rules.specs.Nodes.{Listing, code, definitions}
use Rattle.orc_rules.specs.Step.{Act, calls, opens, Step}
use Rattle.orc_rules.specs.Marked.{Marked, ended, token, in_call, in_par, in_seq, in_opened, in_other, erase}
use Rattle.orc_rules.specs.Timed.{Context, IsTimely, IsTick, CancelsAfter, does, used, calls_after, cells_after}
use Rattle.orc_rules.specs.Journal.{Place, moment, next, Journal, Leads, event_of, begin}

-- a term that a source can have, perhaps with values and cells in place of variables: it has no pending call and no open pruning
abbrev pub IsSource : Term → Type 0
IsSource stop = Unit {0}
IsSource (param p) = Unit {0}
IsSource (site m ps) = Unit {0}
IsSource (call e ps) = Unit {0}
IsSource (par f g) = IsSource f × IsSource g
IsSource (seq f x g) = IsSource f × IsSource g
IsSource (prune f x g) = IsSource f × IsSource g
IsSource (other f g) = IsSource f × IsSource g
IsSource (pending k) = ⊥
IsSource (opened f c g) = ⊥

-- what stands under marks and on right sides is a source's
abbrev pub HoldsSource : Marked → Type 0
HoldsSource ended = Unit {0}
HoldsSource (token s t) = IsSource t
HoldsSource (in_call k) = Unit {0}
HoldsSource (in_par f g) = HoldsSource f × HoldsSource g
HoldsSource (in_seq f x g) = HoldsSource f × IsSource g
HoldsSource (in_opened f c g) = HoldsSource f × HoldsSource g
HoldsSource (in_other n f g) = HoldsSource f × IsSource g

-- the new numbers of a step are the next ones
abbrev pub TakesNext : Place → Act → Type 0
TakesNext p (calls k m args cs) = k ≡ next p.calls
TakesNext p (opens c) = c ≡ next p.cells
TakesNext p _ = Unit {0}

-- a move of marks
abbrev pub IsMove : Entry → Type 0
IsMove (End s) = Unit {0}
IsMove (Fork s a b) = Unit {0}
IsMove (Seq s a) = Unit {0}
IsMove (Other s a) = Unit {0}
IsMove _ = ⊥

abbrev pub AreMoves : List Entry → Type 0
AreMoves [] = Unit {0}
AreMoves (e ∷ es) = IsMove e × AreMoves es

-- some moves of marks, then the one entry of this act, which leaves the term u, and then the cancels that are due
pub record Makes (x : Context) (p : Place) (a : Act) (u : Term) (to_cancel : List ℕ) : Type 0 where
  pub moves : List Entry
  pub are_moves : AreMoves moves
  pub entry : Entry
  pub inside : List ℕ
  pub shows : event_of entry inside ≡ Some (does a)
  pub mid : Place
  pub end : Place
  pub moved : Journal x p moves mid
  pub leads : Leads x mid entry end
  pub term : erase end.marked ≡ u
  pub now : end.now ≡ p.now
  pub calls : end.calls ≡ calls_after (moment p) a
  pub cells : end.cells ≡ cells_after (moment p) a
  pub leaves : end.to_cancel ≡ to_cancel
  pub cancelled : Journal x end (map Cancel to_cancel) (record end { to_cancel = [] })

-- each timely step that takes the next numbers is made by entries, whatever calls it drops
abbrev pub NothingLost : Type 0
NothingLost = (x : Context) (p : Place) (a : Act) (u : Term) (to_cancel : List ℕ) → HoldsSource p.marked → p.to_cancel ≡ [] → TakesNext p a → IsTimely x.sites (moment p) a → Step x.definitions (used (moment p)) (erase p.marked) a u → CancelsAfter x a (erase p.marked) u to_cancel → Makes x p a u to_cancel

-- the bodies of a program's definitions are a source's
abbrev pub AreSource : List Definition → Type 0
AreSource [] = Unit {0}
AreSource (d ∷ ds) = IsSource d.body × AreSource ds

-- the calls that a step drops can be listed
abbrev pub CancelsExist : Type 0
CancelsExist = (x : Context) (a : Act) (t u : Term) → (to_cancel : List ℕ) × CancelsAfter x a t u to_cancel

-- each tick that a timed run allows is an entry
abbrev pub NoTickLost : Type 0
NoTickLost = (x : Context) (p : Place) (t : ℕ) → p.to_cancel ≡ [] → IsTick x (moment p) t → Leads x p (Tick t) (record p { now = t })

-- from each place to which a journal of a program leads, no step is lost
abbrev pub NothingLostFrom : Type 0
NothingLostFrom = (x : Context) (t : Term) (es : List Entry) (p : Place) (a : Act) (u : Term) → AreSource x.definitions → IsSource t → Journal x (begin t) es p → p.to_cancel ≡ [] → TakesNext p a → IsTimely x.sites (moment p) a → Step x.definitions (used (moment p)) (erase p.marked) a u → (to_cancel : List ℕ) × CancelsAfter x a (erase p.marked) u to_cancel × Makes x p a u to_cancel

-- in each place to which a journal of a program leads, what stands under marks and on right sides is a source's
abbrev pub JournalHoldsSource : Type 0
JournalHoldsSource = (x : Context) (t : Term) (es : List Entry) (p : Place) → AreSource x.definitions → IsSource t → Journal x (begin t) es p → HoldsSource p.marked

-- every term of a program's nodes is a source's, and so are the bodies of its definitions
abbrev pub ProgramIsSource : Type 0
ProgramIsSource = (l : Listing) → ((i : ℕ) → IsSource (code l i)) × AreSource (definitions l)
