-- Which sides have halted, and when a call is due, at a place.
use Rattle.std.specs.Prelude.{◌≡◌, ℕ, Bool, true, false, Option, Some, None, cond, nat_eq}
use Rattle.orc_rules.specs.declared.value.Answer.{Answer}
use Rattle.orc_rules.specs.Term.{Term, pending_of}
use Rattle.orc_rules.specs.Idle.{has_halted}
use Rattle.orc_rules.specs.Marked.{Marked, in_opened, in_other, erase}
use Rattle.orc_rules.specs.Timed.{Context, IsIn, IsDue}
use Rattle.orc_rules.specs.Journal.{Place}
use Rattle.orc_rules.specs.Refusal.{Stands}
use Rattle.orc_term.specs.declared.arena.Kind.{Kind}
use Rattle.orc_term.specs.declared.arena.Kind.TheVariants.{One, Two}
use Rattle.orc_term.specs.declared.arena.Single.TheVariants.{Entered}
use Rattle.orc_term.specs.declared.arena.Double.TheVariants.{Side as Pruned}
use Rattle.orc_checker.specs.declared.sides.Side.{Side}
use Rattle.orc_checker.specs.declared.sides.Side.TheVariants.{Right, Left}

-- the pruning of cell c stands, and its right side has halted or not
abbrev pub RightIs : Place → ℕ → Bool → Type 0
RightIs p c b = (f g : Marked) × Stands (in_opened f c g) p.marked × (b ≡ has_halted (erase g))

-- otherwise n stands, and its left side has halted or not
abbrev pub LeftIs : Place → ℕ → Bool → Type 0
LeftIs p n b = (f : Marked) × (g : Term) × Stands (in_other n f g) p.marked × (b ≡ has_halted (erase f))

-- call k pends, and is due then with this answer
abbrev pub PendsUntil : Context → Place → ℕ → Answer × ℕ → Type 0
PendsUntil x p k d = IsIn k (pending_of (erase p.marked)) × IsDue x.sites p.calls k d.0 d.1

-- the side of this pruning or otherwise stands, and has halted
abbrev pub IsHalted : Place → Side → Type 0
IsHalted p (Right c) = RightIs p c true
IsHalted p (Left n) = LeftIs p n true

-- true of all but a pruning or an otherwise whose side has halted
abbrev pub RunsOn : Marked → Type 0
RunsOn (in_opened f c g) = has_halted (erase g) ≡ false
RunsOn (in_other n f g) = has_halted (erase f) ≡ false
RunsOn _ = Unit {0}

-- a side that has halted; none where none has that stands
abbrev pub FindsSide : Place → Option Side → Type 0
FindsSide p (Some side) = IsHalted p side
FindsSide p None = (x : Marked) → Stands x p.marked → RunsOn x

-- the side that a part is, by the node above it
abbrev pub side_of : Kind → ℕ → Option Side
side_of (Two (Pruned c) i j) p = cond (nat_eq j p) (Some (Right c)) None
side_of (One (Entered n g e) i) p = cond (nat_eq i p) (Some (Left n)) None
side_of _ p = None
