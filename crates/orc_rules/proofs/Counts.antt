-- Counts and lists on marked terms, and the tests on plain terms.
use Rattle.std.proofs.Common.{◌≡◌, List, [], ◌++◌, refl, ap, Bool, true, false, ◌||◌, arith}
use Rattle.orc_rules.specs.Term.{Term, stop, param, site, call, par, seq, prune, other, pending, opened, Definition, pending_of}
use Rattle.orc_rules.specs.Marked.{Marked, ended, token, in_call, in_par, in_seq, in_opened, in_other, erase}
use Rattle.orc_rules.specs.Lost.{IsSource}
use Rattle.orc_rules.specs.Idle.{has_halted, can_move, movable, one}
use Rattle.orc_rules.specs.Tests.{MovesByCount}
use Rattle.orc_rules.specs.Pending.{PendingByMarks}
use Rattle.orc_rules.proofs.Idle.{or_false}

or_none : (a b : Bool) → (a ≡ false) → (b ≡ false) → (a || b) ≡ false
or_none a b e f = λ i. e i || f i

one_none : (b : Bool) → b ≡ false → one b ≡ 0
one_none b e = ap one e

none_one : (b : Bool) → one b ≡ 0 → b ≡ false
none_one true e = absurd (omega (arith, e))
none_one false e = refl

still_counts : (defs : List Definition) (m : Marked) → can_move defs (erase m) ≡ false → movable defs m ≡ 0
still_counts defs ended h = refl
still_counts defs (token s t) h = one_none (can_move defs t) h
still_counts defs (in_call k) h = refl
still_counts defs (in_par f g) h =
    let k = or_false (can_move defs (erase f)) (can_move defs (erase g)) h in
    omega (arith, still_counts defs f k.0, still_counts defs g k.1)
still_counts defs (in_seq f x g) h = still_counts defs f h
still_counts defs (in_opened f c g) h =
    let k = or_false (can_move defs (erase f)) (can_move defs (erase g) || has_halted (erase g)) h in
    let l = or_false (can_move defs (erase g)) (has_halted (erase g)) k.1 in
    omega (arith, still_counts defs f k.0, still_counts defs g l.0, one_none (has_halted (erase g)) l.1)
still_counts defs (in_other n f g) h =
    let k = or_false (can_move defs (erase f)) (has_halted (erase f)) h in
    omega (arith, still_counts defs f k.0, one_none (has_halted (erase f)) k.1)

counts_still : (defs : List Definition) (m : Marked) → movable defs m ≡ 0 → can_move defs (erase m) ≡ false
counts_still defs ended h = refl
counts_still defs (token s t) h = none_one (can_move defs t) h
counts_still defs (in_call k) h = refl
counts_still defs (in_par f g) h = or_none _ _ (counts_still defs f (omega (arith, h))) (counts_still defs g (omega (arith, h)))
counts_still defs (in_seq f x g) h = counts_still defs f h
counts_still defs (in_opened f c g) h =
    or_none _ _ (counts_still defs f (omega (arith, h))) (or_none _ _ (counts_still defs g (omega (arith, h))) (none_one (has_halted (erase g)) (omega (arith, h))))
counts_still defs (in_other n f g) h = or_none _ _ (counts_still defs f (omega (arith, h))) (none_one (has_halted (erase f)) (omega (arith, h)))

pub moves_by_count : MovesByCount
moves_by_count defs m = (still_counts defs m, counts_still defs m)

-- nothing pends in a source's term
none_pend : (t : Term) → IsSource t → pending_of t ≡ []
none_pend stop s = refl
none_pend (param p) s = refl
none_pend (site m ps) s = refl
none_pend (call e ps) s = refl
none_pend (par f g) s = λ i. none_pend f s.0 i ++ none_pend g s.1 i
none_pend (seq f x g) s = none_pend f s.0
none_pend (prune f x g) s = refl
none_pend (other f g) s = none_pend f s.0
none_pend (pending k) s = elim s [ ]
none_pend (opened f c g) s = elim s [ ]

pub pending_by_marks : PendingByMarks
pending_by_marks ended s = refl
pending_by_marks (token r t) s = none_pend t s
pending_by_marks (in_call k) s = refl
pending_by_marks (in_par f g) s = λ i. pending_by_marks f s.0 i ++ pending_by_marks g s.1 i
pending_by_marks (in_seq f x g) s = pending_by_marks f s.0
pending_by_marks (in_opened f c g) s = λ i. pending_by_marks f s.0 i ++ pending_by_marks g s.1 i
pending_by_marks (in_other n f g) s = pending_by_marks f s.0
