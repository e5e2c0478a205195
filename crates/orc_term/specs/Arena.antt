-- What the numbered nodes of a marked term mean. A place is the number of a node; in every definition p is that of the node above.
use Rattle.std.specs.Prelude.{◌≡◌, ◌≤◌, ◌+◌, ℕ, List, [], ◌∷◌, cond, nat_eq, Option, Some, None, slice_get}
use Rattle.orc_rules.specs.declared.param.Param.TheVariants as is
use Rattle.orc_term.specs.declared.arena.Tip.{Tip}
use Rattle.orc_term.specs.declared.arena.Tip.TheVariants.{Gone, Ended, Token, Bears, Waits}
use Rattle.orc_term.specs.declared.arena.Single.{Single}
use Rattle.orc_term.specs.declared.arena.Single.TheVariants.{Feeds, Entered, Passed}
use Rattle.orc_term.specs.declared.arena.Double.{Double}
use Rattle.orc_term.specs.declared.arena.Double.TheVariants.{Both, Side}
use Rattle.orc_term.specs.declared.arena.Kind.{Kind}
use Rattle.orc_term.specs.declared.arena.Kind.TheVariants.{Leaf, One, Two}
use Rattle.orc_term.specs.declared.arena.Node.{Node}
use Rattle.orc_env.specs.Scopes.{Env, close, without}
use Rattle.orc_rules.specs.Term.{Term, param}
use Rattle.orc_rules.specs.Marked.{Marked, ended, token, in_call, in_par, in_seq, in_opened, in_other}

-- a marked term as a tree of numbered nodes: each constructor has the node's number, its kind and its parts
pub data Tree : Type 0 where
  leaf : ℕ → Tip → Tree
  one : ℕ → Single → Tree → Tree
  two : ℕ → Double → Tree → Tree → Tree

-- the number of a tree's top node
abbrev pub place : Tree → ℕ
place (leaf i k) = i
place (one i k t) = i
place (two i k t u) = i

-- 1 where the places are the same, else 0
abbrev pub hits : ℕ → ℕ → ℕ
hits u i = cond (nat_eq u i) 1 0

-- how often a place stands in a tree
abbrev pub count : ℕ → Tree → ℕ
count u (leaf i k) = hits u i
count u (one i k t) = hits u i + count u t
count u (two i k t v) = hits u i + (count u t + count u v)

-- if a node without parts names a scope, it is one of the first n
abbrev pub TipIn : ℕ → Tip → Type 0
TipIn n (Token s f e) = e ≤ n
TipIn n _ = Unit {0}

-- if a node with one part names a scope, it is one of the first n
abbrev pub SingleIn : ℕ → Single → Type 0
SingleIn n (Feeds x g e) = e ≤ n
SingleIn n (Entered m g e) = e ≤ n
SingleIn n Passed = Unit {0}

-- node i is of this kind, and below node p
abbrev pub at : List Node → ℕ → ℕ → Kind → Type 0
at nodes p i k = slice_get nodes i ≡ Some (record { kind = k; parent = p })

-- the numbered nodes are those of the tree, whose top node is below node p; there are n scopes
abbrev pub Holds : List Node → ℕ → ℕ → Tree → Type 0
Holds nodes n p (leaf i k) = at nodes p i (Leaf k) × TipIn n k
Holds nodes n p (one i k t) = at nodes p i (One k (place t)) × SingleIn n k × Holds nodes n i t
Holds nodes n p (two i k t u) = at nodes p i (Two k (place t) (place u)) × Holds nodes n i t × Holds nodes n i u

-- 0 where a node is gone, else 1
abbrev pub living_kind : Kind → ℕ
living_kind (Leaf Gone) = 0
living_kind _ = 1

-- 1 if there is a node and it isn't gone, else 0
abbrev pub living : Option Node → ℕ
living (Some n) = living_kind (Node.kind n)
living None = 0

-- each node that isn't gone stands once in the tree
abbrev pub StandOnce : List Node → Tree → Type 0
StandOnce nodes t = (u : ℕ) → count u t ≡ living (slice_get nodes u)

-- the marked term that a tree spells, given the program's term at each of its nodes and the environment of each scope
module _ (code : ℕ → Term) (env : ℕ → Env) where
  abbrev pub of_tip : Tip → Marked
  of_tip Gone = ended
  of_tip Ended = ended
  of_tip (Token s f e) = token s (close (env e) (code f))
  of_tip (Bears s v) = token s (param (is.Is v))
  of_tip (Waits k) = in_call k

  abbrev pub of_single : Single → Marked → Marked
  of_single (Feeds x g e) f = in_seq f x (close (without x (env e)) (code g))
  of_single (Entered n g e) f = in_other n f (close (env e) (code g))
  of_single Passed f = f

  abbrev pub of_double : Double → Marked → Marked → Marked
  of_double Both f g = in_par f g
  of_double (Side c) f g = in_opened f c g

  abbrev pub spelled : Tree → Marked
  spelled (leaf i k) = of_tip k
  spelled (one i k t) = of_single k (spelled t)
  spelled (two i k t u) = of_double k (spelled t) (spelled u)

-- the tree's top node is one that means just its part, as node 0 is
abbrev pub IsTopped : Tree → Type 0
IsTopped (one i Passed t) = Unit {0}
IsTopped _ = ⊥

-- one node of a tree with a hole in place of one of its parts
pub data Frame : Type 0 where
  on_one : ℕ → Single → Frame
  on_left : ℕ → Double → Tree → Frame
  on_right : ℕ → Double → Tree → Frame

-- a frame with its hole filled by a tree
abbrev pub fit : Frame → Tree → Tree
fit (on_one i k) t = one i k t
fit (on_left i k u) t = two i k t u
fit (on_right i k u) t = two i k u t

-- a tree put into the hole of the innermost frame, that one into the next, and so on
abbrev pub plug : List Frame → Tree → Tree
plug [] t = t
plug (f ∷ k) t = plug k (fit f t)
