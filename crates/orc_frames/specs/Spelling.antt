-- What a marked term has: its tokens, its pending calls and its open sides, each with its path.
use Rattle.std.specs.Prelude.{ℕ, List, [], ◌∷◌, ◌++◌, Bool, true, false, cond, nat_eq}
use Rattle.orc_rules.specs.Term.{Term}
use Rattle.orc_rules.specs.Marked.{Marked, ended, token, in_call, in_par, in_seq, in_opened, in_other}

-- what is round a part, the innermost first: the left side of `>x> g`, the right side of cell c, the left side of otherwise n
pub data Path : Type 0 where
  whole : Path
  feeding : ℕ → Term → Path → Path
  aiding : ℕ → Path → Path
  trying : ℕ → Path → Path
  deriving Discrete as Path-discrete

-- a token with the term under it, or a call that pends, and its path
pub data Row : Type 0 where
  stands : ℕ → Term → Path → Row
  pends : ℕ → Path → Row
  deriving Discrete as Row-discrete

-- an open side: the right side of a cell, or the left side of an otherwise with its right side, and the path of the whole `f <c< g` or `f ; g`
pub data Numbered : Type 0 where
  right_of : ℕ → Path → Numbered
  left_of : ℕ → Term → Path → Numbered
  deriving Discrete as Numbered-discrete

-- the rows of a marked term that stands at a path
abbrev pub marks : Path → Marked → List Row
marks p ended = []
marks p (token s t) = stands s t p ∷ []
marks p (in_call k) = pends k p ∷ []
marks p (in_par f g) = marks p f ++ marks p g
marks p (in_seq f x g) = marks (feeding x g p) f
marks p (in_opened f c g) = marks p f ++ marks (aiding c p) g
marks p (in_other n f g) = marks (trying n p) f

-- its open sides
abbrev pub sides : Path → Marked → List Numbered
sides p ended = []
sides p (token s t) = []
sides p (in_call k) = []
sides p (in_par f g) = sides p f ++ sides p g
sides p (in_seq f x g) = sides (feeding x g p) f
sides p (in_opened f c g) = right_of c p ∷ (sides p f ++ sides (aiding c p) g)
sides p (in_other n f g) = left_of n g p ∷ sides (trying n p) f

-- the path is inside the right side of cell c
abbrev pub inside : ℕ → Path → Bool
inside c whole = false
inside c (feeding x g p) = inside c p
inside c (aiding d p) = cond (nat_eq c d) true (inside c p)
inside c (trying n p) = inside c p

-- a path in which the otherwises that a publication has left are passed over
abbrev pub seen : (ℕ → Bool) → Path → Path
seen left whole = whole
seen left (feeding x g p) = feeding x g (seen left p)
seen left (aiding c p) = aiding c (seen left p)
seen left (trying n p) = cond (left n) (seen left p) (trying n (seen left p))

-- the path is inside the left side of otherwise n
abbrev pub within : ℕ → Path → Bool
within n whole = false
within n (feeding x g p) = within n p
within n (aiding c p) = within n p
within n (trying m p) = cond (nat_eq n m) true (within n p)
