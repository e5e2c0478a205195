-- The sites that a program calls are named by the table.
use Rattle.std.specs.Prelude.{ℕ, ◌<◌, List, [], ◌∷◌, length}
use Rattle.orc_rules.specs.declared.entry.Entry.{Entry}
use Rattle.orc_rules.specs.Term.{Term, stop, param, site, call, par, seq, prune, other, pending, opened, Definition}
use Rattle.orc_rules.specs.Marked.{Marked, ended, token, in_call, in_par, in_seq, in_opened, in_other}
use Rattle.orc_rules.specs.Nodes.{Listing, source, definitions}
use Rattle.orc_rules.specs.Sites.{Table}
use Rattle.orc_rules.specs.Text.{IsNamed}
use Rattle.orc_rules.specs.Timed.{Context}
use Rattle.orc_rules.specs.Journal.{Place, Journal, begin}

-- a term calls none but the first n sites
abbrev pub CallsWithin : ℕ → Term → Type 0
CallsWithin n stop = Unit {0}
CallsWithin n (param p) = Unit {0}
CallsWithin n (site m ps) = m < n
CallsWithin n (call e ps) = Unit {0}
CallsWithin n (par f g) = CallsWithin n f × CallsWithin n g
CallsWithin n (seq f x g) = CallsWithin n f × CallsWithin n g
CallsWithin n (prune f x g) = CallsWithin n f × CallsWithin n g
CallsWithin n (other f g) = CallsWithin n f × CallsWithin n g
CallsWithin n (pending k) = Unit {0}
CallsWithin n (opened f c g) = CallsWithin n f × CallsWithin n g

-- nor do the bodies of definitions
abbrev pub BodiesCallWithin : ℕ → List Definition → Type 0
BodiesCallWithin n [] = Unit {0}
BodiesCallWithin n (d ∷ ds) = CallsWithin n d.body × BodiesCallWithin n ds

-- nor does what stands under marks and on right sides
abbrev pub MarksWithin : ℕ → Marked → Type 0
MarksWithin n ended = Unit {0}
MarksWithin n (token s t) = CallsWithin n t
MarksWithin n (in_call k) = Unit {0}
MarksWithin n (in_par f g) = MarksWithin n f × MarksWithin n g
MarksWithin n (in_seq f x g) = MarksWithin n f × CallsWithin n g
MarksWithin n (in_opened f c g) = MarksWithin n f × MarksWithin n g
MarksWithin n (in_other m f g) = MarksWithin n f × CallsWithin n g

-- the table has a name for each site that a program calls
abbrev pub HasNames : Listing → Table → Type 0
HasNames l t = CallsWithin (length t.names) (source l) × BodiesCallWithin (length t.names) (definitions l)

-- the sites of all calls among these entries have names
abbrev pub AreNamed : List (List ℕ) → List Entry → Type 0
AreNamed names [] = Unit {0}
AreNamed names (e ∷ es) = IsNamed names e × AreNamed names es

-- each call in a journal of a program is of a site that has a name, if each site that the program calls has one
abbrev pub CallsAreNamed : Type 0
CallsAreNamed = (x : Context) (t : Term) (names : List (List ℕ)) (es : List Entry) (p : Place) → CallsWithin (length names) t → BodiesCallWithin (length names) x.definitions → Journal x (begin t) es p → AreNamed names es
