-- The state at the start.
use Rattle.std.proofs.Common.{◌≡◌, Bool, ℕ, zero, suc, List, [], ◌∷◌, refl, arith}
use Rattle.orc_term.specs.declared.arena.Tip.TheVariants.{Token}
use Rattle.orc_term.specs.declared.arena.Kind.TheVariants.{Leaf, One}
use Rattle.orc_term.specs.declared.arena.Single.TheVariants.{Passed}
use Rattle.orc_env.specs.declared.names.Bound.TheVariants.{Void}
use Rattle.orc_rules.specs.Nodes.{Listing, code, source}
use Rattle.orc_term.specs.Halting.{halt_flag, AreHalts}
use Rattle.orc_term.specs.Arena.{leaf, one}
use Rattle.orc_checker.specs.Checker.{State, Begins}
use Rattle.orc_env.specs.Parameters.{AreOwn}
use Rattle.orc_rules.specs.Journal.{begin}
use Rattle.orc_term.proofs.Lists.{living-push}
use Rattle.orc_term.proofs.Trees.{node}

abbrev pub first : Bool → ℕ → List Bool → Bool → State
first cancels root halts halted = record { nodes = node (One Passed 1) 0 ∷ node (Leaf (Token 1 root 0)) 0 ∷ []; scopes = []; cells = Void ∷ []; marks = 0 ∷ 1 ∷ []; halts = halts; flags = halted ∷ halted ∷ []; asked = []; rest = record { calls = []; counts = []; time = 0; to_cancel = []; cancels = cancels } }

none_own : AreOwn (Void ∷ [])
none_own zero d h = absurd (cc h)
none_own (suc c) d h = cc h

pub spells_first : (l : Listing) (cancels : Bool) (halts : List Bool) (halted : Bool) → AreHalts (code l) halts → halted ≡ halt_flag halts l.root → Begins l cancels (first cancels l.root halts halted) (begin (source l))
spells_first l cancels halts halted are is_h x is =
    record {
      drawn = record {
        tree = one 0 Passed (leaf 1 (Token 1 l.root 0));
        holds = (refl, tt, (refl, omega arith));
        root = refl;
        once = λ u. omega (arith, living-push (node (One Passed 1) 0 ∷ []) u (node (Leaf (Token 1 l.root 0)) 0) refl, living-push [] u (node (One Passed 1) 0) refl);
        top = tt;
        marked = refl;
        flags = record { are_halts = are; len = refl; each = (refl, is_h) };
      };
      mark = refl;
      scopes = λ i s h. absurd (cc h);
      cells = (0, refl, refl, none_own);
      rest = record { time = refl; calls_are = refl; counted = λ m args h. refl; numbered = tt; due = refl; cancels_are = is };
      still = λ k h. elim h [ ];
    }
