-- What nodes spell where a cell has become a value or void.
use Rattle.std.proofs.Common.{◌≡◌, ℕ, refl, ap}
use Rattle.orc_env.specs.declared.names.Bound.{Bound}
use Rattle.orc_term.specs.declared.arena.Tip.TheVariants.{Gone, Ended, Token, Bears, Waits}
use Rattle.orc_term.specs.declared.arena.Single.TheVariants.{Feeds, Entered, Passed}
use Rattle.orc_term.specs.declared.arena.Double.TheVariants.{Both, Side}
use Rattle.orc_rules.specs.Term.{Term, fill}
use Rattle.orc_rules.specs.Marked.{token, in_par, in_seq, in_opened, in_other, fill_marked}
use Rattle.orc_env.specs.Scopes.{Env, given}
use Rattle.orc_env.proofs.Filling.{fill_env, closed-fill, rest-fill}
use Rattle.orc_term.specs.Arena.{Tree, leaf, one, two, spelled}

module _ (code : ℕ → Term) (c : ℕ) (w : Bound) (stays : (i : ℕ) → fill (given w) c (code i) ≡ code i) (env env' : ℕ → Env) (filled_so : (n : ℕ) → env' n ≡ fill_env c w (env n)) where
  pub spelled-fill : (t : Tree) → spelled code env' t ≡ fill_marked (given w) c (spelled code env t)
  spelled-fill (leaf i Gone) = refl
  spelled-fill (leaf i Ended) = refl
  spelled-fill (leaf i (Token s f e)) = ap (token s) (closed-fill code c w stays env env' filled_so e f)
  spelled-fill (leaf i (Bears s v)) = refl
  spelled-fill (leaf i (Waits k)) = refl
  spelled-fill (one i (Feeds x g e) t) = λ j. in_seq (spelled-fill t j) x (rest-fill code c w stays env env' filled_so x e g j)
  spelled-fill (one i (Entered n g e) t) = λ j. in_other n (spelled-fill t j) (closed-fill code c w stays env env' filled_so e g j)
  spelled-fill (one i Passed t) = spelled-fill t
  spelled-fill (two i Both t u) = λ j. in_par (spelled-fill t j) (spelled-fill u j)
  spelled-fill (two i (Side d) t u) = λ j. in_opened (spelled-fill t j) d (spelled-fill u j)
