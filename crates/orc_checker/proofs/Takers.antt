-- What takes a publication of a part, in the whole marked term.
use Rattle.std.proofs.Common.{◌≡◌, ℕ, List, [], ◌∷◌, refl, subst}
use Rattle.orc_rules.specs.declared.value.Value.{Value}
use Rattle.orc_rules.specs.Term.{Term}
use Rattle.orc_rules.specs.Step.{Act, publishes, IsInner, within}
use Rattle.orc_rules.specs.Marked.{Marked, in_opened, Emits, on_feeding, is_fed, on_main, on_side, is_bound, on_entered, passes}
use Rattle.orc_rules.specs.Marked.{on_left as emits_left, on_right as emits_right}
use Rattle.orc_term.specs.declared.arena.Single.TheVariants.{Feeds, Entered, Passed}
use Rattle.orc_term.specs.declared.arena.Double.TheVariants.{Both, Side}
use Rattle.orc_term.specs.Arena.{Tree, one, two, spelled, Frame, on_one, on_left, on_right, plug}
use Rattle.orc_env.specs.Scopes.{Env}
use Rattle.orc_term.specs.Rising.{takes, act_of}

module _ (code : ℕ → Term) (env : ℕ → Env) where
  -- what is taken below stays so above
  inner_up : (k : List Frame) (t : Tree) {s a : ℕ} {v : Value} {m : Marked} (b : Act) → IsInner b → ((c : ℕ) → within c b ≡ b) → Emits s a v (spelled code env t) b m → (m' : Marked) × Emits s a v (spelled code env (plug k t)) b m'
  inner_up [] t b i w r = (_, r)
  inner_up (on_one j (Feeds x g e) ∷ k) t b i w r = inner_up k (one j (Feeds x g e) t) b i w (on_feeding i r)
  inner_up (on_one j (Entered n g e) ∷ k) t b i w r = inner_up k (one j (Entered n g e) t) b i w (on_entered i r)
  inner_up (on_one j Passed ∷ k) t b i w r = inner_up k (one j Passed t) b i w r
  inner_up (on_left j Both u ∷ k) t b i w r = inner_up k (two j Both t u) b i w (emits_left r)
  inner_up (on_left j (Side c) u ∷ k) t b i w r = inner_up k (two j (Side c) t u) b i w (on_main r)
  inner_up (on_right j Both u ∷ k) t b i w r = inner_up k (two j Both u t) b i w (emits_right r)
  inner_up (on_right j (Side c) u ∷ k) t {s} {a} {v} {m} b i w r =
      let whole = in_opened (spelled code env u) c m in
      let side : Emits s a v (spelled code env (two j (Side c) u t)) (within c b) whole = on_side i r in
      inner_up k (two j (Side c) u t) b i w (subst (λ z. Emits s a v (spelled code env (two j (Side c) u t)) z whole) (w c) side)

  -- what a part publishes goes up to what takes it
  pub emits_up : (k : List Frame) (t : Tree) {s a : ℕ} {v : Value} {m : Marked} → Emits s a v (spelled code env t) (publishes v) m → (m' : Marked) × Emits s a v (spelled code env (plug k t)) (act_of (takes k) v) m'
  emits_up [] t r = (_, r)
  emits_up (on_one j (Feeds x g e) ∷ k) t r = inner_up k (one j (Feeds x g e) t) _ tt (λ c. refl) (is_fed r)
  emits_up (on_one j (Entered n g e) ∷ k) t r = emits_up k (one j (Entered n g e) t) (passes r)
  emits_up (on_one j Passed ∷ k) t r = emits_up k (one j Passed t) r
  emits_up (on_left j Both u ∷ k) t r = emits_up k (two j Both t u) (emits_left r)
  emits_up (on_left j (Side c) u ∷ k) t r = emits_up k (two j (Side c) t u) (on_main r)
  emits_up (on_right j Both u ∷ k) t r = emits_up k (two j Both u t) (emits_right r)
  emits_up (on_right j (Side c) u ∷ k) t r = inner_up k (two j (Side c) u t) _ tt (λ d. refl) (is_bound r)
