-- A call of a definition becomes its body, in a scope for its parameters, and keeps the records lawful.
use Rattle.std.proofs.Common.{◌≡◌, ◌<◌, ℕ, suc, ◌+◌, List, [], ◌∷◌, ◌++◌, refl, sym, ap, ◌∙◌, arith, append-nil, length, map, false, Option, Some, None, inl, inr}
use Rattle.std.specs.Prelude.{nat_lt, slice_get, option_map}
use Rattle.orc_rules.specs.declared.param.Operand.{Operand}
use Rattle.orc_rules.specs.declared.param.Param.{Param}
use Rattle.orc_rules.specs.declared.entry.Entry.TheVariants.{Def}
use Rattle.orc_rules.specs.Term.{Term, Definition, call, put_all}
use Rattle.orc_rules.specs.Nodes.{Listing, Routine, code, definitions, param_of}
use Rattle.orc_rules.specs.Sites.{Site}
use Rattle.orc_rules.specs.Marked.{token}
use Rattle.orc_rules.specs.Timed.{IsIn}
use Rattle.orc_rules.specs.Journal.{Place, Leads}
use Rattle.orc_env.specs.declared.names.Scope.{Scope}
use Rattle.orc_env.specs.Scopes.{close, close_param, env_of}
use Rattle.orc_env.proofs.Scopes.{close-call}
use Rattle.orc_graph.specs.Ranges.{params_at, params_or_none}
use Rattle.orc_frames.specs.Spelling.{stands}
use Rattle.orc_ledger_spec.specs.Records.{Records, Lawful, context, its_env, its_path, token_row, token_out}
use Rattle.orc_ledger_spec.specs.Calls.{born}
use Rattle.orc_ledger_spec.specs.Next.{AreGrouped, numbers_of}
use Rattle.orc_env.specs.Parameters.{Adds}
use Rattle.orc_ledger_spec.specs.Parameters.{IsDefined}
use Rattle.orc_tables.specs.declared.records.Standing.TheVariants.{At}
use Rattle.orc_tables.specs.declared.records.Token.{Token}
use Rattle.orc_frames.proofs.Around.{plug, cells_of}
use Rattle.orc_ledger_spec.proofs.Lists.{token_found}
use Rattle.orc_frames.proofs.Growth.{both_false}
use Rattle.orc_ledger_spec.proofs.Grouped.{turned-grouped}
use Rattle.orc_ledger_spec.proofs.Leaves.{out_of, none_one, later_one, becomes, path_there, step_in, plain_of, own_of, cells_of_place, settled_of}
use Rattle.orc_ledger_spec.proofs.Sound.{sound_turned}
use Rattle.orc_ledger_spec.proofs.Turning.{turned}

-- the definition whose body the graph has
pub routine_there : (rs : List Routine) (e n : ℕ) → option_map (λ (r : Routine). r.body) (slice_get rs e) ≡ Some n → (r : Routine) × (slice_get rs e ≡ Some r) × (r.body ≡ n) × (params_at rs e ≡ r.params)
routine_there rs e n h = go (slice_get rs e) refl h
  where
    go : (o : Option Routine) → slice_get rs e ≡ o → option_map (λ (r : Routine). r.body) o ≡ Some n → (r : Routine) × (slice_get rs e ≡ Some r) × (r.body ≡ n) × (params_at rs e ≡ r.params)
    go (Some r) f k = (r, f, ap (body_or r) k, ap params_or_none f)
      where
        body_or : Routine → Option ℕ → ℕ
        body_or d (Some m) = m
        body_or d None = Routine.body d
    go None f k = cc k

-- an item behind a list
behind : {X : Type 0} (xs ys : List X) (k : ℕ) → slice_get (xs ++ ys) (length xs + k) ≡ slice_get ys k
behind [] ys k = ap (slice_get ys) (let e : 0 + k ≡ k = omega arith in e)
behind (x ∷ xs) ys k = ap (slice_get (x ∷ xs ++ ys)) (let e : suc (length xs) + k ≡ suc (length xs + k) = omega arith in e) ∙ behind xs ys k

module _ (l : Listing) (sites : List Site) (s : Records) (L : Lawful l sites s) (t : Token) (i : IsIn t s.tokens) (node scope : ℕ) (at : t.standing ≡ At node scope) where
  pub def-lawful : (d : Definition) (k body newest : ℕ) (ops : List Operand) (more : List Scope) → code l node ≡ call k (map param_of ops) → slice_get (definitions l) k ≡ Some d → code l body ≡ d.body
      → Adds s.cells s.scopes scope d.params ops more newest → (s' : Records) → s.entries < s.limit → IsDefined s t body newest more s' → Lawful l sites s'
  def-lawful d k body newest ops more form is_d is_body adds s' room T =
      let cd : ℕ → Term = code l in
      let e = its_env cd s scope in
      let its : List Param = map (close_param e) (map param_of ops) in
      let A : Term = put_all d.params its d.body in
      let n = s.next_mark in
      let births : List Token = born s t n body newest t.step ∷ [] in
      let E = Def t.serial n in
      let fo = token_found l sites s L t i in
      let new = token n A in
      let plain = plain_of l sites s L t i node scope at s' births more [] [] E T in
      let q : Place = record L.place { marked = plug fo.around new; mark = suc n } in
      let leads : Leads (context l sites) L.place E q = (inr L.spells.none_due, (k, its, d, cells_of fo.around [], sym L.spells.mark, is_d, becomes l sites s L t i node scope at (call k its) new (ap (close e) form ∙ close-call e k (map param_of ops)), record { to_cancel = L.spells.none_due; same = refl })) in
      let stand : close (its_env cd s' newest) (cd body) ≡ A = (λ j. close (env_of ((T.cells ∙ append-nil s.cells) j) (T.scopes j) newest) (is_body j)) ∙ adds.2 L.sound.scopes L.sound.own d.body in
      let path = path_there l sites s L t i node scope at s' births more [] [] [] E T (λ m. refl) plain in
      let row : token_row cd s' (born s t n body newest t.step) ≡ stands n A (its_path cd s t.step) = λ j. stands n (stand j) (path j) in
      let newest_in : nat_lt (length s'.scopes) newest ≡ false = out_of (length s'.scopes) newest (omega (arith, adds.0, ap length T.scopes)) in
      let out : token_out (length s'.scopes) (length s'.steps) (born s t n body newest t.step) ≡ false = both_false (nat_lt (length s'.scopes) newest) (nat_lt (length s'.steps) t.step) newest_in (step_in l sites s L t i node scope at s' births more [] [] [] E T (λ m. refl) plain) in
      turned l sites s L t i s' births more [] [] [] E T (λ m. refl) plain q new refl leads
      (λ w. omega (arith, ap w row))
      (λ v. refl) (omega (arith, T.mark)) (cells_of_place l sites s L t i node scope at s' births more [] [] E T) (L.spells.now ∙ sym T.now) (L.spells.made ∙ sym T.made) L.spells.none_due (omega arith) refl room
      (sound_turned l sites s L t i s' births more [] [] [] E T (λ m. refl) plain
      (none_one (token_out (length s'.scopes) (length s'.steps)) (born s t n body newest t.step) out)
      refl refl (λ j p h. cc h) (λ j p h. adds.1 L.sound.scopes (length s.scopes + j) p (behind s.scopes more j ∙ h)) (own_of l sites s L t i node scope at s' births more [] [] E T) (settled_of l sites s L t i node scope at s' births more [] [] E T refl) (λ m h. later_one m n h) (λ m. omega arith))

pub defined-grouped : (l : Listing) (sites : List Site) (s : Records) (L : Lawful l sites s) (G : AreGrouped (numbers_of s) s) (t : Token) → IsIn t s.tokens → (body newest : ℕ) (more : List Scope) (s' : Records) → IsDefined s t body newest more s' → AreGrouped (numbers_of s') s'
defined-grouped l sites s L G t i body newest more s' T = turned-grouped l sites s L G t i s' _ more [] _ T at_step
  where
    at_step : (b : Token) → IsIn b (born s t s.next_mark body newest t.step ∷ []) → b.step ≡ t.step
    at_step b (inl e) = ap (λ (z : Token). z.step) e
    at_step b (inr j) = elim j [ ]
