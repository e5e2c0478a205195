-- How what the journal has brought grows with each kind of change.
use Rattle.std.proofs.Common.{◌≡◌, ◌≤◌, ℕ, zero, suc, ◌+◌, List, [], ◌∷◌, ◌++◌, refl, sym, ap, ◌∙◌, arith, inl, inr, length, map}
use Rattle.std.specs.Prelude.{slice_get}
use Rattle.orc_rules.specs.declared.entry.Entry.{Entry}
use Rattle.orc_rules.specs.declared.entry.Entry.TheVariants.{Right as Right_}
use Rattle.orc_rules.specs.Nodes.{Listing, code, definitions}
use Rattle.orc_rules.specs.Term.{Term}
use Rattle.orc_env.specs.declared.names.Bound.{Bound}
use Rattle.orc_env.specs.declared.names.Scope.{Scope}
use Rattle.orc_journal.specs.Sizes.{brings, opens, feeds, total, IsCrowded}
use Rattle.orc_indexes.specs.Same.{weight}
use Rattle.orc_tables.specs.Steps.{depth_at, depth_of}
use Rattle.orc_tables.specs.declared.records.Token.{Token}
use Rattle.orc_tables.specs.declared.records.Call.{Call as Asked}
use Rattle.orc_tables.specs.declared.records.Step.{Step}
use Rattle.orc_tables.specs.declared.records.Group.{Group}
use Rattle.orc_tables.specs.declared.records.Side.{Side}
use Rattle.orc_tables.specs.declared.records.Side.TheVariants.{Right, Left}
use Rattle.orc_indexes.proofs.Weight.{weight-length, weight-but}
use Rattle.orc_frames.specs.Taking.{bare}
use Rattle.orc_frames.specs.declared.action.Action.{Action}
use Rattle.orc_frames.specs.declared.action.Action.TheVariants.{Halt, Fork, Seq, Prune, Other, Def, Void, Publish, Send, Bind, Call, Wait}
use Rattle.orc_ledger_spec.specs.Begun.{begun}
use Rattle.orc_ledger_spec.specs.Records.{Records}
use Rattle.orc_ledger_spec.specs.Calls.{Turns, Crosses, Exchanges, Resumes, Closes, Drops, IsFull, token_goes, call_goes, group_goes}
use Rattle.orc_ledger_spec.specs.Brought.{AreBrought, FullIsCrowded}
use Rattle.orc_ledger_spec.specs.Doing.{what_of}
use Rattle.orc_ledger_spec.specs.Moves.{Hinders}
use Rattle.orc_ledger_spec.specs.Halting.{IsRefusedAt}
use Rattle.orc_ledger_spec.specs.declared.faults.LedgerFault.TheVariants.{Full}

total_append : (w : Entry → ℕ) (es fs : List Entry) → total w (es ++ fs) ≡ total w es + total w fs
total_append w [] fs = omega arith
total_append w (e ∷ es) fs = omega (arith, total_append w es fs)

-- the totals of a journal with these entries more
total_more : (w : Entry → ℕ) (es fs js : List Entry) → js ≡ es ++ fs → total w js ≡ total w es + total w fs
total_more w es fs js is = ap (total w) is ∙ total_append w es fs

-- lists that weigh alike are as long
lengths : {X : Type 0} (xs ys zs ws : List X) → ((w : X → ℕ) → weight w xs + weight w ys ≡ weight w zs + weight w ws) → length xs + length ys ≡ length zs + length ws
lengths xs ys zs ws same = omega (arith, same (λ x. 1), weight-length xs, weight-length ys, weight-length zs, weight-length ws)

-- ---- how deep steps are

abbrev pub AreWithin : ℕ → List Step → Type 0
AreWithin m [] = Unit {0}
AreWithin m (p ∷ ps) = (p.depth ≤ m) × AreWithin m ps

-- steps behind others
deep_more : (n m : ℕ) (ss ps : List Step) → n ≤ m → ((i : ℕ) → depth_at ss i ≤ n) → AreWithin m ps → (i : ℕ) → depth_at (ss ++ ps) i ≤ m
deep_more n m ss ps le deep fits zero = omega arith
deep_more n m ss ps le deep fits (suc k) = go ss (λ j. deep (suc j)) k
  where
    behind : (ps : List Step) → AreWithin m ps → (k : ℕ) → depth_of (slice_get ps k) ≤ m
    behind [] fits zero = omega arith
    behind [] fits (suc k) = omega arith
    behind (p ∷ ps) fits zero = fits.0
    behind (p ∷ ps) fits (suc k) = behind ps fits.1 k

    go : (ss : List Step) → ((k : ℕ) → depth_of (slice_get ss k) ≤ n) → (k : ℕ) → depth_of (slice_get (ss ++ ps) k) ≤ m
    go [] deep k = behind ps fits k
    go (s ∷ ss) deep zero = omega (arith, le, deep zero)
    go (s ∷ ss) deep (suc k) = go ss (λ j. deep (suc j)) k

head_or : {X : Type 0} → X → List X → X
head_or d [] = d
head_or d (x ∷ xs) = x

rest_of : {X : Type 0} → List X → List X
rest_of [] = []
rest_of (x ∷ xs) = xs

-- steps with other marks of publications alone
deep_alike : (ss ss' : List Step) → map bare ss ≡ map bare ss' → (i : ℕ) → depth_at ss' i ≡ depth_at ss i
unfolding rest_of head_or
deep_alike ss ss' e zero = refl
deep_alike ss ss' e (suc k) = by_step ss ss' e k
  where
    by_step : (ss ss' : List Step) → map bare ss ≡ map bare ss' → (k : ℕ) → depth_of (slice_get ss' k) ≡ depth_of (slice_get ss k)
    by_step [] [] e k = refl
    by_step [] (y ∷ ss') e k = cc e
    by_step (x ∷ ss) [] e k = cc e
    by_step (x ∷ ss) (y ∷ ss') e zero = sym (ap (λ (z : Step). z.depth) (ap (head_or (bare x)) e))
    by_step (x ∷ ss) (y ∷ ss') e (suc k) = by_step ss ss' (ap rest_of e) k

-- ---- each kind of change

pub begun-brought : (limit root : ℕ) → AreBrought (begun limit root)
begun-brought limit root = record { tokens = omega arith; groups = omega arith; depth = none }
  where
    none : (i : ℕ) → depth_at [] i ≤ 0
    none zero = omega arith
    none (suc k) = omega arith

module _ (s s' : Records) (B : AreBrought s) where
  -- a token goes and others come, with steps and groups
  pub turned-brought : (t : Token) (births : List Token) (ss : List Scope) (ps : List Step) (gs : List Group) (cs : List Bound) (e : Entry) → Turns s s' t births ss ps gs cs e
      → length births ≤ brings e + 1 → length gs ≤ opens e → AreWithin (total feeds s.journal + feeds e) ps → AreBrought s'
  turned-brought t births ss ps gs cs e T few more fits =
      let feeding : total feeds s'.journal ≡ total feeds s.journal + feeds e = omega (arith, total_more feeds s.journal (e ∷ []) s'.journal T.journal) in
      record {
        tokens = omega (arith, few, B.tokens, lengths s'.tokens (t ∷ []) s.tokens births (λ w. omega (arith, T.tokens w)), ap length T.calls, total_more brings s.journal (e ∷ []) s'.journal T.journal);
        groups = omega (arith, more, B.groups, lengths s'.groups [] s.groups gs (λ w. omega (arith, T.groups w)), total_more opens s.journal (e ∷ []) s'.journal T.journal);
        depth = λ i. omega (arith, ap (λ z. depth_at z i) T.steps, deep_more (total feeds s.journal) (total feeds s.journal + feeds e) s.steps ps (omega arith) B.depth fits i, feeding);
      }

  -- the same without steps
  pub turned-flat : (t : Token) (births : List Token) (ss : List Scope) (cs : List Bound) (e : Entry) → Turns s s' t births ss [] [] cs e → length births ≤ brings e + 1 → AreBrought s'
  turned-flat t births ss cs e T few = turned-brought t births ss [] [] cs e T few (omega arith) tt

  -- the same with one step, which is no deeper than the journal has led
  pub turned-deep : (t : Token) (births : List Token) (ss : List Scope) (p : Step) (gs : List Group) (cs : List Bound) (e : Entry) → Turns s s' t births ss (p ∷ []) gs cs e
      → length births ≤ brings e + 1 → length gs ≤ opens e → p.depth ≤ total feeds s.journal + feeds e → AreBrought s'
  turned-deep t births ss p gs cs e T few more fits = turned-brought t births ss (p ∷ []) gs cs e T few more (fits, tt)

  -- a token publishes
  pub crossed-brought : (t : Token) (births : List Token) (ss : List Scope) (ns : List ℕ) (e : Entry) → Crosses s s' t births ss ns e → length births ≤ brings e + 1 → AreBrought s'
  crossed-brought t births ss ns e T few = record {
    tokens = omega (arith, few, B.tokens, lengths s'.tokens (t ∷ []) s.tokens births (λ w. omega (arith, T.tokens w)), ap length T.calls, total_more brings s.journal (e ∷ []) s'.journal T.journal);
    groups = omega (arith, B.groups, ap length T.groups, total_more opens s.journal (e ∷ []) s'.journal T.journal);
    depth = λ i. omega (arith, B.depth i, deep_alike s.steps s'.steps (sym T.steps.alike) i, total_more feeds s.journal (e ∷ []) s'.journal T.journal);
  }

  -- tokens and calls go and others come
  pub exchanged-brought : (ts ts' : List Token) (cs cs' : List Asked) (made : ℕ) (e : Entry) → Exchanges s s' ts ts' cs cs' made e → length ts' + length cs' ≤ length ts + length cs + brings e → AreBrought s'
  exchanged-brought ts ts' cs cs' made e T few = record {
    tokens = omega (arith, few, B.tokens, lengths s'.tokens ts s.tokens ts' T.tokens, lengths s'.calls cs s.calls cs' T.calls, total_more brings s.journal (e ∷ []) s'.journal T.journal);
    groups = omega (arith, B.groups, ap length T.groups, total_more opens s.journal (e ∷ []) s'.journal T.journal);
    depth = λ i. omega (arith, B.depth i, ap (λ z. depth_at z i) T.steps, total_more feeds s.journal (e ∷ []) s'.journal T.journal);
  }

  -- a left side goes, and its right side starts
  pub resumed-brought : (g : Group) (n node scope : ℕ) → Resumes s s' g n node scope → AreBrought s'
  resumed-brought g n node scope T =
      let e = Right_ n s.next_mark in
      record {
        tokens = omega (arith, B.tokens, T.tokens (λ t. 1), weight-length s'.tokens, weight-length s.tokens, ap length T.calls, total_more brings s.journal (e ∷ []) s'.journal T.journal);
        groups = omega (arith, B.groups, T.groups (λ h. 1), weight-length s'.groups, weight-length s.groups, total_more opens s.journal (e ∷ []) s'.journal T.journal);
        depth = λ i. omega (arith, B.depth i, ap (λ z. depth_at z i) T.steps, total_more feeds s.journal (e ∷ []) s'.journal T.journal);
      }

  -- a group goes
  pub closed-brought : (g : Group) → Closes s s' g → AreBrought s'
  closed-brought g T = record {
    tokens = omega (arith, B.tokens, ap length T.tokens, ap length T.calls, ap (total brings) T.journal);
    groups = omega (arith, B.groups, T.groups (λ h. 1), weight-length s'.groups, weight-length s.groups, ap (total opens) T.journal);
    depth = λ i. omega (arith, B.depth i, ap (λ z. depth_at z i) T.steps, ap (total feeds) T.journal);
  }

  -- a right side is dropped
  pub dropped-brought : (code : ℕ → Term) (c : ℕ) (u : Bound) (es : List Entry) → Drops code c u s s' → s'.journal ≡ s.journal ++ es → AreBrought s'
  dropped-brought code c u es D journal = record {
    tokens = omega (
      arith,
      B.tokens,
      D.tokens (λ t. 1),
      D.calls (λ k. 1),
      weight-but (token_goes code c s) (λ t. 1) s.tokens,
      weight-but (call_goes code c s) (λ k. 1) s.calls,
      weight-length s'.tokens,
      weight-length s.tokens,
      weight-length s'.calls,
      weight-length s.calls,
      total_more brings s.journal es s'.journal journal,
    );
    groups = omega (arith, B.groups, D.groups (λ h. 1), weight-but (group_goes code c s) (λ h. 1) s.groups, weight-length s'.groups, weight-length s.groups, total_more opens s.journal es s'.journal journal);
    depth = λ i. omega (arith, B.depth i, ap (λ z. depth_at z i) D.steps, total_more feeds s.journal es s'.journal journal);
  }

  -- the journal alone grows
  pub grown-brought : (es : List Entry) → s'.tokens ≡ s.tokens → s'.calls ≡ s.calls → s'.groups ≡ s.groups → s'.steps ≡ s.steps → s'.journal ≡ s.journal ++ es → AreBrought s'
  grown-brought es tokens calls groups steps journal = record {
    tokens = omega (arith, B.tokens, ap length tokens, ap length calls, total_more brings s.journal es s'.journal journal);
    groups = omega (arith, B.groups, ap length groups, total_more opens s.journal es s'.journal journal);
    depth = λ i. omega (arith, B.depth i, ap (λ z. depth_at z i) steps, total_more feeds s.journal es s'.journal journal);
  }

-- ---- what is full is crowded

module _ (s : Records) (B : AreBrought s) where
  by_full : (tokens groups depth i : ℕ) → tokens ≤ 1 → groups ≤ 1 → depth ≤ depth_at s.steps i + 1 → IsFull s tokens groups depth → IsCrowded s.journal
  by_full tokens groups depth i t g d (inl h) = inl (omega (arith, t, h, B.tokens))
  by_full tokens groups depth i t g d (inr (inl h)) = inr (inl (omega (arith, g, h, B.groups)))
  by_full tokens groups depth i t g d (inr (inr h)) = inr (inr (omega (arith, d, h, B.depth i)))

  flat : (tokens groups : ℕ) → tokens ≤ 1 → groups ≤ 1 → IsFull s tokens groups 0 → IsCrowded s.journal
  flat tokens groups t g h = by_full tokens groups 0 0 t g (omega arith) h

  by_word : (t : Token) (w : Action) → Hinders s t w Full → IsCrowded s.journal
  by_word t Fork h = flat 1 0 (omega arith) (omega arith) h
  by_word t Seq h = by_full 0 0 (depth_at s.steps t.step + 1) t.step (omega arith) (omega arith) (omega arith) h
  by_word t Other h = flat 0 1 (omega arith) (omega arith) h
  by_word t Prune h = flat 1 1 (omega arith) (omega arith) h
  by_word t Call h = absurd h
  by_word t (Wait c) h = absurd h
  by_word t Halt h = flat 0 0 (omega arith) (omega arith) h
  by_word t Def h = flat 0 0 (omega arith) (omega arith) h
  by_word t Void h = flat 0 0 (omega arith) (omega arith) h
  by_word t (Publish v) h = flat 0 0 (omega arith) (omega arith) h
  by_word t (Send v) h = flat 0 0 (omega arith) (omega arith) h
  by_word t (Bind c v) h = flat 0 0 (omega arith) (omega arith) h

  by_side : (side : Side) → IsRefusedAt s side Full → IsCrowded s.journal
  by_side (Right c) h = flat 0 0 (omega arith) (omega arith) h
  by_side (Left n g scope) h = flat 1 0 (omega arith) (omega arith) h.1

  pub full-is-crowded : (l : Listing) → FullIsCrowded l s
  full-is-crowded l = record {
    moves = λ t h. by_word t (what_of (code l) (definitions l) s t) h;
    calls = λ h. flat 0 0 (omega arith) (omega arith) h;
    halts = λ number h. by_side h.0.side h.3;
  }

-- a token goes, one comes at most, and other entries stand behind the journal
pub taken-brought : (s s' : Records) → AreBrought s → (t : Token) (births : List Token) → length births ≤ 1 → (fs : List Entry) → s'.journal ≡ s.journal ++ fs → ((w : Token → ℕ) → weight w s'.tokens + w t ≡ weight w s.tokens + weight w births)
    → s'.calls ≡ s.calls → ((w : Group → ℕ) → weight w s'.groups ≡ weight w s.groups) → s'.steps ≡ s.steps → AreBrought s'
taken-brought s s' B t births few fs journal tokens calls groups steps =
    record {
      tokens = omega (arith, B.tokens, few, tokens (λ x. 1), weight-length births, weight-length s'.tokens, weight-length s.tokens, ap length calls, total_more brings s.journal fs s'.journal journal);
      groups = omega (arith, B.groups, groups (λ x. 1), weight-length s'.groups, weight-length s.groups, total_more opens s.journal fs s'.journal journal);
      depth = λ i. omega (arith, B.depth i, ap (λ z. depth_at z i) steps, total_more feeds s.journal fs s'.journal journal);
    }
