-- What the calls of a ledger do to its records.
use Rattle.std.specs.Prelude.{ℕ, ◌+◌, ◌≡◌, ◌≤◌, ◌<◌, ◌⊎◌, ◌↔◌, List, [], ◌∷◌, ◌++◌, Bool, false, nat_eq, length, slice_set}
use Rattle.orc_rules.specs.declared.entry.Entry.{Entry}
use Rattle.orc_rules.specs.declared.limits.TheConstants.{MOST_TOKENS, MOST_GROUPS, MOST_FRAMES}
use Rattle.orc_rules.specs.declared.entry.Entry.TheVariants.{End, Fork, Seq, Other, Open, Void as Void_, Right as Right_}
use Rattle.orc_rules.specs.Term.{Term}
use Rattle.orc_rules.specs.Timed.{IsIn, IsRising}
use Rattle.orc_env.specs.declared.names.Bound.{Bound}
use Rattle.orc_env.specs.declared.names.Bound.TheVariants.{Cell}
use Rattle.orc_env.specs.declared.names.Scope.{Scope}
use Rattle.orc_indexes.specs.Same.{weight, only, but, None}
use Rattle.orc_frames.specs.Spelling.{Path, aiding, inside}
use Rattle.orc_ledger_spec.specs.Records.{Records, raw_path}
use Rattle.orc_tables.specs.Steps.{group_at, depth_at}
use Rattle.orc_tables.specs.declared.records.Standing.TheVariants.{At}
use Rattle.orc_tables.specs.declared.records.Frame.TheVariants.{SeqLeft, PruneRight, OtherwiseLeft}
use Rattle.orc_tables.specs.declared.records.Step.{Step}
use Rattle.orc_tables.specs.declared.records.Token.{Token}
use Rattle.orc_tables.specs.declared.records.Call.{Call}
use Rattle.orc_tables.specs.declared.records.Side.{Side}
use Rattle.orc_tables.specs.declared.records.Side.TheVariants.{Right, Left}
use Rattle.orc_tables.specs.declared.records.Group.{Group}
use Rattle.orc_ledger_spec.specs.declared.faults.LedgerFault.{LedgerFault}
use Rattle.orc_ledger_spec.specs.declared.faults.LedgerFault.TheVariants as fault
use Rattle.orc_tables.specs.PendingCalls.{has_number}
use Rattle.orc_frames.specs.Taking.{Publishes}

-- a side with path p around it is inside the right side of cell c, or is that side itself
abbrev pub is_inside : ℕ → Path → Side → Bool
is_inside c p (Right d) = inside c (aiding d p)
is_inside c p (Left n g scope) = inside c p

module _ (code : ℕ → Term) (c : ℕ) (s : Records) where
  -- a token, a call, a group is inside the right side of cell c: it goes if that is dropped
  abbrev pub token_goes : Token → Bool
  token_goes t = inside c (raw_path code s t.step)

  abbrev pub call_goes : Call → Bool
  call_goes k = inside c (raw_path code s k.step)

  abbrev pub group_goes : Group → Bool
  group_goes g = is_inside c (raw_path code s g.outer) g.side

-- the right side of cell c is dropped: what is inside goes, all else stays, and the cell has become u
pub record Drops (code : ℕ → Term) (c : ℕ) (u : Bound) (s s' : Records) : Type 0 where
  pub limit : s'.limit ≡ s.limit
  pub entries : s'.entries ≡ s.entries + 1
  pub mark : s'.next_mark ≡ s.next_mark
  pub now : s'.now ≡ s.now
  pub made : s'.made ≡ s.made
  pub tokens : (w : Token → ℕ) → weight w s'.tokens ≡ weight (but (token_goes code c s) w) s.tokens
  pub calls : (w : Call → ℕ) → weight w s'.calls ≡ weight (but (call_goes code c s) w) s.calls
  pub groups : (w : Group → ℕ) → weight w s'.groups ≡ weight (but (group_goes code c s) w) s.groups
  pub scopes : s'.scopes ≡ s.scopes
  pub steps : s'.steps ≡ s.steps
  pub cells : s'.cells ≡ slice_set s.cells c u

-- the numbers of the calls that pend inside, in rising order
pub record AreCancelled (code : ℕ → Term) (c : ℕ) (s : Records) (ks : List ℕ) : Type 0 where
  pub rising : IsRising ks
  pub each : (k : ℕ) → IsIn k ks ↔ (1 ≤ weight (only (call_goes code c s) (has_number k)) s.calls)

-- token t goes and `births` come; scopes ss, steps ps, groups gs and cells cs are added, and entry e to the journal
pub record Turns (s s' : Records) (t : Token) (births : List Token) (ss : List Scope) (ps : List Step) (gs : List Group) (cs : List Bound) (e : Entry) : Type 0 where
  pub limit : s'.limit ≡ s.limit
  pub journal : s'.journal ≡ s.journal ++ e ∷ []
  pub entries : s'.entries ≡ s.entries + 1
  pub mark : s'.next_mark ≡ s.next_mark + length births
  pub now : s'.now ≡ s.now
  pub made : s'.made ≡ s.made
  pub tokens : (w : Token → ℕ) → weight w s'.tokens + w t ≡ weight w s.tokens + weight w births
  pub calls : s'.calls ≡ s.calls
  pub groups : (w : Group → ℕ) → weight w s'.groups ≡ weight w s.groups + weight w gs
  pub scopes : s'.scopes ≡ s.scopes ++ ss
  pub steps : s'.steps ≡ s.steps ++ ps
  pub cells : s'.cells ≡ s.cells ++ cs

module _ (s : Records) (t : Token) where
  -- a token that comes, on a node
  abbrev pub born : ℕ → ℕ → ℕ → ℕ → Token
  born serial node scope step = record { serial = serial; standing = At node scope; step = step }

  -- what becomes of the records where t is at `stop`, void, at `f | g`, at `f >x> g`, at `f ; g` and at `f <x< g`; f and g are the nodes of the sides
  abbrev pub IsEnded : Records → Type 0
  IsEnded s' = Turns s s' t [] [] [] [] [] (End t.serial)

  abbrev pub IsVoided : Records → Type 0
  IsVoided s' = Turns s s' t [] [] [] [] [] (Void_ t.serial)

  abbrev pub IsForked : ℕ → ℕ → ℕ → Records → Type 0
  IsForked scope f g s' = Turns s s' t (born s.next_mark f scope t.step ∷ born (s.next_mark + 1) g scope t.step ∷ []) [] [] [] [] (Fork t.serial s.next_mark (s.next_mark + 1))

  abbrev pub IsFed : ℕ → ℕ → ℕ → ℕ → Records → Type 0
  IsFed scope f x g s' =
      Turns s s' t (born s.next_mark f scope (length s.steps + 1) ∷ []) [] (record { entered = SeqLeft x g scope; outer = t.step; group = group_at s.steps t.step; depth = depth_at s.steps t.step + 1; published = false } ∷ []) [] [] (Seq t.serial s.next_mark)

  abbrev pub IsTried : ℕ → ℕ → ℕ → ℕ → Records → Type 0
  IsTried scope f g number s' =
      Turns s s' t (born s.next_mark f scope (length s.steps + 1) ∷ []) [] (record { entered = OtherwiseLeft t.serial; outer = t.step; group = number; depth = depth_at s.steps t.step; published = false } ∷ []) (record { side = Left t.serial g scope; outer = t.step; number = number } ∷ []) [] (Other t.serial s.next_mark)

  abbrev pub IsOpened : ℕ → ℕ → ℕ → ℕ → ℕ → Records → Type 0
  IsOpened scope f x g number s' =
      Turns s s' t (born s.next_mark f (length s.scopes + 1) t.step ∷ born (s.next_mark + 1) g scope (length s.steps + 1) ∷ []) (record { name = x; bound = Cell (length s.cells); outer = scope } ∷ [])
      (record { entered = PruneRight (length s.cells); outer = t.step; group = number; depth = 0; published = false } ∷ []) (record { side = Right (length s.cells); outer = t.step; number = number } ∷ []) (Cell (length s.cells) ∷ []) (Open t.serial (length s.cells) s.next_mark (s.next_mark + 1))

-- no open group has this number, it isn't that of the program's own group, 0, and it is below `MOST_GROUPS`
abbrev pub IsFree : Records → ℕ → Type 0
IsFree s number = (1 ≤ number) × None (λ (g : Group). nat_eq number g.number) s.groups × (number < MOST_GROUPS)

-- so many tokens and groups more are within the limits, and so is a token with `depth` left sides of a `>x>` around it
abbrev pub HasRoom : Records → ℕ → ℕ → ℕ → Type 0
HasRoom s tokens groups depth = (length s.tokens + length s.calls + tokens ≤ MOST_TOKENS) × (length s.groups + 1 + groups ≤ MOST_GROUPS) × (depth ≤ MOST_FRAMES)

-- one of these numbers would be over its limit
abbrev pub IsFull : Records → ℕ → ℕ → ℕ → Type 0
IsFull s tokens groups depth = (MOST_TOKENS < length s.tokens + length s.calls + tokens) ⊎ ((MOST_GROUPS < length s.groups + 1 + groups) ⊎ (MOST_FRAMES < depth))

-- why a call that adds an entry and so many tokens and groups is refused: the first cause that there is
abbrev pub IsRefused : Records → ℕ → ℕ → ℕ → LedgerFault → Type 0
IsRefused s tokens groups depth fault.Full = IsFull s tokens groups depth
IsRefused s tokens groups depth fault.Limit = HasRoom s tokens groups depth × (s.limit ≤ s.entries)
IsRefused s tokens groups depth fault.Memory = HasRoom s tokens groups depth × (s.entries < s.limit)
IsRefused s tokens groups depth fault.Unclaimed = ⊥

-- token t publishes, its value leaves the otherwises ns on the way, and `births` come
pub record Crosses (s s' : Records) (t : Token) (births : List Token) (ss : List Scope) (ns : List ℕ) (e : Entry) : Type 0 where
  pub limit : s'.limit ≡ s.limit
  pub journal : s'.journal ≡ s.journal ++ e ∷ []
  pub entries : s'.entries ≡ s.entries + 1
  pub mark : s'.next_mark ≡ s.next_mark + length births
  pub now : s'.now ≡ s.now
  pub made : s'.made ≡ s.made
  pub tokens : (w : Token → ℕ) → weight w s'.tokens + w t ≡ weight w s.tokens + weight w births
  pub calls : s'.calls ≡ s.calls
  pub groups : s'.groups ≡ s.groups
  pub scopes : s'.scopes ≡ s.scopes ++ ss
  pub steps : Publishes ns s.steps s'.steps
  pub cells : s'.cells ≡ s.cells

-- group g, the left side of otherwise n, goes, and a token at the right side comes
pub record Resumes (s s' : Records) (g : Group) (n node scope : ℕ) : Type 0 where
  pub limit : s'.limit ≡ s.limit
  pub journal : s'.journal ≡ s.journal ++ Right_ n s.next_mark ∷ []
  pub entries : s'.entries ≡ s.entries + 1
  pub mark : s'.next_mark ≡ s.next_mark + 1
  pub now : s'.now ≡ s.now
  pub made : s'.made ≡ s.made
  pub tokens : (w : Token → ℕ) → weight w s'.tokens ≡ weight w s.tokens + w (record { serial = s.next_mark; standing = At node scope; step = g.outer })
  pub calls : s'.calls ≡ s.calls
  pub groups : (w : Group → ℕ) → weight w s'.groups + w g ≡ weight w s.groups
  pub scopes : s'.scopes ≡ s.scopes
  pub steps : s'.steps ≡ s.steps
  pub cells : s'.cells ≡ s.cells

-- the group g goes, and nothing else
pub record Closes (s s' : Records) (g : Group) : Type 0 where
  pub limit : s'.limit ≡ s.limit
  pub journal : s'.journal ≡ s.journal
  pub entries : s'.entries ≡ s.entries
  pub mark : s'.next_mark ≡ s.next_mark
  pub now : s'.now ≡ s.now
  pub made : s'.made ≡ s.made
  pub tokens : s'.tokens ≡ s.tokens
  pub calls : s'.calls ≡ s.calls
  pub groups : (w : Group → ℕ) → weight w s'.groups + w g ≡ weight w s.groups
  pub scopes : s'.scopes ≡ s.scopes
  pub steps : s'.steps ≡ s.steps
  pub cells : s'.cells ≡ s.cells

-- of all tokens, calls, groups and steps only group g goes
pub record GoesAlone (s s' : Records) (g : Group) : Type 0 where
  pub tokens : s'.tokens ≡ s.tokens
  pub calls : s'.calls ≡ s.calls
  pub groups : (w : Group → ℕ) → weight w s'.groups + w g ≡ weight w s.groups
  pub steps : s'.steps ≡ s.steps

-- tokens ts and calls cs go, ts' and cs' come, of which `made` calls are new; entry e is added to the journal
pub record Exchanges (s s' : Records) (ts ts' : List Token) (cs cs' : List Call) (made : ℕ) (e : Entry) : Type 0 where
  pub limit : s'.limit ≡ s.limit
  pub journal : s'.journal ≡ s.journal ++ e ∷ []
  pub entries : s'.entries ≡ s.entries + 1
  pub mark : s'.next_mark ≡ s.next_mark + length ts'
  pub now : s'.now ≡ s.now
  pub made_so : s'.made ≡ s.made + made
  pub tokens : (w : Token → ℕ) → weight w s'.tokens + weight w ts ≡ weight w s.tokens + weight w ts'
  pub calls : (w : Call → ℕ) → weight w s'.calls + weight w cs ≡ weight w s.calls + weight w cs'
  pub groups : s'.groups ≡ s.groups
  pub scopes : s'.scopes ≡ s.scopes
  pub steps : s'.steps ≡ s.steps
  pub cells : s'.cells ≡ s.cells
