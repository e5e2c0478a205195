use Rattle.std.proofs.Common.{◌≡◌, ◌<◌, ◌++◌, ℕ, ◌+◌, List, [], ◌∷◌, length, ◌∙◌, refl, sym, ap, subst, arith, nat_eq, Some, false}
use Rattle.std.specs.Prelude.{slice_get, slice_set}
use Rattle.orc_rules.specs.declared.entry.Entry.TheVariants.{Open}
use Rattle.orc_rules.specs.Timed.{IsIn}
use Rattle.orc_rules.specs.Nodes.{code, definitions}
use Rattle.orc_env.specs.declared.names.Bound.{Bound}
use Rattle.orc_env.specs.declared.names.Bound.TheVariants.{Cell}
use Rattle.orc_env.specs.declared.names.Scope.{Scope}
use Rattle.orc_env.specs.Scopes.{current}
use Rattle.orc_indexes.specs.Same.{weight, None}
use Rattle.orc_ledger_spec.specs.Records.{Records}
use Rattle.orc_tables.specs.Steps.{group_at}
use Rattle.orc_tables.specs.Tokens.{live, IsHeld}
use Rattle.orc_ledger_spec.specs.Calls.{born, IsFree, IsOpened, HasRoom}
use Rattle.orc_tables.specs.declared.records.Token.{Token}
use Rattle.orc_tables.specs.declared.records.Frame.TheVariants.{PruneRight}
use Rattle.orc_tables.specs.declared.records.Step.{Step}
use Rattle.orc_tables.specs.declared.records.Side.TheVariants.{Right}
use Rattle.orc_tables.specs.declared.records.Group.{Group}
use Rattle.orc_ledger_spec.proofs.AtRest.{rest-kept, rest-same, turns-terms}
use Rattle.orc_tables.proofs.Parked.{stay-on, stay-same}
use Rattle.orc_indexes.proofs.Lists.{set-there}
use Rattle.orc_tables.proofs.Slots.{live-in, replaced}
use Rattle.orc_ledger_spec.proofs.Calling.{turns-told}
use Rattle.orc_ledger_spec.proofs.Keeping.{counted-kept}
use Rattle.orc_ledger_spec.proofs.Made.{turns, later_mark, step_in}
use Rattle.orc_ledger_spec.proofs.Leaves.{open-lawful, current-push}
use Rattle.orc_ledger_spec.proofs.Grouped.{opened-grouped}
use Rattle.orc_indexes.specs.Same.{is_this}
use Rattle.orc_tables.specs.OpenGroups.{IsOpen, size_of}
use Rattle.orc_ledger_spec.proofs.Nests.{group-kept, group-end}
use Rattle.orc_ledger_spec.proofs.Sizes.{turned-members, open-token, open-more, open-new, size-few, kept-still}
use Rattle.orc_indexes.proofs.Weight.{one-most}
use Rattle.orc_ledger_spec.proofs.Brought.{turned-deep}
use Rattle.orc_ledger_spec.proofs.Advancing.{step-within}
use Rattle.orc_ledger.proofs.Others.{same-all, set-others, from-all, on-all}
use Rattle.orc_ledger.proofs.ledger.Ledger.prune.Goals as goal

pub invariant_of-self-2 : goal.invariant_of-self-2
invariant_of-self-2 g c =
    let b = c.self.inside in
    let a = c.args in
    let l = g.P.Run.listing in
    let sites = g.P.Run.sites in
    let cd = code l in
    let s : Records = record { limit = b.limit; journal = b.journal.entries; entries = b.entries; next_mark = b.next_mark; now = b.time; made = b.calls.made; tokens = live b.tokens.items; slots = b.tokens.items; calls = b.calls.items; scopes = b.scopes.items; steps = b.steps.items; groups = b.groups.items; cells = b.cells.items } in
    let L = c.self.invariant.kept.lawful in
    let G = c.self.invariant.kept.grouped in
    let held : IsHeld s.slots a.slot a.token = rw (← c.self.view_is) at c.requires.held in
    let i : IsIn a.token s.tokens = live-in s.slots a.slot a.token held in
    let number = c.open-number.result in
    let groups_so : c.reserve-5.new.self.items ≡ s.groups = c.in_ok-reserve-5.ensures.items in
    let free : IsFree s number = (c.open-number.ensures.free.0, subst (None (λ (h : Group). nat_eq number h.number)) groups_so c.open-number.ensures.free.1, c.open-number.ensures.few) in
    let room : s.entries < s.limit = rw (← c.self.view_is) at c.in_ok-within.ensures.room in
    let s' : Records = record { limit = b.limit; journal = c.write_claimed.new.journal.entries; entries = b.entries + 1; next_mark = b.next_mark + 2; now = b.time; made = b.calls.made; tokens = live c.add-other.new.self.items; slots = c.add-other.new.self.items; calls = b.calls.items; scopes = c.push_within.new.items.items; steps = c.push.new.self.items; groups = c.join-2.new.self.items; cells = c.push_within-2.new.items.items } in
    let journal : s'.journal ≡ s.journal ++ Open a.token.serial c.len-cell.result b.next_mark (b.next_mark + 1) ∷ [] = ap (λ j. j.entries) c.in_ok-write_claimed.ensures.added in
    let cell : c.len-cell.result ≡ length s.cells = omega (arith, c.len-cell.ensures, ap length c.in_ok-reserve-4.ensures.items) in
    let inner : c.len-inner.result + 1 ≡ length s.scopes + 1 = omega (arith, c.len-inner.ensures, ap length c.in_ok-reserve-2.ensures.items) in
    let count : c.len-step.result + 1 ≡ length s.steps + 1 = omega (arith, c.len-step.ensures.count, ap length c.in_ok-reserve-3.ensures.items) in
    let entry : s'.journal ≡ s.journal ++ Open a.token.serial (length s.cells) b.next_mark (b.next_mark + 1) ∷ [] = journal ∙ ap (λ (n : ℕ). s.journal ++ Open a.token.serial n b.next_mark (b.next_mark + 1) ∷ []) cell in
    let name : Scope = record { name = a.name; bound = Cell (length s.cells); outer = a.scope } in
    let scopes : c.push_within.new.items.items ≡ s.scopes ++ name ∷ [] = c.push_within.ensures.items ∙ ap (λ (z : Scope). c.reserve-2.new.items.items ++ z ∷ []) (c.new.ensures ∙ ap (λ (n : ℕ). record { name = a.name; bound = Cell c.len-cell.result; outer = n }) c.in_ok-outer.ensures.number) ∙ ap (λ (z : List Scope). z ++ record { name = a.name; bound = Cell c.len-cell.result; outer = a.scope } ∷ []) c.in_ok-reserve-2.ensures.items ∙ ap (λ (n : ℕ). s.scopes ++ record { name = a.name; bound = Cell n; outer = a.scope } ∷ []) cell in
    let step : Step = record { entered = PruneRight (length s.cells); outer = a.token.step; group = number; depth = 0; published = false } in
    let steps : c.push.new.self.items ≡ s.steps ++ step ∷ [] = c.push.ensures.items ∙ ap (λ (z : List Step). z ++ record { entered = PruneRight c.len-cell.result; outer = a.token.step; group = number; depth = 0; published = false } ∷ []) c.in_ok-reserve-3.ensures.items ∙ ap (λ (n : ℕ). s.steps ++ record { entered = PruneRight n; outer = a.token.step; group = number; depth = 0; published = false } ∷ []) cell in
    let group : Group = record { side = Right (length s.cells); outer = a.token.step; number = number } in
    let groups : c.join-2.new.self.items ≡ s.groups ++ group ∷ [] = c.join-2.ensures.items ∙ c.join.ensures.items ∙ c.open-number.ensures.items ∙ ap (λ (z : List Group). z ++ record { side = Right c.len-cell.result; outer = a.token.step; number = number } ∷ []) groups_so ∙ ap (λ (n : ℕ). s.groups ++ record { side = Right n; outer = a.token.step; number = number } ∷ []) cell in
    let cells : c.push_within-2.new.items.items ≡ s.cells ++ Cell (length s.cells) ∷ [] = c.push_within-2.ensures.items ∙ ap (λ (z : List Bound). z ++ Cell c.len-cell.result ∷ []) c.in_ok-reserve-4.ensures.items ∙ ap (λ (n : ℕ). s.cells ++ Cell n ∷ []) cell in
    let first : Token = born s a.token s.next_mark a.left (length s.scopes + 1) a.token.step in
    let second : Token = born s a.token (s.next_mark + 1) a.right a.scope (length s.steps + 1) in
    let slots : c.replace.new.self.items ≡ slice_set s.slots a.slot first = c.replace.ensures.items ∙ ap (λ z. slice_set z a.slot (born s a.token s.next_mark a.left (c.len-inner.result + 1) a.token.step)) c.in_ok-reserve.ensures.items ∙ ap (λ (n : ℕ). slice_set s.slots a.slot (born s a.token s.next_mark a.left n a.token.step)) inner in
    let tokens : (w : Token → ℕ) → weight w s'.tokens + w a.token ≡ weight w s.tokens + weight w (first ∷ second ∷ []) = λ w. omega (arith, c.add-other.ensures.added w, ap (λ (n : ℕ). w (born s a.token (s.next_mark + 1) a.right a.scope n)) count, ap (λ z. weight w (live z)) slots, replaced w s.slots a.slot a.token first held (later_mark l sites s L a.token i)) in
    let T : IsOpened s a.token a.scope a.left a.name a.right number s' = turns s s' a.token (first ∷ second ∷ []) (name ∷ []) (step ∷ []) (group ∷ []) (Cell (length s.cells) ∷ []) (Open a.token.serial (length s.cells) b.next_mark (b.next_mark + 1)) refl entry refl (omega arith) refl refl tokens refl (scopes) (steps) (groups) (cells) in
    let L' = open-lawful l sites s L a.token i c.requires.at.0 a.scope c.requires.at.1 a.left a.name a.right number c.requires.at.2 s' room T in
    record {
      kept = record {
        lawful = L';
        grouped = opened-grouped l sites s L G a.token i a.scope a.left a.name a.right number free s' T;
        told = turns-told l sites s s' L L' c.self.invariant.kept.told a.token (first ∷ second ∷ []) (name ∷ []) (step ∷ []) (group ∷ []) (Cell (length s.cells) ∷ []) (Open a.token.serial (length s.cells) b.next_mark (b.next_mark + 1)) tt T;
        counted = counted-kept l sites s s' L L' (Open a.token.serial (length s.cells) b.next_mark (b.next_mark + 1) ∷ []) entry (tt, tt) b.counts c.self.invariant.kept.counted;
        sized = λ j. omega (arith, c.join-2.ensures.sizes j, c.join.ensures.sizes j, ap (λ z. size_of z j) c.open-number.ensures.sizes, c.in_ok-reserve-5.ensures.sizes j, turned-members s s' L.sound a.token i (first ∷ second ∷ []) (name ∷ []) (step ∷ []) (group ∷ []) (Cell (length s.cells) ∷ []) _ T j, c.self.invariant.kept.sized j, ap (is_this j) (group-end s.steps step), ap (is_this j) (group-kept s.steps (step ∷ []) a.token.step (step_in l sites s L a.token i)), ap (is_this j) c.group_at-parent.ensures, ap (λ z. is_this j (group_at z a.token.step)) c.in_ok-reserve-3.ensures.items);
        brought = turned-deep s s' c.self.invariant.kept.brought a.token (first ∷ second ∷ []) (name ∷ []) step (group ∷ []) (Cell (length s.cells) ∷ []) _ T (omega arith) (omega arith) (omega arith);
      };
      rest = rest-kept (code l) (definitions l) s s' b.tokens c.add-other.new.self refl refl c.self.invariant.rest (live-in b.tokens.items) (stay-on b.tokens c.reserve.new.self c.add-other.new.self (stay-same b.tokens c.reserve.new.self c.in_ok-reserve.ensures.items c.in_ok-reserve.ensures.parked) (stay-on c.reserve.new.self c.replace.new.self c.add-other.new.self c.replace.ensures.parked c.add-other.ensures.parked)) (turns-terms l sites s L s' a.token i (first ∷ second ∷ []) (name ∷ []) (step ∷ []) (group ∷ []) (Cell (length s.cells) ∷ []) (Open a.token.serial (length s.cells) b.next_mark (b.next_mark + 1)) T (λ n. refl) (λ z. ap (λ y. current y z) T.cells ∙ current-push s.cells z));
      version = ap (λ j. j.version) c.in_ok-write_claimed.ensures.added ∙ c.self.invariant.version;
      limited = c.self.invariant.limited;
    }

pub returns-clause-done : goal.returns-clause-done
returns-clause-done g c =
    let b = c.self.inside in
    let a = c.args in
    let l = g.P.Run.listing in
    let sites = g.P.Run.sites in
    let cd = code l in
    let s : Records = record { limit = b.limit; journal = b.journal.entries; entries = b.entries; next_mark = b.next_mark; now = b.time; made = b.calls.made; tokens = live b.tokens.items; slots = b.tokens.items; calls = b.calls.items; scopes = b.scopes.items; steps = b.steps.items; groups = b.groups.items; cells = b.cells.items } in
    let L = c.self.invariant.kept.lawful in
    let G = c.self.invariant.kept.grouped in
    let held : IsHeld s.slots a.slot a.token = rw (← c.self.view_is) at c.requires.held in
    let i : IsIn a.token s.tokens = live-in s.slots a.slot a.token held in
    let number = c.open-number.result in
    let groups_so : c.reserve-5.new.self.items ≡ s.groups = c.in_ok-reserve-5.ensures.items in
    let free : IsFree s number = (c.open-number.ensures.free.0, subst (None (λ (h : Group). nat_eq number h.number)) groups_so c.open-number.ensures.free.1, c.open-number.ensures.few) in
    let room : s.entries < s.limit = rw (← c.self.view_is) at c.in_ok-within.ensures.room in
    let s' : Records = record { limit = b.limit; journal = c.write_claimed.new.journal.entries; entries = b.entries + 1; next_mark = b.next_mark + 2; now = b.time; made = b.calls.made; tokens = live c.add-other.new.self.items; slots = c.add-other.new.self.items; calls = b.calls.items; scopes = c.push_within.new.items.items; steps = c.push.new.self.items; groups = c.join-2.new.self.items; cells = c.push_within-2.new.items.items } in
    let journal : s'.journal ≡ s.journal ++ Open a.token.serial c.len-cell.result b.next_mark (b.next_mark + 1) ∷ [] = ap (λ j. j.entries) c.in_ok-write_claimed.ensures.added in
    let cell : c.len-cell.result ≡ length s.cells = omega (arith, c.len-cell.ensures, ap length c.in_ok-reserve-4.ensures.items) in
    let inner : c.len-inner.result + 1 ≡ length s.scopes + 1 = omega (arith, c.len-inner.ensures, ap length c.in_ok-reserve-2.ensures.items) in
    let count : c.len-step.result + 1 ≡ length s.steps + 1 = omega (arith, c.len-step.ensures.count, ap length c.in_ok-reserve-3.ensures.items) in
    let entry : s'.journal ≡ s.journal ++ Open a.token.serial (length s.cells) b.next_mark (b.next_mark + 1) ∷ [] = journal ∙ ap (λ (n : ℕ). s.journal ++ Open a.token.serial n b.next_mark (b.next_mark + 1) ∷ []) cell in
    let name : Scope = record { name = a.name; bound = Cell (length s.cells); outer = a.scope } in
    let scopes : c.push_within.new.items.items ≡ s.scopes ++ name ∷ [] = c.push_within.ensures.items ∙ ap (λ (z : Scope). c.reserve-2.new.items.items ++ z ∷ []) (c.new.ensures ∙ ap (λ (n : ℕ). record { name = a.name; bound = Cell c.len-cell.result; outer = n }) c.in_ok-outer.ensures.number) ∙ ap (λ (z : List Scope). z ++ record { name = a.name; bound = Cell c.len-cell.result; outer = a.scope } ∷ []) c.in_ok-reserve-2.ensures.items ∙ ap (λ (n : ℕ). s.scopes ++ record { name = a.name; bound = Cell n; outer = a.scope } ∷ []) cell in
    let step : Step = record { entered = PruneRight (length s.cells); outer = a.token.step; group = number; depth = 0; published = false } in
    let steps : c.push.new.self.items ≡ s.steps ++ step ∷ [] = c.push.ensures.items ∙ ap (λ (z : List Step). z ++ record { entered = PruneRight c.len-cell.result; outer = a.token.step; group = number; depth = 0; published = false } ∷ []) c.in_ok-reserve-3.ensures.items ∙ ap (λ (n : ℕ). s.steps ++ record { entered = PruneRight n; outer = a.token.step; group = number; depth = 0; published = false } ∷ []) cell in
    let group : Group = record { side = Right (length s.cells); outer = a.token.step; number = number } in
    let groups : c.join-2.new.self.items ≡ s.groups ++ group ∷ [] = c.join-2.ensures.items ∙ c.join.ensures.items ∙ c.open-number.ensures.items ∙ ap (λ (z : List Group). z ++ record { side = Right c.len-cell.result; outer = a.token.step; number = number } ∷ []) groups_so ∙ ap (λ (n : ℕ). s.groups ++ record { side = Right n; outer = a.token.step; number = number } ∷ []) cell in
    let cells : c.push_within-2.new.items.items ≡ s.cells ++ Cell (length s.cells) ∷ [] = c.push_within-2.ensures.items ∙ ap (λ (z : List Bound). z ++ Cell c.len-cell.result ∷ []) c.in_ok-reserve-4.ensures.items ∙ ap (λ (n : ℕ). s.cells ++ Cell n ∷ []) cell in
    let first : Token = born s a.token s.next_mark a.left (length s.scopes + 1) a.token.step in
    let second : Token = born s a.token (s.next_mark + 1) a.right a.scope (length s.steps + 1) in
    let slots : c.replace.new.self.items ≡ slice_set s.slots a.slot first = c.replace.ensures.items ∙ ap (λ z. slice_set z a.slot (born s a.token s.next_mark a.left (c.len-inner.result + 1) a.token.step)) c.in_ok-reserve.ensures.items ∙ ap (λ (n : ℕ). slice_set s.slots a.slot (born s a.token s.next_mark a.left n a.token.step)) inner in
    let tokens : (w : Token → ℕ) → weight w s'.tokens + w a.token ≡ weight w s.tokens + weight w (first ∷ second ∷ []) = λ w. omega (arith, c.add-other.ensures.added w, ap (λ (n : ℕ). w (born s a.token (s.next_mark + 1) a.right a.scope n)) count, ap (λ z. weight w (live z)) slots, replaced w s.slots a.slot a.token first held (later_mark l sites s L a.token i)) in
    let T : IsOpened s a.token a.scope a.left a.name a.right number s' = turns s s' a.token (first ∷ second ∷ []) (name ∷ []) (step ∷ []) (group ∷ []) (Cell (length s.cells) ∷ []) (Open a.token.serial (length s.cells) b.next_mark (b.next_mark + 1)) refl entry refl (omega arith) refl refl tokens refl (scopes) (steps) (groups) (cells) in
    rw (← c.self.view_is) (number, free, T)

pub replace-requires-clause-serial : goal.replace-requires-clause-serial
replace-requires-clause-serial g c =
    let b = c.self.inside in
    let a = c.args in
    let l = g.P.Run.listing in
    let sites = g.P.Run.sites in
    let cd = code l in
    let s : Records = record { limit = b.limit; journal = b.journal.entries; entries = b.entries; next_mark = b.next_mark; now = b.time; made = b.calls.made; tokens = live b.tokens.items; slots = b.tokens.items; calls = b.calls.items; scopes = b.scopes.items; steps = b.steps.items; groups = b.groups.items; cells = b.cells.items } in
    let L = c.self.invariant.kept.lawful in
    let G = c.self.invariant.kept.grouped in
    let held : IsHeld s.slots a.slot a.token = rw (← c.self.view_is) at c.requires.held in
    let i : IsIn a.token s.tokens = live-in s.slots a.slot a.token held in
    later_mark l sites s L a.token i

pub returns-clause-left : goal.returns-clause-left
returns-clause-left g c =
    let b = c.self.inside in
    let a = c.args in
    let l = g.P.Run.listing in
    let sites = g.P.Run.sites in
    let cd = code l in
    let s : Records = record { limit = b.limit; journal = b.journal.entries; entries = b.entries; next_mark = b.next_mark; now = b.time; made = b.calls.made; tokens = live b.tokens.items; slots = b.tokens.items; calls = b.calls.items; scopes = b.scopes.items; steps = b.steps.items; groups = b.groups.items; cells = b.cells.items } in
    let L = c.self.invariant.kept.lawful in
    let G = c.self.invariant.kept.grouped in
    let held : IsHeld s.slots a.slot a.token = rw (← c.self.view_is) at c.requires.held in
    let i : IsIn a.token s.tokens = live-in s.slots a.slot a.token held in
    let cell : c.len-cell.result ≡ length s.cells = omega (arith, c.len-cell.ensures, ap length c.in_ok-reserve-4.ensures.items) in
    let inner : c.len-inner.result + 1 ≡ length s.scopes + 1 = omega (arith, c.len-inner.ensures, ap length c.in_ok-reserve-2.ensures.items) in
    let count : c.len-step.result + 1 ≡ length s.steps + 1 = omega (arith, c.len-step.ensures.count, ap length c.in_ok-reserve-3.ensures.items) in
    let first : Token = born s a.token s.next_mark a.left (length s.scopes + 1) a.token.step in
    let second : Token = born s a.token (s.next_mark + 1) a.right a.scope (length s.steps + 1) in
    let slots : c.replace.new.self.items ≡ slice_set s.slots a.slot first = c.replace.ensures.items ∙ ap (λ z. slice_set z a.slot (born s a.token s.next_mark a.left (c.len-inner.result + 1) a.token.step)) c.in_ok-reserve.ensures.items ∙ ap (λ (n : ℕ). slice_set s.slots a.slot (born s a.token s.next_mark a.left n a.token.step)) inner in
    rw (← c.self.view_is) (c.add-other.ensures.others a.slot first (ap (λ z. slice_get z a.slot) slots ∙ set-there s.slots a.slot a.token first held.0, later_mark l sites s L a.token i))

pub returns-clause-right : goal.returns-clause-right
returns-clause-right g c =
    let b = c.self.inside in
    let a = c.args in
    let l = g.P.Run.listing in
    let sites = g.P.Run.sites in
    let cd = code l in
    let s : Records = record { limit = b.limit; journal = b.journal.entries; entries = b.entries; next_mark = b.next_mark; now = b.time; made = b.calls.made; tokens = live b.tokens.items; slots = b.tokens.items; calls = b.calls.items; scopes = b.scopes.items; steps = b.steps.items; groups = b.groups.items; cells = b.cells.items } in
    let L = c.self.invariant.kept.lawful in
    let G = c.self.invariant.kept.grouped in
    let held : IsHeld s.slots a.slot a.token = rw (← c.self.view_is) at c.requires.held in
    let i : IsIn a.token s.tokens = live-in s.slots a.slot a.token held in
    let cell : c.len-cell.result ≡ length s.cells = omega (arith, c.len-cell.ensures, ap length c.in_ok-reserve-4.ensures.items) in
    let inner : c.len-inner.result + 1 ≡ length s.scopes + 1 = omega (arith, c.len-inner.ensures, ap length c.in_ok-reserve-2.ensures.items) in
    let count : c.len-step.result + 1 ≡ length s.steps + 1 = omega (arith, c.len-step.ensures.count, ap length c.in_ok-reserve-3.ensures.items) in
    let first : Token = born s a.token s.next_mark a.left (length s.scopes + 1) a.token.step in
    let second : Token = born s a.token (s.next_mark + 1) a.right a.scope (length s.steps + 1) in
    let slots : c.replace.new.self.items ≡ slice_set s.slots a.slot first = c.replace.ensures.items ∙ ap (λ z. slice_set z a.slot (born s a.token s.next_mark a.left (c.len-inner.result + 1) a.token.step)) c.in_ok-reserve.ensures.items ∙ ap (λ (n : ℕ). slice_set s.slots a.slot (born s a.token s.next_mark a.left n a.token.step)) inner in
    rw (← c.self.view_is) (ap (λ z. slice_get z c.add-other.result) refl ∙ c.add-other.ensures.held.0 ∙ ap (λ (n : ℕ). Some (born s a.token (s.next_mark + 1) a.right a.scope n)) count, c.add-other.ensures.held.1)

pub invariant_of-self-in_err-reserve-5 : goal.invariant_of-self-in_err-reserve-5
invariant_of-self-in_err-reserve-5 g c =
    let b = c.self.inside in
    let a = c.args in
    let l = g.P.Run.listing in
    let sites = g.P.Run.sites in
    let cd = code l in
    let s : Records = record { limit = b.limit; journal = b.journal.entries; entries = b.entries; next_mark = b.next_mark; now = b.time; made = b.calls.made; tokens = live b.tokens.items; slots = b.tokens.items; calls = b.calls.items; scopes = b.scopes.items; steps = b.steps.items; groups = b.groups.items; cells = b.cells.items } in
    let L = c.self.invariant.kept.lawful in
    let G = c.self.invariant.kept.grouped in
    let held : IsHeld s.slots a.slot a.token = rw (← c.self.view_is) at c.requires.held in
    let i : IsIn a.token s.tokens = live-in s.slots a.slot a.token held in
    record { kept = kept-still l sites b.counts b.groups.sizes c.reserve-5.new.self.sizes s _ c.self.invariant.kept (λ k. record { limit = b.limit; journal = b.journal.entries; entries = b.entries; next_mark = b.next_mark; now = b.time; made = b.calls.made; tokens = live (sym c.in_ok-reserve.ensures.items k); slots = sym c.in_ok-reserve.ensures.items k; calls = b.calls.items; scopes = sym c.in_ok-reserve-2.ensures.items k; steps = sym c.in_ok-reserve-3.ensures.items k; groups = sym c.reserve-5.ensures.items k; cells = sym c.in_ok-reserve-4.ensures.items k }) c.reserve-5.ensures.sizes; rest = rest-same (code l) (definitions l) s _ b.tokens.parked c.reserve.new.self.parked (λ k. record { limit = b.limit; journal = b.journal.entries; entries = b.entries; next_mark = b.next_mark; now = b.time; made = b.calls.made; tokens = live (sym c.in_ok-reserve.ensures.items k); slots = sym c.in_ok-reserve.ensures.items k; calls = b.calls.items; scopes = sym c.in_ok-reserve-2.ensures.items k; steps = sym c.in_ok-reserve-3.ensures.items k; groups = sym c.reserve-5.ensures.items k; cells = sym c.in_ok-reserve-4.ensures.items k }) c.in_ok-reserve.ensures.parked c.self.invariant.rest; version = c.self.invariant.version; limited = c.self.invariant.limited }

pub invariant_of-self-in_err-write_claimed : goal.invariant_of-self-in_err-write_claimed
invariant_of-self-in_err-write_claimed g c =
    let b = c.self.inside in
    let a = c.args in
    let l = g.P.Run.listing in
    let sites = g.P.Run.sites in
    let cd = code l in
    let s : Records = record { limit = b.limit; journal = b.journal.entries; entries = b.entries; next_mark = b.next_mark; now = b.time; made = b.calls.made; tokens = live b.tokens.items; slots = b.tokens.items; calls = b.calls.items; scopes = b.scopes.items; steps = b.steps.items; groups = b.groups.items; cells = b.cells.items } in
    let L = c.self.invariant.kept.lawful in
    let G = c.self.invariant.kept.grouped in
    let held : IsHeld s.slots a.slot a.token = rw (← c.self.view_is) at c.requires.held in
    let i : IsIn a.token s.tokens = live-in s.slots a.slot a.token held in
    record { kept = kept-still l sites b.counts b.groups.sizes c.reserve-5.new.self.sizes s _ c.self.invariant.kept (λ k. record { limit = b.limit; journal = (sym c.in_err-write_claimed.ensures.refused k).entries; entries = b.entries; next_mark = b.next_mark; now = b.time; made = b.calls.made; tokens = live (sym c.in_ok-reserve.ensures.items k); slots = sym c.in_ok-reserve.ensures.items k; calls = b.calls.items; scopes = sym c.in_ok-reserve-2.ensures.items k; steps = sym c.in_ok-reserve-3.ensures.items k; groups = sym c.reserve-5.ensures.items k; cells = sym c.in_ok-reserve-4.ensures.items k }) c.reserve-5.ensures.sizes; rest = rest-same (code l) (definitions l) s _ b.tokens.parked c.reserve.new.self.parked (λ k. record { limit = b.limit; journal = (sym c.in_err-write_claimed.ensures.refused k).entries; entries = b.entries; next_mark = b.next_mark; now = b.time; made = b.calls.made; tokens = live (sym c.in_ok-reserve.ensures.items k); slots = sym c.in_ok-reserve.ensures.items k; calls = b.calls.items; scopes = sym c.in_ok-reserve-2.ensures.items k; steps = sym c.in_ok-reserve-3.ensures.items k; groups = sym c.reserve-5.ensures.items k; cells = sym c.in_ok-reserve-4.ensures.items k }) c.in_ok-reserve.ensures.parked c.self.invariant.rest; version = ap (λ j. j.version) c.in_err-write_claimed.ensures.refused ∙ c.self.invariant.version; limited = c.self.invariant.limited }

pub join-requires-clause-open : goal.join-requires-clause-open
join-requires-clause-open g c =
    let b = c.self.inside in
    let a = c.args in
    let l = g.P.Run.listing in
    let sites = g.P.Run.sites in
    let cd = code l in
    let s : Records = record { limit = b.limit; journal = b.journal.entries; entries = b.entries; next_mark = b.next_mark; now = b.time; made = b.calls.made; tokens = live b.tokens.items; slots = b.tokens.items; calls = b.calls.items; scopes = b.scopes.items; steps = b.steps.items; groups = b.groups.items; cells = b.cells.items } in
    let L = c.self.invariant.kept.lawful in
    let G = c.self.invariant.kept.grouped in
    let held : IsHeld s.slots a.slot a.token = rw (← c.self.view_is) at c.requires.held in
    let i : IsIn a.token s.tokens = live-in s.slots a.slot a.token held in
    let group : Group = record { side = Right c.len-cell.result; outer = c.args.token.step; number = c.open-number.result } in
    let parent : c.group_at-parent.result ≡ group_at s.steps a.token.step = c.group_at-parent.ensures ∙ ap (λ z. group_at z a.token.step) c.in_ok-reserve-3.ensures.items in
    let items : c.open-number.new.self.items ≡ s.groups ++ group ∷ [] = c.open-number.ensures.items ∙ ap (λ (z : List Group). z ++ group ∷ []) c.in_ok-reserve-5.ensures.items in
    subst (λ (z : List Group). IsOpen z c.group_at-parent.result) (sym items) (subst (IsOpen (s.groups ++ group ∷ [])) (sym parent) (open-more s.groups group (group_at s.steps a.token.step) (open-token l sites s L G a.token i)))

pub join-requires-clause-fits : goal.join-requires-clause-fits
join-requires-clause-fits g c =
    let b = c.self.inside in
    let a = c.args in
    let l = g.P.Run.listing in
    let sites = g.P.Run.sites in
    let cd = code l in
    let s : Records = record { limit = b.limit; journal = b.journal.entries; entries = b.entries; next_mark = b.next_mark; now = b.time; made = b.calls.made; tokens = live b.tokens.items; slots = b.tokens.items; calls = b.calls.items; scopes = b.scopes.items; steps = b.steps.items; groups = b.groups.items; cells = b.cells.items } in
    let L = c.self.invariant.kept.lawful in
    let G = c.self.invariant.kept.grouped in
    let held : IsHeld s.slots a.slot a.token = rw (← c.self.view_is) at c.requires.held in
    let i : IsIn a.token s.tokens = live-in s.slots a.slot a.token held in
    let n = c.group_at-parent.result in
    let places : HasRoom s 1 1 0 = rw (← c.self.view_is) at c.in_ok-within.ensures.places in
    omega (arith, size-few s b.groups.sizes 1 1 0 c.self.invariant.kept.sized places n, ap (λ z. size_of z n) c.open-number.ensures.sizes, c.in_ok-reserve-5.ensures.sizes n)

pub join-requires-2-clause-open : goal.join-requires-2-clause-open
join-requires-2-clause-open g c =
    let group : Group = record { side = Right c.len-cell.result; outer = c.args.token.step; number = c.open-number.result } in
    subst (λ (z : List Group). IsOpen z c.open-number.result) (sym (c.join.ensures.items ∙ c.open-number.ensures.items)) (open-new c.reserve-5.new.self.items group)

pub join-requires-2-clause-fits : goal.join-requires-2-clause-fits
join-requires-2-clause-fits g c =
    let b = c.self.inside in
    let a = c.args in
    let l = g.P.Run.listing in
    let sites = g.P.Run.sites in
    let cd = code l in
    let s : Records = record { limit = b.limit; journal = b.journal.entries; entries = b.entries; next_mark = b.next_mark; now = b.time; made = b.calls.made; tokens = live b.tokens.items; slots = b.tokens.items; calls = b.calls.items; scopes = b.scopes.items; steps = b.steps.items; groups = b.groups.items; cells = b.cells.items } in
    let L = c.self.invariant.kept.lawful in
    let G = c.self.invariant.kept.grouped in
    let held : IsHeld s.slots a.slot a.token = rw (← c.self.view_is) at c.requires.held in
    let i : IsIn a.token s.tokens = live-in s.slots a.slot a.token held in
    let n = c.open-number.result in
    let places : HasRoom s 1 1 0 = rw (← c.self.view_is) at c.in_ok-within.ensures.places in
    omega (arith, size-few s b.groups.sizes 1 1 0 c.self.invariant.kept.sized places n, ap (λ z. size_of z n) c.open-number.ensures.sizes, c.in_ok-reserve-5.ensures.sizes n, c.join.ensures.sizes n, one-most n c.group_at-parent.result)

pub replace-requires-clause-held : goal.replace-requires-clause-held
replace-requires-clause-held g c =
    let b = c.self.inside in
    let a = c.args in
    let l = g.P.Run.listing in
    let sites = g.P.Run.sites in
    let cd = code l in
    let s : Records = record { limit = b.limit; journal = b.journal.entries; entries = b.entries; next_mark = b.next_mark; now = b.time; made = b.calls.made; tokens = live b.tokens.items; slots = b.tokens.items; calls = b.calls.items; scopes = b.scopes.items; steps = b.steps.items; groups = b.groups.items; cells = b.cells.items } in
    let L = c.self.invariant.kept.lawful in
    let G = c.self.invariant.kept.grouped in
    let held : IsHeld s.slots a.slot a.token = rw (← c.self.view_is) at c.requires.held in
    let i : IsIn a.token s.tokens = live-in s.slots a.slot a.token held in
    (a.token, rw c.in_ok-reserve.ensures.items held)

pub push-requires-clause-within : goal.push-requires-clause-within
push-requires-clause-within g c =
    let b = c.self.inside in
    let a = c.args in
    let s : Records = record { limit = b.limit; journal = b.journal.entries; entries = b.entries; next_mark = b.next_mark; now = b.time; made = b.calls.made; tokens = live b.tokens.items; slots = b.tokens.items; calls = b.calls.items; scopes = b.scopes.items; steps = b.steps.items; groups = b.groups.items; cells = b.cells.items } in
    let held : IsHeld s.slots a.slot a.token = rw (← c.self.view_is) at c.requires.held in
    omega (arith, step-within s c.self.invariant.kept.lawful.sound a.token (live-in s.slots a.slot a.token held), ap length c.in_ok-reserve-3.ensures.items)

pub returns-clause-others : goal.returns-clause-others
returns-clause-others g c =
    let b = c.self.inside in
    let a = c.args in
    rw (← c.self.view_is) (on-all b.tokens.items c.replace.new.self.items c.add-other.new.self.items a.slot (from-all b.tokens.items c.reserve.new.self.items c.replace.new.self.items a.slot (same-all b.tokens.items c.reserve.new.self.items c.in_ok-reserve.ensures.items) (set-others c.reserve.new.self.items c.replace.new.self.items a.slot _ c.replace.ensures.items)) c.add-other.ensures.others)
