use Rattle.std.proofs.Common.{◌≡◌, ◌<◌, ◌++◌, ℕ, ◌+◌, List, [], ◌∷◌, length, sym, ◌∙◌, refl, ap, subst, arith, nat_eq, append-nil, false}
use Rattle.std.specs.Prelude.{slice_get, slice_set}
use Rattle.orc_rules.specs.declared.entry.Entry.TheVariants.{Other}
use Rattle.orc_rules.specs.Timed.{IsIn}
use Rattle.orc_rules.specs.Nodes.{code, definitions}
use Rattle.orc_indexes.specs.Same.{weight, None}
use Rattle.orc_ledger_spec.specs.Records.{Records}
use Rattle.orc_tables.specs.Steps.{depth_at}
use Rattle.orc_tables.specs.Tokens.{live, IsHeld}
use Rattle.orc_ledger_spec.specs.Calls.{born, IsFree, IsTried, HasRoom}
use Rattle.orc_tables.specs.declared.records.Token.{Token}
use Rattle.orc_tables.specs.declared.records.Frame.TheVariants.{OtherwiseLeft}
use Rattle.orc_tables.specs.declared.records.Step.{Step}
use Rattle.orc_tables.specs.declared.records.Side.TheVariants.{Left}
use Rattle.orc_tables.specs.declared.records.Group.{Group}
use Rattle.orc_ledger_spec.proofs.AtRest.{rest-kept, rest-same, same-terms}
use Rattle.orc_indexes.proofs.Lists.{set-there}
use Rattle.orc_tables.proofs.Slots.{live-in, replaced}
use Rattle.orc_ledger_spec.proofs.Calling.{turns-told}
use Rattle.orc_ledger_spec.proofs.Keeping.{counted-kept}
use Rattle.orc_ledger_spec.proofs.Made.{turns, later_mark, step_in}
use Rattle.orc_ledger_spec.proofs.Leaves.{try-lawful}
use Rattle.orc_ledger_spec.proofs.Grouped.{tried-grouped}
use Rattle.orc_indexes.specs.Same.{is_this}
use Rattle.orc_tables.specs.OpenGroups.{IsOpen, size_of}
use Rattle.orc_ledger_spec.proofs.Nests.{group-kept, group-end}
use Rattle.orc_ledger_spec.proofs.Sizes.{turned-members, open-new, size-few, kept-still}
use Rattle.orc_ledger_spec.proofs.Brought.{turned-deep}
use Rattle.orc_ledger_spec.proofs.Advancing.{step-within}
use Rattle.orc_ledger.proofs.Others.{set-others}
use Rattle.orc_ledger.proofs.ledger.Ledger.other.Goals as goal

pub invariant_of-self-2 : goal.invariant_of-self-2
invariant_of-self-2 g c =
    let b = c.self.inside in
    let a = c.args in
    let l = g.P.Run.listing in
    let sites = g.P.Run.sites in
    let cd = code l in
    let s : Records = record { limit = b.limit; journal = b.journal.entries; entries = b.entries; next_mark = b.next_mark; now = b.time; made = b.calls.made; tokens = live b.tokens.items; slots = b.tokens.items; calls = b.calls.items; scopes = b.scopes.items; steps = b.steps.items; groups = b.groups.items; cells = b.cells.items } in
    let L = c.self.invariant.kept.lawful in
    let G = c.self.invariant.kept.grouped in
    let held : IsHeld s.slots a.slot a.token = rw (← c.self.view_is) at c.requires.held in
    let i : IsIn a.token s.tokens = live-in s.slots a.slot a.token held in
    let number = c.open-number.result in
    let groups_so : c.reserve-2.new.self.items ≡ s.groups = c.in_ok-reserve-2.ensures.items in
    let free : IsFree s number = (c.open-number.ensures.free.0, subst (None (λ (h : Group). nat_eq number h.number)) groups_so c.open-number.ensures.free.1, c.open-number.ensures.few) in
    let room : s.entries < s.limit = rw (← c.self.view_is) at c.in_ok-within.ensures.room in
    let s' : Records = record { limit = b.limit; journal = c.write_claimed.new.journal.entries; entries = b.entries + 1; next_mark = b.next_mark + 1; now = b.time; made = b.calls.made; tokens = live c.replace.new.self.items; slots = c.replace.new.self.items; calls = b.calls.items; scopes = b.scopes.items; steps = c.push.new.self.items; groups = c.join.new.self.items; cells = b.cells.items } in
    let journal : s'.journal ≡ s.journal ++ Other a.token.serial b.next_mark ∷ [] = ap (λ j. j.entries) c.in_ok-write_claimed.ensures.added in
    let step : Step = record { entered = OtherwiseLeft a.token.serial; outer = a.token.step; group = number; depth = depth_at s.steps a.token.step; published = false } in
    let made : Step = record { entered = OtherwiseLeft a.token.serial; outer = a.token.step; group = number; depth = c.depth_at-depth.result; published = false } in
    let deep : c.depth_at-depth.result ≡ depth_at s.steps a.token.step = c.depth_at-depth.ensures ∙ ap (λ z. depth_at z a.token.step) c.in_ok-reserve.ensures.items in
    let same : made ≡ step = λ i. record { entered = OtherwiseLeft a.token.serial; outer = a.token.step; group = number; depth = deep i; published = false } in
    let steps : c.push.new.self.items ≡ s.steps ++ step ∷ [] = c.push.ensures.items ∙ ap (λ (z : List Step). z ++ made ∷ []) c.in_ok-reserve.ensures.items ∙ ap (λ z. s.steps ++ z ∷ []) same in
    let group : Group = record { side = Left a.token.serial a.right a.scope; outer = a.token.step; number = number } in
    let groups : c.join.new.self.items ≡ s.groups ++ group ∷ [] = c.join.ensures.items ∙ c.open-number.ensures.items ∙ ap (λ (z : List Group). z ++ group ∷ []) groups_so in
    let count : c.len-step.result + 1 ≡ length s.steps + 1 = omega (arith, c.len-step.ensures.count, ap length c.in_ok-reserve.ensures.items) in
    let first : Token = born s a.token s.next_mark a.left a.scope (length s.steps + 1) in
    let slots : c.replace.new.self.items ≡ slice_set s.slots a.slot first = c.replace.ensures.items ∙ ap (λ (n : ℕ). slice_set s.slots a.slot (born s a.token s.next_mark a.left a.scope n)) count in
    let tokens : (w : Token → ℕ) → weight w s'.tokens + w a.token ≡ weight w s.tokens + weight w (first ∷ []) = λ w. omega (arith, ap (λ z. weight w (live z)) slots, replaced w s.slots a.slot a.token first held (later_mark l sites s L a.token i)) in
    let T : IsTried s a.token a.scope a.left a.right number s' = turns s s' a.token (first ∷ []) [] (step ∷ []) (group ∷ []) [] (Other a.token.serial b.next_mark) refl journal refl (omega arith) refl refl tokens refl (sym (append-nil s.scopes)) (steps) (groups) (sym (append-nil s.cells)) in
    let L' = try-lawful l sites s L a.token i c.requires.at.0 a.scope c.requires.at.1 a.left a.right number c.requires.at.2 s' room T in
    record {
      kept = record {
        lawful = L';
        grouped = tried-grouped l sites s L G a.token i a.scope a.left a.right number free s' T;
        told = turns-told l sites s s' L L' c.self.invariant.kept.told a.token (first ∷ []) [] (step ∷ []) (group ∷ []) [] (Other a.token.serial b.next_mark) tt T;
        counted = counted-kept l sites s s' L L' (Other a.token.serial b.next_mark ∷ []) journal (tt, tt) b.counts c.self.invariant.kept.counted;
        sized = λ j. omega (arith, c.join.ensures.sizes j, ap (λ z. size_of z j) c.open-number.ensures.sizes, c.in_ok-reserve-2.ensures.sizes j, turned-members s s' L.sound a.token i (first ∷ []) [] (step ∷ []) (group ∷ []) [] _ T j, c.self.invariant.kept.sized j, ap (is_this j) (group-end s.steps step), ap (is_this j) (group-kept s.steps (step ∷ []) a.token.step (step_in l sites s L a.token i)));
        brought = turned-deep s s' c.self.invariant.kept.brought a.token (first ∷ []) [] step (group ∷ []) [] _ T (omega arith) (omega arith) (omega (arith, c.self.invariant.kept.brought.depth a.token.step));
      };
      rest = rest-kept (code l) (definitions l) s s' b.tokens c.replace.new.self refl refl c.self.invariant.rest (live-in b.tokens.items) (c.replace.ensures.parked) (same-terms (code l) s s' refl refl);
      version = ap (λ j. j.version) c.in_ok-write_claimed.ensures.added ∙ c.self.invariant.version;
      limited = c.self.invariant.limited;
    }

pub returns-clause-done : goal.returns-clause-done
returns-clause-done g c =
    let b = c.self.inside in
    let a = c.args in
    let l = g.P.Run.listing in
    let sites = g.P.Run.sites in
    let cd = code l in
    let s : Records = record { limit = b.limit; journal = b.journal.entries; entries = b.entries; next_mark = b.next_mark; now = b.time; made = b.calls.made; tokens = live b.tokens.items; slots = b.tokens.items; calls = b.calls.items; scopes = b.scopes.items; steps = b.steps.items; groups = b.groups.items; cells = b.cells.items } in
    let L = c.self.invariant.kept.lawful in
    let G = c.self.invariant.kept.grouped in
    let held : IsHeld s.slots a.slot a.token = rw (← c.self.view_is) at c.requires.held in
    let i : IsIn a.token s.tokens = live-in s.slots a.slot a.token held in
    let number = c.open-number.result in
    let groups_so : c.reserve-2.new.self.items ≡ s.groups = c.in_ok-reserve-2.ensures.items in
    let free : IsFree s number = (c.open-number.ensures.free.0, subst (None (λ (h : Group). nat_eq number h.number)) groups_so c.open-number.ensures.free.1, c.open-number.ensures.few) in
    let room : s.entries < s.limit = rw (← c.self.view_is) at c.in_ok-within.ensures.room in
    let s' : Records = record { limit = b.limit; journal = c.write_claimed.new.journal.entries; entries = b.entries + 1; next_mark = b.next_mark + 1; now = b.time; made = b.calls.made; tokens = live c.replace.new.self.items; slots = c.replace.new.self.items; calls = b.calls.items; scopes = b.scopes.items; steps = c.push.new.self.items; groups = c.join.new.self.items; cells = b.cells.items } in
    let journal : s'.journal ≡ s.journal ++ Other a.token.serial b.next_mark ∷ [] = ap (λ j. j.entries) c.in_ok-write_claimed.ensures.added in
    let step : Step = record { entered = OtherwiseLeft a.token.serial; outer = a.token.step; group = number; depth = depth_at s.steps a.token.step; published = false } in
    let made : Step = record { entered = OtherwiseLeft a.token.serial; outer = a.token.step; group = number; depth = c.depth_at-depth.result; published = false } in
    let deep : c.depth_at-depth.result ≡ depth_at s.steps a.token.step = c.depth_at-depth.ensures ∙ ap (λ z. depth_at z a.token.step) c.in_ok-reserve.ensures.items in
    let same : made ≡ step = λ i. record { entered = OtherwiseLeft a.token.serial; outer = a.token.step; group = number; depth = deep i; published = false } in
    let steps : c.push.new.self.items ≡ s.steps ++ step ∷ [] = c.push.ensures.items ∙ ap (λ (z : List Step). z ++ made ∷ []) c.in_ok-reserve.ensures.items ∙ ap (λ z. s.steps ++ z ∷ []) same in
    let group : Group = record { side = Left a.token.serial a.right a.scope; outer = a.token.step; number = number } in
    let groups : c.join.new.self.items ≡ s.groups ++ group ∷ [] = c.join.ensures.items ∙ c.open-number.ensures.items ∙ ap (λ (z : List Group). z ++ group ∷ []) groups_so in
    let count : c.len-step.result + 1 ≡ length s.steps + 1 = omega (arith, c.len-step.ensures.count, ap length c.in_ok-reserve.ensures.items) in
    let first : Token = born s a.token s.next_mark a.left a.scope (length s.steps + 1) in
    let slots : c.replace.new.self.items ≡ slice_set s.slots a.slot first = c.replace.ensures.items ∙ ap (λ (n : ℕ). slice_set s.slots a.slot (born s a.token s.next_mark a.left a.scope n)) count in
    let tokens : (w : Token → ℕ) → weight w s'.tokens + w a.token ≡ weight w s.tokens + weight w (first ∷ []) = λ w. omega (arith, ap (λ z. weight w (live z)) slots, replaced w s.slots a.slot a.token first held (later_mark l sites s L a.token i)) in
    let T : IsTried s a.token a.scope a.left a.right number s' = turns s s' a.token (first ∷ []) [] (step ∷ []) (group ∷ []) [] (Other a.token.serial b.next_mark) refl journal refl (omega arith) refl refl tokens refl (sym (append-nil s.scopes)) (steps) (groups) (sym (append-nil s.cells)) in
    rw (← c.self.view_is) (number, free, T)

pub replace-requires-clause-serial : goal.replace-requires-clause-serial
replace-requires-clause-serial g c =
    let b = c.self.inside in
    let a = c.args in
    let l = g.P.Run.listing in
    let sites = g.P.Run.sites in
    let cd = code l in
    let s : Records = record { limit = b.limit; journal = b.journal.entries; entries = b.entries; next_mark = b.next_mark; now = b.time; made = b.calls.made; tokens = live b.tokens.items; slots = b.tokens.items; calls = b.calls.items; scopes = b.scopes.items; steps = b.steps.items; groups = b.groups.items; cells = b.cells.items } in
    let L = c.self.invariant.kept.lawful in
    let G = c.self.invariant.kept.grouped in
    let held : IsHeld s.slots a.slot a.token = rw (← c.self.view_is) at c.requires.held in
    let i : IsIn a.token s.tokens = live-in s.slots a.slot a.token held in
    later_mark l sites s L a.token i

pub returns-clause-left : goal.returns-clause-left
returns-clause-left g c =
    let b = c.self.inside in
    let a = c.args in
    let l = g.P.Run.listing in
    let sites = g.P.Run.sites in
    let cd = code l in
    let s : Records = record { limit = b.limit; journal = b.journal.entries; entries = b.entries; next_mark = b.next_mark; now = b.time; made = b.calls.made; tokens = live b.tokens.items; slots = b.tokens.items; calls = b.calls.items; scopes = b.scopes.items; steps = b.steps.items; groups = b.groups.items; cells = b.cells.items } in
    let L = c.self.invariant.kept.lawful in
    let G = c.self.invariant.kept.grouped in
    let held : IsHeld s.slots a.slot a.token = rw (← c.self.view_is) at c.requires.held in
    let i : IsIn a.token s.tokens = live-in s.slots a.slot a.token held in
    let count : c.len-step.result + 1 ≡ length s.steps + 1 = omega (arith, c.len-step.ensures.count, ap length c.in_ok-reserve.ensures.items) in
    let first : Token = born s a.token s.next_mark a.left a.scope (length s.steps + 1) in
    let slots : c.replace.new.self.items ≡ slice_set s.slots a.slot first = c.replace.ensures.items ∙ ap (λ (n : ℕ). slice_set s.slots a.slot (born s a.token s.next_mark a.left a.scope n)) count in
    rw (← c.self.view_is) (ap (λ z. slice_get z a.slot) slots ∙ set-there s.slots a.slot a.token first held.0, later_mark l sites s L a.token i)

pub invariant_of-self-in_err-reserve-2 : goal.invariant_of-self-in_err-reserve-2
invariant_of-self-in_err-reserve-2 g c =
    let b = c.self.inside in
    let a = c.args in
    let l = g.P.Run.listing in
    let sites = g.P.Run.sites in
    let cd = code l in
    let s : Records = record { limit = b.limit; journal = b.journal.entries; entries = b.entries; next_mark = b.next_mark; now = b.time; made = b.calls.made; tokens = live b.tokens.items; slots = b.tokens.items; calls = b.calls.items; scopes = b.scopes.items; steps = b.steps.items; groups = b.groups.items; cells = b.cells.items } in
    let L = c.self.invariant.kept.lawful in
    let G = c.self.invariant.kept.grouped in
    let held : IsHeld s.slots a.slot a.token = rw (← c.self.view_is) at c.requires.held in
    let i : IsIn a.token s.tokens = live-in s.slots a.slot a.token held in
    record { kept = kept-still l sites b.counts b.groups.sizes c.reserve-2.new.self.sizes s _ c.self.invariant.kept (λ k. record { limit = b.limit; journal = b.journal.entries; entries = b.entries; next_mark = b.next_mark; now = b.time; made = b.calls.made; tokens = live b.tokens.items; slots = b.tokens.items; calls = b.calls.items; scopes = b.scopes.items; steps = sym c.in_ok-reserve.ensures.items k; groups = sym c.reserve-2.ensures.items k; cells = b.cells.items }) c.reserve-2.ensures.sizes; rest = rest-same (code l) (definitions l) s _ b.tokens.parked b.tokens.parked (λ k. record { limit = b.limit; journal = b.journal.entries; entries = b.entries; next_mark = b.next_mark; now = b.time; made = b.calls.made; tokens = live b.tokens.items; slots = b.tokens.items; calls = b.calls.items; scopes = b.scopes.items; steps = sym c.in_ok-reserve.ensures.items k; groups = sym c.reserve-2.ensures.items k; cells = b.cells.items }) refl c.self.invariant.rest; version = c.self.invariant.version; limited = c.self.invariant.limited }

pub invariant_of-self-in_err-write_claimed : goal.invariant_of-self-in_err-write_claimed
invariant_of-self-in_err-write_claimed g c =
    let b = c.self.inside in
    let a = c.args in
    let l = g.P.Run.listing in
    let sites = g.P.Run.sites in
    let cd = code l in
    let s : Records = record { limit = b.limit; journal = b.journal.entries; entries = b.entries; next_mark = b.next_mark; now = b.time; made = b.calls.made; tokens = live b.tokens.items; slots = b.tokens.items; calls = b.calls.items; scopes = b.scopes.items; steps = b.steps.items; groups = b.groups.items; cells = b.cells.items } in
    let L = c.self.invariant.kept.lawful in
    let G = c.self.invariant.kept.grouped in
    let held : IsHeld s.slots a.slot a.token = rw (← c.self.view_is) at c.requires.held in
    let i : IsIn a.token s.tokens = live-in s.slots a.slot a.token held in
    record { kept = kept-still l sites b.counts b.groups.sizes c.reserve-2.new.self.sizes s _ c.self.invariant.kept (λ k. record { limit = b.limit; journal = (sym c.in_err-write_claimed.ensures.refused k).entries; entries = b.entries; next_mark = b.next_mark; now = b.time; made = b.calls.made; tokens = live b.tokens.items; slots = b.tokens.items; calls = b.calls.items; scopes = b.scopes.items; steps = sym c.in_ok-reserve.ensures.items k; groups = sym c.reserve-2.ensures.items k; cells = b.cells.items }) c.reserve-2.ensures.sizes; rest = rest-same (code l) (definitions l) s _ b.tokens.parked b.tokens.parked (λ k. record { limit = b.limit; journal = (sym c.in_err-write_claimed.ensures.refused k).entries; entries = b.entries; next_mark = b.next_mark; now = b.time; made = b.calls.made; tokens = live b.tokens.items; slots = b.tokens.items; calls = b.calls.items; scopes = b.scopes.items; steps = sym c.in_ok-reserve.ensures.items k; groups = sym c.reserve-2.ensures.items k; cells = b.cells.items }) refl c.self.invariant.rest; version = ap (λ j. j.version) c.in_err-write_claimed.ensures.refused ∙ c.self.invariant.version; limited = c.self.invariant.limited }

pub join-requires-clause-open : goal.join-requires-clause-open
join-requires-clause-open g c =
    let group : Group = record { side = Left c.args.token.serial c.args.right c.args.scope; outer = c.args.token.step; number = c.open-number.result } in
    subst (λ (z : List Group). IsOpen z c.open-number.result) (sym c.open-number.ensures.items) (open-new c.reserve-2.new.self.items group)

pub join-requires-clause-fits : goal.join-requires-clause-fits
join-requires-clause-fits g c =
    let b = c.self.inside in
    let a = c.args in
    let l = g.P.Run.listing in
    let sites = g.P.Run.sites in
    let cd = code l in
    let s : Records = record { limit = b.limit; journal = b.journal.entries; entries = b.entries; next_mark = b.next_mark; now = b.time; made = b.calls.made; tokens = live b.tokens.items; slots = b.tokens.items; calls = b.calls.items; scopes = b.scopes.items; steps = b.steps.items; groups = b.groups.items; cells = b.cells.items } in
    let L = c.self.invariant.kept.lawful in
    let G = c.self.invariant.kept.grouped in
    let held : IsHeld s.slots a.slot a.token = rw (← c.self.view_is) at c.requires.held in
    let i : IsIn a.token s.tokens = live-in s.slots a.slot a.token held in
    let n = c.open-number.result in
    let places : HasRoom s 0 1 0 = rw (← c.self.view_is) at c.in_ok-within.ensures.places in
    omega (arith, size-few s b.groups.sizes 0 1 0 c.self.invariant.kept.sized places n, ap (λ z. size_of z n) c.open-number.ensures.sizes, c.in_ok-reserve-2.ensures.sizes n)

pub replace-requires-clause-held : goal.replace-requires-clause-held
replace-requires-clause-held g c =
    let b = c.self.inside in
    let a = c.args in
    let l = g.P.Run.listing in
    let sites = g.P.Run.sites in
    let cd = code l in
    let s : Records = record { limit = b.limit; journal = b.journal.entries; entries = b.entries; next_mark = b.next_mark; now = b.time; made = b.calls.made; tokens = live b.tokens.items; slots = b.tokens.items; calls = b.calls.items; scopes = b.scopes.items; steps = b.steps.items; groups = b.groups.items; cells = b.cells.items } in
    let L = c.self.invariant.kept.lawful in
    let G = c.self.invariant.kept.grouped in
    let held : IsHeld s.slots a.slot a.token = rw (← c.self.view_is) at c.requires.held in
    let i : IsIn a.token s.tokens = live-in s.slots a.slot a.token held in
    (a.token, held)

pub push-requires-clause-within : goal.push-requires-clause-within
push-requires-clause-within g c =
    let b = c.self.inside in
    let a = c.args in
    let s : Records = record { limit = b.limit; journal = b.journal.entries; entries = b.entries; next_mark = b.next_mark; now = b.time; made = b.calls.made; tokens = live b.tokens.items; slots = b.tokens.items; calls = b.calls.items; scopes = b.scopes.items; steps = b.steps.items; groups = b.groups.items; cells = b.cells.items } in
    let held : IsHeld s.slots a.slot a.token = rw (← c.self.view_is) at c.requires.held in
    omega (arith, step-within s c.self.invariant.kept.lawful.sound a.token (live-in s.slots a.slot a.token held), ap length c.in_ok-reserve.ensures.items)

pub returns-clause-others : goal.returns-clause-others
returns-clause-others g c =
    let b = c.self.inside in
    let a = c.args in
    rw (← c.self.view_is) (set-others b.tokens.items c.replace.new.self.items a.slot _ c.replace.ensures.items)
