use Rattle.std.proofs.Common.{◌≡◌, ◌<◌, ◌++◌, ℕ, ◌+◌, [], ◌∷◌, sym, ◌∙◌, refl, ap, subst, arith, append-nil}
use Rattle.std.specs.Prelude.{slice_get, slice_set}
use Rattle.orc_rules.specs.declared.entry.Entry.TheVariants.{Fork}
use Rattle.orc_rules.specs.Timed.{IsIn}
use Rattle.orc_rules.specs.Nodes.{code, definitions}
use Rattle.orc_indexes.specs.Same.{weight}
use Rattle.orc_ledger_spec.specs.Records.{Records}
use Rattle.orc_tables.specs.Tokens.{live, IsHeld}
use Rattle.orc_ledger_spec.specs.Calls.{born, IsForked, HasRoom}
use Rattle.orc_tables.specs.declared.records.Token.{Token}
use Rattle.orc_ledger_spec.proofs.AtRest.{rest-kept, same-terms}
use Rattle.orc_tables.proofs.Parked.{stay-on, stay-same}
use Rattle.orc_indexes.proofs.Lists.{set-there}
use Rattle.orc_tables.proofs.Slots.{live-in, replaced}
use Rattle.orc_ledger_spec.proofs.Calling.{turns-told}
use Rattle.orc_ledger_spec.proofs.Keeping.{counted-kept}
use Rattle.orc_ledger_spec.proofs.Made.{turns, later_mark, step_in}
use Rattle.orc_ledger_spec.proofs.Leaves.{fork-lawful}
use Rattle.orc_ledger_spec.proofs.Grouped.{forked-grouped}
use Rattle.orc_indexes.specs.Same.{is_this}
use Rattle.orc_tables.specs.OpenGroups.{IsOpen}
use Rattle.orc_ledger_spec.proofs.Nests.{group-kept}
use Rattle.orc_ledger_spec.proofs.Sizes.{turned-members, open-token, size-few}
use Rattle.orc_ledger_spec.proofs.Brought.{turned-flat}
use Rattle.orc_ledger.proofs.Others.{same-all, set-others, from-all, on-all}
use Rattle.orc_ledger.proofs.ledger.Ledger.fork.Goals as goal

pub invariant_of-self-2 : goal.invariant_of-self-2
invariant_of-self-2 g c =
    let b = c.self.inside in
    let a = c.args in
    let l = g.P.Run.listing in
    let sites = g.P.Run.sites in
    let cd = code l in
    let s : Records = record { limit = b.limit; journal = b.journal.entries; entries = b.entries; next_mark = b.next_mark; now = b.time; made = b.calls.made; tokens = live b.tokens.items; slots = b.tokens.items; calls = b.calls.items; scopes = b.scopes.items; steps = b.steps.items; groups = b.groups.items; cells = b.cells.items } in
    let L = c.self.invariant.kept.lawful in
    let G = c.self.invariant.kept.grouped in
    let held : IsHeld s.slots a.slot a.token = rw (← c.self.view_is) at c.requires.held in
    let i : IsIn a.token s.tokens = live-in s.slots a.slot a.token held in
    let room : s.entries < s.limit = rw (← c.self.view_is) at c.in_ok-within.ensures.room in
    let s' : Records = record { limit = b.limit; journal = c.write.new.journal.entries; entries = b.entries + 1; next_mark = b.next_mark + 2; now = b.time; made = b.calls.made; tokens = live c.add-other.new.self.items; slots = c.add-other.new.self.items; calls = b.calls.items; scopes = b.scopes.items; steps = b.steps.items; groups = c.join.new.self.items; cells = b.cells.items } in
    let journal : s'.journal ≡ s.journal ++ Fork a.token.serial b.next_mark (b.next_mark + 1) ∷ [] = ap (λ j. j.entries) c.in_ok-write.ensures.added in
    let first : Token = born s a.token s.next_mark a.left a.scope a.token.step in
    let second : Token = born s a.token (s.next_mark + 1) a.right a.scope a.token.step in
    let slots : c.replace.new.self.items ≡ slice_set s.slots a.slot first = c.replace.ensures.items ∙ ap (λ z. slice_set z a.slot first) c.in_ok-reserve.ensures.items in
    let tokens : (w : Token → ℕ) → weight w s'.tokens + w a.token ≡ weight w s.tokens + weight w (first ∷ second ∷ []) = λ w. omega (arith, c.add-other.ensures.added w, ap (λ z. weight w (live z)) slots, replaced w s.slots a.slot a.token first held (later_mark l sites s L a.token i)) in
    let T : IsForked s a.token a.scope a.left a.right s' = turns s s' a.token (first ∷ second ∷ []) [] [] [] [] (Fork a.token.serial b.next_mark (b.next_mark + 1)) refl journal refl (omega arith) refl refl tokens refl (sym (append-nil s.scopes)) (sym (append-nil s.steps)) (c.join.ensures.items ∙ sym (append-nil s.groups)) (sym (append-nil s.cells)) in
    let L' = fork-lawful l sites s L a.token i c.requires.at.0 a.scope c.requires.at.1 a.left a.right c.requires.at.2 s' room T in
    record {
      kept = record {
        lawful = L';
        grouped = forked-grouped l sites s L G a.token i a.scope a.left a.right s' T;
        told = turns-told l sites s s' L L' c.self.invariant.kept.told a.token (first ∷ second ∷ []) [] [] [] [] (Fork a.token.serial b.next_mark (b.next_mark + 1)) tt T;
        counted = counted-kept l sites s s' L L' (Fork a.token.serial b.next_mark (b.next_mark + 1) ∷ []) journal (tt, tt) b.counts c.self.invariant.kept.counted;
        sized = λ j. omega (arith, c.join.ensures.sizes j, turned-members s s' L.sound a.token i (first ∷ second ∷ []) [] [] [] [] _ T j, c.self.invariant.kept.sized j, ap (is_this j) c.group_at-group.ensures, ap (is_this j) (group-kept s.steps [] a.token.step (step_in l sites s L a.token i)));
        brought = turned-flat s s' c.self.invariant.kept.brought a.token (first ∷ second ∷ []) [] [] _ T (omega arith);
      };
      rest = rest-kept (code l) (definitions l) s s' b.tokens c.add-other.new.self refl refl c.self.invariant.rest (live-in b.tokens.items) (stay-on b.tokens c.reserve.new.self c.add-other.new.self (stay-same b.tokens c.reserve.new.self c.in_ok-reserve.ensures.items c.in_ok-reserve.ensures.parked) (stay-on c.reserve.new.self c.replace.new.self c.add-other.new.self c.replace.ensures.parked c.add-other.ensures.parked)) (same-terms (code l) s s' refl refl);
      version = ap (λ j. j.version) c.in_ok-write.ensures.added ∙ c.self.invariant.version;
      limited = c.self.invariant.limited;
    }

pub returns-clause-done : goal.returns-clause-done
returns-clause-done g c =
    let b = c.self.inside in
    let a = c.args in
    let l = g.P.Run.listing in
    let sites = g.P.Run.sites in
    let cd = code l in
    let s : Records = record { limit = b.limit; journal = b.journal.entries; entries = b.entries; next_mark = b.next_mark; now = b.time; made = b.calls.made; tokens = live b.tokens.items; slots = b.tokens.items; calls = b.calls.items; scopes = b.scopes.items; steps = b.steps.items; groups = b.groups.items; cells = b.cells.items } in
    let L = c.self.invariant.kept.lawful in
    let G = c.self.invariant.kept.grouped in
    let held : IsHeld s.slots a.slot a.token = rw (← c.self.view_is) at c.requires.held in
    let i : IsIn a.token s.tokens = live-in s.slots a.slot a.token held in
    let room : s.entries < s.limit = rw (← c.self.view_is) at c.in_ok-within.ensures.room in
    let s' : Records = record { limit = b.limit; journal = c.write.new.journal.entries; entries = b.entries + 1; next_mark = b.next_mark + 2; now = b.time; made = b.calls.made; tokens = live c.add-other.new.self.items; slots = c.add-other.new.self.items; calls = b.calls.items; scopes = b.scopes.items; steps = b.steps.items; groups = c.join.new.self.items; cells = b.cells.items } in
    let journal : s'.journal ≡ s.journal ++ Fork a.token.serial b.next_mark (b.next_mark + 1) ∷ [] = ap (λ j. j.entries) c.in_ok-write.ensures.added in
    let first : Token = born s a.token s.next_mark a.left a.scope a.token.step in
    let second : Token = born s a.token (s.next_mark + 1) a.right a.scope a.token.step in
    let slots : c.replace.new.self.items ≡ slice_set s.slots a.slot first = c.replace.ensures.items ∙ ap (λ z. slice_set z a.slot first) c.in_ok-reserve.ensures.items in
    let tokens : (w : Token → ℕ) → weight w s'.tokens + w a.token ≡ weight w s.tokens + weight w (first ∷ second ∷ []) = λ w. omega (arith, c.add-other.ensures.added w, ap (λ z. weight w (live z)) slots, replaced w s.slots a.slot a.token first held (later_mark l sites s L a.token i)) in
    let T : IsForked s a.token a.scope a.left a.right s' = turns s s' a.token (first ∷ second ∷ []) [] [] [] [] (Fork a.token.serial b.next_mark (b.next_mark + 1)) refl journal refl (omega arith) refl refl tokens refl (sym (append-nil s.scopes)) (sym (append-nil s.steps)) (c.join.ensures.items ∙ sym (append-nil s.groups)) (sym (append-nil s.cells)) in
    rw (← c.self.view_is) T

pub replace-requires-clause-serial : goal.replace-requires-clause-serial
replace-requires-clause-serial g c =
    let b = c.self.inside in
    let a = c.args in
    let l = g.P.Run.listing in
    let sites = g.P.Run.sites in
    let cd = code l in
    let s : Records = record { limit = b.limit; journal = b.journal.entries; entries = b.entries; next_mark = b.next_mark; now = b.time; made = b.calls.made; tokens = live b.tokens.items; slots = b.tokens.items; calls = b.calls.items; scopes = b.scopes.items; steps = b.steps.items; groups = b.groups.items; cells = b.cells.items } in
    let L = c.self.invariant.kept.lawful in
    let G = c.self.invariant.kept.grouped in
    let held : IsHeld s.slots a.slot a.token = rw (← c.self.view_is) at c.requires.held in
    let i : IsIn a.token s.tokens = live-in s.slots a.slot a.token held in
    later_mark l sites s L a.token i

pub returns-clause-left : goal.returns-clause-left
returns-clause-left g c =
    let b = c.self.inside in
    let a = c.args in
    let l = g.P.Run.listing in
    let sites = g.P.Run.sites in
    let cd = code l in
    let s : Records = record { limit = b.limit; journal = b.journal.entries; entries = b.entries; next_mark = b.next_mark; now = b.time; made = b.calls.made; tokens = live b.tokens.items; slots = b.tokens.items; calls = b.calls.items; scopes = b.scopes.items; steps = b.steps.items; groups = b.groups.items; cells = b.cells.items } in
    let L = c.self.invariant.kept.lawful in
    let G = c.self.invariant.kept.grouped in
    let held : IsHeld s.slots a.slot a.token = rw (← c.self.view_is) at c.requires.held in
    let i : IsIn a.token s.tokens = live-in s.slots a.slot a.token held in
    let first : Token = born s a.token s.next_mark a.left a.scope a.token.step in
    let second : Token = born s a.token (s.next_mark + 1) a.right a.scope a.token.step in
    let slots : c.replace.new.self.items ≡ slice_set s.slots a.slot first = c.replace.ensures.items ∙ ap (λ z. slice_set z a.slot first) c.in_ok-reserve.ensures.items in
    rw (← c.self.view_is) (c.add-other.ensures.others a.slot first (ap (λ z. slice_get z a.slot) slots ∙ set-there s.slots a.slot a.token first held.0, later_mark l sites s L a.token i))

pub join-requires-clause-open : goal.join-requires-clause-open
join-requires-clause-open g c =
    let b = c.self.inside in
    let a = c.args in
    let l = g.P.Run.listing in
    let sites = g.P.Run.sites in
    let cd = code l in
    let s : Records = record { limit = b.limit; journal = b.journal.entries; entries = b.entries; next_mark = b.next_mark; now = b.time; made = b.calls.made; tokens = live b.tokens.items; slots = b.tokens.items; calls = b.calls.items; scopes = b.scopes.items; steps = b.steps.items; groups = b.groups.items; cells = b.cells.items } in
    let L = c.self.invariant.kept.lawful in
    let G = c.self.invariant.kept.grouped in
    let held : IsHeld s.slots a.slot a.token = rw (← c.self.view_is) at c.requires.held in
    let i : IsIn a.token s.tokens = live-in s.slots a.slot a.token held in
    subst (IsOpen s.groups) (sym c.group_at-group.ensures) (open-token l sites s L G a.token i)

pub join-requires-clause-fits : goal.join-requires-clause-fits
join-requires-clause-fits g c =
    let b = c.self.inside in
    let a = c.args in
    let l = g.P.Run.listing in
    let sites = g.P.Run.sites in
    let cd = code l in
    let s : Records = record { limit = b.limit; journal = b.journal.entries; entries = b.entries; next_mark = b.next_mark; now = b.time; made = b.calls.made; tokens = live b.tokens.items; slots = b.tokens.items; calls = b.calls.items; scopes = b.scopes.items; steps = b.steps.items; groups = b.groups.items; cells = b.cells.items } in
    let L = c.self.invariant.kept.lawful in
    let G = c.self.invariant.kept.grouped in
    let held : IsHeld s.slots a.slot a.token = rw (← c.self.view_is) at c.requires.held in
    let i : IsIn a.token s.tokens = live-in s.slots a.slot a.token held in
    let places : HasRoom s 1 0 0 = rw (← c.self.view_is) at c.in_ok-within.ensures.places in
    omega (arith, size-few s b.groups.sizes 1 0 0 c.self.invariant.kept.sized places c.group_at-group.result)

pub returns-clause-others : goal.returns-clause-others
returns-clause-others g c =
    let b = c.self.inside in
    let a = c.args in
    rw (← c.self.view_is) (on-all b.tokens.items c.replace.new.self.items c.add-other.new.self.items a.slot (from-all b.tokens.items c.reserve.new.self.items c.replace.new.self.items a.slot (same-all b.tokens.items c.reserve.new.self.items c.in_ok-reserve.ensures.items) (set-others c.reserve.new.self.items c.replace.new.self.items a.slot _ c.replace.ensures.items)) c.add-other.ensures.others)
