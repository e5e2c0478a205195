use Rattle.std.proofs.Common.{◌≡◌, ◌<◌, ◌++◌, ℕ, ◌+◌, List, [], ◌∷◌, length, sym, ◌∙◌, refl, ap, arith, append-nil, false}
use Rattle.std.specs.Prelude.{slice_get, slice_set}
use Rattle.orc_rules.specs.declared.entry.Entry.TheVariants.{Seq}
use Rattle.orc_rules.specs.Timed.{IsIn}
use Rattle.orc_rules.specs.Nodes.{code, definitions}
use Rattle.orc_indexes.specs.Same.{weight}
use Rattle.orc_ledger_spec.specs.Records.{Records}
use Rattle.orc_tables.specs.Steps.{group_at, depth_at}
use Rattle.orc_tables.specs.Tokens.{live, IsHeld}
use Rattle.orc_ledger_spec.specs.Calls.{born, IsFed}
use Rattle.orc_tables.specs.declared.records.Token.{Token}
use Rattle.orc_tables.specs.declared.records.Frame.TheVariants.{SeqLeft}
use Rattle.orc_tables.specs.declared.records.Step.{Step}
use Rattle.orc_ledger_spec.proofs.AtRest.{rest-kept, same-terms}
use Rattle.orc_indexes.proofs.Lists.{set-there}
use Rattle.orc_tables.proofs.Slots.{live-in, replaced}
use Rattle.orc_ledger_spec.proofs.Calling.{turns-told}
use Rattle.orc_ledger_spec.proofs.Keeping.{counted-kept}
use Rattle.orc_ledger_spec.proofs.Made.{turns, later_mark}
use Rattle.orc_ledger_spec.proofs.Leaves.{feed-lawful}
use Rattle.orc_ledger_spec.proofs.Grouped.{fed-grouped}
use Rattle.orc_indexes.specs.Same.{is_this}
use Rattle.orc_ledger_spec.proofs.Nests.{group-end}
use Rattle.orc_ledger_spec.proofs.Sizes.{turned-members}
use Rattle.orc_ledger_spec.proofs.Brought.{turned-deep}
use Rattle.orc_ledger_spec.proofs.Advancing.{step-within}
use Rattle.orc_ledger.proofs.Others.{set-others}
use Rattle.orc_ledger.proofs.ledger.Ledger.feed.Goals as goal

pub invariant_of-self-2 : goal.invariant_of-self-2
invariant_of-self-2 g c =
    let b = c.self.inside in
    let a = c.args in
    let l = g.P.Run.listing in
    let sites = g.P.Run.sites in
    let cd = code l in
    let s : Records = record { limit = b.limit; journal = b.journal.entries; entries = b.entries; next_mark = b.next_mark; now = b.time; made = b.calls.made; tokens = live b.tokens.items; slots = b.tokens.items; calls = b.calls.items; scopes = b.scopes.items; steps = b.steps.items; groups = b.groups.items; cells = b.cells.items } in
    let L = c.self.invariant.kept.lawful in
    let G = c.self.invariant.kept.grouped in
    let held : IsHeld s.slots a.slot a.token = rw (← c.self.view_is) at c.requires.held in
    let i : IsIn a.token s.tokens = live-in s.slots a.slot a.token held in
    let room : s.entries < s.limit = rw (← c.self.view_is) at c.in_ok-within.ensures.room in
    let s' : Records = record { limit = b.limit; journal = c.write.new.journal.entries; entries = b.entries + 1; next_mark = b.next_mark + 1; now = b.time; made = b.calls.made; tokens = live c.replace.new.self.items; slots = c.replace.new.self.items; calls = b.calls.items; scopes = b.scopes.items; steps = c.push.new.self.items; groups = b.groups.items; cells = b.cells.items } in
    let journal : s'.journal ≡ s.journal ++ Seq a.token.serial b.next_mark ∷ [] = ap (λ j. j.entries) c.in_ok-write.ensures.added in
    let step : Step = record { entered = SeqLeft a.name a.right a.scope; outer = a.token.step; group = group_at s.steps a.token.step; depth = depth_at s.steps a.token.step + 1; published = false } in
    let made : Step = record { entered = SeqLeft a.name a.right a.scope; outer = a.token.step; group = c.group_at-group.result; depth = c.depth_at-depth.result + 1; published = false } in
    let same : made ≡ step = λ i. record { entered = SeqLeft a.name a.right a.scope; outer = a.token.step; group = c.group_at-group.ensures i; depth = c.depth_at-depth.ensures i + 1; published = false } in
    let steps : c.push.new.self.items ≡ s.steps ++ step ∷ [] = c.push.ensures.items ∙ ap (λ (z : List Step). z ++ made ∷ []) c.in_ok-reserve.ensures.items ∙ ap (λ z. s.steps ++ z ∷ []) same in
    let count : c.len-step.result + 1 ≡ length s.steps + 1 = omega (arith, c.len-step.ensures.count, ap length c.in_ok-reserve.ensures.items) in
    let first : Token = born s a.token s.next_mark a.left a.scope (length s.steps + 1) in
    let slots : c.replace.new.self.items ≡ slice_set s.slots a.slot first = c.replace.ensures.items ∙ ap (λ (n : ℕ). slice_set s.slots a.slot (born s a.token s.next_mark a.left a.scope n)) count in
    let tokens : (w : Token → ℕ) → weight w s'.tokens + w a.token ≡ weight w s.tokens + weight w (first ∷ []) = λ w. omega (arith, ap (λ z. weight w (live z)) slots, replaced w s.slots a.slot a.token first held (later_mark l sites s L a.token i)) in
    let T : IsFed s a.token a.scope a.left a.name a.right s' = turns s s' a.token (first ∷ []) [] (step ∷ []) [] [] (Seq a.token.serial b.next_mark) refl journal refl (omega arith) refl refl tokens refl (sym (append-nil s.scopes)) (steps) (sym (append-nil s.groups)) (sym (append-nil s.cells)) in
    let L' = feed-lawful l sites s L a.token i c.requires.at.0 a.scope c.requires.at.1 a.left a.name a.right c.requires.at.2 s' room T in
    record {
      kept = record {
        lawful = L';
        grouped = fed-grouped l sites s L G a.token i a.scope a.left a.name a.right s' T;
        told = turns-told l sites s s' L L' c.self.invariant.kept.told a.token (first ∷ []) [] (step ∷ []) [] [] (Seq a.token.serial b.next_mark) tt T;
        counted = counted-kept l sites s s' L L' (Seq a.token.serial b.next_mark ∷ []) journal (tt, tt) b.counts c.self.invariant.kept.counted;
        sized = λ j. omega (arith, turned-members s s' L.sound a.token i (first ∷ []) [] (step ∷ []) [] [] _ T j, c.self.invariant.kept.sized j, ap (is_this j) (group-end s.steps step));
        brought = turned-deep s s' c.self.invariant.kept.brought a.token (first ∷ []) [] step [] [] _ T (omega arith) (omega arith) (omega (arith, c.self.invariant.kept.brought.depth a.token.step));
      };
      rest = rest-kept (code l) (definitions l) s s' b.tokens c.replace.new.self refl refl c.self.invariant.rest (live-in b.tokens.items) (c.replace.ensures.parked) (same-terms (code l) s s' refl refl);
      version = ap (λ j. j.version) c.in_ok-write.ensures.added ∙ c.self.invariant.version;
      limited = c.self.invariant.limited;
    }

pub returns-clause-done : goal.returns-clause-done
returns-clause-done g c =
    let b = c.self.inside in
    let a = c.args in
    let l = g.P.Run.listing in
    let sites = g.P.Run.sites in
    let cd = code l in
    let s : Records = record { limit = b.limit; journal = b.journal.entries; entries = b.entries; next_mark = b.next_mark; now = b.time; made = b.calls.made; tokens = live b.tokens.items; slots = b.tokens.items; calls = b.calls.items; scopes = b.scopes.items; steps = b.steps.items; groups = b.groups.items; cells = b.cells.items } in
    let L = c.self.invariant.kept.lawful in
    let G = c.self.invariant.kept.grouped in
    let held : IsHeld s.slots a.slot a.token = rw (← c.self.view_is) at c.requires.held in
    let i : IsIn a.token s.tokens = live-in s.slots a.slot a.token held in
    let room : s.entries < s.limit = rw (← c.self.view_is) at c.in_ok-within.ensures.room in
    let s' : Records = record { limit = b.limit; journal = c.write.new.journal.entries; entries = b.entries + 1; next_mark = b.next_mark + 1; now = b.time; made = b.calls.made; tokens = live c.replace.new.self.items; slots = c.replace.new.self.items; calls = b.calls.items; scopes = b.scopes.items; steps = c.push.new.self.items; groups = b.groups.items; cells = b.cells.items } in
    let journal : s'.journal ≡ s.journal ++ Seq a.token.serial b.next_mark ∷ [] = ap (λ j. j.entries) c.in_ok-write.ensures.added in
    let step : Step = record { entered = SeqLeft a.name a.right a.scope; outer = a.token.step; group = group_at s.steps a.token.step; depth = depth_at s.steps a.token.step + 1; published = false } in
    let made : Step = record { entered = SeqLeft a.name a.right a.scope; outer = a.token.step; group = c.group_at-group.result; depth = c.depth_at-depth.result + 1; published = false } in
    let same : made ≡ step = λ i. record { entered = SeqLeft a.name a.right a.scope; outer = a.token.step; group = c.group_at-group.ensures i; depth = c.depth_at-depth.ensures i + 1; published = false } in
    let steps : c.push.new.self.items ≡ s.steps ++ step ∷ [] = c.push.ensures.items ∙ ap (λ (z : List Step). z ++ made ∷ []) c.in_ok-reserve.ensures.items ∙ ap (λ z. s.steps ++ z ∷ []) same in
    let count : c.len-step.result + 1 ≡ length s.steps + 1 = omega (arith, c.len-step.ensures.count, ap length c.in_ok-reserve.ensures.items) in
    let first : Token = born s a.token s.next_mark a.left a.scope (length s.steps + 1) in
    let slots : c.replace.new.self.items ≡ slice_set s.slots a.slot first = c.replace.ensures.items ∙ ap (λ (n : ℕ). slice_set s.slots a.slot (born s a.token s.next_mark a.left a.scope n)) count in
    let tokens : (w : Token → ℕ) → weight w s'.tokens + w a.token ≡ weight w s.tokens + weight w (first ∷ []) = λ w. omega (arith, ap (λ z. weight w (live z)) slots, replaced w s.slots a.slot a.token first held (later_mark l sites s L a.token i)) in
    let T : IsFed s a.token a.scope a.left a.name a.right s' = turns s s' a.token (first ∷ []) [] (step ∷ []) [] [] (Seq a.token.serial b.next_mark) refl journal refl (omega arith) refl refl tokens refl (sym (append-nil s.scopes)) (steps) (sym (append-nil s.groups)) (sym (append-nil s.cells)) in
    rw (← c.self.view_is) T

pub replace-requires-clause-serial : goal.replace-requires-clause-serial
replace-requires-clause-serial g c =
    let b = c.self.inside in
    let a = c.args in
    let l = g.P.Run.listing in
    let sites = g.P.Run.sites in
    let cd = code l in
    let s : Records = record { limit = b.limit; journal = b.journal.entries; entries = b.entries; next_mark = b.next_mark; now = b.time; made = b.calls.made; tokens = live b.tokens.items; slots = b.tokens.items; calls = b.calls.items; scopes = b.scopes.items; steps = b.steps.items; groups = b.groups.items; cells = b.cells.items } in
    let L = c.self.invariant.kept.lawful in
    let G = c.self.invariant.kept.grouped in
    let held : IsHeld s.slots a.slot a.token = rw (← c.self.view_is) at c.requires.held in
    let i : IsIn a.token s.tokens = live-in s.slots a.slot a.token held in
    later_mark l sites s L a.token i

pub returns-clause-left : goal.returns-clause-left
returns-clause-left g c =
    let b = c.self.inside in
    let a = c.args in
    let l = g.P.Run.listing in
    let sites = g.P.Run.sites in
    let cd = code l in
    let s : Records = record { limit = b.limit; journal = b.journal.entries; entries = b.entries; next_mark = b.next_mark; now = b.time; made = b.calls.made; tokens = live b.tokens.items; slots = b.tokens.items; calls = b.calls.items; scopes = b.scopes.items; steps = b.steps.items; groups = b.groups.items; cells = b.cells.items } in
    let L = c.self.invariant.kept.lawful in
    let G = c.self.invariant.kept.grouped in
    let held : IsHeld s.slots a.slot a.token = rw (← c.self.view_is) at c.requires.held in
    let i : IsIn a.token s.tokens = live-in s.slots a.slot a.token held in
    let count : c.len-step.result + 1 ≡ length s.steps + 1 = omega (arith, c.len-step.ensures.count, ap length c.in_ok-reserve.ensures.items) in
    let first : Token = born s a.token s.next_mark a.left a.scope (length s.steps + 1) in
    let slots : c.replace.new.self.items ≡ slice_set s.slots a.slot first = c.replace.ensures.items ∙ ap (λ (n : ℕ). slice_set s.slots a.slot (born s a.token s.next_mark a.left a.scope n)) count in
    rw (← c.self.view_is) (ap (λ z. slice_get z a.slot) slots ∙ set-there s.slots a.slot a.token first held.0, later_mark l sites s L a.token i)

pub push-requires-clause-within : goal.push-requires-clause-within
push-requires-clause-within g c =
    let b = c.self.inside in
    let a = c.args in
    let s : Records = record { limit = b.limit; journal = b.journal.entries; entries = b.entries; next_mark = b.next_mark; now = b.time; made = b.calls.made; tokens = live b.tokens.items; slots = b.tokens.items; calls = b.calls.items; scopes = b.scopes.items; steps = b.steps.items; groups = b.groups.items; cells = b.cells.items } in
    let held : IsHeld s.slots a.slot a.token = rw (← c.self.view_is) at c.requires.held in
    omega (arith, step-within s c.self.invariant.kept.lawful.sound a.token (live-in s.slots a.slot a.token held), ap length c.in_ok-reserve.ensures.items)

pub returns-clause-others : goal.returns-clause-others
returns-clause-others g c =
    let b = c.self.inside in
    let a = c.args in
    rw (← c.self.view_is) (set-others b.tokens.items c.replace.new.self.items a.slot _ c.replace.ensures.items)
