use Rattle.std.proofs.Common.{◌≡◌, ◌+◌, ◌≤◌, ◌<◌, ℕ, List, ◌∷◌, ◌++◌, map, refl, ap, ◌∙◌, subst, arith, sym}
use Rattle.orc_rules.specs.declared.entry.Entry.TheVariants.{Bind, Cancel}
use Rattle.orc_rules.specs.declared.param.Param.TheVariants as is_
use Rattle.orc_rules.specs.Term.{param}
use Rattle.orc_rules.specs.Nodes.{code}
use Rattle.orc_rules.specs.Timed.{IsIn}
use Rattle.orc_env.specs.declared.names.Bound.TheVariants.{Is}
use Rattle.orc_indexes.specs.Same.{weight, but}
use Rattle.orc_tables.specs.Inside.{stands_inside, side_inside}
use Rattle.orc_tables.specs.Tokens.{live, IsHeld}
use Rattle.orc_frames.specs.Spelling.{Path, aiding}
use Rattle.orc_frames.specs.Taking.{taker}
use Rattle.orc_ledger_spec.specs.Records.{Records, its_env, its_path}
use Rattle.orc_frames.specs.Paths.{standing}
use Rattle.orc_tables.specs.Steps.{group_at}
use Rattle.orc_ledger_spec.specs.Calls.{Drops, AreCancelled}
use Rattle.orc_tables.specs.declared.records.Token.{Token}
use Rattle.orc_tables.specs.declared.records.Call.{Call}
use Rattle.orc_tables.specs.declared.records.Group.{Group}
use Rattle.orc_indexes.proofs.Weight.{weight-but}
use Rattle.orc_tables.proofs.Slots.{live-in}
use Rattle.orc_ledger_spec.proofs.AtRest.{rest-dropped}
use Rattle.orc_ledger_spec.proofs.Binding.{bind-lawful, taken-unbound}
use Rattle.orc_tables.proofs.Parked.{stay-but}
use Rattle.orc_ledger_spec.proofs.Calling.{drops-told}
use Rattle.orc_ledger_spec.proofs.Keeping.{counted-kept, cancels_none}
use Rattle.orc_ledger_spec.proofs.Grouped.{dropped-grouped}
use Rattle.orc_ledger_spec.proofs.Dropped.{drops}
use Rattle.orc_ledger_spec.proofs.Subtree.{side-cancelled, slots-listed, numbers-listed, groups-listed}
use Rattle.orc_indexes.specs.Same.{is_this}
use Rattle.orc_ledger_spec.proofs.Brought.{dropped-brought}
use Rattle.orc_ledger.proofs.Others.{inside-goes}
use Rattle.orc_ledger.specs.Others.{KeepsOutside}
use Rattle.orc_ledger.proofs.ledger.Ledger.bind.Goals as goal

pub invariant_of-self-2 : goal.invariant_of-self-2
invariant_of-self-2 g c =
    let b = c.self.inside in
    let a = c.args in
    let l = g.P.Run.listing in
    let cd = code l in
    let s : Records = record { limit = b.limit; journal = b.journal.entries; entries = b.entries; next_mark = b.next_mark; now = b.time; made = b.calls.made; tokens = live b.tokens.items; slots = b.tokens.items; calls = b.calls.items; scopes = b.scopes.items; steps = b.steps.items; groups = b.groups.items; cells = b.cells.items } in
    let ks : List ℕ = c.list_side.new.numbers.items in
    let s' : Records = record { limit = b.limit; journal = c.write_bind.new.journal.entries; entries = b.entries + 1; next_mark = b.next_mark; now = b.time; made = c.leave_calls.new.calls.made; tokens = live c.wake.new.self.items; slots = c.wake.new.self.items; calls = c.leave_calls.new.calls.items; scopes = b.scopes.items; steps = b.steps.items; groups = c.leave_groups.new.groups.items; cells = c.settle.new.cells.items } in
    let groups : (w : Group → ℕ) → weight w s'.groups ≡ weight (but (λ (h : Group). side_inside a.cell s.steps h.outer h.side) w) s.groups = λ w. c.leave_groups.ensures.rest w ∙ ap (weight (but (λ (h : Group). side_inside a.cell s.steps h.outer h.side) w)) (c.leave_calls.ensures.groups ∙ c.leave_tokens.ensures.groups) in
    let D : Drops cd a.cell (Is a.value) s s' = drops l g.P.Run.sites s c.self.invariant.kept.lawful a.cell (Is a.value) s' refl refl refl refl c.leave_calls.ensures.made (λ w. ap (λ z. weight w (live z)) c.wake.ensures.items ∙ c.leave_tokens.ensures.rest w) c.leave_calls.ensures.rest groups refl refl c.settle.ensures in
    let A : AreCancelled cd a.cell s ks = side-cancelled l g.P.Run.sites s c.self.invariant.kept.lawful c.self.invariant.kept.grouped a.cell c.list_side.new.self.groups.items c.list_side.new.self.slots.items ks c.in_ok-known.known c.in_ok-known.ensures.known c.in_ok-known.ensures.listed in
    let journal : s'.journal ≡ s.journal ++ Bind a.token.serial a.cell a.value ∷ map Cancel ks = ap (λ j. j.entries) c.in_ok-write_bind.ensures.added in
    let held : IsHeld s.slots a.slot a.token = rw (← c.self.view_is) at c.requires.held in
    let form : standing cd (its_env cd s) a.token.standing ≡ param (is_.Is a.value) = rw (← c.self.view_is) at c.requires.form in
    let takes : (p : Path) × (taker (its_path cd s a.token.step) ≡ aiding a.cell p) = rw (← c.self.view_is) at c.requires.takes in
    let room : s.entries < s.limit = rw (← c.self.view_is) at c.in_ok-within.ensures.room in
    let L' = bind-lawful l g.P.Run.sites s c.self.invariant.kept.lawful a.token (live-in s.slots a.slot a.token held) a.value form a.cell takes.0 takes.1 room s' D ks A journal in
    record {
      kept = record {
        lawful = L';
        grouped = dropped-grouped l g.P.Run.sites s c.self.invariant.kept.lawful c.self.invariant.kept.grouped a.cell (Is a.value) s' D;
        told = drops-told l g.P.Run.sites s s' c.self.invariant.kept.lawful L' c.self.invariant.kept.told a.cell (Is a.value) (Bind a.token.serial a.cell a.value) ks tt D journal;
        counted = counted-kept l g.P.Run.sites s s' c.self.invariant.kept.lawful L' (Bind a.token.serial a.cell a.value ∷ map Cancel ks) journal (tt, cancels_none ks) b.counts c.self.invariant.kept.counted;
        sized = λ j.
            let mine : Token → ℕ = λ t. is_this j (group_at s.steps t.step) in
            let theirs : Call → ℕ = λ k. is_this j (group_at s.steps k.step) in
            let its : Group → ℕ = λ h. is_this j (group_at s.steps h.outer) in
            let K = c.self.invariant.kept.sized j in
            let woken : weight mine s'.tokens ≡ weight mine (live c.leave_tokens.new.tokens.items) = ap (λ z. weight mine (live z)) c.wake.ensures.items in
            let fewer : weight mine s'.tokens ≤ weight mine s.tokens = omega (arith, woken, c.leave_tokens.ensures.rest mine, weight-but (λ (t : Token). stands_inside a.cell s.steps t.step) mine s.tokens) in
            let fewer_calls : weight theirs s'.calls ≤ weight theirs s.calls = omega (arith, c.leave_calls.ensures.rest theirs, weight-but (λ (k : Call). stands_inside a.cell s.steps k.step) theirs s.calls) in
            let tokens = c.leave_tokens.ensures.sizes j (omega (arith, K)) in
            let calls = c.leave_calls.ensures.sizes j (omega (arith, woken, K, tokens, fewer)) in
            let same : weight its c.leave_calls.new.groups.items ≡ weight its s.groups = ap (weight its) (c.leave_calls.ensures.groups ∙ c.leave_tokens.ensures.groups) in
            let sides = c.leave_groups.ensures.sizes j (omega (arith, woken, K, tokens, calls, fewer, fewer_calls, same)) in
            omega (arith, woken, K, tokens, calls, sides, fewer, fewer_calls, same);
        brought = dropped-brought s s' c.self.invariant.kept.brought (code l) a.cell (Is a.value) (Bind a.token.serial a.cell a.value ∷ map Cancel ks) D journal;
      };
      rest = rest-dropped l s s' c.self.invariant.kept.lawful.sound a.cell (Is a.value) D (taken-unbound l g.P.Run.sites s c.self.invariant.kept.lawful a.token (live-in s.slots a.slot a.token held) a.value form a.cell takes.0 takes.1) b.tokens c.wake.new.self refl refl c.self.invariant.rest (stay-but b.tokens c.leave_tokens.new.tokens c.wake.new.self a.cell c.leave_tokens.ensures.parked c.wake.ensures.parked);
      version = ap (λ j. j.version) c.in_ok-write_bind.ensures.added ∙ c.self.invariant.version;
      limited = c.self.invariant.limited;
    }

pub returns-clause-done : goal.returns-clause-done
returns-clause-done g c =
    let b = c.self.inside in
    let a = c.args in
    let l = g.P.Run.listing in
    let cd = code l in
    let s : Records = record { limit = b.limit; journal = b.journal.entries; entries = b.entries; next_mark = b.next_mark; now = b.time; made = b.calls.made; tokens = live b.tokens.items; slots = b.tokens.items; calls = b.calls.items; scopes = b.scopes.items; steps = b.steps.items; groups = b.groups.items; cells = b.cells.items } in
    let ks : List ℕ = c.list_side.new.numbers.items in
    let s' : Records = record { limit = b.limit; journal = c.write_bind.new.journal.entries; entries = b.entries + 1; next_mark = b.next_mark; now = b.time; made = c.leave_calls.new.calls.made; tokens = live c.wake.new.self.items; slots = c.wake.new.self.items; calls = c.leave_calls.new.calls.items; scopes = b.scopes.items; steps = b.steps.items; groups = c.leave_groups.new.groups.items; cells = c.settle.new.cells.items } in
    let groups : (w : Group → ℕ) → weight w s'.groups ≡ weight (but (λ (h : Group). side_inside a.cell s.steps h.outer h.side) w) s.groups = λ w. c.leave_groups.ensures.rest w ∙ ap (weight (but (λ (h : Group). side_inside a.cell s.steps h.outer h.side) w)) (c.leave_calls.ensures.groups ∙ c.leave_tokens.ensures.groups) in
    let D : Drops cd a.cell (Is a.value) s s' = drops l g.P.Run.sites s c.self.invariant.kept.lawful a.cell (Is a.value) s' refl refl refl refl c.leave_calls.ensures.made (λ w. ap (λ z. weight w (live z)) c.wake.ensures.items ∙ c.leave_tokens.ensures.rest w) c.leave_calls.ensures.rest groups refl refl c.settle.ensures in
    rw (← c.self.view_is) D

pub returns-clause-journal : goal.returns-clause-journal
returns-clause-journal g c =
    let b = c.self.inside in
    let a = c.args in
    let l = g.P.Run.listing in
    let cd = code l in
    let s : Records = record { limit = b.limit; journal = b.journal.entries; entries = b.entries; next_mark = b.next_mark; now = b.time; made = b.calls.made; tokens = live b.tokens.items; slots = b.tokens.items; calls = b.calls.items; scopes = b.scopes.items; steps = b.steps.items; groups = b.groups.items; cells = b.cells.items } in
    let ks : List ℕ = c.list_side.new.numbers.items in
    let s' : Records = record { limit = b.limit; journal = c.write_bind.new.journal.entries; entries = b.entries + 1; next_mark = b.next_mark; now = b.time; made = c.leave_calls.new.calls.made; tokens = live c.wake.new.self.items; slots = c.wake.new.self.items; calls = c.leave_calls.new.calls.items; scopes = b.scopes.items; steps = b.steps.items; groups = c.leave_groups.new.groups.items; cells = c.settle.new.cells.items } in
    let groups : (w : Group → ℕ) → weight w s'.groups ≡ weight (but (λ (h : Group). side_inside a.cell s.steps h.outer h.side) w) s.groups = λ w. c.leave_groups.ensures.rest w ∙ ap (weight (but (λ (h : Group). side_inside a.cell s.steps h.outer h.side) w)) (c.leave_calls.ensures.groups ∙ c.leave_tokens.ensures.groups) in
    let D : Drops cd a.cell (Is a.value) s s' = drops l g.P.Run.sites s c.self.invariant.kept.lawful a.cell (Is a.value) s' refl refl refl refl c.leave_calls.ensures.made (λ w. ap (λ z. weight w (live z)) c.wake.ensures.items ∙ c.leave_tokens.ensures.rest w) c.leave_calls.ensures.rest groups refl refl c.settle.ensures in
    let journal : s'.journal ≡ s.journal ++ Bind a.token.serial a.cell a.value ∷ map Cancel ks = ap (λ j. j.entries) c.in_ok-write_bind.ensures.added in
    rw (← c.self.view_is) journal

pub returns-clause-cancelled : goal.returns-clause-cancelled
returns-clause-cancelled g c =
    let b = c.self.inside in
    let a = c.args in
    let l = g.P.Run.listing in
    let cd = code l in
    let s : Records = record { limit = b.limit; journal = b.journal.entries; entries = b.entries; next_mark = b.next_mark; now = b.time; made = b.calls.made; tokens = live b.tokens.items; slots = b.tokens.items; calls = b.calls.items; scopes = b.scopes.items; steps = b.steps.items; groups = b.groups.items; cells = b.cells.items } in
    let ks : List ℕ = c.list_side.new.numbers.items in
    let A : AreCancelled cd a.cell s ks = side-cancelled l g.P.Run.sites s c.self.invariant.kept.lawful c.self.invariant.kept.grouped a.cell c.list_side.new.self.groups.items c.list_side.new.self.slots.items ks c.in_ok-known.known c.in_ok-known.ensures.known c.in_ok-known.ensures.listed in
    rw (← c.self.view_is) A

pub list_side-requires : goal.list_side-requires
list_side-requires g c = record { sized = λ i. omega (arith, c.self.invariant.kept.sized i) }

pub leave_tokens-requires : goal.leave_tokens-requires
leave_tokens-requires g c =
    let b = c.self.inside in
    let l = g.P.Run.listing in
    let s : Records = record { limit = b.limit; journal = b.journal.entries; entries = b.entries; next_mark = b.next_mark; now = b.time; made = b.calls.made; tokens = live b.tokens.items; slots = b.tokens.items; calls = b.calls.items; scopes = b.scopes.items; steps = b.steps.items; groups = b.groups.items; cells = b.cells.items } in
    record { listed = λ yes_. let k = c.in_ok-known.ensures.known yes_ in slots-listed l g.P.Run.sites s c.self.invariant.kept.lawful c.self.invariant.kept.grouped c.args.cell c.list_side.new.self.groups.items c.list_side.new.self.slots.items c.list_side.new.numbers.items k.1 refl }

pub leave_calls-requires : goal.leave_calls-requires
leave_calls-requires g c =
    let b = c.self.inside in
    let l = g.P.Run.listing in
    let s : Records = record { limit = b.limit; journal = b.journal.entries; entries = b.entries; next_mark = b.next_mark; now = b.time; made = b.calls.made; tokens = live b.tokens.items; slots = b.tokens.items; calls = b.calls.items; scopes = b.scopes.items; steps = b.steps.items; groups = b.groups.items; cells = b.cells.items } in
    record { listed = λ yes_. let k = c.in_ok-known.ensures.known yes_ in numbers-listed l g.P.Run.sites s c.self.invariant.kept.lawful c.self.invariant.kept.grouped c.args.cell c.list_side.new.self.groups.items c.list_side.new.self.slots.items c.list_side.new.numbers.items k.1 }

pub leave_groups-requires : goal.leave_groups-requires
leave_groups-requires g c =
    let b = c.self.inside in
    let l = g.P.Run.listing in
    let s : Records = record { limit = b.limit; journal = b.journal.entries; entries = b.entries; next_mark = b.next_mark; now = b.time; made = b.calls.made; tokens = live b.tokens.items; slots = b.tokens.items; calls = b.calls.items; scopes = b.scopes.items; steps = b.steps.items; groups = b.groups.items; cells = b.cells.items } in
    let same : c.leave_calls.new.groups.items ≡ s.groups = c.leave_calls.ensures.groups ∙ c.leave_tokens.ensures.groups in
    record {
      listed = λ yes_ h i.
          let k = c.in_ok-known.ensures.known yes_ in
          groups-listed l g.P.Run.sites s c.self.invariant.kept.lawful c.self.invariant.kept.grouped c.args.cell c.list_side.new.self.groups.items c.list_side.new.self.slots.items c.list_side.new.numbers.items k.1 h (subst (λ z. IsIn h z) same i);
      once = λ i. omega (arith, ap (weight (λ (h : Group). is_this i h.number)) same, c.self.invariant.kept.grouped.once i);
    }

pub returns-clause-others : goal.returns-clause-others
returns-clause-others g c =
    let b = c.self.inside in
    let a = c.args in
    let l = g.P.Run.listing in
    let s : Records = record { limit = b.limit; journal = b.journal.entries; entries = b.entries; next_mark = b.next_mark; now = b.time; made = b.calls.made; tokens = live b.tokens.items; slots = b.tokens.items; calls = b.calls.items; scopes = b.scopes.items; steps = b.steps.items; groups = b.groups.items; cells = b.cells.items } in
    let s' : Records = record { limit = b.limit; journal = c.write_bind.new.journal.entries; entries = b.entries + 1; next_mark = b.next_mark; now = b.time; made = c.leave_calls.new.calls.made; tokens = live c.wake.new.self.items; slots = c.wake.new.self.items; calls = c.leave_calls.new.calls.items; scopes = b.scopes.items; steps = b.steps.items; groups = c.leave_groups.new.groups.items; cells = c.settle.new.cells.items } in
    let K : KeepsOutside (code l) a.cell s s' = λ i t out h. subst (λ z. IsHeld z i t) (sym c.wake.ensures.items) (c.leave_tokens.ensures.others i t h (inside-goes l g.P.Run.sites s c.self.invariant.kept.lawful a.cell t (live-in s.slots i t h) ∙ out)) in
    rw (← c.self.view_is) K
