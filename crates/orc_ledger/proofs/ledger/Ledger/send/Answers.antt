use Rattle.std.proofs.Common.{◌≡◌, ◌≤◌, ◌<◌, ◌++◌, ℕ, ◌+◌, List, [], ◌∷◌, length, ◌∙◌, refl, sym, ap, subst, arith}
use Rattle.std.specs.Prelude.{slice_get, slice_set}
use Rattle.orc_rules.specs.declared.entry.Entry.TheVariants.{Send}
use Rattle.orc_rules.specs.Timed.{IsIn}
use Rattle.orc_rules.specs.Nodes.{code, definitions}
use Rattle.orc_rules.specs.Term.{param}
use Rattle.orc_rules.specs.declared.param.Param.TheVariants as is_
use Rattle.orc_env.specs.Scopes.{close, without}
use Rattle.orc_env.specs.declared.names.Bound.TheVariants.{Is}
use Rattle.orc_env.specs.declared.names.Scope.{Scope}
use Rattle.orc_indexes.specs.Same.{weight}
use Rattle.orc_frames.specs.Spelling.{feeding}
use Rattle.orc_frames.specs.Taking.{taker, crossed, reach}
use Rattle.orc_ledger_spec.specs.Records.{Records, its_env, its_path}
use Rattle.orc_frames.specs.Paths.{standing}
use Rattle.orc_tables.specs.Tokens.{live, IsHeld}
use Rattle.orc_ledger_spec.specs.Calls.{Crosses, HasRoom}
use Rattle.orc_frames.specs.Taking.{Publishes}
use Rattle.orc_tables.specs.declared.records.Standing.TheVariants.{At}
use Rattle.orc_tables.specs.declared.records.Token.{Token}
use Rattle.orc_ledger_spec.proofs.AtRest.{rest-kept, crosses-terms}
use Rattle.orc_indexes.proofs.Lists.{set-there}
use Rattle.orc_tables.proofs.Slots.{live-in, replaced}
use Rattle.orc_ledger_spec.proofs.Calling.{crosses-told}
use Rattle.orc_ledger_spec.proofs.Keeping.{counted-kept}
use Rattle.orc_ledger_spec.proofs.Made.{crosses, step_in, later_mark}
use Rattle.orc_ledger_spec.proofs.Sending.{send-lawful}
use Rattle.orc_ledger_spec.proofs.Grouped.{sent-grouped}
use Rattle.orc_indexes.specs.Same.{is_this}
use Rattle.orc_tables.specs.OpenGroups.{IsOpen}
use Rattle.orc_ledger_spec.proofs.Sizes.{crossed-members, open-reach, size-few}
use Rattle.orc_ledger_spec.proofs.Brought.{crossed-brought}
use Rattle.orc_ledger.proofs.Others.{set-others}
use Rattle.orc_ledger.proofs.ledger.Ledger.send.Goals as goal

pub leave_others-requires-clause-within : goal.leave_others-requires-clause-within
leave_others-requires-clause-within g c =
    let b = c.self.inside in
    let a = c.args in
    let l = g.P.Run.listing in
    let sites = g.P.Run.sites in
    let cd = code l in
    let s : Records = record { limit = b.limit; journal = b.journal.entries; entries = b.entries; next_mark = b.next_mark; now = b.time; made = b.calls.made; tokens = live b.tokens.items; slots = b.tokens.items; calls = b.calls.items; scopes = b.scopes.items; steps = b.steps.items; groups = b.groups.items; cells = b.cells.items } in
    let L = c.self.invariant.kept.lawful in
    let G = c.self.invariant.kept.grouped in
    let held : IsHeld s.slots a.slot a.token = rw (← c.self.view_is) at c.requires.held in
    let i : IsIn a.token s.tokens = live-in s.slots a.slot a.token held in
    step_in l sites s L a.token i

pub invariant_of-self-2 : goal.invariant_of-self-2
invariant_of-self-2 g c =
    let b = c.self.inside in
    let a = c.args in
    let l = g.P.Run.listing in
    let sites = g.P.Run.sites in
    let cd = code l in
    let s : Records = record { limit = b.limit; journal = b.journal.entries; entries = b.entries; next_mark = b.next_mark; now = b.time; made = b.calls.made; tokens = live b.tokens.items; slots = b.tokens.items; calls = b.calls.items; scopes = b.scopes.items; steps = b.steps.items; groups = b.groups.items; cells = b.cells.items } in
    let L = c.self.invariant.kept.lawful in
    let G = c.self.invariant.kept.grouped in
    let held : IsHeld s.slots a.slot a.token = rw (← c.self.view_is) at c.requires.held in
    let i : IsIn a.token s.tokens = live-in s.slots a.slot a.token held in
    let form : standing cd (its_env cd s) a.token.standing ≡ param (is_.Is a.value) = rw (← c.self.view_is) at c.requires.form in
    let ns = crossed (its_path cd s a.token.step) in
    let room : s.entries < s.limit = rw (← c.self.view_is) at c.in_ok-within.ensures.room in
    let s' : Records = record { limit = b.limit; journal = c.write.new.journal.entries; entries = b.entries + 1; next_mark = b.next_mark + 1; now = b.time; made = b.calls.made; tokens = live c.replace.new.self.items; slots = c.replace.new.self.items; calls = b.calls.items; scopes = c.push_within.new.items.items; steps = c.leave_others.new.steps.items; groups = c.leave.new.self.items; cells = b.cells.items } in
    let journal : s'.journal ≡ s.journal ++ Send a.token.serial b.next_mark a.value ∷ [] = ap (λ j. j.entries) c.in_ok-write.ensures.added in
    let marks : Publishes ns s.steps s'.steps = c.leave_others.ensures cd (its_env cd s) in
    let takes : taker (its_path cd s a.token.step) ≡ feeding a.name (close (without a.name (its_env cd s a.scope)) (cd a.right)) (its_path cd s a.outer) = rw (← c.self.view_is) at c.requires.takes in
    let fits : (a.scope ≤ length s.scopes) × (a.outer ≤ length s.steps) = rw (← c.self.view_is) at c.requires.fits in
    let way : reach s.steps c.requires.way.0 a.token.step ≡ a.outer = rw (← c.self.view_is) at c.requires.way.1 in
    let name : Scope = record { name = a.name; bound = Is a.value; outer = a.scope } in
    let scopes : c.push_within.new.items.items ≡ s.scopes ++ name ∷ [] = c.push_within.ensures.items ∙ ap (λ (z : Scope). c.reserve.new.items.items ++ z ∷ []) (c.new.ensures ∙ ap (λ (n : ℕ). record { name = a.name; bound = Is a.value; outer = n }) c.in_ok-extended.ensures.number) ∙ ap (λ (z : List Scope). z ++ name ∷ []) c.in_ok-reserve.ensures.items in
    let count : c.len-inner.result + 1 ≡ length s.scopes + 1 = omega (arith, c.len-inner.ensures, ap length c.in_ok-reserve.ensures.items) in
    let first : Token = record { serial = s.next_mark; standing = At a.right (length s.scopes + 1); step = a.outer } in
    let slots : c.replace.new.self.items ≡ slice_set s.slots a.slot first = c.replace.ensures.items ∙ ap (λ (n : ℕ). slice_set s.slots a.slot (record { serial = s.next_mark; standing = At a.right n; step = a.outer })) count in
    let tokens : (w : Token → ℕ) → weight w s'.tokens + w a.token ≡ weight w s.tokens + weight w (first ∷ []) = λ w. omega (arith, ap (λ z. weight w (live z)) slots, replaced w s.slots a.slot a.token first held (later_mark l sites s L a.token i)) in
    let T : Crosses s s' a.token (first ∷ []) (name ∷ []) ns (Send a.token.serial b.next_mark a.value) = crosses s s' a.token (first ∷ []) (name ∷ []) ns (Send a.token.serial b.next_mark a.value) refl journal refl (omega arith) refl refl tokens refl scopes marks (c.leave.ensures.items ∙ c.join.ensures.items) refl in
    let L' = send-lawful l sites s L a.token i a.value form a.name a.right a.scope a.outer fits.0 fits.1 takes room s' T in
    record {
      kept = record {
        lawful = L';
        grouped = sent-grouped l sites s L G a.token i s' first (name ∷ []) ns (Send a.token.serial b.next_mark a.value) T c.requires.way.0 way;
        told = crosses-told l sites s s' L L' c.self.invariant.kept.told a.token (first ∷ []) (name ∷ []) ns (Send a.token.serial b.next_mark a.value) tt T;
        counted = counted-kept l sites s s' L L' (Send a.token.serial b.next_mark a.value ∷ []) journal (tt, tt) b.counts c.self.invariant.kept.counted;
        sized = λ j. omega (arith, c.leave.ensures.sizes j, c.join.ensures.sizes j, crossed-members s s' a.token (first ∷ []) (name ∷ []) ns (Send a.token.serial b.next_mark a.value) T j, c.self.invariant.kept.sized j, ap (is_this j) c.group_at-left.ensures, ap (is_this j) c.group_at-joined.ensures);
        brought = crossed-brought s s' c.self.invariant.kept.brought a.token (first ∷ []) (name ∷ []) ns (Send a.token.serial b.next_mark a.value) T (omega arith);
      };
      rest = rest-kept (code l) (definitions l) s s' b.tokens c.replace.new.self refl refl c.self.invariant.rest (live-in b.tokens.items) (c.replace.ensures.parked) (crosses-terms l sites s L s' a.token i (first ∷ []) (name ∷ []) ns (Send a.token.serial b.next_mark a.value) T);
      version = ap (λ j. j.version) c.in_ok-write.ensures.added ∙ c.self.invariant.version;
      limited = c.self.invariant.limited;
    }

pub returns-clause-done : goal.returns-clause-done
returns-clause-done g c =
    let b = c.self.inside in
    let a = c.args in
    let l = g.P.Run.listing in
    let sites = g.P.Run.sites in
    let cd = code l in
    let s : Records = record { limit = b.limit; journal = b.journal.entries; entries = b.entries; next_mark = b.next_mark; now = b.time; made = b.calls.made; tokens = live b.tokens.items; slots = b.tokens.items; calls = b.calls.items; scopes = b.scopes.items; steps = b.steps.items; groups = b.groups.items; cells = b.cells.items } in
    let L = c.self.invariant.kept.lawful in
    let G = c.self.invariant.kept.grouped in
    let held : IsHeld s.slots a.slot a.token = rw (← c.self.view_is) at c.requires.held in
    let i : IsIn a.token s.tokens = live-in s.slots a.slot a.token held in
    let form : standing cd (its_env cd s) a.token.standing ≡ param (is_.Is a.value) = rw (← c.self.view_is) at c.requires.form in
    let ns = crossed (its_path cd s a.token.step) in
    let room : s.entries < s.limit = rw (← c.self.view_is) at c.in_ok-within.ensures.room in
    let s' : Records = record { limit = b.limit; journal = c.write.new.journal.entries; entries = b.entries + 1; next_mark = b.next_mark + 1; now = b.time; made = b.calls.made; tokens = live c.replace.new.self.items; slots = c.replace.new.self.items; calls = b.calls.items; scopes = c.push_within.new.items.items; steps = c.leave_others.new.steps.items; groups = c.leave.new.self.items; cells = b.cells.items } in
    let journal : s'.journal ≡ s.journal ++ Send a.token.serial b.next_mark a.value ∷ [] = ap (λ j. j.entries) c.in_ok-write.ensures.added in
    let marks : Publishes ns s.steps s'.steps = c.leave_others.ensures cd (its_env cd s) in
    let takes : taker (its_path cd s a.token.step) ≡ feeding a.name (close (without a.name (its_env cd s a.scope)) (cd a.right)) (its_path cd s a.outer) = rw (← c.self.view_is) at c.requires.takes in
    let fits : (a.scope ≤ length s.scopes) × (a.outer ≤ length s.steps) = rw (← c.self.view_is) at c.requires.fits in
    let way : reach s.steps c.requires.way.0 a.token.step ≡ a.outer = rw (← c.self.view_is) at c.requires.way.1 in
    let name : Scope = record { name = a.name; bound = Is a.value; outer = a.scope } in
    let scopes : c.push_within.new.items.items ≡ s.scopes ++ name ∷ [] = c.push_within.ensures.items ∙ ap (λ (z : Scope). c.reserve.new.items.items ++ z ∷ []) (c.new.ensures ∙ ap (λ (n : ℕ). record { name = a.name; bound = Is a.value; outer = n }) c.in_ok-extended.ensures.number) ∙ ap (λ (z : List Scope). z ++ name ∷ []) c.in_ok-reserve.ensures.items in
    let count : c.len-inner.result + 1 ≡ length s.scopes + 1 = omega (arith, c.len-inner.ensures, ap length c.in_ok-reserve.ensures.items) in
    let first : Token = record { serial = s.next_mark; standing = At a.right (length s.scopes + 1); step = a.outer } in
    let slots : c.replace.new.self.items ≡ slice_set s.slots a.slot first = c.replace.ensures.items ∙ ap (λ (n : ℕ). slice_set s.slots a.slot (record { serial = s.next_mark; standing = At a.right n; step = a.outer })) count in
    let tokens : (w : Token → ℕ) → weight w s'.tokens + w a.token ≡ weight w s.tokens + weight w (first ∷ []) = λ w. omega (arith, ap (λ z. weight w (live z)) slots, replaced w s.slots a.slot a.token first held (later_mark l sites s L a.token i)) in
    let T : Crosses s s' a.token (first ∷ []) (name ∷ []) ns (Send a.token.serial b.next_mark a.value) = crosses s s' a.token (first ∷ []) (name ∷ []) ns (Send a.token.serial b.next_mark a.value) refl journal refl (omega arith) refl refl tokens refl scopes marks (c.leave.ensures.items ∙ c.join.ensures.items) refl in
    rw (← c.self.view_is) T

pub replace-requires-clause-serial : goal.replace-requires-clause-serial
replace-requires-clause-serial g c =
    let b = c.self.inside in
    let a = c.args in
    let l = g.P.Run.listing in
    let sites = g.P.Run.sites in
    let cd = code l in
    let s : Records = record { limit = b.limit; journal = b.journal.entries; entries = b.entries; next_mark = b.next_mark; now = b.time; made = b.calls.made; tokens = live b.tokens.items; slots = b.tokens.items; calls = b.calls.items; scopes = b.scopes.items; steps = b.steps.items; groups = b.groups.items; cells = b.cells.items } in
    let L = c.self.invariant.kept.lawful in
    let G = c.self.invariant.kept.grouped in
    let held : IsHeld s.slots a.slot a.token = rw (← c.self.view_is) at c.requires.held in
    let i : IsIn a.token s.tokens = live-in s.slots a.slot a.token held in
    later_mark l sites s L a.token i

pub returns-clause-right : goal.returns-clause-right
returns-clause-right g c =
    let b = c.self.inside in
    let a = c.args in
    let l = g.P.Run.listing in
    let sites = g.P.Run.sites in
    let cd = code l in
    let s : Records = record { limit = b.limit; journal = b.journal.entries; entries = b.entries; next_mark = b.next_mark; now = b.time; made = b.calls.made; tokens = live b.tokens.items; slots = b.tokens.items; calls = b.calls.items; scopes = b.scopes.items; steps = b.steps.items; groups = b.groups.items; cells = b.cells.items } in
    let L = c.self.invariant.kept.lawful in
    let G = c.self.invariant.kept.grouped in
    let held : IsHeld s.slots a.slot a.token = rw (← c.self.view_is) at c.requires.held in
    let i : IsIn a.token s.tokens = live-in s.slots a.slot a.token held in
    let count : c.len-inner.result + 1 ≡ length s.scopes + 1 = omega (arith, c.len-inner.ensures, ap length c.in_ok-reserve.ensures.items) in
    let first : Token = record { serial = s.next_mark; standing = At a.right (length s.scopes + 1); step = a.outer } in
    let slots : c.replace.new.self.items ≡ slice_set s.slots a.slot first = c.replace.ensures.items ∙ ap (λ (n : ℕ). slice_set s.slots a.slot (record { serial = s.next_mark; standing = At a.right n; step = a.outer })) count in
    rw (← c.self.view_is) (ap (λ z. slice_get z a.slot) slots ∙ set-there s.slots a.slot a.token first held.0, later_mark l sites s L a.token i)

pub join-requires-clause-open : goal.join-requires-clause-open
join-requires-clause-open g c =
    let b = c.self.inside in
    let a = c.args in
    let l = g.P.Run.listing in
    let sites = g.P.Run.sites in
    let cd = code l in
    let s : Records = record { limit = b.limit; journal = b.journal.entries; entries = b.entries; next_mark = b.next_mark; now = b.time; made = b.calls.made; tokens = live b.tokens.items; slots = b.tokens.items; calls = b.calls.items; scopes = b.scopes.items; steps = b.steps.items; groups = b.groups.items; cells = b.cells.items } in
    let L = c.self.invariant.kept.lawful in
    let G = c.self.invariant.kept.grouped in
    let held : IsHeld s.slots a.slot a.token = rw (← c.self.view_is) at c.requires.held in
    let i : IsIn a.token s.tokens = live-in s.slots a.slot a.token held in
    let way : reach s.steps c.requires.way.0 a.token.step ≡ a.outer = rw (← c.self.view_is) at c.requires.way.1 in
    subst (IsOpen s.groups) (sym c.group_at-joined.ensures) (open-reach l sites s L G a.token i c.requires.way.0 a.outer way)

pub join-requires-clause-fits : goal.join-requires-clause-fits
join-requires-clause-fits g c =
    let b = c.self.inside in
    let a = c.args in
    let l = g.P.Run.listing in
    let sites = g.P.Run.sites in
    let cd = code l in
    let s : Records = record { limit = b.limit; journal = b.journal.entries; entries = b.entries; next_mark = b.next_mark; now = b.time; made = b.calls.made; tokens = live b.tokens.items; slots = b.tokens.items; calls = b.calls.items; scopes = b.scopes.items; steps = b.steps.items; groups = b.groups.items; cells = b.cells.items } in
    let L = c.self.invariant.kept.lawful in
    let G = c.self.invariant.kept.grouped in
    let held : IsHeld s.slots a.slot a.token = rw (← c.self.view_is) at c.requires.held in
    let i : IsIn a.token s.tokens = live-in s.slots a.slot a.token held in
    let places : HasRoom s 0 0 0 = rw (← c.self.view_is) at c.in_ok-within.ensures.places in
    omega (arith, size-few s b.groups.sizes 0 0 0 c.self.invariant.kept.sized places c.group_at-joined.result)

pub returns-clause-others : goal.returns-clause-others
returns-clause-others g c =
    let b = c.self.inside in
    let a = c.args in
    rw (← c.self.view_is) (set-others b.tokens.items c.replace.new.self.items a.slot _ c.replace.ensures.items)
