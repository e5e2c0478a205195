use Rattle.std.proofs.Common.{◌≡◌, ◌<◌, ◌++◌, ℕ, ◌+◌, List, [], ◌∷◌, sym, ◌∙◌, refl, ap, subst, arith, append-nil, Option, Some}
use Rattle.std.specs.Prelude.{slice_get, slice_set, slice_index_or, option_map, IfSome}
use Rattle.orc_rules.specs.declared.entry.Entry.TheVariants.{Def}
use Rattle.orc_rules.specs.declared.param.Operand.{Operand}
use Rattle.orc_rules.specs.Timed.{IsIn}
use Rattle.orc_rules.specs.Nodes.{Listing, Routine, definitions, definition_of, code}
use Rattle.orc_env.specs.declared.names.Bound.{Bound}
use Rattle.orc_env.specs.declared.names.Scope.{Scope}
use Rattle.orc_graph.specs.Ranges.{params_at}
use Rattle.orc_graph.proofs.Runs.{map_get}
use Rattle.orc_indexes.specs.Same.{weight}
use Rattle.orc_ledger_spec.specs.Records.{Records}
use Rattle.orc_tables.specs.Tokens.{live, IsHeld}
use Rattle.orc_ledger_spec.specs.Calls.{born}
use Rattle.orc_env.specs.Parameters.{Adds}
use Rattle.orc_ledger_spec.specs.Parameters.{IsDefined}
use Rattle.orc_tables.specs.declared.records.Token.{Token}
use Rattle.orc_ledger_spec.proofs.AtRest.{rest-kept, turns-terms}
use Rattle.orc_indexes.proofs.Lists.{set-there}
use Rattle.orc_tables.proofs.Slots.{live-in, replaced}
use Rattle.orc_ledger_spec.proofs.Calling.{turns-told}
use Rattle.orc_ledger_spec.proofs.Keeping.{counted-kept}
use Rattle.orc_ledger_spec.proofs.Made.{turns, later_mark, step_in}
use Rattle.orc_ledger_spec.proofs.Bodies.{def-lawful, defined-grouped, routine_there}
use Rattle.orc_indexes.specs.Same.{is_this}
use Rattle.orc_ledger_spec.proofs.Nests.{group-kept}
use Rattle.orc_ledger_spec.proofs.Sizes.{turned-members}
use Rattle.orc_ledger_spec.proofs.Brought.{turned-flat}
use Rattle.orc_ledger.proofs.Others.{set-others}
use Rattle.orc_ledger.proofs.ledger.Ledger.def.Goals as goal

-- a definition of the listing is one of the program
declared : (l : Listing) (e : ℕ) (r : Routine) → slice_get l.routines e ≡ Some r → slice_get (definitions l) e ≡ Some (definition_of l r)
declared l e r h = map_get (definition_of l) l.routines e ∙ ap (option_map (definition_of l)) h

pub invariant_of-self-2 : goal.invariant_of-self-2
invariant_of-self-2 g c =
    let b = c.self.inside in
    let a = c.args in
    let l = g.P.Run.listing in
    let sites = g.P.Run.sites in
    let s : Records = record { limit = b.limit; journal = b.journal.entries; entries = b.entries; next_mark = b.next_mark; now = b.time; made = b.calls.made; tokens = live b.tokens.items; slots = b.tokens.items; calls = b.calls.items; scopes = b.scopes.items; steps = b.steps.items; groups = b.groups.items; cells = b.cells.items } in
    let L = c.self.invariant.kept.lawful in
    let G = c.self.invariant.kept.grouped in
    let held : IsHeld s.slots a.slot a.token = rw (← c.self.view_is) at c.requires.held in
    let i : IsIn a.token s.tokens = live-in s.slots a.slot a.token held in
    let same_routines : c.args.inputs.now.graph.now.routines ≡ l.routines = ap (λ (z : Listing). z.routines) c.args.inputs.now.its_graph in
    let same_lists : c.args.inputs.now.graph.now.lists ≡ l.lists = ap (λ (z : Listing). z.lists) c.args.inputs.now.its_graph in
    let got = routine_there l.routines a.definition c.in-Some.body (ap (λ (z : List Routine). option_map (λ (r : Routine). r.body) (slice_get z a.definition)) (sym same_routines) ∙ sym c.in-Some.ensures) in
    let r : Routine = got.0 in
    let params : c.params-params.result.now ≡ r.params = c.params-params.ensures ∙ ap (λ (z : List Routine). params_at z a.definition) same_routines ∙ got.3 in
    let operands : c.operands-operands.result.now ≡ slice_index_or l.lists a.list [] = c.operands-operands.ensures.value ∙ ap (λ (z : List (List Operand)). slice_index_or z a.list []) same_lists in
    let room : s.entries < s.limit = rw (← c.self.view_is) at c.in_ok-within.ensures.room in
    let newest = c.in-Some-fitted.newest in
    let more : List Scope = c.parameter_scopes.new.added.items in
    let adds : Adds s.cells s.scopes a.scope r.params (slice_index_or l.lists a.list []) more newest =
    subst (λ (z : List ℕ). Adds s.cells s.scopes a.scope z (slice_index_or l.lists a.list []) more newest) params
    (subst (λ (z : List Operand). Adds s.cells s.scopes a.scope c.params-params.result.now z more newest) operands
    (subst (λ (z : List Scope). Adds s.cells z a.scope c.params-params.result.now c.operands-operands.result.now more newest) c.deref.ensures.value
    (subst (λ (z : List Bound). Adds z c.deref.result.now a.scope c.params-params.result.now c.operands-operands.result.now more newest) c.deref-2.ensures.value
    (subst (λ (z : Option ℕ). IfSome z (λ n. Adds c.deref-2.result.now c.deref.result.now a.scope c.params-params.result.now c.operands-operands.result.now more n)) c.in-Some-fitted.is c.in_ok-fitted.ensures.adds)))) in
    let s' : Records = record { limit = b.limit; journal = c.write.new.journal.entries; entries = b.entries + 1; next_mark = b.next_mark + 1; now = b.time; made = b.calls.made; tokens = live c.replace.new.self.items; slots = c.replace.new.self.items; calls = b.calls.items; scopes = c.extend_within.new.scopes.items; steps = b.steps.items; groups = b.groups.items; cells = b.cells.items } in
    let journal : s'.journal ≡ s.journal ++ Def a.token.serial b.next_mark ∷ [] = ap (λ j. j.entries) c.in_ok-write.ensures.added in
    let scopes : s'.scopes ≡ s.scopes ++ more = c.extend_within.ensures ∙ (λ j. c.in_ok-reserve_scopes.ensures.items j ++ c.deref-3.ensures.value j) in
    let first : Token = born s a.token s.next_mark r.body newest a.token.step in
    let slots : c.replace.new.self.items ≡ slice_set s.slots a.slot first = c.replace.ensures.items ∙ ap (λ (n : ℕ). slice_set s.slots a.slot (born s a.token s.next_mark n newest a.token.step)) (sym got.2) in
    let tokens : (w : Token → ℕ) → weight w s'.tokens + w a.token ≡ weight w s.tokens + weight w (first ∷ []) = λ w. omega (arith, ap (λ z. weight w (live z)) slots, replaced w s.slots a.slot a.token first held (later_mark l sites s L a.token i)) in
    let T : IsDefined s a.token r.body newest more s' = turns s s' a.token (first ∷ []) more [] [] [] (Def a.token.serial b.next_mark) refl journal refl (omega arith) refl refl tokens refl scopes (sym (append-nil s.steps)) (sym (append-nil s.groups)) (sym (append-nil s.cells)) in
    let L' = def-lawful l sites s L a.token i c.requires.at.0 a.scope c.requires.at.1 (definition_of l r) a.definition r.body newest (slice_index_or l.lists a.list []) more c.requires.at.2 (declared l a.definition r got.1) refl adds s' room T in
    record {
      kept = record {
        lawful = L';
        grouped = defined-grouped l sites s L G a.token i r.body newest more s' T;
        told = turns-told l sites s s' L L' c.self.invariant.kept.told a.token (first ∷ []) more [] [] [] (Def a.token.serial b.next_mark) tt T;
        counted = counted-kept l sites s s' L L' (Def a.token.serial b.next_mark ∷ []) journal (tt, tt) b.counts c.self.invariant.kept.counted;
        sized = λ j. omega (arith, turned-members s s' L.sound a.token i (first ∷ []) more [] [] [] _ T j, c.self.invariant.kept.sized j, ap (is_this j) (group-kept s.steps [] a.token.step (step_in l sites s L a.token i)));
        brought = turned-flat s s' c.self.invariant.kept.brought a.token (first ∷ []) more [] _ T (omega arith);
      };
      rest = rest-kept (code l) (definitions l) s s' b.tokens c.replace.new.self refl refl c.self.invariant.rest (live-in b.tokens.items) (c.replace.ensures.parked) (turns-terms l sites s L s' a.token i (first ∷ []) more [] [] [] (Def a.token.serial b.next_mark) T (λ n. refl) (λ z. refl));
      version = ap (λ j. j.version) c.in_ok-write.ensures.added ∙ c.self.invariant.version;
      limited = c.self.invariant.limited;
    }

pub returns-clause-done : goal.returns-clause-done
returns-clause-done g c e =
    let b = c.self.inside in
    let a = c.args in
    let l = g.P.Run.listing in
    let sites = g.P.Run.sites in
    let s : Records = record { limit = b.limit; journal = b.journal.entries; entries = b.entries; next_mark = b.next_mark; now = b.time; made = b.calls.made; tokens = live b.tokens.items; slots = b.tokens.items; calls = b.calls.items; scopes = b.scopes.items; steps = b.steps.items; groups = b.groups.items; cells = b.cells.items } in
    let L = c.self.invariant.kept.lawful in
    let G = c.self.invariant.kept.grouped in
    let held : IsHeld s.slots a.slot a.token = rw (← c.self.view_is) at c.requires.held in
    let i : IsIn a.token s.tokens = live-in s.slots a.slot a.token held in
    let same_routines : c.args.inputs.now.graph.now.routines ≡ l.routines = ap (λ (z : Listing). z.routines) c.args.inputs.now.its_graph in
    let same_lists : c.args.inputs.now.graph.now.lists ≡ l.lists = ap (λ (z : Listing). z.lists) c.args.inputs.now.its_graph in
    let got = routine_there l.routines a.definition c.in-Some.body (ap (λ (z : List Routine). option_map (λ (r : Routine). r.body) (slice_get z a.definition)) (sym same_routines) ∙ sym c.in-Some.ensures) in
    let r : Routine = got.0 in
    let params : c.params-params.result.now ≡ r.params = c.params-params.ensures ∙ ap (λ (z : List Routine). params_at z a.definition) same_routines ∙ got.3 in
    let operands : c.operands-operands.result.now ≡ slice_index_or l.lists a.list [] = c.operands-operands.ensures.value ∙ ap (λ (z : List (List Operand)). slice_index_or z a.list []) same_lists in
    let room : s.entries < s.limit = rw (← c.self.view_is) at c.in_ok-within.ensures.room in
    let newest = c.in-Some-fitted.newest in
    let more : List Scope = c.parameter_scopes.new.added.items in
    let adds : Adds s.cells s.scopes a.scope r.params (slice_index_or l.lists a.list []) more newest =
    subst (λ (z : List ℕ). Adds s.cells s.scopes a.scope z (slice_index_or l.lists a.list []) more newest) params
    (subst (λ (z : List Operand). Adds s.cells s.scopes a.scope c.params-params.result.now z more newest) operands
    (subst (λ (z : List Scope). Adds s.cells z a.scope c.params-params.result.now c.operands-operands.result.now more newest) c.deref.ensures.value
    (subst (λ (z : List Bound). Adds z c.deref.result.now a.scope c.params-params.result.now c.operands-operands.result.now more newest) c.deref-2.ensures.value
    (subst (λ (z : Option ℕ). IfSome z (λ n. Adds c.deref-2.result.now c.deref.result.now a.scope c.params-params.result.now c.operands-operands.result.now more n)) c.in-Some-fitted.is c.in_ok-fitted.ensures.adds)))) in
    let s' : Records = record { limit = b.limit; journal = c.write.new.journal.entries; entries = b.entries + 1; next_mark = b.next_mark + 1; now = b.time; made = b.calls.made; tokens = live c.replace.new.self.items; slots = c.replace.new.self.items; calls = b.calls.items; scopes = c.extend_within.new.scopes.items; steps = b.steps.items; groups = b.groups.items; cells = b.cells.items } in
    let journal : s'.journal ≡ s.journal ++ Def a.token.serial b.next_mark ∷ [] = ap (λ j. j.entries) c.in_ok-write.ensures.added in
    let scopes : s'.scopes ≡ s.scopes ++ more = c.extend_within.ensures ∙ (λ j. c.in_ok-reserve_scopes.ensures.items j ++ c.deref-3.ensures.value j) in
    let first : Token = born s a.token s.next_mark r.body newest a.token.step in
    let slots : c.replace.new.self.items ≡ slice_set s.slots a.slot first = c.replace.ensures.items ∙ ap (λ (n : ℕ). slice_set s.slots a.slot (born s a.token s.next_mark n newest a.token.step)) (sym got.2) in
    let tokens : (w : Token → ℕ) → weight w s'.tokens + w a.token ≡ weight w s.tokens + weight w (first ∷ []) = λ w. omega (arith, ap (λ z. weight w (live z)) slots, replaced w s.slots a.slot a.token first held (later_mark l sites s L a.token i)) in
    let T : IsDefined s a.token r.body newest more s' = turns s s' a.token (first ∷ []) more [] [] [] (Def a.token.serial b.next_mark) refl journal refl (omega arith) refl refl tokens refl scopes (sym (append-nil s.steps)) (sym (append-nil s.groups)) (sym (append-nil s.cells)) in
    rw (← c.self.view_is) (r, newest, more, got.1, adds, T)

pub returns-clause-held : goal.returns-clause-held
returns-clause-held g c e =
    let b = c.self.inside in
    let a = c.args in
    let l = g.P.Run.listing in
    let sites = g.P.Run.sites in
    let s : Records = record { limit = b.limit; journal = b.journal.entries; entries = b.entries; next_mark = b.next_mark; now = b.time; made = b.calls.made; tokens = live b.tokens.items; slots = b.tokens.items; calls = b.calls.items; scopes = b.scopes.items; steps = b.steps.items; groups = b.groups.items; cells = b.cells.items } in
    let L = c.self.invariant.kept.lawful in
    let G = c.self.invariant.kept.grouped in
    let held : IsHeld s.slots a.slot a.token = rw (← c.self.view_is) at c.requires.held in
    let i : IsIn a.token s.tokens = live-in s.slots a.slot a.token held in
    let same_routines : c.args.inputs.now.graph.now.routines ≡ l.routines = ap (λ (z : Listing). z.routines) c.args.inputs.now.its_graph in
    let same_lists : c.args.inputs.now.graph.now.lists ≡ l.lists = ap (λ (z : Listing). z.lists) c.args.inputs.now.its_graph in
    let got = routine_there l.routines a.definition c.in-Some.body (ap (λ (z : List Routine). option_map (λ (r : Routine). r.body) (slice_get z a.definition)) (sym same_routines) ∙ sym c.in-Some.ensures) in
    let r : Routine = got.0 in
    let params : c.params-params.result.now ≡ r.params = c.params-params.ensures ∙ ap (λ (z : List Routine). params_at z a.definition) same_routines ∙ got.3 in
    let operands : c.operands-operands.result.now ≡ slice_index_or l.lists a.list [] = c.operands-operands.ensures.value ∙ ap (λ (z : List (List Operand)). slice_index_or z a.list []) same_lists in
    let room : s.entries < s.limit = rw (← c.self.view_is) at c.in_ok-within.ensures.room in
    let newest = c.in-Some-fitted.newest in
    let more : List Scope = c.parameter_scopes.new.added.items in
    let adds : Adds s.cells s.scopes a.scope r.params (slice_index_or l.lists a.list []) more newest =
    subst (λ (z : List ℕ). Adds s.cells s.scopes a.scope z (slice_index_or l.lists a.list []) more newest) params
    (subst (λ (z : List Operand). Adds s.cells s.scopes a.scope c.params-params.result.now z more newest) operands
    (subst (λ (z : List Scope). Adds s.cells z a.scope c.params-params.result.now c.operands-operands.result.now more newest) c.deref.ensures.value
    (subst (λ (z : List Bound). Adds z c.deref.result.now a.scope c.params-params.result.now c.operands-operands.result.now more newest) c.deref-2.ensures.value
    (subst (λ (z : Option ℕ). IfSome z (λ n. Adds c.deref-2.result.now c.deref.result.now a.scope c.params-params.result.now c.operands-operands.result.now more n)) c.in-Some-fitted.is c.in_ok-fitted.ensures.adds)))) in
    let s' : Records = record { limit = b.limit; journal = c.write.new.journal.entries; entries = b.entries + 1; next_mark = b.next_mark + 1; now = b.time; made = b.calls.made; tokens = live c.replace.new.self.items; slots = c.replace.new.self.items; calls = b.calls.items; scopes = c.extend_within.new.scopes.items; steps = b.steps.items; groups = b.groups.items; cells = b.cells.items } in
    let journal : s'.journal ≡ s.journal ++ Def a.token.serial b.next_mark ∷ [] = ap (λ j. j.entries) c.in_ok-write.ensures.added in
    let scopes : s'.scopes ≡ s.scopes ++ more = c.extend_within.ensures ∙ (λ j. c.in_ok-reserve_scopes.ensures.items j ++ c.deref-3.ensures.value j) in
    let first : Token = born s a.token s.next_mark r.body newest a.token.step in
    let slots : c.replace.new.self.items ≡ slice_set s.slots a.slot first = c.replace.ensures.items ∙ ap (λ (n : ℕ). slice_set s.slots a.slot (born s a.token s.next_mark n newest a.token.step)) (sym got.2) in
    let tokens : (w : Token → ℕ) → weight w s'.tokens + w a.token ≡ weight w s.tokens + weight w (first ∷ []) = λ w. omega (arith, ap (λ z. weight w (live z)) slots, replaced w s.slots a.slot a.token first held (later_mark l sites s L a.token i)) in
    let T : IsDefined s a.token r.body newest more s' = turns s s' a.token (first ∷ []) more [] [] [] (Def a.token.serial b.next_mark) refl journal refl (omega arith) refl refl tokens refl scopes (sym (append-nil s.steps)) (sym (append-nil s.groups)) (sym (append-nil s.cells)) in
    rw (← c.self.view_is) (first, (ap (λ z. slice_get z a.slot) slots ∙ set-there s.slots a.slot a.token first held.0, later_mark l sites s L a.token i), refl)

pub replace-requires-clause-serial : goal.replace-requires-clause-serial
replace-requires-clause-serial g c =
    let b = c.self.inside in
    let a = c.args in
    let l = g.P.Run.listing in
    let sites = g.P.Run.sites in
    let s : Records = record { limit = b.limit; journal = b.journal.entries; entries = b.entries; next_mark = b.next_mark; now = b.time; made = b.calls.made; tokens = live b.tokens.items; slots = b.tokens.items; calls = b.calls.items; scopes = b.scopes.items; steps = b.steps.items; groups = b.groups.items; cells = b.cells.items } in
    let L = c.self.invariant.kept.lawful in
    let held : IsHeld s.slots a.slot a.token = rw (← c.self.view_is) at c.requires.held in
    later_mark l sites s L a.token (live-in s.slots a.slot a.token held)

pub returns-clause-others : goal.returns-clause-others
returns-clause-others g c =
    let b = c.self.inside in
    let a = c.args in
    rw (← c.self.view_is) (set-others b.tokens.items c.replace.new.self.items a.slot _ c.replace.ensures.items)
