use Rattle.std.proofs.Common.{◌≡◌, ◌≤◌, ◌<◌, ◌-◌, ◌++◌, ◌+◌, ◌^◌, ℕ, refl, ap, ◌∙◌, arith, length, map}
use Rattle.std.specs.Prelude.{option_to_list}
use Rattle.orc_rules.specs.Nodes.{code, definitions}
use Rattle.orc_subrun.specs.declared.numbers.Numbering.{Numbering}
use Rattle.orc_subrun.specs.Moved.{moved}
use Rattle.orc_subrun.proofs.Grafted.{part_is_grafted}
use Rattle.orc_subrun.proofs.Listed.{program_is_still}
use Rattle.orc_indexes.specs.Same.{weight, is_this}
use Rattle.orc_tables.specs.Tokens.{live, IsHeld}
use Rattle.orc_tables.specs.OpenGroups.{size_of, tokens_in}
use Rattle.orc_tables.specs.Steps.{group_at}
use Rattle.orc_tables.specs.declared.records.Token.{Token}
use Rattle.orc_tables.proofs.Slots.{live-in}
use Rattle.orc_ledger_spec.specs.Records.{Records}
use Rattle.orc_ledger_spec.specs.Parts.{Apart, Fits, StandsFor, TakesIn, cells_from, comers, numbering}
use Rattle.orc_ledger_spec.proofs.AtRest.{rest-kept}
use Rattle.orc_ledger_spec.proofs.Sound.{given}
use Rattle.orc_ledger_spec.proofs.Taken.{comers-in, has_begun, left-fits, taken-kept, taken-terms}
use Rattle.orc_ledger.proofs.ledger.Ledger.append_sub_run.Goals as goal

pub invariant_of-self-2 : goal.invariant_of-self-2
invariant_of-self-2 g c =
    let b = c.self.inside in
    let a = c.args in
    let l = g.P.Run.listing in
    let sites = g.P.Run.sites in
    let K = c.self.invariant.kept in
    let s : Records = record { limit = b.limit; journal = b.journal.entries; entries = b.entries; next_mark = b.next_mark; now = b.time; made = b.calls.made; tokens = live b.tokens.items; slots = b.tokens.items; calls = b.calls.items; scopes = b.scopes.items; steps = b.steps.items; groups = b.groups.items; cells = b.cells.items } in
    let p : Apart = record { definition = c.part.inside.definition; args = c.part.inside.args; entries = c.part.inside.journal.entries; mark = c.part.inside.next_mark; calls = c.part.inside.calls; cells = c.part.inside.cells; left = c.part.inside.left } in
    let held : IsHeld s.slots a.slot a.token = rw (← c.self.view_is) at c.requires.held in
    let stands : StandsFor l s a.token p.definition p.args = rw (← c.self.view_is, ← c.part.view_is) at c.requires.stands in
    let fits : Fits p a.token = rw (← c.part.view_is) at c.requires.fits in
    let s' : Records = record { limit = b.limit; journal = c.append.new.self.entries; entries = b.entries + c.len-entries.result; next_mark = b.next_mark + p.mark - 2; now = b.time; made = c.append.new.calls.made; tokens = live c.exchange.new.tokens.items; slots = c.exchange.new.tokens.items; calls = c.append.new.calls.items; scopes = b.scopes.items; steps = b.steps.items; groups = c.exchange.new.groups.items; cells = c.add_cells.new.cells.items } in
    let n : Numbering = record { token = a.token.serial; mark = b.next_mark; calls = c.next_number.result - 1; cells = c.len.result - 1 } in
    let same : n ≡ numbering s a.token = let made : c.next_number.result - 1 ≡ s.made = omega (arith, c.next_number.ensures) in let cells : c.len.result - 1 ≡ length s.cells - 1 = omega (arith, c.len.ensures) in λ i. record { token = a.token.serial; mark = s.next_mark; calls = made i; cells = cells i } in
    let came : option_to_list c.comer_of-comer.result ≡ comers (numbering s a.token) a.token p.left = c.comer_of-comer.ensures.comes ∙ ap (λ z. comers z a.token p.left) same in
    let room : s.entries + length p.entries ≤ s.limit = omega (arith, c.if-entries-self.false, c.len-entries.ensures.entries, K.lawful.within) in
    let T : TakesIn s s' a.token p = record {
      limit = refl;
      some = has_begun l sites p c.part.invariant.0;
      journal = c.in_ok-append.ensures.added ∙ ap (λ z. s.journal ++ map (moved z) p.entries) same;
      entries = ap (λ z. s.entries + z) c.len-entries.ensures.entries;
      mark = omega (arith, c.part.invariant.0.begun);
      now = refl;
      made = c.in_ok-append.ensures.made;
      tokens = λ w. omega (arith, c.exchange.ensures.tokens w, ap (weight w) came);
      calls = c.append.ensures.items;
      groups = λ w. ap (weight w) c.exchange.ensures.groups;
      scopes = refl;
      steps = refl;
      cells = c.add_cells.ensures ∙ ap (λ z. z ++ cells_from (length z) p.cells) c.in_ok-reserve_cells.ensures.items;
    } in
    let i = live-in s.slots a.slot a.token held in
    let small : s.now < 2 ^ 64 = omega (arith, c.self.ranges) in
    let same_group : (j : ℕ) → weight (λ (u : Token). is_this j c.group_at-group.result) (option_to_list c.comer_of-comer.result) ≡ weight (λ (u : Token). is_this j (group_at s.steps a.token.step)) (comers (numbering s a.token) a.token p.left) = λ j k. weight (λ (u : Token). is_this j (c.group_at-group.ensures k)) (came k) in
    let sizes : (j : ℕ) → size_of c.exchange.new.groups.sizes j ≡ size_of b.groups.sizes j + tokens_in s.steps (comers (numbering s a.token) a.token p.left) j - is_this j (group_at s.steps a.token.step) = λ j. omega (arith, c.exchange.ensures.sizes j, ap (is_this j) c.group_at-group.ensures, same_group j, comers-in (numbering s a.token) a.token s.steps p.left j) in
    record {
      kept = taken-kept part_is_grafted program_is_still l sites b.counts b.groups.sizes s K a.token i held.1 p c.part.invariant.0 stands fits small room s' T c.exchange.new.groups.sizes sizes;
      rest = rest-kept (code l) (definitions l) s s' b.tokens c.exchange.new.tokens refl refl c.self.invariant.rest (live-in b.tokens.items) (c.exchange.ensures.parked)
          (taken-terms part_is_grafted program_is_still l sites b.counts b.groups.sizes s K a.token i held.1 p c.part.invariant.0 stands fits small room s' T);
      version = c.in_ok-append.ensures.version ∙ c.self.invariant.version;
      limited = c.self.invariant.limited;
    }

pub returns-clause-done : goal.returns-clause-done
returns-clause-done g c =
    let b = c.self.inside in
    let a = c.args in
    let l = g.P.Run.listing in
    let sites = g.P.Run.sites in
    let s : Records = record { limit = b.limit; journal = b.journal.entries; entries = b.entries; next_mark = b.next_mark; now = b.time; made = b.calls.made; tokens = live b.tokens.items; slots = b.tokens.items; calls = b.calls.items; scopes = b.scopes.items; steps = b.steps.items; groups = b.groups.items; cells = b.cells.items } in
    let p : Apart = record { definition = c.part.inside.definition; args = c.part.inside.args; entries = c.part.inside.journal.entries; mark = c.part.inside.next_mark; calls = c.part.inside.calls; cells = c.part.inside.cells; left = c.part.inside.left } in
    let s' : Records = record { limit = b.limit; journal = c.append.new.self.entries; entries = b.entries + c.len-entries.result; next_mark = b.next_mark + p.mark - 2; now = b.time; made = c.append.new.calls.made; tokens = live c.exchange.new.tokens.items; slots = c.exchange.new.tokens.items; calls = c.append.new.calls.items; scopes = b.scopes.items; steps = b.steps.items; groups = c.exchange.new.groups.items; cells = c.add_cells.new.cells.items } in
    let n : Numbering = record { token = a.token.serial; mark = b.next_mark; calls = c.next_number.result - 1; cells = c.len.result - 1 } in
    let same : n ≡ numbering s a.token = let made : c.next_number.result - 1 ≡ s.made = omega (arith, c.next_number.ensures) in let cells : c.len.result - 1 ≡ length s.cells - 1 = omega (arith, c.len.ensures) in λ i. record { token = a.token.serial; mark = s.next_mark; calls = made i; cells = cells i } in
    let came : option_to_list c.comer_of-comer.result ≡ comers (numbering s a.token) a.token p.left = c.comer_of-comer.ensures.comes ∙ ap (λ z. comers z a.token p.left) same in
    let T : TakesIn s s' a.token p = record {
      limit = refl;
      some = has_begun l sites p c.part.invariant.0;
      journal = c.in_ok-append.ensures.added ∙ ap (λ z. s.journal ++ map (moved z) p.entries) same;
      entries = ap (λ z. s.entries + z) c.len-entries.ensures.entries;
      mark = omega (arith, c.part.invariant.0.begun);
      now = refl;
      made = c.in_ok-append.ensures.made;
      tokens = λ w. omega (arith, c.exchange.ensures.tokens w, ap (weight w) came);
      calls = c.append.ensures.items;
      groups = λ w. ap (weight w) c.exchange.ensures.groups;
      scopes = refl;
      steps = refl;
      cells = c.add_cells.ensures ∙ ap (λ z. z ++ cells_from (length z) p.cells) c.in_ok-reserve_cells.ensures.items;
    } in
    rw (← c.self.view_is) (rw (← c.part.view_is) T)

pub comer_of-comer-requires-clause-marks : goal.comer_of-comer-requires-clause-marks
comer_of-comer-requires-clause-marks g c =
    let p = c.part.invariant.0 in
    left-fits c.part.inside.journal.entries c.part.inside.next_mark c.self.inside.next_mark c.part.inside.left p.yields
    (omega (arith, p.counted, c.len-entries.ensures.entries, c.if-entries-self.false, c.self.invariant.kept.lawful.counted, c.self.invariant.kept.lawful.within, c.self.invariant.kept.lawful.small))

pub comer_of-comer-requires-clause-next : goal.comer_of-comer-requires-clause-next
comer_of-comer-requires-clause-next g c =
    let b = c.self.inside in
    let a = c.args in
    let s : Records = record { limit = b.limit; journal = b.journal.entries; entries = b.entries; next_mark = b.next_mark; now = b.time; made = b.calls.made; tokens = live b.tokens.items; slots = b.tokens.items; calls = b.calls.items; scopes = b.scopes.items; steps = b.steps.items; groups = b.groups.items; cells = b.cells.items } in
    let held : IsHeld s.slots a.slot a.token = rw (← c.self.view_is) at c.requires.held in
    omega (arith, given g.P.Run.listing g.P.Run.sites s c.self.invariant.kept.lawful a.token (live-in s.slots a.slot a.token held))

pub returns-clause-others : goal.returns-clause-others
returns-clause-others g c = rw (← c.self.view_is) c.exchange.ensures.others
