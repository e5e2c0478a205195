use Rattle.std.proofs.Common.{◌≡◌, ◌<◌, ◌≤◌, ℕ, length, arith, ap, refl, sym, subst, ◌∙◌, get_or}
use Rattle.orc_rules.specs.Nodes.{code, definitions}
use Rattle.orc_indexes.specs.Same.{weight, only}
use Rattle.orc_tables.specs.Tokens.{is_live, live, IsHeld}
use Rattle.orc_ledger_spec.specs.Records.{Records}
use Rattle.orc_ledger_spec.specs.Next.{ready_one}
use Rattle.orc_tables.specs.declared.records.Token.{Token}
use Rattle.orc_ledger_spec.proofs.AtRest.{none-ready}
use Rattle.orc_tables.proofs.Placed.{there}
use Rattle.orc_tables.proofs.Slots.{weight-live}
use Rattle.orc_ledger_spec.proofs.Scans.{none-so-far, none-at-all}
use Rattle.orc_ledger.proofs.ledger.Ledger.movable.Goals as goal

pub returns-then-all_wait : goal.returns-then-all_wait
returns-then-all_wait g c =
    let b = c.self.inside in
    let l = g.P.Run.listing in
    let s : Records = record { limit = b.limit; journal = b.journal.entries; entries = b.entries; next_mark = b.next_mark; now = b.time; made = b.calls.made; tokens = live b.tokens.items; slots = b.tokens.items; calls = b.calls.items; scopes = b.scopes.items; steps = b.steps.items; groups = b.groups.items; cells = b.cells.items } in
    rw (← c.self.view_is) (none-ready (code l) (definitions l) s b.tokens.parked c.self.invariant.rest refl (c.all_wait.ensures c.if-all_wait.true))

pub returns-then-can_move : goal.returns-then-can_move
returns-then-can_move g c =
    let xs = c.slots-token-items.result.now in
    let lt : c.loop-slot.slot < length xs = omega (arith, c.loop-slot-test.true) in
    let slots : xs ≡ c.args.self.now.slots = c.slots-token-items.ensures ∙ ap (λ (z : Records). z.slots) c.self.view_is in
    let t : Token = get_or xs c.loop-slot.slot _ in
    (subst (λ z. IsHeld z c.loop-slot.slot t) slots (there xs c.loop-slot.slot _ lt, c.can_move.ensures.held c.if-can_move.true), c.can_move.ensures.moves c.if-can_move.true)

pub loop-slot-preserved : goal.loop-slot-preserved
loop-slot-preserved g c =
    let w : Token → ℕ = ready_one (code g.P.Run.listing) (definitions g.P.Run.listing) c.args.self.now in
    let lt : c.loop-slot.slot < length c.slots-token-items.result.now = omega (arith, c.loop-slot-test.true) in
    none-so-far (only is_live w) c.slots-token-items.result.now c.loop-slot.slot _ lt c.loop-slot.invariant (c.can_move.ensures.none c.if-can_move.false)

pub returns : goal.returns
returns g c =
    let s : Records = c.args.self.now in
    let w : Token → ℕ = ready_one (code g.P.Run.listing) (definitions g.P.Run.listing) s in
    let xs = c.slots-token-items.result.now in
    let past : length xs ≤ c.loop-slot.slot = omega (arith, c.loop-slot-test.false) in
    let tokens : live xs ≡ s.tokens = ap live c.slots-token-items.ensures ∙ ap (λ (z : Records). z.tokens) c.self.view_is in
    sym (ap (weight w) tokens) ∙ (weight-live w xs ∙ none-at-all (only is_live w) xs c.loop-slot.slot past c.loop-slot.invariant)
