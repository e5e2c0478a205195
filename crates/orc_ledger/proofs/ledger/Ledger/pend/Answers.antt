use Rattle.std.proofs.Common.{◌<◌, ◌+◌, [], ◌∷◌, refl, ap, arith, ◌∙◌}
use Rattle.orc_rules.specs.declared.entry.Entry.TheVariants as entry
use Rattle.orc_rules.specs.Nodes.{code, definitions}
use Rattle.orc_indexes.specs.Same.{weight}
use Rattle.orc_ledger_spec.specs.Records.{Records}
use Rattle.orc_ledger_spec.specs.Calls.{Exchanges}
use Rattle.orc_frames.specs.Doing.{IsCall}
use Rattle.orc_ledger_spec.specs.Doing.{term_of}
use Rattle.orc_ledger_spec.specs.Requests.{IsMade, IsNextCall}
use Rattle.orc_tables.specs.Tokens.{live, IsHeld}
use Rattle.orc_ledger_spec.proofs.AtRest.{rest-kept, same-terms}
use Rattle.orc_ledger_spec.proofs.Asked.{word-there, which-there, called-kept}
use Rattle.orc_tables.proofs.Slots.{live-in, removed}
use Rattle.orc_ledger.proofs.Others.{set-others}
use Rattle.orc_ledger.proofs.ledger.Ledger.pend.Goals as goal

pub invariant_of-self-2 : goal.invariant_of-self-2
invariant_of-self-2 g c =
    let b = c.self.inside in
    let a = c.args in
    let l = g.P.Run.listing in
    let sites = g.P.Run.sites in
    let K = c.self.invariant.kept in
    let s : Records = record { limit = b.limit; journal = b.journal.entries; entries = b.entries; next_mark = b.next_mark; now = b.time; made = b.calls.made; tokens = live b.tokens.items; slots = b.tokens.items; calls = b.calls.items; scopes = b.scopes.items; steps = b.steps.items; groups = b.groups.items; cells = b.cells.items } in
    let held : IsHeld s.slots a.slot a.token = rw (← c.self.view_is) at c.requires.held in
    let m = a.site in
    let args = a.args.now in
    let asks : IsCall m args (term_of (code l) s a.token) = rw (← c.self.view_is) at c.requires.asks in
    let made = a.call in
    let next : IsNextCall l sites s a.token m args made = rw (← c.self.view_is) at c.requires.next in
    let found = word-there l sites s K.lawful a.token m args made next in
    let which = which-there l sites s K.lawful a.token m args made next in
    let e = entry.Call a.token.serial made.number m args in
    let s' : Records = record { limit = b.limit; journal = c.write_call.new.journal.entries; entries = b.entries + 1; next_mark = b.next_mark; now = b.time; made = c.add.new.self.made; tokens = live c.remove.new.self.items; slots = c.remove.new.self.items; calls = c.add.new.self.items; scopes = b.scopes.items; steps = b.steps.items; groups = b.groups.items; cells = b.cells.items } in
    let T : Exchanges s s' (a.token ∷ []) [] [] (made ∷ []) 1 e = record {
      limit = refl;
      journal = ap (λ j. j.entries) c.in_ok-write_call.ensures.added;
      entries = refl;
      mark = omega arith;
      now = refl;
      made_so = omega (arith, c.add.ensures.made, c.in-Ok.ensures.made);
      tokens = λ w. omega (arith, ap (λ z. weight w (live z)) c.remove.ensures.items.2, removed w s.slots a.slot a.token c.remove.ensures.items.0 held c.remove.ensures.items.1);
      calls = λ w. omega (arith, c.add.ensures.added w, ap (weight w) c.in-Ok.ensures.items);
      groups = refl;
      scopes = refl;
      steps = refl;
      cells = refl;
    } in
    let room : s.entries < s.limit = rw (← c.self.view_is) at c.requires.room in
    record { kept = called-kept l sites b.counts b.groups.sizes s K a.inputs.now.answers.now.sites c.args.inputs.now.its_sites m args a.token (live-in s.slots a.slot a.token held) asks room made next.number found which s' next.step next.made_at next.row T c.write_call.new.counts c.in_ok-write_call.ensures.counted; rest = rest-kept (code l) (definitions l) s s' b.tokens c.remove.new.self refl refl c.self.invariant.rest (live-in b.tokens.items) (c.remove.ensures.parked) (same-terms (code l) s s' refl refl); version = ap (λ j. j.version) c.in_ok-write_call.ensures.added ∙ c.self.invariant.version; limited = c.self.invariant.limited }

pub returns-clause-done : goal.returns-clause-done
returns-clause-done g c =
    let b = c.self.inside in
    let a = c.args in
    let l = g.P.Run.listing in
    let sites = g.P.Run.sites in
    let K = c.self.invariant.kept in
    let s : Records = record { limit = b.limit; journal = b.journal.entries; entries = b.entries; next_mark = b.next_mark; now = b.time; made = b.calls.made; tokens = live b.tokens.items; slots = b.tokens.items; calls = b.calls.items; scopes = b.scopes.items; steps = b.steps.items; groups = b.groups.items; cells = b.cells.items } in
    let held : IsHeld s.slots a.slot a.token = rw (← c.self.view_is) at c.requires.held in
    let m = a.site in
    let args = a.args.now in
    let asks : IsCall m args (term_of (code l) s a.token) = rw (← c.self.view_is) at c.requires.asks in
    let made = a.call in
    let next : IsNextCall l sites s a.token m args made = rw (← c.self.view_is) at c.requires.next in
    let e = entry.Call a.token.serial made.number m args in
    let s' : Records = record { limit = b.limit; journal = c.write_call.new.journal.entries; entries = b.entries + 1; next_mark = b.next_mark; now = b.time; made = c.add.new.self.made; tokens = live c.remove.new.self.items; slots = c.remove.new.self.items; calls = c.add.new.self.items; scopes = b.scopes.items; steps = b.steps.items; groups = b.groups.items; cells = b.cells.items } in
    let T : Exchanges s s' (a.token ∷ []) [] [] (made ∷ []) 1 e = record {
      limit = refl;
      journal = ap (λ j. j.entries) c.in_ok-write_call.ensures.added;
      entries = refl;
      mark = omega arith;
      now = refl;
      made_so = omega (arith, c.add.ensures.made, c.in-Ok.ensures.made);
      tokens = λ w. omega (arith, ap (λ z. weight w (live z)) c.remove.ensures.items.2, removed w s.slots a.slot a.token c.remove.ensures.items.0 held c.remove.ensures.items.1);
      calls = λ w. omega (arith, c.add.ensures.added w, ap (weight w) c.in-Ok.ensures.items);
      groups = refl;
      scopes = refl;
      steps = refl;
      cells = refl;
    } in
    let is_made : IsMade l sites s a.token made s' = record { site = m; args = args; asks = asks; number = next.number; step = next.step; made_at = next.made_at; place = next.place; at = next.at; found = next.found; nth = next.nth; row = next.row; exchanges = T } in
    rw (← c.self.view_is) is_made

pub returns-clause-others : goal.returns-clause-others
returns-clause-others g c =
    let b = c.self.inside in
    let a = c.args in
    rw (← c.self.view_is) (set-others b.tokens.items c.remove.new.self.items a.slot c.remove.ensures.items.0 c.remove.ensures.items.2)
