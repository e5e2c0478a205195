use Rattle.std.proofs.Common.{◌≡◌, ◌<◌, ◌+◌, ◌++◌, ◌-◌, slice_get, [], ◌∷◌, refl, sym, ap, ◌∙◌, inl, arith}
use Rattle.orc_rules.specs.declared.value.Answer.TheVariants.{Value as Gives, Halt}
use Rattle.orc_rules.specs.declared.value.Found.TheVariants.{After}
use Rattle.orc_rules.specs.declared.entry.Entry.TheVariants.{Call, Return, ReturnHalt}
use Rattle.orc_rules.specs.Nodes.{code, definitions}
use Rattle.orc_rules.specs.Sites.{find}
use Rattle.orc_rules.specs.Timed.{nth_of}
use Rattle.orc_indexes.specs.Same.{weight}
use Rattle.orc_ledger_spec.specs.Records.{Records}
use Rattle.orc_ledger_spec.specs.Calls.{Exchanges}
use Rattle.orc_frames.specs.Doing.{IsCall}
use Rattle.orc_ledger_spec.specs.Doing.{term_of}
use Rattle.orc_indexes.specs.Same.{is_this}
use Rattle.orc_tables.specs.OpenGroups.{size_of}
use Rattle.orc_ledger_spec.specs.Requests.{IsMade, IsNextCall}
use Rattle.orc_tables.specs.Tokens.{live, IsHeld}
use Rattle.orc_tables.specs.declared.records.Standing.TheVariants.{On}
use Rattle.orc_tables.specs.declared.records.Token.{Token}
use Rattle.orc_ledger_spec.proofs.AtOnce.{nobody, made, between, made-between, given_kept, halted_kept}
use Rattle.orc_ledger_spec.proofs.AtRest.{rest-kept, same-terms}
use Rattle.orc_ledger_spec.proofs.Asked.{word-there, called-kept}
use Rattle.orc_ledger_spec.proofs.Keeping.{from_one}
use Rattle.orc_indexes.proofs.Lists.{set-there}
use Rattle.orc_tables.proofs.Slots.{live-in, removed, replaced}
use Rattle.orc_ledger.proofs.Others.{set-others}
use Rattle.orc_ledger.proofs.ledger.Ledger.answer_through.Goals as goal

pub replace-requires-clause-serial : goal.replace-requires-clause-serial
replace-requires-clause-serial g c =
    let b = c.self.inside in
    let s : Records = record { limit = b.limit; journal = b.journal.entries; entries = b.entries; next_mark = b.next_mark; now = b.time; made = b.calls.made; tokens = live b.tokens.items; slots = b.tokens.items; calls = b.calls.items; scopes = b.scopes.items; steps = b.steps.items; groups = b.groups.items; cells = b.cells.items } in
    from_one g.P.Run.listing g.P.Run.sites s c.self.invariant.kept.lawful

pub replace-requires-clause-held : goal.replace-requires-clause-held
replace-requires-clause-held g c =
    let held : (t : Token) × IsHeld c.self.inside.tokens.items c.args.slot t = (c.args.token, rw (← c.self.view_is) at c.requires.held) in
    held

pub remove-requires : goal.remove-requires
remove-requires g c =
    let held : (t : Token) × IsHeld c.self.inside.tokens.items c.args.slot t = (c.args.token, rw (← c.self.view_is) at c.requires.held) in
    held

pub invariant_of-self-in-Value : goal.invariant_of-self-in-Value
invariant_of-self-in-Value g c =
    let b = c.self.inside in
    let a = c.args in
    let l = g.P.Run.listing in
    let sites = g.P.Run.sites in
    let K = c.self.invariant.kept in
    let s : Records = record { limit = b.limit; journal = b.journal.entries; entries = b.entries; next_mark = b.next_mark; now = b.time; made = b.calls.made; tokens = live b.tokens.items; slots = b.tokens.items; calls = b.calls.items; scopes = b.scopes.items; steps = b.steps.items; groups = b.groups.items; cells = b.cells.items } in
    let held : IsHeld s.slots a.slot a.token = rw (← c.self.view_is) at c.requires.held in
    let m = a.site in
    let args = a.args.now in
    let v = c.in-Value.value in
    let asks : IsCall m args (term_of (code l) s a.token) = rw (← c.self.view_is) at c.requires.asks in
    let next : IsNextCall l sites s a.token m args c.next_call-call.result = rw (← c.self.view_is) at c.next_call-call.ensures in
    let nth = nth_of m args K.lawful.place.calls in
    let says : c.next_call-call.result.found ≡ After (Gives v) 0 = c.in-Some.ensures ∙ ap (λ z. After z 0) c.in-Value.is in
    let found : After (Gives v) 0 ≡ find sites m args nth = sym says ∙ word-there l sites s K.lawful a.token m args c.next_call-call.result next in
    let k = made s a.slot a.token m args (Gives v) nth in
    let s1 = between s a.slot a.token m args (Gives v) nth in
    let making = made-between s a.slot a.token m args (Gives v) nth refl held in
    let room : s.entries + 1 < s.limit = omega (arith, c.if-self-ge2.true) in
    let kept_between = called-kept l sites b.counts b.groups.sizes s K a.inputs.now.answers.now.sites c.args.inputs.now.its_sites m args a.token (live-in s.slots a.slot a.token held) asks (omega (arith, room)) k refl found (λ o. refl) s1 refl refl refl making c.write_answered.new.counts c.in_ok-write_answered-in-Value.ensures.counted in
    let u : Token = record { serial = s.next_mark; standing = On v; step = a.token.step } in
    let s' : Records = record { limit = b.limit; journal = c.write_answered.new.journal.entries; entries = b.entries + 2; next_mark = b.next_mark + 1; now = b.time; made = c.skip_number.new.self.made; tokens = live c.replace.new.self.items; slots = c.replace.new.self.items; calls = c.skip_number.new.self.items; scopes = b.scopes.items; steps = b.steps.items; groups = b.groups.items; cells = b.cells.items } in
    let answering : Exchanges s1 s' [] (u ∷ []) (k ∷ []) [] 0 (Return (s.made + 1) s.next_mark v) = record {
      limit = refl;
      journal = ap (λ j. j.entries) c.in_ok-write_answered-in-Value.ensures.added ∙ ap (λ n. (s.journal ++ Call a.token.serial n m args ∷ []) ++ Return n s.next_mark v ∷ []) next.number;
      entries = omega arith;
      mark = refl;
      now = refl;
      made_so = omega (arith, c.skip_number.ensures.made, c.in-Ok.ensures.made);
      tokens = λ w. omega (arith, ap (λ z. weight w (live z)) c.replace.ensures.items, replaced w s.slots a.slot a.token u held (from_one l sites s K.lawful), removed w s.slots a.slot a.token nobody held refl);
      calls = λ w. omega (arith, ap (weight w) c.skip_number.ensures.items, ap (weight w) c.in-Ok.ensures.items);
      groups = refl;
      scopes = refl;
      steps = refl;
      cells = refl;
    } in
    record {
      kept = given_kept l sites c.write_answered.new.counts b.groups.sizes s1 kept_between k (inl refl) v (record { delay = 0; says = refl; sum = omega arith; fits = omega (arith, c.self.ranges) }) (omega (arith, room)) s' answering;
      rest = rest-kept (code l) (definitions l) s s' b.tokens c.replace.new.self refl refl c.self.invariant.rest (live-in b.tokens.items) (c.replace.ensures.parked) (same-terms (code l) s s' refl refl);
      version = ap (λ j. j.version) c.in_ok-write_answered-in-Value.ensures.added ∙ c.self.invariant.version;
      limited = c.self.invariant.limited;
    }

pub invariant_of-self-in-Halt : goal.invariant_of-self-in-Halt
invariant_of-self-in-Halt g c =
    let b = c.self.inside in
    let a = c.args in
    let l = g.P.Run.listing in
    let sites = g.P.Run.sites in
    let K = c.self.invariant.kept in
    let s : Records = record { limit = b.limit; journal = b.journal.entries; entries = b.entries; next_mark = b.next_mark; now = b.time; made = b.calls.made; tokens = live b.tokens.items; slots = b.tokens.items; calls = b.calls.items; scopes = b.scopes.items; steps = b.steps.items; groups = b.groups.items; cells = b.cells.items } in
    let held : IsHeld s.slots a.slot a.token = rw (← c.self.view_is) at c.requires.held in
    let m = a.site in
    let args = a.args.now in
    let asks : IsCall m args (term_of (code l) s a.token) = rw (← c.self.view_is) at c.requires.asks in
    let next : IsNextCall l sites s a.token m args c.next_call-call.result = rw (← c.self.view_is) at c.next_call-call.ensures in
    let nth = nth_of m args K.lawful.place.calls in
    let says : c.next_call-call.result.found ≡ After Halt 0 = c.in-Some.ensures ∙ ap (λ z. After z 0) c.in-Halt.is in
    let found : After Halt 0 ≡ find sites m args nth = sym says ∙ word-there l sites s K.lawful a.token m args c.next_call-call.result next in
    let k = made s a.slot a.token m args Halt nth in
    let s1 = between s a.slot a.token m args Halt nth in
    let making = made-between s a.slot a.token m args Halt nth refl held in
    let room : s.entries + 1 < s.limit = omega (arith, c.if-self-ge2.true) in
    let kept_between = called-kept l sites b.counts b.groups.sizes s K a.inputs.now.answers.now.sites c.args.inputs.now.its_sites m args a.token (live-in s.slots a.slot a.token held) asks (omega (arith, room)) k refl found (λ o. refl) s1 refl refl refl making c.write_answered-in-Halt.new.counts c.in_ok-write_answered-in-Halt.ensures.counted in
    let s' : Records = record { limit = b.limit; journal = c.write_answered-in-Halt.new.journal.entries; entries = b.entries + 2; next_mark = b.next_mark; now = b.time; made = c.skip_number-in-Halt.new.self.made; tokens = live c.remove.new.self.items; slots = c.remove.new.self.items; calls = c.skip_number-in-Halt.new.self.items; scopes = b.scopes.items; steps = b.steps.items; groups = c.leave.new.self.items; cells = b.cells.items } in
    let answering : Exchanges s1 s' [] [] (k ∷ []) [] 0 (ReturnHalt (s.made + 1)) = record {
      limit = refl;
      journal = ap (λ j. j.entries) c.in_ok-write_answered-in-Halt.ensures.added ∙ ap (λ n. (s.journal ++ Call a.token.serial n m args ∷ []) ++ ReturnHalt n ∷ []) next.number;
      entries = omega arith;
      mark = omega arith;
      now = refl;
      made_so = omega (arith, c.skip_number-in-Halt.ensures.made, c.in-Ok.ensures.made);
      tokens = λ w. omega (arith, ap (λ z. weight w (live z)) c.remove.ensures.items.2, removed w s.slots a.slot a.token c.remove.ensures.items.0 held c.remove.ensures.items.1, removed w s.slots a.slot a.token nobody held refl);
      calls = λ w. omega (arith, ap (weight w) c.skip_number-in-Halt.ensures.items, ap (weight w) c.in-Ok.ensures.items);
      groups = c.leave.ensures.items;
      scopes = refl;
      steps = refl;
      cells = refl;
    } in
    record {
      kept = halted_kept l sites c.write_answered-in-Halt.new.counts b.groups.sizes c.leave.new.self.sizes s1 kept_between k (inl refl) (record { delay = 0; says = refl; sum = omega arith; fits = omega (arith, c.self.ranges) }) (omega (arith, room)) s' answering (λ j. c.leave.ensures.sizes j ∙ ap (λ n. size_of b.groups.sizes j - is_this j n) c.group_at-group.ensures);
      rest = rest-kept (code l) (definitions l) s s' b.tokens c.remove.new.self refl refl c.self.invariant.rest (live-in b.tokens.items) (c.remove.ensures.parked) (same-terms (code l) s s' refl refl);
      version = ap (λ j. j.version) c.in_ok-write_answered-in-Halt.ensures.added ∙ c.self.invariant.version;
      limited = c.self.invariant.limited;
    }

pub returns-in_ok-write_answered-in-Value-clause-done : goal.returns-in_ok-write_answered-in-Value-clause-done
returns-in_ok-write_answered-in-Value-clause-done g c =
    let b = c.self.inside in
    let a = c.args in
    let l = g.P.Run.listing in
    let sites = g.P.Run.sites in
    let K = c.self.invariant.kept in
    let s : Records = record { limit = b.limit; journal = b.journal.entries; entries = b.entries; next_mark = b.next_mark; now = b.time; made = b.calls.made; tokens = live b.tokens.items; slots = b.tokens.items; calls = b.calls.items; scopes = b.scopes.items; steps = b.steps.items; groups = b.groups.items; cells = b.cells.items } in
    let held : IsHeld s.slots a.slot a.token = rw (← c.self.view_is) at c.requires.held in
    let m = a.site in
    let args = a.args.now in
    let v = c.in-Value.value in
    let asks : IsCall m args (term_of (code l) s a.token) = rw (← c.self.view_is) at c.requires.asks in
    let next : IsNextCall l sites s a.token m args c.next_call-call.result = rw (← c.self.view_is) at c.next_call-call.ensures in
    let nth = nth_of m args K.lawful.place.calls in
    let says : c.next_call-call.result.found ≡ After (Gives v) 0 = c.in-Some.ensures ∙ ap (λ z. After z 0) c.in-Value.is in
    let found : After (Gives v) 0 ≡ find sites m args nth = sym says ∙ word-there l sites s K.lawful a.token m args c.next_call-call.result next in
    let k = made s a.slot a.token m args (Gives v) nth in
    let s1 = between s a.slot a.token m args (Gives v) nth in
    let making = made-between s a.slot a.token m args (Gives v) nth refl held in
    let u : Token = record { serial = s.next_mark; standing = On v; step = a.token.step } in
    let s' : Records = record { limit = b.limit; journal = c.write_answered.new.journal.entries; entries = b.entries + 2; next_mark = b.next_mark + 1; now = b.time; made = c.skip_number.new.self.made; tokens = live c.replace.new.self.items; slots = c.replace.new.self.items; calls = c.skip_number.new.self.items; scopes = b.scopes.items; steps = b.steps.items; groups = b.groups.items; cells = b.cells.items } in
    let answering : Exchanges s1 s' [] (u ∷ []) (k ∷ []) [] 0 (Return (s.made + 1) s.next_mark v) = record {
      limit = refl;
      journal = ap (λ j. j.entries) c.in_ok-write_answered-in-Value.ensures.added ∙ ap (λ n. (s.journal ++ Call a.token.serial n m args ∷ []) ++ Return n s.next_mark v ∷ []) next.number;
      entries = omega arith;
      mark = refl;
      now = refl;
      made_so = omega (arith, c.skip_number.ensures.made, c.in-Ok.ensures.made);
      tokens = λ w. omega (arith, ap (λ z. weight w (live z)) c.replace.ensures.items, replaced w s.slots a.slot a.token u held (from_one l sites s K.lawful), removed w s.slots a.slot a.token nobody held refl);
      calls = λ w. omega (arith, ap (weight w) c.skip_number.ensures.items, ap (weight w) c.in-Ok.ensures.items);
      groups = refl;
      scopes = refl;
      steps = refl;
      cells = refl;
    } in
    let is_made : IsMade l sites s a.token k s1 = record { site = m; args = args; asks = asks; number = refl; step = refl; made_at = refl; place = K.lawful.place; at = K.lawful.leads; found = found; nth = λ o. refl; row = refl; exchanges = making } in
    let held' : IsHeld s'.slots a.slot u = (ap (λ z. slice_get z a.slot) c.replace.ensures.items ∙ set-there s.slots a.slot a.token u held.0, from_one l sites s K.lawful) in
    rw (← c.self.view_is) (k, s1, refl, is_made, (answering, held'))

pub returns-in_ok-write_answered-in-Halt-clause-done : goal.returns-in_ok-write_answered-in-Halt-clause-done
returns-in_ok-write_answered-in-Halt-clause-done g c =
    let b = c.self.inside in
    let a = c.args in
    let l = g.P.Run.listing in
    let sites = g.P.Run.sites in
    let K = c.self.invariant.kept in
    let s : Records = record { limit = b.limit; journal = b.journal.entries; entries = b.entries; next_mark = b.next_mark; now = b.time; made = b.calls.made; tokens = live b.tokens.items; slots = b.tokens.items; calls = b.calls.items; scopes = b.scopes.items; steps = b.steps.items; groups = b.groups.items; cells = b.cells.items } in
    let held : IsHeld s.slots a.slot a.token = rw (← c.self.view_is) at c.requires.held in
    let m = a.site in
    let args = a.args.now in
    let asks : IsCall m args (term_of (code l) s a.token) = rw (← c.self.view_is) at c.requires.asks in
    let next : IsNextCall l sites s a.token m args c.next_call-call.result = rw (← c.self.view_is) at c.next_call-call.ensures in
    let nth = nth_of m args K.lawful.place.calls in
    let says : c.next_call-call.result.found ≡ After Halt 0 = c.in-Some.ensures ∙ ap (λ z. After z 0) c.in-Halt.is in
    let found : After Halt 0 ≡ find sites m args nth = sym says ∙ word-there l sites s K.lawful a.token m args c.next_call-call.result next in
    let k = made s a.slot a.token m args Halt nth in
    let s1 = between s a.slot a.token m args Halt nth in
    let making = made-between s a.slot a.token m args Halt nth refl held in
    let s' : Records = record { limit = b.limit; journal = c.write_answered-in-Halt.new.journal.entries; entries = b.entries + 2; next_mark = b.next_mark; now = b.time; made = c.skip_number-in-Halt.new.self.made; tokens = live c.remove.new.self.items; slots = c.remove.new.self.items; calls = c.skip_number-in-Halt.new.self.items; scopes = b.scopes.items; steps = b.steps.items; groups = c.leave.new.self.items; cells = b.cells.items } in
    let answering : Exchanges s1 s' [] [] (k ∷ []) [] 0 (ReturnHalt (s.made + 1)) = record {
      limit = refl;
      journal = ap (λ j. j.entries) c.in_ok-write_answered-in-Halt.ensures.added ∙ ap (λ n. (s.journal ++ Call a.token.serial n m args ∷ []) ++ ReturnHalt n ∷ []) next.number;
      entries = omega arith;
      mark = omega arith;
      now = refl;
      made_so = omega (arith, c.skip_number-in-Halt.ensures.made, c.in-Ok.ensures.made);
      tokens = λ w. omega (arith, ap (λ z. weight w (live z)) c.remove.ensures.items.2, removed w s.slots a.slot a.token c.remove.ensures.items.0 held c.remove.ensures.items.1, removed w s.slots a.slot a.token nobody held refl);
      calls = λ w. omega (arith, ap (weight w) c.skip_number-in-Halt.ensures.items, ap (weight w) c.in-Ok.ensures.items);
      groups = c.leave.ensures.items;
      scopes = refl;
      steps = refl;
      cells = refl;
    } in
    let is_made : IsMade l sites s a.token k s1 = record { site = m; args = args; asks = asks; number = refl; step = refl; made_at = refl; place = K.lawful.place; at = K.lawful.leads; found = found; nth = λ o. refl; row = refl; exchanges = making } in
    rw (← c.self.view_is) (k, s1, refl, c.group_at-group.ensures, is_made, answering)

pub returns-in_ok-write_answered-in-Value-clause-others : goal.returns-in_ok-write_answered-in-Value-clause-others
returns-in_ok-write_answered-in-Value-clause-others g c =
    let b = c.self.inside in
    let a = c.args in
    rw (← c.self.view_is) (set-others b.tokens.items c.replace.new.self.items a.slot _ c.replace.ensures.items)

pub returns-in_ok-write_answered-in-Halt-clause-others : goal.returns-in_ok-write_answered-in-Halt-clause-others
returns-in_ok-write_answered-in-Halt-clause-others g c =
    let b = c.self.inside in
    let a = c.args in
    rw (← c.self.view_is) (set-others b.tokens.items c.remove.new.self.items a.slot c.remove.ensures.items.0 c.remove.ensures.items.2)
