-- An entry leads somewhere exactly where all its conditions are met.
use Rattle.std.proofs.Common.{◌≡◌, ℕ, suc, List, [], refl, ap, subst, inl, inr, ⊎_elim}
use Rattle.orc_rules.specs.declared.value.Value.{Value}
use Rattle.orc_rules.specs.declared.param.Param.TheVariants.{Is, Cell, Void}
use Rattle.orc_rules.specs.declared.value.Answer.TheVariants.{Value as Gives, Halt}
use Rattle.orc_rules.specs.declared.entry.Entry.{Entry}
use Rattle.orc_rules.specs.declared.entry.Entry.TheVariants.{End, Fork, Seq, Other, Def, Open, Send, Call, Return, ReturnHalt, Bind, Lost, Right, Publish, Tick, Cancel}
use Rattle.orc_rules.specs.declared.entry.Entry.TheVariants as entry
use Rattle.orc_rules.specs.declared.entry.RuleFault.{RuleFault}
use Rattle.orc_rules.specs.declared.entry.RuleFault.TheVariants.{Mark, Form, Number, Time, Deep, Memory}
use Rattle.orc_rules.specs.declared.entry.RuleFault.TheVariants as reason
use Rattle.orc_rules.specs.Term.{param, put, put_all}
use Rattle.orc_rules.specs.Step.{Act, calls, returns, binds, loses, publishes, silent, opens, within}
use Rattle.orc_rules.specs.Marked.{Marked, ended, token, in_call, in_par, in_seq, in_opened, in_other, erase, fill_marked, Replaces, here, in_left, in_right, in_feeding, in_main, in_side, in_entered, Emits, emits, on_left, on_right, on_feeding, is_fed, on_main, on_side, is_bound, on_entered, passes}
use Rattle.orc_rules.specs.Timed.{Context, calls_after, cells_after}
use Rattle.orc_rules.specs.Journal.{Place, moment, Enters, Leads}
use Rattle.orc_rules.specs.Refusal.{Stands, IsThere, Fits, IsCounted, IsInTurn, IsAnswered, IsOnTime, IsOver, Meets, MeetsAndLeads}
use Rattle.orc_rules.proofs.Dropped.{cancels_exist}

stands : {x y m m' : Marked} {cs : List ℕ} → Replaces x y m cs m' → Replaces x x m cs m
stands here = here
stands (in_left r) = in_left (stands r)
stands (in_right r) = in_right (stands r)
stands (in_feeding r) = in_feeding (stands r)
stands (in_main r) = in_main (stands r)
stands (in_side r) = in_side (stands r)
stands (in_entered r) = in_entered (stands r)

there : {x y m m' : Marked} {cs : List ℕ} → Replaces x y m cs m' → Stands x m
there {cs = cs} r = (cs, stands r)

-- what stands there can be replaced
replaced : {x z m m' : Marked} {cs : List ℕ} (y : Marked) → Replaces x z m cs m' → (m'' : Marked) × Replaces x y m cs m''
replaced y here = (y, here)
replaced y (in_left r) = let d = replaced y r in (_, in_left d.1)
replaced y (in_right r) = let d = replaced y r in (_, in_right d.1)
replaced y (in_feeding r) = let d = replaced y r in (_, in_feeding d.1)
replaced y (in_main r) = let d = replaced y r in (_, in_main d.1)
replaced y (in_side r) = let d = replaced y r in (_, in_side d.1)
replaced y (in_entered r) = let d = replaced y r in (_, in_entered d.1)

-- the token that publishes
emitter : {s a : ℕ} {v : Value} {m m' : Marked} {b : Act} → Emits s a v m b m' → Stands (token s (param (Is v))) m
emitter emits = ([], here)
emitter (on_left e) = let d = emitter e in (_, in_left d.1)
emitter (on_right e) = let d = emitter e in (_, in_right d.1)
emitter (on_feeding i e) = let d = emitter e in (_, in_feeding d.1)
emitter (is_fed e) = let d = emitter e in (_, in_feeding d.1)
emitter (on_main e) = let d = emitter e in (_, in_main d.1)
emitter (on_side i e) = let d = emitter e in (_, in_side d.1)
emitter (is_bound e) = let d = emitter e in (_, in_side d.1)
emitter (on_entered i e) = let d = emitter e in (_, in_entered d.1)
emitter (passes e) = let d = emitter e in (_, in_entered d.1)

-- the cell that is bound
abbrev cell_of : ℕ → Act → ℕ
cell_of d (binds c v) = c
cell_of d _ = d

within_binds : (d c : ℕ) (v : Value) (b : Act) → within d b ≡ binds c v → b ≡ binds c v
within_binds d c v (calls k m args cs) e = cc e
within_binds d c v (returns k a) e = e
within_binds d c v (binds j w) e = e
within_binds d c v (loses j) e = e
within_binds d c v (publishes w) e = e
within_binds d c v silent e = e
within_binds d c v (opens j) e = e

bound : {s a : ℕ} {v w : Value} {m m' : Marked} {b : Act} (c : ℕ) → Emits s a v m b m' → b ≡ binds c w → (f g : Marked) × Stands (in_opened f c g) m
bound c emits h = cc h
bound c (on_left e) h = let d = bound c e h in (d.0, d.1, (_, in_left d.2.1))
bound c (on_right e) h = let d = bound c e h in (d.0, d.1, (_, in_right d.2.1))
bound c (on_feeding i e) h = let d = bound c e h in (d.0, d.1, (_, in_feeding d.2.1))
bound c (is_fed e) h = cc h
bound c (on_main e) h = let d = bound c e h in (d.0, d.1, (_, in_main d.2.1))
bound {w = w} c (on_side {c = j} {b = b} i e) h = let d = bound c e (within_binds j c w b h) in (d.0, d.1, (_, in_side d.2.1))
bound c (is_bound {f = f} {g = g} {c = j} e) h = subst (λ k. (f' g' : Marked) × Stands (in_opened f' k g') (in_opened f j g)) (ap (cell_of c) h) (f, g, ([], here))
bound c (on_entered i e) h = let d = bound c e h in (d.0, d.1, (_, in_entered d.2.1))
bound c (passes e) h = cc h

module _ (x : Context) (p : Place) where
  in_turn : (e : Entry) (q : Place) → Leads x p e q → IsInTurn p e
  in_turn (Cancel k) q l = (q.to_cancel, l.1.0)
  in_turn (End s) q l = ⊎_elim (λ h. absurd h) (λ h. h) l.0
  in_turn (Fork s a b) q l = ⊎_elim (λ h. absurd h) (λ h. h) l.0
  in_turn (Seq s a) q l = ⊎_elim (λ h. absurd h) (λ h. h) l.0
  in_turn (Other s a) q l = ⊎_elim (λ h. absurd h) (λ h. h) l.0
  in_turn (Def s a) q l = ⊎_elim (λ h. absurd h) (λ h. h) l.0
  in_turn (entry.Void s) q l = ⊎_elim (λ h. absurd h) (λ h. h) l.0
  in_turn (Open s c a b) q l = ⊎_elim (λ h. absurd h) (λ h. h) l.0
  in_turn (Send s a v) q l = ⊎_elim (λ h. absurd h) (λ h. h) l.0
  in_turn (Call s k m args) q l = ⊎_elim (λ h. absurd h) (λ h. h) l.0
  in_turn (Return k a v) q l = ⊎_elim (λ h. absurd h) (λ h. h) l.0
  in_turn (ReturnHalt k) q l = ⊎_elim (λ h. absurd h) (λ h. h) l.0
  in_turn (Bind s c v) q l = ⊎_elim (λ h. absurd h) (λ h. h) l.0
  in_turn (Lost c) q l = ⊎_elim (λ h. absurd h) (λ h. h) l.0
  in_turn (Right s a) q l = ⊎_elim (λ h. absurd h) (λ h. h) l.0
  in_turn (Publish s v) q l = ⊎_elim (λ h. absurd h) (λ h. h) l.0
  in_turn (Tick t) q l = ⊎_elim (λ h. absurd h) (λ h. h) l.0

  is_there : (e : Entry) (q : Place) → Enters x p e q → IsThere p e
  is_there (End s) q h = (_, there h.part)
  is_there (Fork s a b) q (f, g, ea, eb, h) = (_, there h.part)
  is_there (Seq s a) q (f, g, z, ea, h) = (_, there h.part)
  is_there (Other s a) q (f, g, ea, h) = (_, there h.part)
  is_there (Def s a) q (e, ps, d, cs, ea, is, r, h) = (_, there r)
  is_there (entry.Void s) q (t, cs, is, r, h) = (_, there r)
  is_there (Open s c a b) q (f, g, z, cs, ec, ea, eb, r, h) = (_, there r)
  is_there (Send s a v) q (ea, e, h) = (_, emitter e)
  is_there (Call s k m args) q (ps, cs, ek, is, r, h) = (_, there r)
  is_there (Return k a v) q (cs, ea, due, r, h) = there r
  is_there (ReturnHalt k) q (cs, due, r, h) = there r
  is_there (Bind s c v) q (e, h) = ((_, emitter e), bound c e refl)
  is_there (Lost c) q (f, g, cs, halted, r, h) = (f, g, there r)
  is_there (Right s a) q (f, g, cs, ea, halted, r, h) = (f, g, there r)
  is_there (Publish s v) q (e, h) = (_, emitter e)
  is_there (Tick t) q h = tt
  is_there (Cancel k) q h = tt

  fits : (e : Entry) (q : Place) → Enters x p e q → Fits x p e
  fits (End s) q h = there h.part
  fits (Fork s a b) q (f, g, ea, eb, h) = (f, g, there h.part)
  fits (Seq s a) q (f, g, z, ea, h) = (f, g, z, there h.part)
  fits (Other s a) q (f, g, ea, h) = (f, g, there h.part)
  fits (Def s a) q (e, ps, d, cs, ea, is, r, h) = (e, ps, d, is, there r)
  fits (entry.Void s) q (t, cs, is, r, h) = (t, is, there r)
  fits (Open s c a b) q (f, g, z, cs, ec, ea, eb, r, h) = (f, g, z, there r)
  fits (Send s a v) q (ea, e, h) = (q.marked, e)
  fits (Call s k m args) q (ps, cs, ek, is, r, h) = (ps, is, there r)
  fits (Return k a v) q h = tt
  fits (ReturnHalt k) q h = tt
  fits (Bind s c v) q (e, h) = (q.marked, e)
  fits (Lost c) q h = tt
  fits (Right s a) q h = tt
  fits (Publish s v) q (e, h) = (q.marked, e)
  fits (Tick t) q h = tt
  fits (Cancel k) q h = tt

  is_counted : (e : Entry) (q : Place) → Enters x p e q → IsCounted p e
  is_counted (End s) q h = tt
  is_counted (Fork s a b) q (f, g, ea, eb, h) = (ea, eb)
  is_counted (Seq s a) q (f, g, z, ea, h) = ea
  is_counted (Other s a) q (f, g, ea, h) = ea
  is_counted (Def s a) q (e, ps, d, cs, ea, is, r, h) = ea
  is_counted (entry.Void s) q h = tt
  is_counted (Open s c a b) q (f, g, z, cs, ec, ea, eb, r, h) = (ec, ea, eb)
  is_counted (Send s a v) q (ea, e, h) = ea
  is_counted (Call s k m args) q (ps, cs, ek, is, r, h) = ek
  is_counted (Return k a v) q (cs, ea, due, r, h) = ea
  is_counted (ReturnHalt k) q h = tt
  is_counted (Bind s c v) q h = tt
  is_counted (Lost c) q h = tt
  is_counted (Right s a) q (f, g, cs, ea, halted, r, h) = ea
  is_counted (Publish s v) q h = tt
  is_counted (Tick t) q h = tt
  is_counted (Cancel k) q h = tt

  is_answered : (e : Entry) (q : Place) → Enters x p e q → IsAnswered x p e
  is_answered (Return k a v) q (cs, ea, due, r, h) = (due.by, due.delay, due.is_made, due.is_k, due.says)
  is_answered (ReturnHalt k) q (cs, due, r, h) = (due.by, due.delay, due.is_made, due.is_k, due.says)
  is_answered _ q h = tt

  is_on_time : (e : Entry) (q : Place) → Enters x p e q → IsOnTime x p e
  is_on_time (Return k a v) q (cs, ea, due, r, h) = due
  is_on_time (ReturnHalt k) q (cs, due, r, h) = due
  is_on_time (Tick t) q h = h.0
  is_on_time _ q h = tt

  is_over : (e : Entry) (q : Place) → Enters x p e q → IsOver p e
  is_over (Lost c) q (f, g, cs, halted, r, h) = (f, g, there r, halted)
  is_over (Right s a) q (f, g, cs, ea, halted, r, h) = (f, g, there r, halted)
  is_over _ q h = tt

  meets : (e : Entry) (q : Place) → Leads x p e q → (r : RuleFault) → Meets x p e r
  meets e q l reason.Cancel = in_turn e q l
  meets e q l Mark = is_there e q l.1
  meets e q l Form = fits e q l.1
  meets e q l Number = is_counted e q l.1
  meets e q l reason.Answer = is_answered e q l.1
  meets e q l Time = is_on_time e q l.1
  meets e q l reason.Halted = is_over e q l.1
  meets e q l Deep = tt
  meets e q l Memory = tt

  -- where an act leads
  abbrev after : Marked → ℕ → Act → List ℕ → Place
  after m n a to_cancel = record { marked = m; mark = n; now = p.now; calls = calls_after (moment p) a; cells = cells_after (moment p) a; to_cancel = to_cancel }

  leads : (e : Entry) → ((r : RuleFault) → Meets x p e r) → (q : Place) × Leads x p e q
  leads (End s) c = let r = replaced ended (c Form).1 in (_, (inr (c reason.Cancel), record { inside = _; part = r.1; same = refl }))
  leads (Fork s a b) c = let t = c Form in let r = replaced (in_par (token a t.0) (token b t.1)) t.2.1 in (_, (inr (c reason.Cancel), (t.0, t.1, (c Number).0, (c Number).1, record { inside = _; part = r.1; same = refl })))
  leads (Seq s a) c = let t = c Form in let r = replaced (in_seq (token a t.0) t.2 t.1) t.3.1 in (_, (inr (c reason.Cancel), (t.0, t.1, t.2, c Number, record { inside = _; part = r.1; same = refl })))
  leads (Other s a) c = let t = c Form in let r = replaced (in_other s (token a t.0) t.1) t.2.1 in (_, (inr (c reason.Cancel), (t.0, t.1, c Number, record { inside = _; part = r.1; same = refl })))
  leads (Def s a) c = let t = c Form in let r = replaced (token a (put_all t.2.params t.1 t.2.body)) t.4.1 in (after r.0 (suc a) silent [], (inr (c reason.Cancel), (t.0, t.1, t.2, t.4.0, c Number, t.3, r.1, record { to_cancel = refl; same = refl })))
  leads (entry.Void s) c = let t = c Form in let r = replaced ended t.2.1 in (after r.0 p.mark silent [], (inr (c reason.Cancel), (t.0, t.2.0, t.1, r.1, record { to_cancel = refl; same = refl })))
  leads (Open s k a b) c = let t = c Form in let r = replaced (in_opened (token a (put (Cell k) t.2 t.0)) k (token b t.1)) t.3.1 in (after r.0 (suc b) (opens k) [], (inr (c reason.Cancel), (t.0, t.1, t.2, t.3.0, (c Number).0, (c Number).1, (c Number).2, r.1, record { to_cancel = refl; same = refl })))
  leads (Send s a v) c = let t = c Form in (after t.0 (suc a) silent [], (inr (c reason.Cancel), (c Number, t.1, record { to_cancel = refl; same = refl })))
  leads (Call s k m args) c = let t = c Form in let r = replaced (in_call k) t.2.1 in (after r.0 p.mark (calls k m args t.2.0) [], (inr (c reason.Cancel), (t.0, t.2.0, c Number, t.1, r.1, record { to_cancel = refl; same = refl })))
  leads (Return k a v) c = let t = c Mark in let r = replaced (token a (param (Is v))) t.1 in (after r.0 (suc a) (returns k (Gives v)) [], (inr (c reason.Cancel), (t.0, c Number, c Time, r.1, record { to_cancel = refl; same = refl })))
  leads (ReturnHalt k) c = let t = c Mark in let r = replaced ended t.1 in (after r.0 p.mark (returns k Halt) [], (inr (c reason.Cancel), (t.0, c Time, r.1, record { to_cancel = refl; same = refl })))
  leads (Bind s k v) c = let t = c Form in let o = cancels_exist x (binds k v) (erase p.marked) (erase t.0) in (after t.0 p.mark (binds k v) o.0, (inr (c reason.Cancel), (t.1, record { to_cancel = o.1; same = refl })))
  leads (Lost k) c = let t = c reason.Halted in let r = replaced (fill_marked Void k t.0) t.2.1 in (after r.0 p.mark (loses k) [], (inr (c reason.Cancel), (t.0, t.1, t.2.0, t.3, r.1, record { to_cancel = refl; same = refl })))
  leads (Right s a) c = let t = c reason.Halted in let r = replaced (token a t.1) t.2.1 in (after r.0 (suc a) silent [], (inr (c reason.Cancel), (t.0, t.1, t.2.0, c Number, t.3, r.1, record { to_cancel = refl; same = refl })))
  leads (Publish s v) c = let t = c Form in (after t.0 p.mark (publishes v) [], (inr (c reason.Cancel), (t.1, record { to_cancel = refl; same = refl })))
  leads (Tick t) c = (record p { now = t }, (inr (c reason.Cancel), (c Time, refl)))
  leads (Cancel k) c = let t = c reason.Cancel in (record p { to_cancel = t.0 }, (inl tt, (t.1, refl)))

pub meets_and_leads : MeetsAndLeads
meets_and_leads x p e = (leads x p e, meets x p e)
