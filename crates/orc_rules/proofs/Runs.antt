-- Each timed run is made by entries.
use Rattle.std.proofs.Common.{◌≡◌, List, [], ◌∷◌, ◌++◌, refl, sym, ap, ◌∙◌, subst, inl, inr}
use Rattle.std.proofs.lemmas.List.{append_assoc}
use Rattle.std.specs.Option.{option_to_list}
use Rattle.orc_rules.specs.declared.entry.Entry.{Entry}
use Rattle.orc_rules.specs.declared.entry.Entry.TheVariants.{End, Fork, Seq, Other, Def, Open, Send, Call, Return, ReturnHalt, Bind, Lost, Right, Publish, Tick, Cancel}
use Rattle.orc_rules.specs.declared.entry.Entry.TheVariants as entry
use Rattle.orc_rules.specs.Step.{Act, calls, returns, binds, loses, publishes, silent, opens}
use Rattle.orc_rules.specs.Timed.{Context, Moment, Event, does, ticks, cancels, Happens}
use Rattle.orc_rules.specs.Journal.{Place, moment, Journal, begin, event_of, AreEventsOf}
use Rattle.orc_rules.specs.Lost.{AreSource, HoldsSource, TakesNext, AreMoves}
use Rattle.orc_rules.specs.Runs.{IsCountedOn, CountedRun, RunIsJournal}
use Rattle.orc_rules.proofs.Lost.{nothing_lost}
use Rattle.orc_rules.proofs.Sources.{journal_source}

journal_append : (x : Context) (p mid q : Place) (es fs : List Entry) → Journal x p es mid → Journal x mid fs q → Journal x p (es ++ fs) q
journal_append x p mid q [] fs h k = subst (λ w. Journal x w fs q) (sym h) k
journal_append x p mid q (e ∷ es) fs (w, l, h) k = (w, l, journal_append x w mid q es fs h k)

events_append : (es fs : List Entry) (a b : List Event) → AreEventsOf es a → AreEventsOf fs b → AreEventsOf (es ++ fs) (a ++ b)
events_append [] fs a b h k = subst (λ w. AreEventsOf fs (w ++ b)) (sym h) k
events_append (e ∷ es) fs a b (cs, rest, h, more) k =
    (cs, rest ++ b, ap (λ w. w ++ b) h ∙ append_assoc (option_to_list (event_of e cs)) rest b, events_append es fs rest b more k)

moves_events : (es : List Entry) → AreMoves es → AreEventsOf es []
moves_events [] m = refl
moves_events (End s ∷ es) m = ([], [], refl, moves_events es m.1)
moves_events (Fork s a b ∷ es) m = ([], [], refl, moves_events es m.1)
moves_events (Seq s a ∷ es) m = ([], [], refl, moves_events es m.1)
moves_events (Other s a ∷ es) m = ([], [], refl, moves_events es m.1)
moves_events (Def s a ∷ es) m = absurd m.0
moves_events (entry.Void s ∷ es) m = absurd m.0
moves_events (Open s c a b ∷ es) m = absurd m.0
moves_events (Send s a v ∷ es) m = absurd m.0
moves_events (Call s k n args ∷ es) m = absurd m.0
moves_events (Return k a v ∷ es) m = absurd m.0
moves_events (ReturnHalt k ∷ es) m = absurd m.0
moves_events (Bind s c v ∷ es) m = absurd m.0
moves_events (Lost c ∷ es) m = absurd m.0
moves_events (Right s a ∷ es) m = absurd m.0
moves_events (Publish s v ∷ es) m = absurd m.0
moves_events (Tick t ∷ es) m = absurd m.0
moves_events (Cancel k ∷ es) m = absurd m.0

takes_next : (p : Place) (a : Act) → IsCountedOn (moment p) (does a) → TakesNext p a
takes_next p (calls k m args cs) h = h
takes_next p (returns k v) h = tt
takes_next p (binds c v) h = tt
takes_next p (loses c) h = tt
takes_next p (publishes v) h = tt
takes_next p silent h = tt
takes_next p (opens c) h = h

module _ (x : Context) (ds : AreSource x.definitions) where
  -- the entries of one event
  record IsMade (p : Place) (e : Event) (s : Moment) : Type 0 where
    entries : List Entry
    end : Place
    leads : Journal x p entries end
    named : AreEventsOf entries (e ∷ [])
    same : moment end ≡ s

  event_made : (p : Place) (e : Event) (s : Moment) → HoldsSource p.marked → Happens x (moment p) e s → IsCountedOn (moment p) e → IsMade p e s
  event_made p (does a) s src d next =
      let m = nothing_lost x p a s.term s.to_cancel src d.free (takes_next p a next) d.timely d.step d.to_cancel in
      record {
        entries = m.moves ++ m.entry ∷ [];
        end = m.end;
        leads = journal_append x p m.mid m.end m.moves (m.entry ∷ []) m.moved (m.end, m.leads, refl);
        named = events_append m.moves (m.entry ∷ []) [] (does a ∷ []) (moves_events m.moves m.are_moves) (m.inside, [], sym (ap (λ o. option_to_list o ++ []) m.shows), refl);
        same = λ i. record { term = m.term i; now = (m.now ∙ sym d.now) i; calls = (m.calls ∙ sym d.calls) i; cells = (m.cells ∙ sym d.cells) i; to_cancel = m.leaves i };
      }
  event_made p (ticks t) s src (free, tick, same) next =
      record { entries = Tick t ∷ []; end = record p { now = t }; leads = (record p { now = t }, (inr free, (tick, refl)), refl); named = ([], [], refl, refl); same = sym same }
  event_made p (cancels k) s src (due, same) next =
      record { entries = Cancel k ∷ []; end = record p { to_cancel = s.to_cancel }; leads = (record p { to_cancel = s.to_cancel }, (inl tt, (due, refl)), refl); named = ([], [], refl, refl); same = sym same }

  run_made : (p : Place) (events : List Event) (s : Moment) → HoldsSource p.marked → CountedRun x (moment p) events s → (es : List Entry) × (q : Place) × Journal x p es q × AreEventsOf es events × (moment q ≡ s)
  run_made p [] s src h = ([], p, refl, refl, h)
  run_made p (e ∷ events) s src (mid, happens, counted, h) =
      let m = event_made p e mid src happens counted in
      let rest = run_made m.end events s (journal_source x p m.end m.entries ds m.leads src) (subst (λ w. CountedRun x w events s) (sym m.same) h) in
      (m.entries ++ rest.0, rest.1, journal_append x p m.end rest.1 m.entries rest.0 m.leads rest.2, events_append m.entries rest.0 (e ∷ []) events m.named rest.3, rest.4)

pub run_is_journal : RunIsJournal
run_is_journal x t events s ds src h = run_made x ds (begin t) events s src h
