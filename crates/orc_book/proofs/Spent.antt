-- What a step uses of the passes that were lent, and what it leaves.
use Rattle.std.proofs.Common.{◌≡◌, inl, inr, List, [], ◌∷◌, ◌++◌, refl, sym, ◌∙◌, append-nil, subst, true, Result, Ok, Err, OnOk}
use Rattle.std.specs.Prelude.{MatchResult, map}
use Rattle.orc_rules.specs.Nodes.{Listing, code, definitions}
use Rattle.orc_frames.specs.declared.action.Action.{Action}
use Rattle.orc_frames.specs.declared.action.Action.TheVariants as does
use Rattle.orc_ledger_spec.specs.Doing.{what_of}
use Rattle.orc_tables.specs.declared.records.Token.{Token}
use Rattle.orc_word.specs.declared.view.View.{View}
use Rattle.orc_book.specs.Held.{Held, IsUnkept}
use Rattle.orc_book.specs.Refusals.{is_end, is_fork, is_onward, is_other, is_prune, is_send}
use Rattle.orc_book.specs.Stepping.{HasSpent, HaveCome, IsSpent, Lent, SpendsIdle}
use Rattle.orc_book.specs.declared.token.Token.{Token as Out}

-- what holds where it is done, and where it isn't
pub ok-on : {A E : Type 0} (r : Result A E) (P Q : Type 0) → (P → Q) → OnOk r P → OnOk r Q
ok-on (Ok x) P Q f h = f h
ok-on (Err e) P Q f h = tt

pub ok-of : {A E : Type 0} (r : Result A E) (P Q R : Type 0) → (P → R) → MatchResult r (λ _. P) (λ _. Q) → OnOk r R
ok-of (Ok x) P Q R f h = f h
ok-of (Err e) P Q R f h = tt

pub ok-all : {A E : Type 0} (r : Result A E) (P Q P' Q' S R : Type 0) → (P → P' → S → R) → MatchResult r (λ _. P) (λ _. Q) → MatchResult r (λ _. P') (λ _. Q') → OnOk r S → OnOk r R
ok-all (Ok x) P Q P' Q' S R f h i j = f h i j
ok-all (Err e) P Q P' Q' S R f h i j = tt

pub ok-with : {A E : Type 0} (r : Result A E) (P Q S R : Type 0) → (P → S → R) → MatchResult r (λ _. P) (λ _. Q) → OnOk r S → OnOk r R
ok-with (Ok x) P Q S R f h i = f h i
ok-with (Err e) P Q S R f h i = tt

end_spends : (a : Action) → is_end a ≡ true → (own : View) → IsSpent a own [] [] (own ∷ []) []
end_spends does.Halt e own = (refl, refl, refl, refl)
end_spends does.Fork e own = cc e
end_spends does.Seq e own = cc e
end_spends does.Prune e own = cc e
end_spends does.Other e own = cc e
end_spends does.Def e own = cc e
end_spends does.Void e own = (refl, refl, refl, refl)
end_spends (does.Publish v) e own = cc e
end_spends (does.Send v) e own = cc e
end_spends (does.Bind c v) e own = cc e
end_spends does.Call e own = cc e
end_spends (does.Wait c) e own = cc e

on_spends : (a : Action) → is_onward a ≡ true → (own : View) → IsSpent a own [] [] [] (own ∷ [])
on_spends does.Halt e own = cc e
on_spends does.Fork e own = cc e
on_spends does.Seq e own = (refl, refl, refl, refl)
on_spends does.Prune e own = cc e
on_spends does.Other e own = cc e
on_spends does.Def e own = (refl, refl, refl, refl)
on_spends does.Void e own = cc e
on_spends (does.Publish v) e own = cc e
on_spends (does.Send v) e own = cc e
on_spends (does.Bind c v) e own = cc e
on_spends does.Call e own = cc e
on_spends (does.Wait c) e own = cc e

fork_spends : (a : Action) → is_fork a ≡ true → (own one : View) → IsSpent a own (one ∷ []) [] [] (own ∷ one ∷ [])
fork_spends does.Halt e own one = cc e
fork_spends does.Fork e own one = (refl, refl, refl, refl)
fork_spends does.Seq e own one = cc e
fork_spends does.Prune e own one = cc e
fork_spends does.Other e own one = cc e
fork_spends does.Def e own one = cc e
fork_spends does.Void e own one = cc e
fork_spends (does.Publish v) e own one = cc e
fork_spends (does.Send v) e own one = cc e
fork_spends (does.Bind c v) e own one = cc e
fork_spends does.Call e own one = cc e
fork_spends (does.Wait c) e own one = cc e

prune_spends : (a : Action) → is_prune a ≡ true → (own one w v : View) → IsSpent a own (one ∷ []) (w ∷ []) [] (own ∷ v ∷ [])
prune_spends does.Halt e own one w u = cc e
prune_spends does.Fork e own one w u = cc e
prune_spends does.Seq e own one w u = cc e
prune_spends does.Prune e own one w u = (refl, refl, refl, (u, refl))
prune_spends does.Other e own one w u = cc e
prune_spends does.Def e own one w u = cc e
prune_spends does.Void e own one w u = cc e
prune_spends (does.Publish v) e own one w u = cc e
prune_spends (does.Send v) e own one w u = cc e
prune_spends (does.Bind c v) e own one w u = cc e
prune_spends does.Call e own one w u = cc e
prune_spends (does.Wait c) e own one w u = cc e

other_spends : (a : Action) → is_other a ≡ true → (own w v : View) → IsSpent a own [] (w ∷ []) [] (v ∷ [])
other_spends does.Halt e own w u = cc e
other_spends does.Fork e own w u = cc e
other_spends does.Seq e own w u = cc e
other_spends does.Prune e own w u = cc e
other_spends does.Other e own w u = (refl, refl, refl, refl)
other_spends does.Def e own w u = cc e
other_spends does.Void e own w u = cc e
other_spends (does.Publish v) e own w u = cc e
other_spends (does.Send v) e own w u = cc e
other_spends (does.Bind c v) e own w u = cc e
other_spends does.Call e own w u = cc e
other_spends (does.Wait c) e own w u = cc e

within_spends : (a : Action) → is_send a ≡ true → (own : View) → IsSpent a own [] [] [] (own ∷ [])
within_spends does.Halt e own = cc e
within_spends does.Fork e own = cc e
within_spends does.Seq e own = cc e
within_spends does.Prune e own = cc e
within_spends does.Other e own = cc e
within_spends does.Def e own = cc e
within_spends does.Void e own = cc e
within_spends (does.Publish v) e own = cc e
within_spends (does.Send v) e own = (refl, inl (refl, refl, refl))
within_spends (does.Bind c v) e own = cc e
within_spends does.Call e own = cc e
within_spends (does.Wait c) e own = cc e

across_spends : (a : Action) → is_send a ≡ true → (own w v : View) → IsSpent a own [] (w ∷ []) (own ∷ []) (v ∷ [])
across_spends does.Halt e own w u = cc e
across_spends does.Fork e own w u = cc e
across_spends does.Seq e own w u = cc e
across_spends does.Prune e own w u = cc e
across_spends does.Other e own w u = cc e
across_spends does.Def e own w u = cc e
across_spends does.Void e own w u = cc e
across_spends (does.Publish v) e own w u = cc e
across_spends (does.Send v) e own w u = (refl, inr (refl, refl, refl))
across_spends (does.Bind c v) e own w u = cc e
across_spends does.Call e own w u = cc e
across_spends (does.Wait c) e own w u = cc e

same_end : (before after : List View) → after ≡ before → before ≡ after ++ []
same_end before after e = sym e ∙ sym (append-nil after)

none_end : (before after : List View) → after ≡ before → after ≡ before ++ []
none_end before after e = e ∙ sym (append-nil before)

as_come : {X : Type 0} (l : Listing) (b : Held) (t : Token) (own : View) (same idle left : List View) (more : List (Out X)) (passes : List View) → map (λ (j : Out X). j.pass) more ≡ passes → IsSpent (what_of (code l) (definitions l) b.ledger t) own same idle left passes → IsSpent (what_of (code l) (definitions l) b.ledger t) own same idle left (map (λ (j : Out X). j.pass) more)
as_come l b t own same idle left more passes e h = subst (λ z. IsSpent (what_of (code l) (definitions l) b.ledger t) own same idle left z) (sym e) h

module _ {X : Type 0} (l : Listing) (b : Held) (k : Out X) (before after : Lent) (tokens tokens' : List (Out X)) (t : Token) (unkept : IsUnkept b k.slot k.serial k.pass t) where
  abbrev next : Action
  next = what_of (code l) (definitions l) b.ledger t

  abbrev Spends : Type 0
  Spends = HasSpent l b k before after tokens tokens'

  pub end-spent : is_end next ≡ true → after.same ≡ before.same → after.idle ≡ before.idle → after.leave ≡ before.leave ++ k.pass ∷ [] → tokens' ≡ tokens → Spends
  end-spent e s i left none = record { token = t; unkept = unkept; same = []; idle = []; left = k.pass ∷ []; more = []; from_same = same_end before.same after.same s; from_idle = same_end before.idle after.idle i; added = left; come = none ∙ sym (append-nil tokens); spent = end_spends next e k.pass }

  pub on-spent : is_onward next ≡ true → after.same ≡ before.same → after.idle ≡ before.idle → after.leave ≡ before.leave → HaveCome tokens tokens' (k.pass ∷ []) → Spends
  on-spent e s i left h = record { token = t; unkept = unkept; same = []; idle = []; left = []; more = h.0; from_same = same_end before.same after.same s; from_idle = same_end before.idle after.idle i; added = none_end before.leave after.leave left; come = h.1; spent = as_come l b t k.pass [] [] [] h.0 _ h.2 (on_spends next e k.pass) }

  pub fork-spent : is_fork next ≡ true → (v : View) × (before.same ≡ after.same ++ v ∷ []) × HaveCome tokens tokens' (k.pass ∷ v ∷ []) → after.idle ≡ before.idle → after.leave ≡ before.leave → Spends
  fork-spent e s i left = let h = s.2 in record { token = t; unkept = unkept; same = s.0 ∷ []; idle = []; left = []; more = h.0; from_same = s.1; from_idle = same_end before.idle after.idle i; added = none_end before.leave after.leave left; come = h.1; spent = as_come l b t k.pass (s.0 ∷ []) [] [] h.0 _ h.2 (fork_spends next e k.pass s.0) }

  pub prune-spent : is_prune next ≡ true → (v : View) × (before.same ≡ after.same ++ v ∷ []) → (w : View) × (before.idle ≡ after.idle ++ w ∷ []) → after.leave ≡ before.leave → (v : View) × HaveCome tokens tokens' (k.pass ∷ v ∷ []) → Spends
  prune-spent e s i left c = let h = c.1 in record { token = t; unkept = unkept; same = s.0 ∷ []; idle = i.0 ∷ []; left = []; more = h.0; from_same = s.1; from_idle = i.1; added = none_end before.leave after.leave left; come = h.1; spent = as_come l b t k.pass (s.0 ∷ []) (i.0 ∷ []) [] h.0 _ h.2 (prune_spends next e k.pass s.0 i.0 c.0) }

  pub other-spent : is_other next ≡ true → after.same ≡ before.same → (w : View) × (before.idle ≡ after.idle ++ w ∷ []) → after.leave ≡ before.leave → (v : View) × HaveCome tokens tokens' (v ∷ []) → Spends
  other-spent e s i left c = let h = c.1 in record { token = t; unkept = unkept; same = []; idle = i.0 ∷ []; left = []; more = h.0; from_same = same_end before.same after.same s; from_idle = i.1; added = none_end before.leave after.leave left; come = h.1; spent = as_come l b t k.pass [] (i.0 ∷ []) [] h.0 _ h.2 (other_spends next e k.pass i.0 c.0) }

  pub send-spent : is_send next ≡ true → after.same ≡ before.same → SpendsIdle k.pass before.idle after.idle before.leave after.leave tokens tokens' → Spends
  send-spent e s (inl x) = let h = x.2 in record { token = t; unkept = unkept; same = []; idle = []; left = []; more = h.0; from_same = same_end before.same after.same s; from_idle = same_end before.idle after.idle x.0; added = none_end before.leave after.leave x.1; come = h.1; spent = as_come l b t k.pass [] [] [] h.0 _ h.2 (within_spends next e k.pass) }
  send-spent e s (inr x) = let c = x.3 in let h = c.1 in record { token = t; unkept = unkept; same = []; idle = x.0 ∷ []; left = k.pass ∷ []; more = h.0; from_same = same_end before.same after.same s; from_idle = x.1; added = x.2; come = h.1; spent = as_come l b t k.pass [] (x.0 ∷ []) (k.pass ∷ []) h.0 _ h.2 (across_spends next e k.pass x.0 c.0) }
