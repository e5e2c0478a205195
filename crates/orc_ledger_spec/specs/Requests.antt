-- Calls of sites that are made, and what they ask.
use Rattle.std.specs.Prelude.{◌≡◌, ◌+◌, ℕ, List, [], ◌∷◌, length, true}
use Rattle.orc_rules.specs.declared.value.Value.{Value}
use Rattle.orc_rules.specs.declared.entry.Entry.TheVariants as entry
use Rattle.orc_rules.specs.Nodes.{Listing, code}
use Rattle.orc_rules.specs.Sites.{Site, find, is_scripted}
use Rattle.orc_rules.specs.Timed.{CallMade, IsIn, nth_of}
use Rattle.orc_rules.specs.Journal.{Place}
use Rattle.orc_ledger_spec.specs.Records.{Records}
use Rattle.orc_ledger_spec.specs.Calls.{Exchanges}
use Rattle.orc_ledger_spec.specs.Answers.{IsAt, Pends}
use Rattle.orc_frames.specs.Doing.{IsCall}
use Rattle.orc_ledger_spec.specs.Doing.{term_of}
use Rattle.orc_tables.specs.declared.records.Token.{Token}
use Rattle.orc_tables.specs.declared.records.Call.{Call}
use Rattle.orc_ledger_spec.specs.declared.results.Request.{Request}

-- c is the call that token t makes next, of site m with these arguments
pub record IsNextCall (l : Listing) (sites : List Site) (s : Records) (t : Token) (m : ℕ) (args : List Value) (c : Call) : Type 0 where
  pub number : c.number ≡ s.made + 1
  pub step : c.step ≡ t.step
  pub made_at : c.made_at ≡ s.now
  -- what the table says, by the calls that the journal has
  pub place : Place
  pub at : IsAt l sites s place
  pub found : c.found ≡ find sites m args (nth_of m args place.calls)
  pub nth : is_scripted sites m ≡ true → c.nth ≡ nth_of m args place.calls
  pub row : c.row ≡ length s.journal

-- token t makes call c, which pends in its place
pub record IsMade (l : Listing) (sites : List Site) (s : Records) (t : Token) (c : Call) (s' : Records) : Type 0 where
  pub site : ℕ
  pub args : List Value
  pub asks : IsCall site args (term_of (code l) s t)
  pub number : c.number ≡ s.made + 1
  pub step : c.step ≡ t.step
  pub made_at : c.made_at ≡ s.now
  -- what the table says, by the calls that the journal has
  pub place : Place
  pub at : IsAt l sites s place
  pub found : c.found ≡ find sites site args (nth_of site args place.calls)
  pub nth : is_scripted sites site ≡ true → c.nth ≡ nth_of site args place.calls
  pub row : c.row ≡ length s.journal
  pub exchanges : Exchanges s s' (t ∷ []) [] [] (c ∷ []) 1 (entry.Call t.serial c.number site args)

-- r is what the pending call k asks: what the journal's call with this number asks
pub record IsAsked (l : Listing) (sites : List Site) (s : Records) (k : ℕ) (r : Request) : Type 0 where
  pub call : Call
  pub pends : Pends s k call
  pub place : Place
  pub at : IsAt l sites s place
  pub by : CallMade
  pub is_made : IsIn by place.calls
  pub number : by.number ≡ k
  pub site : r.site ≡ by.site
  pub args : r.args ≡ by.args
  pub made_at : r.made_at ≡ by.at
  pub nth : is_scripted sites by.site ≡ true → r.nth ≡ by.nth
