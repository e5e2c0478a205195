-- Tokens that stay in their slots, as one slot is written over and others come.
use Rattle.std.proofs.Common.{◌≡◌, ℕ, List, ap, ◌∙◌, arith}
use Rattle.std.specs.Prelude.{slice_get, slice_set}
use Rattle.orc_rules.specs.Nodes.{Listing, code}
use Rattle.orc_rules.specs.Sites.{Site}
use Rattle.orc_rules.specs.Timed.{IsIn}
use Rattle.orc_indexes.proofs.Lists.{set-elsewhere}
use Rattle.orc_tables.specs.Inside.{stands_inside}
use Rattle.orc_tables.specs.declared.records.Token.{Token}
use Rattle.orc_ledger_spec.specs.Calls.{token_goes}
use Rattle.orc_ledger_spec.specs.Records.{Records, Lawful, its_env}
use Rattle.orc_ledger_spec.proofs.Dropped.{among-inside}
use Rattle.orc_ledger_spec.proofs.Made.{step_in}
use Rattle.orc_ledger.specs.Others.{KeepsAll, KeepsOthers}

pub same-all : (ts ts' : List Token) → ts' ≡ ts → KeepsAll ts ts'
same-all ts ts' is i t h = (ap (λ z. slice_get z i) is ∙ h.0, h.1)

pub then-all : (ts ts' ts'' : List Token) → KeepsAll ts ts' → KeepsAll ts' ts'' → KeepsAll ts ts''
then-all ts ts' ts'' f g i t h = g i t (f i t h)

pub set-others : (ts ts' : List Token) (slot : ℕ) (u : Token) → ts' ≡ slice_set ts slot u → KeepsOthers ts slot ts'
set-others ts ts' slot u is i t off h = (ap (λ z. slice_get z i) is ∙ set-elsewhere ts slot i u off ∙ h.0, h.1)

-- all stay first, then those of other slots; or the other way round
pub from-all : (ts ts' ts'' : List Token) (slot : ℕ) → KeepsAll ts ts' → KeepsOthers ts' slot ts'' → KeepsOthers ts slot ts''
from-all ts ts' ts'' slot f g i t off h = g i t off (f i t h)

pub on-all : (ts ts' ts'' : List Token) (slot : ℕ) → KeepsOthers ts slot ts' → KeepsAll ts' ts'' → KeepsOthers ts slot ts''
on-all ts ts' ts'' slot f g i t off h = g i t (f i t off h)

pub on-others : (ts ts' ts'' : List Token) (slot : ℕ) → KeepsOthers ts slot ts' → KeepsOthers ts' slot ts'' → KeepsOthers ts slot ts''
on-others ts ts' ts'' slot f g i t off h = g i t off (f i t off h)

-- a token stands inside the right side of a cell by its steps where it does by its path
pub inside-goes : (l : Listing) (sites : List Site) (s : Records) → Lawful l sites s → (c : ℕ) (t : Token) → IsIn t s.tokens → stands_inside c s.steps t.step ≡ token_goes (code l) c s t
inside-goes l sites s L c t i = among-inside (code l) (its_env (code l) s) c s.steps L.sound.outwards t.step t.step (omega arith) (step_in l sites s L t i)
