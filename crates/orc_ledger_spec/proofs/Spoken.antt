-- What the ledger says of what comes next is right by the rules.
use Rattle.std.proofs.Common.{◌≡◌, ℕ, List, [], refl, sym, subst}
use Rattle.orc_rules.specs.Nodes.{Listing, code, source, definitions}
use Rattle.orc_rules.specs.Sites.{Site}
use Rattle.orc_rules.specs.Journal.{begin}
use Rattle.orc_ledger_spec.specs.Records.{Records, context}
use Rattle.orc_ledger_spec.specs.Kept.{Kept}
use Rattle.orc_ledger_spec.specs.Next.{numbers_of, next_of}
use Rattle.orc_ledger_spec.specs.Spoken.{spoken, Holds, IsRight}
use Rattle.orc_ledger_spec.specs.declared.results.Next.{Next as Answer}
use Rattle.orc_ledger_spec.specs.declared.results.Next.TheVariants.{Work, Ticks, Quiet}
use Rattle.orc_ledger_spec.proofs.Keeping.{journal_one}
use Rattle.orc_ledger_spec.proofs.Nexts.{next_ticks, next_quiet}
use Rattle.orc_ledger_spec.proofs.Working.{work-allowed}

module _ (l : Listing) (sites : List Site) (counts : List (List ℕ × ℕ)) (sizes : List ℕ) (s : Records) (K : Kept l sites counts sizes s) where
  holds : (r : Answer) → spoken r ≡ next_of (code l) (definitions l) (numbers_of s) s → Holds l sites s r K.lawful.place
  holds Work h = work-allowed l sites s K.lawful K.told (numbers_of s) K.grouped (sym h)
  holds (Ticks t) h = next_ticks l sites s K.lawful K.told (numbers_of s) K.grouped t (sym h)
  holds Quiet h = next_quiet l sites s K.lawful K.told (numbers_of s) K.grouped (sym h)

  pub is-right : (r : Answer) → spoken r ≡ next_of (code l) (definitions l) (numbers_of s) s → IsRight l sites s r
  is-right r h p journal =
      let same : K.lawful.place ≡ p = journal_one (context l sites) (source l) [] (begin (source l)) K.lawful.place p s.journal refl K.lawful.leads journal in
      subst (Holds l sites s r) same (holds r h)
