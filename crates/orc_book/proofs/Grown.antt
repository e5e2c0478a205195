-- Posts of groups with higher numbers.
use Rattle.std.proofs.Common.{◌≤◌, ℕ, List, refl, ◌∙◌, arith, length}
use Rattle.orc_rules.specs.declared.limits.TheConstants.{MOST_GROUPS}
use Rattle.orc_ledger_spec.specs.Records.{Records}
use Rattle.orc_book.specs.Held.{Hold, Stood, AreHeld, HasStayed, HaveGrown}

module _ (s : Records) (ps ps' : List Hold) (G : HaveGrown ps ps') where
  pub grown-held : length ps' ≤ MOST_GROUPS → AreHeld ps s → AreHeld ps' s
  grown-held few H = record { tokens = λ i. omega (arith, H.tokens i, G.kept i, G.out i); passes = λ i. omega (arith, H.passes i, G.held i, G.out i); few = few }

  pub stayed-grown : (before : List Hold) (ws : List Stood) (ms : List ℕ) → HasStayed (record { ledger = s; posts = before; stands = ws; marks = ms }) (record { ledger = s; posts = ps; stands = ws; marks = ms }) → HasStayed (record { ledger = s; posts = before; stands = ws; marks = ms }) (record { ledger = s; posts = ps'; stands = ws; marks = ms })
  stayed-grown before ws ms S = record { ledger = refl; words = λ i. G.words i ∙ S.words i; held = λ i. G.held i ∙ S.held i; kept = λ i. G.kept i ∙ S.kept i; out = λ i. G.out i ∙ S.out i; stands = refl; marks = refl }
