-- What a token stands at: the term of the node that the run's graph has there.
use Rattle.std.proofs.Common.{◌≡◌, ℕ, subst}
use Rattle.orc_rules.specs.Nodes.{Listing, code, unfold_node}
use Rattle.orc_rules.specs.declared.program.TermNode.{TermNode}
use Rattle.orc_tables.specs.declared.records.Standing.TheVariants.{At}
use Rattle.orc_tables.specs.declared.records.Token.{Token}
use Rattle.orc_ledger_spec.specs.Moves.{StandsAt}

pub at-node : (l z : Listing) → z ≡ l → (t : Token) (node scope : ℕ) → t.standing ≡ At node scope → (n : TermNode) → code z node ≡ unfold_node (code z) z.lists n → StandsAt l t scope (unfold_node (code l) l.lists n)
at-node l z is t node scope at n term = (node, at, subst (λ (x : Listing). code x node ≡ unfold_node (code x) x.lists n) is term)
