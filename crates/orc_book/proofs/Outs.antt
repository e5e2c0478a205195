-- One token of a group more is out, or one fewer.
use Rattle.std.proofs.Common.{◌≡◌, ℕ, ◌+◌, List, refl, ap, ◌∙◌, subst}
use Rattle.orc_book.specs.Held.{Hold, Becomes, Changes, out_at, out_of}
use Rattle.orc_book.specs.Stepping.{LosesOne, AddsOne}

module _ (ps ps' : List Hold) (n m out : ℕ) (same : n ≡ m) (d : (p : Hold) × Becomes ps n p (record p { out = out }) ps') where
  pub loses-one : out + 1 ≡ out_at ps n → Changes ps m ps' LosesOne
  loses-one fewer = subst (λ z. Changes ps z ps' LosesOne) same (d.0, record d.0 { out = out }, d.1, refl, (refl, refl, fewer ∙ ap out_of (d.1).0))

  pub adds-one : out ≡ out_at ps n + 1 → Changes ps m ps' AddsOne
  adds-one more = subst (λ z. Changes ps z ps' AddsOne) same (d.0, record d.0 { out = out }, d.1, refl, (refl, refl, more ∙ ap (λ z. out_of z + 1) (d.1).0))
