-- Entries that are taken, one more after another.
use Rattle.std.proofs.Common.{◌≡◌, List, [], ◌∷◌, ◌++◌, subst}
use Rattle.std.proofs.lemmas.List.Elements.{All-append, All-cons, All-nil, All-same}
use Rattle.orc_rules.specs.declared.entry.Entry.{Entry}
use Rattle.orc_rules.specs.Nodes.{Listing}
use Rattle.orc_rules.specs.Sites.{Table}
use Rattle.orc_checker.specs.Checker.{State}
use Rattle.orc_verdict.specs.Reasons.{MeetsAll}
use Rattle.orc_verdict.specs.Allowed.{AreTaken}

-- one more, tested in a state that is still the first one
pub one_more : (l : Listing) (t : Table) (s s' : State) (es es' : List Entry) (e : Entry) → s' ≡ s → es' ≡ es ++ e ∷ [] → AreTaken l t s es → MeetsAll l t e s' → AreTaken l t s es'
one_more l t s s' es es' e same added taken meets =
    let p : Entry → Type 0 = λ x. MeetsAll l t x s in
    All-same p es' (es ++ e ∷ []) added (All-append p es (e ∷ []) taken (All-cons p e [] (subst (λ z. MeetsAll l t e z) same meets) (All-nil p)))
