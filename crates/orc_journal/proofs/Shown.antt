-- What a journal's rows publish, row by row.
use Rattle.std.proofs.Common.{◌≡◌, ◌<◌, ◌+◌, ℕ, List, [], ◌∷◌, ◌++◌, length, map, take, get_or, refl, ap, sym, ◌∙◌}
use Rattle.std.proofs.lemmas.List.{map_more}
use Rattle.orc_rules.specs.declared.value.Value.{Value}
use Rattle.orc_rules.specs.declared.entry.Entry.{Entry}
use Rattle.orc_rules.specs.declared.entry.Entry.TheVariants.{End, Fork, Seq, Other, Def, Void, Open, Send, Call, Return, ReturnHalt, Bind, Lost, Right, Publish, Tick, Cancel}
use Rattle.orc_rules.specs.Trace.{published}

pub published-more : (es fs : List Entry) → published (es ++ fs) ≡ published es ++ published fs
published-more [] fs = refl
published-more (Publish s v ∷ es) fs = ap (λ vs. v ∷ vs) (published-more es fs)
published-more (End s ∷ es) fs = published-more es fs
published-more (Fork s a b ∷ es) fs = published-more es fs
published-more (Seq s a ∷ es) fs = published-more es fs
published-more (Other s a ∷ es) fs = published-more es fs
published-more (Def s a ∷ es) fs = published-more es fs
published-more (Void s ∷ es) fs = published-more es fs
published-more (Open s c a b ∷ es) fs = published-more es fs
published-more (Send s a v ∷ es) fs = published-more es fs
published-more (Call s k m args ∷ es) fs = published-more es fs
published-more (Return k a v ∷ es) fs = published-more es fs
published-more (ReturnHalt k ∷ es) fs = published-more es fs
published-more (Bind s c v ∷ es) fs = published-more es fs
published-more (Lost c ∷ es) fs = published-more es fs
published-more (Right s a ∷ es) fs = published-more es fs
published-more (Tick t ∷ es) fs = published-more es fs
published-more (Cancel k ∷ es) fs = published-more es fs

-- one row more
pub shown-more : {R : Type 0} (entry : R → Entry) (rows : List R) (i : ℕ) (d : R) (values : List Value) → i < length rows → values ≡ published (map entry (take i rows))
    → values ++ published (entry (get_or rows i d) ∷ []) ≡ published (map entry (take (i + 1) rows))
shown-more entry rows i d values within so_far =
    ap (λ vs. vs ++ published (entry (get_or rows i d) ∷ [])) so_far ∙ sym (published-more (map entry (take i rows)) (entry (get_or rows i d) ∷ [])) ∙ ap published (sym (map_more entry rows i d within))
