-- The line of an entry is read as that entry, and what is read is an entry's line.
use Rattle.std.proofs.Common.{◌≡◌, ℕ, ◌^◌, ◌<◌, ◌≤◌, List, [], ◌∷◌, ◌++◌, length, Option, Some, None, refl, sym, ap, subst, ◌∙◌, append_assoc, inl, inr}
use Rattle.std.specs.Prelude.{option_map, codes, decimal}
use Rattle.orc_rules.specs.declared.value.Value.{Value}
use Rattle.orc_rules.specs.declared.entry.Entry.{Entry}
use Rattle.orc_rules.specs.declared.entry.Entry.TheVariants.{End, Fork, Seq, Other, Def, Void, Open, Send, Call, Return, ReturnHalt, Bind, Lost, Right, Publish, Tick, Cancel}
use Rattle.orc_rules.specs.Kinds.{kind_of, word_of}
use Rattle.orc_rules.specs.declared.kind.Kind.{Kind}
use Rattle.orc_rules.specs.declared.kind.Kind.TheVariants as kinds
use Rattle.orc_rules.specs.declared.limits.TheConstants.{MOST_ARGUMENTS}
use Rattle.orc_journal_text.specs.Reading.{◌>>=◌, or_else, made, after, pair_field, sent_field, outcome_field, call_field, kind_from, all_kinds, fields_at, entry_at, returned}
use Rattle.orc_rules.specs.Text.{number, value, call, word, fields, line, IsValue, AreValues, Fits}
use Rattle.orc_rules.proofs.Numerals.{Stops}
use Rattle.orc_journal_text.proofs.Digits.{decimal_begins}
use Rattle.orc_journal_text.proofs.Codes.{IsCode, bind_some, same_some, both-code, made_takes, made_again, number_code, value_code, after_takes, or_else_some, not_digit}

pub pair_code : IsCode (λ (p : ℕ × ℕ). number p.0 ++ number p.1) (λ p. (p.0 < 2 ^ 64) × (p.1 < 2 ^ 64)) pair_field
unfolding pair_field
pair_code = both-code number_code number_code

pub sent_code : IsCode (λ (p : ℕ × Value). number p.0 ++ value p.1) (λ p. (p.0 < 2 ^ 64) × IsValue p.1) sent_field
unfolding sent_field
sent_code = both-code number_code value_code

abbrev pub outcome_text : Option (ℕ × Value) → List ℕ
outcome_text None = codes " halt"
outcome_text (Some p) = number p.0 ++ value p.1

abbrev pub OutcomeFits : Option (ℕ × Value) → Type 0
OutcomeFits None = Unit {0}
OutcomeFits (Some p) = (p.0 < 2 ^ 64) × IsValue p.1

halted : (bytes : List ℕ) (o : Option (List ℕ)) (x : Option (ℕ × Value)) (rest : List ℕ) → after (codes " halt") bytes ≡ o → option_map {U = Option (ℕ × Value) × List ℕ} (λ r. (None, r)) o ≡ Some (x, rest) → (bytes ≡ outcome_text x ++ rest) × OutcomeFits x
halted bytes None x rest q p = absurd cc
halted bytes (Some r) x rest q p =
    let same = same_some (None, r) (x, rest) p in
    subst (λ (y : Option (ℕ × Value) × List ℕ). (bytes ≡ outcome_text y.0 ++ y.1) × OutcomeFits y.0) same (after_takes (codes " halt") bytes r q, tt)

no_halt : (n : ℕ) (more rest : List ℕ) → n < 2 ^ 64 → after (codes " halt") ((number n ++ more) ++ rest) ≡ None
no_halt n more rest small =
    let b = decimal_begins n small in
    let is : (decimal n ++ more) ++ rest ≡ b.first ∷ ((b.others ++ more) ++ rest) = ap (λ (t : List ℕ). (t ++ more) ++ rest) b.is in
    ap (after (codes "halt")) is ∙ not_digit b.first 104 (codes "alt") ((b.others ++ more) ++ rest) b.digit refl

pub outcome_code : IsCode outcome_text OutcomeFits outcome_field
unfolding outcome_field
outcome_code = record {
  takes = λ bytes x rest e. elim (or_else_some _ _ (x, rest) e) [
    | inl h ↦ halted bytes (after (codes " halt") bytes) x rest refl h
    | inr h ↦ let m = made_takes (λ (p : ℕ × Value). Some p) sent_code bytes x rest h in subst (λ (y : Option (ℕ × Value)). (bytes ≡ outcome_text y ++ rest) × OutcomeFits y) (sym m.1) (m.2, m.3)
  ];
  again = again_of;
  stops = stops_of;
} where
  stops_of : (x : Option (ℕ × Value)) (rest : List ℕ) → Stops (outcome_text x ++ rest)
  stops_of None rest = refl
  stops_of (Some p) rest = refl

  again_of : (x : Option (ℕ × Value)) (rest : List ℕ) → OutcomeFits x → Stops rest → or_else (option_map (λ r. (None, r)) (after (codes " halt") (outcome_text x ++ rest))) (made Some sent_field (outcome_text x ++ rest)) ≡ Some (x, rest)
  again_of None rest f st = refl
  again_of (Some p) rest f st = rw (no_halt p.0 (value p.1) rest f.0) (made_again (λ (p : ℕ × Value). Some p) sent_code p rest f st)

-- the kind that an entry's line is read as by its first word
abbrev pub read_as : Kind → Kind
read_as kinds.ReturnHalt = kinds.Return
read_as k = k

-- the word of each kind is read so
pub kind_again : (k : Kind) (rest : List ℕ) → kind_from all_kinds (word_of k ++ rest) ≡ Some (read_as k, rest)
kind_again kinds.ReturnHalt rest = refl
kind_again _ rest = refl

pub kind_takes : (ks : List Kind) (bytes : List ℕ) (k : Kind) (rest : List ℕ) → kind_from ks bytes ≡ Some (k, rest) → bytes ≡ word_of k ++ rest
kind_takes [] bytes k rest e = absurd cc
kind_takes (j ∷ js) bytes k rest e = go (after (word_of j) bytes) refl (kind_takes js bytes k rest) e where
  go : (o : Option (List ℕ)) → after (word_of j) bytes ≡ o → (kind_from js bytes ≡ Some (k, rest) → bytes ≡ word_of k ++ rest) → or_else (option_map {U = Kind × List ℕ} (λ (r : List ℕ). (j, r)) o) (kind_from js bytes) ≡ Some (k, rest) → bytes ≡ word_of k ++ rest
  go None q ih p = ih p
  go (Some r) q ih p =
      let same = same_some (j, r) (k, rest) p in
      after_takes (word_of j) bytes r q ∙ ap (λ (x : Kind × List ℕ). word_of x.0 ++ x.1) same

-- what is known of an entry that was read
pub record Entered (names : List (List ℕ)) (k : Kind) (bytes : List ℕ) (rest : List ℕ) (e : Entry) : Type 0 where
  pub begins : word e ≡ word_of k
  pub text : bytes ≡ fields names e ++ rest
  pub fits : Fits names e

-- what the codes of the fields that have two forms are to be
pub record AreCodes (names : List (List ℕ)) : Type 0 where
  pub call : IsCode (λ (p : ℕ × List Value). call names p.0 p.1) (λ p. (p.0 < length names) × (length p.1 ≤ MOST_ARGUMENTS) × AreValues p.1) (call_field names)

pub fields_take : (names : List (List ℕ)) (known : AreCodes names) (k : Kind) (bytes : List ℕ) (e : Entry) (rest : List ℕ) → fields_at names k bytes ≡ Some (e, rest) → Entered names k bytes rest e
unfolding fields_at
fields_take names known kinds.End bytes e rest h = let m = made_takes (λ x. End x) number_code bytes e rest h in subst (Entered names kinds.End bytes rest) (sym m.1) (record { begins = refl; text = m.2; fits = m.3 })
fields_take names known kinds.Fork bytes e rest h = let m = made_takes (λ (x : ℕ × (ℕ × ℕ)). Fork x.0 x.1.0 x.1.1) (both-code number_code pair_code) bytes e rest h in subst (Entered names kinds.Fork bytes rest) (sym m.1) (record { begins = refl; text = m.2; fits = m.3 })
fields_take names known kinds.Seq bytes e rest h = let m = made_takes (λ (x : ℕ × ℕ). Seq x.0 x.1) pair_code bytes e rest h in subst (Entered names kinds.Seq bytes rest) (sym m.1) (record { begins = refl; text = m.2; fits = m.3 })
fields_take names known kinds.Other bytes e rest h = let m = made_takes (λ (x : ℕ × ℕ). Other x.0 x.1) pair_code bytes e rest h in subst (Entered names kinds.Other bytes rest) (sym m.1) (record { begins = refl; text = m.2; fits = m.3 })
fields_take names known kinds.Def bytes e rest h = let m = made_takes (λ (x : ℕ × ℕ). Def x.0 x.1) pair_code bytes e rest h in subst (Entered names kinds.Def bytes rest) (sym m.1) (record { begins = refl; text = m.2; fits = m.3 })
fields_take names known kinds.Void bytes e rest h = let m = made_takes (λ x. Void x) number_code bytes e rest h in subst (Entered names kinds.Void bytes rest) (sym m.1) (record { begins = refl; text = m.2; fits = m.3 })
fields_take names known kinds.Open bytes e rest h = let m = made_takes (λ (x : ℕ × (ℕ × (ℕ × ℕ))). Open x.0 x.1.0 x.1.1.0 x.1.1.1) (both-code number_code (both-code number_code pair_code)) bytes e rest h in subst (Entered names kinds.Open bytes rest) (sym m.1) (record { begins = refl; text = m.2; fits = m.3 })
fields_take names known kinds.Send bytes e rest h = let m = made_takes (λ (x : ℕ × (ℕ × Value)). Send x.0 x.1.0 x.1.1) (both-code number_code sent_code) bytes e rest h in subst (Entered names kinds.Send bytes rest) (sym m.1) (record { begins = refl; text = m.2; fits = m.3 })
fields_take names known kinds.Call bytes e rest h = let m = made_takes (λ (x : ℕ × (ℕ × (ℕ × List Value))). Call x.0 x.1.0 x.1.1.0 x.1.1.1) (both-code number_code (both-code number_code known.call)) bytes e rest h in subst (Entered names kinds.Call bytes rest) (sym m.1) (record { begins = refl; text = m.2; fits = m.3 })
fields_take names known kinds.Return bytes e rest h = let m = made_takes (λ (x : ℕ × Option (ℕ × Value)). returned x.0 x.1) (both-code number_code outcome_code) bytes e rest h in subst (Entered names kinds.Return bytes rest) (sym m.1) (came m.0.0 m.0.1 m.2 m.3) where
  came : (n : ℕ) (o : Option (ℕ × Value)) → bytes ≡ (number n ++ outcome_text o) ++ rest → (n < 2 ^ 64) × OutcomeFits o → Entered names kinds.Return bytes rest (returned n o)
  came n None t f = record { begins = refl; text = t; fits = f.0 }
  came n (Some p) t f = record { begins = refl; text = t; fits = f }
fields_take names known kinds.ReturnHalt bytes e rest h = let m = made_takes (λ (x : ℕ × Option (ℕ × Value)). returned x.0 x.1) (both-code number_code outcome_code) bytes e rest h in subst (Entered names kinds.ReturnHalt bytes rest) (sym m.1) (came m.0.0 m.0.1 m.2 m.3) where
  came : (n : ℕ) (o : Option (ℕ × Value)) → bytes ≡ (number n ++ outcome_text o) ++ rest → (n < 2 ^ 64) × OutcomeFits o → Entered names kinds.ReturnHalt bytes rest (returned n o)
  came n None t f = record { begins = refl; text = t; fits = f.0 }
  came n (Some p) t f = record { begins = refl; text = t; fits = f }
fields_take names known kinds.Bind bytes e rest h = let m = made_takes (λ (x : ℕ × (ℕ × Value)). Bind x.0 x.1.0 x.1.1) (both-code number_code sent_code) bytes e rest h in subst (Entered names kinds.Bind bytes rest) (sym m.1) (record { begins = refl; text = m.2; fits = m.3 })
fields_take names known kinds.Lost bytes e rest h = let m = made_takes (λ x. Lost x) number_code bytes e rest h in subst (Entered names kinds.Lost bytes rest) (sym m.1) (record { begins = refl; text = m.2; fits = m.3 })
fields_take names known kinds.Right bytes e rest h = let m = made_takes (λ (x : ℕ × ℕ). Right x.0 x.1) pair_code bytes e rest h in subst (Entered names kinds.Right bytes rest) (sym m.1) (record { begins = refl; text = m.2; fits = m.3 })
fields_take names known kinds.Publish bytes e rest h = let m = made_takes (λ (x : ℕ × Value). Publish x.0 x.1) sent_code bytes e rest h in subst (Entered names kinds.Publish bytes rest) (sym m.1) (record { begins = refl; text = m.2; fits = m.3 })
fields_take names known kinds.Tick bytes e rest h = let m = made_takes (λ x. Tick x) number_code bytes e rest h in subst (Entered names kinds.Tick bytes rest) (sym m.1) (record { begins = refl; text = m.2; fits = m.3 })
fields_take names known kinds.Cancel bytes e rest h = let m = made_takes (λ x. Cancel x) number_code bytes e rest h in subst (Entered names kinds.Cancel bytes rest) (sym m.1) (record { begins = refl; text = m.2; fits = m.3 })

pub fields_again : (names : List (List ℕ)) (known : AreCodes names) (e : Entry) (rest : List ℕ) → Fits names e → Stops rest → fields_at names (read_as (kind_of e)) (fields names e ++ rest) ≡ Some (e, rest)
unfolding fields_at
fields_again names known (End s) rest f st = made_again (λ x. End x) number_code s rest f st
fields_again names known (Fork s a b) rest f st = made_again (λ (x : ℕ × (ℕ × ℕ)). Fork x.0 x.1.0 x.1.1) (both-code number_code pair_code) (s, (a, b)) rest f st
fields_again names known (Seq s a) rest f st = made_again (λ (x : ℕ × ℕ). Seq x.0 x.1) pair_code (s, a) rest f st
fields_again names known (Other s a) rest f st = made_again (λ (x : ℕ × ℕ). Other x.0 x.1) pair_code (s, a) rest f st
fields_again names known (Def s a) rest f st = made_again (λ (x : ℕ × ℕ). Def x.0 x.1) pair_code (s, a) rest f st
fields_again names known (Void s) rest f st = made_again (λ x. Void x) number_code s rest f st
fields_again names known (Open s c a b) rest f st = made_again (λ (x : ℕ × (ℕ × (ℕ × ℕ))). Open x.0 x.1.0 x.1.1.0 x.1.1.1) (both-code number_code (both-code number_code pair_code)) (s, (c, (a, b))) rest f st
fields_again names known (Send s a v) rest f st = made_again (λ (x : ℕ × (ℕ × Value)). Send x.0 x.1.0 x.1.1) (both-code number_code sent_code) (s, (a, v)) rest f st
fields_again names known (Call s k m args) rest f st = made_again (λ (x : ℕ × (ℕ × (ℕ × List Value))). Call x.0 x.1.0 x.1.1.0 x.1.1.1) (both-code number_code (both-code number_code known.call)) (s, (k, (m, args))) rest f st
fields_again names known (Return k a v) rest f st = made_again (λ (x : ℕ × Option (ℕ × Value)). returned x.0 x.1) (both-code number_code outcome_code) (k, Some (a, v)) rest f st
fields_again names known (ReturnHalt k) rest f st = made_again (λ (x : ℕ × Option (ℕ × Value)). returned x.0 x.1) (both-code number_code outcome_code) (k, None) rest (f, tt) st
fields_again names known (Bind s c v) rest f st = made_again (λ (x : ℕ × (ℕ × Value)). Bind x.0 x.1.0 x.1.1) (both-code number_code sent_code) (s, (c, v)) rest f st
fields_again names known (Lost c) rest f st = made_again (λ x. Lost x) number_code c rest f st
fields_again names known (Right s a) rest f st = made_again (λ (x : ℕ × ℕ). Right x.0 x.1) pair_code (s, a) rest f st
fields_again names known (Publish s v) rest f st = made_again (λ (x : ℕ × Value). Publish x.0 x.1) sent_code (s, v) rest f st
fields_again names known (Tick t) rest f st = made_again (λ x. Tick x) number_code t rest f st
fields_again names known (Cancel k) rest f st = made_again (λ x. Cancel x) number_code k rest f st

-- what is read is the line of an entry that has one
pub entry_takes : (names : List (List ℕ)) (known : AreCodes names) (bytes : List ℕ) (e : Entry) (rest : List ℕ) → entry_at names bytes ≡ Some (e, rest) → (bytes ≡ line names e ++ rest) × Fits names e
unfolding entry_at
entry_takes names known bytes e rest h =
    let a = bind_some (kind_from all_kinds bytes) (λ k. fields_at names k.0 k.1 >>= λ e. after (codes "\n") e.1 >>= λ r. Some (e.0, r)) (e, rest) h in
    let b = bind_some (fields_at names a.0.0 a.0.1) (λ e. after (codes "\n") e.1 >>= λ r. Some (e.0, r)) (e, rest) a.2 in
    let c = bind_some (after (codes "\n") b.0.1) (λ r. Some (b.0.0, r)) (e, rest) b.2 in
    let t0 = kind_takes all_kinds bytes a.0.0 a.0.1 a.1 in
    let t1 = fields_take names known a.0.0 a.0.1 b.0.0 b.0.1 b.1 in
    let t2 = after_takes (codes "\n") b.0.1 c.0 c.1 in
    let text : bytes ≡ line names b.0.0 ++ c.0 = joined (word b.0.0) (word_of a.0.0) (fields names b.0.0) bytes a.0.1 b.0.1 c.0 (sym t1.begins) t0 t1.text t2 in
    subst (λ (y : Entry × List ℕ). (bytes ≡ line names y.0 ++ y.1) × Fits names y.0) (same_some (b.0.0, c.0) (e, rest) c.2) (text, t1.fits) where
      joined : (w v f bytes x y z : List ℕ) → v ≡ w → bytes ≡ v ++ x → x ≡ f ++ y → y ≡ 10 ∷ z → bytes ≡ (w ++ (f ++ (10 ∷ []))) ++ z
      joined w v f bytes x y z same p q r = p ∙ ap (λ (t : List ℕ). t ++ x) same ∙ ap (λ (t : List ℕ). w ++ t) (q ∙ ap (λ (t : List ℕ). f ++ t) r ∙ sym (append_assoc f (10 ∷ []) z)) ∙ sym (append_assoc w (f ++ (10 ∷ [])) z)

-- the line of an entry is read as that entry, whatever follows it
pub entry_again : (names : List (List ℕ)) (known : AreCodes names) (e : Entry) (rest : List ℕ) → Fits names e → entry_at names (line names e ++ rest) ≡ Some (e, rest)
unfolding entry_at
entry_again names known e rest fits =
    let regrouped : line names e ++ rest ≡ word e ++ (fields names e ++ (10 ∷ rest)) = append_assoc (word e) (fields names e ++ (10 ∷ [])) rest ∙ ap (λ (t : List ℕ). word e ++ t) (append_assoc (fields names e) (10 ∷ []) rest) in
    ap (entry_at names) regrouped ∙ rw (kind_again (kind_of e) (fields names e ++ (10 ∷ rest)), fields_again names known e (10 ∷ rest) fits refl) refl
