-- What words stand for after a change.
use Rattle.std.proofs.Common.{◌≡◌, ◌⊎◌, ◌≤◌, ◌<◌, ◌+◌, inl, inr, ℕ, zero, suc, List, [], ◌∷◌, length, Option, arith, Bool, true, false, nat_eq, eq-eqb, sym, ap, ◌∙◌, subst, refl}
use Rattle.std.proofs.lemmas.Bool.{eqb-true}
use Rattle.orc_ledger_spec.specs.Next.{members, numbers_of}
use Rattle.orc_ledger_spec.specs.Records.{Records}
use Rattle.orc_tables.specs.Steps.{group_at}
use Rattle.orc_tables.specs.Tokens.{IsHeld}
use Rattle.orc_tables.specs.declared.records.Token.{Token}
use Rattle.orc_word.specs.declared.view.View.{View}
use Rattle.orc_book.specs.declared.token.Token.{Token as Out}
use Rattle.orc_book.specs.declared.word_table.Kind.TheVariants.{Open, Dying}
use Rattle.orc_book.specs.Held.{Held, Hold, Stood, IsMissing, IsOut, IsThere, word_at}
use Rattle.orc_book.specs.Words.{AreThere, HaveDied, IsOpened, OpensWord, Turns, kind_at, killed, stood_at}
use Rattle.orc_book.proofs.Loose.{either, there-or}
use Rattle.orc_book.proofs.Ones.{one-slot}

pub none-died : (s : Records) (ws : List Stood) → HaveDied s ws ws
none-died s ws = λ w. inl refl

-- the word of a group that is there no more dies
pub one-died : (s : Records) (ws ws' : List Stood) (v number : ℕ) → kind_at ws v ≡ Open number → IsMissing s number → (o : Option View) → Turns ws v (killed o) ws' → HaveDied s ws ws'
one-died s ws ws' v number stood gone o T = λ w. by w (nat_eq w v) refl
  where
    by : (w : ℕ) (b : Bool) → nat_eq w v ≡ b → (stood_at ws' w ≡ stood_at ws w) ⊎ ((n : ℕ) × (kind_at ws w ≡ Open n) × IsMissing s n × (kind_at ws' w ≡ Dying))
    by w true e = let same = eqb-true w v e in inr (number, ap (kind_at ws) same ∙ stood, gone, ap (kind_at ws') same ∙ ap Stood.kind T.turned)
    by w false e = inl (T.others w (λ same. cc (eq-eqb w v same, e)))

-- and then others
pub died-on : (s : Records) (ws ws' ws'' : List Stood) → HaveDied s ws ws' → HaveDied s ws' ws'' → HaveDied s ws ws''
died-on s ws ws' ws'' D E = λ w. by w (D w) (E w)
  where
    by : (w : ℕ) → (stood_at ws' w ≡ stood_at ws w) ⊎ ((n : ℕ) × (kind_at ws w ≡ Open n) × IsMissing s n × (kind_at ws' w ≡ Dying)) → (stood_at ws'' w ≡ stood_at ws' w) ⊎ ((n : ℕ) × (kind_at ws' w ≡ Open n) × IsMissing s n × (kind_at ws'' w ≡ Dying)) → (stood_at ws'' w ≡ stood_at ws w) ⊎ ((n : ℕ) × (kind_at ws w ≡ Open n) × IsMissing s n × (kind_at ws'' w ≡ Dying))
    by w (inl d) (inl e) = inl (e ∙ d)
    by w (inl d) (inr e) = inr (e.0, ap Stood.kind (sym d) ∙ e.1, e.2, e.3)
    by w (inr d) (inl e) = inr (d.0, d.1, d.2, ap Stood.kind e ∙ d.3)
    by w (inr d) (inr e) = cc (d.3, e.1)

-- the words of the groups up to this one stand for none of those that are missing, and then that of the next one doesn't
pub gone-on : (s : Records) (ws ws' : List Stood) (ps : List Hold) (k : ℕ) → HaveDied s ws ws' → ((i : ℕ) → i < k → IsMissing s i → kind_at ws (word_at ps i) ≡ Open i → ⊥) → (IsMissing s k → kind_at ws' (word_at ps k) ≡ Open k → ⊥) → (i : ℕ) → i < k + 1 → IsMissing s i → kind_at ws' (word_at ps i) ≡ Open i → ⊥
gone-on s ws ws' ps k D before here i lt m e = by (nat_eq i k) refl (D (word_at ps i))
  where
    less : (i k : ℕ) → i < k + 1 → (i ≡ k → ⊥) → i < k
    less i k lt off = omega (arith, lt, off)

    by : (b : Bool) → nat_eq i k ≡ b → (stood_at ws' (word_at ps i) ≡ stood_at ws (word_at ps i)) ⊎ ((n : ℕ) × (kind_at ws (word_at ps i) ≡ Open n) × IsMissing s n × (kind_at ws' (word_at ps i) ≡ Dying)) → ⊥
    by true same d = let at = eqb-true i k same in here (subst (IsMissing s) at m) (ap (λ z. kind_at ws' (word_at ps z)) (sym at) ∙ e ∙ ap Open at)
    by false off (inl d) = before i (less i k lt (λ same. cc (eq-eqb i k same, off))) m (ap Stood.kind (sym d) ∙ e)
    by false off (inr d) = cc (d.3, e)

-- a group with members is there
pub gone-over : (s : Records) (ws : List Stood) (ps : List Hold) (k k2 : ℕ) → ((i : ℕ) → IsMissing s i → members (numbers_of s) s i ≡ 0) → ((i : ℕ) → i < k → IsMissing s i → kind_at ws (word_at ps i) ≡ Open i → ⊥) → ((i : ℕ) → k ≤ i → i < k2 → 1 ≤ members (numbers_of s) s i) → (i : ℕ) → i < k2 → IsMissing s i → kind_at ws (word_at ps i) ≡ Open i → ⊥
gone-over s ws ps k k2 missing before some i lt m e = by (either i k)
  where
    by : (i < k) ⊎ (k ≤ i) → ⊥
    by (inl less) = before i less m e
    by (inr le) = absurd (omega (arith, some i le lt, missing i m))

no-post : (ps : List Hold) (i : ℕ) → length ps ≤ i → word_at ps i ≡ 0
no-post [] i le = refl
no-post (p ∷ ps) zero le = absurd (omega (arith, le))
no-post (p ∷ ps) (suc i) le = no-post ps i (omega (arith, le))

-- so where each word that stands for an open group is that group's, none stands for one that is missing
pub buried-there : (s : Records) (ws ws' : List Stood) (ps : List Hold) → kind_at ws 0 ≡ Open 0 → ((w i : ℕ) → kind_at ws w ≡ Open i → word_at ps i ≡ w) → HaveDied s ws ws' → ((i : ℕ) → i < length ps → IsMissing s i → kind_at ws' (word_at ps i) ≡ Open i → ⊥) → AreThere s ws'
buried-there s ws ws' ps root named D gone w i e = by (D w) (there-or s i)
  where
    one_open : (a b : ℕ) → Open a ≡ Open b → a ≡ b
    one_open a b h = cc h

    by_size : kind_at ws w ≡ Open i → IsMissing s i → (i < length ps) ⊎ (length ps ≤ i) → IsThere s i
    by_size before m (inl lt) = absurd (gone i lt m (ap (kind_at ws') (named w i before) ∙ e))
    by_size before m (inr le) =
        let at : w ≡ 0 = sym (named w i before) ∙ no-post ps i le in
        inl (one_open i 0 (sym before ∙ ap (kind_at ws) at ∙ root))

    by : (stood_at ws' w ≡ stood_at ws w) ⊎ ((n : ℕ) × (kind_at ws w ≡ Open n) × IsMissing s n × (kind_at ws' w ≡ Dying)) → IsThere s i ⊎ IsMissing s i → IsThere s i
    by d (inl h) = h
    by (inl d) (inr m) = by_size (ap Stood.kind (sym d) ∙ e) m (either i (length ps))
    by (inr d) (inr m) = cc (d.3, e)

-- a token that is out is the one in its slot; its group's word has been opened
pub opens-word : {X : Type 0} (b b' : Held) (k : Out X) (inner : Token) (slot number word next : ℕ) → IsOut b' k → k.slot ≡ slot → IsHeld b'.ledger.slots slot inner → number ≡ group_at b'.ledger.steps inner.step → word_at b'.posts number ≡ word → word ≡ next → IsOpened b.stands next number b'.stands → b'.marks ≡ b.marks → OpensWord b k b'
opens-word b b' k inner slot number word next out in_slot held at named is O marks =
    let t : Token = out.0 in
    let same : t ≡ inner = one-slot t inner (sym ((out.1).0).0 ∙ (subst (λ z. IsHeld b'.ledger.slots z inner) (sym in_slot) held).0) in
    let group : number ≡ group_at b'.ledger.steps t.step = at ∙ ap (λ (z : Token). group_at b'.ledger.steps z.step) (sym same) in
    let word_is : word_at b'.posts (group_at b'.ledger.steps t.step) ≡ next = ap (word_at b'.posts) (sym group) ∙ named ∙ is in
    let here : IsOpened b.stands next (group_at b'.ledger.steps t.step) b'.stands = subst (λ z. IsOpened b.stands next z b'.stands) group O in
    (t, out.1, subst (λ z. IsOpened b.stands z (group_at b'.ledger.steps t.step) b'.stands) (sym word_is) here, marks)
