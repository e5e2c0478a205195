-- A fault that is answered is the first of its text, and a text with a fault spells nothing.
use Rattle.std.specs.Prelude.{if◌then◌else◌, nat_lt, IfOk}
use Rattle.std.specs.Str.{IsUtf8, IsValidUpTo}
use Rattle.std.proofs.Common.{◌≡◌, ℕ, suc, ◌+◌, ◌≤◌, ◌<◌, List, [], ◌∷◌, ◌++◌, length, Result, Ok, Err, refl, sym, ap, subst, ◌∙◌, append_assoc, inl, inr, arith}
use Rattle.std.proofs.lemmas.Bool.Decides.{leb_tells}
use Rattle.std.proofs.lemmas.List.{append-nil}
use Rattle.std.proofs.Math.Seq.{take-length}
use Rattle.orc_lex.specs.declared.token.Unread.{Unread}
use Rattle.orc_lex.specs.declared.token.Unread.TheVariants as unread
use Rattle.orc_lex.specs.declared.token.What.{What}
use Rattle.orc_lex.specs.Tokens.{Lexeme}
use Rattle.orc_lex.specs.Lexing.{Bad, Cut}
use Rattle.orc_lex.proofs.Unique.{piece_unique, cut_unique}
use Rattle.orc_syntax.specs.declared.fault.SyntaxFault.{SyntaxFault}
use Rattle.orc_syntax.specs.declared.fault.SyntaxFault.TheVariants as faults
use Rattle.orc_syntax.specs.declared.tree.Ast.{Ast}
use Rattle.orc_syntax.specs.Tree.{Source}
use Rattle.orc_syntax.specs.Ast.{IsAst}
use Rattle.orc_syntax.specs.Grammar.{Program, program_tokens, source, Spells, Begins, made_tokens, behind_all}
use Rattle.orc_syntax.specs.Machine.{State, Posted, Refusal, run, finish, start}
use Rattle.orc_rules.specs.declared.limits.TheConstants.{LONGEST_SOURCE}
use Rattle.orc_syntax.specs.Text.{SpellsTokens, SpellsText, BeginsText, StopsAt, StopsAtEnd, IsDeepAt, IsUnread, IsFault, IsLimit, IsShallow, IsShallowBefore, IfFault, Answers, place, number, IsNoLater, first_of}
use Rattle.orc_syntax.proofs.Cuts.{bad_last, cut_in, before_cut, before_token}
use Rattle.orc_syntax.proofs.Programs.{posted, reads}
use Rattle.orc_syntax.proofs.Posts.{source_is}
use Rattle.orc_syntax.proofs.Laws.{later, first_later, behind_tokens}
use Rattle.orc_syntax.proofs.Progress.{Refuses}

-- a front of what begins a program begins one
begins_front : (ts rest us : List Lexeme) → us ≡ ts ++ rest → Begins us → Begins ts
begins_front ts rest us e h = (rest ++ h.0, h.1, subst (λ (vs : List Lexeme). Spells vs h.1) (ap (λ (vs : List Lexeme). vs ++ h.0) e ∙ append_assoc ts rest h.0) h.2)

begins_whole : (ts : List Lexeme) (s : Source) → Spells ts s → Begins ts
begins_whole ts s h = ([], s, subst (λ (us : List Lexeme). Spells us s) (sym (append-nil ts)) h)

-- a fault of the tokens
abbrev pub IsToken : SyntaxFault → Type 0
IsToken faults.Memory = ⊥
IsToken faults.Long = ⊥
IsToken (faults.Encoding at) = ⊥
IsToken f = Unit {0}

-- A fault is no later than where the text still begins a program.
no_earlier : (src : List ℕ) (at : ℕ) → BeginsText src at → IsShallowBefore src at → (g : SyntaxFault) → IsFault src g → IsToken g → place g < at → ⊥
no_earlier src at b sh faults.Memory h k lt = h
no_earlier src at b sh faults.Long h k lt = k
no_earlier src at b sh (faults.Encoding p) h k lt = k
no_earlier src at b sh (faults.Character p) h k lt = bad_last src h.0.0 b.0 p at unread.Character h.0.1 h.1 b.1 lt
no_earlier src at b sh (faults.Number s) h k lt = bad_last src h.0.0 b.0 s.start at (unread.Number s.end) h.0.1 h.1 b.1 lt
no_earlier src at b sh (faults.Comment p) h k lt = bad_last src h.0.0 b.0 p at unread.Comment h.0.1 h.1 b.1 lt
no_earlier src at b sh (faults.Deep p) h k lt = sh p h lt
no_earlier src at b sh (faults.Expected p what) (inl h) k lt =
    let r = before_token src b.0 at h.front h.next h.end b.1 h.cut (omega (arith, h.is, lt)) in
    h.stuck (begins_front (h.front ++ h.next ∷ []) r.0 b.0 r.1 b.2)
no_earlier src at b sh (faults.Expected p what) (inr h) k lt = omega (arith, cut_in src b.0 at b.1, h.is, lt)

-- a token stands here
record HasToken (src : List ℕ) (at : ℕ) : Type 0 where
  front : List Lexeme
  next : Lexeme
  end : ℕ
  cut : Cut src (front ++ next ∷ []) end
  is : at ≡ next.span.start
  begins : Begins (front ++ next ∷ [])

-- where a token stands, one can be read
token_read : (src : List ℕ) (at : ℕ) (front : List Lexeme) (next : Lexeme) (end : ℕ) (why : Unread) → Cut src (front ++ next ∷ []) end → at ≡ next.span.start → IsUnread src at why → ⊥
token_read src at front next end why cut is h = bad_last src h.0.0 (front ++ next ∷ []) at end why h.0.1 h.1 cut (omega (arith, is, before_cut src [] end front next cut))

-- a place too deep is a token of a program
deep_begins : (src : List ℕ) (at : ℕ) (h : IsDeepAt src at) → Begins ((made_tokens h.before ++ h.front) ++ h.next ∷ [])
deep_begins src at h =
    let p : Program = behind_all h.before h.program in
    let regroup : made_tokens h.before ++ ((h.front ++ h.next ∷ h.rest) ++ later h.program) ≡ ((made_tokens h.before ++ h.front) ++ h.next ∷ []) ++ (h.rest ++ later h.program) = simp append_assoc in
    let e : program_tokens p ≡ ((made_tokens h.before ++ h.front) ++ h.next ∷ []) ++ (h.rest ++ later h.program) =
    behind_tokens h.before h.program ∙ ap (λ (us : List Lexeme). made_tokens h.before ++ us) (first_later h.program ∙ ap (λ (us : List Lexeme). us ++ later h.program) h.part) ∙ regroup in
    (h.rest ++ later h.program, source p, (p, h.grammar, e, refl))

deep_token : (src : List ℕ) (at : ℕ) → IsDeepAt src at → HasToken src at
deep_token src at h = record {
  front = made_tokens h.before ++ h.front;
  next = h.next;
  end = h.end;
  cut = subst (λ (us : List Lexeme). Cut src us h.end) (sym (append_assoc (made_tokens h.before) h.front (h.next ∷ []))) h.cut;
  is = h.is;
  begins = deep_begins src at h;
}

length_append : (xs ys : List Lexeme) → length (xs ++ ys) ≡ length xs + length ys
length_append [] ys = omega arith
length_append (x ∷ xs) ys = omega (arith, length_append xs ys)

none_left : (vs : List Lexeme) → length vs ≡ 0 → vs ≡ []
none_left [] e = refl
none_left (v ∷ vs) e = absurd (omega (arith, e))

both_fronts : (xs ys vs ws : List Lexeme) → xs ≡ ys ++ vs → ys ≡ xs ++ ws → xs ≡ ys
both_fronts xs ys vs ws e h =
    let m : length xs ≡ length ys + length vs = ap (λ (us : List Lexeme). length us) e ∙ length_append ys vs in
    let n : length ys ≡ length xs + length ws = ap (λ (us : List Lexeme). length us) h ∙ length_append xs ws in
    e ∙ ap (λ (us : List Lexeme). ys ++ us) (none_left vs (omega (arith, m, n))) ∙ append-nil ys

-- two tokens at one place are one
same_token : (src : List ℕ) (xs ys : List Lexeme) (a b : Lexeme) (ea eb : ℕ) → Cut src (xs ++ a ∷ []) ea → Cut src (ys ++ b ∷ []) eb → a.span.start ≡ b.span.start → (xs ++ a ∷ []) ≡ (ys ++ b ∷ [])
same_token src xs ys a b ea eb h k e =
    let r = before_token src (ys ++ b ∷ []) eb xs a ea k h (omega (arith, e, before_cut src [] eb ys b k)) in
    let q = before_token src (xs ++ a ∷ []) ea ys b eb h k (omega (arith, e, before_cut src [] ea xs a h)) in
    both_fronts (xs ++ a ∷ []) (ys ++ b ∷ []) q.0 r.0 q.1 r.1

unread_one : (src : List ℕ) (at : ℕ) (v w : Unread) → IsUnread src at v → IsUnread src at w → Bad v ≡ Bad w
unread_one src at v w h k = piece_unique src at (Bad v) (Bad w) h.1 k.1

bad_is : {v w : Unread} → Bad v ≡ Bad w → v ≡ w
bad_is e = cc

number_character : {end : ℕ} → unread.Number end ≡ unread.Character → ⊥
number_character e = absurd cc

comment_character : unread.Comment ≡ unread.Character → ⊥
comment_character e = absurd cc

comment_number : {end : ℕ} → unread.Comment ≡ unread.Number end → ⊥
comment_number e = absurd cc

moved : (src : List ℕ) (p q : ℕ) (why : Unread) → p ≡ q → IsUnread src p why → IsUnread src q why
moved src p q why e h = subst (λ (n : ℕ). IsUnread src n why) e h

token_inside : (src : List ℕ) (at : ℕ) → HasToken src at → at < length src
token_inside src at h = omega (arith, h.is, before_cut src [] h.end h.front h.next h.cut, cut_in src (h.front ++ h.next ∷ []) h.end h.cut)

-- at a token neither S2 nor S3 nor S7 stands
token_unread : (src : List ℕ) (at p : ℕ) (why : Unread) → HasToken src at → p ≡ at → IsUnread src p why → ⊥
token_unread src at p why h e k = token_read src at h.front h.next h.end why h.cut h.is (moved src p at why e k)

stop_unread : (src : List ℕ) (at p : ℕ) (what : What) (why : Unread) → StopsAt src at what → p ≡ at → IsUnread src p why → ⊥
stop_unread src at p what why h e k = token_read src at h.front h.next h.end why h.cut h.is (moved src p at why e k)

end_unread : (src : List ℕ) (at p : ℕ) (what : What) (why : Unread) → StopsAtEnd src at what → p ≡ at → IsUnread src p why → ⊥
end_unread src at p what why h e k = omega (arith, h.is, e, k.1.0)

-- where a program goes on, no tokens stop
token_stops : (src : List ℕ) (at p : ℕ) (what : What) → HasToken src at → p ≡ at → StopsAt src p what → ⊥
token_stops src at p what h e k =
    k.stuck (subst Begins (same_token src h.front k.front h.next k.next h.end k.end h.cut k.cut (sym h.is ∙ sym e ∙ k.is)) h.begins)

token_ends : (src : List ℕ) (at p : ℕ) (what : What) → HasToken src at → p ≡ at → StopsAtEnd src p what → ⊥
token_ends src at p what h e k = omega (arith, k.is, e, token_inside src at h)

-- at one place no fault has a lower number
no_lower : (src : List ℕ) (f : SyntaxFault) → IsFault src f → (g : SyntaxFault) → IsFault src g → IsToken g → place g ≡ place f → number f ≤ number g
no_lower src f h faults.Memory k t e = absurd k
no_lower src f h faults.Long k t e = absurd t
no_lower src f h (faults.Encoding p) k t e = absurd t
no_lower src faults.Memory h (faults.Deep p) k t e = omega arith
no_lower src faults.Long h (faults.Deep p) k t e = omega arith
no_lower src (faults.Encoding at) h (faults.Deep p) k t e = omega arith
no_lower src (faults.Character at) h (faults.Deep p) k t e = omega arith
no_lower src (faults.Number r) h (faults.Deep p) k t e = omega arith
no_lower src (faults.Expected at w) h (faults.Deep p) k t e = omega arith
no_lower src (faults.Deep at) h (faults.Deep p) k t e = omega arith
no_lower src (faults.Comment at) h (faults.Deep p) k t e = absurd (token_unread src p at unread.Comment (deep_token src p k) (sym e) h)
no_lower src faults.Memory h (faults.Character p) k t e = omega arith
no_lower src faults.Memory h (faults.Number s) k t e = omega arith
no_lower src faults.Memory h (faults.Expected p what) k t e = omega arith
no_lower src faults.Memory h (faults.Comment p) k t e = omega arith
no_lower src faults.Long h (faults.Character p) k t e = omega arith
no_lower src faults.Long h (faults.Number s) k t e = omega arith
no_lower src faults.Long h (faults.Expected p what) k t e = omega arith
no_lower src faults.Long h (faults.Comment p) k t e = omega arith
no_lower src (faults.Encoding at) h (faults.Character p) k t e = omega arith
no_lower src (faults.Encoding at) h (faults.Number s) k t e = omega arith
no_lower src (faults.Encoding at) h (faults.Expected p what) k t e = omega arith
no_lower src (faults.Encoding at) h (faults.Comment p) k t e = omega arith
no_lower src (faults.Character at) h (faults.Character p) k t e = omega arith
no_lower src (faults.Character at) h (faults.Number s) k t e = omega arith
no_lower src (faults.Character at) h (faults.Expected p what) k t e = omega arith
no_lower src (faults.Character at) h (faults.Comment p) k t e = omega arith
no_lower src (faults.Number r) h (faults.Character p) k t e = absurd (number_character (bad_is (unread_one src r.start (unread.Number r.end) unread.Character h (moved src p r.start unread.Character e k))))
no_lower src (faults.Number r) h (faults.Number s) k t e = omega arith
no_lower src (faults.Number r) h (faults.Expected p what) k t e = omega arith
no_lower src (faults.Number r) h (faults.Comment p) k t e = omega arith
no_lower src (faults.Expected at w) (inl h) (faults.Character p) k t e = absurd (stop_unread src at p w unread.Character h e k)
no_lower src (faults.Expected at w) (inl h) (faults.Number s) k t e = absurd (stop_unread src at s.start w (unread.Number s.end) h e k)
no_lower src (faults.Expected at w) (inr h) (faults.Character p) k t e = absurd (end_unread src at p w unread.Character h e k)
no_lower src (faults.Expected at w) (inr h) (faults.Number s) k t e = absurd (end_unread src at s.start w (unread.Number s.end) h e k)
no_lower src (faults.Expected at w) h (faults.Expected p what) k t e = omega arith
no_lower src (faults.Expected at w) h (faults.Comment p) k t e = omega arith
no_lower src (faults.Deep at) h (faults.Character p) k t e = absurd (token_unread src at p unread.Character (deep_token src at h) e k)
no_lower src (faults.Deep at) h (faults.Number s) k t e = absurd (token_unread src at s.start (unread.Number s.end) (deep_token src at h) e k)
no_lower src (faults.Deep at) h (faults.Expected p what) (inl k) t e = absurd (token_stops src at p what (deep_token src at h) e k)
no_lower src (faults.Deep at) h (faults.Expected p what) (inr k) t e = absurd (token_ends src at p what (deep_token src at h) e k)
no_lower src (faults.Deep at) h (faults.Comment p) k t e = omega arith
no_lower src (faults.Comment at) h (faults.Character p) k t e = absurd (comment_character (bad_is (unread_one src at unread.Comment unread.Character h (moved src p at unread.Character e k))))
no_lower src (faults.Comment at) h (faults.Number s) k t e = absurd (comment_number (bad_is (unread_one src at unread.Comment (unread.Number s.end) h (moved src s.start at (unread.Number s.end) e k))))
no_lower src (faults.Comment at) h (faults.Expected p what) (inl k) t e = absurd (stop_unread src p at what unread.Comment k (sym e) h)
no_lower src (faults.Comment at) h (faults.Expected p what) (inr k) t e = absurd (end_unread src p at what unread.Comment k (sym e) h)
no_lower src (faults.Comment at) h (faults.Comment p) k t e = omega arith

-- no fault of the tokens stands before the one at which reading stopped
no_later : (src : List ℕ) (f : SyntaxFault) → Refuses src f → (g : SyntaxFault) → IsFault src g → IsToken g → IsNoLater f g
no_later src f h g k t =
    elim (leb_tells (suc (place f)) (place g)) [
      | inl met ↦ inl (omega (arith, met.1))
      | inr unmet ↦ elim (leb_tells (place f) (place g)) [
        | inl met ↦ let same : place f ≡ place g = omega (arith, met.1, unmet.1) in inr (same, no_lower src f h.0 g k t (sym same))
        | inr less ↦ absurd (no_earlier src (place f) h.1 h.2 g k t (omega (arith, less.1)))
      ]
    ]

-- one place where a text stops being UTF-8
sooner : (src : List ℕ) (m n : ℕ) → IsValidUpTo src m → IsValidUpTo src n → m < n → ⊥
sooner src m n h k lt = h.longest n lt k.front

valid_unique : (src : List ℕ) (m n : ℕ) → IsValidUpTo src m → IsValidUpTo src n → m ≡ n
valid_unique src m n h k =
    elim (leb_tells m n) [
      | inl met ↦ elim (leb_tells n m) [ inl back ↦ omega (arith, met.1, back.1) | inr less ↦ absurd (sooner src m n h k (omega (arith, less.1))) ]
      | inr unmet ↦ absurd (sooner src n m k h (omega (arith, unmet.1)))
    ]

pub never_invalid : (src : List ℕ) (n : ℕ) → IsUtf8 src → IsValidUpTo src n → ⊥
never_invalid src n h k = k.longest (length src) k.short (subst IsUtf8 (sym (take-length src)) h)

-- a text with a fault of its tokens spells nothing
unread_refuses : (src : List ℕ) (at : ℕ) (why : Unread) (s : Source) → IsUnread src at why → SpellsTokens src s → ⊥
unread_refuses src at why s h k = bad_last src h.0.0 k.0 at (length src) why h.0.1 h.1 k.1 h.1.0

stop_refuses : (src : List ℕ) (at : ℕ) (what : What) (s : Source) → StopsAt src at what → SpellsTokens src s → ⊥
stop_refuses src at what s h k =
    let r = before_token src k.0 (length src) h.front h.next h.end k.1 h.cut (omega (arith, before_cut src [] h.end h.front h.next h.cut, cut_in src (h.front ++ h.next ∷ []) h.end h.cut)) in
    h.stuck (begins_front (h.front ++ h.next ∷ []) r.0 k.0 r.1 (begins_whole k.0 s k.2))

end_refuses : (src : List ℕ) (at : ℕ) (what : What) (s : Source) → StopsAtEnd src at what → SpellsTokens src s → ⊥
end_refuses src at what s h k = h.stuck s (subst (λ (us : List Lexeme). Spells us s) (cut_unique src k.0 h.front (length src) k.1 h.cut) k.2)

token_limits : (src : List ℕ) (f : SyntaxFault) (s : Source) → IsFault src f → IsToken f → SpellsTokens src s → IsLimit f
token_limits src faults.Memory s h t k = h
token_limits src faults.Long s h t k = tt
token_limits src (faults.Encoding at) s h t k = t
token_limits src (faults.Character at) s h t k = unread_refuses src at unread.Character s h k
token_limits src (faults.Number r) s h t k = unread_refuses src r.start (unread.Number r.end) s h k
token_limits src (faults.Comment at) s h t k = unread_refuses src at unread.Comment s h k
token_limits src (faults.Deep at) s h t k = tt
token_limits src (faults.Expected at what) s (inl h) t k = stop_refuses src at what s h k
token_limits src (faults.Expected at what) s (inr h) t k = end_refuses src at what s h k

deep_refuses : (src : List ℕ) (f : SyntaxFault) → IsFault src f → IsToken f → IsShallow src → IsLimit f → ⊥
deep_refuses src faults.Long h t n l = t
deep_refuses src (faults.Deep at) h t n l = n at h
deep_refuses src _ h t n l = l

token_refuses : (src : List ℕ) (f : SyntaxFault) (s : Source) → IsFault src f → IsToken f → IsShallow src → SpellsTokens src s → ⊥
token_refuses src f s h t n k = deep_refuses src f h t n (token_limits src f s h t k)

-- what UTF-8 spells is at fault only for a limit
pub only_limits : (src : List ℕ) (s : Source) (f : SyntaxFault) → IsUtf8 src → SpellsTokens src s → IsFault src f → IsLimit f
only_limits src s faults.Memory u k h = h
only_limits src s faults.Long u k h = tt
only_limits src s (faults.Encoding at) u k h = h.1 u
only_limits src s (faults.Character at) u k h = token_limits src (faults.Character at) s h tt k
only_limits src s (faults.Number r) u k h = token_limits src (faults.Number r) s h tt k
only_limits src s (faults.Comment at) u k h = token_limits src (faults.Comment at) s h tt k
only_limits src s (faults.Deep at) u k h = tt
only_limits src s (faults.Expected at what) u k h = token_limits src (faults.Expected at what) s h tt k

-- what is least among all
abbrev pub IsLeast : List ℕ → SyntaxFault → Type 0
IsLeast src f = (g : SyntaxFault) → IsFault src g → IsNoLater f g

-- where the bytes are UTF-8
pub utf8_least : (src : List ℕ) (f : SyntaxFault) → length src ≤ LONGEST_SOURCE → IsUtf8 src → Refuses src f → IsLeast src f
utf8_least src f le u h faults.Memory k = absurd k
utf8_least src f le u h faults.Long k = absurd (omega (arith, le, k))
utf8_least src f le u h (faults.Encoding p) k = absurd (k.1 u)
utf8_least src f le u h (faults.Character p) k = no_later src f h (faults.Character p) k tt
utf8_least src f le u h (faults.Number p) k = no_later src f h (faults.Number p) k tt
utf8_least src f le u h (faults.Expected p what) k = no_later src f h (faults.Expected p what) k tt
utf8_least src f le u h (faults.Deep p) k = no_later src f h (faults.Deep p) k tt
utf8_least src f le u h (faults.Comment p) k = no_later src f h (faults.Comment p) k tt

-- where they stop being UTF-8 behind the fault
before_least : (src : List ℕ) (f : SyntaxFault) (at : ℕ) → length src ≤ LONGEST_SOURCE → IsValidUpTo src at → place f < at → Refuses src f → IsLeast src f
before_least src f at le v lt h faults.Memory k = absurd k
before_least src f at le v lt h faults.Long k = absurd (omega (arith, le, k))
before_least src f at le v lt h (faults.Encoding p) k = inl (omega (arith, lt, valid_unique src p at k.0 v))
before_least src f at le v lt h (faults.Character p) k = no_later src f h (faults.Character p) k tt
before_least src f at le v lt h (faults.Number p) k = no_later src f h (faults.Number p) k tt
before_least src f at le v lt h (faults.Expected p what) k = no_later src f h (faults.Expected p what) k tt
before_least src f at le v lt h (faults.Deep p) k = no_later src f h (faults.Deep p) k tt
before_least src f at le v lt h (faults.Comment p) k = no_later src f h (faults.Comment p) k tt

-- no fault of the tokens stands before a place
abbrev NoneBefore : List ℕ → ℕ → Type 0
NoneBefore src at = (g : SyntaxFault) → IsFault src g → IsToken g → at ≤ place g

one_number : (at : ℕ) (g : SyntaxFault) → at ≤ place g → 1 ≤ number g → IsNoLater (faults.Encoding at) g
one_number at g le one =
    elim (leb_tells (suc at) (place g)) [ inl met ↦ inl (omega (arith, met.1)) | inr unmet ↦ inr (omega (arith, le, unmet.1), one) ]

-- where they stop being UTF-8 first
encoding_least : (src : List ℕ) (at : ℕ) → length src ≤ LONGEST_SOURCE → IsValidUpTo src at → NoneBefore src at → IsLeast src (faults.Encoding at)
encoding_least src at le v none faults.Memory k = absurd k
encoding_least src at le v none faults.Long k = absurd (omega (arith, le, k))
encoding_least src at le v none (faults.Encoding p) k = inr (valid_unique src at p v k.0, omega arith)
encoding_least src at le v none (faults.Character p) k = one_number at (faults.Character p) (none (faults.Character p) k tt) (omega arith)
encoding_least src at le v none (faults.Number p) k = one_number at (faults.Number p) (none (faults.Number p) k tt) (omega arith)
encoding_least src at le v none (faults.Expected p what) k = one_number at (faults.Expected p what) (none (faults.Expected p what) k tt) (omega arith)
encoding_least src at le v none (faults.Deep p) k = one_number at (faults.Deep p) (none (faults.Deep p) k tt) (omega arith)
encoding_least src at le v none (faults.Comment p) k = one_number at (faults.Comment p) (none (faults.Comment p) k tt) (omega arith)

-- what is answered of bytes that stop being UTF-8
abbrev pub IsFirstFault : List ℕ → SyntaxFault → Type 0
IsFirstFault src f = IsFault src f × IsLeast src f

both : (src : List ℕ) (f : SyntaxFault) → IsFault src f → IsLeast src f → IfFault (Err f) (IsFirstFault src)
both src faults.Memory h k = tt
both src faults.Long h k = (h, k)
both src (faults.Encoding p) h k = (h, k)
both src (faults.Character p) h k = (h, k)
both src (faults.Number p) h k = (h, k)
both src (faults.Expected p w) h k = (h, k)
both src (faults.Deep p) h k = (h, k)
both src (faults.Comment p) h k = (h, k)

later_none : (src : List ℕ) (f : SyntaxFault) (at : ℕ) → Refuses src f → at ≤ place f → NoneBefore src at
later_none src f at h le g k t = elim (no_later src f h g k t) [ inl lt ↦ omega (arith, le, lt) | inr same ↦ omega (arith, le, same.0) ]

zero_none : (src : List ℕ) (at : ℕ) → at ≤ 0 → NoneBefore src at
zero_none src at le g k t = omega (arith, le)

err_first : (src : List ℕ) (f : SyntaxFault) (at : ℕ) → length src ≤ LONGEST_SOURCE → IsValidUpTo src at → (IsUtf8 src → ⊥) → Refuses src f → IfFault (Err (if nat_lt (place f) at then f else faults.Encoding at)) (IsFirstFault src)
err_first src f at le v not h =
    elim (leb_tells (suc (place f)) at) [
      | inl met ↦ rw met.0 (both src f h.0 (before_least src f at le v (omega (arith, met.1)) h))
      | inr unmet ↦ rw unmet.0 ((v, not), encoding_least src at le v (later_none src f at h (omega (arith, unmet.1))))
    ]

memory_first : (src : List ℕ) (at : ℕ) → length src ≤ LONGEST_SOURCE → IsValidUpTo src at → (IsUtf8 src → ⊥) → IfFault (Err (if nat_lt 0 at then faults.Memory else faults.Encoding at)) (IsFirstFault src)
memory_first src at le v not =
    elim (leb_tells (suc 0) at) [
      | inl met ↦ rw met.0 tt
      | inr unmet ↦ rw unmet.0 ((v, not), encoding_least src at le v (zero_none src at (omega (arith, unmet.1))))
    ]

-- of what was read and a place where the bytes stop being UTF-8 the first is answered
pub first_is : (src : List ℕ) (r : Result Ast SyntaxFault) (at : ℕ) → length src ≤ LONGEST_SOURCE → IsValidUpTo src at → (IsUtf8 src → ⊥) → IfOk r (λ ast. ((s : Source) × IsAst ast s × SpellsTokens src s) × IsShallow src) → IfFault r (Refuses src) → IfFault (Err (first_of r at)) (IsFirstFault src)
first_is src (Ok ast) at le v not found h = ((v, not), encoding_least src at le v (λ g k t. absurd (token_refuses src g found.0.0 k t found.1 found.0.2)))
first_is src (Err faults.Memory) at le v not found h = memory_first src at le v not
first_is src (Err faults.Long) at le v not found h = err_first src faults.Long at le v not h
first_is src (Err (faults.Encoding p)) at le v not found h = err_first src (faults.Encoding p) at le v not h
first_is src (Err (faults.Character p)) at le v not found h = err_first src (faults.Character p) at le v not h
first_is src (Err (faults.Number p)) at le v not found h = err_first src (faults.Number p) at le v not h
first_is src (Err (faults.Expected p w)) at le v not found h = err_first src (faults.Expected p w) at le v not h
first_is src (Err (faults.Deep p)) at le v not found h = err_first src (faults.Deep p) at le v not h
first_is src (Err (faults.Comment p)) at le v not found h = err_first src (faults.Comment p) at le v not h

pub read_is : (src : List ℕ) (r : Result Ast SyntaxFault) → length src ≤ LONGEST_SOURCE → IsUtf8 src → IfFault r (Refuses src) → IfFault r (IsFirstFault src)
read_is src (Ok ast) le u h = tt
read_is src (Err faults.Memory) le u h = tt
read_is src (Err faults.Long) le u h = (h.0, utf8_least src faults.Long le u h)
read_is src (Err (faults.Encoding p)) le u h = (h.0, utf8_least src (faults.Encoding p) le u h)
read_is src (Err (faults.Character p)) le u h = (h.0, utf8_least src (faults.Character p) le u h)
read_is src (Err (faults.Number p)) le u h = (h.0, utf8_least src (faults.Number p) le u h)
read_is src (Err (faults.Expected p w)) le u h = (h.0, utf8_least src (faults.Expected p w) le u h)
read_is src (Err (faults.Deep p)) le u h = (h.0, utf8_least src (faults.Deep p) le u h)
read_is src (Err (faults.Comment p)) le u h = (h.0, utf8_least src (faults.Comment p) le u h)

-- a text that is too long
pub long_least : (src : List ℕ) → LONGEST_SOURCE < length src → IsFirstFault src faults.Long
long_least src h = (h, λ g k. elim (leb_tells (suc 0) (place g)) [ inl met ↦ inl (omega (arith, met.1)) | inr unmet ↦ inr (omega (arith, unmet.1), omega arith) ])

pub its_fault : (src : List ℕ) (r : Result Ast SyntaxFault) → IfFault r (IsFirstFault src) → IfFault r (IsFault src)
its_fault src (Ok ast) h = tt
its_fault src (Err faults.Memory) h = tt
its_fault src (Err faults.Long) h = h.0
its_fault src (Err (faults.Encoding p)) h = h.0
its_fault src (Err (faults.Character p)) h = h.0
its_fault src (Err (faults.Number p)) h = h.0
its_fault src (Err (faults.Expected p w)) h = h.0
its_fault src (Err (faults.Deep p)) h = h.0
its_fault src (Err (faults.Comment p)) h = h.0

pub its_least : (src : List ℕ) (r : Result Ast SyntaxFault) → IfFault r (IsFirstFault src) → IfFault r (IsLeast src)
its_least src (Ok ast) h = tt
its_least src (Err faults.Memory) h = tt
its_least src (Err faults.Long) h = h.1
its_least src (Err (faults.Encoding p)) h = h.1
its_least src (Err (faults.Character p)) h = h.1
its_least src (Err (faults.Number p)) h = h.1
its_least src (Err (faults.Expected p w)) h = h.1
its_least src (Err (faults.Deep p)) h = h.1
its_least src (Err (faults.Comment p)) h = h.1

same_end : (y z : State) (r : Result State Refusal) → r ≡ Ok y → r ≡ Ok z → y ≡ z
same_end y z r e h = cc

same_posted : (p q : Posted) (r : Result Posted What) → r ≡ Ok p → r ≡ Ok q → p ≡ q
same_posted p q r e h = cc

-- No tokens spell two programs.
one_spelled : (ts : List Lexeme) (s t : Source) → Spells ts s → Spells ts t → s ≡ t
one_spelled ts s t h k =
    let a = reads ts s h in
    let b = reads ts t k in
    source_is s t (same_posted (posted s) (posted t) (finish a.z) a.ends (ap finish (same_end a.z b.z (run ts start) a.runs b.runs) ∙ b.ends))

-- No text does.
pub one_source : (src : List ℕ) (s t : Source) → SpellsTokens src s → SpellsTokens src t → s ≡ t
one_source src s t h k = one_spelled h.0 s t h.2 (subst (λ (ts : List Lexeme). Spells ts t) (cut_unique src k.0 h.0 (length src) k.1 h.1) k.2)

fault_refuses : (src : List ℕ) (f : SyntaxFault) (s : Source) → SpellsText src s → IsShallow src → IfFault (Err f) (IsFault src) → Answers (Err f) s
fault_refuses src faults.Memory s k sh h = tt
fault_refuses src faults.Long s k sh h = omega (arith, h, k.0)
fault_refuses src (faults.Encoding at) s k sh h = h.1 k.1
fault_refuses src (faults.Character at) s k sh h = token_refuses src (faults.Character at) s h tt sh k.2
fault_refuses src (faults.Number r) s k sh h = token_refuses src (faults.Number r) s h tt sh k.2
fault_refuses src (faults.Comment at) s k sh h = token_refuses src (faults.Comment at) s h tt sh k.2
fault_refuses src (faults.Deep at) s k sh h = sh at h
fault_refuses src (faults.Expected at what) s k sh h = token_refuses src (faults.Expected at what) s h tt sh k.2

-- What the text spells is answered.
pub only : (src : List ℕ) (r : Result Ast SyntaxFault) → IfOk r (λ ast. (s : Source) × IsAst ast s × SpellsText src s) → IfFault r (IsFault src) → (s : Source) → SpellsText src s → IsShallow src → Answers r s
only src (Ok ast) found h s k sh = subst (λ (t : Source). IsAst ast t) (one_source src found.0 s found.2.2 k.2) found.1
only src (Err f) found h s k sh = fault_refuses src f s k sh h

-- what was read is what the text spells
pub text_found : (src : List ℕ) (r : Result Ast SyntaxFault) → length src ≤ LONGEST_SOURCE → IsUtf8 src → IfOk r (λ ast. ((s : Source) × IsAst ast s × SpellsTokens src s) × IsShallow src) → IfOk r (λ ast. (s : Source) × IsAst ast s × SpellsText src s)
text_found src (Ok ast) le u h = (h.0.0, h.0.1, (le, u, h.0.2))
text_found src (Err f) le u h = tt

pub refused_first : (src : List ℕ) (r : Result Ast SyntaxFault) (at : ℕ) (f : SyntaxFault) → f ≡ first_of r at → length src ≤ LONGEST_SOURCE → IsValidUpTo src at → IfOk r (λ ast. ((s : Source) × IsAst ast s × SpellsTokens src s) × IsShallow src) → IfFault r (Refuses src) → IfFault (Err f) (IsFirstFault src)
refused_first src r at f e le v found h = subst (λ (g : SyntaxFault). IfFault (Err g) (IsFirstFault src)) (sym e) (first_is src r at le v (λ u. never_invalid src at u v) found h)

pub text_shallow : (src : List ℕ) (r : Result Ast SyntaxFault) → IfOk r (λ ast. ((s : Source) × IsAst ast s × SpellsTokens src s) × IsShallow src) → IfOk r (λ ast. IsShallow src)
text_shallow src (Ok ast) h = h.1
text_shallow src (Err f) h = tt
