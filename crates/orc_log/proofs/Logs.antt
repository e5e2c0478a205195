-- What is known of entries that aren't held any more.
use Rattle.std.proofs.Common.{◌≡◌, ◌≤◌, ◌+◌, ◌-◌, ◌^◌, ◌++◌, ℕ, zero, suc, Bool, true, false, List, [], ◌∷◌, map, length, length-append, take, drop, refl, sym, ap, ◌∙◌, subst, arith}
use Rattle.orc_rules.specs.declared.entry.Entry.{Entry}
use Rattle.orc_rules.specs.declared.entry.Entry.TheVariants.{End, Fork, Seq, Other, Def, Void, Open, Send, Call, Return, ReturnHalt, Bind, Lost, Right, Publish, Tick, Cancel}
use Rattle.orc_rules.specs.declared.value.Value.{Value}
use Rattle.orc_rules.specs.Sites.{Site}
use Rattle.orc_rules.specs.Trace.{published}
use Rattle.orc_subrun.specs.Moved.{moved, AreLocal, IsSilent, AreSilent}
use Rattle.orc_subrun.specs.declared.numbers.Numbering.{Numbering}
use Rattle.orc_journal.proofs.Shown.{published-more}
use Rattle.orc_log.specs.Logs.{IsKnown}

-- under other numbers they publish the same
pub published-moved : (n : Numbering) (es : List Entry) → published (map (moved n) es) ≡ published es
published-moved n [] = refl
published-moved n (Publish s v ∷ es) = ap (λ vs. v ∷ vs) (published-moved n es)
published-moved n (End s ∷ es) = published-moved n es
published-moved n (Fork s a b ∷ es) = published-moved n es
published-moved n (Seq s a ∷ es) = published-moved n es
published-moved n (Other s a ∷ es) = published-moved n es
published-moved n (Def s a ∷ es) = published-moved n es
published-moved n (Void s ∷ es) = published-moved n es
published-moved n (Open s c a b ∷ es) = published-moved n es
published-moved n (Send s a v ∷ es) = published-moved n es
published-moved n (Call s k m args ∷ es) = published-moved n es
published-moved n (Return k a v ∷ es) = published-moved n es
published-moved n (ReturnHalt k ∷ es) = published-moved n es
published-moved n (Bind s c v ∷ es) = published-moved n es
published-moved n (Lost c ∷ es) = published-moved n es
published-moved n (Right s a ∷ es) = published-moved n es
published-moved n (Tick t ∷ es) = published-moved n es
published-moved n (Cancel k ∷ es) = published-moved n es

-- local entries and local ones behind them
pub local-more : (sites : List Site) (es fs : List Entry) → AreLocal sites es → AreLocal sites fs → AreLocal sites (es ++ fs)
local-more sites [] fs h k = k
local-more sites (e ∷ es) fs h k = (h.0, local-more sites es fs h.1 k)

-- where nothing is published they are silent
pub silent-where-none : (es : List Entry) → published es ≡ [] → AreSilent es
silent-where-none [] none = tt
silent-where-none (Publish s v ∷ es) none = absurd (omega (arith, ap length none))
silent-where-none (End s ∷ es) none = (tt, silent-where-none es none)
silent-where-none (Fork s a b ∷ es) none = (tt, silent-where-none es none)
silent-where-none (Seq s a ∷ es) none = (tt, silent-where-none es none)
silent-where-none (Other s a ∷ es) none = (tt, silent-where-none es none)
silent-where-none (Def s a ∷ es) none = (tt, silent-where-none es none)
silent-where-none (Void s ∷ es) none = (tt, silent-where-none es none)
silent-where-none (Open s c a b ∷ es) none = (tt, silent-where-none es none)
silent-where-none (Send s a v ∷ es) none = (tt, silent-where-none es none)
silent-where-none (Call s k m args ∷ es) none = (tt, silent-where-none es none)
silent-where-none (Return k a v ∷ es) none = (tt, silent-where-none es none)
silent-where-none (ReturnHalt k ∷ es) none = (tt, silent-where-none es none)
silent-where-none (Bind s c v ∷ es) none = (tt, silent-where-none es none)
silent-where-none (Lost c ∷ es) none = (tt, silent-where-none es none)
silent-where-none (Right s a ∷ es) none = (tt, silent-where-none es none)
silent-where-none (Tick t ∷ es) none = (tt, silent-where-none es none)
silent-where-none (Cancel k ∷ es) none = (tt, silent-where-none es none)

-- silent entries and silent ones behind them
pub silent-more : (es fs : List Entry) → AreSilent es → AreSilent fs → AreSilent (es ++ fs)
silent-more [] fs h k = k
silent-more (e ∷ es) fs h k = (h.0, silent-more es fs h.1 k)

-- cancels publish nothing
pub cancels-publish-none : (ks : List ℕ) → published (map Cancel ks) ≡ []
cancels-publish-none [] = refl
cancels-publish-none (k ∷ ks) = cancels-publish-none ks

-- a silent entry publishes nothing
publishes-none : (e : Entry) → IsSilent e → published (e ∷ []) ≡ []
publishes-none (Publish s v) h = absurd h
publishes-none (End s) h = refl
publishes-none (Fork s a b) h = refl
publishes-none (Seq s a) h = refl
publishes-none (Other s a) h = refl
publishes-none (Def s a) h = refl
publishes-none (Void s) h = refl
publishes-none (Open s c a b) h = refl
publishes-none (Send s a v) h = refl
publishes-none (Call s k m args) h = refl
publishes-none (Return k a v) h = refl
publishes-none (ReturnHalt k) h = refl
publishes-none (Bind s c v) h = refl
publishes-none (Lost c) h = refl
publishes-none (Right s a) h = refl
publishes-none (Tick t) h = refl
publishes-none (Cancel k) h = refl

silent-none : (es : List Entry) → AreSilent es → published es ≡ []
silent-none [] h = refl
silent-none (e ∷ es) h = published-more (e ∷ []) es ∙ ap (λ vs. vs ++ published es) (publishes-none e h.0) ∙ silent-none es h.1

-- without last ones that publish nothing the same is published
pub published-first : (n : ℕ) (es : List Entry) → AreSilent (drop n es) → published (take n es) ≡ published es
published-first zero es h = sym (silent-none es h)
published-first (suc n) [] h = refl
published-first (suc n) (e ∷ es) h = published-more (e ∷ []) (take n es) ∙ ap (λ vs. published (e ∷ []) ++ vs) (published-first n es h) ∙ sym (published-more (e ∷ []) es)

-- the first of local entries are local
pub local-first : (sites : List Site) (n : ℕ) (es : List Entry) → AreLocal sites es → AreLocal sites (take n es)
local-first sites zero es h = tt
local-first sites (suc n) [] h = tt
local-first sites (suc n) (e ∷ es) h = (h.0, local-first sites n es h.1)

length-first : (n : ℕ) (es : List Entry) → n ≤ length es → length (take n es) ≡ n
length-first zero es h = refl
length-first (suc n) [] h = absurd (omega (arith, h))
length-first (suc n) (e ∷ es) h = ap suc (length-first n es (omega (arith, h)))

module _ (sites : List Site) (keeps : Bool) (past past' : List Entry) (passed : ℕ) (values : List Value) (is_local : Bool) (held : ℕ)
    (h : IsKnown sites keeps past passed values is_local held) (off : keeps ≡ false) where
  -- entries more
  pub known-more : (es : List Entry) (passed' n : ℕ) (values' : List Value) (is_local' : Bool) → past' ≡ past ++ es → length es ≡ n → passed' ≡ passed + n → passed' ≤ 2 ^ 62
      → values' ≡ values ++ published es → (is_local' ≡ true → (is_local ≡ true) × AreLocal sites es) → IsKnown sites keeps past' passed' values' is_local' held
  known-more es passed' n values' is_local' is len sum few shown locals = record {
    count = omega (arith, ap length is, length-append past es, h.count, len, sum);
    publishes = ap published is ∙ published-more past es ∙ ap (λ vs. vs ++ published es) h.publishes ∙ sym shown;
    local = λ yes. let l = locals yes in subst (AreLocal sites) (sym is) (local-more sites past es (h.local l.0) l.1);
    whole = λ kept. absurd (cc (sym off ∙ kept));
    none = h.none;
    few = few;
    room = h.room;
  }

  -- the first ones alone, where the others publish nothing
  pub known-first : (n : ℕ) → past' ≡ take n past → n ≤ passed → AreSilent (drop n past) → IsKnown sites keeps past' n values is_local held
  known-first n is less silent = record {
    count = ap length is ∙ length-first n past (omega (arith, less, h.count));
    publishes = ap published is ∙ published-first n past silent ∙ h.publishes;
    local = λ yes. subst (AreLocal sites) (sym is) (local-first sites n past (h.local yes));
    whole = λ kept. absurd (cc (sym off ∙ kept));
    none = h.none;
    few = omega (arith, less, h.few);
    room = h.room;
  }
