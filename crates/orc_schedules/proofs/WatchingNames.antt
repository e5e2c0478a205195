-- Lists of names, one behind another.
use Rattle.std.proofs.Common.{◌≡◌, ◌-◌, ◌≤◌, List, [], ◌∷◌, ◌++◌, Bool, true, false, length, take, drop, get_or, append_assoc, append-nil, refl, sym, ap, subst, ◌∙◌, arith}
use Rattle.std.proofs.lemmas.List.{take_all}
use Rattle.std.specs.Prelude.{◌&&◌, ◌||◌}
use Rattle.orc_claims.specs.declared.claim.Condition.{Condition}
use Rattle.orc_claims.specs.declared.claim.Simple.{Simple}
use Rattle.orc_claims.specs.declared.happening.Occurrence.{Occurrence}
use Rattle.orc_schedules.specs.Watch.{NameSame, all_seen, is_named, names_it, sees, watched_conditions}

or_assoc : (a b c : Bool) → (a || (b || c)) ≡ ((a || b) || c)
or_assoc true b c = refl
or_assoc false b c = refl

and_assoc : (a b c : Bool) → (a && (b && c)) ≡ ((a && b) && c)
and_assoc true b c = refl
and_assoc false b c = refl

-- two lists name what one of them does
pub named_both : (ss ts : List Simple) (w : Occurrence) → is_named (ss ++ ts) w ≡ (is_named ss w || is_named ts w)
named_both [] ts w = refl
named_both (s ∷ ss) ts w = ap (λ b. names_it s w || b) (named_both ss ts w) ∙ or_assoc (names_it s w) (is_named ss w) (is_named ts w)

pub seen_both : (ss ts : List Simple) → all_seen (ss ++ ts) ≡ (all_seen ss && all_seen ts)
seen_both [] ts = refl
seen_both (s ∷ ss) ts = ap (λ b. sees s && b) (seen_both ss ts) ∙ and_assoc (sees s) (all_seen ss) (all_seen ts)

-- the same stands behind both
pub same_behind : (ss ts more : List Simple) → NameSame ss ts → NameSame (ss ++ more) (ts ++ more)
same_behind ss ts more same = λ w. named_both ss more w ∙ ap (λ b. b || is_named more w) (same w) ∙ sym (named_both ts more w)

pub seen_behind : (ss ts more : List Simple) → all_seen ss ≡ all_seen ts → all_seen (ss ++ more) ≡ all_seen (ts ++ more)
seen_behind ss ts more same = seen_both ss more ∙ ap (λ b. b && all_seen more) same ∙ sym (seen_both ts more)

-- one that names and wants the same stands at the end of both
pub same_last : (ss : List Simple) (s t : Simple) → ((w : Occurrence) → names_it s w ≡ names_it t w) → NameSame (ss ++ s ∷ []) (ss ++ t ∷ [])
same_last ss s t same = λ w. named_both ss (s ∷ []) w ∙ ap (λ b. is_named ss w || (b || false)) (same w) ∙ sym (named_both ss (t ∷ []) w)

pub seen_last : (ss : List Simple) (s t : Simple) → sees s ≡ sees t → all_seen (ss ++ s ∷ []) ≡ all_seen (ss ++ t ∷ [])
seen_last ss s t same = seen_both ss (s ∷ []) ∙ ap (λ b. all_seen ss && (b && true)) same ∙ sym (seen_both ss (t ∷ []))

-- the next ones are kept too: with those that are left it is all
pub one_on : (old new next more all : List Simple) → NameSame new (old ++ next) → NameSame (old ++ (next ++ more)) all → NameSame (new ++ more) all
one_on old new next more all now before = λ w. same_behind new (old ++ next) more now w ∙ ap (λ ss. is_named ss w) (append_assoc old next more) ∙ before w

pub seen_on : (old new next more all : List Simple) → all_seen new ≡ all_seen (old ++ next) → all_seen (old ++ (next ++ more)) ≡ all_seen all → all_seen (new ++ more) ≡ all_seen all
seen_on old new next more all now before = seen_behind new (old ++ next) more now ∙ ap all_seen (append_assoc old next more) ∙ before

-- none are left
pub no_more : (ss all : List Simple) → NameSame (ss ++ []) all → NameSame ss all
no_more ss all before = λ w. ap (λ ts. is_named ts w) (sym (append-nil ss)) ∙ before w

-- first the one list, and then the other
pub both_on : (old mid new first second : List Simple) → NameSame mid (old ++ first) → NameSame new (mid ++ second) → NameSame new (old ++ (first ++ second))
both_on old mid new first second one other = λ w. other w ∙ same_behind mid (old ++ first) second one w ∙ ap (λ ss. is_named ss w) (append_assoc old first second)

pub seen_both_on : (old mid new first second : List Simple) → all_seen mid ≡ all_seen (old ++ first) → all_seen new ≡ all_seen (mid ++ second) → all_seen new ≡ all_seen (old ++ (first ++ second))
seen_both_on old mid new first second one other = other ∙ seen_behind mid (old ++ first) second one ∙ ap all_seen (append_assoc old first second)

-- ---- the first of those that are left is taken

all_of_rest : {X : Type 0} (x : X) (more : List X) → take (length (x ∷ more) - 1) (drop 1 (x ∷ more)) ≡ more
all_of_rest x more = take_all (length (x ∷ more) - 1) more (omega arith)

pub name_taken : (old new rest all : List Simple) (x : Simple) → 1 ≤ length rest → x ≡ get_or rest 0 x → NameSame new (old ++ x ∷ []) → NameSame (old ++ rest) all → NameSame (new ++ take (length rest - 1) (drop 1 rest)) all
name_taken old new [] all x some is now before = absurd (omega (arith, some))
name_taken old new (y ∷ more) all x some is now before = λ w. ap (λ ss. is_named (new ++ ss) w) (all_of_rest y more) ∙ one_on old new (x ∷ []) more all now (subst (λ (z : Simple). NameSame (old ++ z ∷ more) all) (sym is) before) w

pub seen_taken : (old new rest all : List Simple) (x : Simple) → 1 ≤ length rest → x ≡ get_or rest 0 x → all_seen new ≡ all_seen (old ++ x ∷ []) → all_seen (old ++ rest) ≡ all_seen all → all_seen (new ++ take (length rest - 1) (drop 1 rest)) ≡ all_seen all
seen_taken old new [] all x some is now before = absurd (omega (arith, some))
seen_taken old new (y ∷ more) all x some is now before = ap (λ ss. all_seen (new ++ ss)) (all_of_rest y more) ∙ seen_on old new (x ∷ []) more all now (subst (λ (z : Simple). all_seen (old ++ z ∷ more) ≡ all_seen all) (sym is) before)

pub condition_taken : (old new all : List Simple) (rest : List Condition) (x : Condition) → 1 ≤ length rest → x ≡ get_or rest 0 x → NameSame new (old ++ x.event.alternatives.items) → NameSame (old ++ watched_conditions rest) all → NameSame (new ++ watched_conditions (take (length rest - 1) (drop 1 rest))) all
condition_taken old new all [] x some is now before = absurd (omega (arith, some))
condition_taken old new all (y ∷ more) x some is now before = λ w. ap (λ cs. is_named (new ++ watched_conditions cs) w) (all_of_rest y more) ∙ one_on old new x.event.alternatives.items (watched_conditions more) all now (subst (λ (z : Condition). NameSame (old ++ watched_conditions (z ∷ more)) all) (sym is) before) w

pub seen_condition_taken : (old new all : List Simple) (rest : List Condition) (x : Condition) → 1 ≤ length rest → x ≡ get_or rest 0 x → all_seen new ≡ all_seen (old ++ x.event.alternatives.items) → all_seen (old ++ watched_conditions rest) ≡ all_seen all → all_seen (new ++ watched_conditions (take (length rest - 1) (drop 1 rest))) ≡ all_seen all
seen_condition_taken old new all [] x some is now before = absurd (omega (arith, some))
seen_condition_taken old new all (y ∷ more) x some is now before = ap (λ cs. all_seen (new ++ watched_conditions cs)) (all_of_rest y more) ∙ seen_on old new x.event.alternatives.items (watched_conditions more) all now (subst (λ (z : Condition). all_seen (old ++ watched_conditions (z ∷ more)) ≡ all_seen all) (sym is) before)

-- ---- all that a claim names

pub all_named : (none mid new plain : List Simple) (cs ds : List Condition) → none ≡ [] → ds ≡ cs → NameSame mid (none ++ plain) → NameSame new (mid ++ watched_conditions ds) → NameSame new (plain ++ watched_conditions cs)
all_named none mid new plain cs ds empty same one other =
    let behind = same_behind mid plain (watched_conditions cs) (subst (λ (ss : List Simple). NameSame mid (ss ++ plain)) empty one) in
    λ w. other w ∙ ap (λ es. is_named (mid ++ watched_conditions es) w) same ∙ behind w

pub all_are_seen : (none mid new plain : List Simple) (cs ds : List Condition) → none ≡ [] → ds ≡ cs → all_seen mid ≡ all_seen (none ++ plain) → all_seen new ≡ all_seen (mid ++ watched_conditions ds) → all_seen new ≡ all_seen (plain ++ watched_conditions cs)
all_are_seen none mid new plain cs ds empty same one other = other ∙ ap (λ es. all_seen (mid ++ watched_conditions es)) same ∙ seen_behind mid plain (watched_conditions cs) (one ∙ ap (λ ss. all_seen (ss ++ plain)) empty)
