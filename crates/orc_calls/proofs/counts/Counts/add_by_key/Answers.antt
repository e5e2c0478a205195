use Rattle.std.proofs.Common.{rules, ◌≡◌, ◌∙◌, ◌++◌, None, Some, sym, ap, subst, suc, map, arith}
use Rattle.std.specs.Prelude.{bytes_eq}
use Rattle.std.specs.Option.{option_copied_mut}
use Rattle.std.proofs.lemmas.Map.Steps.{set_value_same}
use Rattle.orc_calls.specs.Counting.{bare_entries, entry_of, key, nth_in, AreFromOne, CountsOne, HasNoBare}
use Rattle.orc_calls.proofs.BareCalls.{adds_by_key}
use Rattle.orc_calls.proofs.Keys.{nth_seen, puts, from_one, counts_one, no_bare}
use Rattle.orc_calls.proofs.counts.Counts.add_by_key.Goals as goal

-- there is no room for another call
pub invariant_of-self : goal.invariant_of-self
invariant_of-self c =
    let same = (c.get_mut.follows.holds c.in-Some.next.now).0 ∙ set_value_same (λ x. bytes_eq c.as_slice.result.now x.items) c.self.inside.next.entries c.in-Some.next.now (sym c.in-Some.ensures.value) in
    subst (λ es. AreFromOne (map entry_of es) × HasNoBare (map entry_of es)) (sym same) c.self.invariant

pub returns-in_default-checked_add-clause-refused : goal.returns-in_default-checked_add-clause-refused
returns-in_default-checked_add-clause-refused c =
    let same = (c.get_mut.follows.holds c.in-Some.next.now).0 ∙ set_value_same (λ x. bytes_eq c.as_slice.result.now x.items) c.self.inside.next.entries c.in-Some.next.now (sym c.in-Some.ensures.value) in
    ap (λ es. bare_entries 0 c.self.inside.bare ++ map entry_of es) same ∙ c.self.view_is

-- the key is there
pub invariant_of-self-in-Some : goal.invariant_of-self-in-Some
invariant_of-self-in-Some c =
    let m = c.self.inside.next in
    let v = c.in-Some-checked_add.more in
    let n = c.get_mut.follows.lender v in
    let put = puts c.as_slice.result.now v m n ((c.get_mut.follows.holds v).3 (search rules)) in
    (from_one c.as_slice.result.now v m.entries n.entries put (search rules) c.self.invariant.0, no_bare c.as_slice.result.now c.args.site c.args.args.now v m.entries n.entries put (c.as_slice.ensures ∙ c.write.ensures) c.requires c.self.invariant.1)

pub returns-in-Some-clause-added : goal.returns-in-Some-clause-added
returns-in-Some-clause-added c =
    let site = c.args.site in
    let args = c.args.args.now in
    let k = c.as_slice.result.now in
    let m = c.self.inside.next in
    let v = c.in-Some-checked_add.more in
    let n = c.get_mut.follows.lender v in
    let put = puts k v m n ((c.get_mut.follows.holds v).3 (search rules)) in
    let is : k ≡ key site args = c.as_slice.ensures ∙ c.write.ensures in
    let here : c.in-Some.next.now ≡ nth_in (map entry_of m.entries) site args = nth_seen k m.entries (Some c.in-Some.next.now) site args c.in-Some.ensures.value is in
    let next : v ≡ suc (nth_in (map entry_of m.entries) site args) = omega (arith, c.in-Some-checked_add.ensures, here) in
    let bare = c.self.inside.bare in
    subst (λ z. CountsOne site args z (bare_entries 0 bare ++ map entry_of n.entries)) c.self.view_is
    (adds_by_key bare (map entry_of m.entries) (map entry_of n.entries) site args c.self.invariant.1 (no_bare k site args v m.entries n.entries put is c.requires c.self.invariant.1) c.requires (counts_one site args k v m.entries n.entries put is next))

-- the key is new
pub invariant_of-self-2 : goal.invariant_of-self-2
invariant_of-self-2 c =
    let words = c.in_ok-words.words in
    let m = c.get_mut.follows.lender-at-none in
    let n = c.insert.new.self in
    let put = puts words.items 2 m n c.in_ok-insert.ensures.updates in
    let is = c.in_ok-words.ensures.items ∙ c.as_slice-2.ensures ∙ c.write.ensures in
    let old = subst (λ z. AreFromOne (map entry_of z.entries) × HasNoBare (map entry_of z.entries)) (sym c.get_mut.follows.holds-at-none) c.self.invariant in
    (from_one words.items 2 m.entries n.entries put (omega arith) old.0, no_bare words.items c.args.site c.args.args.now 2 m.entries n.entries put is c.requires old.1)

pub returns-clause-added : goal.returns-clause-added
returns-clause-added c =
    let site = c.args.site in
    let args = c.args.args.now in
    let old = c.self.inside.next in
    let words = c.in_ok-words.words in
    let m = c.get_mut.follows.lender-at-none in
    let n = c.insert.new.self in
    let put = puts words.items 2 m n c.in_ok-insert.ensures.updates in
    let is : words.items ≡ key site args = c.in_ok-words.ensures.items ∙ c.as_slice-2.ensures ∙ c.write.ensures in
    let here : 1 ≡ nth_in (map entry_of old.entries) site args = nth_seen c.as_slice.result.now old.entries None site args (ap option_copied_mut (sym c.in_default.is) ∙ c.get_mut.ensures.value) (c.as_slice.ensures ∙ c.write.ensures) in
    let next : 2 ≡ suc (nth_in (map entry_of m.entries) site args) = ap suc (here ∙ sym (ap (λ z. nth_in (map entry_of z.entries) site args) c.get_mut.follows.holds-at-none)) in
    let none = subst (λ z. HasNoBare (map entry_of z.entries)) (sym c.get_mut.follows.holds-at-none) c.self.invariant.1 in
    let bare = c.self.inside.bare in
    subst (λ z. CountsOne site args z (bare_entries 0 bare ++ map entry_of n.entries)) (ap (λ z. bare_entries 0 bare ++ map entry_of z.entries) c.get_mut.follows.holds-at-none ∙ c.self.view_is)
    (adds_by_key bare (map entry_of m.entries) (map entry_of n.entries) site args none (no_bare words.items site args 2 m.entries n.entries put is c.requires none) c.requires (counts_one site args words.items 2 m.entries n.entries put is next))
