use Rattle.std.proofs.Common.{◌≡◌, ◌++◌, List, map, Bool, true, false, refl, sym, ap, subst, ◌∙◌, rules}
use Rattle.std.specs.Prelude.{IfOk, OnErr}
use Rattle.std.specs.List.{All}
use Rattle.std.specs.declared.result.Result.{Result}
use Rattle.std.specs.declared.result.Result.TheVariants.{Ok, Err}
use Rattle.std.specs.declared.alloc.AllocError.{AllocError}
use Rattle.std.proofs.lemmas.Result.{err_from_is_err_and}
use Rattle.orc_subrun.specs.Moved.{moved}
use Rattle.orc_journal.specs.declared.rows.Row.{Row}
use Rattle.orc_journal.specs.Rows.{AreWithin}
use Rattle.orc_journal.specs.Shifts.{row_by, IsMovable}
use Rattle.orc_journal.specs.Written.{journal_with}
use Rattle.orc_journal.proofs.Keeping.{same_journal, within_kept}
use Rattle.orc_journal.proofs.Shifted.{part_added}
use Rattle.orc_journal.proofs.journal.Journal.push_shifted.Goals as goal

-- what follows from each answer, and what an answer says, said otherwise
in_each : {A B P : Type 0} (r : Result Bool AllocError) → (A → P) → (B → P) → IfOk r (λ fit. fit ≡ true → A) → IfOk r (λ fit. fit ≡ false → B) → OnErr r B → P
in_each (Ok true) f g a b e = f (a refl)
in_each (Ok false) f g a b e = g (b refl)
in_each (Err x) f g a b e = g e

of_ok : {A B : Type 0} (r : Result Bool AllocError) (b : Bool) → (A → B) → IfOk r (λ fit. fit ≡ b → A) → IfOk r (λ fit. fit ≡ b → B)
of_ok (Ok x) b f a = λ (is : x ≡ b). f (a is)
of_ok (Err x) b f a = tt

of_err : {A B : Type 0} (r : Result Bool AllocError) → (A → B) → OnErr r A → OnErr r B
of_err (Ok x) f a = tt
of_err (Err x) f a = f a

both_ok : (A B : Type 0) (r : Result Bool AllocError) (b : Bool) → IfOk r (λ fit. fit ≡ b → A) → IfOk r (λ fit. fit ≡ b → B) → IfOk r (λ fit. fit ≡ b → A × B)
both_ok A B (Ok x) b f g = λ (is : x ≡ b). (f is, g is)
both_ok A B (Err x) b f g = tt

pub returns-in_err-append-clause-refused : goal.returns-in_err-append-clause-refused
returns-in_err-append-clause-refused c =
    let same = same_journal c.self.inside.version c.self.inside.tables c.append.new.self c.self.inside.rows.items c.self.inside.rows.items c.append.ensures.kept c.self.invariant refl in
    let p = err_from_is_err_and c.from_residual.result c.from_residual.ensures.1 in
    rw (p.1) (same ∙ c.self.view_is)

pub invariant_of-self-then-not-branch : goal.invariant_of-self-then-not-branch
invariant_of-self-then-not-branch c = within_kept c.self.inside.tables c.append.new.self c.self.inside.rows.items c.append.ensures.kept c.self.invariant

pub returns-then-not-branch-clause-unfit : goal.returns-then-not-branch-clause-unfit
returns-then-not-branch-clause-unfit c _ =
    same_journal c.self.inside.version c.self.inside.tables c.append.new.self c.self.inside.rows.items c.self.inside.rows.items c.append.ensures.kept c.self.invariant refl ∙ c.self.view_is

pub invariant_of-self-2 : goal.invariant_of-self-2
invariant_of-self-2 c =
    let fit : c.in_ok-append.field-0 ≡ true = search rules in
    let kept = within_kept c.self.inside.tables c.append.new.self c.self.inside.rows.items c.append.ensures.kept c.self.invariant in
    in_each c.push_rows.result
    (λ (more : (c.push_rows.new.rows.items ≡ c.self.inside.rows.items ++ map (row_by c.in-Some.shift) c.deref.result.now) × All IsMovable c.deref.result.now).
    (part_added c.self.inside.version c.self.inside.tables c.append.new.self c.part.inside.tables c.args.numbering c.in-Some.shift c.self.inside.rows.items c.push_rows.new.rows.items c.part.inside.rows.items
    c.in-Some.ensures c.append.ensures.kept (c.in_ok-append.ensures.added fit) c.self.invariant c.part.invariant
    (subst (All IsMovable) c.deref.ensures.value more.1) (more.0 ∙ ap (λ (rs : List Row). c.self.inside.rows.items ++ map (row_by c.in-Some.shift) rs) c.deref.ensures.value)).0)
    (λ (same : c.push_rows.new.rows.items ≡ c.self.inside.rows.items). subst (AreWithin c.append.new.self) (sym same) kept)
    (both_ok _ _ c.push_rows.result true c.push_rows.ensures.added c.push_rows.ensures.movable) c.push_rows.ensures.unfit c.push_rows.ensures.refused

pub returns-clause-added : goal.returns-clause-added
returns-clause-added c =
    let fit : c.in_ok-append.field-0 ≡ true = search rules in
    of_ok c.push_rows.result true
    (λ (more : (c.push_rows.new.rows.items ≡ c.self.inside.rows.items ++ map (row_by c.in-Some.shift) c.deref.result.now) × All IsMovable c.deref.result.now).
    (part_added c.self.inside.version c.self.inside.tables c.append.new.self c.part.inside.tables c.args.numbering c.in-Some.shift c.self.inside.rows.items c.push_rows.new.rows.items c.part.inside.rows.items
    c.in-Some.ensures c.append.ensures.kept (c.in_ok-append.ensures.added fit) c.self.invariant c.part.invariant
    (subst (All IsMovable) c.deref.ensures.value more.1) (more.0 ∙ ap (λ (rs : List Row). c.self.inside.rows.items ++ map (row_by c.in-Some.shift) rs) c.deref.ensures.value)).1
    ∙ λ i. journal_with (c.self.view_is i) (map (moved c.args.numbering) (c.part.view_is i).entries))
    (both_ok _ _ c.push_rows.result true c.push_rows.ensures.added c.push_rows.ensures.movable)

pub returns-clause-unfit : goal.returns-clause-unfit
returns-clause-unfit c =
    of_ok c.push_rows.result false
    (λ (same : c.push_rows.new.rows.items ≡ c.self.inside.rows.items).
    same_journal c.self.inside.version c.self.inside.tables c.append.new.self c.self.inside.rows.items c.push_rows.new.rows.items c.append.ensures.kept c.self.invariant same ∙ c.self.view_is)
    c.push_rows.ensures.unfit

pub returns-clause-refused : goal.returns-clause-refused
returns-clause-refused c =
    of_err c.push_rows.result
    (λ (same : c.push_rows.new.rows.items ≡ c.self.inside.rows.items).
    same_journal c.self.inside.version c.self.inside.tables c.append.new.self c.self.inside.rows.items c.push_rows.new.rows.items c.append.ensures.kept c.self.invariant same ∙ c.self.view_is)
    c.push_rows.ensures.refused
