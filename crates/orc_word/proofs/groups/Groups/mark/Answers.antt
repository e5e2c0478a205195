use Rattle.std.proofs.Common.{◌/◌, ◌%◌, eqb, cond, [], ◌∷◌, ◌++◌, sym, ap, ◌∙◌, subst, arith}
use Rattle.orc_word.specs.declared.view.Deed.TheVariants.{Won}
use Rattle.orc_word.specs.declared.bits.Bit.TheVariants.{Published, Killed}
use Rattle.orc_word.specs.Words.{group_in, has, with_bit, IsPass, seen_in, won_in}
use Rattle.orc_word.proofs.Keeps.{not_again, pass_names}
use Rattle.orc_word.proofs.Deeds.{marks}
use Rattle.orc_word.proofs.groups.Groups.mark.Goals as goal

pub fetch_or-found-requires : goal.fetch_or-found-requires
fetch_or-found-requires g c =
    let here = c.pass.invariant in
    let within = pass_names _ _ _ _ here.2 c.in-Some.is in
    let named = c.args.self.now.named in
    (here.0 ∙ sym named, omega (arith, within.0, ap (λ t. t.words) named), marks Published _ _ _ _ _ _ _ within.1.2 (omega (arith, within.0, c.args.self.now.planned.0)))

pub fetch_or-found-requires-in-Killed : goal.fetch_or-found-requires-in-Killed
fetch_or-found-requires-in-Killed g c =
    let here = c.pass.invariant in
    let within = pass_names _ _ _ _ here.2 c.in-Some.is in
    let named = c.args.self.now.named in
    (here.0 ∙ sym named, omega (arith, within.0, ap (λ t. t.words) named), marks Killed _ _ _ _ _ _ _ within.1.2 (omega (arith, within.0, c.args.self.now.planned.0)))

pub invariant_of-pass : goal.invariant_of-pass
invariant_of-pass g c =
    let here = c.pass.invariant in
    let within = pass_names _ _ _ _ here.2 c.in-Some.is in
    let told = c.fetch_or-found.ensures in
    let after = (told.2.0 within.1.0 within.1.1 within.1.2).0 in
    (told.0 ∙ here.0, ap (λ m. m.1) after ∙ here.1, subst (λ x. IsPass g.J.Naming.table.words x c.fetch_or-found.new.seat.me.0.stance) (sym c.in-Some.is) (within.0, (_, _, ap (λ m. m.0) after)))

pub invariant_of-pass-in-Killed : goal.invariant_of-pass-in-Killed
invariant_of-pass-in-Killed g c =
    let here = c.pass.invariant in
    let within = pass_names _ _ _ _ here.2 c.in-Some.is in
    let told = c.fetch_or-found-in-Killed.ensures in
    let after = (told.2.0 within.1.0 within.1.1 within.1.2).0 in
    (told.0 ∙ here.0, ap (λ m. m.1) after ∙ here.1, subst (λ x. IsPass g.J.Naming.table.words x c.fetch_or-found-in-Killed.new.seat.me.0.stance) (sym c.in-Some.is) (within.0, (_, _, ap (λ m. m.0) after)))

pub returns-in-Published : goal.returns-in-Published
returns-in-Published g c =
    let here = c.pass.invariant in
    let within = pass_names _ _ _ _ here.2 c.in-Some.is in
    let both = c.fetch_or-found.ensures.2.0 within.1.0 within.1.1 within.1.2 in
    let after = both.0 in
    let was = sym within.1.2 ∙ ap (λ v. v.stance) c.pass.view_is in
    let now = ap (λ m. m.0) after in record {
      group = ap group_in now ∙ ap group_in was;
      seen = ap seen_in now ∙ (λ k. with_bit (sym c.in-Published.is k) (seen_in (was k)));
      again = λ had. not_again Published within.1.0 c.fetch_or-found.result both.1 ((λ k. has (sym c.in-Published.is k) (seen_in (was k))) ∙ had);
      won = ap won_in now ∙ (λ k. cond (eqb (c.fetch_or-found.result / 4294967296 % 2) 0) (with_bit (sym c.in-Published.is k) (won_in (was k))) (won_in (was k)));
      deeds = (_, sym (ap group_in was), c.fetch_or-found.ensures.2.1 ∙ (λ k. (c.pass.view_is k).deeds ++ cond (eqb (c.fetch_or-found.result / 4294967296 % 2) 0) (Won c.in-Some.group (sym c.in-Published.is k) ∷ []) []));
    }

pub returns-in-Killed : goal.returns-in-Killed
returns-in-Killed g c =
    let here = c.pass.invariant in
    let within = pass_names _ _ _ _ here.2 c.in-Some.is in
    let both = c.fetch_or-found-in-Killed.ensures.2.0 within.1.0 within.1.1 within.1.2 in
    let after = both.0 in
    let was = sym within.1.2 ∙ ap (λ v. v.stance) c.pass.view_is in
    let now = ap (λ m. m.0) after in record {
      group = ap group_in now ∙ ap group_in was;
      seen = ap seen_in now ∙ (λ k. with_bit (sym c.in-Killed.is k) (seen_in (was k)));
      again = λ had. not_again Killed within.1.0 c.fetch_or-found-in-Killed.result both.1 ((λ k. has (sym c.in-Killed.is k) (seen_in (was k))) ∙ had);
      won = ap won_in now ∙ (λ k. cond (eqb (c.fetch_or-found-in-Killed.result / 8589934592 % 2) 0) (with_bit (sym c.in-Killed.is k) (won_in (was k))) (won_in (was k)));
      deeds = (_, sym (ap group_in was), c.fetch_or-found-in-Killed.ensures.2.1 ∙ (λ k. (c.pass.view_is k).deeds ++ cond (eqb (c.fetch_or-found-in-Killed.result / 8589934592 % 2) 0) (Won c.in-Some.group (sym c.in-Killed.is k) ∷ []) []));
    }
