use Rattle.std.proofs.Common.{rules, ◌≡◌, ◌≤◌, ◌++◌, ◌∷◌, [], ℕ, map, length, cond, bytes_eq, Option, Some, None, ap, ◌∙◌}
use Rattle.std.proofs.lemmas.List.{map-append, length-map}
use Rattle.std.specs.HashMap.{get_by}
use Rattle.orc_syntax.specs.Ast.{text_of}
use Rattle.orc_scope.specs.Scope.{position}
use Rattle.orc_scope.specs.Names.{late}
use Rattle.orc_scope.specs.declared.names.TheConstants.{EARLY}
use Rattle.orc_scope.proofs.Places.{changed, pushed_same}
use Rattle.orc_scope.proofs.Early.{late_new, late_push}
use Rattle.orc_scope.proofs.names.Names.push.Goals as goal
use Rattle.orc_scope.proofs.names.Names.push.Goals.{then-at-ge-EARLY+then-is_none+in_ok-insert, else-at-ge-EARLY, else-at-ge-EARLY-via-then-at-ge-EARLY+else-is_none, else-at-ge-EARLY-via-else-at-ge-EARLY}

pub invariant_of-self-2 : goal.invariant_of-self-2
invariant_of-self-2 c = λ text.
    let x = c.args.text.now in
    let ts = map text_of c.self.inside.texts.items in
    let us = map text_of c.push.new.self.items in
    elim c.if-at-ge-EARLY.branch [
      | then-at-ge-EARLY+then-is_none+in_ok-insert w ↦ let u : us ≡ ts ++ x ∷ [] = ap (map text_of) (search rules) ∙ map-append text_of c.self.inside.texts.items (c.args.text ∷ []) in
          let none : position ts x ≡ None = search rules in
          let at : c.len-at.result ≡ length ts = search (rules, length-map) in
          let le : EARLY ≤ length ts = search (rules, length-map) in
          ap (λ z. get_by (λ k. bytes_eq text k.now) z.places) w.self-inside-is
          ∙ late_new EARLY ts us x text _ u none le (changed x c.self.inside.places w.insert.new.self _ text w.in_ok-insert.ensures.updates ∙ ap (λ (o : Option ℕ). cond (bytes_eq x text) (Some c.len-at.result) o) (c.self.invariant text) ∙ ap (λ (n : ℕ). cond (bytes_eq x text) (Some n) (late EARLY (position ts text))) at)
      | else-at-ge-EARLY w ↦ let u : us ≡ ts ++ x ∷ [] = ap (map text_of) (search rules) ∙ map-append text_of c.self.inside.texts.items (c.args.text ∷ []) in
          ap (λ z. get_by (λ k. bytes_eq text k.now) z.places) w.self-inside-is
          ∙ c.self.invariant text
          ∙ elim w.else-at-ge-EARLY.branch [
            | else-at-ge-EARLY-via-then-at-ge-EARLY+else-is_none v ↦ ap (late EARLY) (pushed_same ts us x text u (search rules))
            | else-at-ge-EARLY-via-else-at-ge-EARLY v ↦ late_push EARLY ts us x text u (search (rules, length-map))
          ]
    ]
