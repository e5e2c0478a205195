use Rattle.std.proofs.Common.{◌≡◌, true, false, sym, ap, subst, ◌∙◌}
use Rattle.std.specs.Prelude.{is_some}
use Rattle.orc_rules.specs.Lines.{found, is_among, shape_of}
use Rattle.orc_rules.proofs.Values.{found_by_eq, puts, Puts}
use Rattle.orc_rules.proofs.Places.{place_again, place_first}
use Rattle.orc_rules.proofs.lines.Index.enter.Goals as goal

-- no earlier line has these patterns
pub returns-in_ok-insert-clause-entered : goal.returns-in_ok-insert-clause-entered
returns-in_ok-insert-clause-entered c few =
    let patterns = c.args.patterns.now in
    let places = c.args.self.now.places in
    let key = c.in_ok-from_slice.field-0 in
    let none : is_some (found patterns places.entries) ≡ false = ap is_some (sym (found_by_eq patterns places.entries)) ∙ sym c.contains_key.ensures ∙ c.if-not-contains_key.true in
    let put : Puts patterns c.args.place places.entries c.insert.new.self.entries = subst (λ ps. Puts ps c.args.place places.entries c.insert.new.self.entries) c.in_ok-from_slice.ensures.items (puts key.items c.args.place places c.insert.new.self c.in_ok-insert.ensures.updates) in
    let known : is_among (shape_of patterns) c.know.new.shapes.items ≡ true = ap (λ s. is_among s c.know.new.shapes.items) (sym c.in_ok-shape.ensures) ∙ c.in_ok-know.ensures.known in
    (place_first patterns c.args.place places.entries c.insert.new.self.entries none put, known, c.know.ensures.kept)

-- an earlier one has them
pub returns-else-not-contains_key-clause-entered : goal.returns-else-not-contains_key-clause-entered
returns-else-not-contains_key-clause-entered c few =
    let patterns = c.args.patterns.now in
    let places = c.args.self.now.places in
    let there : is_some (found patterns places.entries) ≡ true = ap is_some (sym (found_by_eq patterns places.entries)) ∙ sym c.contains_key.ensures ∙ c.if-not-contains_key.false in
    let known : is_among (shape_of patterns) c.know.new.shapes.items ≡ true = ap (λ s. is_among s c.know.new.shapes.items) (sym c.in_ok-shape.ensures) ∙ c.in_ok-know.ensures.known in
    (place_again patterns c.args.place places.entries there, known, c.know.ensures.kept)
