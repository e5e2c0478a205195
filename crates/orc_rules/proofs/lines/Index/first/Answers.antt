use Rattle.std.proofs.Common.{sym, ap, ◌∙◌}
use Rattle.std.proofs.lemmas.List.{length-map}
use Rattle.orc_rules.specs.Lines.{line_of, lines_of}
use Rattle.orc_rules.proofs.Places.{first_among, among_is_first}
use Rattle.orc_rules.proofs.lines.Index.first.Goals as goal

pub loop-shape-init : goal.loop-shape-init
loop-shape-init c =
    let lines = c.args.lines.now in
    let args = c.args.args.now in
    let places = c.args.self.now.places.entries in
    let shapes = c.args.self.now.shapes.items in
    let finds = c.requires.lines c.requires.shapes in
    ap (first_among places shapes args) (sym (length-map lines line_of)) ∙ among_is_first (lines_of lines) places args finds.0 shapes finds.1
