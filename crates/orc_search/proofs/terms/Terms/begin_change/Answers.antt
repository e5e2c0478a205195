use Rattle.orc_search.specs.Nodes.{smalls}
use Rattle.orc_search.proofs.Changes.{room_images}
use Rattle.orc_search.proofs.terms.Terms.begin_change.Goals as goal

pub invariant_of-self : goal.invariant_of-self
invariant_of-self c = (c.self.invariant.0, c.self.invariant.1, room_images (smalls c.self.inside.nodes.items) c.self.inside.images c.make_room.new.self c.self.invariant.2 c.make_room.ensures)
