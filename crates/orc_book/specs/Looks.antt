-- What a book tells of a token.
use Rattle.orc_book.specs.declared.looks.Needs.{Needs}
use Rattle.orc_frames.specs.declared.action.Action.{Action}
use Rattle.orc_frames.specs.declared.action.Action.TheVariants.{Fork, Prune, Other, Send}

-- the passes that a token needs beside its own: of its own group, and idle ones
abbrev pub needs_of : Action → Needs
needs_of Fork = record { same = 1; idle = 0 }
needs_of Prune = record { same = 1; idle = 1 }
needs_of Other = record { same = 0; idle = 1 }
needs_of (Send v) = record { same = 0; idle = 1 }
needs_of _ = record { same = 0; idle = 0 }
