use Rattle.std.proofs.Common.{◌≡◌, take}
use Rattle.std.specs.List.{count_by}
use Rattle.orc_report.specs.Place.{begins_character}
use Rattle.orc_report.proofs.place.characters.Given as goal

abbrev pub invariant-loop-byte : goal.invariant-loop-byte
invariant-loop-byte l = l.count ≡ count_by begins_character (take l.byte-index l.bytes)
