use Rattle.std.proofs.Common.{◌≡◌, take}
use Rattle.std.specs.List.{count_by}
use Rattle.orc_report.specs.Place.{is_line_feed}
use Rattle.orc_report.proofs.place.line_feeds.Given as goal

abbrev pub invariant-loop-byte : goal.invariant-loop-byte
invariant-loop-byte l = l.count ≡ count_by is_line_feed (take l.byte-index l.bytes)
