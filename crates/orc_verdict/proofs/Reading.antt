-- The fault of a text that is read piece by piece.
use Rattle.std.proofs.Common.{List, ℕ, ◌++◌, Option}
use Rattle.std.specs.Io.KnownBytes.{Consumes}
use Rattle.orc_rules.specs.Nodes.{Listing}
use Rattle.orc_rules.specs.Sites.{Table}
use Rattle.orc_journal_text.specs.declared.lines.LinesFault.{LinesFault}
use Rattle.orc_journal_text.specs.declared.lines.LinesFault.TheVariants.{Text, Unread}
use Rattle.orc_journal_text.specs.Lines.{IsLinesFault}
use Rattle.orc_journal_text.specs.Pieces.{MayCome}
use Rattle.orc_journal_text.proofs.Coming.{may_come, some_may_come}
use Rattle.orc_verdict.specs.declared.lines.TextFault.{TextFault}
use Rattle.orc_verdict.specs.Lines.{IsTextFault, text_fault_of}

pub read_fault : (l : Listing) (t : Table) (left : Option (List ℕ)) (text : List ℕ) (f : LinesFault) → IsLinesFault t.names left text f → (piece : List ℕ) × MayCome left piece × IsTextFault l t (text ++ piece) (text_fault_of f)
read_fault l t left text (Text f) is = is
read_fault l t left text Unread is =
    let (bytes, may) = some_may_come left in
    (bytes, may, tt)

-- of a text of which a piece has come already
pub fault_with : (l : Listing) (t : Table) (a b : Option (List ℕ)) (piece : List ℕ) (f : TextFault) → Consumes a b piece → (more : List ℕ) × MayCome b more × IsTextFault l t (piece ++ more) f → (whole : List ℕ) × MayCome a whole × IsTextFault l t whole f
fault_with l t a b piece f p (more, may, is) = (piece ++ more, may_come a b piece more p may, is)
