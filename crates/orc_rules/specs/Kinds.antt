-- What an entry is, and the word with which its line begins.
use Rattle.std.specs.Prelude.{ℕ, List, codes}
use Rattle.orc_rules.specs.declared.entry.Entry.{Entry}
use Rattle.orc_rules.specs.declared.entry.Entry.TheVariants.{End, Fork, Seq, Other, Def, Void, Open, Send, Call, Return, ReturnHalt, Bind, Lost, Right, Publish, Tick, Cancel}
use Rattle.orc_rules.specs.declared.kind.Kind.{Kind}
use Rattle.orc_rules.specs.declared.kind.Kind.TheVariants as kinds

-- what an entry is
abbrev pub kind_of : Entry → Kind
kind_of (End _) = kinds.End
kind_of (Fork _ _ _) = kinds.Fork
kind_of (Seq _ _) = kinds.Seq
kind_of (Other _ _) = kinds.Other
kind_of (Def _ _) = kinds.Def
kind_of (Void _) = kinds.Void
kind_of (Open _ _ _ _) = kinds.Open
kind_of (Send _ _ _) = kinds.Send
kind_of (Call _ _ _ _) = kinds.Call
kind_of (Return _ _ _) = kinds.Return
kind_of (ReturnHalt _) = kinds.ReturnHalt
kind_of (Bind _ _ _) = kinds.Bind
kind_of (Lost _) = kinds.Lost
kind_of (Right _ _) = kinds.Right
kind_of (Publish _ _) = kinds.Publish
kind_of (Tick _) = kinds.Tick
kind_of (Cancel _) = kinds.Cancel

-- the word of a kind: both returns have one
abbrev pub word_of : Kind → List ℕ
word_of kinds.End = codes "end"
word_of kinds.Fork = codes "fork"
word_of kinds.Seq = codes "seq"
word_of kinds.Other = codes "other"
word_of kinds.Def = codes "def"
word_of kinds.Void = codes "void"
word_of kinds.Open = codes "open"
word_of kinds.Send = codes "send"
word_of kinds.Call = codes "call"
word_of kinds.Return = codes "return"
word_of kinds.ReturnHalt = codes "return"
word_of kinds.Bind = codes "bind"
word_of kinds.Lost = codes "lost"
word_of kinds.Right = codes "right"
word_of kinds.Publish = codes "publish"
word_of kinds.Tick = codes "tick"
word_of kinds.Cancel = codes "cancel"
