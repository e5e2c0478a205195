-- What the reader's values stand for.
use Rattle.std.specs.Prelude.{◌≡◌, ℕ, List, [], ◌∷◌, map, Result, Ok, Err, if◌then◌else◌, length, nat_lt}
use Rattle.orc_lex.specs.declared.token.What.{What}
use Rattle.orc_syntax.specs.declared.tree.Ast.{Ast}
use Rattle.orc_syntax.specs.declared.tree.Definition.{Definition}
use Rattle.orc_syntax.specs.declared.reader.Operand.{Operand}
use Rattle.orc_syntax.specs.declared.reader.Joining.{Joining}
use Rattle.orc_syntax.specs.declared.reader.Joining.TheVariants as joinings
use Rattle.orc_syntax.specs.declared.reader.Frame.{Frame}
use Rattle.orc_syntax.specs.declared.reader.Frame.TheVariants as frames
use Rattle.orc_syntax.specs.declared.reader.Heading.{Heading}
use Rattle.orc_syntax.specs.declared.reader.Heading.TheVariants as headings
use Rattle.orc_syntax.specs.declared.reader.Mode.{Mode}
use Rattle.orc_syntax.specs.declared.reader.Mode.TheVariants as modes
use Rattle.orc_syntax.specs.declared.reader.Reader.{Reader}
use Rattle.orc_syntax.specs.declared.reader.StepError.{StepError}
use Rattle.orc_syntax.specs.declared.reader.StepError.TheVariants as errors
use Rattle.orc_syntax.specs.Tree.{Item}
use Rattle.orc_syntax.specs.Ast.{label, link, item}
use Rattle.orc_lex.specs.Tokens.{Sort}
use Rattle.orc_syntax.specs.Machine as machine
use Rattle.orc_syntax.specs.Deep.{Count, none, counted, IsTooDeep}
use Rattle.orc_syntax.specs.declared.depth.Depth.{Depth}
use Rattle.orc_syntax.specs.declared.fault.SyntaxFault.{SyntaxFault}
use Rattle.orc_syntax.specs.declared.fault.SyntaxFault.TheVariants as faults

abbrev pub operand : Operand → machine.Operand
operand o = record { start = o.start; end = o.end }

abbrev pub joining : Joining → machine.Joining
joining (joinings.Operator op) = machine.Op (link op)
joining (joinings.Val x) = machine.Bind (label x)

abbrev pub frame : Frame → machine.Frame
frame (frames.Before j start) = machine.Before (joining j) start
frame (frames.Bracket start) = machine.Bracket start
frame (frames.Arguments x count) = machine.Arguments (label x) count
frame (frames.Bound x start) = machine.Bound (label x) start
frame (frames.Body f) = machine.Body (label f)

-- the frames, the last one first
abbrev pub over : List machine.Frame → List Frame → List machine.Frame
over k [] = k
over k (f ∷ fs) = over (frame f ∷ k) fs

abbrev pub heading : Heading → machine.Heading
heading (headings.Val start) = machine.ValWord start
heading (headings.ValName start x) = machine.ValName start (label x)
heading headings.Def = machine.DefWord
heading (headings.DefName f) = machine.DefName (label f)
heading (headings.Opened f) = machine.Opened (label f)
heading (headings.Parameter f) = machine.Parameter (label f)
heading (headings.Comma f) = machine.Separated (label f)
heading (headings.Closed f) = machine.Closed (label f)

abbrev pub mode : Mode → machine.Mode
mode modes.Want = machine.Want
mode modes.First = machine.First
mode (modes.Named x) = machine.Named (label x)
mode (modes.Have o) = machine.Have (operand o)
mode (modes.Signed s o) = machine.Signed s (operand o)
mode (modes.Variable s o x) = machine.Variable s (operand o) (label x)
mode (modes.Heads h) = machine.Heads (heading h)

abbrev pub definition : Definition → machine.Defined
definition d = record { name = label d.name; parameters = map label d.parameters.items; body = map item d.body.nodes.items }

abbrev pub context : Reader → machine.Context
context r = record { definitions = map definition r.definitions.items; parameters = map label r.parameters.items }

abbrev pub nodes : Reader → List Item
nodes r = map item r.nodes.items

abbrev pub stack : Reader → List machine.Frame
stack r = over [] r.frames.items

-- An error is what the machine says was wanted, unless memory runs out; the reader knows no depth.
abbrev pub Fails : {Y : Type 0} → StepError → Result Y What → Type 0
Fails errors.Memory r = Unit {0}
Fails errors.Deep r = ⊥
Fails (errors.Wanted what) r = r ≡ Err what

-- a step's result and the reader that it leaves are the state that the machine says
abbrev pub Leaves : Result Mode StepError → Reader → Result machine.State What → Type 0
Leaves (Ok m) r s = s ≡ Ok (machine.state (mode m) (context r) (nodes r) (stack r))
Leaves (Err e) r s = Fails e s

-- only memory can run out
abbrev pub Makes : Result Operand StepError → (Operand → Type 0) → Type 0
Makes (Ok o) p = p o
Makes (Err errors.Memory) p = Unit {0}
Makes (Err errors.Deep) p = ⊥
Makes (Err (errors.Wanted what)) p = ⊥

abbrev pub ends : Ast → machine.Posted
ends a = record { definitions = map definition a.definitions.items; main = map item a.main.nodes.items }

-- the tree is the one that the machine says
abbrev pub Ends : Result Ast StepError → Result machine.Posted What → Type 0
Ends (Ok a) r = r ≡ Ok (ends a)
Ends (Err e) r = Fails e r

-- a list from its end
abbrev pub last_first : List ℕ → List ℕ → List ℕ
last_first k [] = k
last_first k (x ∷ xs) = last_first (x ∷ k) xs

abbrev pub count_of : Depth → Count
count_of d = record { levels = d.levels; outside = last_first [] d.outside.items; operators = d.operators; half = d.half }

-- One more token is counted, or is one too many.
abbrev pub Counts : {A : Type 0} → Result A StepError → Count → Count → Sort → Type 0
Counts (Ok done) c d sort = (IsTooDeep c sort → ⊥) × (d ≡ counted c sort)
Counts (Err errors.Memory) c d sort = Unit {0}
Counts (Err errors.Deep) c d sort = IsTooDeep c sort
Counts (Err (errors.Wanted what)) c d sort = ⊥

-- the count where a token comes: nothing where a definition has just become whole
abbrev pub from_here : machine.Context → machine.Context → Count → Count
from_here old new c = if nat_lt (length old.definitions) (length new.definitions) then none else c

-- What one more token does: it is taken and counted; or is one too many; or is refused.
abbrev pub Takes : Result Mode StepError → Reader → Count → machine.Context → Count → Sort → Result machine.State What → Type 0
Takes (Ok m) r new old c sort s = (s ≡ Ok (machine.state (mode m) (context r) (nodes r) (stack r))) × (IsTooDeep (from_here old (context r) c) sort → ⊥) × (new ≡ counted (from_here old (context r) c) sort)
Takes (Err errors.Memory) r new old c sort s = Unit {0}
Takes (Err errors.Deep) r new old c sort s = (z : machine.State) × (s ≡ Ok z) × IsTooDeep (from_here old z.context c) sort
Takes (Err (errors.Wanted what)) r new old c sort s = s ≡ Err what

-- an error at a place, as a fault
abbrev pub fault_by : StepError → ℕ → SyntaxFault
fault_by errors.Memory at = faults.Memory
fault_by errors.Deep at = faults.Deep at
fault_by (errors.Wanted what) at = faults.Expected at what
