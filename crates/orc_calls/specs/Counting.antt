-- How many calls there were of each site with the same arguments, in a map whose keys are lists of numbers.
use Rattle.std.specs.Prelude.{◌≡◌, ◌≤◌, ℕ, suc, pos, negsuc, List, [], ◌∷◌, None, cond, nat_eq, ◌&&◌, true, unsigned_abs, bytes_eq, slice_index_or, unwrap_or}
use Rattle.std.specs.Global.{Vec}
use Rattle.std.specs.Map.{lookup}
use Rattle.orc_rules.specs.declared.value.Value.{Value}
use Rattle.orc_rules.specs.declared.value.Value.TheVariants.{Number, Truth, Signal}
use Rattle.orc_rules.specs.declared.value.Found.{Found}
use Rattle.orc_rules.specs.Sites.{Site, values_eq, find, is_scripted}
use Rattle.orc_rules.specs.Timed.{CallMade, nth_of}

-- the kind of a value: a number from 0 on, a negative one, a truth value, `signal`
abbrev pub kind_of : Value → ℕ
kind_of (Number (pos n)) = 0
kind_of (Number (negsuc n)) = 1
kind_of (Truth b) = 2
kind_of Signal = 3

-- which of its kind a value is
abbrev pub amount_of : Value → ℕ
amount_of (Number n) = unsigned_abs n
amount_of (Truth b) = cond b 1 0
amount_of Signal = 0

-- two numbers for each value: its kind, and which of its kind it is
abbrev pub words_of : List Value → List ℕ
words_of [] = []
words_of (v ∷ vs) = kind_of v ∷ amount_of v ∷ words_of vs

-- the key of a site with these arguments
abbrev pub key : ℕ → List Value → List ℕ
key m args = m ∷ words_of args

-- an entry of the map: a key, and which call is the next one
abbrev pub entry_of : Vec ℕ × ℕ → List ℕ × ℕ
entry_of e = (e.0.items, e.1)

-- the entries that a map would have for the next calls without arguments, of the sites from m on; a site with 0 has none
abbrev pub bare_entries : ℕ → List ℕ → List (List ℕ × ℕ)
bare_entries m [] = []
bare_entries m (n ∷ ns) = cond (nat_eq n 0) (bare_entries (suc m) ns) ((m ∷ [], n) ∷ bare_entries (suc m) ns)

-- ns' are ns but for site m, whose next call is n
abbrev pub IsSetAt : ℕ → ℕ → List ℕ → List ℕ → Type 0
IsSetAt m n ns ns' = (i : ℕ) → slice_index_or ns' i 0 ≡ cond (nat_eq i m) n (slice_index_or ns i 0)

-- each call that a map has is one from 1 on
abbrev pub AreFromOne : List (List ℕ × ℕ) → Type 0
AreFromOne es = (words : List ℕ) → 1 ≤ unwrap_or (lookup (bytes_eq words) es) 1

-- a map has no call without arguments
abbrev pub HasNoBare : List (List ℕ × ℕ) → Type 0
HasNoBare es = (m : ℕ) → lookup (bytes_eq (m ∷ [])) es ≡ None

-- which call of a site with these arguments the next one is, from 1
abbrev pub nth_in : List (List ℕ × ℕ) → ℕ → List Value → ℕ
nth_in counts m args = unwrap_or (lookup (bytes_eq (key m args)) counts) 1

-- one more call of site m with these arguments is counted, and no other
abbrev pub CountsOne : ℕ → List Value → List (List ℕ × ℕ) → List (List ℕ × ℕ) → Type 0
CountsOne m args counts counts' = (n : ℕ) (others : List Value) → nth_in counts' n others ≡ cond (nat_eq n m && values_eq others args) (suc (nth_in counts n others)) (nth_in counts n others)

-- the counts are those of the calls that were made, for each site that a script answers
abbrev pub AreCounted : List Site → List (List ℕ × ℕ) → List CallMade → Type 0
AreCounted sites counts calls = (m : ℕ) (args : List Value) → is_scripted sites m ≡ true → nth_in counts m args ≡ nth_of m args calls

-- if the calls that were made are counted before, they are counted afterwards with one more call of this site with these arguments
abbrev pub CountsCall : List Site → ℕ → List Value → List (List ℕ × ℕ) → List (List ℕ × ℕ) → Type 0
CountsCall sites m args counts counts' = (calls : List CallMade) (c : CallMade) → c.site ≡ m → c.args ≡ args → AreCounted sites counts calls → AreCounted sites counts' (c ∷ calls)

-- the table's answer to the next call of a site with these arguments, after the calls that are counted
abbrev pub NextFound : List Site → List (List ℕ × ℕ) → ℕ → List Value → Found → Type 0
NextFound sites counts m args found = (calls : List CallMade) → AreCounted sites counts calls → found ≡ find sites m args (nth_of m args calls)

-- which call of this site with these arguments the next one is, after the calls that are counted, where a script answers the site
abbrev pub NextNth : List Site → List (List ℕ × ℕ) → ℕ → List Value → ℕ → Type 0
NextNth sites counts m args n = (calls : List CallMade) → AreCounted sites counts calls → is_scripted sites m ≡ true → n ≡ nth_of m args calls
