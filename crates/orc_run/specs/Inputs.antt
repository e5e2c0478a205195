-- What is known of the files that are read.
use Rattle.std.specs.Prelude.{◌≡◌, ℕ, List, [], ⊤}
use Rattle.std.specs.declared.option.Option.{Option}
use Rattle.std.specs.declared.option.Option.TheVariants.{None, Some}

-- the bytes are those of the file, where they are known
abbrev pub IsHeld : Option (List ℕ) → List ℕ → Type 0
IsHeld None bytes = ⊤
IsHeld (Some held) bytes = bytes ≡ held

-- the file is known to hold these bytes; or none, where no file is named
abbrev pub IsKnown : (List ℕ → Option (List ℕ)) → Option (List ℕ) → List ℕ → Type 0
IsKnown holds None bytes = bytes ≡ []
IsKnown holds (Some path) bytes = holds path ≡ Some bytes

-- no bytes where no file is named, otherwise those of the file, where they are known
abbrev pub IsRead : (List ℕ → Option (List ℕ)) → Option (List ℕ) → List ℕ → Type 0
IsRead holds None bytes = bytes ≡ []
IsRead holds (Some path) bytes = IsHeld (holds path) bytes
