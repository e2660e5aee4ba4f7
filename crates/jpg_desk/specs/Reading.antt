-- What reading the input does to a desk.
use Rattle.std.specs.Prelude.{◌≡◌, ℕ, ◌≤◌, List, [], ◌++◌, length, take, Option, None, Some}
use Rattle.jpg_base.specs.declared.names.Name.{Name}
use Rattle.jpg_base.specs.declared.names.Got.{Got}
use Rattle.jpg_base.specs.declared.names.Got.TheVariants as got
use Rattle.jpg_base.specs.Desk.{DeskState}

-- no more bytes than there was room for
abbrev pub FitsRoom : ℕ → Got → Type 0
FitsRoom room (got.Bytes n) = 1 ≤ room → n ≤ room
FitsRoom room got.End = Unit {0}
FitsRoom room got.Failed = Unit {0}

-- if the files are known, the input is the file of this name
abbrev pub IsFile : Option (Name → Option (List ℕ)) → Name → List ℕ → Type 0
IsFile None name input = Unit {0}
IsFile (Some files) name input = files name ≡ Some input

-- the bytes that are left, if they are known
abbrev pub rest_of : Option (List ℕ) → List ℕ
rest_of None = []
rest_of (Some rest) = rest

-- These bytes of the file of this name, at most this many, were read, and the others are left.
abbrev pub ReadsBytes : ℕ → Name → List ℕ → DeskState → DeskState → Type 0
ReadsBytes most file bytes old new = (length bytes ≤ most) × IsFile old.files file (bytes ++ rest_of new.left)

-- Some bytes of it were, at most this many.
abbrev pub ReadsPart : ℕ → Name → DeskState → DeskState → Type 0
ReadsPart most file old new = (bytes : List ℕ) × ReadsBytes most file bytes old new

-- Of a file of these bytes a number of first ones was read, and the others are left.
abbrev pub IsReadTo : ℕ → List ℕ → DeskState → Type 0
IsReadTo most bytes new = bytes ≡ take most bytes ++ rest_of new.left
