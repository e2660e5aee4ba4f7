-- What contracts see of a desk, and what its calls do to it.
use Rattle.std.specs.Prelude.{◌≡◌, ℕ, ◌+◌, ◌-◌, ◌^◌, ◌≤◌, min, Bool, true, false, List, [], ◌∷◌, ◌++◌, length, take, Option, None, Some}
use Rattle.std.specs.Prelude.{refl}
use Rattle.std.proofs.Common.{ap, append_assoc}
use Rattle.std.specs.Io.KnownBytes.{Appends, Consumes, IsAtEnd}
use Rattle.jpg_base.specs.declared.names.Name.{Name}
use Rattle.jpg_base.specs.declared.names.Put.{Put}
use Rattle.jpg_base.specs.declared.names.Put.TheVariants.{Done, Failed}
use Rattle.jpg_base.specs.declared.names.Got.{Got}
use Rattle.jpg_base.specs.declared.names.Got.TheVariants as got
use Rattle.jpg_base.specs.declared.names.Counts.{Counts}

-- The state of a desk. None is what isn't known of it.
pub record DeskState : Type 0 where
  -- the bytes of each named file
  pub files : Option (Name → Option (List ℕ))
  -- the bytes left of the open input
  pub left : Option (List ℕ)
  -- the outputs that were created, the first one first
  pub outputs : Option (List (Name × List ℕ))
  -- the bytes of all messages
  pub said : Option (List ℕ)
  -- the names that were opened or created, in order, each with the result
  pub asked : Option (List (Name × Put))
  pub counts : Counts
  pub input_open : Bool
  pub output_created : Bool

-- a count after one more failure: it stops at its last value
abbrev pub raised : ℕ → ℕ
raised count = min (count + 1) (2 ^ 64 - 1)

-- a count rose, or is at its last value
abbrev pub Rose : ℕ → ℕ → Type 0
Rose before now = raised before ≤ now

-- no count fell
pub record NoneFell (old new : Counts) : Type 0 where
  pub opens : old.opens ≤ new.opens
  pub reads : old.reads ≤ new.reads
  pub writes : old.writes ≤ new.writes
  pub says : old.says ≤ new.says

-- the counts after a call that raises the count of its kind by one where it fails, and no other count
abbrev pub counted_open : Put → Counts → Counts
counted_open Done counts = counts
counted_open Failed counts = record counts { opens = raised counts.opens }

abbrev pub counted_read : Got → Counts → Counts
counted_read (got.Bytes n) counts = counts
counted_read got.End counts = counts
counted_read got.Failed counts = record counts { reads = raised counts.reads }

abbrev pub counted_write : Put → Counts → Counts
counted_write Done counts = counts
counted_write Failed counts = record counts { writes = raised counts.writes }

abbrev pub counted_say : Put → Counts → Counts
counted_say Done counts = counts
counted_say Failed counts = record counts { says = raised counts.says }

-- one more name was recorded, or names aren't recorded any more
abbrev pub NotesName : Option (List (Name × Put)) → Name × Put → Option (List (Name × Put)) → Type 0
NotesName old entry None = Unit {0}
NotesName None entry (Some new) = ⊥
NotesName (Some old) entry (Some new) = new ≡ old ++ entry ∷ []

-- where the files are known, the input is the named one from its first byte
abbrev pub OpensFile : Option (Name → Option (List ℕ)) → Name → Option (List ℕ) → Type 0
OpensFile None name left = Unit {0}
OpensFile (Some files) name left = (bytes : List ℕ) × (files name ≡ Some bytes) × (left ≡ Some bytes)

-- what is known remains known
abbrev pub StaysTold : {A : Type 0} → Option A → Option A → Type 0
StaysTold None new = Unit {0}
StaysTold (Some x) None = ⊥
StaysTold (Some x) (Some y) = Unit {0}

abbrev pub AfterOpen : DeskState → Name → Put → DeskState → Type 0
AfterOpen old name Done new = (new.input_open ≡ true) × StaysTold old.left new.left × OpensFile old.files name new.left
AfterOpen old name Failed new = Rose old.counts.opens new.counts.opens × (new.input_open ≡ false)

-- `open`
pub record Opens (old : DeskState) (name : Name) (answer : Put) (new : DeskState) : Type 0 where
  pub after : AfterOpen old name answer new
  pub asked : NotesName old.asked (name, answer) new.asked
  pub counts : NoneFell old.counts new.counts
  pub files : new.files ≡ old.files
  pub outputs : new.outputs ≡ old.outputs
  pub said : new.said ≡ old.said
  pub output_created : new.output_created ≡ old.output_created

-- the buffer begins with at least one of the next bytes, or none are left
abbrev pub AfterRead : DeskState → Got → List ℕ → DeskState → Type 0
AfterRead old (got.Bytes n) buf new = (1 ≤ n) × (n ≤ length buf) × Consumes old.left new.left (take n buf)
AfterRead old got.End buf new = IsAtEnd old.left × (new.left ≡ old.left)
AfterRead old got.Failed buf new = Rose old.counts.reads new.counts.reads × (new.left ≡ old.left)

-- With bytes the input remains open. After its end, and after a failure, nothing says that it is.
abbrev pub KeepsInputOpen : DeskState → Got → DeskState → Type 0
KeepsInputOpen old (got.Bytes n) new = new.input_open ≡ old.input_open
KeepsInputOpen old got.End new = Unit {0}
KeepsInputOpen old got.Failed new = Unit {0}

-- `read`
pub record Reads (old : DeskState) (answer : Got) (buf : List ℕ) (new : DeskState) : Type 0 where
  pub after : AfterRead old answer buf new
  pub counts : NoneFell old.counts new.counts
  pub asked : new.asked ≡ old.asked
  pub files : new.files ≡ old.files
  pub outputs : new.outputs ≡ old.outputs
  pub said : new.said ≡ old.said
  pub input_open : KeepsInputOpen old answer new
  pub output_created : new.output_created ≡ old.output_created

-- outputs that are known gain an empty one
abbrev pub AddsOutput : Option (List (Name × List ℕ)) → Name → Option (List (Name × List ℕ)) → Type 0
AddsOutput None name new = Unit {0}
AddsOutput (Some old) name None = ⊥
AddsOutput (Some old) name (Some new) = new ≡ old ++ (name, []) ∷ []

abbrev pub AfterCreate : DeskState → Name → Put → DeskState → Type 0
AfterCreate old name Done new = (new.output_created ≡ true) × AddsOutput old.outputs name new.outputs
AfterCreate old name Failed new = Rose old.counts.opens new.counts.opens × (new.outputs ≡ old.outputs) × (new.output_created ≡ old.output_created)

-- `create`
pub record Creates (old : DeskState) (name : Name) (answer : Put) (new : DeskState) : Type 0 where
  pub after : AfterCreate old name answer new
  pub asked : NotesName old.asked (name, answer) new.asked
  pub counts : NoneFell old.counts new.counts
  pub files : new.files ≡ old.files
  pub left : new.left ≡ old.left
  pub said : new.said ≡ old.said
  pub input_open : new.input_open ≡ old.input_open

-- the outputs, where the last one gains these bytes
abbrev pub append_last : List (Name × List ℕ) → List ℕ → List (Name × List ℕ)
append_last [] bytes = []
append_last (output ∷ []) bytes = (output.0, output.1 ++ bytes) ∷ []
append_last (output ∷ next ∷ outputs) bytes = output ∷ append_last (next ∷ outputs) bytes

abbrev pub AppendsLast : Option (List (Name × List ℕ)) → List ℕ → Option (List (Name × List ℕ)) → Type 0
AppendsLast None bytes new = Unit {0}
AppendsLast (Some old) bytes None = ⊥
AppendsLast (Some old) bytes (Some new) = new ≡ append_last old bytes

abbrev pub AfterWrite : DeskState → List ℕ → Put → DeskState → Type 0
AfterWrite old piece Done new = AppendsLast old.outputs piece new.outputs
AfterWrite old piece Failed new = Rose old.counts.writes new.counts.writes × ((n : ℕ) × AppendsLast old.outputs (take n piece) new.outputs)

-- `write`
pub record Writes (old : DeskState) (piece : List ℕ) (answer : Put) (new : DeskState) : Type 0 where
  pub after : AfterWrite old piece answer new
  pub asked : new.asked ≡ old.asked
  pub counts : NoneFell old.counts new.counts
  pub files : new.files ≡ old.files
  pub left : new.left ≡ old.left
  pub said : new.said ≡ old.said
  pub input_open : new.input_open ≡ old.input_open
  pub output_created : new.output_created ≡ old.output_created

abbrev pub AfterSay : DeskState → List ℕ → Put → DeskState → Type 0
AfterSay old text Done new = Appends old.said new.said text
AfterSay old text Failed new = Rose old.counts.says new.counts.says × ((n : ℕ) × Appends old.said new.said (take n text))

-- `say`
pub record Says (old : DeskState) (text : List ℕ) (answer : Put) (new : DeskState) : Type 0 where
  pub after : AfterSay old text answer new
  pub asked : new.asked ≡ old.asked
  pub counts : NoneFell old.counts new.counts
  pub files : new.files ≡ old.files
  pub left : new.left ≡ old.left
  pub outputs : new.outputs ≡ old.outputs
  pub input_open : new.input_open ≡ old.input_open
  pub output_created : new.output_created ≡ old.output_created

-- what a read of a list of bytes gives, and the rest of the list
abbrev pub Gives : List ℕ → Got → List ℕ → List ℕ → Type 0
Gives old (got.Bytes n) buf new = (1 ≤ n) × (n ≤ length buf) × (old ≡ take n buf ++ new)
Gives old got.End buf new = (old ≡ []) × (new ≡ old)
Gives old got.Failed buf new = ⊥

abbrev pub AfterAddOutput : List (Name × List ℕ) → Name → Put → List (Name × List ℕ) → Type 0
AfterAddOutput old name Done new = new ≡ old ++ (name, []) ∷ []
AfterAddOutput old name Failed new = new ≡ old

abbrev pub AfterAppend : List ℕ → List ℕ → Put → List ℕ → Type 0
AfterAppend old piece Done new = new ≡ old ++ piece
AfterAppend old piece Failed new = (n : ℕ) × (new ≡ old ++ take n piece)

abbrev pub AfterAppendLast : List (Name × List ℕ) → List ℕ → Put → List (Name × List ℕ) → Type 0
AfterAppendLast old piece Done new = new ≡ append_last old piece
AfterAppendLast old piece Failed new = (n : ℕ) × (new ≡ append_last old (take n piece))

-- LAWS

-- the last of outputs with one more
pub append_last-push : (outputs : List (Name × List ℕ)) (name : Name) (had bytes : List ℕ) → append_last (outputs ++ (name, had) ∷ []) bytes ≡ outputs ++ (name, had ++ bytes) ∷ []
append_last-push [] name had bytes = refl
append_last-push (o ∷ []) name had bytes = refl
append_last-push (o ∷ p ∷ os) name had bytes = ap (λ (xs : List (Name × List ℕ)). o ∷ xs) (append_last-push (p ∷ os) name had bytes)

-- bytes and then more bytes
pub append_last-twice : (outputs : List (Name × List ℕ)) (xs ys : List ℕ) → append_last (append_last outputs xs) ys ≡ append_last outputs (xs ++ ys)
append_last-twice [] xs ys = refl
append_last-twice (o ∷ []) xs ys = ap (λ (b : List ℕ). (let q : List (Name × List ℕ) = (o.0, b) ∷ [] in q)) (append_assoc o.1 xs ys)
append_last-twice (o ∷ p ∷ []) xs ys = ap (λ (rest : List (Name × List ℕ)). o ∷ rest) (append_last-twice (p ∷ []) xs ys)
append_last-twice (o ∷ p ∷ q ∷ os) xs ys = ap (λ (rest : List (Name × List ℕ)). o ∷ rest) (append_last-twice (p ∷ q ∷ os) xs ys)
