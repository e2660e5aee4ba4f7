-- What taking the bytes of an open input does to a desk, up to a limit.
use Rattle.std.specs.Prelude.{◌≡◌, ◌⊎◌, ℕ, ◌<◌, ◌≤◌, List, length, Option, Result, Ok, Err}
use Rattle.std.specs.Io.KnownBytes.{Consumes, IsAtEnd}
use Rattle.jpg_base.specs.Desk.{DeskState, Rose}
use Rattle.jpg_spec_words.specs.declared.answers.Why.{Why}
use Rattle.jpg_spec_words.specs.declared.answers.Why.TheVariants as why
use Rattle.jpg_spec_words.specs.declared.answers.Which.{Which}
use Rattle.jpg_desk.specs.Pump.{FedKind}
use Rattle.jpg_desk.specs.Stays.{OnlyReads}
use Rattle.jpg_desk.specs.declared.file.BytesSink.{BytesSink}

-- So many bytes were read.
abbrev pub ReadsFew : (ℕ → Type 0) → DeskState → DeskState → Type 0
ReadsFew Is old new = (read : List ℕ) × Consumes old.left new.left read × Is (length read)

-- The complete input was read, or this many bytes of it; or fewer, if reading failed.
abbrev pub AfterBytes : ℕ → Which → DeskState → Result (List ℕ) Why → DeskState → Type 0
AfterBytes limit file old (Ok bytes) new = Consumes old.left new.left bytes × (length bytes ≤ limit) × ((limit ≤ length bytes) ⊎ IsAtEnd new.left)
AfterBytes limit file old (Err (why.ReadFault is)) new = (is ≡ file) × ReadsFew (λ n. n < limit) old new × Rose old.counts.reads new.counts.reads
AfterBytes limit file old (Err why.NoMemory) new = ReadsFew (λ n. n ≤ limit) old new
AfterBytes limit file old (Err other) new = ⊥

-- a fault of the input is one of this file
abbrev pub why_of_file : Why → Which → Why
why_of_file (why.ReadFault is) file = why.ReadFault file
why_of_file other file = other

-- FED PIECE BY PIECE

-- these bytes
pub record HoldsBytes (from : BytesSink × DeskState) (bytes : List ℕ) (now : BytesSink × DeskState) : Type 0 where
  pub is : now.0.bytes ≡ bytes
  pub limit : now.0.limit ≡ from.0.limit
  pub kept : OnlyReads from.1 now.1
  pub read : Consumes from.1.left now.1.left bytes

-- to the end, or up to the limit; or there was no memory
abbrev pub AllTaken : BytesSink × DeskState → Result (Option ℕ) Why → BytesSink × DeskState → Type 0
AllTaken from (Ok early) now = HoldsBytes from now.0.bytes now × (length now.0.bytes ≤ from.0.limit) × ((from.0.limit ≤ length now.0.bytes) ⊎ IsAtEnd now.1.left)
AllTaken from (Err why.NoMemory) now = OnlyReads from.1 now.1 × ReadsFew (λ n. n ≤ from.0.limit) from.1 now.1
AllTaken from (Err other) now = ⊥

abbrev pub bytes_kind : FedKind BytesSink
bytes_kind = record { most = λ s. s.limit; fed = HoldsBytes; ended = AllTaken }
