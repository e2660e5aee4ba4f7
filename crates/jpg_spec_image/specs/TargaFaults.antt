-- WHAT A TARGA FILE MEANS, and its first fault (Truevision TGA File Format Specification, version 2.0; what is left
-- out is the suite's).
use Rattle.std.specs.Prelude.{◌≡◌, ◌⊎◌, ℕ, ◌≤◌, List, ◌++◌, length, take, Some}
use Rattle.jpg_spec.specs.Markers.{IsLeast}
use Rattle.jpg_spec_image.specs.Images.{Image}
use Rattle.jpg_spec_image.specs.TargaFile.{IsTargaBody, IsTargaFront, targa_fault, targa_image}
use Rattle.jpg_spec.specs.declared.fault.Fault.{Fault}
use Rattle.jpg_spec.specs.declared.fault.Fault.TheVariants.{ImageShort}

-- COMPLETE: the last of the bytes makes the last pixel known

pub record IsWholeTarga (bytes : List ℕ) (image : Image) : Type 0 where
  pub head : List ℕ
  pub front : List ℕ
  pub body : List ℕ
  pub pixels : List ℕ
  pub header : IsTargaFront head front
  pub cut : bytes ≡ front ++ body
  pub all : IsTargaBody head body pixels
  pub same : image ≡ targa_image head pixels

-- A file has an image if a prefix is complete. What follows it is left unread.
abbrev pub TargaMeans : List ℕ → Image → Type 0
TargaMeans bytes image = (n : ℕ) × (n ≤ length bytes) × IsWholeTarga (take n bytes) image

-- THE FIRST FAULT: of the header, with its last byte; or the bytes end too early

abbrev pub ShowsTargaFault : Fault → List ℕ → Type 0
ShowsTargaFault fault bytes = (length bytes ≡ 18) × (targa_fault bytes ≡ Some fault)

-- no prefix of the bytes is complete or has a fault
abbrev pub IsOpenTarga : List ℕ → Type 0
IsOpenTarga bytes = (n : ℕ) → n ≤ length bytes → ((fault : Fault) → ShowsTargaFault fault (take n bytes) → ⊥) × ((image : Image) → IsWholeTarga (take n bytes) image → ⊥)

abbrev pub IsTargaFault : List ℕ → Fault → ℕ → Type 0
IsTargaFault bytes fault n = IsLeast ShowsTargaFault bytes fault n ⊎ ((fault ≡ ImageShort) × (n ≡ length bytes) × IsOpenTarga bytes)
