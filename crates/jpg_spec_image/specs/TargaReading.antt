-- The state after the bytes of a Targa file so far.
use Rattle.std.specs.Prelude.{◌≡◌, ◌⊎◌, ℕ, ◌+◌, ◌-◌, ◌*◌, ◌<◌, ◌≤◌, true, false, List, [], ◌∷◌, ◌++◌, length, take, flat_map, slice_index, None}
use Rattle.jpg_spec.specs.Lists.{all_of}
use Rattle.jpg_spec_image.specs.Images.{Image}
use Rattle.jpg_spec_image.specs.TargaFile.{Packet, identifier_length, is_packed, is_packet, packet_text, packet_bytes, targa_fault, IsTargaFront}
use Rattle.jpg_spec_image.specs.TargaFaults.{IsWholeTarga, ShowsTargaFault}
use Rattle.jpg_spec_image.specs.TargaSteps.{TargaState, in_head, in_identifier, at_packet, in_copies, in_pixels, whole, failed, past, lost, total, size}
use Rattle.jpg_spec.specs.declared.fault.Fault.{Fault}

-- the last of the bytes completes an image, or has a fault
abbrev pub IsAnswered : List ℕ → Type 0
IsAnswered bytes = ((image : Image) × IsWholeTarga bytes image) ⊎ ((fault : Fault) × ShowsTargaFault fault bytes)

-- this is so of a prefix of the bytes, but not of all of them
abbrev pub IsPastTarga : List ℕ → Type 0
IsPastTarga bytes = (n : ℕ) × (n < length bytes) × IsAnswered (take n bytes)

-- a header, and a part of its identifier
pub record InIdentifier (bytes head : List ℕ) (left : ℕ) : Type 0 where
  pub part : List ℕ
  pub cut : bytes ≡ head ++ part
  pub long : length head ≡ 18
  pub right : targa_fault head ≡ None
  pub identifier_long : length part + left ≡ identifier_length head
  pub room : 0 < left

-- packets whose pixels have these bytes, and a part of one more
pub record InPackets (bytes head pixels part : List ℕ) : Type 0 where
  pub front : List ℕ
  pub packets : List Packet
  pub header : IsTargaFront head front
  pub packed : is_packed head ≡ true
  pub cut : bytes ≡ front ++ (flat_map packet_text packets ++ part)
  pub formed : all_of (is_packet (size head)) packets ≡ true
  pub same : flat_map packet_bytes packets ≡ pixels
  pub room : length pixels < total head

-- a pixel to be copied this many times
pub record InCopies (bytes head pixels : List ℕ) (count : ℕ) (pixel : List ℕ) : Type 0 where
  pub packets : InPackets bytes head pixels ((127 + count) ∷ pixel)
  pub some : 1 ≤ count
  pub few : count ≤ 128
  pub unfinished : length pixel < size head

-- a packet of pixels
pub record InPacket (bytes head pixels : List ℕ) (left : ℕ) : Type 0 where
  pub before : List ℕ
  pub count : ℕ
  pub part : List ℕ
  pub packets : InPackets bytes head before ((count - 1) ∷ part)
  pub some : 1 ≤ count
  pub few : count ≤ 128
  pub so_far : before ++ part ≡ pixels
  pub long : length part + left ≡ count * size head

-- raw pixels
pub record InRaw (bytes head pixels : List ℕ) (left : ℕ) : Type 0 where
  pub front : List ℕ
  pub header : IsTargaFront head front
  pub raw : is_packed head ≡ false
  pub cut : bytes ≡ front ++ pixels
  pub long : length pixels + left ≡ total head

pub record InPixels (bytes head pixels : List ℕ) (left : ℕ) : Type 0 where
  pub where_it_is : InPacket bytes head pixels left ⊎ InRaw bytes head pixels left
  pub some : 0 < left
  pub room : length pixels < total head

-- one of the bytes is none
abbrev pub HasNoByte : List ℕ → Type 0
HasNoByte bytes = (n : ℕ) × (n < length bytes) × (256 ≤ slice_index bytes n)

abbrev pub RepresentsTarga : List ℕ → TargaState → Type 0
RepresentsTarga bytes (in_head head) = (bytes ≡ head) × (length head < 18)
RepresentsTarga bytes (in_identifier head left) = InIdentifier bytes head left
RepresentsTarga bytes (at_packet head pixels) = InPackets bytes head pixels []
RepresentsTarga bytes (in_copies head pixels count pixel) = InCopies bytes head pixels count pixel
RepresentsTarga bytes (in_pixels head pixels left) = InPixels bytes head pixels left
RepresentsTarga bytes (whole image) = IsWholeTarga bytes image
RepresentsTarga bytes (failed fault) = ShowsTargaFault fault bytes
RepresentsTarga bytes past = IsPastTarga bytes
RepresentsTarga bytes lost = HasNoByte bytes
