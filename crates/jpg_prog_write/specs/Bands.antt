-- BANDS that are written one after another: what is left of them while there is a current one and an EOB run waits
-- (T.81, G.1.2.2, G.1.2.3; the choices are this writer's).
use Rattle.std.specs.Prelude.{◌≡◌, ℕ, ◌+◌, ◌-◌, ◌*◌, ◌/◌, min, ◌^◌, ◌<◌, ◌≤◌, Bool, true, nat_lt, ◌==◌, ◌||◌, if◌then◌else◌, List, [], ◌∷◌, ◌++◌, length, take, drop, map, slice_index_or, ℤ, pos, nat_abs}
use Rattle.std.specs.Int.{bit_at}
use Rattle.jpg_spec.specs.Lists.{is_empty}
use Rattle.jpg_spec.specs.Segments.{ScanHead}
use Rattle.jpg_spec.specs.Elements.{Element, is_zero}
use Rattle.jpg_spec_write.specs.Sending.{Sent, sent, is_new, corrections_of, value_elements, ended_bands, band_elements}
use Rattle.jpg_prog_write.specs.declared.band.Band.{Band}
use Rattle.jpg_prog_write.specs.declared.bands.BandPart.{BandPart}
use Rattle.jpg_prog_write.specs.declared.bands.Bands.{Bands}

-- LISTS

-- the elements of the rest of a band, where an EOB run of this many bands waits, and of the bands after it
unfoldable pub elements_after : ℕ → List Bool → List Sent → List (List Sent) → List Element
elements_after bands bits rest later =
    let waiting = bits ++ corrections_of rest in
    if is_empty rest then band_elements 32767 bands bits later
    else if bands + 1 == 32767 || nat_lt 937 (length waiting) then ended_bands (bands + 1) waiting ++ band_elements 32767 0 [] later
    else band_elements 32767 (bands + 1) waiting later

-- the elements of a band whose part up to its last newly sent value is before the rest, and of the bands after it
unfoldable pub elements_due : ℕ → List Bool → List Sent → List Sent → List (List Sent) → List Element
elements_due bands bits front rest later =
    if is_empty front then elements_after bands bits rest later
    else ended_bands bands bits ++ (value_elements 0 [] front ++ elements_after 0 [] rest later)

-- the value, or 0 if nothing of it is sent
abbrev pub kept_of : ℕ → ℤ → ℤ
kept_of al v = if nat_abs v / 2 ^ al == 0 then pos 0 else v

-- the last of them, if any, is newly sent
abbrev pub ends_new : List Sent → Bool
ends_new [] = true
ends_new (s ∷ []) = is_new s
ends_new (s ∷ t ∷ band) = ends_new (t ∷ band)

-- THE MACHINE

-- the values of a block from one place up to another, as they are sent
unfoldable pub sents : Band → ℕ → ℕ → List ℤ → List Sent
sents band from end block = map (sent band.refines band.al) (take (end - from) (drop from block))

-- a band of AC, down to a bit: 13 at most, with 12 bits per sample
pub record IsBand (band : Band) : Type 0 where
  pub some : 1 ≤ band.start
  pub order : band.start < band.end
  pub most : band.end ≤ 64
  pub bits : band.al ≤ 13

abbrev pub band_sents : Band → List ℤ → List Sent
band_sents band block = sents band band.start band.end block

-- the elements of the values from one place up to another, where no run of zeros is before them
abbrev pub front_elements : Band → ℕ → ℕ → List ℤ → List Element
front_elements band from last block = value_elements 0 [] (sents band from last block)

-- 64 values whose symbols are bytes
pub record IsShort (block : List ℤ) : Type 0 where
  pub long : length block ≡ 64
  pub short : (k : ℕ) → 1 ≤ k → k < 64 → nat_abs (slice_index_or block k (pos 0)) < 2 ^ 14

-- a bit of a word for each value that isn't 0
abbrev pub AreMarks : ℕ → List ℤ → Type 0
AreMarks marks block = (k : ℕ) → k < 64 → bit_at marks k ≡ (if is_zero (slice_index_or block k (pos 0)) then 0 else 1)

-- values of a band, the last of which, if there is one, is newly sent
pub record IsBandPart (part : BandPart) : Type 0 where
  pub band : IsBand part.band
  pub short : IsShort part.block.now
  pub marks : AreMarks part.marks part.block.now
  pub from : 1 ≤ part.from
  pub order : part.from ≤ part.last
  pub most : part.last ≤ part.band.end
  pub front : ends_new (sents part.band part.from part.last part.block.now) ≡ true

-- what is left from here on
abbrev pub elements_left : Bands → List (List Sent) → List Element
elements_left b later = elements_due b.bands b.waiting.items (sents b.band b.at b.last b.block) (sents b.band b.last b.band.end b.block) later

-- what is left between bands
abbrev pub elements_waiting : Bands → List (List Sent) → List Element
elements_waiting b later = band_elements 32767 b.bands b.waiting.items later

pub record IsReady (b : Bands) : Type 0 where
  pub band : IsBand b.band
  pub short : IsShort b.block
  pub marks : AreMarks b.marks b.block
  pub at : 1 ≤ b.at
  pub order : b.at ≤ b.last
  pub most : b.last ≤ b.band.end
  pub front : ends_new (sents b.band b.at b.last b.block) ≡ true
  pub few : b.bands < 32767
  pub waits : length b.waiting.items ≤ 937
  pub none : b.bands ≡ 0 → b.waiting.items ≡ []

-- no corrections wait
abbrev pub cleared : Bands → Bands
cleared b = record b { waiting = record { items = [] } }

-- a bound for the elements of the band
abbrev pub steps_left : Bands → ℕ
steps_left b = 2 * (b.band.end - b.at) + min 1 b.bands

-- the band of a scan
pub record IsBandOf (head : ScanHead) (band : Band) : Type 0 where
  pub start : band.start ≡ head.ss
  pub end : band.end ≡ head.se + 1
  pub al : band.al ≡ head.al
  pub refines : band.refines ≡ nat_lt 0 head.ah
