-- What the contents of a restart interval's segment and of a scan header's mean, or their first fault (T.81, B.2.3,
-- B.2.4.4).
use Rattle.std.specs.Prelude.{◌≡◌, ℕ, ◌<◌, ◌≤◌, ◌+◌, ◌*◌, ◌/◌, ◌%◌, Bool, true, nat_lt, nat_le, not, ◌&&◌, ◌||◌, ◌==◌, if◌then◌else◌, List, [], ◌∷◌, length, slice_index, take, drop, All, Ok, Err}
use Rattle.jpg_spec.specs.Lists.{all_of, is_among, is_distinct, index_of}
use Rattle.jpg_spec.specs.Faults.{Parsed, refuse}
use Rattle.jpg_spec.specs.Segments.{ScanHead, head_components, two_bytes}
use Rattle.jpg_spec.specs.Geometry.{Frame, bounds, factor_sum, is_progressive}
use Rattle.jpg_spec.specs.FrameHeader.{identifiers}
use Rattle.jpg_spec.specs.declared.fault.Fault.TheVariants.{BadLength, ScanComponent, McuTooLarge, ScanParameters}
use Rattle.jpg_spec.specs.declared.frame.ScanPart.{ScanPart}

-- RESTART INTERVAL (B.2.4.4, Figure B.9)

abbrev pub restart_interval : List ℕ → Parsed ℕ
restart_interval (high ∷ low ∷ []) = Ok (two_bytes high low)
restart_interval contents = Err BadLength

-- SCAN HEADER (B.2.3, Figure B.4)

-- Two bytes per component: its identifier and its table slots.
abbrev pub parsed_ids : List ℕ → List ℕ
parsed_ids [] = []
parsed_ids (id ∷ []) = []
parsed_ids (id ∷ slots ∷ bytes) = id ∷ parsed_ids bytes

abbrev pub parsed_part : Frame → ℕ → ℕ → ScanPart
parsed_part f id slots = record { component = index_of id (identifiers f.components); dc = slots / 16; ac = slots % 16 }

abbrev pub parsed_parts : Frame → List ℕ → List ScanPart
parsed_parts f [] = []
parsed_parts f (id ∷ []) = []
parsed_parts f (id ∷ slots ∷ bytes) = parsed_part f id slots ∷ parsed_parts f bytes

-- DC, or a band of AC of one component; Ah is 0 or one more than Al (T.81, G.1.1.1)
abbrev pub is_band : ℕ → ScanHead → Bool
is_band count head = if head.ss == 0 then head.se == 0 else count == 1 && (nat_le head.ss head.se && nat_le head.se 63)

abbrev pub are_bits : Frame → ScanHead → Bool
are_bits f head = (head.ah == 0 || head.ah == head.al + 1) && nat_le head.al (bounds f).al

abbrev pub are_parameters : Frame → ℕ → ScanHead → Bool
are_parameters f count head = is_band count head && are_bits f head

abbrev pub are_among : Frame → List ℕ → Bool
are_among f ids = all_of (λ id. is_among id (identifiers f.components)) ids

-- a header of this many components with these identifiers
unfoldable pub checked_head : Frame → ℕ → List ℕ → ScanHead → Parsed ScanHead
checked_head f count ids head =
    refuse ScanComponent (count == 0 || nat_lt 4 count)
    (refuse ScanComponent (not (are_among f ids))
    (refuse ScanComponent (not (is_distinct ids))
    (refuse McuTooLarge (nat_lt 1 count && nat_lt 10 (factor_sum f (head_components head)))
    (refuse ScanParameters (is_progressive f.process && not (are_parameters f count head))
    (Ok head)))))

abbrev pub parsed_scan_header : Frame → List ℕ → List ℕ → ScanHead
parsed_scan_header f parts band =
    record { parts = parsed_parts f parts; ss = slice_index band 0; se = slice_index band 1; ah = slice_index band 2 / 16; al = slice_index band 2 % 16 }

abbrev pub scan_header : Frame → List ℕ → Parsed ScanHead
scan_header f [] = Err BadLength
scan_header f (count ∷ bytes) =
    refuse BadLength (not (length bytes == 2 * count + 3))
    (checked_head f count (parsed_ids (take (2 * count) bytes)) (parsed_scan_header f (take (2 * count) bytes) (drop (2 * count) bytes)))

-- WHAT AN ACCEPTED SCAN HEADER IS: one to four distinct components of the frame, and several of at most ten blocks per
-- MCU (B.2.3)

pub record IsHead (f : Frame) (head : ScanHead) : Type 0 where
  pub some : 1 ≤ length head.parts
  pub few : length head.parts ≤ 4
  pub known : All (λ p. p.component < length f.components) head.parts
  pub distinct : is_distinct (head_components head) ≡ true
  pub small : 2 ≤ length head.parts → factor_sum f (head_components head) ≤ 10
