-- THE ORIENTATION that a file's Exif segment tells (Exif 2.3, 4.5 and 4.6.4; TIFF 6.0, section 2): where its value is, and
-- the segment with the value 1 in its place.
use Rattle.std.specs.Prelude.{ℕ, zero, suc, ◌+◌, ◌*◌, Bool, true, false, nat_le, nat_lt, ◌&&◌, ◌==◌, ◌||◌, if◌then◌else◌, List, [], ◌∷◌, ◌++◌, length, drop, slice_index_or, slice_set, Option, Some, None, option_and_then, codes}
use Rattle.jpg_spec.specs.Lists.{begins_with}
use Rattle.jpg_spec.specs.Segments.{two_bytes}

-- A SEGMENT OF EXIF DATA is APP1 whose contents begin with `Exif`, 00 and 00. A TIFF file follows, whose places count from
-- there. All places below count from the beginning of the contents, so they are greater by 6.
abbrev pub is_exif : ℕ × List ℕ → Bool
is_exif s = s.0 == 0xe1 && begins_with (codes "Exif" ++ 0 ∷ 0 ∷ []) s.1

-- NUMBERS of two and of four bytes at a place, the lowest byte first or last

abbrev pub pair_at : Bool → List ℕ → ℕ → ℕ
pair_at little bytes k =
    if little then two_bytes (slice_index_or bytes (k + 1) 0) (slice_index_or bytes k 0)
    else two_bytes (slice_index_or bytes k 0) (slice_index_or bytes (k + 1) 0)

abbrev pub quad_at : Bool → List ℕ → ℕ → ℕ
quad_at little bytes k =
    if little then 65536 * pair_at little bytes (k + 2) + pair_at little bytes k
    else 65536 * pair_at little bytes k + pair_at little bytes (k + 2)

-- THE HEADER: `II`, 42, 0 where the lowest byte is first, `MM`, 0, 42 where it is last; and the place of the first directory
abbrev pub is_little : List ℕ → Bool
is_little contents = begins_with (codes "II" ++ 42 ∷ 0 ∷ []) (drop 6 contents)

abbrev pub is_big : List ℕ → Bool
is_big contents = begins_with (codes "MM" ++ 0 ∷ 42 ∷ []) (drop 6 contents)

abbrev pub has_header : List ℕ → Bool
has_header contents = nat_le 14 (length contents) && (is_little contents || is_big contents)

-- THE FIRST DIRECTORY (IFD0): how many entries it has, and then the entries, each of 12 bytes: a tag, a type, a count and a
-- value. That of the orientation has tag 0112, count 1, and a number of two bytes, as Exif asks for it (type 3), or one of
-- four, as some cameras and programs write it (types 4 and 9).
abbrev pub is_short : Bool → List ℕ → ℕ → Bool
is_short little contents k = pair_at little contents (k + 2) == 3

abbrev pub is_long : Bool → List ℕ → ℕ → Bool
is_long little contents k = pair_at little contents (k + 2) == 4 || pair_at little contents (k + 2) == 9

abbrev pub is_orientation : Bool → List ℕ → ℕ → Bool
is_orientation little contents k =
    (pair_at little contents k == 0x112 && (is_short little contents k || is_long little contents k)) && quad_at little contents (k + 4) == 1

-- the place of the first such entry, of this many from this place on, as far as they are complete
abbrev pub entry_among : Bool → List ℕ → ℕ → ℕ → Option ℕ
entry_among little contents zero k = None
entry_among little contents (suc n) k =
    if nat_lt (length contents) (k + 12) then None
    else if is_orientation little contents k then Some k
    else entry_among little contents n (k + 12)

abbrev pub entry_in : Bool → List ℕ → ℕ → Option ℕ
entry_in little contents k = if nat_le (k + 2) (length contents) then entry_among little contents (pair_at little contents k) (k + 2) else None

abbrev pub entry_place : List ℕ → Option ℕ
entry_place contents =
    if has_header contents then entry_in (is_little contents) contents (6 + quad_at (is_little contents) contents 10) else None

-- ITS VALUE, and the place of the lowest byte of that
abbrev pub value_of : Bool → Bool → List ℕ → ℕ → ℕ
value_of short little contents v = if short then pair_at little contents v else quad_at little contents v

abbrev pub lowest_place : Bool → Bool → ℕ → ℕ
lowest_place short little v = if little then v else if short then v + 1 else v + 3

-- THE ORIENTATION is that value, where it is from 2 to 8, so that all its other bytes are 0. Otherwise it is 1, also where
-- there is none and where the segment can't be read.
abbrev pub if_turned : Bool → List ℕ → ℕ → Option ℕ
if_turned little contents k =
    let short = is_short little contents k in
    let n = value_of short little contents (k + 8) in
    if nat_le 2 n && nat_le n 8 then Some (lowest_place short little (k + 8)) else None

abbrev pub turned_place : List ℕ → Option ℕ
turned_place contents = option_and_then (if_turned (is_little contents) contents) (entry_place contents)

abbrev pub orientation_by : List ℕ → Option ℕ → ℕ
orientation_by contents None = 1
orientation_by contents (Some p) = slice_index_or contents p 0

abbrev pub orientation_in : List ℕ → ℕ
orientation_in contents = orientation_by contents (turned_place contents)

-- MARKED UPRIGHT: that byte is 1, and all others are as they were
abbrev pub upright_by : List ℕ → Option ℕ → List ℕ
upright_by contents None = contents
upright_by contents (Some p) = slice_set contents p 1

abbrev pub upright_contents : List ℕ → List ℕ
upright_contents contents = upright_by contents (turned_place contents)

-- OF KEPT MARKERS, the first segment of Exif data counts, and no other one is read

abbrev pub orientation_of : List (ℕ × List ℕ) → ℕ
orientation_of [] = 1
orientation_of (s ∷ kept) = if is_exif s then orientation_in s.1 else orientation_of kept

abbrev pub marked_upright : List (ℕ × List ℕ) → List (ℕ × List ℕ)
marked_upright [] = []
marked_upright (s ∷ kept) = if is_exif s then (s.0, upright_contents s.1) ∷ kept else s ∷ marked_upright kept
