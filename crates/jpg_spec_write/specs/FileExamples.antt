-- WORKED EXAMPLES of written files: restarts, several components, and progressive scans. The bytes of their data and
-- tables were made by a program of another language, from the standard only.
use Rattle.std.specs.Prelude.{ℕ, zero, suc, ◌+◌, ◌-◌, ◌*◌, List, [], ◌∷◌, ◌++◌, length, replicate, slice_index_or, ℤ, pos, negsuc}
use Rattle.jpg_spec.specs.Elements.{zeros}
use Rattle.jpg_spec.specs.Scan.{Blocks}
use Rattle.jpg_spec_write.specs.ScanText.{typical_table}
use Rattle.jpg_spec.specs.Meaning.{Meaning}
use Rattle.jpg_spec_write.specs.Headed.{headed}
use Rattle.jpg_spec_write.specs.Script.{Entry}
use Rattle.jpg_spec_write.specs.FileText.{segment_text, sof_code}
use Rattle.jpg_spec.specs.ExampleFiles.{plain_jfif, plain_frame, gray_meaning}
use Rattle.jpg_spec.specs.Markers.{soi, eoi}
use Rattle.jpg_spec.specs.Examples.{ones, gray_of, three_components}
use Rattle.jpg_spec.specs.declared.frame.Process.{Process}
use Rattle.jpg_spec.specs.declared.frame.Process.TheVariants.{Baseline, Progressive}

-- PIECES of a file

-- SOI, JFIF, the quantisation table and a frame header; of one component, or of the three of 17 by 16 samples
abbrev pub tables_start : List ℕ
tables_start = soi ++ segment_text 0xe0 plain_jfif ++ segment_text 0xdb (0 ∷ ones)

abbrev pub gray_start : Process → ℕ → ℕ → List ℕ
gray_start process width height = tables_start ++ segment_text (sof_code process) (plain_frame width height)

abbrev pub three_start : Process → List ℕ
three_start process =
    tables_start ++ segment_text (sof_code process) (8 ∷ 0 ∷ 16 ∷ 0 ∷ 17 ∷ 3 ∷ 1 ∷ 0x22 ∷ 0 ∷ 2 ∷ 0x11 ∷ 0 ∷ 3 ∷ 0x11 ∷ 0 ∷ [])

-- a typical table
abbrev pub typical_text : ℕ → ℕ → List ℕ
typical_text class slot = segment_text 0xc4 ((16 * class + slot) ∷ (typical_table class slot).counts ++ (typical_table class slot).symbols)

-- a table whose codes have one length
abbrev pub flat_text : ℕ → ℕ → List ℕ → List ℕ
flat_text first size symbols = segment_text 0xc4 (first ∷ replicate (size - 1) 0 ++ length symbols ∷ replicate (16 - size) 0 ++ symbols)

abbrev pub restart_text : ℕ → List ℕ
restart_text interval = segment_text 0xdd (0 ∷ interval ∷ [])

-- a scan of one component: its id, its slots, its band, Ah and Al, and its data
abbrev pub scan_text : ℕ → ℕ → ℕ → ℕ → ℕ → List ℕ → List ℕ
scan_text id slots ss se bits coded = segment_text 0xda (1 ∷ id ∷ slots ∷ ss ∷ se ∷ bits ∷ []) ++ coded

-- a scan of the three
abbrev pub three_text : ℕ → ℕ → ℕ → ℕ → ℕ → List ℕ → List ℕ
three_text luma chroma ss se bits coded = segment_text 0xda (3 ∷ 1 ∷ luma ∷ 2 ∷ chroma ∷ 3 ∷ chroma ∷ ss ∷ se ∷ bits ∷ []) ++ coded

abbrev pub entry : List ℕ → ℕ → ℕ → ℕ → ℕ → Entry
entry components ss se ah al = record { components = components; ss = ss; se = se; ah = ah; al = al }

-- GRAY PICTURES

abbrev pub gray_picture : Process → ℕ → ℕ → List (List ℤ) → Meaning
gray_picture process width height blocks = record (headed (gray_meaning (gray_of width height blocks))) { process = process }

abbrev pub gray_scan : List Entry
gray_scan = entry (0 ∷ []) 0 63 0 0 ∷ []

-- DC and two bands down to bits 1 and 2, and then each bit up to the last
abbrev pub gray_passes : List Entry
gray_passes =
    entry (0 ∷ []) 0 0 0 1 ∷ entry (0 ∷ []) 1 5 0 2 ∷ entry (0 ∷ []) 6 63 0 2 ∷
    entry (0 ∷ []) 1 63 2 1 ∷ entry (0 ∷ []) 0 0 1 0 ∷ entry (0 ∷ []) 1 63 1 0 ∷ []

-- 16 by 16, all values 0
abbrev pub four_blocks : Meaning
four_blocks = gray_picture Baseline 16 16 (replicate 4 (zeros 64))

-- its file with this restart interval
abbrev pub four_text : ℕ → List ℕ → List ℕ
four_text interval coded =
    gray_start Baseline 16 16 ++ typical_text 0 0 ++ typical_text 1 0 ++ restart_text interval ++ scan_text 1 0 0 63 0 coded ++ eoi

-- 2 and 1 in places 1 and 2
abbrev pub two_and_one : Meaning
two_and_one = gray_picture Progressive 8 8 ((pos 0 ∷ pos 2 ∷ pos 1 ∷ zeros 61) ∷ [])

abbrev pub two_and_one_text : List ℕ
two_and_one_text =
    gray_start Progressive 8 8
    ++ flat_text 0x00 1 (0x00 ∷ []) ++ scan_text 1 0 0 0 0x01 (0x7f ∷ [])
    ++ flat_text 0x10 1 (0x00 ∷ []) ++ scan_text 1 0 1 5 0x02 (0x7f ∷ [])
    ++ scan_text 1 0 6 63 0x02 (0x7f ∷ [])
    ++ flat_text 0x10 2 (0x00 ∷ 0x01 ∷ []) ++ scan_text 1 0 1 63 0x21 (0x67 ∷ [])
    ++ scan_text 1 0 0 0 0x10 (0x7f ∷ [])
    ++ scan_text 1 0 1 63 0x10 (0x63 ∷ [])
    ++ eoi

-- -3 in place 1, and 1 in place 18, after sixteen zeros
abbrev pub far_apart : Meaning
far_apart = gray_picture Progressive 8 8 ((pos 0 ∷ negsuc 2 ∷ zeros 16 ++ pos 1 ∷ zeros 45) ∷ [])

abbrev pub far_apart_text : List ℕ
far_apart_text =
    gray_start Progressive 8 8
    ++ flat_text 0x00 1 (0x00 ∷ []) ++ scan_text 1 0 0 0 0x01 (0x7f ∷ [])
    ++ flat_text 0x10 1 (0x00 ∷ []) ++ scan_text 1 0 1 5 0x02 (0x7f ∷ [])
    ++ scan_text 1 0 6 63 0x02 (0x7f ∷ [])
    ++ flat_text 0x10 2 (0x00 ∷ 0x01 ∷ []) ++ scan_text 1 0 1 63 0x21 (0x47 ∷ [])
    ++ scan_text 1 0 0 0 0x10 (0x7f ∷ [])
    ++ flat_text 0x10 2 (0x00 ∷ 0x01 ∷ 0xf0 ∷ []) ++ scan_text 1 0 1 63 0x10 (0xac ∷ [])
    ++ eoi

-- two blocks of nineteen 2s
abbrev pub many_twos : Meaning
many_twos = gray_picture Progressive 16 8 (replicate 2 (pos 0 ∷ replicate 19 (pos 2) ++ zeros 44))

abbrev pub many_twos_text : List ℕ
many_twos_text =
    gray_start Progressive 16 8
    ++ flat_text 0x00 1 (0x00 ∷ []) ++ scan_text 1 0 0 0 0x01 (0x3f ∷ [])
    ++ flat_text 0x10 1 (0x10 ∷ []) ++ scan_text 1 0 1 5 0x02 (0x3f ∷ [])
    ++ scan_text 1 0 6 63 0x02 (0x3f ∷ [])
    ++ flat_text 0x10 2 (0x00 ∷ 0x01 ∷ [])
    ++ scan_text 1 0 1 63 0x21 (0x6d ∷ 0xb6 ∷ 0xdb ∷ 0x6d ∷ 0xb6 ∷ 0xdb ∷ 0x6d ∷ 0x8d ∷ 0xb6 ∷ 0xdb ∷ 0x6d ∷ 0xb6 ∷ 0xdb ∷ 0x6d ∷ 0xb3 ∷ [])
    ++ scan_text 1 0 0 0 0x10 (0x3f ∷ [])
    ++ flat_text 0x10 1 (0x10 ∷ []) ++ scan_text 1 0 1 63 0x10 (0 ∷ 0 ∷ 0 ∷ 0 ∷ 0 ∷ [])
    ++ eoi

-- three blocks of several values
abbrev pub mixed_values : Meaning
mixed_values =
    gray_picture Progressive 24 8
    ((negsuc 4 ∷ pos 3 ∷ zeros 38 ++ negsuc 0 ∷ zeros 23) ∷
    (pos 7 ∷ zeros 62 ++ pos 1 ∷ []) ∷
    (negsuc 8 ∷ negsuc 6 ∷ pos 6 ∷ pos 1 ∷ zeros 16 ++ pos 5 ∷ zeros 39 ++ negsuc 0 ∷ zeros 3) ∷ [])

abbrev pub mixed_values_text : List ℕ
mixed_values_text =
    gray_start Progressive 24 8
    ++ flat_text 0x00 2 (0x02 ∷ 0x03 ∷ []) ++ restart_text 2 ++ scan_text 1 0 0 0 0x01 (0x07 ∷ 0x7f ∷ 0xff ∷ 0xd0 ∷ 0x57 ∷ [])
    ++ flat_text 0x10 2 (0x00 ∷ 0x01 ∷ 0x10 ∷ []) ++ scan_text 1 0 1 5 0x02 (0x9f ∷ 0xff ∷ 0xd0 ∷ 0x4c ∷ [])
    ++ flat_text 0x10 2 (0x00 ∷ 0x10 ∷ 0xe1 ∷ []) ++ scan_text 1 0 6 63 0x02 (0x5f ∷ 0xff ∷ 0xd0 ∷ 0xa7 ∷ [])
    ++ flat_text 0x10 2 (0x00 ∷ 0x01 ∷ 0x10 ∷ []) ++ scan_text 1 0 1 63 0x21 (0x73 ∷ 0xff ∷ 0xd0 ∷ 0x37 ∷ [])
    ++ scan_text 1 0 0 0 0x10 (0xff ∷ 0x00 ∷ 0xff ∷ 0xd0 ∷ 0xff ∷ 0x00 ∷ [])
    ++ flat_text 0x10 3 (0x00 ∷ 0x01 ∷ 0x61 ∷ 0x71 ∷ 0xe1 ∷ 0xf0 ∷ [])
    ++ scan_text 1 0 1 63 0x10 (0xba ∷ 0x82 ∷ 0xdb ∷ 0x3f ∷ 0xff ∷ 0xd0 ∷ 0x3a ∷ 0xdd ∷ 0x61 ∷ [])
    ++ eoi

-- THREE COMPONENTS of 17 by 16 samples: the blocks of each row by row

abbrev pub first_blocks : List (List ℤ)
first_blocks =
    (pos 0 ∷ pos 1 ∷ zeros 62) ∷ (pos 5 ∷ pos 0 ∷ pos 1 ∷ zeros 61) ∷ (pos 10 ∷ zeros 2 ++ pos 1 ∷ zeros 60) ∷
    (negsuc 6 ∷ pos 2 ∷ zeros 62) ∷ (negsuc 1 ∷ pos 0 ∷ pos 2 ∷ zeros 61) ∷ (pos 3 ∷ zeros 2 ++ pos 2 ∷ zeros 60) ∷ []

-- components 1 and 2
abbrev pub other_blocks : List (List ℤ)
other_blocks =
    (pos 3 ∷ pos 1 ∷ zeros 28 ++ pos 1 ∷ zeros 33) ∷ (pos 8 ∷ pos 0 ∷ pos 1 ∷ zeros 27 ++ pos 1 ∷ zeros 33) ∷
    (pos 6 ∷ pos 1 ∷ zeros 28 ++ pos 2 ∷ zeros 33) ∷ (pos 11 ∷ pos 0 ∷ pos 1 ∷ zeros 27 ++ pos 2 ∷ zeros 33) ∷ []

abbrev pub three_blocks : Blocks
three_blocks zero x y = slice_index_or first_blocks (3 * y + x) (zeros 64)
three_blocks (suc i) x y = slice_index_or other_blocks (2 * i + x) (zeros 64)

abbrev pub three_values : Process → Meaning
three_values process = record (headed (three_components three_blocks)) { process = process }

abbrev pub three_scan : List Entry
three_scan = entry (0 ∷ 1 ∷ 2 ∷ []) 0 63 0 0 ∷ []

abbrev pub three_scan_text : List ℕ
three_scan_text =
    three_start Baseline ++ typical_text 0 0 ++ typical_text 1 0 ++ typical_text 0 1 ++ typical_text 1 1 ++ restart_text 1
    ++ three_text 0x00 0x11 0 63 0
    (0x0d ∷ 0x4b ∷ 0x9a ∷ 0xa6 ∷ 0xd5 ∷ 0x2e ∷ 0xea ∷ 0xb7 ∷ 0xfd ∷ 0x7e ∷ 0xa6 ∷ 0xcf ∷ 0xfa ∷ 0xff ∷ 0x00 ∷ 0xdb ∷ 0x8f ∷ 0xff ∷ 0xd0 ∷
    0xb5 ∷ 0xcd ∷ 0x15 ∷ 0x07 ∷ 0xcd ∷ 0x45 ∷ 0x74 ∷ 0x5f ∷ 0xfa ∷ 0xfc ∷ 0xce ∷ 0xbb ∷ 0xff ∷ 0x00 ∷ 0x5f ∷ 0xfa ∷ 0x51 ∷ [])
    ++ eoi

-- the scans of release 6b's default script for three components
abbrev pub three_passes : List Entry
three_passes =
    entry (0 ∷ 1 ∷ 2 ∷ []) 0 0 0 1 ∷ entry (0 ∷ []) 1 5 0 2 ∷ entry (2 ∷ []) 1 63 0 1 ∷ entry (1 ∷ []) 1 63 0 1 ∷ entry (0 ∷ []) 6 63 0 2 ∷
    entry (0 ∷ []) 1 63 2 1 ∷ entry (0 ∷ 1 ∷ 2 ∷ []) 0 0 1 0 ∷ entry (2 ∷ []) 1 63 1 0 ∷ entry (1 ∷ []) 1 63 1 0 ∷ entry (0 ∷ []) 1 63 1 0 ∷ []

abbrev pub three_passes_text : List ℕ
three_passes_text =
    three_start Progressive
    ++ flat_text 0x00 2 (0x00 ∷ 0x02 ∷ 0x03 ∷ []) ++ flat_text 0x01 2 (0x01 ∷ 0x02 ∷ [])
    ++ three_text 0x00 0x10 0 0 0x01 (0x1a ∷ 0x2e ∷ 0x5e ∷ 0xc4 ∷ 0xc7 ∷ 0x6f ∷ [])
    ++ flat_text 0x10 1 (0x20 ∷ []) ++ scan_text 1 0x00 1 5 0x02 (0x5f ∷ [])
    ++ flat_text 0x11 2 (0x00 ∷ 0xd1 ∷ 0xf0 ∷ []) ++ scan_text 3 0x01 1 63 0x01 (0x99 ∷ 0x33 ∷ [])
    ++ flat_text 0x11 1 (0x10 ∷ []) ++ scan_text 2 0x01 1 63 0x01 (0x3f ∷ [])
    ++ scan_text 1 0x00 6 63 0x02 (0x5f ∷ [])
    ++ flat_text 0x10 3 (0x00 ∷ 0x01 ∷ 0x10 ∷ 0x11 ∷ 0x21 ∷ []) ++ scan_text 1 0x00 1 63 0x21 (0x53 ∷ 0x0e ∷ 0x24 ∷ 0x7f ∷ [])
    ++ three_text 0x00 0x00 0 0 0x10 (0x68 ∷ 0xdf ∷ [])
    ++ flat_text 0x11 2 (0x00 ∷ 0x01 ∷ 0x11 ∷ []) ++ scan_text 3 0x01 1 63 0x10 (0x62 ∷ 0x8f ∷ [])
    ++ flat_text 0x11 3 (0x00 ∷ 0x01 ∷ 0x11 ∷ 0xb1 ∷ 0xc1 ∷ 0xf0 ∷ []) ++ scan_text 2 0x01 1 63 0x10 (0x3b ∷ 0x21 ∷ 0x6b ∷ 0x8f ∷ [])
    ++ flat_text 0x10 3 (0x00 ∷ 0x01 ∷ 0x11 ∷ 0x20 ∷ 0x21 ∷ []) ++ scan_text 1 0x00 1 63 0x10 (0x30 ∷ 0xa2 ∷ 0x58 ∷ 0x3f ∷ [])
    ++ eoi
