-- THE TEXTS OF IMAGES: PNM, samples by rows after a header; BMP, rows from the bottom up, each a multiple of four bytes;
-- Targa, rows from the top after a header of 18 bytes.
use Rattle.std.specs.Prelude.{ℕ, ◌+◌, ◌-◌, ◌*◌, ◌%◌, List, [], ◌∷◌, ◌++◌, length, map, flat_map, reverse, replicate, codes}
use Rattle.std.specs.Int.{to_le_bytes, w16, w32}
use Rattle.std.specs.Fmt.{decimal}
use Rattle.jpg_spec.specs.Lists.{below}
use Rattle.jpg_spec_image.specs.declared.image.ImageKind.{ImageKind}
use Rattle.jpg_spec_image.specs.declared.image.ImageKind.TheVariants.{Gray, Rgb}
use Rattle.jpg_spec_image.specs.declared.image.ImageInfo.{ImageInfo}
use Rattle.jpg_spec_image.specs.declared.image.EndKind.{EndKind}
use Rattle.jpg_spec_image.specs.declared.image.EndKind.TheVariants.{Pnm, Bmp, Targa}

-- PNM

abbrev pub pnm_letter : ImageKind → List ℕ
pnm_letter Gray = codes "P5"
pnm_letter Rgb = codes "P6"

-- 10 is LF
unfoldable pub pnm_header : ImageInfo → List ℕ
pnm_header info = pnm_letter info.kind ++ 10 ∷ decimal info.width ++ codes " " ++ decimal info.height ++ 10 ∷ codes "255" ++ 10 ∷ []

-- BMP

abbrev pub row_bytes : ImageInfo → ℕ
row_bytes info = row_length info.kind info.width
  where
    row_length : ImageKind → ℕ → ℕ
    row_length Gray width = width
    row_length Rgb width = 3 * width

-- zeros up to a multiple of four bytes
abbrev pub padding : ℕ → ℕ
padding count = (4 - count % 4) % 4

-- three bytes a pixel, blue, green, red
abbrev pub turned_round : List ℕ → List ℕ
turned_round [] = []
turned_round (r ∷ []) = r ∷ []
turned_round (r ∷ g ∷ []) = r ∷ g ∷ []
turned_round (r ∷ g ∷ b ∷ rest) = b ∷ g ∷ r ∷ turned_round rest

abbrev pub file_samples : ImageKind → List ℕ → List ℕ
file_samples Gray row = row
file_samples Rgb row = turned_round row

abbrev pub bmp_row : ImageInfo → List ℕ → List ℕ
bmp_row info row = file_samples info.kind row ++ replicate (padding (length row)) 0

abbrev pub palette_size : ImageKind → ℕ
palette_size Gray = 256
palette_size Rgb = 0

abbrev pub depth : ImageKind → ℕ
depth Gray = 8
depth Rgb = 24

-- where the pixels begin
abbrev pub offset : ImageInfo → ℕ
offset info = 54 + 4 * palette_size info.kind

abbrev pub file_size : ImageInfo → ℕ
file_size info = offset info + info.height * (row_bytes info + padding (row_bytes info))

-- the grays: blue, green, red and a byte 0
unfoldable pub palette : ImageKind → List ℕ
palette kind = flat_map (λ n. n ∷ n ∷ n ∷ 0 ∷ []) (below (palette_size kind))

abbrev pub long : ℕ → List ℕ
long n = to_le_bytes w32 n

abbrev pub short : ℕ → List ℕ
short n = to_le_bytes w16 n

unfoldable pub bmp_header : ImageInfo → List ℕ
bmp_header info =
    (codes "BM" ++ long (file_size info) ++ long 0 ++ long (offset info))
    ++ (long 40 ++ long info.width ++ long info.height ++ short 1 ++ short (depth info.kind) ++ long 0 ++ long 0)
    ++ (long info.x_metre ++ long info.y_metre ++ long (palette_size info.kind) ++ long 0)
    ++ palette info.kind

-- TARGA

-- raw colours or raw grays
abbrev pub targa_type : ImageKind → ℕ
targa_type Rgb = 2
targa_type Gray = 3

-- no identifier, no colour map, the origin at 0, and rows from the top (32)
unfoldable pub targa_header : ImageInfo → List ℕ
targa_header info =
    (0 ∷ 0 ∷ targa_type info.kind ∷ replicate 9 0)
    ++ (short info.width ++ short info.height)
    ++ (depth info.kind ∷ 32 ∷ [])

-- BY KIND: what is written first, with each row, and at the end, in parts

abbrev pub first_piece : EndKind → ImageInfo → List ℕ
first_piece Pnm info = pnm_header info
first_piece Bmp info = []
first_piece Targa info = targa_header info

abbrev pub row_piece : EndKind → ImageInfo → List ℕ → List ℕ
row_piece Pnm info row = row
row_piece Bmp info row = []
row_piece Targa info row = file_samples info.kind row

abbrev pub rest : EndKind → ImageInfo → List (List ℕ) → List (List ℕ)
rest Pnm info rows = []
rest Bmp info rows = bmp_header info ∷ map (bmp_row info) (reverse rows)
rest Targa info rows = []

abbrev pub end_text : EndKind → ImageInfo → List (List ℕ) → List ℕ
end_text kind info rows = first_piece kind info ++ flat_map (row_piece kind info) rows ++ flat_map (λ part. part) (rest kind info rows)
