-- Headers, rows and parts have some bytes, and so has each image file.
use Rattle.std.proofs.Common.{◌≡◌, ℕ, zero, suc, ◌-◌, ◌*◌, ◌<◌, ◌≤◌, List, [], ◌∷◌, ◌++◌, length, get_or, replicate, sym, ap, ◌∙◌, subst, arith, Option}
use Rattle.std.specs.Prelude.{nat_lt, false, map, flat_map, reverse}
use Rattle.std.proofs.lemmas.List.{length-append}
use Rattle.jpg_spec_image.specs.ImageText.{bmp_header, bmp_row, file_samples, end_text, padding, pnm_header, rest, row_bytes, row_piece, targa_header, turned_round}
use Rattle.jpg_spec_image.specs.declared.image.EndKind.{EndKind}
use Rattle.jpg_spec_image.specs.declared.image.EndKind.TheVariants.{Pnm, Bmp, Targa}
use Rattle.jpg_spec_image.specs.declared.image.ImageKind.{ImageKind}
use Rattle.jpg_spec_image.specs.declared.image.ImageKind.TheVariants.{Gray, Rgb}
use Rattle.jpg_spec_image.specs.declared.image.ImageInfo.{ImageInfo}
use Rattle.jpg_pnm_bmp.specs.EndState.{next_part, info_given}
use Rattle.jpg_pnm_bmp.specs.Ends.{rows_of}
use Rattle.jpg_pnm_bmp.proofs.BmpParts.{row_part, state_of}
use Rattle.jpg_pnm_bmp.proofs.HeldRows.{row_at, row_long}
use Rattle.jpg_spec.proofs.Basics.Common.{not_lt_of}

-- after some bytes
more_after : (xs ys : List ℕ) → 0 < length xs → 0 < length (xs ++ ys)
more_after xs ys h = omega (arith, h, length-append xs ys)

-- HEADERS

letter_first : (kind : ImageKind) (info : ImageInfo) → 0 < length (pnm_header (record info { kind = kind }))
unfolding pnm_header
letter_first Gray info = omega arith
letter_first Rgb info = omega arith

pnm_header_some : (info : ImageInfo) → 0 < length (pnm_header info)
pnm_header_some info = letter_first info.kind info

bmp_header_some : (info : ImageInfo) → 0 < length (bmp_header info)
unfolding bmp_header
bmp_header_some info = omega arith

targa_header_some : (info : ImageInfo) → 0 < length (targa_header info)
unfolding targa_header
targa_header_some info = omega arith

pub text_some : (kind : EndKind) (info : ImageInfo) (rows : List (List ℕ)) → 0 < length (end_text kind info rows)
text_some Pnm info rows =
    let pieces = flat_map (row_piece Pnm info) rows in
    more_after (pnm_header info ++ pieces) [] (more_after (pnm_header info) pieces (pnm_header_some info))
text_some Bmp info rows =
    let pieces = flat_map (row_piece Bmp info) rows in
    let others = flat_map (λ part. part) (map (bmp_row info) (reverse rows)) in
    omega (arith, length-append pieces (bmp_header info ++ others), more_after (bmp_header info) others (bmp_header_some info))
text_some Targa info rows =
    let pieces = flat_map (row_piece Targa info) rows in
    more_after (targa_header info ++ pieces) [] (more_after (targa_header info) pieces (targa_header_some info))

-- ROWS

by_kind : (kind : ImageKind) (info : ImageInfo) → 1 ≤ info.width → 1 ≤ row_bytes (record info { kind = kind })
by_kind Gray info h = h
by_kind Rgb info h = omega (arith, h)

pub take_in_row : (info : ImageInfo) → 1 ≤ info.height → info.height ≤ 65500 * info.width → 1 ≤ row_bytes info
take_in_row info high wide = by_kind info.kind info (omega (arith, high, wide))

turned_some : (row : List ℕ) → 1 ≤ length row → 1 ≤ length (turned_round row)
turned_some [] h = h
turned_some (r ∷ []) h = h
turned_some (r ∷ g ∷ []) h = h
turned_some (r ∷ g ∷ b ∷ others) h = omega arith

pub samples_some : (kind : ImageKind) (row : List ℕ) → 1 ≤ length row → 1 ≤ length (file_samples kind row)
samples_some Gray row h = h
samples_some Rgb row h = turned_some row h

bmp_row_some : (info : ImageInfo) (row : List ℕ) → 1 ≤ length row → 0 < length (bmp_row info row)
bmp_row_some info row h = more_after (file_samples info.kind row) (replicate (padding (length row)) 0) (samples_some info.kind row h)

-- THE PARTS OF A BMP FILE

row_due : (info : ImageInfo) (taken part : ℕ) (bytes : List ℕ) → part < taken → length bytes ≡ taken * row_bytes info → 1 ≤ row_bytes info
    → 0 < length (get_or (rest Bmp info (rows_of taken (row_bytes info) bytes)) (suc part) [])
row_due info taken part bytes h whole some =
    let long = row_bytes info in
    let k = taken - suc part in
    let at : length (get_or (rows_of taken long bytes) k []) ≡ long = row_long taken k long bytes whole (omega (arith, h)) in
    let row_is = row_at taken k long bytes (omega (arith, h)) in
    subst (λ (r : List ℕ). 0 < length r) (sym (row_part info taken part bytes h))
    (bmp_row_some info _ (omega (arith, sym (ap length row_is) ∙ at, some)))

pub part_some : (of : Option ImageInfo) (taken parts : ℕ) (bytes : List ℕ) → length bytes ≡ taken * row_bytes (info_given of) → taken ≤ (info_given of).height → (info_given of).height ≤ 65500 * (info_given of).width → nat_lt taken parts ≡ false
    → 0 < length (next_part (state_of of taken parts bytes))
part_some of taken zero bytes whole few wide before = bmp_header_some (info_given of)
part_some of taken (suc part) bytes whole few wide before =
    let most : suc part ≤ taken = not_lt_of taken (suc part) before in
    row_due (info_given of) taken part bytes (omega (arith, most)) whole (take_in_row (info_given of) (omega (arith, most, few)) wide)
