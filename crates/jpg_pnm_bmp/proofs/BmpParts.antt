-- The parts of a BMP file, as its image writer appends them.
use Rattle.std.proofs.Common.{◌≡◌, ℕ, zero, suc, ◌+◌, ◌-◌, ◌*◌, ◌<◌, ◌≤◌, Bool, false, List, [], ◌∷◌, ◌++◌, length, reverse, take, drop, get_or, min, append_assoc, sym, add-one, ap, ◌∙◌, arith, Option, Some, Result, Ok, Err}
use Rattle.std.specs.Prelude.{nat_lt, nat_le, OnOk}
use Rattle.std.proofs.lemmas.Bool.Decides.{nat_tests}
use Rattle.std.proofs.lemmas.List.{append-nil, length-map, length-reverse, get_or-map, get_or-reverse}
use Rattle.jpg_spec_image.specs.ImageText.{row_bytes, bmp_header, bmp_row, palette, rest}
use Rattle.jpg_spec_image.specs.declared.image.EndKind.TheVariants.{Bmp}
use Rattle.jpg_spec_image.specs.declared.image.ImageKind.TheVariants as samples
use Rattle.jpg_spec_image.specs.declared.image.ImageInfo.{ImageInfo}
use Rattle.jpg_base.specs.declared.names.NoMemory.{NoMemory}
use Rattle.jpg_pnm_bmp.specs.Bmp.{file_words, image_words, colour_words}
use Rattle.jpg_pnm_bmp.specs.EndState.{EndState, info_given, with_row, with_part, is_last, next_part}
use Rattle.jpg_pnm_bmp.specs.Ends.{rows_of}
use Rattle.jpg_pnm_bmp.proofs.HeldRows.{length_rows, rows_more, row_at}
use Rattle.jpg_spec.proofs.Basics.Common.{not_lt_of}

-- the state of an image writer with these fields
abbrev pub state_of : Option ImageInfo → ℕ → ℕ → List ℕ → EndState
state_of info taken parts bytes = record { kind = Bmp; info = info; taken = taken; held = rows_of taken (row_bytes (info_given info)) bytes; parts = parts; done = nat_lt taken parts }

-- one more row
pub row_held : (info : Option ImageInfo) (taken parts : ℕ) (bytes row : List ℕ) → length bytes ≡ taken * row_bytes (info_given info) → length row ≡ row_bytes (info_given info) → parts ≡ 0
    → state_of info (taken + 1) parts (bytes ++ row) ≡ with_row (state_of info taken parts bytes) row
row_held info taken parts bytes row whole long none =
    let long_row = row_bytes (info_given info) in
    let held : rows_of (taken + 1) long_row (bytes ++ row) ≡ rows_of taken long_row bytes ++ row ∷ [] =
    ap (λ n. rows_of n long_row (bytes ++ row)) (add-one taken) ∙ rows_more taken long_row bytes row whole long in
    let done : nat_lt (taken + 1) parts ≡ nat_lt taken parts = grind (arith, nat_tests) in
    let with_held : List (List ℕ) → Bool → EndState = λ rows last. record { kind = Bmp; info = info; taken = taken + 1; held = rows; parts = parts; done = last } in
    ap (λ rows. with_held rows (nat_lt (taken + 1) parts)) held ∙ ap (λ last. with_held (rows_of taken long_row bytes ++ row ∷ []) last) done

-- a header and all rows are pending
parts_length : (info : ImageInfo) (taken : ℕ) (bytes : List ℕ) → length (rest Bmp info (rows_of taken (row_bytes info) bytes)) ≡ taken + 1
parts_length info taken bytes =
    let rows = rows_of taken (row_bytes info) bytes in
    ap suc (length-map (reverse rows) (bmp_row info) ∙ length-reverse rows ∙ length_rows taken (row_bytes info) bytes) ∙ sym (add-one taken)

-- which part is the last, and the state after a part
pub last_is : (info : Option ImageInfo) (taken parts : ℕ) (bytes : List ℕ) → is_last (state_of info taken parts bytes) ≡ nat_lt taken (parts + 1)
last_is info taken parts bytes =
    ap (λ n. nat_le n (parts + 1)) (parts_length (info_given info) taken bytes) ∙ (let e : nat_le (taken + 1) (parts + 1) ≡ nat_lt taken (parts + 1) = grind (arith, nat_tests) in e)

pub part_appended : (info : Option ImageInfo) (taken parts : ℕ) (bytes : List ℕ) → parts ≤ taken → state_of info taken (parts + 1) bytes ≡ with_part (state_of info taken parts bytes)
part_appended info taken parts bytes most =
    let behind : ℕ → Bool → EndState = λ count last. record { kind = Bmp; info = info; taken = taken; held = rows_of taken (row_bytes (info_given info)) bytes; parts = count; done = last } in
    let count : min (parts + 1) (length (rest Bmp (info_given info) (rows_of taken (row_bytes (info_given info)) bytes))) ≡ parts + 1 =
    ap (min (parts + 1)) (parts_length (info_given info) taken bytes) ∙ (let e : min (parts + 1) (taken + 1) ≡ parts + 1 = omega arith in e) in
    ap (λ n. behind n (nat_lt taken (parts + 1))) (sym count) ∙ ap (behind (min (parts + 1) (length (rest Bmp (info_given info) (rows_of taken (row_bytes (info_given info)) bytes))))) (sym (last_is info taken parts bytes))

-- a part after the header is a row, the last one first
pub row_part : (info : ImageInfo) (taken part : ℕ) (bytes : List ℕ) → part < taken
    → get_or (rest Bmp info (rows_of taken (row_bytes info) bytes)) (suc part) [] ≡ bmp_row info (take (row_bytes info) (drop ((taken - suc part) * row_bytes info) bytes))
row_part info taken part bytes h =
    let rows = rows_of taken (row_bytes info) bytes in
    let count : length rows ≡ taken = length_rows taken (row_bytes info) bytes in
    let place : length rows - 1 - part ≡ taken - suc part = omega (arith, count, h) in
    get_or-map (bmp_row info) (reverse rows) part [] [] (omega (arith, length-reverse rows, count, h))
    ∙ ap (bmp_row info) (get_or-reverse rows part [] (omega (arith, count, h)) ∙ ap (λ k. get_or rows k []) place ∙ row_at taken (taken - suc part) (row_bytes info) bytes (omega (arith, h)))

pub row_is_due : (info : ImageInfo) (taken parts : ℕ) (bytes : List ℕ) → 1 ≤ parts → parts ≤ taken
    → bmp_row info (take (row_bytes info) (drop ((taken - parts) * row_bytes info) bytes)) ≡ get_or (rest Bmp info (rows_of taken (row_bytes info) bytes)) parts []
row_is_due info taken zero bytes some most = absurd (omega (arith, some))
row_is_due info taken (suc part) bytes some most = sym (row_part info taken part bytes (omega (arith, most)))

-- the row that an image writer cuts out of its bytes is the next part
pub row_is_next : (of : Option ImageInfo) (info : ImageInfo) (taken parts long : ℕ) (bytes slice : List ℕ) → of ≡ Some info → long ≡ row_bytes info → slice ≡ bytes → (parts ≡ 0 → ⊥) → nat_lt taken parts ≡ false
    → bmp_row info (take ((taken - parts) * long + long - (taken - parts) * long) (drop ((taken - parts) * long) slice)) ≡ next_part (state_of of taken parts bytes)
row_is_next of info taken parts long bytes slice is so_long same some before =
    let at = taken - parts in
    let cut : at * long + long - at * long ≡ long = omega arith in
    ap (λ n. bmp_row info (take n (drop (at * long) slice))) cut
    ∙ ap (λ n. bmp_row info (take n (drop (at * n) slice))) so_long
    ∙ ap (λ bs. bmp_row info (take (row_bytes info) (drop (at * row_bytes info) bs))) same
    ∙ row_is_due info taken parts bytes (omega (arith, some)) (not_lt_of taken parts before)
    ∙ ap (λ o. get_or (rest Bmp (info_given o) (rows_of taken (row_bytes (info_given o)) bytes)) parts []) (sym is)

-- the words of a header and its palette
abbrev pub words : ImageInfo → List ℕ
words info = file_words info ++ (image_words info ++ (colour_words info ++ []))

header_is : (info : ImageInfo) → words info ++ palette info.kind ≡ bmp_header info
unfolding bmp_header file_words image_words colour_words
header_is info =
    let file = file_words info in
    let image = image_words info in
    let colours = colour_words info in
    ap (λ t. t ++ palette info.kind) (sym (append_assoc file image (colours ++ [])) ∙ ap (λ t. (file ++ image) ++ t) (append-nil colours))

pub gray_header : (info : ImageInfo) (before part : List ℕ) → info.kind ≡ samples.Gray → before ≡ words info → part ≡ before ++ palette samples.Gray → part ≡ bmp_header info
gray_header info before part gray is e = e ∙ ap (λ k. before ++ palette k) (sym gray) ∙ ap (λ t. t ++ palette info.kind) is ∙ header_is info

pub colour_header : (info : ImageInfo) (part : List ℕ) → info.kind ≡ samples.Rgb → part ≡ words info → part ≡ bmp_header info
unfolding palette
colour_header info part colours is = is ∙ sym (append-nil (words info)) ∙ ap (λ k. words info ++ palette k) (sym colours) ∙ header_is info

pub on_ok : {P Q : Type 0} (r : Result (Unit {0}) NoMemory) → (P → Q) → OnOk r P → OnOk r Q
on_ok (Ok u) f p = f p
on_ok (Err fault) f p = tt
