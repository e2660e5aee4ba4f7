-- The text of a Targa file holds the image of its rows.
use Rattle.std.proofs.Common.{◌≡◌, ℕ, zero, suc, ◌+◌, ◌-◌, ◌*◌, ◌<◌, ◌≤◌, Bool, true, false, cond, ◌&&◌, List, [], ◌∷◌, ◌++◌, length, take, drop, get_or, refl, sym, add-one, ap, ◌∙◌, subst, arith, None, Some}
use Rattle.std.specs.Prelude.{flat_map, nat_le, All}
use Rattle.std.proofs.lemmas.List.{append-nil, length-append, take_all, take_at, drop_at, drop-drop, take_more}
use Rattle.std.proofs.lemmas.List.Elements.{All-head, All-tail}
use Rattle.std.proofs.lemmas.List.Concat.{flat_map-append}
use Rattle.jpg_spec.specs.Lists.{below, joined}
use Rattle.jpg_spec.proofs.Basics.Common.{and_intro, both, le_of}
use Rattle.jpg_spec_image.specs.Images.{Image, sample_count, is_side, are_few_pixels}
use Rattle.jpg_spec_image.specs.ImageText.{row_bytes, turned_round, file_samples, targa_header, end_text}
use Rattle.jpg_spec_image.specs.TargaFile.{identifier_length, is_packed, is_from_top, pixel_size, targa_kind, targa_width, targa_height, targa_info, targa_image, is_left_out_targa, has_targa_sides, IsBodyOf, IsTargaFront}
use Rattle.jpg_spec_image.specs.TargaFaults.{IsWholeTarga, TargaMeans}
use Rattle.jpg_spec_image.specs.TargaLaws.{AreRowsOf, image_of_rows}
use Rattle.jpg_spec.specs.declared.fault.Fault.TheVariants.{ImageHeader, ImageUnsupported}
use Rattle.jpg_spec_image.specs.declared.image.ImageKind.{ImageKind}
use Rattle.jpg_spec_image.specs.declared.image.ImageKind.TheVariants.{Gray, Rgb}
use Rattle.jpg_spec_image.specs.declared.image.ImageInfo.{ImageInfo}
use Rattle.jpg_spec_image.specs.declared.image.EndKind.TheVariants.{Targa}

-- A ROW in the order of a file, and back

turned_twice : (row : List ℕ) → turned_round (turned_round row) ≡ row
turned_twice [] = refl
turned_twice (r ∷ []) = refl
turned_twice (r ∷ g ∷ []) = refl
turned_twice (r ∷ g ∷ b ∷ row) = ap (λ x. r ∷ g ∷ b ∷ x) (turned_twice row)

twice : (kind : ImageKind) (row : List ℕ) → file_samples kind (file_samples kind row) ≡ row
twice Gray row = refl
twice Rgb row = turned_twice row

pub turned_long : (row : List ℕ) → length (turned_round row) ≡ length row
turned_long [] = refl
turned_long (r ∷ []) = refl
turned_long (r ∷ g ∷ []) = refl
turned_long (r ∷ g ∷ b ∷ row) = ap (λ n. suc (suc (suc n))) (turned_long row)

pub samples_long : (kind : ImageKind) (row : List ℕ) → length (file_samples kind row) ≡ length row
samples_long Gray row = refl
samples_long Rgb row = turned_long row

-- ROWS of one length, one after another

abbrev lines : ImageKind → List (List ℕ) → List ℕ
lines kind rows = flat_map (file_samples kind) rows

row_more : (n k : ℕ) → n * suc k ≡ n + n * k
row_more n k = omega arith

line_at : (kind : ImageKind) (n : ℕ) (rows : List (List ℕ)) (k : ℕ) → All (λ row. length row ≡ n) rows → k < length rows → take n (drop (n * k) (lines kind rows)) ≡ file_samples kind (get_or rows k [])
line_at kind n [] k all h = absurd (omega (arith, h))
line_at kind n (row ∷ rows) zero all h =
    let long = samples_long kind row ∙ All-head (λ row. length row ≡ n) row rows all in
    let none : n * 0 ≡ 0 = omega arith in
    ap (λ m. take n (drop m (lines kind (row ∷ rows)))) none ∙ take_at (file_samples kind row) (lines kind rows) n long
line_at kind n (row ∷ rows) (suc k) all h =
    let long = samples_long kind row ∙ All-head (λ row. length row ≡ n) row rows all in
    ap (λ m. take n (drop m (lines kind (row ∷ rows)))) (row_more n k)
    ∙ ap (take n) (sym (drop-drop (n * k) n (lines kind (row ∷ rows))) ∙ ap (drop (n * k)) (drop_at (file_samples kind row) (lines kind rows) n long))
    ∙ line_at kind n rows k (All-tail (λ row. length row ≡ n) row rows all) (omega (arith, h))

pub lines_long : (kind : ImageKind) (n : ℕ) (rows : List (List ℕ)) → All (λ row. length row ≡ n) rows → length (lines kind rows) ≡ length rows * n
lines_long kind n [] all = omega arith
lines_long kind n (row ∷ rows) all =
    let l = length-append (file_samples kind row) (lines kind rows) in
    let long = samples_long kind row ∙ All-head (λ row. length row ≡ n) row rows all in
    let e = lines_long kind n rows (All-tail (λ row. length row ≡ n) row rows all) in
    let m = more (length rows) n in
    omega (arith, l, long, e, m)
  where
    more : (k n : ℕ) → suc k * n ≡ n + k * n
    more k n = omega arith

first_rows : (kind : ImageKind) (n : ℕ) (rows : List (List ℕ)) → All (λ row. length row ≡ n) rows → (k : ℕ) → k ≤ length rows
    → flat_map (λ y. file_samples kind (take n (drop (n * y) (lines kind rows)))) (below k) ≡ joined (take k rows)
first_rows kind n rows all zero h = refl
first_rows kind n rows all (suc k) h =
    let row : ℕ → List ℕ = λ y. file_samples kind (take n (drop (n * y) (lines kind rows))) in
    let one = flat_map-append (λ (r : List ℕ). r) (take k rows) (get_or rows k [] ∷ []) ∙ ap (λ x. joined (take k rows) ++ x) (append-nil (get_or rows k [])) in
    flat_map-append row (below k) (k ∷ [])
    ∙ ap (λ x. x ++ (row k ++ [])) (first_rows kind n rows all k (omega (arith, h)))
    ∙ ap (λ x. joined (take k rows) ++ x) (append-nil (row k) ∙ ap (file_samples kind) (line_at kind n rows k all (omega (arith, h))) ∙ twice kind (get_or rows k []))
    ∙ sym (ap (λ m. joined (take m rows)) (sym (add-one k)) ∙ ap joined (take_more rows k [] (omega (arith, h))) ∙ one)

-- THE HEADER

side_small : (n : ℕ) → is_side n ≡ true → n < 65536
side_small n e = let h = le_of n 65500 (both (nat_le 1 n) (nat_le n 65500) e).1 in omega (arith, h)

-- what is known of the sides
record AreSides (w h : ℕ) : Type 0 where
  wide : is_side w ≡ true
  high : is_side h ≡ true
  few : are_few_pixels w h ≡ true

abbrev info_of : ImageKind → ℕ → ℕ → ImageInfo
info_of kind w h = record { width = w; height = h; kind = kind; x_metre = 0; y_metre = 0 }

abbrev head_of : ImageKind → ImageInfo → List ℕ
head_of kind info = targa_header (record info { kind = kind })

-- the 18 bytes
record IsHeader (kind : ImageKind) (info : ImageInfo) : Type 0 where
  long : length (head_of kind info) ≡ 18
  read : is_left_out_targa (head_of kind info) ≡ false
  width_is : targa_width (head_of kind info) ≡ info.width
  height_is : targa_height (head_of kind info) ≡ info.height
  kind_is : targa_kind (head_of kind info) ≡ kind
  raw : is_packed (head_of kind info) ≡ false
  from_top : is_from_top (head_of kind info) ≡ true
  identifier : identifier_length (head_of kind info) ≡ 0

header_is : (kind : ImageKind) (info : ImageInfo) → AreSides info.width info.height → IsHeader kind info
unfolding targa_header
header_is Gray info s =
    let w = side_small info.width s.wide in
    let h = side_small info.height s.high in
    record { long = refl; read = refl; width_is = omega (arith, w); height_is = omega (arith, h); kind_is = refl; raw = refl; from_top = refl; identifier = refl }
header_is Rgb info s =
    let w = side_small info.width s.wide in
    let h = side_small info.height s.high in
    record { long = refl; read = refl; width_is = omega (arith, w); height_is = omega (arith, h); kind_is = refl; raw = refl; from_top = refl; identifier = refl }

header_right : (kind : ImageKind) (info : ImageInfo) → AreSides info.width info.height → IsHeader kind info → IsTargaFront (head_of kind info) (head_of kind info)
header_right kind info s i =
    let head = head_of kind info in
    let sides : has_targa_sides head ≡ true =
    ap (λ w. (is_side w && is_side (targa_height head)) && are_few_pixels w (targa_height head)) i.width_is
    ∙ ap (λ h. (is_side info.width && is_side h) && are_few_pixels info.width h) i.height_is
    ∙ and_intro (is_side info.width && is_side info.height) (are_few_pixels info.width info.height) (and_intro (is_side info.width) (is_side info.height) s.wide s.high) s.few
    in
    record {
      identifier = [];
      cut = sym (append-nil head);
      long = i.long;
      right = ap (λ (v : Bool). cond v (Some ImageUnsupported) (cond (has_targa_sides head) None (Some ImageHeader))) i.read ∙ ap (λ (v : Bool). cond v None (Some ImageHeader)) sides;
      identifier_long = sym i.identifier;
    }

info_is : (kind : ImageKind) (info : ImageInfo) → IsHeader kind info → targa_info (head_of kind info) ≡ info_of kind info.width info.height
info_is kind info i =
    let head = head_of kind info in
    ap (λ k. info_of k (targa_width head) (targa_height head)) i.kind_is ∙ ap (λ w. info_of kind w (targa_height head)) i.width_is ∙ ap (info_of kind info.width) i.height_is

-- THE IMAGE of such a header and these rows

image_is : (kind : ImageKind) (info : ImageInfo) (rows : List (List ℕ)) → IsHeader kind info → length rows ≡ info.height → All (λ row. length row ≡ row_bytes (info_of kind info.width info.height)) rows
    → targa_image (head_of kind info) (lines kind rows) ≡ image_of_rows (record info { kind = kind }) rows
image_is kind info rows i count long =
    let head = head_of kind info in
    let row : ImageKind → Bool → ImageInfo → ℕ → List ℕ = λ k top told y.
    (let n = row_bytes told in file_samples k (take n (drop (n * cond top y (targa_height head - 1 - y)) (lines kind rows)))) in
    let image : ImageInfo → List ℕ → Image = λ told samples. record { info = told; samples = samples } in
    let all : length rows ≤ length rows = omega arith in
    ap (λ told. image told (targa_image head (lines kind rows)).samples) (info_is kind info i)
    ∙ ap (image (info_of kind info.width info.height))
    (ap (λ k. flat_map (row k (is_from_top head) (targa_info head)) (below (targa_height head))) i.kind_is
    ∙ ap (λ v. flat_map (row kind v (targa_info head)) (below (targa_height head))) i.from_top
    ∙ ap (λ told. flat_map (row kind true told) (below (targa_height head))) (info_is kind info i)
    ∙ ap (λ h. flat_map (row kind true (info_of kind info.width info.height)) (below h)) (i.height_is ∙ sym count)
    ∙ first_rows kind (row_bytes (info_of kind info.width info.height)) rows long (length rows) all
    ∙ ap joined (take_all (length rows) rows all))

raw_body : (v : Bool) (size count : ℕ) (body : List ℕ) → v ≡ false → length body ≡ count → IsBodyOf v size count body body
raw_body true size count body e l = cc
raw_body false size count body e l = (refl, l)

text_whole : (kind : ImageKind) (info : ImageInfo) (rows : List (List ℕ)) → AreSides info.width info.height → length rows ≡ info.height → All (λ row. length row ≡ row_bytes (info_of kind info.width info.height)) rows
    → IsWholeTarga (head_of kind info ++ lines kind rows) (image_of_rows (record info { kind = kind }) rows)
text_whole kind info rows s count long =
    let head = head_of kind info in
    let i = header_is kind info s in
    let n = row_bytes (info_of kind info.width info.height) in
    let l : length (lines kind rows) ≡ sample_count (targa_info head) = lines_long kind n rows long ∙ ap (λ m. m * n) count ∙ sym (ap sample_count (info_is kind info i)) in
    record {
      head = head;
      front = head;
      body = lines kind rows;
      pixels = lines kind rows;
      header = header_right kind info s i;
      cut = refl;
      all = raw_body (is_packed head) (pixel_size (targa_kind head)) (sample_count (targa_info head)) (lines kind rows) i.raw l;
      same = sym (image_is kind info rows i count long);
    }

pub text_means : (info : ImageInfo) (rows : List (List ℕ)) → AreRowsOf info rows → TargaMeans (end_text Targa info rows) (image_of_rows info rows)
text_means info rows r =
    let text = end_text Targa info rows in
    let same : length text ≤ length text = omega arith in
    let is : targa_header info ++ lines info.kind rows ≡ text = sym (append-nil (targa_header info ++ lines info.kind rows)) in (
      length text,
      same,
      subst (λ x. IsWholeTarga x (image_of_rows info rows)) (is ∙ sym (take_all (length text) text same)) (text_whole info.kind info rows (record { wide = r.wide; high = r.high; few = r.few }) r.count r.long),
    )
