-- Pictures of which the same first MCU rows were decoded: their blocks, and the row that a reader gave.
use Rattle.std.proofs.Common.{◌≡◌, ℕ, ◌+◌, ◌*◌, ◌<◌, ◌≤◌, Bool, cond, ◌==◌, List, [], ◌∷◌, ◌++◌, length, refl, sym, ap, ◌∙◌, subst, arith}
use Rattle.std.proofs.lemmas.List.{append-nil, get_or-map, length-append, length-map}
use Rattle.jpg_spec.specs.FrameHeader.{IsFrame}
use Rattle.jpg_spec.specs.Geometry.{Frame, blocks_across, blocks_down, component_at}
use Rattle.jpg_spec.specs.FileMeaning.{meaning_of, no_blocks, picture_component}
use Rattle.jpg_spec.specs.InForce.{frame_of, head_in}
use Rattle.jpg_spec.specs.Items.{segments_of}
use Rattle.jpg_spec.specs.Lists.{below}
use Rattle.jpg_spec.specs.Markers.{Segment}
use Rattle.jpg_spec.specs.Meaning.{PictureComponent, component_of, real_blocks}
use Rattle.jpg_spec_image.specs.RowLaws.{IsShownInRows}
use Rattle.jpg_spec.specs.RowLaws.{TellsMore, first_blocks}
use Rattle.jpg_spec_image.specs.RowsShown.{rows_text}
use Rattle.jpg_spec.specs.RowsParsed.{BeginsScanOfAll, TellsRows, blocks_in, row_places}
use Rattle.jpg_spec.specs.Scan.{Blocks}
use Rattle.jpg_spec.specs.Segments.{head_components, standard_limits}
use Rattle.jpg_spec_image.specs.Strips.{block_rows}
use Rattle.jpg_spec.specs.declared.frame.Place.{Place}
use Rattle.jpg_spec_image.specs.declared.image.EndKind.{EndKind}
use Rattle.jpg_spec.proofs.Basics.Common.{length_below}
use Rattle.jpg_spec.proofs.Headers.FrameFound.{framed}
use Rattle.jpg_spec.proofs.McuRows.RowCounts.{head_names}
use Rattle.jpg_spec.proofs.Basics.Rows.{at_below}
use Rattle.jpg_spec.proofs.McuRows.RowsFound.{found_first}
use Rattle.jpg_spec_image.proofs.RowsHeader.{begun_covered}
use Rattle.jpg_spec.proofs.McuRows.RowsHeader.{begun_frame, begun_once, rows_begin}
use Rattle.jpg_spec.proofs.McuRows.RowsLater.{head_there}
use Rattle.jpg_spec.proofs.McuRows.RowsOnce.{first_told, rows_once}
use Rattle.jpg_spec_image.proofs.RowsReady.{text_goes_on}
use Rattle.jpg_spec.proofs.Places.Untouched.{frame_stays}
use Rattle.jpg_spec.proofs.Writing.WrittenFront.{standard_are_limits}
use Rattle.jpg_coefs.specs.Picture.{Picture as Coefs, map_of}
use Rattle.jpg_seq.specs.Reader.{rows_in_mcu}
use Rattle.jpg_file.specs.Read.ReadFile.{AreOfRow}
use Rattle.jpg_color.specs.Shown.{AreMcuRow, Display, IsShowable, at_top, parts, picture_of, rows_in}
use Rattle.jpg_color.specs.StripImage.{AgreeInFirstRows}
use Rattle.jpg_color.proofs.Coverage.{component_is, count_is, in_frame}
use Rattle.jpg_cli.specs.Tools.ShowingRows.{Head, IsHeadIn}
use Rattle.jpg_cli.proofs.ByRow.RowsWhole.{few_told, so_far, so_far_shown}
use Rattle.jpg_file.proofs.ByRow.RowsGiven.{real_here}
use Rattle.jpg_spec_image.proofs.RowsText.{real_agree}

-- THE FRAME at the scan header's end is that of the segments before it
pub frame_so_far : (h : Head) (all : List ℕ) → BeginsScanOfAll standard_limits all h.before h.contents → frame_of standard_limits ((0xda, h.contents) ∷ h.before) ≡ frame_of standard_limits h.before
frame_so_far h all k = frame_stays standard_limits h.before 0xda h.contents (framed h.before (k.header).passed.0) (k.header).passed.0

-- BLOCKS of the first rows, where they are real

-- a component's rows of blocks in an MCU row depend only on the frame
pub rows_told : (f : Frame) (segments : List Segment) (blocks : Blocks) (i : ℕ) → i < length f.components → block_rows (meaning_of f segments blocks) i ≡ rows_in_mcu f i
rows_told f segments blocks i lt =
    let M = meaning_of f segments blocks in
    let count : length M.components ≡ length f.components = length-map (below (length f.components)) (picture_component f segments) ∙ length_below (length f.components) in
    let none : PictureComponent = record { id = 0; h = 1; v = 1; quants = [] } in
    let low : i < length (below (length f.components)) = (let n = length_below (length f.components) in omega (arith, n, lt)) in
    let at : component_of M i ≡ picture_component f segments i =
    get_or-map (picture_component f segments) (below (length f.components)) i 0 none low ∙ ap (picture_component f segments) (at_below (length f.components) i lt) in
    ap (λ n. cond (n == 1) 1 (component_of M i).v) count ∙ ap (λ (c : PictureComponent). cond (length f.components == 1) 1 c.v) at

-- Of two pictures whose first rows were decoded
record AreToldTwice (gray : Bool) (h : Head) (all : List ℕ) (m n : ℕ) (some more : Blocks) : Type 0 where
  pub head : IsHeadIn gray h all
  pub less : m ≤ n
  pub first : TellsRows standard_limits all m some
  pub second : TellsRows standard_limits all n more

some_of_more : {gray : Bool} {h : Head} {all : List ℕ} {m n : ℕ} {some more : Blocks} → AreToldTwice gray h all m n some more → some ≡ blocks_in (row_places standard_limits h.before h.contents m) more
some_of_more {h} {all} {m} {n} {some} {more} k =
    let w : TellsMore standard_limits all m = record { all = n; blocks = more; enough = k.less; told = k.second } in
    let j = (k.second).place in
    let same = begun_once standard_limits all (segments_of j.items) h.before j.contents h.contents (rows_begin standard_limits all n more k.second) (k.head).begins in
    rows_once standard_limits all m some (first_blocks standard_limits all m w) k.first (first_told standard_limits all m w)
    ∙ ap (λ s. blocks_in (row_places standard_limits s j.contents m) more) same.0 ∙ ap (λ c. blocks_in (row_places standard_limits h.before c m) more) same.1

module _ {gray : Bool} {h : Head} {all : List ℕ} {m n : ℕ} {some more : Blocks} where
  blocks_agree : AreToldTwice gray h all m n some more → (i x z : ℕ) → z < block_rows (so_far h more) i * m → (so_far h more).blocks i x z ≡ (so_far h some).blocks i x z
  blocks_agree k i x z low =
      subst (λ g. real_blocks g more i x z ≡ real_blocks g some i x z) (sym stays)
      (real_agree f places more i x z
      (λ lt real. found_first f ids i x z m is lt (head_names f (head_in f h.contents) i (head_there standard_limits h.before h.contents begins.unbroken) begins.of_all.all lt) real (there lt))
      ∙ ap (λ (b : Blocks). real_blocks f b i x z) (sym (some_of_more k)))
    where
      begins : BeginsScanOfAll standard_limits all h.before h.contents
      begins = (k.head).begins

      f : Frame
      f = frame_of standard_limits h.before

      after : List Segment
      after = (0xda, h.contents) ∷ h.before

      ids : List ℕ
      ids = head_components (head_in (frame_of standard_limits h.before) h.contents)

      is : IsFrame (frame_of standard_limits h.before)
      is = begun_frame standard_limits all h.before h.contents standard_are_limits (k.head).begins

      stays : frame_of standard_limits ((0xda, h.contents) ∷ h.before) ≡ frame_of standard_limits h.before
      stays = frame_so_far h all (k.head).begins

      places : List Place
      places = row_places standard_limits h.before h.contents m

      there : i < length (frame_of standard_limits h.before).components → z < cond (length ids == 1) 1 (component_at f i).v * m
      there lt =
          subst (λ c. z < c * m)
          (ap (λ g. block_rows (meaning_of g after more) i) stays ∙ rows_told f after more i lt ∙ ap (λ c. cond (c == 1) 1 (component_at f i).v) (sym begins.of_all.all)) low

pub agree_first : {gray : Bool} {h : Head} {all : List ℕ} {m n : ℕ} {some more : Blocks} → IsHeadIn gray h all → m ≤ n → TellsRows standard_limits all m some → TellsRows standard_limits all n more
    → AgreeInFirstRows (so_far h some) (so_far h more) m
agree_first {h} {m} {some} head less first second = record {
  same = refl;
  blocks = λ i x y has wide high low.
      (let turned : block_rows (so_far h some) i * m ≡ m * block_rows (so_far h some) i = grind arith in
      sym (blocks_agree (record { head = head; less = less; first = first; second = second }) i x y (omega (arith, low, turned))));
}

-- THEIR TEXT is the same
pub text_same : {gray : Bool} (smooth : Bool) (kind : EndKind) {h : Head} {all : List ℕ} {m : ℕ} {some : Blocks} (more : Blocks) → IsHeadIn gray h all → TellsRows standard_limits all m some
    → ((i x z : ℕ) → z < block_rows (so_far h more) i * m → (so_far h more).blocks i x z ≡ (so_far h some).blocks i x z) → rows_text kind (so_far h some) gray smooth m ≡ rows_text kind (so_far h more) gray smooth m
text_same {gray} smooth kind {h} {all} {m} {some} more head told agree = one (rows_text kind (so_far h some) gray smooth m) (rows_text kind (so_far h more) gray smooth m) up.0 down.0 up.1 down.1
  where
    shown : (x : Blocks) → IsShownInRows (so_far h x) gray smooth
    shown x = begun_covered standard_limits all h.before h.contents x gray smooth standard_are_limits head.begins (so_far_shown gray h all x head)

    up : (e : List ℕ) × (rows_text kind (so_far h more) gray smooth m ≡ rows_text kind (so_far h some) gray smooth m ++ e)
    up = text_goes_on kind (so_far h more) (so_far h some).blocks gray smooth m m (shown more) (omega arith) (few_told h all m some more head.begins told) (λ i x z has low. agree i x z low)

    down : (e : List ℕ) × (rows_text kind (so_far h some) gray smooth m ≡ rows_text kind (so_far h more) gray smooth m ++ e)
    down = text_goes_on kind (so_far h some) (so_far h more).blocks gray smooth m m (shown some) (omega arith) (few_told h all m some some head.begins told) (λ i x z has low. sym (agree i x z low))

    one : (a b x y : List ℕ) → b ≡ a ++ x → a ≡ b ++ y → a ≡ b
    one a b [] y e g = sym (append-nil a) ∙ sym e
    one a b (v ∷ x) y e g = absurd (let s = ap length e in let t = ap length g in omega (arith, s, t, length-append a (v ∷ x), length-append b y))

module _ {gray : Bool} {h : Head} {all : List ℕ} {m n : ℕ} {some more : Blocks} where
  pub same_text : (smooth : Bool) (kind : EndKind) → IsHeadIn gray h all → m ≤ n → TellsRows standard_limits all m some → TellsRows standard_limits all n more
      → rows_text kind (so_far h some) gray smooth m ≡ rows_text kind (so_far h more) gray smooth m
  same_text smooth kind head less first second =
      text_same smooth kind more head first (blocks_agree (record { head = head; less = less; first = first; second = second }))

-- THE ROW that a reader gave is that of the picture

rows_shown : (d : Display) (i : ℕ) → i < length d.frame.components → rows_in d i ≡ rows_in_mcu d.frame i
rows_shown d i lt =
    ap (λ n. cond (n == 1) 1 (component_of (picture_of d no_blocks) i).v) (count_is d no_blocks)
    ∙ ap (λ (c : PictureComponent). cond (length d.frame.components == 1) 1 c.v) (component_is d no_blocks i lt)

pub row_shown : {d : Display} (h : Head) {all : List ℕ} {m : ℕ} {q : Coefs} {blocks : Blocks} → IsShowable d → d.frame ≡ frame_of standard_limits h.before → BeginsScanOfAll standard_limits all h.before h.contents
    → AreOfRow (frame_of standard_limits h.before) m q blocks → AreMcuRow d m at_top q (so_far h blocks).blocks
row_shown {d} h {all} {m} {q} {blocks} showable same begins k = record { same = at }
  where
    row : AreOfRow d.frame m q blocks
    row = subst (λ f. AreOfRow f m q blocks) (sym same) k

    frame_is : frame_of standard_limits ((0xda, h.contents) ∷ h.before) ≡ d.frame
    frame_is = frame_so_far h all begins ∙ sym same

    at : (i x y : ℕ) → i < parts d → x < blocks_across d.frame (component_at d.frame i) → y < rows_in d i → m * rows_in d i + y < blocks_down d.frame (component_at d.frame i)
        → map_of q i x (at_top i + y) ≡ (so_far h blocks).blocks i x (m * rows_in d i + y)
    at i x y has wide high down =
        let lt = in_frame d i showable has in
        let rows = rows_shown d i lt in
        let here : at_top i + y ≡ y = omega arith in
        ap (map_of q i x) here
        ∙ row.same i x y lt wide (subst (λ n. y < n) rows high) (subst (λ n. m * n + y < blocks_down d.frame (component_at d.frame i)) rows down)
        ∙ ap (λ n. blocks i x (m * n + y)) (sym rows)
        ∙ sym (real_here d.frame blocks i x (m * rows_in d i + y) lt wide down)
        ∙ ap (λ f. real_blocks f blocks i x (m * rows_in d i + y)) (sym frame_is)
