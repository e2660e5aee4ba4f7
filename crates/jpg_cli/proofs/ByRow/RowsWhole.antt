-- The text of the decoded MCU rows is a first part of the text of the complete file, and the image of all of them is
-- its image.
use Rattle.std.proofs.Common.{◌≡◌, ℕ, ◌+◌, ◌≤◌, Bool, true, false, List, ◌++◌, length, take, drop, refl, sym, ap, ◌∙◌, subst, arith, Option, Some, None}
use Rattle.std.proofs.lemmas.List.{length-append, take-append-drop}
use Rattle.jpg_spec.specs.UnfinishedFile.{IsWholeFile}
use Rattle.jpg_spec_image.specs.ImageText.{end_text}
use Rattle.jpg_spec.specs.Meaning.{Meaning}
use Rattle.jpg_spec_image.specs.Pixels.{info, out_fault, pixels}
use Rattle.jpg_spec_image.specs.RowLaws.{CompletesAll, GoesOnFrom, TellsTwice, is_by_rows}
use Rattle.jpg_spec.specs.RowLaws.{IsReadByRows}
use Rattle.jpg_spec.specs.RowsParsed.{BeginsScanOfAll, TellsRows, picture_so_far}
use Rattle.jpg_spec_image.specs.RowsShown.{rows_text}
use Rattle.jpg_spec.specs.Scan.{Blocks}
use Rattle.jpg_spec.specs.Segments.{standard_limits}
use Rattle.jpg_spec_image.specs.Strips.{mcu_rows}
use Rattle.jpg_spec.specs.declared.fault.Fault.{Fault}
use Rattle.jpg_spec_image.specs.declared.image.EndKind.{EndKind}
use Rattle.jpg_spec_image.specs.declared.image.EndKind.TheVariants.{Bmp, Pnm, Targa}
use Rattle.jpg_spec_image.proofs.RowsAlike.{so_far_alike}
use Rattle.jpg_spec_image.proofs.RowsCompleted.{complete_all}
use Rattle.jpg_spec_image.proofs.RowsHeader.{begun_rows}
use Rattle.jpg_spec.proofs.McuRows.RowsHeader.{rows_few}
use Rattle.jpg_spec_image.proofs.RowsImage.{image_of_all, late_rows}
use Rattle.jpg_spec.proofs.McuRows.RowsOnce.{rows_stay}
use Rattle.jpg_spec_image.proofs.RowsText.{texts_go_on}
use Rattle.jpg_spec.proofs.Writing.WrittenFront.{standard_are_limits}
use Rattle.jpg_cli.specs.Tools.Showing.{Showing, shown_text}
use Rattle.jpg_cli.specs.Tools.ShowingRows.{Head, IsHeadIn}
use Rattle.jpg_cli.proofs.Pieces.FirstRead.{not_shown}
use Rattle.jpg_cli.proofs.ByRow.RowHeads.{begins_whole}
use Rattle.jpg_cli.proofs.ByRow.RowsStopped.{FitsWhole}

-- THE PICTURE of some blocks at the end of the header
abbrev pub so_far : Head → Blocks → Meaning
so_far h blocks = picture_so_far standard_limits h.before h.contents blocks

-- is displayed as its file is
pub so_far_shown : (gray : Bool) (h : Head) (all : List ℕ) (blocks : Blocks) → IsHeadIn gray h all → out_fault gray (so_far h blocks) ≡ None
so_far_shown gray h all blocks k = by (out_fault gray (so_far h blocks)) refl
  where
    by : (o : Option Fault) → out_fault gray (so_far h blocks) ≡ o → o ≡ None
    by None e = refl
    by (Some fault) e =
        let t = (so_far_alike standard_limits gray all h.before h.contents blocks k.begins).told fault e in
        absurd (not_shown gray all t.0 t.1 (record { before = h.before; contents = h.contents; begins = k.begins; shown = k.shown }))

-- no more MCU rows are decoded than it has
pub few_told : (h : Head) (all : List ℕ) (m : ℕ) (told blocks : Blocks) → BeginsScanOfAll standard_limits all h.before h.contents → TellsRows standard_limits all m told → m ≤ mcu_rows (so_far h blocks)
few_told h all m told blocks begins k =
    rows_few standard_limits all m (mcu_rows (so_far h blocks)) told h.before h.contents begins (begun_rows standard_limits all h.before h.contents blocks standard_are_limits begins) k

module _ (gray smooth : Bool) (kind : EndKind) (h : Head) (all : List ℕ) where
  -- with more of them the text is continued
  pub goes_on : (m n : ℕ) (some more : Blocks) → IsHeadIn gray h all → m ≤ n → TellsRows standard_limits all m some → TellsRows standard_limits all n more
      → GoesOnFrom (rows_text kind (so_far h some) gray smooth m) (rows_text kind (so_far h more) gray smooth n)
  goes_on m n some more head less first second =
      let twice : TellsTwice standard_limits gray all =
      record {
        limited = standard_are_limits;
        before = h.before;
        contents = h.contents;
        begins = head.begins;
        fewer = m;
        more = n;
        less = less;
        some = some;
        all = more;
        first = first;
        second = second;
        shown = so_far_shown gray h all more head;
      } in
      texts_go_on standard_limits gray smooth all kind twice

-- OF A COMPLETE FILE, which a prefix of the bytes is
abbrev pub read_by_rows : (h : Head) (front : List ℕ) (M : Meaning) → IsWholeFile standard_limits front M → BeginsScanOfAll standard_limits front h.before h.contents → IsReadByRows standard_limits front M
read_by_rows h front M whole begins = record { limited = standard_are_limits; means = whole.0; before = h.before; contents = h.contents; begins = begins }

pub begins_in : (gray : Bool) (h : Head) (all front rest : List ℕ) (M : Meaning) → IsHeadIn gray h all → all ≡ front ++ rest → IsWholeFile standard_limits front M → BeginsScanOfAll standard_limits front h.before h.contents
begins_in gray h all front rest M head cut whole = begins_whole front rest M whole h.before h.contents (subst (λ l. BeginsScanOfAll standard_limits l h.before h.contents) cut head.begins)

-- the text of rows is no longer than that of its image
pub fits_file : (s : Showing) (h : Head) (all front rest : List ℕ) (m : ℕ) (blocks : Blocks) (M : Meaning) → IsHeadIn s.gray h all → TellsRows standard_limits all m blocks → all ≡ front ++ rest → IsWholeFile standard_limits front M
    → length (rows_text s.kind (so_far h blocks) s.gray s.smooth m) ≤ length (shown_text s M)
fits_file s h all front rest m blocks M head told cut whole = by s.kind
  where
    w : IsReadByRows standard_limits front M
    w = read_by_rows h front M whole (begins_in s.gray h all front rest M head cut whole)

    k : CompletesAll standard_limits front M w
    k = complete_all standard_limits front M w

    there : TellsRows standard_limits all (mcu_rows M) k.blocks
    there = subst (λ l. TellsRows standard_limits l (mcu_rows M) k.blocks) (sym cut) (rows_stay standard_limits front rest (mcu_rows M) k.blocks (k.completed).0)

    few : m ≤ mcu_rows M
    few = subst (λ n. m ≤ n) (ap mcu_rows k.same) (few_told h all m blocks k.blocks head.begins told)

    Fits : EndKind → Type 0
    Fits kind = length (rows_text kind (so_far h blocks) s.gray s.smooth m) ≤ length (end_text kind (info M s.gray) (pixels M s.gray s.smooth))

    by_rows : (kind : EndKind) → is_by_rows kind ≡ true → Fits kind
    by_rows kind rows =
        let text = rows_text kind (so_far h blocks) s.gray s.smooth m in
        let more = rows_text kind (so_far h k.blocks) s.gray s.smooth (mcu_rows M) in
        let on = goes_on s.gray s.smooth kind h all m (mcu_rows M) blocks k.blocks head few told there in
        let longer : length more ≡ length text + length on.0 = ap length on.1 ∙ length-append text on.0 in
        let same : length more ≡ length (end_text kind (info M s.gray) (pixels M s.gray s.smooth)) = ap length (image_of_all standard_limits front M w kind s.gray s.smooth k.blocks rows k.completed) in
        omega (arith, longer, same)

    late : (kind : EndKind) → is_by_rows kind ≡ false → Fits kind
    late kind rows =
        let none : length (rows_text kind (so_far h blocks) s.gray s.smooth m) ≡ 0 = ap length (late_rows (so_far h blocks) kind s.gray s.smooth m rows) in
        omega (arith, none)

    by : (kind : EndKind) → Fits kind
    by Pnm = by_rows Pnm refl
    by Bmp = late Bmp refl
    by Targa = by_rows Targa refl

pub fits_whole : (s : Showing) (h : Head) (all : List ℕ) (m : ℕ) (blocks : Blocks) → IsHeadIn s.gray h all → TellsRows standard_limits all m blocks → FitsWhole s all (rows_text s.kind (so_far h blocks) s.gray s.smooth m)
fits_whole s h all m blocks head told M read =
    fits_file s h all (take read.count all) (drop read.count all) m blocks M head told (sym (take-append-drop read.count all)) read.whole
