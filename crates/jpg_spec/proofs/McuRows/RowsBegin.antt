-- Units that are decoded in their order begin with those of MCU rows.
use Rattle.std.proofs.Common.{◌≡◌, ℕ, ◌+◌, ◌*◌, ◌<◌, ◌≤◌, List, [], ◌∷◌, ◌++◌, length, refl, sym, ap, ◌∙◌, arith, ⊎_elim}
use Rattle.std.proofs.lemmas.Bool.{cases_lt}
use Rattle.std.proofs.lemmas.Nat.{mul-le}
use Rattle.std.proofs.lemmas.List.{append_assoc, length-append}
use Rattle.jpg_spec.specs.Lists.{joined}
use Rattle.jpg_spec.specs.Segments.{head_components}
use Rattle.jpg_spec.specs.Scan.{Blocks, Scan}
use Rattle.jpg_spec.specs.Markers.{Segment}
use Rattle.jpg_spec.specs.InForce.{frame_of, head_in}
use Rattle.jpg_spec.specs.FileMeaning.{scan_after}
use Rattle.jpg_spec.specs.ScanRows.{scan_row}
use Rattle.jpg_spec.specs.RowsParsed.{TellsBlocks, TellsRows, row_places}
use Rattle.jpg_spec.specs.RowLaws.{HasRows}
use Rattle.jpg_spec.specs.declared.frame.Limits.{Limits}
use Rattle.jpg_spec.specs.declared.frame.Place.{Place}
use Rattle.jpg_spec.proofs.Files.BlocksOnce.{joined_chunks}
use Rattle.jpg_spec.proofs.Basics.Common.{heads}
use Rattle.jpg_spec.proofs.Places.PictureInWork.{joined_join}
use Rattle.jpg_spec.proofs.McuRows.RowCounts.{length_rows}
use Rattle.jpg_spec.proofs.McuRows.RowsOnce.{ToldAlso, rows_more}

-- of two prefixes of a list the longer begins with the other
longer_front : (a e b o : List Place) → a ++ e ≡ b ++ o → length a ≤ length b → (more : List Place) × (b ≡ a ++ more)
longer_front [] e b o same h = (b, refl)
longer_front (x ∷ a) e [] o same h = absurd (omega (arith, h))
longer_front (x ∷ a) e (y ∷ b) o same h =
    let k = heads x y (a ++ e) (b ++ o) same in
    let r = longer_front a e b o k.1 (omega (arith, h)) in
    (r.0, ap (λ z. z ∷ b) (sym k.0) ∙ ap (λ l. x ∷ l) r.1)

pub told_places : (s : Scan) (done : List (List ℕ)) (coded : List ℕ) (places : List Place) (told : Blocks) → (w : TellsBlocks s done coded places told) → s.places ≡ places ++ (w.rest ++ joined w.later)
told_places s done coded places told w =
    sym (joined_chunks s.interval s.places) ∙ ap joined w.intervals ∙ joined_join w.whole ((w.part ++ w.rest) ∷ w.later)
    ∙ ap (λ l. joined w.whole ++ l) (append_assoc w.part w.rest (joined w.later))
    ∙ sym (append_assoc (joined w.whole) w.part (w.rest ++ joined w.later))
    ∙ ap (λ l. l ++ (w.rest ++ joined w.later)) (sym w.all)

-- places that some rows have aren't of more rows than there are
pub rows_fit : (limits : Limits) (before : List Segment) (contents : List ℕ) (all rows : ℕ) (places behind : List Place) → (scan_after limits before contents).places ≡ row_places limits before contents all
    → 1 ≤ length (scan_after limits before contents).places → (scan_after limits before contents).places ≡ places ++ behind → length (row_places limits before contents rows) ≤ length places → rows ≤ all
rows_fit limits before contents all rows places behind whole some cut enough = ⊎_elim (λ (h : all < rows). absurd (too_many h)) (λ (h : rows ≤ all). h) (cases_lt all rows)
  where
    too_many : all < rows → ⊥
    too_many h =
        let ids = head_components (head_in (frame_of limits before) contents) in
        let row = length (scan_row (frame_of limits before) ids 0) in
        let l1 = ap length cut ∙ length-append places behind in
        let l2 = length_rows (frame_of limits before) ids rows in
        let l3 = ap length whole ∙ length_rows (frame_of limits before) ids all in
        let more : (all + 1) * row ≤ rows * row = mul-le (all + 1) row rows row (omega (arith, h)) (omega arith) in
        let l4 : (all + 1) * row ≡ all * row + row = grind arith in
        let short : row ≡ 0 = omega (arith, l1, l2, l3, more, l4, enough) in
        let none : all * row ≡ 0 = ap (λ n. all * n) short ∙ omega arith in
        omega (arith, some, l3, none)

-- nor are more decoded
pub told_fit : (limits : Limits) (before : List Segment) (contents : List ℕ) (all : ℕ) {bytes : List ℕ} {rows : ℕ} {blocks : Blocks} (v : TellsRows limits bytes rows blocks)
    → (scan_after limits before contents).places ≡ row_places limits before contents all → 1 ≤ length (scan_after limits before contents).places → ToldAlso limits v before contents → rows ≤ all
told_fit limits before contents all {rows = rows} v whole some also =
    let w = also.tells in
    let few = length-append (row_places limits before contents rows) v.more in
    rows_fit limits before contents all rows v.places (w.rest ++ joined w.later) whole some
    (told_places (scan_after limits before contents) (v.place).done (v.place).coded v.places v.told w) (omega (arith, ap length also.first, few))

-- THE LAW
pub begin_rows : (limits : Limits) (before : List Segment) (contents : List ℕ) (all rows : ℕ) (places behind : List Place) → (scan_after limits before contents).places ≡ row_places limits before contents all
    → 1 ≤ length (scan_after limits before contents).places → (scan_after limits before contents).places ≡ places ++ behind → length (row_places limits before contents rows) ≤ length places → HasRows limits before contents places rows
begin_rows limits before contents all rows places behind whole some cut enough =
    let r = rows_more (frame_of limits before) (head_components (head_in (frame_of limits before) contents)) rows all (rows_fit limits before contents all rows places behind whole some cut enough) in
    longer_front (row_places limits before contents rows) r.0 places behind (sym r.1 ∙ sym whole ∙ cut) enough
