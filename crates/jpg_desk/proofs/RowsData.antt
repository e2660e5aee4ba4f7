-- The data of the output's one scan, of the MCU rows of a picture that are transformed as they are read, and its file.
use Rattle.std.proofs.Common.{◌≡◌, ℕ, List, Option, Ok, sym, ap, ◌∙◌, subst}
use Rattle.jpg_base.specs.Desk.{DeskState}
use Rattle.jpg_spec.specs.FrameHeader.{IsFrame}
use Rattle.jpg_spec.specs.Geometry.{Frame}
use Rattle.jpg_spec.specs.Markers.{Segment}
use Rattle.jpg_spec.specs.Meaning.{Meaning, real_blocks}
use Rattle.jpg_spec.specs.Scan.{Blocks}
use Rattle.jpg_spec.specs.declared.frame.Copying.{Copying}
use Rattle.jpg_spec_move.specs.Moved.{Choice}
use Rattle.jpg_spec_words.specs.declared.answers.Why.TheVariants as why
use Rattle.jpg_huff.specs.declared.set.TableSet.{TableSet}
use Rattle.jpg_file.specs.Read.SegmentState.{kept_for}
use Rattle.jpg_file.specs.Read.PictureKept.{IsHeadOfPicture}
use Rattle.jpg_file.specs.Write.WriteFile.{IsOfAll, IsSoleData, file_bytes}
use Rattle.jpg_file.specs.declared.read.strip_head.StripHead.{StripHead}
use Rattle.jpg_file.specs.declared.write.Plan.{Plan}
use Rattle.jpg_file.specs.declared.write.sole.SoleScan.{SoleScan}
use Rattle.jpg_file.proofs.Headers.InForce.{colour_same, jfif_same}
use Rattle.jpg_transform.specs.Planned.{IsPlanFor}
use Rattle.jpg_transform.specs.RowsMoved.{GivesMoved, HasMoved, IsMovedScan, moved_scan}
use Rattle.jpg_transform.specs.declared.choice.Job.{Job}
use Rattle.jpg_transform.specs.declared.row_mover.RowMover.{RowMover}
use Rattle.jpg_transform.proofs.AnyPicture.{picture_of}
use Rattle.jpg_transform.proofs.RowJobs.{IsRowData, is_moved_scan, row_data}
use Rattle.jpg_desk.specs.Judging.{NoValueTaken}
use Rattle.jpg_desk.specs.MovedRead.{CanGoOn, EndsMoved, GivesData, HasAllRows, HasData, HasMovedAll, IsRowJob}
use Rattle.jpg_desk.specs.MovedRows.{IsMovedRows}
use Rattle.jpg_desk.specs.ReadPicture.{Coefficients, picture_judging}
use Rattle.jpg_desk.specs.RowsRead.{HasRows}
use Rattle.jpg_desk.specs.RowsTo.{HaveAll, HaveAllMoved, IsSameGoal, scan_moved}
use Rattle.jpg_desk.specs.declared.encoded_rows.EncodedRows.{EncodedRows}
use Rattle.jpg_desk.specs.declared.moved_rows.MovedInput.TheVariants as input
use Rattle.jpg_desk.specs.declared.moved_rows.RowJob.{RowJob}
use Rattle.jpg_desk.specs.declared.moved_rows.RowsData.{RowsData}
use Rattle.jpg_desk.specs.declared.rows_read.RowsFront.{RowsFront}
use Rattle.jpg_desk.specs.declared.rows_read.RowsRead.{RowsRead}
use Rattle.jpg_desk.specs.declared.rows_to.RowsTo.{RowsTo}
use Rattle.jpg_desk.specs.declared.rows_to.RowsTo.TheVariants as to
use Rattle.jpg_desk.proofs.RowsPicture.{some_head}
use Rattle.jpg_desk.proofs.SoleWritten.{same_sole}
use denote.Bor.{Bor}

-- WHERE NO ROW was moved yet

-- the job's scan can be written MCU row by MCU row
pub can_move : {choice : Choice} {h : StripHead} {front : RowsFront} {now : DeskState} {job : RowJob} (scan : SoleScan) (set : TableSet) → IsRowJob h choice job → CanGoOn choice.copying h front now
    → IsFrame ((job.job).plan).out.frame → scan ≡ (job.scan).value → set ≡ scan.tables → IsMovedScan (moved_scan h.frame job.job scan.due.head set scan.due.interval)
can_move {choice} {h} {front} {now} {job} scan set is can framed there e =
    let some = some_head can in
    let found = picture_of h some.meaning some.is some.range in
    let all = subst (λ (s : SoleScan). IsOfAll ((job.job).plan).out.frame s) (sym there) is.all in
    subst (λ (f : Frame). IsMovedScan (moved_scan f job.job scan.due.head set scan.due.interval)) found.1.head.frame
    (is_moved_scan found.0 choice job.job scan set scan.due.interval (is.planned found.0 found.1.head) framed is.stays all e)

-- and has no row
pub none_put : {f : Frame} {mover : RowMover} (job : Job) (scan : SoleScan) (set : TableSet) → set ≡ scan.tables → ((blocks : Blocks) → HasMoved (moved_scan f job scan.due.head set scan.due.interval) 0 blocks mover)
    → (blocks : Blocks) → HasMoved (scan_moved f job scan) 0 blocks mover
none_put {f} {mover} job scan set e has blocks = subst (λ (s : TableSet). HasMoved (moved_scan f job scan.due.head s scan.due.interval) 0 blocks mover) e (has blocks)

-- ALL ROWS went there
all_out : (f : Frame) (blocks : Blocks) (job : Bor Job) (scan : Bor SoleScan) (mover : RowMover) (r : RowsTo) → IsSameGoal (to.Moved job scan mover) r → HaveAll f blocks r → HasMovedAll r
all_out f blocks job scan mover (to.Moved j s m) same all = (f, blocks, all)
all_out f blocks job scan mover (to.Kept p) same all = absurd same

moved_out : (f : Frame) (blocks : Blocks) (job : Bor Job) (scan : Bor SoleScan) (mover : RowMover) (r : RowsTo) (text : List ℕ) → IsSameGoal (to.Moved job scan mover) r → HaveAll f blocks r → GivesData r text
    → (m : RowMover) × HaveAllMoved f job.now scan.now blocks m × GivesMoved m text
moved_out f blocks job scan mover (to.Moved j s m) text same all gives =
    (m, subst (λ (b : Bor SoleScan). HaveAllMoved f job.now b.now blocks m) same.1 (subst (λ (b : Bor Job). HaveAllMoved f b.now s.now blocks m) same.0 all), gives)
moved_out f blocks job scan mover (to.Kept p) text same all gives = absurd same

module _ {keeping : Copying} {h : StripHead} {job : Bor Job} {scan : Bor SoleScan} {mover : RowMover} {start new : DeskState} {rows : RowsRead} {early : Option ℕ}
    (all : HasAllRows keeping h (to.Moved job scan mover) start rows early new) where
  has : HasRows all.from early all.taken.0 rows
  has = all.taken.3

  goal : IsSameGoal (to.Moved job scan mover) rows.to
  goal = subst (λ (r : RowsTo). IsSameGoal r rows.to) all.same has.keeps.goal

  there : HaveAll h.frame (has.meaning).blocks rows.to
  there = subst (λ (g : StripHead). HaveAll g.frame (has.meaning).blocks rows.to) all.head has.all

  pub all_moved : HasMovedAll rows.to
  all_moved = all_out h.frame (has.meaning).blocks job scan mover rows.to goal there

  pub data_short : NoValueTaken (picture_judging Coefficients) start why.NoMemory new
  data_short = (all.taken.0, all.taken.1, all.taken.2, has.short)

  pub has_data : {j : RowJob} (text : List ℕ) → job.now ≡ j.job → scan.now ≡ (j.scan).value → GivesData rows.to text → HasData keeping h j start (record { reader = rows.reader; «data» = text; early = early }) new
  has_data {j} text job_is scan_is gives =
      let out = moved_out h.frame (has.meaning).blocks job scan mover rows.to text goal there gives in
      record {
        meaning = has.meaning;
        taken = (all.taken.0, all.taken.1, all.taken.2, has.read);
        short = data_short;
        all = all.all;
        done = has.done;
        kept = has.kept ∙ ap (λ (k : Copying). (kept_for k has.meaning).kept) (has.keeps.keeps.keeping ∙ all.keeps);
        head = subst (λ (g : StripHead). IsHeadOfPicture g has.meaning) all.head has.head;
        real = subst (λ (g : StripHead). real_blocks g.frame (has.meaning).blocks ≡ (has.meaning).blocks) all.head has.real;
        mover = out.0;
        moved = subst (λ (s : SoleScan). HaveAllMoved h.frame j.job s (has.meaning).blocks out.0) scan_is (subst (λ (b : Job). HaveAllMoved h.frame b scan.now (has.meaning).blocks out.0) job_is out.1);
        gives = out.2;
      }

-- the head of a picture is that of the same with only the markers that are kept
head_kept : (keeping : Copying) {h : StripHead} {M : Meaning} → IsHeadOfPicture h M → IsHeadOfPicture h (kept_for keeping M)
head_kept keeping {h} {M} k = record {
  head = k.head;
  same = ap (λ (P : Meaning). let n : Meaning = record P { kept = (kept_for keeping M).kept } in n) k.same;
  colour = k.colour ∙ sym (colour_same keeping M);
  jfif = k.jfif ∙ sym (jfif_same keeping M.kept);
}

-- THE FILE of the picture that was moved
module _ {choice : Choice} {h : StripHead} {job : RowJob} {start new : DeskState} {rows : RowsData} (is : IsRowJob h choice job) (has : HasData choice.copying h job start rows new) where
  -- the picture as it is kept
  abbrev kept_meaning : Meaning
  kept_meaning = kept_for choice.copying has.meaning

  kept_head : IsHeadOfPicture h kept_meaning
  kept_head = head_kept choice.copying has.head

  row : IsRowData h kept_meaning choice job.job (job.scan).value rows.data
  row = row_data kept_head is.planned (has.moved).1.has.scan.framed is.sole (has.moved).1 has.gives

  module _ (r : EncodedRows) (plan : ((r.file).plan).value ≡ (job.job).plan) (kept : (r.file).kept ≡ ((rows.reader).value).file.items.held.kept) (scan : ((r.file).scan).value ≡ (job.scan).value) (bytes : r.bytes ≡ rows.data) where
    same_kept : (r.file).kept ≡ (row.picture).kept
    same_kept = kept ∙ has.kept ∙ sym row.of.kept

    is_file : IsMovedRows choice row.picture r
    is_file = record {
      planned = subst (λ (q : Plan). IsPlanFor row.picture choice q) (sym plan) row.has_job.planned;
      frame = ((job.job).plan).out.frame;
      blocks = row.blocks;
      has = same_sole (r.file).kept ((job.job).plan).out.frame row.blocks plan scan bytes
          (subst (λ (k : List Segment). IsSoleData (job.job).plan k ((job.job).plan).out.frame row.blocks (job.scan).value rows.data) (sym same_kept) row.sole);
      text = ap (λ (q : Plan). file_bytes q (r.file).kept row.blocks) plan ∙ ap (λ (k : List Segment). file_bytes (job.job).plan k row.blocks) same_kept ∙ row.written;
    }

    pub file_moved : EndsMoved choice start (Ok (input.Rows r, rows.early)) new
    file_moved = (row.picture, is_file, ((has.meaning, row.of.means has.real, has.taken), has.all))
