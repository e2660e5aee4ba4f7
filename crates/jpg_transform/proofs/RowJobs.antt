-- The job of a picture whose rows stay rows: what may be written of it MCU row by MCU row, and the data of its scan.
use Rattle.std.proofs.Common.{◌≡◌, ◌∙◌, ℕ, true, List, refl, sym, ap, subst, Option, Some, None}
use Rattle.std.specs.Prelude.{IfSome}
use Rattle.jpg_spec.specs.FrameHeader.{IsFrame}
use Rattle.jpg_spec.specs.Geometry.{Frame}
use Rattle.jpg_spec.specs.Scan.{Blocks}
use Rattle.jpg_spec.specs.Meaning.{Meaning}
use Rattle.jpg_spec_move.specs.Moved.{Choice, columns_in, moved_text, rows_in}
use Rattle.jpg_spec_move.specs.Transforms.{transposes}
use Rattle.jpg_coefs.specs.Picture.{map_of}
use Rattle.jpg_huff.specs.declared.set.TableSet.{TableSet}
use Rattle.jpg_file.specs.Read.PictureRead.{picture_meaning}
use Rattle.jpg_file.specs.Read.ReadFile.{AgreeInRows}
use Rattle.jpg_file.specs.Read.PictureKept.{IsHeadOfPicture}
use Rattle.jpg_file.specs.Write.WriteFile.{IsAllOf, IsOfAll, IsSole, IsSoleData, CanWriteFile, file_bytes}
use Rattle.jpg_file.specs.declared.read.picture.Picture.{Picture}
use Rattle.jpg_file.specs.declared.read.strip_head.StripHead.{StripHead}
use Rattle.jpg_file.specs.declared.write.Plan.{Plan}
use Rattle.jpg_file.specs.declared.write.sole.SoleScan.{SoleScan}
use Rattle.jpg_seq.specs.Reader.{IsSeqScan}
use Rattle.jpg_transform.specs.MovedBlocks.{IsWrittenAs}
use Rattle.jpg_transform.specs.Places.{keeps_rows}
use Rattle.jpg_transform.specs.Planned.{IsHeadOf, IsJobFor}
use Rattle.jpg_transform.specs.RowsMoved.{GivesMoved, HasAllMoved, IsMovedScan, MovedScan, moved_data, moved_of, moved_scan}
use Rattle.jpg_transform.specs.declared.choice.Job.{Job}
use Rattle.jpg_transform.specs.declared.row_mover.RowMover.{RowMover}
use Rattle.jpg_transform.proofs.AnyPicture.{IsPictureOf, picture_of}
use Rattle.jpg_transform.proofs.RowsMoved.{all_in_bounds, moved_agree}
use Rattle.jpg_transform.proofs.MovedFile.{writes_plan}
use Rattle.jpg_transform.proofs.MovedHead.{frame_precision_stays}
use Rattle.jpg_transform.proofs.Planned.{is_output, whole_picture}
use Rattle.jpg_transform.proofs.SeenPicture.{seen_meaning}
use Rattle.jpg_transform.proofs.Showing.{Arguments, AreGiven, shown_by}

-- what is written of it
pub job_writes : (p : Picture) (choice : Choice) (job : Job) → IsJobFor p choice job → IsFrame job.plan.out.frame
    → IsWrittenAs p choice job.plan job.plan.out.frame (moved_of job.transform job.plan.out.frame (map_of p.coefs))
job_writes p choice job h is =
    let t = job.transform in
    let out = job.plan.out.frame in
    let a : Arguments = record { frame = out; transform = t; over = transposes t; columns = λ i. columns_in t out i; rows = λ i. rows_in t out i } in
    let given : AreGiven a = record { frame = is; over = refl; columns = λ i low. refl; rows = λ i low. refl } in
    writes_plan p choice job.plan out (moved_of t out (map_of p.coefs)) refl is h.planned
    (shown_by (picture_meaning p) p.keeps.frame given (whole_picture p) (seen_meaning p) (is_output p choice job h))

-- its scan has all components
pub all_of : (plan : Plan) (kept : List (ℕ × List ℕ)) (f : Frame) (blocks : Blocks) → CanWriteFile plan kept f blocks → (o : Option SoleScan) → IfSome o (IsAllOf plan) → IfSome o (IsOfAll f)
all_of plan kept f blocks can None h = h
all_of plan kept f blocks can (Some scan) h = h kept f blocks can

-- so that it can be written MCU row by MCU row
pub is_moved_scan : (p : Picture) (choice : Choice) (job : Job) (scan : SoleScan) (set : TableSet) (interval : ℕ) → IsJobFor p choice job → IsFrame job.plan.out.frame → keeps_rows job.transform ≡ true
    → IsOfAll job.plan.out.frame scan → set ≡ scan.tables → IsMovedScan (moved_scan p.frame job scan.due.head set interval)
is_moved_scan p choice job scan set interval h is stays all e = record {
  source = p.keeps.frame;
  framed = is;
  stays = stays;
  choice = choice;
  output = is_output p choice job h;
  precision = ap (λ (g : Frame). g.precision) h.planned.head.frame ∙ frame_precision_stays choice p.frame;
  scan = subst (λ (s : TableSet). IsSeqScan job.plan.out.frame scan.due.head s) (sym e) all.sequential;
  all = all.all;
}

-- and the data are those of the transformed picture
pub data_due : (p : Picture) (choice : Choice) (job : Job) (scan : SoleScan) (text : List ℕ) → IsJobFor p choice job → IsFrame job.plan.out.frame → IsSole job.plan scan
    → text ≡ moved_data (moved_scan p.frame job scan.due.head scan.tables scan.due.interval) (map_of p.coefs)
    → IsSoleData job.plan p.kept job.plan.out.frame (moved_of job.transform job.plan.out.frame (map_of p.coefs)) scan text
data_due p choice job scan text h is sole e = record { can = (job_writes p choice job h is).can; sole = sole; written = e }

-- AT THE END: what was written of the MCU rows of a meaning with this head, for a job that each picture with the head has:
-- the data of a picture that means it, whose file has the text of the transformed picture.

pub record IsRowData (h : StripHead) (M : Meaning) (choice : Choice) (job : Job) (scan : SoleScan) (text : List ℕ) : Type 0 where
  pub picture : Picture
  pub of : IsPictureOf h M picture
  pub has_job : IsJobFor picture choice job
  pub blocks : Blocks
  pub sole : IsSoleData job.plan picture.kept job.plan.out.frame blocks scan text
  pub written : file_bytes job.plan picture.kept blocks ≡ moved_text choice (picture_meaning picture)

-- its scan
abbrev pub scan_of_job : StripHead → Job → SoleScan → MovedScan
scan_of_job h job scan = moved_scan h.frame job scan.due.head scan.tables scan.due.interval

pub row_data : {h : StripHead} {M : Meaning} {choice : Choice} {job : Job} {scan : SoleScan} {k : ℕ} {r : RowMover} {text : List ℕ} → IsHeadOfPicture h M
    → ((p : Picture) → IsHeadOf h p → IsJobFor p choice job) → IsFrame job.plan.out.frame → IsSole job.plan scan → HasAllMoved (scan_of_job h job scan) k M.blocks r → GivesMoved r text
    → IsRowData h M choice job scan text
row_data {h} {M} {choice} {job} {scan} {k} {r} {text} head has_job is sole all gives = by (picture_of h M head (all_in_bounds head.head.frame all.all all.has.some))
  where
    by : (p : Picture) × IsPictureOf h M p → IsRowData h M choice job scan text
    by found =
        let p = found.0 in
        let of = found.1 in
        let mine = has_job p of.head in
        let agree : AgreeInRows h.frame k M.blocks (map_of p.coefs) = record { same = λ i x y there across down low. sym (of.same i x y (record { component = there; across = across; down = down })) } in
        let due = gives (scan_of_job h job scan) k (map_of p.coefs) (record { has = moved_agree all.has agree; all = all.all }) in
        let own = subst (λ (f : Frame). text ≡ moved_data (moved_scan f job scan.due.head scan.tables scan.due.interval) (map_of p.coefs)) (sym of.head.frame) due in
        record {
          picture = p;
          of = of;
          has_job = mine;
          blocks = moved_of job.transform job.plan.out.frame (map_of p.coefs);
          sole = data_due p choice job scan text mine is sole own;
          written = (job_writes p choice job mine is).text;
        }
