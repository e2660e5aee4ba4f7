-- THE FILE OF AN ENCODED IMAGE whose one scan is in memory (T.81, B.2.1; the manual of cjpeg).
use Rattle.std.specs.Prelude.{◌≡◌, None}
use Rattle.jpg_base.specs.declared.names.Name.{Name}
use Rattle.jpg_base.specs.Desk.{DeskState}
use Rattle.jpg_spec.specs.FileMeaning.{Means}
use Rattle.jpg_spec.specs.Geometry.{Frame}
use Rattle.jpg_spec.specs.Scan.{Blocks}
use Rattle.jpg_spec.specs.Segments.{standard_limits}
use Rattle.jpg_spec_encode.specs.Encoded.{Encoding, encode_fault, encoded, encoded_text}
use Rattle.jpg_spec_image.specs.Images.{Image}
use Rattle.jpg_file.specs.Write.WriteFile.{IsSoleData, file_bytes}
use Rattle.jpg_color.specs.EncodeRows.{RowScan, row_scan}
use Rattle.jpg_desk.specs.Writing.{AfterOutput}
use Rattle.jpg_desk.specs.declared.encoded_rows.EncodedRows.{EncodedRows}
use Rattle.jpg_desk.specs.declared.encoded_rows.OneScan.{OneScan}
use Rattle.jpg_desk.specs.declared.moved.Wrote.{Wrote}

-- the scan that it is written with
abbrev pub scan_of : OneScan → RowScan
scan_of o = (let s = (o.scan).value in row_scan (s.due).head s.tables (s.due).interval)

-- the data are those of these blocks
abbrev pub HasData : EncodedRows → Frame → Blocks → Type 0
HasData r f blocks = IsSoleData ((r.file).plan).value (r.file).kept f blocks ((r.file).scan).value r.bytes

-- THE FILE of an image, which has no fault
pub record IsEncodedRows (e : Encoding) (I : Image) (r : EncodedRows) : Type 0 where
  pub none : encode_fault e I ≡ None
  pub means : Means standard_limits (encoded_text e I) (encoded e I)
  pub frame : Frame
  pub blocks : Blocks
  pub has : HasData r frame blocks
  pub text : file_bytes ((r.file).plan).value (r.file).kept blocks ≡ encoded_text e I

-- WRITING IT, for all blocks whose data these are
abbrev pub WritesRows : Name → EncodedRows → DeskState → Wrote → DeskState → Type 0
WritesRows output r old answer new = (f : Frame) (blocks : Blocks) → HasData r f blocks → AfterOutput output old (file_bytes ((r.file).plan).value (r.file).kept blocks) answer new
