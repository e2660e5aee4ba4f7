-- The file of an encoded image, written block by block: its plan, and its text.
use Rattle.std.proofs.Common.{◌≡◌, ℕ, true, List, [], length, refl, sym, ap, ◌∙◌, subst, inl, None, Ok, Err}
use Rattle.jpg_base.specs.declared.names.Name.{Name}
use Rattle.jpg_base.specs.Desk.{DeskState}
use Rattle.jpg_spec.specs.FileMeaning.{Means}
use Rattle.jpg_spec.specs.Geometry.{Frame, is_progressive}
use Rattle.jpg_spec.specs.Grids.{frame_grids, picture_grids}
use Rattle.jpg_spec.specs.Scan.{Blocks}
use Rattle.jpg_spec.specs.InForce.{first_some}
use Rattle.jpg_spec.specs.Jfif.{jfif_of}
use Rattle.jpg_spec.specs.Markers.{Segment}
use Rattle.jpg_spec.specs.Meaning.{Meaning, colour_of, real_blocks}
use Rattle.jpg_spec.specs.Segments.{QuantTable, standard_limits}
use Rattle.jpg_spec.specs.declared.frame.Colour.{Colour}
use Rattle.jpg_spec.specs.declared.frame.Copying.{Copying}
use Rattle.jpg_spec.specs.declared.jfif.Jfif.{Jfif}
use Rattle.jpg_spec_encode.specs.EncodingLaws.{IsEncodable}
use Rattle.jpg_spec_encode.specs.Encoded.{Encoding, encode_fault, encoded, encoded_script, encoded_text, sampling_fault}
use Rattle.jpg_spec_encode.proofs.EncodedWritten.{encoded_headed, encoded_means, encoded_kind}
use Rattle.jpg_spec_image.specs.Images.{Image}
use Rattle.jpg_spec_write.specs.FileText.{file_text, frame_of_meaning}
use Rattle.jpg_spec_write.specs.Headed.{copied, headed_kept}
use Rattle.jpg_spec_write.specs.ScansAsked.{Scans, script_due}
use Rattle.jpg_spec_write.specs.Script.{Entry}
use Rattle.jpg_spec_write.specs.ScriptFaults.{script_fault}
use Rattle.jpg_spec_write.specs.declared.picture_fault.PictureFault.{PictureFault}
use Rattle.jpg_spec_write.proofs.MovedText.{has_standard, headed_frame, passes_by, same_kind}
use Rattle.jpg_spec_write.proofs.ScriptGrids.{same_script_fault}
use Rattle.jpg_spec_words.proofs.EncodedKept.{stays}
use Rattle.jpg_scans.specs.Judged.{judged}
use Rattle.jpg_markers.specs.OutHead.{with_tables}
use Rattle.jpg_scans.specs.Restarts.{restart_of}
use Rattle.jpg_file.specs.Write.WriteFile.{CanWriteFile, does_pass, file_bytes, file_meaning}
use Rattle.jpg_file.specs.declared.write.Plan.{Plan}
use Rattle.jpg_color.specs.EncodedParts.{AreViewParts, ViewParts, viewed_meaning}
use Rattle.jpg_color.specs.EncodeView.{view_parts}
use Rattle.jpg_color.specs.declared.encode.view.EncodedImage.{EncodedImage}
use Rattle.jpg_transform.proofs.MovedFile.{tables_are}
use Rattle.jpg_transform.proofs.MovedScript.{judged_err, judged_ok, meaning_grids, same_due}
use Rattle.jpg_transform.proofs.SeenPicture.{told_grids}
use Rattle.jpg_cli.specs.Tools.EncodedRead.{IsEncodedImage}
use Rattle.jpg_desk.specs.EncodedRows.{HasData, IsEncodedRows, WritesRows}
use Rattle.jpg_cli.specs.Tools.ImageWritten.{AfterEncoding, IsAskedBy, IsPlanOf}
use Rattle.jpg_desk.specs.Writing.{AfterMade, AfterOutput, why_wrote}
use Rattle.jpg_desk.specs.declared.encoded_rows.EncodedRows.{EncodedRows}
use Rattle.jpg_desk.specs.declared.moved.Wrote.{Wrote}
use Rattle.jpg_desk.specs.declared.moved.Wrote.TheVariants as wrote
use Rattle.jpg_words.specs.declared.cjpeg_request.EncodeWords.{EncodeWords}

-- THE TEXT of the file of an image without a fault, written
made_of : (e : Encoding) (I : Image) (output : Name) (s0 s1 : DeskState) → encode_fault e I ≡ None → Means standard_limits (encoded_text e I) (encoded e I) → (t : Wrote) → AfterOutput output s0 (encoded_text e I) t s1
    → AfterMade (encode_fault e I) (encoded_text e I) (Means standard_limits (encoded_text e I) (encoded e I)) output s0 (why_wrote t) s1
made_of e I output s0 s1 none means wrote.Done k = (none, k, means)
made_of e I output s0 s1 none means (wrote.Picture fault) k = absurd k
made_of e I output s0 s1 none means wrote.OpenFault k = (none, k)
made_of e I output s0 s1 none means wrote.WriteFault k = (none, k)

-- some blocks that the data are those of
pub rows_have : {e : Encoding} {I : Image} {r : EncodedRows} → IsEncodedRows e I r → (f : Frame) × (blocks : Blocks) × HasData r f blocks
rows_have h = (h.frame, h.blocks, h.has)

-- from the data of its one scan
pub rows_written : {e : Encoding} {I : Image} (r : EncodedRows) (output : Name) (s0 s1 : DeskState) (answer : Wrote) → IsEncodedRows e I r → WritesRows output r s0 answer s1 → AfterEncoding e I output s0 (why_wrote answer) s1
rows_written {e} {I} r output s0 s1 answer h writes = inl (made_of e I output s0 s1 h.none h.means answer (subst (λ (due : List ℕ). AfterOutput output s0 due answer s1) h.text (writes h.frame h.blocks h.has)))

-- PARTS that are the picture of an image, which can be encoded and has no fault of its factors and grids
pub record IsEncodedParts (e : Encoding) (I : Image) (v : ViewParts) : Type 0 where
  pub can : IsEncodable e I
  pub faultless : sampling_fault e I ≡ None
  pub means : viewed_meaning v ≡ encoded e I
  pub keeps : AreViewParts v

-- those of an encoded image
pub parts_of : {e : Encoding} {I : Image} {v : EncodedImage} → IsEncodedImage e I v → IsEncodedParts e I (view_parts v)
parts_of {v = v} h = record { can = h.can; faultless = h.faultless; means = h.means; keeps = v.keeps }

-- THE HEAD: its markers are those of the image's picture, though none is passed on

module _ {e : Encoding} {I : Image} {v : ViewParts} (h : IsEncodedParts e I v) where
  abbrev N : Meaning
  N = encoded e I

  head_kept : headed_kept v.colour v.jfif [] ≡ N.kept
  head_kept =
      ap (λ c. headed_kept c v.jfif []) (h.keeps.colour ∙ ap colour_of h.means)
      ∙ ap (λ j. headed_kept (colour_of N) j []) (h.keeps.jfif ∙ ap (λ (M : Meaning). jfif_of M.kept) h.means)
      ∙ ap (λ (M : Meaning). M.kept) (stays e I)

  -- what is written of it, with the kept markers of the head
  abbrev with_kept : List Segment → Meaning → Meaning
  with_kept kept M = record M { kept = kept }

  head_is : record (viewed_meaning v) { kept = headed_kept v.colour v.jfif [] } ≡ N
  head_is = ap (with_kept (headed_kept v.colour v.jfif [])) h.means ∙ ap (λ k. with_kept k N) head_kept

-- THE PLAN

-- what a file with these parts means
abbrev of_parts : Frame → Colour → List QuantTable → Jfif → Copying → List Segment → Blocks → Meaning
of_parts f colour quants jfif passed kept blocks = record {
  process = f.process;
  precision = f.precision;
  width = f.width;
  height = f.height;
  components = with_tables f.components quants;
  blocks = real_blocks f blocks;
  kept = headed_kept colour jfif (copied passed kept);
}

module _ {w : EncodeWords} {scans : Scans} {e : Encoding} {I : Image} {v : ViewParts} (asked : IsAskedBy w scans e) (h : IsEncodedParts e I v) where
  -- THE SCRIPT

  grids : frame_grids v.frame ≡ frame_grids (frame_of_meaning (encoded e I))
  grids = sym (told_grids v.frame v.quants (viewed_meaning v) refl refl refl) ∙ ap picture_grids h.means ∙ sym (meaning_grids (encoded e I))

  script_same : (script : List Entry) → script ≡ script_due scans v.frame v.colour → script ≡ encoded_script e I
  script_same script is =
      is ∙ ap (λ s. script_due s v.frame v.colour) (sym asked.scans_are)
      ∙ same_due e.scans v.frame (frame_of_meaning (encoded e I)) v.colour (colour_of (encoded e I)) grids (h.keeps.colour ∙ ap colour_of h.means)

  fault_same : (script : List Entry) → script ≡ script_due scans v.frame v.colour → script_fault v.frame script ≡ encode_fault e I
  fault_same script is =
      let N = encoded e I in
      same_script_fault v.frame (frame_of_meaning N) script grids (ap (λ (M : Meaning). M.precision) h.means)
      ∙ ap (script_fault (frame_of_meaning N)) (script_same script is)
      ∙ sym (ap (λ f. first_some f (script_fault (frame_of_meaning N) (encoded_script e I))) h.faultless)

  passes : (script : List Entry) → script ≡ script_due scans v.frame v.colour → encode_fault e I ≡ None → does_pass (encoded e I) script ≡ true
  passes script is none =
      let N = encoded e I in
      let headed = encoded_headed e I h.can h.faultless in
      let kind = same_kind e.scans (frame_of_meaning N) (colour_of N) (headed_frame N headed) (has_standard N headed) ∙ sym (encoded_kind e I) in
      let faultless = sym (ap (λ f. first_some f (script_fault (frame_of_meaning N) (encoded_script e I))) h.faultless) ∙ none in
      ap (does_pass N) (script_same script is) ∙ passes_by N (encoded_script e I) (is_progressive N.process) (headed_frame N headed).count_high refl kind faultless

  -- WHAT THE FILE MEANS

  meaning_is : (script : List Entry) (plan : Plan) → IsPlanOf w v script plan → file_meaning plan v.kept v.blocks ≡ encoded e I
  meaning_is script plan p =
      let b = v.blocks in
      let q = v.quants in
      ap (λ f. of_parts f plan.out.colour plan.out.quants.items plan.out.jfif plan.out.copying v.kept b) p.frame
      ∙ ap (λ c. of_parts v.frame c plan.out.quants.items plan.out.jfif plan.out.copying v.kept b) p.colour
      ∙ ap (λ t. of_parts v.frame v.colour t plan.out.jfif plan.out.copying v.kept b) p.quants
      ∙ ap (λ j. of_parts v.frame v.colour q j plan.out.copying v.kept b) p.jfif
      ∙ ap (λ c. of_parts v.frame v.colour q v.jfif c v.kept b) p.copying
      ∙ ap (λ cs. (let M : Meaning = record (viewed_meaning v) { components = cs; kept = headed_kept v.colour v.jfif [] } in M)) (tables_are v.frame q h.keeps.tables)
      ∙ head_is h

  -- no fault, by the judgement of the script
  pub no_fault : (script : List Entry) → script ≡ script_due scans v.frame v.colour → Ok tt ≡ judged (script_fault v.frame script) → encode_fault e I ≡ None
  no_fault script is ok = sym (fault_same script is) ∙ judged_ok (script_fault v.frame script) ok

  pub can_write : (script : List Entry) (plan : Plan) → IsPlanOf w v script plan → script ≡ script_due scans v.frame v.colour → Ok tt ≡ judged (script_fault v.frame script) → CanWriteFile plan v.kept v.frame v.blocks
  can_write script plan p is ok =
      let m = meaning_is script plan p in
      let none = no_fault script is ok in
      record {
        precision = ap (λ (f : Frame). f.precision) (sym p.frame);
        tables = ap length p.quants ∙ h.keeps.tables ∙ ap (λ (f : Frame). length f.components) (sym p.frame);
        colour = p.colour ∙ h.keeps.colour ∙ ap colour_of h.means ∙ sym (ap colour_of m);
        passes = ap (λ (M : Meaning). does_pass M plan.script) m ∙ ap (does_pass (encoded e I)) p.script_is ∙ passes script is none;
        seen = ap (λ (f : Frame). is_progressive f.process) (sym p.frame);
        grids = ap frame_grids (sym p.frame);
        writable = h.keeps.range;
      }

  pub text_is : (script : List Entry) (plan : Plan) → IsPlanOf w v script plan → script ≡ script_due scans v.frame v.colour → file_bytes plan v.kept v.blocks ≡ encoded_text e I
  text_is script plan p is =
      let N = encoded e I in
      ap (λ (M : Meaning). file_text plan.huffman M plan.script (restart_of plan.restart)) (meaning_is script plan p)
      ∙ ap (λ s. file_text plan.huffman N s (restart_of plan.restart)) (p.script_is ∙ script_same script is)
      ∙ ap (λ t. file_text t N (encoded_script e I) (restart_of plan.restart)) (p.huffman ∙ sym asked.huffman)
      ∙ ap (λ r. file_text e.huffman N (encoded_script e I) r) (ap restart_of p.restart ∙ sym asked.restart)

  -- WRITING IT

  pub view_written : (script : List Entry) (plan : Plan) (output : Name) (s0 s1 : DeskState) (answer : Wrote) → IsPlanOf w v script plan → script ≡ script_due scans v.frame v.colour → Ok tt ≡ judged (script_fault v.frame script)
      → AfterOutput output s0 (file_bytes plan v.kept v.blocks) answer s1 → AfterEncoding e I output s0 (why_wrote answer) s1
  view_written script plan output s0 s1 answer p is ok out =
      let none = no_fault script is ok in
      inl (made_of e I output s0 s1 none (encoded_means e I h.can none) answer (subst (λ (due : List ℕ). AfterOutput output s0 due answer s1) (text_is script plan p is) out))

  pub view_faulty : (script : List Entry) (output : Name) (s : DeskState) (fault : PictureFault) → script ≡ script_due scans v.frame v.colour → Err fault ≡ judged (script_fault v.frame script) → AfterEncoding e I output s (why_wrote (wrote.Picture fault)) s
  view_faulty script output s fault is err = inl (sym (fault_same script is) ∙ judged_err (script_fault v.frame script) fault err, record { asked = refl; outputs = refl; left = refl })
