-- The file of one scan of an image whose samples are still to come.
use Rattle.std.proofs.Common.{◌≡◌, ℕ, ◌<◌, true, not, ◌||◌, ◌==◌, List, [], length, refl, sym, ap, ◌∙◌, subst, arith}
use Rattle.std.specs.List.{All}
use Rattle.std.proofs.lemmas.Bool.Decides.{nat_tests}
use Rattle.std.proofs.lemmas.List.Elements.{All-nil}
use Rattle.jpg_spec.specs.EncodingLaws.{AreSamples}
use Rattle.jpg_spec.specs.Geometry.{Frame, component_at}
use Rattle.jpg_spec.specs.Segments.{AreQuantisers}
use Rattle.jpg_spec_encode.specs.Encoded.{Encoding}
use Rattle.jpg_spec_encode.specs.EncodingLaws.{AreFactors, IsEncodable}
use Rattle.jpg_spec_encode.proofs.EncodedWritten.{encoded_means}
use Rattle.jpg_spec_image.specs.Images.{Image}
use Rattle.jpg_spec_image.specs.declared.image.ImageInfo.{ImageInfo}
use Rattle.jpg_spec_write.specs.ScansAsked.{Scans}
use Rattle.jpg_spec_write.specs.WrittenFile.{IsRestart}
use Rattle.jpg_spec.specs.Scan.{Blocks}
use Rattle.jpg_file.specs.Write.WriteFile.{IsAllOf, IsSole, CanWriteFile, file_bytes}
use Rattle.jpg_file.specs.declared.write.Plan.{Plan}
use Rattle.jpg_color.specs.Encode.{AsksFor, CanSample, blocks_due, encoded_frame, image_of}
use Rattle.jpg_color.specs.EncodeRows.{IsRowScan}
use Rattle.jpg_color.specs.ImageHead.{IsHeadOf, head_parts}
use Rattle.jpg_color.specs.declared.encode.Encoding.{Encoding as Asked}
use Rattle.jpg_color.specs.declared.encode.image_head.ImageHead.{ImageHead}
use Rattle.jpg_color.specs.declared.encode.sampler.Sampler.{Sampler}
use Rattle.jpg_color.proofs.HeadsMade.{IsHead, head_faultless, head_is, head_is_parts, head_means}
use Rattle.jpg_words.specs.declared.cjpeg_request.EncodeWords.{EncodeWords}
use Rattle.jpg_desk.specs.EncodedRows.{scan_of}
use Rattle.jpg_cli.specs.Tools.SamplesFed.{AsksSampler, IsOneScanFor, IsPlannedFor, has_frame_rows}
use Rattle.jpg_desk.specs.declared.encoded_rows.OneScan.{OneScan}
use Rattle.jpg_cli.proofs.Encoding.EncodedWritten.{IsEncodedParts, can_write, no_fault, text_is}

-- what can be sampled can be encoded
encodable : (info : ImageInfo) (a : Asked) (e : Encoding) (samples : List ℕ) → CanSample info a → AsksFor a e → IsRestart e.restart → AreSamples samples → IsEncodable e (image_of info samples)
encodable info a e samples can asks counted bytes = record {
  width_low = can.wide;
  width_high = can.wide_few;
  height_low = can.high;
  height_high = can.high_few;
  samples = bytes;
  factors = subst (λ (f : List (ℕ × ℕ)). All AreFactors f) (sym asks.factors) can.factors;
  first = subst AreQuantisers (sym asks.first) can.first;
  others = subst AreQuantisers (sym asks.others) can.others;
  restart = counted;
}

single_row : (f : Frame) → has_frame_rows f ≡ true → length f.components ≡ 1 → (component_at f 0).v ≡ 1
single_row f e one =
    let t : (length f.components == 1) ≡ true = grind (arith, nat_tests, one) in
    let s : ((component_at f 0).v == 1) ≡ true = sym (ap (λ b. not b || (component_at f 0).v == 1) t) ∙ e in
    grind (arith, nat_tests, s)

module _ {w : EncodeWords} {scans : Scans} {s : Sampler} {h : ImageHead} {plan : Plan} (made : IsHeadOf s.info s.encoding h) (p : IsPlannedFor w scans h plan) where
  module _ {E : Image → Encoding} {info : ImageInfo} {a : Asked} (asks : AsksSampler w scans E info a s) where
    head : IsHead info a h
    head = head_is s h asks.sampled made

    module _ (samples : List ℕ) (bytes : AreSamples samples) where
      abbrev I : Image
      I = image_of info samples

      parts : IsEncodedParts (E I) I (head_parts h (blocks_due I a))
      parts = record {
        can = encodable info a (E I) samples asks.like.can (asks.like.asks I refl) (asks.like.restart I) bytes;
        faultless = head_faultless head samples (E I) (asks.like.asks I refl);
        means = head_means head samples (E I) (asks.like.asks I refl);
        keeps = head_is_parts head samples bytes;
      }

      writes : CanWriteFile plan h.kept h.frame (blocks_due I a)
      writes = can_write (asks.by I) parts p.script plan (p.planned (blocks_due I a)) p.due p.ok

    -- some blocks that it may be written with
    pub some_plan : (kept : List (ℕ × List ℕ)) × (f : Frame) × (blocks : Blocks) × CanWriteFile plan kept f blocks
    some_plan = (h.kept, h.frame, blocks_due (image_of info []) a, writes [] (All-nil (λ s. s < 256)))

pub one_scan_is : {w : EncodeWords} {scans : Scans} {s : Sampler} {h : ImageHead} (o : OneScan) → IsHeadOf s.info s.encoding h → IsPlannedFor w scans h (o.plan).value → o.kept ≡ h.kept → has_frame_rows h.frame ≡ true
    → IsSole (o.plan).value (o.scan).value → IsAllOf (o.plan).value (o.scan).value → IsOneScanFor w scans s o
one_scan_is {h = h} o made p kept rows sole all E info a asks =
    let plan = (o.plan).value in
    let frame : h.frame ≡ encoded_frame info a = (head made p asks).head.frame in
    let none = writes made p asks [] (All-nil (λ s. s < 256)) in
    let of = all h.kept h.frame _ none in
    let here : IsRowScan h.frame (scan_of o) = record { scan = of.sequential; all = of.all; single = single_row h.frame rows } in
    record {
      rows = subst (λ (f : Frame). IsRowScan f (scan_of o)) frame here;
      makes = λ samples text right same.
          (let J = image_of info samples in
          let q = parts made p asks samples right.bytes in
          let no = no_fault (asks.by J) q p.script p.due p.ok in
          let can = subst (λ (f : Frame). CanWriteFile plan h.kept f (blocks_due J a)) frame (writes made p asks samples right.bytes) in
          let text_due = text_is (asks.by J) q p.script plan (p.planned (blocks_due J a)) p.due in
          record {
            none = no;
            means = encoded_means (E J) J q.can no;
            frame = encoded_frame info a;
            blocks = blocks_due J a;
            has = record { can = subst (λ (k : List (ℕ × List ℕ)). CanWriteFile plan k (encoded_frame info a) (blocks_due J a)) (sym kept) can; sole = sole; written = same };
            text = ap (λ (k : List (ℕ × List ℕ)). file_bytes plan k (blocks_due J a)) kept ∙ text_due;
          });
    }
