-- The head of an image's file, with the blocks of the image: parts of its picture, and what they mean.
use Rattle.std.proofs.Common.{◌≡◌, List, ℕ, None, subst, sym, ap, ◌∙◌}
use Rattle.jpg_spec.specs.EncodingLaws.{AreSamples}
use Rattle.jpg_spec.specs.FrameHeader.{IsFrame}
use Rattle.jpg_spec.specs.Geometry.{Frame}
use Rattle.jpg_spec.specs.Meaning.{real_blocks}
use Rattle.jpg_spec.specs.Scan.{Blocks}
use Rattle.jpg_spec_encode.specs.Encoded.{Encoding, density_of, encoded, sampling_fault}
use Rattle.jpg_spec_image.specs.declared.image.ImageInfo.{ImageInfo}
use Rattle.jpg_spec_write.specs.WrittenFile.{HasBlocksIn}
use Rattle.jpg_color.specs.Encode.{AsksFor, CanSample, blocks_due, encoded_frame, encoded_parts, fault_due, image_of}
use Rattle.jpg_color.specs.EncodedParts.{AreViewParts, viewed_meaning}
use Rattle.jpg_color.specs.EncodeSampling.{HasSampled}
use Rattle.jpg_color.specs.ImageHead.{IsHeadOf, head_parts}
use Rattle.jpg_color.specs.declared.encode.Encoding.{Encoding as Asked}
use Rattle.jpg_color.specs.declared.encode.image_head.ImageHead.{ImageHead}
use Rattle.jpg_color.specs.declared.encode.sampler.Sampler.{Sampler}
use Rattle.jpg_color.proofs.EncodedPictures.{IsPutTogether, faults_all, means_all, means_due, parts_due, put_together}
use Rattle.jpg_color.proofs.RowsEncoded.{can_is, frame_is, range_due}

-- A head that can be written: that of an image with these numbers, which can be encoded like this.
pub record IsHead (info : ImageInfo) (a : Asked) (h : ImageHead) : Type 0 where
  pub can : CanSample info a
  pub none : fault_due info a ≡ None
  pub frame : IsFrame (encoded_frame info a)
  pub head : IsHeadOf info a h

-- a sampler's
pub head_is : {info : ImageInfo} {a : Asked} {given : List ℕ} (s : Sampler) (h : ImageHead) → HasSampled info a given s → IsHeadOf s.info s.encoding h → IsHead info a h
head_is {info} {a} s h has head =
    let can = can_is s has in
    record {
      can = can.0;
      none = can.1;
      frame = subst IsFrame (frame_is s has) s.keeps.checked;
      head = subst (λ (b : Asked). IsHeadOf info b h) has.asked (subst (λ (i : ImageInfo). IsHeadOf i s.encoding h) has.numbers head);
    }

module _ {info : ImageInfo} {a : Asked} {h : ImageHead} (is : IsHead info a h) (samples : List ℕ) where
  abbrev blocks : Blocks
  blocks = blocks_due (image_of info samples) a

  together : IsPutTogether info a (head_parts h blocks)
  together = put_together info a h blocks is.can is.none is.frame is.head

  pub blocks_range : AreSamples samples → HasBlocksIn h.frame blocks
  blocks_range bytes = subst (λ (f : Frame). HasBlocksIn f blocks) (sym is.head.frame) (range_due info a samples is.can bytes)

  pub head_is_parts : AreSamples samples → AreViewParts (head_parts h (blocks_due (image_of info samples) a))
  head_is_parts bytes = parts_due info a (head_parts h blocks) together (blocks_range bytes)

  pub head_means : (e : Encoding) → AsksFor a e → viewed_meaning (head_parts h (blocks_due (image_of info samples) a)) ≡ encoded e (image_of info samples)
  head_means e asks = means_due info a (head_parts h blocks) together ∙ sym (means_all (image_of info samples) a e asks)

  pub head_faultless : (e : Encoding) → AsksFor a e → sampling_fault e (image_of info samples) ≡ None
  head_faultless e asks = faults_all (image_of info samples) a e asks ∙ is.none
