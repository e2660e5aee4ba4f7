-- The picture made of an encoded image, and the answer to an image that is to be encoded.
use Rattle.std.proofs.Common.{◌≡◌, [], length, sym, ap, ◌∙◌, subst, Result, Ok, Err, slice_index_or}
use Rattle.std.specs.Prelude.{IfOk}
use Rattle.jpg_base.specs.declared.names.NoMemory.{NoMemory}
use Rattle.std.specs.List.{All}
use Rattle.jpg_spec.specs.Geometry.{bounds}
use Rattle.jpg_spec.specs.Meaning.{Meaning, colour_of, real_blocks}
use Rattle.jpg_spec.specs.Ranges.{AreInRange}
use Rattle.jpg_spec.specs.Scan.{Blocks}
use Rattle.jpg_spec.specs.Segments.{AreQuantisers}
use Rattle.jpg_coefs.specs.Picture.{Picture as Coefs, map_of}
use Rattle.jpg_file.specs.Read.PictureKept.{ArePictureParts, PictureParts, parts_meaning}
use Rattle.jpg_file.specs.Read.PictureRead.{picture_meaning}
use Rattle.jpg_file.specs.declared.read.picture.Picture.{Picture}
use Rattle.jpg_pnm_bmp.specs.declared.read.pixels.Image.{Image as Read}
use Rattle.jpg_spec_encode.specs.Encoded.{Encoding, count_due}
use Rattle.jpg_spec_encode.specs.EncodingLaws.{AreFactors}
use Rattle.jpg_color.specs.Encode.{AsksFor, CanEncode, CanSample, image_view}
use Rattle.jpg_color.specs.EncodeAnswer.{IsEncoded, IsEncodedAs}
use Rattle.jpg_color.specs.EncodedParts.{AreViewParts, ViewParts, viewed_meaning}
use Rattle.jpg_color.specs.EncodeSampling.{BeginsSampling, HasSampled}
use Rattle.jpg_color.specs.EncodeView.{IsEncodedView, view_meaning}
use Rattle.jpg_color.specs.declared.encode.EncodeStop.{EncodeStop}
use Rattle.jpg_color.specs.declared.encode.EncodeStop.TheVariants as stop
use Rattle.jpg_color.specs.declared.encode.Encoding.{Encoding as Asked}
use Rattle.jpg_color.specs.declared.encode.sampler.Sampler.{Sampler}
use Rattle.jpg_color.specs.declared.encode.view.EncodedImage.{EncodedImage}
use Rattle.jpg_color.proofs.EncodedBlocks.{real_in_range}
use Rattle.jpg_spec.proofs.EndsEarly.EarlySoFar.{real_twice}

-- A PICTURE with the blocks of a view

abbrev pub parts_with : ViewParts → Coefs → PictureParts
parts_with p c = record { frame = p.frame; colour = p.colour; quants = p.quants; coefs = c; kept = p.kept; jfif = p.jfif }

abbrev meaning_with : ViewParts → Blocks → Meaning
meaning_with p blocks = record (viewed_meaning p) { blocks = blocks }

pub picture_means : (p : ViewParts) (c : Coefs) → map_of c ≡ real_blocks p.frame p.blocks → parts_meaning (parts_with p c) ≡ viewed_meaning p
picture_means p c e = ap (meaning_with p) (ap (real_blocks p.frame) e ∙ real_twice p.frame p.blocks)

pub picture_is : (p : ViewParts) (c : Coefs) → AreViewParts p → c.frame ≡ p.frame → map_of c ≡ real_blocks p.frame p.blocks → ArePictureParts (parts_with p c)
picture_is p c is grids e = record {
  frame = is.frame;
  tables = is.tables;
  quants = is.quants;
  grids = grids;
  range = subst (λ (b : Blocks). AreInRange (bounds p.frame) b) (sym e) (real_in_range p.frame p.blocks is.range);
  colour = is.colour ∙ ap colour_of (sym (picture_means p c e));
  jfif = is.jfif;
}

-- THE ANSWER

pub encoded_as : (i : Read) (a : Asked) (v : EncodedImage) (p : Picture) → IsEncodedView (image_view i) a v → picture_meaning p ≡ view_meaning v → p.jfif ≡ v.jfif → IsEncodedAs i a p
encoded_as i a v p is means jfif = record {
  means = λ e asks. means ∙ is.means e asks;
  faultless = is.faultless;
  kept = ap (λ (M : Meaning). M.kept) means ∙ is.kept;
  jfif = jfif ∙ is.jfif;
}

-- the same is asked
pub record AsksSame (a b : Asked) : Type 0 where
  pub gray : b.gray ≡ a.gray
  pub progressive : b.progressive ≡ a.progressive
  pub factors : b.factors.items ≡ a.factors.items
  pub tables : b.tables ≡ a.tables

asks_too : {a b : Asked} (e : Encoding) → AsksSame a b → AsksFor a e → AsksFor b e
asks_too {a} {b} e same asks = record {
  gray = asks.gray ∙ sym same.gray;
  scans = asks.scans ∙ sym same.progressive;
  factors = asks.factors ∙ sym same.factors;
  first = asks.first ∙ ap (λ t. slice_index_or t 0 []) (sym same.tables);
  others = asks.others ∙ ap (λ t. slice_index_or t 1 []) (sym same.tables);
}

pub can_sample : (i : Read) (a b : Asked) → AsksSame a b → CanEncode i a → CanSample i.info b
can_sample i a b same can = record {
  wide = can.image.width_low;
  wide_few = can.image.width_high;
  high = can.image.height_low;
  high_few = can.image.height_high;
  factors = subst (λ fs. All AreFactors fs) (sym same.factors) can.factors;
  pairs = ap length same.factors ∙ can.pairs ∙ ap (λ g. count_due g i.info.kind) (sym same.gray);
  first = subst AreQuantisers (ap (λ t. slice_index_or t 0 []) (sym same.tables)) can.first;
  others = subst AreQuantisers (ap (λ t. slice_index_or t 1 []) (sym same.tables)) can.others;
}

pub encoded_same : (i : Read) (a b : Asked) (p : Picture) → AsksSame a b → IsEncodedAs i b p → IsEncodedAs i a p
encoded_same i a b p same is = record { means = λ e asks. is.means e (asks_too e same asks); faultless = λ e asks. is.faultless e (asks_too e same asks); kept = is.kept; jfif = is.jfif }

pub stopped_same : (i : Read) (a b : Asked) (s : EncodeStop) → AsksSame a b → BeginsSampling i.info b (Err s) → IsEncoded i a (Err s)
stopped_same i a b (stop.Picture fault) same is = λ e asks. is i.samples e (asks_too e same asks)
stopped_same i a b stop.NoMemory same is = tt

pub picture_all : (r : Result Picture NoMemory) (i : Read) (v : EncodedImage) (s : Sampler) → IfOk r (λ p. picture_meaning p ≡ view_meaning v) → IfOk r (λ p. p.jfif ≡ v.jfif)
    → ((a : Asked) → HasSampled i.info a [] s → IsEncodedView (image_view i) a v) → IfOk r (λ p. (a : Asked) → HasSampled i.info a [] s → IsEncodedAs i a p)
picture_all (Ok p) i v s means jfif all = λ a has. encoded_as i a v p (all a has) means jfif
picture_all (Err e) i v s means jfif all = tt
