-- Encoding an image: reading it, making its picture, and then writing it.
use Rattle.std.proofs.Common.{◌≡◌, ◌⊎◌, ℕ, Bool, All, List, [], ◌++◌, Option, None, Some, Err, refl, sym, ap, ◌∙◌, subst, inl, inr}
use Rattle.jpg_base.specs.declared.names.Name.{Name}
use Rattle.jpg_base.specs.declared.names.Put.TheVariants as put
use Rattle.jpg_base.specs.Desk.{DeskState}
use Rattle.jpg_spec_encode.specs.Encoded.{Encoding, encode_fault, encoded, encoded_script, encoded_text, sampling_fault}
use Rattle.jpg_spec_words.specs.EncodeWords.{EncodeAsked, encoding_asked}
use Rattle.jpg_spec_encode.specs.EncodingLaws.{AreFactors, IsEncodable}
use Rattle.jpg_spec.specs.Segments.{AreQuantisers, QuantTable, standard_limits}
use Rattle.jpg_spec_write.specs.WrittenFile.{IsRestart}
use Rattle.jpg_spec_write.specs.FileText.{frame_of_meaning}
use Rattle.jpg_spec.specs.InForce.{first_some}
use Rattle.jpg_spec_write.specs.ScriptFaults.{script_fault}
use Rattle.jpg_spec_image.specs.Images.{Image}
use Rattle.jpg_spec_write.specs.ScansAsked.{Scans}
use Rattle.jpg_spec_move.specs.Moved.{Choice, as_it_is, moved_text, picture_fault}
use Rattle.jpg_file.specs.Read.PictureRead.{picture_meaning}
use Rattle.jpg_scans.specs.Restarts.{restart_of}
use Rattle.jpg_file.specs.declared.read.picture.Picture.{Picture}
use Rattle.jpg_spec_words.specs.declared.answers.Which.TheVariants as which
use Rattle.jpg_color.specs.EncodeView.{view_meaning}
use Rattle.jpg_color.specs.declared.encode.view.EncodedImage.{EncodedImage}
use Rattle.jpg_cli.specs.Tools.EncodedRead.{EncodedRead, IsEncodedImage}
use Rattle.jpg_spec_words.specs.EncodedKept.{as_encoded}
use Rattle.jpg_spec.specs.FileMeaning.{Means}
use Rattle.jpg_spec_words.specs.declared.answers.Why.{Why}
use Rattle.jpg_spec_words.specs.declared.answers.Why.TheVariants as why
use Rattle.jpg_spec_write.specs.declared.picture_fault.PictureFault.{PictureFault}
use Rattle.jpg_spec_words.proofs.EncodedKept.{stays_fault, stays_text}
use Rattle.jpg_spec_encode.proofs.EncodedWritten.{encoded_means}
use Rattle.jpg_color.specs.Encode.{AsksFor, CanEncode, image_view}
use Rattle.jpg_color.specs.EncodeAnswer.{IsEncoded}
use Rattle.jpg_color.specs.declared.encode.Encoding.{Encoding as Asked}
use Rattle.jpg_color.specs.declared.encode.EncodeStop.{EncodeStop}
use Rattle.jpg_color.specs.declared.encode.EncodeStop.TheVariants as stop
use Rattle.jpg_pnm_bmp.specs.Made.{IsRightImage}
use Rattle.jpg_pnm_bmp.specs.declared.read.pixels.Image.{Image as Read}
use Rattle.jpg_words.specs.Commands.{name_of}
use Rattle.jpg_words.specs.EncodeWords.{encode_view}
use Rattle.jpg_words.specs.declared.cjpeg_request.EncodeWords.{EncodeWords}
use Rattle.jpg_desk.specs.Endings.{Asks, GoesOnAfter}
use Rattle.jpg_cli.specs.Outcome.{Converted}
use Rattle.jpg_cli.specs.Tools.ImageEncoded.{Encoded, EncodedAfter, EncodedAsAsked, EncodedBy, EncodeTask, encoding_conversion, task_after}
use Rattle.jpg_cli.specs.Tools.ImageWritten.{AfterEncoding, AfterWritten, IsAskedBy, WritesAsItIs, why_not_encoded}
use Rattle.jpg_desk.specs.ReadImage.{IsShortImageRead, has_image}
use Rattle.jpg_desk.specs.ScriptTaken.{HasScans, StopsAtScans, names_before}
use Rattle.jpg_desk.specs.Stays.{Keeps, OnlySays, Untouched}
use Rattle.jpg_desk.specs.TablesTaken.{HasTables, StopsAtTables, tables_names}
use Rattle.jpg_desk.specs.Writing.{IsMeant, MeansMoved}
use Rattle.jpg_desk.proofs.Endings.{untouched_then}
use Rattle.jpg_cli.proofs.Comments.InsertedThen.{same_name}
use Rattle.jpg_desk.proofs.NamesBefore.{goes_on_more}
use Rattle.jpg_cli.proofs.Outcomes.Outcome.{HasValueRead, converted_after, converted_made, converted_short, converted_then, converted_unread, made_same, none_early}
use Rattle.jpg_desk.proofs.ScriptTaken.{stopped_scans_then}
use Rattle.jpg_desk.proofs.TablesTaken.{stopped_tables_then, stops_after, tables_before}

-- WRITING an encoded image: it isn't transformed

written_fault : (e : Encoding) (I : Image) → sampling_fault e I ≡ None → encode_fault e I ≡ picture_fault (as_encoded e) (encoded e I)
written_fault e I none = sym (stays_fault e I none)

pub encoded_written : (e : Encoding) (I : Image) (output : Name) (s1 s2 : DeskState) (w : Why) → IsEncodable e I → sampling_fault e I ≡ None → AfterWritten (as_encoded e) (encoded e I) output s1 w s2 → AfterEncoding e I output s1 w s2
encoded_written e I output s1 s2 w can none h =
    let choice = as_encoded e in
    inl (made_same (picture_fault choice (encoded e I)) (encode_fault e I) (moved_text choice (encoded e I)) (encoded_text e I)
    (IsMeant (encoded e I) → MeansMoved choice (encoded e I)) (Means standard_limits (encoded_text e I) (encoded e I)) output s1 s2 (written_fault e I none) (stays_text e I) (λ no means. encoded_means e I can no) w h)

-- all its blocks, from an encoded image
pub picture_written : {w : EncodeWords} {scans : Scans} {e : Encoding} {I : Image} {v : EncodedImage} → IsAskedBy w scans e → IsEncodedImage e I v → (p : Picture) (s1 s2 : DeskState) (ended : Why) → picture_meaning p ≡ view_meaning v → WritesAsItIs w scans p s1 ended s2
    → AfterEncoding e I w.files.output s1 ended s2
picture_written {w} {scans} {e} {I} asked h p s1 s2 ended same wrote =
    let choice : as_it_is scans w.huffman (restart_of w.restart) ≡ as_encoded e =
    ap (λ s. as_it_is s w.huffman (restart_of w.restart)) (sym asked.scans_are) ∙ ap (λ t. as_it_is e.scans t (restart_of w.restart)) (sym asked.huffman) ∙ ap (as_it_is e.scans e.huffman) (sym asked.restart) in
    encoded_written e I w.files.output s1 s2 ended h.can h.faultless (subst (λ (c : Choice). AfterWritten c (encoded e I) w.files.output s1 ended s2) choice (wrote (encoded e I) (same ∙ h.means)))

-- a fault of the factors or grids comes first
fault_first : (e : Encoding) (I : Image) (f : PictureFault) → sampling_fault e I ≡ Some f → encode_fault e I ≡ Some f
fault_first e I f is = ap (λ s. first_some s (script_fault (frame_of_meaning (encoded e I)) (encoded_script e I))) is

pub none_encoded : (i : Read) (a : Asked) (e : Encoding) (output : Name) (s : DeskState) (end : EncodeStop) (w : Why) → w ≡ why_not_encoded end → AsksFor a e → IsEncoded i a (Err end) → AfterEncoding e (image_view i) output s w s
none_encoded i a e output s (stop.Picture f) w is asks h =
    subst (λ (v : Why). AfterEncoding e (image_view i) output s v s) (sym is) (inl (fault_first e (image_view i) f (h e asks), record { asked = refl; outputs = refl; left = refl }))
none_encoded i a e output s stop.NoMemory w is asks h =
    subst (λ (v : Why). AfterEncoding e (image_view i) output s v s) (sym is) (inr (refl, record { asked = refl; outputs = refl; left = refl }))

-- what is asked for can be encoded, whatever its scans
pub is_encodable : (e : Encoding) (i : Read) (a : Asked) → IsRightImage (image_view i) → AsksFor a e → CanEncode i a → IsRestart e.restart → IsEncodable e (image_view i)
is_encodable e i a right asks can counted = record {
  width_low = right.width_low;
  width_high = right.width_high;
  height_low = right.height_low;
  height_high = right.height_high;
  samples = right.bytes;
  factors = subst (λ (f : List (ℕ × ℕ)). All AreFactors f) (sym asks.factors) can.factors;
  first = subst AreQuantisers (sym asks.first) can.first;
  others = subst AreQuantisers (sym asks.others) can.others;
  restart = counted;
}

-- AN IMAGE, encoded and written

abbrev pub task_by : Name → Bool → Name → (Image → Encoding) → EncodeTask
task_by input targa output encoding = record { before = []; input = input; targa = targa; output = output; encoding = encoding }

-- it was read up to its last piece
short_image : (targa : Bool) (I : Image) (early : Option ℕ) (rest bytes : List ℕ) → has_image targa I early rest bytes → IsShortImageRead targa bytes
short_image targa I None rest bytes h = h.read
short_image targa I (Some n) rest bytes h = absurd h

pub encoded_after : (input : Name) (targa : Bool) (output : Name) (encoding : Image → Encoding) (I : Image) (s0 s1 s2 : DeskState) (w : Why) → HasValueRead Image (encoding_conversion (task_by input targa output encoding)) I None s0 s1 s2 → AfterEncoding (encoding I) I output s1 w s2 → Encoded (task_by input targa output encoding) s0 w s2
encoded_after input targa output encoding I s0 s1 s2 w h (inl k) =
    let c = encoding_conversion (task_by input targa output encoding) in
    subst (λ (v : Why). Converted c s0 v s2) (none_early w) (converted_made Image c I None s0 s1 s2 h w k)
encoded_after input targa output encoding I s0 s1 s2 w h (inr (e, same)) =
    let c = encoding_conversion (task_by input targa output encoding) in
    subst (λ (v : Why). Converted c s0 v s2) (sym e) (converted_short Image c I None s0 s1 s2 h (short_image targa I None) same)

-- none was read, or one with a fault of its factors and grids
pub encoded_unread : (input : Name) (targa : Bool) (output : Name) (encoding : Image → Encoding) (s0 s1 : DeskState) (w : Why) → Keeps s0 s1 → EncodedRead targa encoding input s0 (Err w) s1 → Encoded (task_by input targa output encoding) s0 w s1
encoded_unread input targa output encoding s0 s1 (why.Picture f) k (asked, (I, read, is)) =
    encoded_after input targa output encoding I s0 s1 s1 (why.Picture f) (record { kept = k; asked = asked; read = read; all = tt; left = refl })
    (inl (fault_first (encoding I) I f is, record { asked = refl; outputs = refl; left = refl }))
encoded_unread input targa output encoding s0 s1 (why.Refused f) k h = converted_unread Image (encoding_conversion (task_by input targa output encoding)) input s0 s1 (why.Refused f) h
encoded_unread input targa output encoding s0 s1 (why.OpenFault which.Input) k h = converted_unread Image (encoding_conversion (task_by input targa output encoding)) input s0 s1 (why.OpenFault which.Input) h
encoded_unread input targa output encoding s0 s1 (why.ReadFault which.Input) k h = converted_unread Image (encoding_conversion (task_by input targa output encoding)) input s0 s1 (why.ReadFault which.Input) h
encoded_unread input targa output encoding s0 s1 why.NoMemory k h = converted_unread Image (encoding_conversion (task_by input targa output encoding)) input s0 s1 why.NoMemory h
encoded_unread input targa output encoding s0 s1 other k h = absurd h

-- BY THE TABLES and in the scans that are asked for

asked_names : (a : EncodeAsked) (input output : Name) (scans : Scans) (tables : Option (List QuantTable)) (s0 s2 : DeskState) (w : Why) → input ≡ name_of a.files.input → output ≡ name_of a.files.output
    → Encoded (task_by input a.targa output (encoding_asked a scans tables)) s0 w s2 → Encoded (task_after [] a scans tables) s0 w s2
asked_names a input output scans tables s0 s2 w is os h =
    subst (λ o. Encoded (task_by (name_of a.files.input) a.targa o (encoding_asked a scans tables)) s0 w s2) os
    (subst (λ i. Encoded (task_by i a.targa output (encoding_asked a scans tables)) s0 w s2) is h)

-- by the files that the words name
pub names_view : (w : EncodeWords) (scans : Scans) (tables : Option (List QuantTable)) (s0 s2 : DeskState) (ended : Why) → Encoded (task_by w.files.input w.targa w.files.output (encoding_asked (encode_view w) scans tables)) s0 ended s2
    → Encoded (task_after [] (encode_view w) scans tables) s0 ended s2
names_view w scans tables s0 s2 ended h = asked_names (encode_view w) w.files.input w.files.output scans tables s0 s2 ended (sym (same_name w.files.input)) (sym (same_name w.files.output)) h

module _ (xs : List Name) (a : EncodeAsked) (scans : Scans) (tables : Option (List QuantTable)) where
  pub encoded_by : (s0 s1 s2 s3 : DeskState) (w : Why) → GoesOnAfter xs s0 s1 → Keeps s1 s2 → Asks (tables_names a.tables) put.Done s1 s2 → HasTables a.tables s1 tables
      → Encoded (task_after [] a scans tables) s2 w s3 → EncodedBy xs a scans s0 w s3
  encoded_by s0 s1 s2 s3 w b kept asked has h =
      inr (
        tables,
        tables_before a.tables tables s0 s1 b.kept.works.stays.files has,
        converted_after Image (encoding_conversion (task_after [] a scans tables)) (xs ++ tables_names a.tables) s0 s2 s3 (goes_on_more xs (tables_names a.tables) s0 s1 s2 b (record { asked = asked; kept = kept })) w h,
      )

pub encoded_stopped : (xs : List Name) (a : EncodeAsked) (scans : Scans) (s0 s1 s2 : DeskState) (w : Why) → GoesOnAfter xs s0 s1 → StopsAtTables [] a.tables s1 w s2 → EncodedBy xs a scans s0 w s2
encoded_stopped xs a scans s0 s1 s2 w b h = inl (stops_after xs a.tables s0 s1 s2 w b h)

pub encoded_in : (a : EncodeAsked) (scans : Scans) (s0 s1 s2 : DeskState) (w : Why) → GoesOnAfter (names_before a.scans) s0 s1 → HasScans a.scans s0 scans → EncodedAfter a scans s1 w s2 → EncodedAsAsked a s0 w s2
encoded_in a scans s0 s1 s2 w b has h = inr (inl (scans, has, h (names_before a.scans) s0 b))

pub no_scans : (a : EncodeAsked) (s0 s1 : DeskState) (w : Why) → StopsAtScans a.scans s0 w s1 ⊎ ((w ≡ why.NoMemory) × Untouched s0 s1) → EncodedAsAsked a s0 w s1
no_scans a s0 s1 w (inl h) = inl h
no_scans a s0 s1 w (inr h) = inr (inr h)

-- A MESSAGE THEN

by_then : (xs : List Name) (a : EncodeAsked) (scans : Scans) (s0 s1 s2 : DeskState) (w : Why) → OnlySays s1 s2 → EncodedBy xs a scans s0 w s1 → EncodedBy xs a scans s0 w s2
by_then xs a scans s0 s1 s2 w k (inl h) = inl (stopped_tables_then xs a.tables s0 s1 s2 w k h)
by_then xs a scans s0 s1 s2 w k (inr (tables, has, h)) = inr (tables, has, converted_then Image (encoding_conversion (task_after (xs ++ tables_names a.tables) a scans tables)) s0 s1 s2 k w h)

pub encoding_then : (a : EncodeAsked) (s0 s1 s2 : DeskState) (w : Why) → OnlySays s1 s2 → EncodedAsAsked a s0 w s1 → EncodedAsAsked a s0 w s2
encoding_then a s0 s1 s2 w k (inl h) = inl (stopped_scans_then a.scans s0 s1 s2 w k h)
encoding_then a s0 s1 s2 w k (inr (inl (scans, has, h))) = inr (inl (scans, has, by_then (names_before a.scans) a scans s0 s1 s2 w k h))
encoding_then a s0 s1 s2 w k (inr (inr h)) = inr (inr (h.0, untouched_then s0 s1 s2 k h.1))
