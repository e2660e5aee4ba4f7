-- Decoding a picture: reading it, and then writing its image.
use Rattle.std.proofs.Common.{◌≡◌, ℕ, Bool, true, false, List, [], ◌∷◌, take, Option, None, Some, Ok, Err, refl, sym, ap, ◌∙◌, subst, arith, inl, inr}
use Rattle.jpg_base.specs.declared.names.Name.{Name}
use Rattle.jpg_base.specs.declared.names.Put.{Put}
use Rattle.jpg_base.specs.declared.names.Put.TheVariants as put
use Rattle.jpg_base.specs.Desk.{DeskState, Creates, NotesName}
use Rattle.jpg_base.specs.Laws.{Grows, Grows-from}
use Rattle.jpg_spec_image.specs.ImageText.{end_text}
use Rattle.jpg_spec.specs.Meaning.{Meaning}
use Rattle.jpg_spec_image.specs.Pixels.{info, pixels}
use Rattle.jpg_spec.specs.Segments.{standard_limits}
use Rattle.jpg_spec_words.specs.declared.answers.Why.{Why}
use Rattle.jpg_spec_words.specs.declared.answers.Why.TheVariants as why
use Rattle.jpg_spec_words.specs.declared.answers.Which.TheVariants as which
use Rattle.jpg_spec.specs.declared.frame.Copying.{Copying}
use Rattle.jpg_spec_image.specs.declared.image.EndKind.{EndKind}
use Rattle.jpg_spec_image.specs.declared.image.ImageInfo.{ImageInfo}
use Rattle.jpg_color.specs.DecodeRows.{Decodes}
use Rattle.jpg_color.specs.declared.decode.DecodeStop.{DecodeStop}
use Rattle.jpg_color.specs.declared.decode.DecodeStop.TheVariants as stop
use Rattle.jpg_file.specs.Read.SegmentState.{kept_for}
use Rattle.jpg_file.specs.Read.Strips.{HasNoRows}
use Rattle.jpg_desk.proofs.KeepingLaws.{info_same, pixels_same}
use Rattle.jpg_pnm_bmp.specs.EndState.{EndState, new_end}
use Rattle.jpg_huff.specs.Out.{OnlyWrites}
use Rattle.jpg_words.specs.Files.{name_view}
use Rattle.jpg_words.specs.Commands.{name_of}
use Rattle.jpg_desk.specs.Endings.{Added}
use Rattle.jpg_desk.specs.Judging.{done_as}
use Rattle.jpg_cli.specs.Run.{RanShow}
use Rattle.jpg_words.specs.ShowWords.{show_view}
use Rattle.jpg_cli.specs.Outcome.{WritesPart}
use Rattle.jpg_cli.specs.Tools.FrontShown.{ShownAs, ShownBy}
use Rattle.jpg_cli.specs.Tools.Showing.{AfterImage, IsInTime, ReadsShown, Shown, Showing, showing_conversion, shown_text}
use Rattle.jpg_cli.specs.Tools.ShowingRows.{why_of}
use Rattle.jpg_words.specs.declared.djpeg_request.ShowWords.{ShowWords}
use Rattle.jpg_desk.proofs.Endings.{asks_next}
use Rattle.jpg_cli.proofs.Comments.InsertedThen.{same_name}
use Rattle.jpg_cli.proofs.Outcomes.Outcome.{HasValueRead, value_on, wrote_on}
use Rattle.jpg_cli.proofs.ByRow.RowHeads.{begins_still}

-- CREATED AND WRITTEN

noted_then : (s0 s1 s2 : DeskState) (output : Name) → Creates s0 output put.Done s1 → OnlyWrites s1 s2 → NotesName s0.asked (output, put.Done) s2.asked
noted_then s0 s1 s2 output h k = (let P : Option (List (Name × Put)) → Type 0 = λ a. NotesName s0.asked (output, put.Done) a in subst P (sym k.asked) h.asked)

-- the text in the format of the image writer, which is the one asked for
same_text : (text : EndKind → List ℕ) (e : EndState) (kind : EndKind) → e ≡ new_end kind → text e.kind ≡ text kind
same_text text e kind new = ap (λ (x : EndState). text x.kind) new

pub image_done : (s0 s1 s2 : DeskState) (output : Name) (early : Option ℕ) (text : EndKind → List ℕ) (e : EndState) (kind : EndKind) → e ≡ new_end kind → Creates s0 output put.Done s1 → Decodes s1 (text e.kind) (Ok tt) s2
    → AfterImage output early s0 (text kind) (done_as early) s2
image_done s0 s1 s2 output early text e kind new h decoded = by early refl
  where
    d : Decodes s1 (text kind) (Ok tt) s2
    d = subst (λ due. Decodes s1 due (Ok tt) s2) (same_text text e kind new) decoded

    all : Grows s0.outputs (output, text kind) s2.outputs
    all = Grows-from s0.outputs s1.outputs s2.outputs output (text kind) h.after.1 d.bytes

    by : (o : Option ℕ) → early ≡ o → AfterImage output early s0 (text kind) (done_as o) s2
    by None same = (same, noted_then s0 s1 s2 output h d.only, all)
    by (Some n) same = (same, noted_then s0 s1 s2 output h d.only, all)

module _ (s0 s1 s2 : DeskState) (output : Name) (early : Option ℕ) (text : EndKind → List ℕ) where
  pub image_left : (e : EndState) (kind : EndKind) (ended : DecodeStop) → e ≡ new_end kind → Creates s0 output put.Done s1 → Decodes s1 (text e.kind) (Err ended) s2
      → AfterImage output early s0 (text kind) (why_of (Err ended)) s2
  image_left e kind stop.NoMemory new h decoded =
      let d = subst (λ due. Decodes s1 due (Err stop.NoMemory) s2) (same_text text e kind new) decoded in
      (noted_then s0 s1 s2 output h d.only, (d.bytes.0, d.bytes.1, Grows-from s0.outputs s1.outputs s2.outputs output (take d.bytes.0 (text kind)) h.after.1 d.bytes.2))
  image_left e kind stop.WriteFault new h decoded =
      let d = subst (λ due. Decodes s1 due (Err stop.WriteFault) s2) (same_text text e kind new) decoded in (
        noted_then s0 s1 s2 output h d.only,
        (let r = d.bytes.1 in let f = h.counts.writes in omega arith),
        (d.bytes.0.0, Grows-from s0.outputs s1.outputs s2.outputs output (take d.bytes.0.0 (text kind)) h.after.1 d.bytes.0.1),
      )

-- It doesn't depend on markers that weren't kept.
pub text_shown : (s : Showing) (keeping : Copying) (M : Meaning) → shown_text s (kept_for keeping M) ≡ shown_text s M
text_shown s keeping M =
    ap (λ (told : ImageInfo). end_text s.kind told (pixels (kept_for keeping M) s.gray s.smooth)) (info_same keeping s.gray M)
    ∙ ap (end_text s.kind (info M s.gray)) (pixels_same keeping s.gray s.smooth M)

-- A PICTURE, and its image written

pub record HasImageRead (s : Showing) (M : Meaning) (early : Option ℕ) (s0 s1 s2 : DeskState) : Type 0 where
  pub value : HasValueRead Meaning (showing_conversion s) M early s0 s1 s2
  pub plain : HasNoRows standard_limits ((value.read).bytes)

-- no rows are written before
none_early : (s : Showing) (bytes written : List ℕ) → HasNoRows standard_limits bytes → IsInTime s bytes written
none_early s bytes written none front rest text cut many k = absurd (none k.before k.contents (begins_still front rest bytes k.before k.contents cut k.begins))

abbrev image_on : (s : Showing) (M : Meaning) (early : Option ℕ) (s0 s1 s2 : DeskState) → HasImageRead s M early s0 s1 s2 → ReadsShown s M early s0 s2
image_on s M early s0 s1 s2 h = value_on Meaning (showing_conversion s) M early s0 s1 s2 h.value None refl

wrote_image : (s : Showing) (M : Meaning) (early : Option ℕ) (s0 s1 s2 : DeskState) (text : List ℕ) → HasImageRead s M early s0 s1 s2 → NotesName s1.asked (s.output, put.Done) s2.asked → Grows s1.outputs (s.output, text) s2.outputs → Added (s.input ∷ []) s.output text s0 s2
wrote_image s M early s0 s1 s2 text h o grows = wrote_on Meaning (showing_conversion s) M early s0 s1 s2 h.value text o grows

abbrev in_part : (s : Showing) (M : Meaning) (early : Option ℕ) (s0 s1 s2 : DeskState) (n : ℕ) → HasImageRead s M early s0 s1 s2 → NotesName s1.asked (s.output, put.Done) s2.asked → Grows s1.outputs (s.output, take n (shown_text s M)) s2.outputs → WritesPart Meaning (showing_conversion s) s0 s2
in_part s M early s0 s1 s2 n h o grows = record { value = M; early = early; count = n; read = image_on s M early s0 s1 s2 h; wrote = wrote_image s M early s0 s1 s2 (take n (shown_text s M)) h o grows }

pub shown_written : (s : Showing) (M : Meaning) (early : Option ℕ) (s0 s1 s2 : DeskState) (w : Why) → HasImageRead s M early s0 s1 s2 → AfterImage s.output early s1 (shown_text s M) w s2 → Shown s s0 w s2
shown_written s M early s0 s1 s2 why.Done h (whole, asked, grows) =
    (M, (subst (λ (o : Option ℕ). ReadsShown s M o s0 s2) whole (image_on s M early s0 s1 s2 h), wrote_image s M early s0 s1 s2 (shown_text s M) h asked grows, tt))
shown_written s M early s0 s1 s2 (why.Warned n) h (cut, asked, grows) =
    (M, (subst (λ (o : Option ℕ). ReadsShown s M o s0 s2) cut (image_on s M early s0 s1 s2 h), wrote_image s M early s0 s1 s2 (shown_text s M) h asked grows, tt))
shown_written s M early s0 s1 s2 (why.OpenFault which.Output) h (asked, rose, same) = (
  record {
    stopped = record { asked = asks_next s0 s1 s2 (s.input ∷ []) s.output put.Failed (h.value).asked asked; outputs = same ∙ (h.value).kept.outputs };
    opens = (let f = (h.value).kept.works.stays.counts.opens in omega (arith, rose, f));
  },
  inl (M, early, image_on s M early s0 s1 s2 h),
)
shown_written s M early s0 s1 s2 why.WriteFault h (asked, rose, (n, grows)) = (
  (let f = (h.value).kept.works.stays.counts.writes in omega (arith, rose, f)),
  inl (record { part = in_part s M early s0 s1 s2 n h asked grows; early = none_early s ((h.value).read).bytes (take n (shown_text s M)) h.plain }),
)
shown_written s M early s0 s1 s2 why.NoMemory h (asked, (n, less, grows)) = inr (inl (record { part = in_part s M early s0 s1 s2 n h asked grows; left = less }))
shown_written s M early s0 s1 s2 other h k = absurd k

-- AS THE WORDS ASK FOR IT

pub asked_shown : (b : Bool) (w : ShowWords) (s0 s1 : DeskState) (ended : Why) → ShownBy b w s0 ended s1 → RanShow b (show_view w) s0 ended s1
asked_shown true w s0 s1 ended h =
    let of : Name → Name → Showing = λ i o. record { input = i; output = o; kind = w.kind; gray = w.gray; smooth = w.smooth } in
    inl (subst (λ i. ShownAs w.preview (of i (name_of (name_view w.files.output))) s0 ended s1) (sym (same_name w.files.input))
    (subst (λ o. ShownAs w.preview (of w.files.input o) s0 ended s1) (sym (same_name w.files.output)) h))
asked_shown false w s0 s1 ended h = h
