-- The end of an image's text, which was written to the end, or not.
use Rattle.std.proofs.Common.{◌≡◌, ℕ, ◌≤◌, List, [], ◌∷◌, ◌++◌, length, take, drop, refl, sym, ap, ◌∙◌, subst, arith, inl, inr, Option, None, Some, Ok, Err}
use Rattle.std.proofs.lemmas.List.{append_assoc, append-nil, length-append, length-take-le, take_all, take-append-drop, take-append-le}
use Rattle.jpg_base.specs.Desk.{AppendsLast, DeskState}
use Rattle.jpg_huff.specs.Out.{OnlyWrites}
use Rattle.jpg_spec.specs.Meaning.{Meaning}
use Rattle.jpg_spec.specs.Segments.{standard_limits}
use Rattle.jpg_color.specs.DecodeRows.{SendsImage}
use Rattle.jpg_color.specs.declared.decode.DecodeStop.{DecodeStop}
use Rattle.jpg_color.specs.declared.decode.DecodeStop.TheVariants as stop
use Rattle.jpg_desk.specs.Endings.{Added}
use Rattle.jpg_desk.specs.Judging.{IsAllRead}
use Rattle.jpg_desk.specs.Reading.{rest_of}
use Rattle.jpg_desk.specs.ReadPicture.{IsReadPicture, Image}
use Rattle.jpg_cli.specs.Tools.Showing.{IsInTime, ReadsShown, Showing, Shown, shown_text}
use Rattle.jpg_cli.specs.Tools.ShowingRows.{HasCreated, why_of}
use Rattle.jpg_cli.proofs.ByRow.RowsDesk.{created_added, created_more, created_read}
use Rattle.jpg_cli.proofs.ByRow.RowsStopped.{rose_since}

-- what was written, what waits and what follows it are the text of the image of a picture, which was read
pub record IsImageText (s : Showing) (old start : DeskState) (M : Meaning) (early : Option ℕ) (all written due others : List ℕ) (s0 : DeskState) : Type 0 where
  pub same : written ++ (due ++ others) ≡ shown_text s M
  pub in_time : IsInTime s all written
  pub desk : HasCreated s old start all written s0
  pub most : length all ≤ standard_limits.input
  pub means : IsReadPicture (Image s.gray) M early all
  pub left : IsAllRead early s0

pub all_still : (early : Option ℕ) (s0 s1 : DeskState) → s1.left ≡ s0.left → IsAllRead early s0 → IsAllRead early s1
all_still None s0 s1 e h = tt
all_still (Some n) s0 s1 e h = ap rest_of e ∙ h

abbrev image_read : {s : Showing} {old start : DeskState} {M : Meaning} {early : Option ℕ} {all written due others had : List ℕ} {s0 s1 : DeskState} → IsImageText s old start M early all written due others s0 → OnlyWrites s0 s1
    → HasCreated s old start all had s1 → ReadsShown s M early old s1
image_read {s} {M} {early} {s0} {s1} h only desk = record { read = created_read (IsReadPicture (Image s.gray) M early) desk h.most h.means; all = all_still early s0 s1 only.left h.left; is = refl }

-- NOT ALL OF IT WAS WRITTEN: a first part of it

part_text : (written due others text : List ℕ) (n : ℕ) → written ++ (due ++ others) ≡ text → take (length (written ++ take n due)) text ≡ written ++ take n due
part_text written due others text n same =
    let a = written ++ take n due in
    let b = drop n due ++ others in
    let cut : text ≡ a ++ b =
    sym same ∙ ap (λ l. written ++ (l ++ others)) (sym (take-append-drop n due)) ∙ ap (λ l. written ++ l) (append_assoc (take n due) (drop n due) others) ∙ sym (append_assoc written (take n due) b) in
    ap (take (length a)) cut ∙ take-append-le (length a) a b (omega arith) ∙ take_all (length a) a (omega arith)

abbrev image_part : {s : Showing} {old start : DeskState} {M : Meaning} {early : Option ℕ} {all written due others : List ℕ} (n : ℕ) {s0 s1 : DeskState} → IsImageText s old start M early all written due others s0 → OnlyWrites s0 s1
    → AppendsLast s0.outputs (take n due) s1.outputs → ReadsShown s M early old s1 × Added (s.input ∷ []) s.output (take (length (written ++ take n due)) (shown_text s M)) old s1
image_part {s} {old} {M} {written} {due} {others} n {s1} h only gone =
    let new = created_more (take n due) h.desk only gone in (
      image_read h only new,
      subst (λ t. Added (s.input ∷ []) s.output t old s1) (sym (part_text written due others (shown_text s M) n h.same)) (created_added new),
    )

module _ {s : Showing} {old start : DeskState} {M : Meaning} {early : Option ℕ} {all written : List ℕ} where
  pub image_stopped : {out due others new : List ℕ} (ended : DecodeStop) {s0 s1 : DeskState} → IsImageText s old start M early all written (out ++ due) others s0
      → SendsImage s0 out due (Err ended) new s1 → Shown s old (why_of (Err ended)) s1
  image_stopped {out} {due} {others} stop.NoMemory h sent =
      let i = (sent.bytes).0 in
      let less = (sent.bytes).1 in
      let part = image_part i h sent.only (sent.bytes).2 in
      let size = ap length h.same in
      inr (inl (record {
        part = record { value = M; early = early; count = length (written ++ take i (out ++ due)); read = part.0; wrote = part.1 };
        left = omega (
          arith,
          less,
          size,
          length-append written ((out ++ due) ++ others),
          length-append (out ++ due) others,
          length-append written (take i (out ++ due)),
          length-take-le i (out ++ due) (omega (arith, less)),
        );
      }))
  image_stopped {out} {due} {others} stop.WriteFault {s1} h sent =
      let i = (sent.bytes).0.0 in
      let part = image_part i h sent.only (sent.bytes).0.1 in (
        rose_since s1 h.desk (sent.bytes).1,
        inl (record {
          part = record { value = M; early = early; count = length (written ++ take i (out ++ due)); read = part.0; wrote = part.1 };
          early = λ front rest other cut many k.
              (let l = h.in_time front rest other cut many k in
              let size = ap length (part_text written (out ++ due) others (shown_text s M) i h.same) in omega (arith, l, size, length-append written (take i (out ++ due))));
        }),
      )

module _ {s : Showing} {old start : DeskState} {M : Meaning} {early : Option ℕ} {all written : List ℕ} where
  -- ALL OF IT WAS
  pub image_whole : {out due new : List ℕ} {s0 s1 : DeskState} {u : Unit {0}} → IsImageText s old start M early all written (out ++ due) [] s0 → SendsImage s0 out due (Ok u) new s1 → new ≡ []
      → ReadsShown s M early old s1 × Added (s.input ∷ []) s.output (shown_text s M) old s1
  image_whole {out} {due} {s1} h sent none =
      let gone = (sent.bytes).0 in
      let same : gone ≡ out ++ due = sym (append-nil gone) ∙ ap (λ l. gone ++ l) (sym none) ∙ sym (sent.bytes).2 in
      let text : written ++ gone ≡ shown_text s M = ap (λ l. written ++ l) (same ∙ sym (append-nil (out ++ due))) ∙ h.same in
      let ended = created_more gone h.desk sent.only (sent.bytes).1 in
      (image_read h sent.only ended, subst (λ t. Added (s.input ∷ []) s.output t old s1) text (created_added ended))
