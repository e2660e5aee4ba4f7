-- The steps of jpgwork: what each leaves on its desk, and the report.
use Rattle.std.proofs.Common.{◌≡◌, ℕ, ◌<◌, ◌≤◌, Bool, true, false, List, [], ◌∷◌, ◌++◌, length, drop, take, Option, Some, None, refl, sym, ap, ◌∙◌, subst, arith, inl, inr}
use Rattle.std.specs.Prelude.{IfSome, if◌then◌else◌, slice_get, sum}
use Rattle.std.specs.Option.{option_map}
use Rattle.std.specs.Str.{bytes_eq}
use Rattle.std.proofs.lemmas.List.{append-nil, length-append}
use Rattle.std.proofs.Math.Seq.{drop-append_seam}
use Rattle.jpg_base.specs.declared.names.Name.{Name}
use Rattle.jpg_base.specs.declared.names.Name.TheVariants as name
use Rattle.jpg_base.specs.declared.names.Put.{Put}
use Rattle.jpg_base.specs.declared.names.Put.TheVariants as put
use Rattle.jpg_base.specs.declared.memory.MemoryDesk.{MemoryDesk}
use Rattle.jpg_base.specs.Desk.{Creates, DeskState, NotesName, Writes}
use Rattle.jpg_base.specs.Laws.{Grows, Grows-from}
use Rattle.jpg_base.specs.Memory.{HasNothing, memory_outputs, memory_state, with_file}
use Rattle.jpg_base.specs.Name.{is_same_name}
use Rattle.jpg_spec.specs.Lists.{joined}
use Rattle.jpg_spec.specs.FileMeaning.{Means}
use Rattle.jpg_spec.specs.Meaning.{Meaning}
use Rattle.jpg_spec.specs.Segments.{standard_limits}
use Rattle.jpg_spec.proofs.EndsEarly.EarlyOnce.{meaning_once}
use Rattle.jpg_spec_image.specs.Images.{Image as Picture}
use Rattle.jpg_spec_image.specs.ImageText.{end_text, pnm_header}
use Rattle.jpg_spec_image.specs.Pixels.{info, pixels}
use Rattle.jpg_spec_image.specs.declared.image.EndKind.TheVariants.{Pnm}
use Rattle.jpg_spec_image.specs.declared.image.ImageInfo.{ImageInfo}
use Rattle.jpg_spec_encode.specs.Encoded.{Encoding}
use Rattle.jpg_spec_move.specs.Moved.{Choice, moved, moved_text}
use Rattle.jpg_spec_move.specs.declared.transform.Transform.{Transform}
use Rattle.jpg_spec_write.specs.ScansAsked.{Scans, standard}
use Rattle.jpg_spec_words.specs.EncodeWords.{encoding_asked}
use Rattle.jpg_spec_words.specs.TransformWords.{ScansSource, TransformAsked, choice_asked, transform_default}
use Rattle.jpg_spec_words.specs.Work.{back_picture, back_text, first_asked, first_picture, first_text, lines, samples_sum, turned_text, work_image, work_info, work_text}
use Rattle.jpg_spec_words.specs.declared.answers.Why.{Why}
use Rattle.jpg_spec_words.specs.declared.answers.Why.TheVariants as why
use Rattle.jpg_spec_words.proofs.WorkedBack.{picture_back}
use Rattle.jpg_cli.specs.Certain.{IsTold}
use Rattle.jpg_cli.specs.Tools.ImageWritten.{AfterEncoding}
use Rattle.jpg_desk.specs.Judging.{ReadsFrom}
use Rattle.jpg_desk.specs.Reading.{rest_of}
use Rattle.jpg_desk.specs.ReadPicture.{IsReadPicture, Wanted, Coefficients, Image}
use Rattle.jpg_cli.specs.Outcome.{Converted}
use Rattle.jpg_desk.specs.Stays.{Untouched}
use Rattle.jpg_cli.specs.Tools.FrontShown.{ShownAs, ShownBy}
use Rattle.jpg_cli.specs.Tools.Showing.{Showing, Shown, showing_view}
use Rattle.jpg_cli.specs.Tools.Turned.{Transformed, Turned, Turning}
use Rattle.jpg_cli.specs.Tools.Worked.{DidWork, HasFile, HasImage, HasOutput, HoldsInput, ReportsShown, no_end, ShowsFile, TurnsFile, WritesReport, work_choice, work_conversion, scans_by}
use Rattle.jpg_cli.proofs.Comments.CommentInserted.{none_noted}
use Rattle.jpg_words.specs.declared.djpeg_request.ShowWords.{ShowWords}
use Rattle.jpg_cli.proofs.Outcomes.Due.{one_file}
use Rattle.jpg_desk.proofs.Judged.{picture_judged}
use Rattle.jpg_desk.proofs.Input.{some_inj}
use Rattle.jpg_cli.proofs.Outcomes.Outcome.{HasValueRead, converted_made, none_early}
use Rattle.jpg_desk.proofs.PiecesRead.{reads_none}

-- THE ONLY OUTPUT of a desk without outputs

abbrev Outputs : Type 0
Outputs = List (Name × List ℕ)

grown : (old : Option Outputs) (new : Outputs) (text : List ℕ) → old ≡ Some [] → Grows old (name.Out, text) (Some new) → new ≡ (name.Out, text) ∷ []
grown old new text e h = let P : Option Outputs → Type 0 = λ o. Grows o (name.Out, text) (Some new) in subst P e h

-- the bytes of that output
pub output_is : (text : List ℕ) (desk : MemoryDesk) (r : List ℕ) → HasOutput text desk → option_map (λ p. p.1) (slice_get (memory_outputs desk) 0) ≡ Some r → r ≡ text
output_is text desk r h e = some_inj r text (sym e ∙ ap (λ (o : Outputs). option_map (λ (p : Name × List ℕ). p.1) (slice_get o 0)) h)

pub one_output : (text : List ℕ) (desk : MemoryDesk) → HasOutput text desk → 0 < length (memory_outputs desk)
one_output text desk h = subst (λ (o : Outputs). 0 < length o) (sym h) (omega arith)

-- AN INPUT

pub holds_input : (input : List ℕ) (desk now : MemoryDesk) → HasNothing (memory_state desk) → memory_state now ≡ with_file name.In input (memory_state desk) → HoldsInput input now
holds_input input desk now nothing e =
    let F : Type 0 = Option (Name → Option (List ℕ)) in
    let with : F → F = option_map (λ (had : Name → Option (List ℕ)). (λ n. if is_same_name name.In n then Some input else had n)) in
    let there : IsTold (with (memory_state desk).files) name.In input = subst (λ (f : F). IsTold (with f) name.In input) (sym nothing.files) refl in
    record { told = subst (λ (s : DeskState). IsTold s.files name.In input) (sym e) there; outputs = ap (λ (s : DeskState). s.outputs) e ∙ nothing.outputs }

-- WHAT WAS READ of an input that means a picture is that picture

read_once : (w : Wanted) (input : List ℕ) (s0 s1 : DeskState) (M N : Meaning) → IsTold s0.files name.In input → Means standard_limits input M → ReadsFrom (Some name.In) (IsReadPicture w N None) s0 s1 → M ≡ N
read_once w input s0 s1 M N told means read =
    let bytes = read.bytes ++ rest_of s1.left in
    let same : bytes ≡ input = one_file s0.files name.In input bytes told read.read in
    let meant = (picture_judged w).read N None read.bytes s1 read.is tt in
    meaning_once standard_limits input M N (inl means) (inl (subst (λ (b : List ℕ). Means standard_limits b N) same meant.0))

not_wanting : (why.Done ≡ why.NoMemory) → ⊥
not_wanting e = cc

-- THE FIRST FILE

abbrev encoding_by : List (ℕ × ℕ) → Picture → Encoding
encoding_by factors I = encoding_asked (record first_asked { factors = factors }) standard None I

pub first_done : (n : ℕ) (factors : List (ℕ × ℕ)) (I : Picture) (desk now : MemoryDesk) → factors ≡ [] → I ≡ work_image n → (memory_state desk).outputs ≡ Some []
    → AfterEncoding (encoding_by factors I) I name.Out (memory_state desk) why.Done (memory_state now) → HasFile (first_picture n) (first_text n) now
first_done n factors I desk now own same none h = by (subst (λ f. P f (work_image n)) own (subst (λ J. P factors J) same h))
  where
    P : List (ℕ × ℕ) → Picture → Type 0
    P f J = AfterEncoding (encoding_by f J) J name.Out (memory_state desk) why.Done (memory_state now)

    by : AfterEncoding (encoding_by [] (work_image n)) (work_image n) name.Out (memory_state desk) why.Done (memory_state now) → HasFile (first_picture n) (first_text n) now
    by (inl k) = record { output = grown (memory_state desk).outputs (memory_outputs now) (first_text n) none k.1.1; means = k.2 }
    by (inr k) = absurd (not_wanting k.0)

-- A FILE TRANSFORMED

abbrev asked_by : Transform → Bool → TransformAsked
asked_by t progressive = record transform_default { transform = t; scans = scans_by progressive }

abbrev turning_by : Choice → Turning
turning_by c = record { before = []; input = name.In; output = name.Out; choice = c; upright = false }

by_choice : (c : Choice) (input : List ℕ) (desk now : MemoryDesk) (M : Meaning) → HoldsInput input desk → Means standard_limits input M → Turned (turning_by c) (memory_state desk) why.Done (memory_state now) → HasFile (moved c M) (moved_text c M) now
by_choice c input desk now M holds means (N, (reads, wrote, so)) =
    let same : M ≡ N = read_once Coefficients input (memory_state desk) (memory_state now) M N holds.told means reads.read in
    let here : HasFile (moved c N) (moved_text c N) now = record { output = grown (memory_state desk).outputs (memory_outputs now) (moved_text c N) holds.outputs wrote.outputs; means = so } in
    subst (λ (K : Meaning). HasFile (moved c K) (moved_text c K) now) (sym same) here

turned_here : (t : Transform) (progressive : Bool) (input : List ℕ) (desk now : MemoryDesk) (M : Meaning) → HoldsInput input desk → Means standard_limits input M
    → Transformed (asked_by t progressive) (memory_state desk) why.Done (memory_state now) → HasFile (moved (work_choice t progressive) M) (moved_text (work_choice t progressive) M) now
turned_here t true input desk now M holds means (inl h) = absurd h
turned_here t false input desk now M holds means (inl h) = absurd h
turned_here t true input desk now M holds means (inr (inl (scans, has, turned))) =
    by_choice (work_choice t true) input desk now M holds means
    (subst (λ (s : Scans). Turned (turning_by (choice_asked (asked_by t true) s)) (memory_state desk) why.Done (memory_state now)) has turned)
turned_here t false input desk now M holds means (inr (inl (scans, has, turned))) =
    by_choice (work_choice t false) input desk now M holds means
    (subst (λ (s : Scans). Turned (turning_by (choice_asked (asked_by t false) s)) (memory_state desk) why.Done (memory_state now)) has turned)
turned_here t progressive input desk now M holds means (inr (inr h)) = absurd (not_wanting h.0)

abbrev asked_in : Transform → ScansSource → TransformAsked
asked_in t scans = record (asked_by t false) { scans = scans }

pub turned_done : (t : Transform) (progressive : Bool) (scans : ScansSource) (input : List ℕ) (desk now : MemoryDesk) → scans ≡ scans_by progressive → HoldsInput input desk
    → Transformed (asked_in t scans) (memory_state desk) why.Done (memory_state now) → TurnsFile (work_choice t progressive) input (Some now)
turned_done t progressive scans input desk now is holds turned M means =
    let here : Transformed (asked_in t (scans_by progressive)) (memory_state desk) why.Done (memory_state now) =
    subst (λ (s : ScansSource). Transformed (asked_in t s) (memory_state desk) why.Done (memory_state now)) is turned in
    turned_here t progressive input desk now M holds means here

-- the next file, of the one before
pub file_after : (c : Choice) (M : Meaning) (text input : List ℕ) (desk now : MemoryDesk) → HasFile M text desk → option_map (λ p. p.1) (slice_get (memory_outputs desk) 0) ≡ Some input → TurnsFile c input (Some now) → HasFile (moved c M) (moved_text c M) now
file_after c M text input desk now h e turns = turns M (subst (λ (b : List ℕ). Means standard_limits b M) (sym (output_is text desk input h.output e)) h.means)

-- A FILE DECODED

abbrev showing : Showing
showing = record { input = name.In; output = name.Out; kind = Pnm; gray = false; smooth = true }

pub shown_done : (has : Bool) (w : ShowWords) (input : List ℕ) (desk now : MemoryDesk) → has ≡ true → showing_view w ≡ showing → w.preview ≡ None → HoldsInput input desk → ShownBy has w (memory_state desk) why.Done (memory_state now) → ShowsFile input (Some now)
shown_done false w input desk now has is all holds shown M means = absurd (let e : false ≡ true = has in cc)
shown_done true w input desk now has is all holds shown M means =
    let done : Shown showing (memory_state desk) why.Done (memory_state now) = subst (λ (s : Showing). Shown s (memory_state desk) why.Done (memory_state now)) is
    (subst (λ (o : Option ℕ). ShownAs o (showing_view w) (memory_state desk) why.Done (memory_state now)) all shown) in
    let N : Meaning = done.0 in
    let same : M ≡ N = read_once (Image false) input (memory_state desk) (memory_state now) M N holds.told means done.1.0.read in
    let here : HasOutput (end_text Pnm (info N false) (pixels N false true)) now =
    grown (memory_state desk).outputs (memory_outputs now) (end_text Pnm (info N false) (pixels N false true)) holds.outputs done.1.1.outputs in
    subst (λ (K : Meaning). HasImage K now) (sym same) here

pub shown_after : (M : Meaning) (text input : List ℕ) (desk now : MemoryDesk) → HasFile M text desk → option_map (λ p. p.1) (slice_get (memory_outputs desk) 0) ≡ Some input → ShowsFile input (Some now) → HasImage M now
shown_after M text input desk now h e shows = shows M (subst (λ (b : List ℕ). Means standard_limits b M) (sym (output_is text desk input h.output e)) h.means)

-- THE REPORT

-- the samples are what follows the header
pub image_header : (i : ImageInfo) (rows : List (List ℕ)) → length (pnm_header i) ≤ length (end_text Pnm i rows)
image_header i rows =
    let e = length-append (pnm_header i) (joined rows) in
    let f = length-append (pnm_header i ++ joined rows) [] in omega (arith, e, f)

image_samples : (i : ImageInfo) (rows : List (List ℕ)) → sum (drop (length (pnm_header i)) (end_text Pnm i rows)) ≡ sum (joined rows)
image_samples i rows =
    ap (λ t. sum (drop (length (pnm_header i)) t)) (append-nil (pnm_header i ++ joined rows)) ∙ ap sum (drop-append_seam (pnm_header i) (joined rows))

back_info : (n : ℕ) → info (back_picture n) false ≡ work_info n
back_info n = ap (λ (M : Meaning). info M false) (picture_back n)

abbrev pub image_text : ℕ → List ℕ
image_text n = end_text Pnm (info (back_picture n) false) (pixels (back_picture n) false true)

pub work_header : (n : ℕ) → length (pnm_header (work_info n)) ≤ length (image_text n)
work_header n = subst (λ (i : ImageInfo). length (pnm_header i) ≤ length (image_text n)) (back_info n) (image_header (info (back_picture n) false) (pixels (back_picture n) false true))

work_sum : (n : ℕ) → sum (drop (length (pnm_header (work_info n))) (image_text n)) ≡ samples_sum (back_picture n)
work_sum n =
    subst (λ (i : ImageInfo). sum (drop (length (pnm_header i)) (image_text n)) ≡ samples_sum (back_picture n)) (back_info n)
    (image_samples (info (back_picture n) false) (pixels (back_picture n) false true))

pub report_done : (n : ℕ) (first turned back image : List ℕ) (r : Option (List ℕ)) → first ≡ first_text n → turned ≡ turned_text n → back ≡ back_text n → image ≡ image_text n → ReportsShown n first turned back image r
    → IfSome r (λ text. text ≡ work_text n)
report_done n first turned back image (Some text) f t b i is =
    let L : List ℕ → List ℕ → List ℕ → List ℕ → List ℕ = λ x y z w. lines (work_info n) (length x) (length y) (bytes_eq z x) (sum (drop (length (pnm_header (work_info n))) w)) in
    is ∙ ap (λ x. L x turned back image) f ∙ ap (λ y. L (first_text n) y back image) t ∙ ap (λ z. L (first_text n) (turned_text n) z image) b ∙ ap (λ w. L (first_text n) (turned_text n) (back_text n) w) i
    ∙ ap (λ k. lines (work_info n) (length (first_text n)) (length (turned_text n)) (bytes_eq (back_text n) (first_text n)) k) (work_sum n)
report_done n first turned back image None f t b i is = is

-- WRITTEN

untouched : (s : DeskState) → Untouched s s
untouched s = record { asked = refl; outputs = refl; left = refl }

pub work_none : (has : Bool) (n : ℕ) (s : DeskState) → has ≡ true → DidWork has n s why.NoMemory s
work_none true n s e = inr (refl, untouched s)
work_none false n s e = absurd (let f : false ≡ true = e in cc)

pub work_wrong : (has : Bool) (n : ℕ) (s : DeskState) → has ≡ false → DidWork has n s (why.Usage no_end) s
work_wrong true n s e = absurd (let f : true ≡ false = e in cc)
work_wrong false n s e = (refl, untouched s)

-- the value is there, and nothing is read
nothing_read : (n : ℕ) (s0 s1 : DeskState) → s1.left ≡ s0.left → HasValueRead ℕ (work_conversion n) n None s0 s0 s1
nothing_read n s0 s1 left = record { kept = record { works = (reads_none s0).copies.works; outputs = refl }; asked = none_noted s0.asked s0.asked refl; read = record { bytes = []; read = refl; most = omega arith; is = (refl, refl) }; all = tt; left = left }

pub work_done : (has : Bool) (n : ℕ) (text : List ℕ) (ended : Why) (s0 s1 : DeskState) → has ≡ true → text ≡ work_text n → s1.left ≡ s0.left → WritesReport text s0 ended s1 → DidWork has n s0 ended s1
work_done true n text ended s0 s1 has is left wrote =
    let c = work_conversion n in
    let made = converted_made ℕ c n None s0 s0 s1 (nothing_read n s0 s1 left) ended (subst (λ t. WritesReport t s0 ended s1) is wrote) in
    inl (subst (λ (w : Why). Converted c s0 w s1) (none_early ended) made)
work_done false n text ended s0 s1 has is left wrote = absurd (let e : false ≡ true = has in cc)

noted_then : (s0 s1 s2 : DeskState) → Creates s0 name.Out put.Done s1 → s2.asked ≡ s1.asked → NotesName s0.asked (name.Out, put.Done) s2.asked
noted_then s0 s1 s2 h still = let P : Option (List (Name × Put)) → Type 0 = λ a. NotesName s0.asked (name.Out, put.Done) a in subst P (sym still) h.asked

pub report_written : (text : List ℕ) (s0 s1 s2 : DeskState) → Creates s0 name.Out put.Done s1 → Writes s1 text put.Done s2 → WritesReport text s0 why.Done s2
report_written text s0 s1 s2 h k = (refl, (noted_then s0 s1 s2 h k.asked, Grows-from s0.outputs s1.outputs s2.outputs name.Out text h.after.1 k.after), tt)

pub report_unwritten : (text : List ℕ) (s0 s1 s2 : DeskState) → Creates s0 name.Out put.Done s1 → Writes s1 text put.Failed s2 → WritesReport text s0 why.WriteFault s2
report_unwritten text s0 s1 s2 h k = (
  refl,
  (
    noted_then s0 s1 s2 h k.asked,
    (let r = k.after.0 in let f = h.counts.writes in omega (arith, r, f)),
    (k.after.1.0, Grows-from s0.outputs s1.outputs s2.outputs name.Out (take k.after.1.0 text) h.after.1 k.after.1.1),
  ),
)
