-- The scans of a sequential script, one after another.
use Rattle.std.proofs.Common.{◌≡◌, ℕ, ◌*◌, ◌<◌, ◌≤◌, Bool, true, false, cond, List, [], ◌∷◌, ◌++◌, length, refl, sym, ap, ◌∙◌, subst, arith, Some, None, ◌==◌}
use Rattle.std.specs.Prelude.{◌||◌, map}
use Rattle.std.specs.Int.{to_be_bytes, w16}
use Rattle.std.proofs.lemmas.List.{append_assoc, append-nil}
use Rattle.jpg_spec.specs.Bits.{stuffed}
use Rattle.jpg_spec.specs.Lists.{any_of, all_of, is_among, is_distinct, below}
use Rattle.jpg_spec.specs.Geometry.{Frame, bounds, component_at, is_progressive, is_real, place, units, mcu_units}
use Rattle.jpg_spec.specs.FrameHeader.{IsFrame}
use Rattle.jpg_spec.specs.Segments.{HuffmanTable, QuantTable, ScanHead, head_components}
use Rattle.jpg_spec.specs.Scan.{Blocks, Scan, scan_coding, scan_of, unit_at, ScanMeans}
use Rattle.jpg_spec_write.specs.declared.huffman.Huffman.{Huffman}
use Rattle.jpg_spec_write.specs.ScanText.{intervals_text}
use Rattle.jpg_spec.specs.Meaning.{Meaning, colour_of}
use Rattle.jpg_spec_write.specs.Script.{Entry}
use Rattle.jpg_spec.specs.InForce.{frame_of, huffman_in_force, quant_in_force}
use Rattle.jpg_spec.specs.History.{has_begun, quant_of}
use Rattle.jpg_spec.specs.Items.{Item, segments_of, SpellsIntervalsText}
use Rattle.jpg_spec.specs.FileMeaning.{scan_after}
use Rattle.jpg_spec_write.specs.FileText.{Written, segment_text, frame_of_meaning, head_text, tables_text, tables_given, Restart, off, rows, mcus, interval_of, scans_text}
use Rattle.jpg_spec_write.specs.WrittenFile.{is_sequential_entry, is_script_after, IsRestart}
use Rattle.jpg_spec.specs.Laws.{IsNewUnit}
use Rattle.jpg_spec.specs.declared.frame.Colour.{Colour}
use Rattle.jpg_spec.specs.declared.frame.Place.{Place}
use Rattle.jpg_spec.specs.declared.frame.ScanPart.{ScanPart}
use Rattle.jpg_spec.specs.declared.frame.Limits.{Limits}
use Rattle.jpg_spec.specs.Elements.{new_unit, IsBlockIn}
use Rattle.jpg_spec.proofs.Places.PictureInWork.{leads_sizes}
use Rattle.jpg_spec.proofs.Bits.FirstPasses.{sequential_unit}
use Rattle.jpg_spec.proofs.Places.PlacesSome.{units_some, chunks_some}
use Rattle.jpg_spec.proofs.Places.PlacesFound.{each_units}
use Rattle.jpg_spec.proofs.Basics.Each.{Each, each_map}
use Rattle.jpg_spec_write.proofs.PlacedBlocks.{IsRealSendable, each_both}
use Rattle.jpg_spec_write.proofs.WrittenScan.{sequential_coded, scan_rows, scan_after_blocks, other_after, real_after, scan_means}
use Rattle.jpg_spec.proofs.Writing.WrittenHead.{IsSpoken, head_contents}
use Rattle.jpg_spec_write.proofs.WrittenState.{IsSent, Sends, quants_due, tables_step, interval_step}
use Rattle.jpg_spec_write.proofs.WrittenStep.{ids_of, intervals_text_spelled, rule_is, head_in_is, scan_is, scan_step}
use Rattle.jpg_spec_write.proofs.WrittenSequential.{plain_part, plain_head, plain_components, IsEntry, entry_is, among_below, plain_spoken, plain_needed, needed_tellable, IsGiven, all_given, parts_given, plain_tables, plain_scan, plain_written, sequential_admitted, plain_data, scans_are}
use Rattle.jpg_spec_write.proofs.SequentialCodes.{scan_coded, rows_writable}
use Rattle.jpg_spec_write.specs.Written.{all_in_force}
use Rattle.jpg_spec.proofs.Basics.Common.{both, neither, or_assoc}

-- a meaning that may be written in sequential scans
pub record IsFit (H : Meaning) : Type 0 where
  pub frame : IsFrame (frame_of_meaning H)
  pub sequential : is_progressive H.process ≡ false
  pub blocks : (i x y : ℕ) → i < length H.components → is_real (frame_of_meaning H) i x y ≡ true → IsBlockIn (bounds (frame_of_meaning H)) (H.blocks i x y)
  pub count : length (frame_of_meaning H).components ≡ length H.components

-- the real blocks of the components that are done are those of the picture
abbrev pub IsShown : Meaning → List ℕ → Blocks → Type 0
IsShown H done blocks = (i x y : ℕ) → i < length H.components → is_among i done ≡ true → is_real (frame_of_meaning H) i x y ≡ true → blocks i x y ≡ H.blocks i x y

pub among_join : (i : ℕ) (a b : List ℕ) → is_among i (a ++ b) ≡ (is_among i a || is_among i b)
among_join i [] b = refl
among_join i (x ∷ a) b = ap (λ t. (x == i) || t) (among_join i a b) ∙ or_assoc (x == i) (is_among i a) (is_among i b)

each_plain : (P : ℕ → Type 0) (Q : ScanPart → Type 0) (colour : Colour) (components : List ℕ) → ((i : ℕ) → P i → Q (plain_part colour i)) → Each P components → Each Q (map (plain_part colour) components)
each_plain P Q colour [] f h = tt
each_plain P Q colour (i ∷ components) f h = (f i h.0, each_plain P Q colour components f h.1)

each_new : (done components : List ℕ) → any_of (λ i. is_among i done) components ≡ false → Each (λ i. is_among i done ≡ false) components
each_new done [] e = tt
each_new done (i ∷ components) e = let n = neither (is_among i done) (any_of (λ i. is_among i done) components) e in (n.0, each_new done components n.1)

pub units_many : (f : Frame) (components : List ℕ) → IsFrame f → 1 ≤ length components → Each (λ i. i < length f.components) components → 1 ≤ length (units f components)
units_many f [] is some h = absurd (omega (arith, some))
units_many f (i ∷ components) is some h = units_some f i components is h.0

pub interval_small : (f : Frame) (head : ScanHead) (restart : Restart) → IsRestart restart → interval_of f head restart < 65536
interval_small f head off h = omega arith
interval_small f head (rows n) h = omega arith
interval_small f head (mcus n) h = h

pub joined_text : (a b d e g : List ℕ) → ((a ++ b) ++ d) ++ (e ++ g) ≡ a ++ (((b ++ d) ++ e) ++ g)
joined_text a b d e g = simp append_assoc

-- AN ENTRY

entry_step : (huffman : Huffman) (limits : Limits) (H : Meaning) (restart : Restart) (heads : List ScanHead) (done : List ℕ) (w : Written) (text : List ℕ) (components : List ℕ) → IsFit H → IsRestart restart → IsEntry (frame_of_meaning H) done components
    → ((i : ℕ) → has_begun heads i ≡ is_among i done) → Sends limits H heads (IsShown H done) w text
    → (let head = plain_head (colour_of H) components in let n = interval_of (frame_of_meaning H) head restart in
    Sends limits H (head ∷ heads) (IsShown H (components ++ done)) (plain_written huffman H head n w) (text ++ plain_scan huffman H head n w))
entry_step huffman limits H restart heads done w text components fit small entry begun s =
    let tables = tables_text w.tables by needed in
    let dri = cond (n == w.interval) [] (segment_text 0xdd (to_be_bytes w16 n)) in
    let s1 = tables_step limits H heads (IsShown H done) w.tables by w.interval needed text (needed_tellable huffman H head n (colour_of H) components) s in
    let s2 = interval_step limits H heads (IsShown H done) (record { tables = tables_given w.tables by needed; interval = w.interval }) n (text ++ tables) (interval_small f head restart small) s1 in
    let k = last s2.0 ((text ++ tables) ++ dri) s2.1 in
    subst (λ t. Sends limits H (head ∷ heads) (IsShown H (components ++ done)) now t)
    (joined_text text tables dri (head_text H head) (plain_data huffman H head n)) k
  where
    f : Frame
    f = frame_of_meaning H

    head : ScanHead
    head = plain_head (colour_of H) components

    needed : List (ℕ × ℕ)
    needed = plain_needed (plain_head (colour_of H) components).parts

    n : ℕ
    n = interval_of (frame_of_meaning H) (plain_head (colour_of H) components) restart

    by : ℕ → ℕ → HuffmanTable
    by = plain_tables huffman H head n

    now : Written
    now = plain_written huffman H (plain_head (colour_of H) components) (interval_of (frame_of_meaning H) (plain_head (colour_of H) components) restart) w

    names_are : head_components (plain_head (colour_of H) components) ≡ components
    names_are = plain_components (colour_of H) components

    known : (i : ℕ) → is_among i (head_components head) ≡ true → i < length H.components
    known i e = subst (λ m. i < m) fit.count (among_below (length f.components) i components entry.known (ap (is_among i) (sym names_are) ∙ e))

    last : (items : List Item) (t : List ℕ) → IsSent limits H heads (IsShown H done) now items t → Sends limits H (head ∷ heads) (IsShown H (components ++ done)) now (t ++ (head_text H head ++ plain_data huffman H head n))
    last items t st =
        let before = segments_of items in
        let tabs = huffman_in_force before in
        let coded = sequential_coded by head H.blocks in
        let all = scan_rows f head n in
        let after = scan_after_blocks f head n H.blocks st.blocks in
        let spoken : IsSpoken f head = plain_spoken f (colour_of H) done components fit.sequential entry in
        let given : Each (IsGiven tabs by) head.parts =
        each_map (IsGiven now.tables by) (IsGiven tabs by) head.parts (λ p h. (st.tables 0 p.dc ∙ h.0, st.tables 1 p.ac ∙ h.1)) (all_given by head.parts w.tables) in
        let quants = each_plain (λ i. i < length f.components) (λ (p : ScanPart). (q : QuantTable) × (quant_in_force before (component_at f p.component).quant ≡ Some q)) (colour_of H) components
        (λ i l. (quants_due H i, st.quants i (subst (λ m. i < m) fit.count l))) entry.known in
        let unsent : Each (λ i. quant_of f before i ≡ None) components =
        each_both (λ i. i < length f.components) (λ i. is_among i done ≡ false) (λ i. quant_of f before i ≡ None) components
        (λ i l e. st.first i (subst (λ m. i < m) fit.count l) ∙ ap (λ b. cond b (Some (quants_due H i)) None) (begun i ∙ e)) entry.known (each_new done components entry.new) in
        let admits = sequential_admitted f before heads done head by fit.sequential st.sent_heads begun (ap (any_of (λ i. is_among i done)) names_are ∙ entry.new) quants given
        (subst (λ l. Each (λ i. quant_of f before i ≡ None) l) (sym names_are) unsent) in
        let rule = rule_is st head fit.frame.distinct spoken admits in
        let told = head_in_is st head fit.frame.distinct spoken in
        let scan : scan_after limits before (head_contents (ids_of H) head) ≡ scan_of f tabs n head =
        scan_is st head fit.frame.distinct spoken ∙ ap (λ m. scan_of f tabs m head) st.interval in
        let plain : is_progressive (frame_of limits before).process ≡ false = ap (λ (g : Frame). is_progressive g.process) st.frame ∙ fit.sequential in
        let new = each_units (IsNewUnit (scan_of f tabs n head) st.blocks) f (head_components head)
        (λ i x y e. subst (λ (z : Scan). unit_at z st.blocks (place f i x y) ≡ new_unit i) scan
        (sequential_unit limits items st.blocks (head_contents (ids_of H) head) (place f i x y) st.leads rule plain (ap (λ (h : ScanHead). is_among i (head_components h)) told ∙ e))) in
        let sendable = each_units (IsRealSendable (scan_coding f (all_in_force by) head) H.blocks) f (head_components head)
        (λ i x y e real. fit.blocks i x y (known i e) real) in
        let distinct : is_distinct (head_components head) ≡ true = ap is_distinct names_are ∙ entry.distinct in
        let means = scan_means f by tabs n head st.blocks H.blocks fit.sequential (parts_given by tabs head given) distinct (leads_sizes limits items st.blocks st.leads) new sendable (scan_coded huffman f head n H.blocks fit.sequential (rows_writable f head n H.blocks sendable)) in
        let means' = subst (λ m. ScanMeans (scan_of f tabs m head) (map coded all) st.blocks after) (sym st.interval) means in
        let some : 1 ≤ length (units f (head_components head)) = subst (λ l. 1 ≤ length (units f l)) (sym names_are) (units_many f components fit.frame entry.some entry.known) in
        let rows = chunks_some (n * mcu_units f (head_components head)) (units f (head_components head)) some in
        let spells : SpellsIntervalsText 0 (map coded all) (plain_data huffman H head n) =
        subst (λ (r : List (List Place)). SpellsIntervalsText 0 (map coded r) (intervals_text 0 (map stuffed (map coded r)))) (sym rows.2) (intervals_text_spelled 0 (coded rows.0) (map coded rows.1)) in
        let shown : IsShown H (components ++ done) after = λ i x y l e real. show st i x y l (is_among i components) refl (sym (among_join i components done) ∙ e) real in
        (_, scan_step st (IsShown H (components ++ done)) head (map coded all) (plain_data huffman H head n) after fit.frame.distinct spoken admits spells means' shown)
      where
        show : (st : IsSent limits H heads (IsShown H done) now items t) (i x y : ℕ) → i < length H.components → (b : Bool) → is_among i components ≡ b → (is_among i components || is_among i done) ≡ true → is_real f i x y ≡ true
            → scan_after_blocks f head n H.blocks st.blocks i x y ≡ H.blocks i x y
        show st i x y l true e h real = real_after f head n H.blocks st.blocks i x y fit.frame (subst (λ m. i < m) (sym fit.count) l) (ap (is_among i) names_are ∙ e) real
        show st i x y l false e h real = other_after f head n H.blocks st.blocks i x y (ap (is_among i) names_are ∙ e) ∙ st.picture i x y l (sym (ap (λ b. b || is_among i done) e) ∙ h) real

-- THE SCRIPT

-- all that is left when the script ends
pub record IsAllSent (limits : Limits) (H : Meaning) (text : List ℕ) : Type 0 where
  pub heads : List ScanHead
  pub done : List ℕ
  pub w : Written
  pub sends : Sends limits H heads (IsShown H done) w text
  pub begun : (i : ℕ) → has_begun heads i ≡ is_among i done
  pub complete : all_of (λ i. is_among i done) (below (length (frame_of_meaning H).components)) ≡ true

begun_next : (heads : List ScanHead) (colour : Colour) (done components : List ℕ) → ((i : ℕ) → has_begun heads i ≡ is_among i done) → (i : ℕ) → has_begun (plain_head colour components ∷ heads) i ≡ is_among i (components ++ done)
begun_next heads colour done components h i =
    ap (λ l. is_among i l || has_begun heads i) (plain_components colour components) ∙ ap (λ b. is_among i components || b) (h i) ∙ sym (among_join i components done)

pub script_step : (huffman : Huffman) (limits : Limits) (H : Meaning) (restart : Restart) (heads : List ScanHead) (done : List ℕ) (w : Written) (text : List ℕ) (script : List Entry) → IsFit H → IsRestart restart → is_script_after (frame_of_meaning H) done script ≡ true
    → ((i : ℕ) → has_begun heads i ≡ is_among i done) → Sends limits H heads (IsShown H done) w text → IsAllSent limits H (text ++ scans_text huffman H restart w script)
unfolding scans_text
script_step huffman limits H restart heads done w text [] fit small e begun s =
    record { heads = heads; done = done; w = w; sends = subst (λ t. Sends limits H heads (IsShown H done) w t) (sym (append-nil text)) s; begun = begun; complete = e }
script_step huffman limits H restart heads done w text (entry ∷ script) fit small e begun s =
    let f = frame_of_meaning H in
    let b = both (is_sequential_entry f done entry) (is_script_after f (entry.components ++ done) script) e in
    let head = plain_head (colour_of H) entry.components in
    let n = interval_of f head restart in
    let next = plain_written huffman H head n w in
    let here = plain_scan huffman H head n w in
    let k = entry_step huffman limits H restart heads done w text entry.components fit small (entry_is f done entry b.0) begun s in
    let all = script_step huffman limits H restart (head ∷ heads) (entry.components ++ done) next (text ++ here) script fit small b.1 (begun_next heads (colour_of H) done entry.components begun) k in
    subst (λ t. IsAllSent limits H t) (append_assoc text here (scans_text huffman H restart next script) ∙ ap (λ t. text ++ t) (sym (scans_are huffman H restart w entry script fit.sequential))) all
