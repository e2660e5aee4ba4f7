-- The state after the beginning of a file was written.
use Rattle.std.proofs.Common.{◌≡◌, ℕ, zero, suc, ◌<◌, ◌≤◌, Bool, true, false, cond, List, [], ◌∷◌, ◌++◌, length, get_or, refl, sym, ap, ◌∙◌, subst, arith, Some, None, ◌==◌, ◌&&◌}
use Rattle.std.specs.Prelude.{◌||◌, map, flat_map, reverse, find, option_map, option_and_then, unwrap_or}
use Rattle.std.specs.List.{All}
use Rattle.std.proofs.lemmas.Bool.Decides.{nat_tests}
use Rattle.std.proofs.lemmas.List.{append_assoc, append-nil, reverse-reverse, length-map}
use Rattle.std.proofs.lemmas.List.Elements.{All-head, All-tail}
use Rattle.jpg_spec.specs.Lists.{any_of, are_equal}
use Rattle.jpg_spec.specs.Geometry.{component_at, no_component}
use Rattle.jpg_spec.specs.FrameHeader.{AreLimits}
use Rattle.jpg_spec.specs.FrameContents.{frame_header}
use Rattle.jpg_spec.specs.Segments.{QuantTable, IsQuantiser}
use Rattle.jpg_spec.specs.Meaning.{Meaning, PictureComponent, component_of}
use Rattle.jpg_spec.specs.QuantContents.{quant_tables, is_zero_quant}
use Rattle.jpg_spec.specs.HuffContents.{HuffmanDefinition, huffman_tables}
use Rattle.jpg_spec.specs.ScanContents.{restart_interval}
use Rattle.jpg_spec.specs.Scan.{Blocks}
use Rattle.jpg_spec.specs.Markers.{Segment, soi, SpellsSegments, Pass, code_fault, code_fault_if, has_frame, has_scan, kept_after}
use Rattle.jpg_spec.specs.InForce.{parsed_list, parsed_some, parsed_or, first_some, frame_after, frame_of, no_frame, heads_of, huffmans_defined, huffman_in_force, quants_defined, quant_in_force, restart_in_force}
use Rattle.jpg_spec.specs.History.{quant_of}
use Rattle.jpg_spec.specs.Items.{fault_in}
use Rattle.jpg_spec.specs.FileMeaning.{no_blocks}
use Rattle.jpg_spec.specs.Header.{header_rule}
use Rattle.jpg_spec_write.specs.FileText.{nothing_written, segment_text, kept_text, quants_text, quant_text, distinct_quants, slot_in, sof_code, front_text, frame_of_meaning}
use Rattle.jpg_spec_write.specs.WrittenFile.{IsHeaded, HasQuants, IsKeptMarker}
use Rattle.jpg_spec.specs.declared.frame.Process.{Process}
use Rattle.jpg_spec.specs.declared.frame.Process.TheVariants.{Baseline, Extended, Progressive}
use Rattle.jpg_spec.specs.declared.frame.Component.{Component}
use Rattle.jpg_spec.specs.declared.frame.Limits.{Limits}
use Rattle.jpg_spec.proofs.Basics.Rows.{all_reverse}
use Rattle.jpg_spec.proofs.Basics.Common.{equal_itself, or_right}
use Rattle.jpg_spec.proofs.Headers.HeadersOnce.{items_of, segments_of_items}
use Rattle.jpg_spec.proofs.Headers.BeforeScans.{no_quant, no_heads, front_items, header_leads}
use Rattle.jpg_spec_write.proofs.KeptMarkers.{text_after, kept_spelled}
use Rattle.jpg_spec.proofs.Segments.KeptMarkers.{no_frame_in, no_scan_in, no_restart_in, all_kept}
use Rattle.jpg_spec.proofs.Segments.QuantsInForce.{IsQuants, AreTwoBytes, two_bytes_each}
use Rattle.jpg_spec_write.proofs.FrameCodes.{code_is, frame_code}
use Rattle.jpg_spec.proofs.Basics.Each.{Each}
use Rattle.jpg_spec_write.proofs.WrittenQuants.{slot_contents, slot_told, slot_short, distinct_has, distinct_each, each_in, SlotTable, IsSlotOf, has_table, slot_found}
use Rattle.jpg_spec.proofs.Writing.WrittenQuants.{is_in}
use Rattle.jpg_spec.proofs.Writing.WrittenFront.{frame_is, markers_pass}
use Rattle.jpg_spec_write.proofs.WrittenFront.{frame_component, frame_contents, frame_told_is, frame_short, markers_passed, no_tables}
use Rattle.jpg_spec_write.proofs.WrittenState.{Sends, quants_due}
use Rattle.jpg_spec.proofs.Places.PlacesFound.{or_first}

-- THE SEGMENTS before the frame header

record IsFront (limits : Limits) (H : Meaning) (tables : List SlotTable) (ys : List Segment) (text : List ℕ) : Type 0 where
  spelled : SpellsSegments ys text
  passes : Pass (header_rule limits) ys
  frame : has_frame ys ≡ false
  scan : has_scan ys ≡ false
  kept : kept_after ys ≡ reverse H.kept
  quants : quants_defined ys ≡ tables
  huffman : huffmans_defined ys ≡ []
  restart : restart_in_force ys ≡ 0

kept_front : (limits : Limits) (H : Meaning) → IsHeaded limits H → IsFront limits H [] (reverse H.kept) (soi ++ kept_text H.kept)
kept_front limits H is =
    let all : All IsKeptMarker (reverse H.kept) = all_reverse IsKeptMarker H.kept (0, []) is.markers in
    let are = markers_passed (reverse H.kept) all in
    let none = no_tables (reverse H.kept) all in
    record {
      spelled = subst (λ k. SpellsSegments (reverse H.kept) (soi ++ kept_text k)) (reverse-reverse H.kept) (kept_spelled (reverse H.kept) are);
      passes = markers_pass limits (reverse H.kept) are is.count;
      frame = no_frame_in (reverse H.kept) are;
      scan = no_scan_in (reverse H.kept) are;
      kept = all_kept (reverse H.kept) are;
      quants = none.0;
      huffman = none.1;
      restart = no_restart_in (reverse H.kept) are;
    }

-- a table that may be written in its slot
abbrev pub IsTableFit : List QuantTable → QuantTable → Type 0
IsTableFit all t = IsQuants t × AreTwoBytes t × (slot_in all t ≤ 3)

quant_step : (limits : Limits) (H : Meaning) (tables : List SlotTable) (ys : List Segment) (text : List ℕ) (slot : ℕ) (t : QuantTable) → slot ≤ 3 → IsQuants t → AreTwoBytes t → IsFront limits H tables ys text
    → IsFront limits H ((slot, t) ∷ tables) ((0xdb, slot_contents slot t) ∷ ys) (text ++ segment_text 0xdb (slot_contents slot t))
quant_step limits H tables ys text slot t few is are s =
    let told = slot_told slot t few is are in
    record {
      spelled = text_after ys text 0xdb (slot_contents slot t) s.spelled (λ e. omega (arith, e), λ e. omega (arith, e)) (λ e. omega (arith, e)) (slot_short slot t is);
      passes = (refl, ap fault_in told, s.passes);
      frame = s.frame;
      scan = s.scan;
      kept = s.kept;
      quants = ap (λ r. reverse (parsed_list r) ++ quants_defined ys) told ∙ ap (λ l. (slot, t) ∷ l) s.quants;
      huffman = s.huffman;
      restart = s.restart;
    }

abbrev pub pairs_on : List QuantTable → List QuantTable → List SlotTable → List SlotTable
pairs_on all [] acc = acc
pairs_on all (t ∷ ts) acc = pairs_on all ts ((slot_in all t, t) ∷ acc)

quants_step : (limits : Limits) (H : Meaning) (all ts : List QuantTable) (tables : List SlotTable) (ys : List Segment) (text : List ℕ) → Each (IsTableFit all) ts → IsFront limits H tables ys text
    → (zs : List Segment) × IsFront limits H (pairs_on all ts tables) zs (text ++ flat_map (λ t. quant_text (slot_in all t) t) ts)
quants_step limits H all [] tables ys text h s = (ys, subst (λ x. IsFront limits H tables ys x) (sym (append-nil text)) s)
quants_step limits H all (t ∷ ts) tables ys text h s =
    let here = quant_text (slot_in all t) t in
    let k = quants_step limits H all ts ((slot_in all t, t) ∷ tables) ((0xdb, slot_contents (slot_in all t) t) ∷ ys) (text ++ here) h.1 (quant_step limits H tables ys text (slot_in all t) t (h.0).2 (h.0).0 (h.0).1 s) in
    (k.0, subst (λ x. IsFront limits H (pairs_on all (t ∷ ts) tables) k.0 x) (append_assoc text here (flat_map (λ t. quant_text (slot_in all t) t) ts)) k.1)

pairs_keep : (all ts : List QuantTable) (acc : List SlotTable) (q : QuantTable) → has_table q acc ≡ true → has_table q (pairs_on all ts acc) ≡ true
pairs_keep all [] acc q h = h
pairs_keep all (t ∷ ts) acc q h = pairs_keep all ts ((slot_in all t, t) ∷ acc) q (or_right (are_equal q t) (has_table q acc) h)

pairs_have : (all ts : List QuantTable) (acc : List SlotTable) (q : QuantTable) → is_in q ts ≡ true → has_table q (pairs_on all ts acc) ≡ true
pairs_have all [] acc q h = cc
pairs_have all (t ∷ ts) acc q h = by (are_equal q t) refl h (λ k. pairs_have all ts ((slot_in all t, t) ∷ acc) q k)
  where
    by : (b : Bool) → are_equal q t ≡ b → (b || is_in q ts) ≡ true → (is_in q ts ≡ true → has_table q (pairs_on all ts ((slot_in all t, t) ∷ acc)) ≡ true) → has_table q (pairs_on all ts ((slot_in all t, t) ∷ acc)) ≡ true
    by true s k later = pairs_keep all ts ((slot_in all t, t) ∷ acc) q (or_first (are_equal q t) (has_table q acc) s)
    by false s k later = later k

pairs_each : (all ts : List QuantTable) (acc : List SlotTable) → Each (λ t. is_in t all ≡ true) ts → Each (IsSlotOf all) acc → Each (IsSlotOf all) (pairs_on all ts acc)
pairs_each all [] acc h k = k
pairs_each all (t ∷ ts) acc h k = pairs_each all ts ((slot_in all t, t) ∷ acc) h.1 ((refl, h.0), k)

-- THE TABLES of the components

quants_fit : (all : List QuantTable) (cs : List PictureComponent) (of : PictureComponent → Component) → ((c : PictureComponent) → (of c).quant ≡ slot_in all c.quants) → All HasQuants cs → All (λ c. c.quant ≤ 3) (map of cs) → Each (IsTableFit all) (map (λ c. c.quants) cs)
quants_fit all [] of same q s = tt
quants_fit all (c ∷ cs) of same q s =
    let h = All-head HasQuants c cs q in
    let few = All-head (λ c. c.quant ≤ 3) (of c) (map of cs) s in
    let is : IsQuants c.quants = record { long = h.0; some = none c.quants h.1 } in
    ((is, two_bytes_each c.quants (λ k d l. (h.1 k d l).1), subst (λ n. n ≤ 3) (same c) few), quants_fit all cs of same (All-tail HasQuants c cs q) (All-tail (λ c. c.quant ≤ 3) (of c) (map of cs) s))
  where
    none : (qs : List ℕ) → All IsQuantiser qs → any_of is_zero_quant qs ≡ false
    none [] a = refl
    none (x ∷ qs) a = ap (λ b. b || any_of is_zero_quant qs) (some x (All-head IsQuantiser x qs a).0) ∙ none qs (All-tail IsQuantiser x qs a)
      where
        some : (x : ℕ) → 1 ≤ x → (x == 0) ≡ false
        some x h = grind (arith, nat_tests, h)

table_in : (cs : List PictureComponent) (i : ℕ) (d : PictureComponent) → i < length cs → is_in (get_or cs i d).quants (map (λ c. c.quants) cs) ≡ true
table_in [] i d h = absurd (omega (arith, h))
table_in (c ∷ cs) zero d h = or_first (are_equal c.quants c.quants) (is_in c.quants (map (λ c. c.quants) cs)) (equal_itself c.quants)
table_in (c ∷ cs) (suc i) d h = or_right (are_equal (get_or cs i d).quants c.quants) (is_in (get_or cs i d).quants (map (λ c. c.quants) cs)) (table_in cs i d (omega (arith, h)))

component_is : (H : Meaning) (cs : List PictureComponent) (i : ℕ) (d : PictureComponent) (e : Component) → i < length cs → get_or (map (frame_component H) cs) i e ≡ frame_component H (get_or cs i d)
component_is H [] i d e h = absurd (omega (arith, h))
component_is H (c ∷ cs) zero d e h = refl
component_is H (c ∷ cs) (suc i) d e h = component_is H cs i d e (omega (arith, h))

pub component_at_is : (H : Meaning) (i : ℕ) → i < length H.components → component_at (frame_of_meaning H) i ≡ frame_component H (component_of H i)
component_at_is H i h = component_is H H.components i (record { id = 0; h = 1; v = 1; quants = [] }) no_component h

-- THE BEGINNING

no_huffman : (p : Process) → (sof_code p == 0xc4) ≡ false
no_huffman Baseline = refl
no_huffman Extended = refl
no_huffman Progressive = refl

pub starts : (limits : Limits) (H : Meaning) (P : Blocks → Type 0) → AreLimits limits → IsHeaded limits H → P no_blocks → Sends limits H [] P nothing_written (front_text H)
starts limits H P limited is holds =
    let f = frame_of_meaning H in
    let frame = frame_is limits f f limited is.frame in
    let all = distinct_quants H in
    let owns = map (λ (c : PictureComponent). c.quants) H.components in
    let fit : Each (IsTableFit all) all = distinct_each (IsTableFit all) [] owns (quants_fit all H.components (frame_component H) (λ c. refl) is.quants frame.slots) in
    let among : Each (λ t. is_in t all ≡ true) all = each_in all all (λ q e. e) in
    let k = quants_step limits H all all [] (reverse H.kept) (soi ++ kept_text H.kept) fit (kept_front limits H is) in
    let ys = k.0 in
    let front = k.1 in
    let p = H.process in
    let code = frame_code p in
    let contents = frame_contents H in
    let zs : List Segment = (sof_code p, contents) ∷ ys in
    let same = sym (segments_of_items zs) in
    let told = frame_told_is limits H frame is.frame in
    let text = ((soi ++ kept_text H.kept) ++ quants_text H) ++ segment_text (sof_code p) contents in
    let spelled : SpellsSegments zs text = text_after ys ((soi ++ kept_text H.kept) ++ quants_text H) (sof_code p) contents front.spelled code.marker code.eoi (frame_short H (subst (λ n. n ≤ 4) (count_is H) frame.count_high)) in
    let stands : code_fault ys (sof_code p) ≡ None = ap (λ b. code_fault_if b (sof_code p)) front.frame ∙ code.allowed in
    let passes : Pass (header_rule limits) zs = (stands, code.rule limits ys contents ∙ ap fault_in told, front.passes) in
    let scan : has_scan zs ≡ false = ap (λ b. b || has_scan ys) code.scan ∙ front.scan in
    let after : frame_after limits zs ≡ Some f =
    ap (λ o. first_some (option_and_then (λ process. parsed_some (frame_header limits process contents)) o) (frame_after limits ys)) (code_is p) ∙ ap (λ t. first_some (parsed_some t) (frame_after limits ys)) told in
    let tables : quants_defined zs ≡ pairs_on all all [] = ap (λ b. cond b (reverse (parsed_list (quant_tables contents))) [] ++ quants_defined ys) code.quant ∙ front.quants in
    let huffman : huffmans_defined zs ≡ [] = ap (λ b. cond b (reverse (parsed_list (huffman_tables contents))) [] ++ huffmans_defined ys) (no_huffman p) ∙ front.huffman in
    let found : (i : ℕ) → i < length H.components → quant_in_force zs (component_at f i).quant ≡ Some (quants_due H i) = λ i h.
    (let q = quants_due H i in
    let known : is_in q all ≡ true = distinct_has [] owns q (table_in H.components i (record { id = 0; h = 1; v = 1; quants = [] }) h) in
    ap (λ (c : Component). quant_in_force zs c.quant) (component_at_is H i h)
    ∙ ap (λ ts. option_map (λ (d : SlotTable). d.1) (find (λ (d : SlotTable). d.0 == slot_in all q) ts)) tables
    ∙ slot_found all q (pairs_on all all []) known (pairs_each all all [] among tt) (pairs_have all all [] q known)) in (
      items_of zs,
      record {
        blocks = no_blocks;
        spelled = front_items zs text scan spelled;
        leads = header_leads limits zs scan passes;
        frame = subst (λ xs. frame_of limits xs ≡ f) same (ap (λ o. unwrap_or o no_frame) after);
        framed = subst (λ xs. has_frame xs ≡ true) same (ap (λ b. b || has_frame ys) code.frame);
        kept = subst (λ xs. kept_after xs ≡ reverse H.kept) same (ap (λ b. cond b ((sof_code p, contents) ∷ kept_after ys) (kept_after ys)) (code.kept ys contents) ∙ front.kept);
        quants = subst (λ xs. (i : ℕ) → i < length H.components → quant_in_force xs (component_at f i).quant ≡ Some (quants_due H i)) same found;
        first = subst (λ xs. (i : ℕ) → i < length H.components → quant_of f xs i ≡ None) same (λ i h. no_quant f zs i scan);
        sent_heads = subst (λ xs. heads_of f xs ≡ []) same (no_heads f zs scan);
        tables = subst (λ xs. (c s : ℕ) → huffman_in_force xs c s ≡ None) same (λ c s. ap (λ ds. option_map (λ (d : HuffmanDefinition). d.table) (find (λ (d : HuffmanDefinition). d.class == c && d.slot == s) ds)) huffman);
        interval = subst (λ xs. restart_in_force xs ≡ 0) same (ap (λ b. cond b (parsed_or 0 (restart_interval contents)) (restart_in_force ys)) code.restart ∙ front.restart);
        picture = holds;
      },
    )
  where
    count_is : (H : Meaning) → length (frame_of_meaning H).components ≡ length H.components
    count_is H = length-map H.components (frame_component H)
