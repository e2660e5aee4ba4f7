-- What a scan adds to what was written, and the data of its intervals.
use Rattle.std.proofs.Common.{◌≡◌, ℕ, ◌+◌, ◌%◌, Bool, true, false, cond, List, [], ◌∷◌, ◌++◌, refl, sym, ap, ◌∙◌, subst, arith, Option, Some, None}
use Rattle.std.specs.Prelude.{◌||◌, map, Ok}
use Rattle.std.proofs.lemmas.List.{append_assoc}
use Rattle.jpg_spec.specs.Bits.{IsMarkerCode, stuffed}
use Rattle.jpg_spec.specs.Lists.{is_distinct}
use Rattle.jpg_spec.specs.Geometry.{component_at}
use Rattle.jpg_spec.specs.FrameHeader.{identifiers}
use Rattle.jpg_spec.specs.Segments.{QuantTable, ScanHead}
use Rattle.jpg_spec.specs.Scan.{Blocks, scan_of, ScanMeans}
use Rattle.jpg_spec_write.specs.ScanText.{intervals_text}
use Rattle.jpg_spec.specs.Meaning.{Meaning}
use Rattle.jpg_spec.specs.ScanContents.{scan_header}
use Rattle.jpg_spec.specs.QuantContents.{◌>>=◌}
use Rattle.jpg_spec.specs.Markers.{code_fault, code_fault_if}
use Rattle.jpg_spec.specs.InForce.{parsed_or, first_some, no_head, head_in, frame_of, huffman_in_force, quant_in_force, restart_in_force, heads_of}
use Rattle.jpg_spec.specs.History.{names, has_begun, quant_of, admitted}
use Rattle.jpg_spec.specs.Items.{Item, scan, segments_of, SpellsFront, SpellsIntervalsText, fault_in, contents_rule}
use Rattle.jpg_spec.specs.FileMeaning.{scan_after}
use Rattle.jpg_spec_write.specs.FileText.{Written, segment_text, frame_of_meaning, head_text}
use Rattle.jpg_spec.specs.declared.frame.Limits.{Limits}
use Rattle.jpg_spec.proofs.Basics.Rows.{map_map}
use Rattle.jpg_spec.proofs.Bits.Packing.{data_spelled}
use Rattle.jpg_spec_write.proofs.KeptMarkers.{text_spells}
use Rattle.jpg_spec.proofs.Writing.WrittenHead.{IsSpoken, head_contents, head_spoken, head_short}
use Rattle.jpg_spec_write.proofs.WrittenState.{IsSent, quants_due}

-- THE DATA of intervals, with RST0 to RST7 between them

restart_marker : (turn : ℕ) → IsMarkerCode (0xd0 + turn % 8)
restart_marker turn = (λ e. omega (arith, e), λ e. omega (arith, e))

pub intervals_text_spelled : (turn : ℕ) (first : List ℕ) (intervals : List (List ℕ)) → SpellsIntervalsText turn (first ∷ intervals) (intervals_text turn (map stuffed (first ∷ intervals)))
intervals_text_spelled turn first [] = data_spelled first
intervals_text_spelled turn first (next ∷ intervals) = (
  stuffed first,
  255 ∷ (0xd0 + turn % 8) ∷ [],
  intervals_text (turn + 1) (map stuffed (next ∷ intervals)),
  sym (append_assoc (stuffed first) (255 ∷ (0xd0 + turn % 8) ∷ []) (intervals_text (turn + 1) (map stuffed (next ∷ intervals)))),
  data_spelled first,
  (0, refl, restart_marker turn),
  intervals_text_spelled (turn + 1) next intervals,
)

-- THE SCAN

abbrev pub ids_of : Meaning → List ℕ
ids_of H = identifiers (frame_of_meaning H).components

ids_are : (H : Meaning) → ids_of H ≡ map (λ c. c.id) H.components
ids_are H = map_map (λ c. c.id) (λ c. _) H.components

pub head_text_is : (H : Meaning) (head : ScanHead) → head_text H head ≡ segment_text 0xda (head_contents (ids_of H) head)
head_text_is H head = ap (λ ids. segment_text 0xda (head_contents ids head)) (sym (ids_are H))

first_step : (b c : Bool) (o : Option QuantTable) (q : QuantTable) (r : Option QuantTable) → r ≡ Some q → o ≡ cond b (Some q) None → first_some o (cond c r None) ≡ cond (c || b) (Some q) None
first_step true true o q r e h = ap (λ x. first_some x r) h
first_step true false o q r e h = ap (λ x. first_some x None) h
first_step false true o q r e h = ap (λ x. first_some x r) h ∙ e
first_step false false o q r e h = ap (λ x. first_some x None) h

-- A SCAN after what was sent
module _ {limits : Limits} {H : Meaning} {heads : List ScanHead} {P : Blocks → Type 0} {w : Written} {items : List Item} {text : List ℕ} (s : IsSent limits H heads P w items text) where
  pub rule_is : (head : ScanHead) → is_distinct (ids_of H) ≡ true → IsSpoken (frame_of_meaning H) head
      → admitted (frame_of_meaning H) (segments_of items) head ≡ Ok head → contents_rule limits (segments_of items) 0xda (head_contents (ids_of H) head) ≡ None
  rule_is head distinct spoken admits =
      let f = frame_of_meaning H in
      let before = segments_of items in
      let contents = head_contents (ids_of H) head in
      ap (λ g. fault_in (scan_header g contents >>= admitted g before)) s.frame ∙ ap (λ r. fault_in (r >>= admitted f before)) (head_spoken f head distinct spoken) ∙ ap fault_in admits

  pub head_in_is : (head : ScanHead) → is_distinct (ids_of H) ≡ true → IsSpoken (frame_of_meaning H) head → head_in (frame_of limits (segments_of items)) (head_contents (ids_of H) head) ≡ head
  head_in_is head distinct spoken =
      ap (λ g. head_in g (head_contents (ids_of H) head)) s.frame ∙ ap (parsed_or no_head) (head_spoken (frame_of_meaning H) head distinct spoken)

  pub scan_is : (head : ScanHead) → is_distinct (ids_of H) ≡ true → IsSpoken (frame_of_meaning H) head
      → scan_after limits (segments_of items) (head_contents (ids_of H) head) ≡ scan_of (frame_of_meaning H) (huffman_in_force (segments_of items)) (restart_in_force (segments_of items)) head
  scan_is head distinct spoken =
      let before = segments_of items in
      let contents = head_contents (ids_of H) head in
      ap (λ g. scan_of g (huffman_in_force before) (restart_in_force before) (head_in g contents)) s.frame
      ∙ ap (scan_of (frame_of_meaning H) (huffman_in_force before) (restart_in_force before)) (ap (parsed_or no_head) (head_spoken (frame_of_meaning H) head distinct spoken))

  pub scan_step : (Q : Blocks → Type 0) (head : ScanHead) (intervals : List (List ℕ)) (coded : List ℕ) (after : Blocks) → is_distinct (ids_of H) ≡ true → IsSpoken (frame_of_meaning H) head
      → admitted (frame_of_meaning H) (segments_of items) head ≡ Ok head → SpellsIntervalsText 0 intervals coded
      → ScanMeans (scan_of (frame_of_meaning H) (huffman_in_force (segments_of items)) (restart_in_force (segments_of items)) head) intervals s.blocks after → Q after
      → IsSent limits H (head ∷ heads) Q w (scan (head_contents (ids_of H) head) intervals ∷ items) (text ++ (head_text H head ++ coded))
  scan_step Q head intervals coded after distinct spoken admits spells means holds =
      let f = frame_of_meaning H in
      let before = segments_of items in
      let contents = head_contents (ids_of H) head in
      let told : scan_header f contents ≡ Ok head = head_spoken f head distinct spoken in
      let here : head_in f contents ≡ head = ap (parsed_or no_head) told in
      let rule = rule_is head distinct spoken admits in
      let stands : code_fault before 0xda ≡ None = ap (λ b. code_fault_if b 0xda) s.framed in
      let same = scan_is head distinct spoken in
      let whole : text ++ (segment_text 0xda contents ++ coded) ≡ text ++ (head_text H head ++ coded) = ap (λ t. text ++ (t ++ coded)) (sym (head_text_is H head)) in
      let marker : IsMarkerCode 0xda = (λ e. omega (arith, e), λ e. omega (arith, e)) in
      let front : SpellsFront (scan contents intervals ∷ items) (text ++ (segment_text 0xda contents ++ coded)) =
      (text, segment_text 0xda contents ++ coded, refl, s.spelled, (segment_text 0xda contents, coded, refl, text_spells 0xda contents marker (head_short f (ids_of H) head spoken), spells)) in
      record {
        blocks = after;
        spelled = subst (λ t. SpellsFront (scan contents intervals ∷ items) t) whole front;
        leads = (s.blocks, stands, rule, s.leads, subst (λ z. ScanMeans z intervals s.blocks after) (sym same) means);
        frame = s.frame;
        framed = s.framed;
        kept = s.kept;
        quants = s.quants;
        first = λ i l. ap (λ h. first_some (quant_of f before i) (cond (names h i) (quant_in_force before (component_at f i).quant) None)) here
            ∙ first_step (has_begun heads i) (names head i) (quant_of f before i) (quants_due H i) (quant_in_force before (component_at f i).quant) (s.quants i l) (s.first i l);
        sent_heads = ap (λ h. h ∷ heads_of f before) here ∙ ap (λ hs. head ∷ hs) s.sent_heads;
        tables = s.tables;
        interval = s.interval;
        picture = holds;
      }
