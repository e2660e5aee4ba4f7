-- The state after some of a file was written, and the effect of a segment.
use Rattle.std.proofs.Common.{◌≡◌, ℕ, ◌+◌, ◌/◌, ◌%◌, ◌<◌, Bool, true, false, cond, List, [], ◌∷◌, ◌++◌, length, refl, sym, ap, ◌∙◌, subst, arith, lit<, Option, Some, None, ◌==◌, ◌&&◌}
use Rattle.std.specs.Prelude.{reverse, find, Ok, option_map}
use Rattle.std.specs.Int.{to_be_bytes, w16}
use Rattle.std.proofs.Math.Path.{fun_ext}
use Rattle.std.proofs.lemmas.List.{append_assoc, append-nil}
use Rattle.jpg_spec.specs.Bits.{IsMarkerCode}
use Rattle.jpg_spec.specs.Lists.{are_equal}
use Rattle.jpg_spec.specs.Faults.{Parsed}
use Rattle.jpg_spec.specs.Geometry.{component_at}
use Rattle.jpg_spec.specs.Segments.{HuffmanTable, QuantTable, ScanHead, two_bytes}
use Rattle.jpg_spec.specs.Scan.{Blocks}
use Rattle.jpg_spec.specs.Meaning.{Meaning, component_of}
use Rattle.jpg_spec.specs.HuffContents.{HuffmanDefinition}
use Rattle.jpg_spec.specs.ScanContents.{restart_interval}
use Rattle.jpg_spec.specs.Markers.{has_frame, kept_after}
use Rattle.jpg_spec.specs.InForce.{parsed_list, parsed_or, frame_of, huffmans_defined, huffman_in_force, quant_in_force, restart_in_force, heads_of}
use Rattle.jpg_spec.specs.History.{has_begun, quant_of}
use Rattle.jpg_spec.specs.Items.{Item, segment, segments_of, SpellsFront, fault_in}
use Rattle.jpg_spec.specs.FileMeaning.{Leads}
use Rattle.jpg_spec_write.specs.FileText.{Written, segment_text, frame_of_meaning, holds_table, with_table, tables_text, tables_given}
use Rattle.jpg_spec.specs.declared.frame.Limits.{Limits}
use Rattle.jpg_spec_write.proofs.KeptMarkers.{text_spells}
use Rattle.jpg_spec.proofs.Basics.Each.{Each}
use Rattle.jpg_spec.proofs.Basics.Common.{both, same_of, eq_swap}
use Rattle.jpg_spec.proofs.Writing.WrittenState.{table_contents, IsTellable}

-- THE STATE: the items so far, their text, and their results: their heads, the newest first, and what holds of the
-- blocks.

abbrev pub quants_due : Meaning → ℕ → QuantTable
quants_due H i = (component_of H i).quants

pub record IsSent (limits : Limits) (H : Meaning) (heads : List ScanHead) (P : Blocks → Type 0) (w : Written) (items : List Item) (text : List ℕ) : Type 0 where
  pub blocks : Blocks
  pub spelled : SpellsFront items text
  pub leads : Leads limits items blocks
  pub frame : frame_of limits (segments_of items) ≡ frame_of_meaning H
  pub framed : has_frame (segments_of items) ≡ true
  pub kept : kept_after (segments_of items) ≡ reverse H.kept
  pub quants : (i : ℕ) → i < length H.components → quant_in_force (segments_of items) (component_at (frame_of_meaning H) i).quant ≡ Some (quants_due H i)
  pub first : (i : ℕ) → i < length H.components → quant_of (frame_of_meaning H) (segments_of items) i ≡ cond (has_begun heads i) (Some (quants_due H i)) None
  pub sent_heads : heads_of (frame_of_meaning H) (segments_of items) ≡ heads
  pub tables : (c s : ℕ) → huffman_in_force (segments_of items) c s ≡ w.tables c s
  pub interval : restart_in_force (segments_of items) ≡ w.interval
  pub picture : P blocks

item_after : (items : List Item) (text : List ℕ) (code : ℕ) (contents : List ℕ) → SpellsFront items text → IsMarkerCode code → (code ≡ 0xd9 → ⊥) → (code ≡ 0xda → ⊥) → length contents + 2 < 65536
    → SpellsFront (segment code contents ∷ items) (text ++ segment_text code contents)
item_after items text code contents s m a b l = (text, segment_text code contents, refl, s, (text_spells code contents m l, a, b))

-- A HUFFMAN TABLE

table_found : (a b : Bool) (table : HuffmanTable) (d : HuffmanDefinition) (later : Option HuffmanDefinition) (o : Option HuffmanTable) → a ≡ b → d.table ≡ table → option_map (λ (d : HuffmanDefinition). d.table) later ≡ o
    → option_map (λ (d : HuffmanDefinition). d.table) (cond a (Some d) later) ≡ cond b (Some table) o
table_found true true table d later o e t h = ap (λ x. (let r : Option HuffmanTable = Some x in r)) t
table_found false false table d later o e t h = h
table_found true false table d later o e t h = cc
table_found false true table d later o e t h = cc

-- A TABLE that is in force already

pub equal_lists : (a b : List ℕ) → are_equal a b ≡ true → a ≡ b
equal_lists [] [] e = refl
equal_lists [] (y ∷ b) e = cc
equal_lists (x ∷ a) [] e = cc
equal_lists (x ∷ a) (y ∷ b) e =
    let k = both (x == y) (are_equal a b) e in
    ap (λ n. n ∷ a) (same_of x y k.0) ∙ ap (λ l. y ∷ l) (equal_lists a b k.1)

pub holds_is : (o : Option HuffmanTable) (table : HuffmanTable) → holds_table o table ≡ true → o ≡ Some table
holds_is None table e = cc
holds_is (Some old) table e =
    let k = both (are_equal old.counts table.counts) (are_equal old.symbols table.symbols) e in
    ap (λ (c : List ℕ). (let r : Option HuffmanTable = Some (record { counts = c; symbols = old.symbols }) in r)) (equal_lists old.counts table.counts k.0)
    ∙ ap (λ (x : List ℕ). (let r : Option HuffmanTable = Some (record { counts = table.counts; symbols = x }) in r)) (equal_lists old.symbols table.symbols k.1)

held_by : (given : ℕ → ℕ → Option HuffmanTable) (class slot : ℕ) (table : HuffmanTable) → given class slot ≡ Some table → (c n : ℕ) → given c n ≡ with_table given class slot table c n
held_by given class slot table e c n = by (c == class && n == slot) refl
  where
    by : (b : Bool) → (c == class && n == slot) ≡ b → given c n ≡ cond b (Some table) (given c n)
    by true h = let k = both (c == class) (n == slot) h in ap (λ m. given m n) (same_of c class k.0) ∙ ap (λ m. given class m) (same_of n slot k.1) ∙ e
    by false h = refl

held : (given : ℕ → ℕ → Option HuffmanTable) (class slot : ℕ) (table : HuffmanTable) → given class slot ≡ Some table → given ≡ with_table given class slot table
held given class slot table e = fun_ext (λ c. fun_ext (λ n. held_by given class slot table e c n))

-- ALL TABLES that a scan needs

abbrev pub Sends : Limits → Meaning → List ScanHead → (Blocks → Type 0) → Written → List ℕ → Type 0
Sends limits H heads P w text = (items : List Item) × IsSent limits H heads P w items text

module _ (limits : Limits) (H : Meaning) (heads : List ScanHead) (P : Blocks → Type 0) where
  -- one that isn't
  table_step : (given : ℕ → ℕ → Option HuffmanTable) (v : ℕ) (items : List Item) (text : List ℕ) (class slot : ℕ) (table : HuffmanTable) → IsTellable class slot table
      → IsSent limits H heads P (record { tables = given; interval = v }) items text
      → IsSent limits H heads P (record { tables = with_table given class slot table; interval = v }) (segment 0xc4 (table_contents class slot table) ∷ items) (text ++ segment_text 0xc4 (table_contents class slot table))
  table_step given v items text class slot table t s = record {
    blocks = s.blocks;
    spelled = item_after items text 0xc4 (table_contents class slot table) s.spelled (λ e. omega (arith, e), λ e. omega (arith, e)) (λ e. omega (arith, e)) (λ e. omega (arith, e)) t.short;
    leads = (refl, ap fault_in t.told, s.leads);
    frame = s.frame;
    framed = s.framed;
    kept = s.kept;
    quants = s.quants;
    first = s.first;
    sent_heads = s.sent_heads;
    tables = λ c n. found c n;
    interval = s.interval;
    picture = s.picture;
  }
    where
      found : (c n : ℕ) → huffman_in_force ((0xc4, table_contents class slot table) ∷ segments_of items) c n ≡ with_table given class slot table c n
      found c n =
          let d : HuffmanDefinition = record { class = class; slot = slot; table = table } in
          let test : HuffmanDefinition → Bool = λ d. d.class == c && d.slot == n in
          let older = huffmans_defined (segments_of items) in
          let keys : (class == c && slot == n) ≡ (c == class && n == slot) = ap (λ b. b && slot == n) (eq_swap class c) ∙ ap (λ b. c == class && b) (eq_swap slot n) in
          ap (λ (r : Parsed (List HuffmanDefinition)). option_map (λ (d : HuffmanDefinition). d.table) (find test (reverse (parsed_list r) ++ older))) t.told
          ∙ table_found (class == c && slot == n) (c == class && n == slot) table d (find test older) (given c n) keys refl (s.tables c n)

  -- all of them
  pub tables_step : (given : ℕ → ℕ → Option HuffmanTable) (due : ℕ → ℕ → HuffmanTable) (v : ℕ) (needed : List (ℕ × ℕ)) (text : List ℕ) → Each (λ (n : ℕ × ℕ). IsTellable n.0 n.1 (due n.0 n.1)) needed
      → Sends limits H heads P (record { tables = given; interval = v }) text
      → Sends limits H heads P (record { tables = tables_given given due needed; interval = v }) (text ++ tables_text given due needed)
  tables_step given due v [] text t s = subst (λ x. Sends limits H heads P (record { tables = given; interval = v }) x) (sym (append-nil text)) s
  tables_step given due v (n ∷ needed) text t s =
      by (holds_table (given n.0 n.1) table) refl
      (λ g s'. tables_step g due v needed text t.1 s')
      (λ g x s'. tables_step g due v needed x t.1 s')
    where
      table : HuffmanTable
      table = due n.0 n.1

      by : (b : Bool) → holds_table (given n.0 n.1) table ≡ b
          → ((g : ℕ → ℕ → Option HuffmanTable) → Sends limits H heads P (record { tables = g; interval = v }) text → Sends limits H heads P (record { tables = tables_given g due needed; interval = v }) (text ++ tables_text g due needed))
          → ((g : ℕ → ℕ → Option HuffmanTable) (x : List ℕ) → Sends limits H heads P (record { tables = g; interval = v }) x → Sends limits H heads P (record { tables = tables_given g due needed; interval = v }) (x ++ tables_text g due needed))
          → Sends limits H heads P (record { tables = tables_given (with_table given n.0 n.1 table) due needed; interval = v })
          (text ++ cond b (tables_text given due needed) (segment_text 0xc4 (table_contents n.0 n.1 table) ++ tables_text (with_table given n.0 n.1 table) due needed))
      by true e same more =
          subst (λ (g : ℕ → ℕ → Option HuffmanTable). Sends limits H heads P (record { tables = tables_given g due needed; interval = v }) (text ++ tables_text given due needed))
          (held given n.0 n.1 table (holds_is (given n.0 n.1) table e)) (same given s)
      by false e same more =
          let g = with_table given n.0 n.1 table in
          let here = segment_text 0xc4 (table_contents n.0 n.1 table) in
          subst (λ x. Sends limits H heads P (record { tables = tables_given g due needed; interval = v }) x) (append_assoc text here (tables_text g due needed))
          (more g (text ++ here) (segment 0xc4 (table_contents n.0 n.1 table) ∷ s.0, table_step given v s.0 text n.0 n.1 table t.0 s.1))

-- THE RESTART INTERVAL

interval_told : (n : ℕ) → n < 65536 → restart_interval (to_be_bytes w16 n) ≡ Ok n
interval_told n h = let e : two_bytes (n / 256 % 256) (n % 256) ≡ n = omega (arith, h) in ap (λ (m : ℕ). (let r : Parsed ℕ = Ok m in r)) e

pub interval_step : (limits : Limits) (H : Meaning) (heads : List ScanHead) (P : Blocks → Type 0) (w : Written) (n : ℕ) (text : List ℕ) → n < 65536 → Sends limits H heads P w text
    → Sends limits H heads P (record { tables = w.tables; interval = n }) (text ++ cond (n == w.interval) [] (segment_text 0xdd (to_be_bytes w16 n)))
interval_step limits H heads P w n text h (items, s) = by (n == w.interval) refl
  where
    by : (b : Bool) → (n == w.interval) ≡ b → Sends limits H heads P (record { tables = w.tables; interval = n }) (text ++ cond b [] (segment_text 0xdd (to_be_bytes w16 n)))
    by true e =
        subst (λ x. Sends limits H heads P (record { tables = w.tables; interval = n }) x) (sym (append-nil text))
        (subst (λ m. Sends limits H heads P (record { tables = w.tables; interval = m }) text) (sym (same_of n w.interval e)) (items, s))
    by false e = (
      segment 0xdd (to_be_bytes w16 n) ∷ items,
      record {
        blocks = s.blocks;
        spelled = item_after items text 0xdd (to_be_bytes w16 n) s.spelled (λ e. omega (arith, e), λ e. omega (arith, e)) (λ e. omega (arith, e)) (λ e. omega (arith, e)) (lit< tt);
        leads = (refl, ap fault_in (interval_told n h), s.leads);
        frame = s.frame;
        framed = s.framed;
        kept = s.kept;
        quants = s.quants;
        first = s.first;
        sent_heads = s.sent_heads;
        tables = s.tables;
        interval = ap (parsed_or 0) (interval_told n h);
        picture = s.picture;
      },
    )
