-- A frame's header remains in force for all items after it, so that a file has at most one header of a progressive
-- frame.
use Rattle.std.proofs.Common.{◌≡◌, ℕ, true, false, List, [], ◌∷◌, ◌++◌, refl, sym, ap, ◌∙◌, subst, None, Ok, Err, inl, inr}
use Rattle.std.specs.Prelude.{unwrap_or}
use Rattle.std.proofs.lemmas.List.{append_assoc}
use Rattle.jpg_spec.specs.Faults.{Parsed}
use Rattle.jpg_spec.specs.Geometry.{Frame, is_progressive}
use Rattle.jpg_spec.specs.FrameContents.{frame_header}
use Rattle.jpg_spec.specs.Scan.{Blocks}
use Rattle.jpg_spec.specs.Markers.{is_frame_code, has_frame, code_fault_if}
use Rattle.jpg_spec.specs.InForce.{first_some, frame_after, no_frame, parsed_some}
use Rattle.jpg_spec.specs.Items.{Item, segment, scan, segments_of, SpellsFront, fault_in}
use Rattle.jpg_spec.specs.FileMeaning.{Leads}
use Rattle.jpg_spec.specs.Laws.{frame_of_items}
use Rattle.jpg_spec.specs.declared.frame.Process.TheVariants.{Progressive}
use Rattle.jpg_spec.specs.declared.frame.Limits.{Limits}
use Rattle.jpg_spec.proofs.Basics.Common.{clash, heads, or_right}
use Rattle.jpg_spec.proofs.Files.FilesOnce.{next_head}
use Rattle.jpg_spec.proofs.Headers.FrameFound.{told_process}
use Rattle.jpg_spec.proofs.Files.ItemsOnce.{HasNext, Meets, meet}
use Rattle.jpg_spec.proofs.Files.TailsOnce.{HasHead}
use Rattle.jpg_spec.proofs.Places.Untouched.{frame_stays}

-- THE FRAME of some items doesn't change with more of them

pub record FrameKept (limits : Limits) (items all : List Item) : Type 0 where
  pub found : has_frame (segments_of all) ≡ true
  pub same : frame_of_items limits all ≡ frame_of_items limits items

pub frame_keeps : (limits : Limits) (more items : List Item) (blocks : Blocks) → Leads limits (more ++ items) blocks → has_frame (segments_of items) ≡ true → FrameKept limits items (more ++ items)
frame_keeps limits [] items blocks l found = record { found = found; same = refl }
frame_keeps limits (segment code contents ∷ more) items blocks l found =
    let before = segments_of (more ++ items) in
    let k = frame_keeps limits more items blocks l.2 found in
    record { found = or_right (is_frame_code code) (has_frame before) k.found; same = frame_stays limits before code contents k.found l.0 ∙ k.same }
frame_keeps limits (scan contents intervals ∷ more) items blocks l found =
    let before = segments_of (more ++ items) in
    let k = frame_keeps limits more items l.0 l.3 found in
    record { found = or_right (is_frame_code 0xda) (has_frame before) k.found; same = frame_stays limits before 0xda contents k.found l.1 ∙ k.same }

kept_in : (limits : Limits) (more items all : List Item) (blocks : Blocks) → all ≡ more ++ items → Leads limits all blocks → has_frame (segments_of items) ≡ true → FrameKept limits items all
kept_in limits more items all blocks e l found =
    subst (λ (z : List Item). FrameKept limits items z) (sym e) (frame_keeps limits more items blocks (subst (λ (z : List Item). Leads limits z blocks) e l) found)

-- A PROGRESSIVE FRAME'S HEADER, after items without a frame

abbrev pub with_header : List ℕ → List Item → List Item
with_header contents before = segment 0xc2 contents ∷ before

progressive_is : (limits : Limits) (contents : List ℕ) (before : List Item) (blocks : Blocks) → Leads limits (with_header contents before) blocks → is_progressive (frame_of_items limits (with_header contents before)).process ≡ true
progressive_is limits contents before blocks l = by (frame_header limits Progressive contents) refl l.1
  where
    by : (t : Parsed Frame) → frame_header limits Progressive contents ≡ t → fault_in t ≡ None → is_progressive (unwrap_or (first_some (parsed_some t) (frame_after limits (segments_of before))) no_frame).process ≡ true
    by (Ok f) h e = ap is_progressive (told_process limits Progressive contents f h)
    by (Err fault) h e = cc

second_frame : code_fault_if true 0xc2 ≡ None → ⊥
second_frame e = cc

no_second : (limits : Limits) (contents : List ℕ) (before : List Item) (blocks : Blocks) → Leads limits (with_header contents before) blocks → has_frame (segments_of before) ≡ true → ⊥
no_second limits contents before blocks l found = second_frame (subst (λ b. code_fault_if b 0xc2 ≡ None) found l.0)

-- items that are its own, or continue it, have a progressive frame
still_progressive : (limits : Limits) (contents : List ℕ) (more before items : List Item) (blocks other : Blocks) → Leads limits (with_header contents before) other → items ≡ more ++ with_header contents before → Leads limits items blocks
    → is_progressive (frame_of_items limits items).process ≡ true
still_progressive limits contents more before items blocks other header e l =
    ap (λ (f : Frame). is_progressive f.process) (kept_in limits more (with_header contents before) items blocks e l refl).same ∙ progressive_is limits contents before other header

-- none comes after items that have a frame
none_later : (limits : Limits) (contents : List ℕ) (later before items : List Item) (first : Item) (blocks : Blocks) → Leads limits (with_header contents before) blocks → with_header contents before ≡ later ++ first ∷ items
    → has_frame (segments_of items) ≡ true → ⊥
none_later limits contents [] before items first blocks l e found =
    no_second limits contents before blocks l (kept_in limits [] items before blocks (heads (segment 0xc2 contents) first before items e).1 l.2 found).found
none_later limits contents (item ∷ later) before items first blocks l e found =
    no_second limits contents before blocks l
    (kept_in limits (later ++ first ∷ []) items before blocks ((heads (segment 0xc2 contents) item before (later ++ first ∷ items) e).1 ∙ sym (append_assoc later (first ∷ []) items)) l.2 found).found

-- THE LAW: no prefix of bytes that begin with items of a frame that isn't progressive ends with such a header

-- the items themselves, and a header that bytes begin with
pub record EndsInHeader (limits : Limits) (front : List ℕ) (contents : List ℕ) (before : List Item) : Type 0 where
  pub blocks : Blocks
  pub spelled : SpellsFront (with_header contents before) front
  pub leads : Leads limits (with_header contents before) blocks

pub record PlainItems (limits : Limits) (items : List Item) (front : List ℕ) : Type 0 where
  pub blocks : Blocks
  pub spelled : SpellsFront items front
  pub leads : Leads limits items blocks
  pub plain : is_progressive (frame_of_items limits items).process ≡ false

not_shown : (limits : Limits) (items before : List Item) (contents front u a x : List ℕ) → EndsInHeader limits a contents before → PlainItems limits items front → (HasNext limits items u (with_header contents before) x → ⊥) → a ++ x ≡ front ++ u → ⊥
not_shown limits items before contents front u a x s k none e =
    by (meet limits (a ++ x) (with_header contents before) items x u
    (record { front = a; blocks = s.blocks; cut = refl; spelled = s.spelled; leads = s.leads })
    (record { front = front; blocks = k.blocks; cut = e; spelled = k.spelled; leads = k.leads }))
  where
    shown : (more : List Item) → items ≡ more ++ with_header contents before → ⊥
    shown more same = clash (is_progressive (frame_of_items limits items).process) (still_progressive limits contents more before items k.blocks s.blocks s.leads same k.leads) k.plain

    by : Meets limits (with_header contents before) x items u → ⊥
    by (inl same) = shown [] (sym same.0)
    by (inr (inl next)) = shown (next.later ++ next.first ∷ []) (next.joined ∙ sym (append_assoc next.later (next.first ∷ []) (with_header contents before)))
    by (inr (inr next)) = none next

-- if no complete segment follows the items that breaks no rule
pub none_behind : (limits : Limits) (items before : List Item) (contents front u a x : List ℕ) → EndsInHeader limits a contents before → PlainItems limits items front → (HasHead limits (segments_of items) u → ⊥) → a ++ x ≡ front ++ u → ⊥
none_behind limits items before contents front u a x s k none e =
    not_shown limits items before contents front u a x s k (λ next. none (next_head limits items (with_header contents before) u x next)) e
