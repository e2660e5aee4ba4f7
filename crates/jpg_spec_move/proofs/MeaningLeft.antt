-- What bytes mean, as a complete file or as one that ends early, may be written.
use Rattle.std.proofs.Common.{ℕ, List, ◌++◌, inl, inr, subst}
use Rattle.std.specs.List.{All}
use Rattle.jpg_spec.specs.Segments.{standard_limits}
use Rattle.jpg_spec.specs.FrameHeader.{AreLimits}
use Rattle.jpg_spec.specs.Scan.{Blocks}
use Rattle.jpg_spec.specs.Markers.{Segment}
use Rattle.jpg_spec.specs.Items.{segments_of}
use Rattle.jpg_spec.specs.Meaning.{Meaning}
use Rattle.jpg_spec.specs.FileMeaning.{Means}
use Rattle.jpg_spec.specs.FirstFault.{HaveBegun}
use Rattle.jpg_spec.specs.Early.{EndsAfter, EndsInside, segments_with, IsMeaning}
use Rattle.jpg_spec_write.specs.WrittenFile.{IsHeaded}
use Rattle.jpg_spec_move.specs.Laws.{IsMovable}
use Rattle.jpg_spec_move.specs.Moved.{Choice, moved}
use Rattle.jpg_spec.specs.declared.frame.Limits.{Limits}
use Rattle.jpg_spec.proofs.Basics.Rows.{all_front, all_back}
use Rattle.jpg_spec.proofs.Headers.FrameAfter.{header_too, leads_pass}
use Rattle.jpg_spec.proofs.Segments.QuantsInForce.{IsByte}
use Rattle.jpg_spec.proofs.Files.Ranges.{leads_in_range}
use Rattle.jpg_spec_write.proofs.MovedWritten.{IsPicture}
use Rattle.jpg_spec_move.proofs.MovedWritten.{moved_headed}
use Rattle.jpg_spec.proofs.Files.ReadPicture.{AreOfBytes, IsLeft, leads_rules, one_more, segments_bytes}
use Rattle.jpg_spec_write.proofs.ReadPicture.{left_picture}
use Rattle.jpg_spec.proofs.EndsEarly.EarlyBegun.{begun_behind, begun_inside}
use Rattle.jpg_spec.proofs.EndsEarly.EarlyRanges.{in_part_in_range}
use Rattle.jpg_spec.proofs.Headers.FrameFound.{framed_end}

-- what bytes leave, with segments of bytes if they are bytes
abbrev pub LeavesPicture : Limits → List ℕ → Meaning → Type 0
LeavesPicture limits bytes M = (segments : List Segment) × (blocks : Blocks) × IsLeft limits segments blocks M × (All IsByte bytes → AreOfBytes segments)

pub means_leaves : (limits : Limits) (bytes : List ℕ) (M : Meaning) → Means limits bytes M → LeavesPicture limits bytes M
means_leaves limits bytes M m = (
  segments_of m.items,
  m.blocks,
  record {
    found = framed_end (segments_of m.items) m.framed;
    complete = m.complete;
    rules = leads_rules limits m.items m.blocks m.leads;
    headers = leads_pass limits m.items m.blocks m.leads;
    range = leads_in_range limits m.items m.blocks m.leads;
    meaning = m.meaning;
  },
  λ all. segments_bytes m.items m.front m.spelled (all_front IsByte m.front m.marker (all_front IsByte (m.front ++ m.marker) m.rest (subst (λ bs. All IsByte bs) m.cut all))),
)

after_leaves : (limits : Limits) (bytes : List ℕ) (M : Meaning) → HaveBegun limits bytes → EndsAfter limits bytes M → LeavesPicture limits bytes M
after_leaves limits bytes M begun p =
    let b = p.behind in
    let named = begun_behind limits bytes p.items p.tail b p.part begun in (
      segments_of p.items,
      b.blocks,
      record {
        found = named.found;
        complete = named.complete;
        rules = leads_rules limits p.items b.blocks b.leads;
        headers = leads_pass limits p.items b.blocks b.leads;
        range = leads_in_range limits p.items b.blocks b.leads;
        meaning = p.meaning;
      },
      λ all. segments_bytes p.items b.front b.spelled (all_front IsByte b.front p.tail (subst (λ bs. All IsByte bs) b.cut all)),
    )

inside_leaves : (limits : Limits) (bytes : List ℕ) (M : Meaning) → HaveBegun limits bytes → EndsInside limits bytes M → LeavesPicture limits bytes M
inside_leaves limits bytes M begun p =
    let i = p.at in
    let before = segments_of i.items in
    let named = begun_inside limits bytes p.tail p.fill.0 i p.fill.1 begun in
    let r = in_part_in_range limits i.items i.contents i.blocks p.after i.done i.coded i.places i.later i.leads i.allowed.1 p.scan in (
      segments_with i.items i.contents,
      p.after,
      record {
        found = named.found;
        complete = named.complete;
        rules = (i.allowed.0, i.allowed.1, leads_rules limits i.items i.blocks i.leads);
        headers = (i.allowed.0, header_too limits before 0xda i.contents i.allowed.1, leads_pass limits i.items i.blocks i.leads);
        range = record { sizes = r.1; values = r.0 };
        meaning = p.meaning;
      },
      λ all.
          (let here = all_front IsByte (i.front ++ i.head) i.text (all_front IsByte (i.front ++ i.head ++ i.text) p.tail (subst (λ bs. All IsByte bs) i.cut all)) in
          one_more 0xda i.contents i.head before i.header (all_back IsByte i.front i.head here) (segments_bytes i.items i.front i.spelled (all_front IsByte i.front i.head here))),
    )

pub meaning_leaves : (limits : Limits) (bytes : List ℕ) (M : Meaning) → IsMeaning limits bytes M → LeavesPicture limits bytes M
meaning_leaves limits bytes M (inl m) = means_leaves limits bytes M m
meaning_leaves limits bytes M (inr (e, inl p)) = after_leaves limits bytes M e.begun p
meaning_leaves limits bytes M (inr (e, inr p)) = inside_leaves limits bytes M e.begun p

-- THE LAW
pub read_picture : (limits : Limits) (bytes : List ℕ) (M : Meaning) → AreLimits limits → All IsByte bytes → IsMeaning limits bytes M → IsPicture M
read_picture limits bytes M limited all m = let l = meaning_leaves limits bytes M m in left_picture limits l.0 l.1 M limited (l.3 all) l.2

-- what bytes mean may be written, transformed as a choice asks for it
pub read_moved : (M : Meaning) (choice : Choice) → IsMovable choice M → IsHeaded standard_limits (moved choice M)
read_moved M choice is = moved_headed choice M is.admitted is.inside (read_picture is.limits is.bytes M is.limited is.are_bytes is.means)
