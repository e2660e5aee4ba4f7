-- After items that break no rule, including a frame's header, the frame is one that passed its checks.
use Rattle.std.proofs.Common.{◌≡◌, ℕ, Bool, true, false, cond, ◌==◌, List, [], ◌∷◌, refl, ap, ◌∙◌, subst, None}
use Rattle.jpg_spec.specs.Scan.{Blocks}
use Rattle.jpg_spec.specs.Markers.{Segment, Pass, has_frame}
use Rattle.jpg_spec.specs.ScanContents.{scan_header}
use Rattle.jpg_spec.specs.InForce.{frame_of, frame_after}
use Rattle.jpg_spec.specs.Items.{Item, segment, scan, segments_of, fault_in, contents_rule}
use Rattle.jpg_spec.specs.FileMeaning.{Leads}
use Rattle.jpg_spec.specs.Header.{header_rule}
use Rattle.jpg_spec.specs.declared.frame.Limits.{Limits}
use Rattle.jpg_spec.proofs.Headers.FrameFound.{Found, frame_found}
use Rattle.jpg_spec.proofs.Headers.HeaderFirst.{scan_passed}
use Rattle.jpg_spec.proofs.Basics.Common.{same_of}

pub header_too : (limits : Limits) (before : List Segment) (code : ℕ) (contents : List ℕ) → contents_rule limits before code contents ≡ None → header_rule limits before code contents ≡ None
header_too limits before code contents e = by (code == 0xda) refl
  where
    by : (b : Bool) → (code == 0xda) ≡ b → cond (code == 0xda) (fault_in (scan_header (frame_of limits before) contents)) (contents_rule limits before code contents) ≡ None
    by true h =
        ap (λ b. cond b (fault_in (scan_header (frame_of limits before) contents)) (contents_rule limits before code contents)) h
        ∙ scan_passed limits before contents (subst (λ n. contents_rule limits before n contents ≡ None) (same_of code 0xda h) e)
    by false h = ap (λ b. cond b (fault_in (scan_header (frame_of limits before) contents)) (contents_rule limits before code contents)) h ∙ e

-- the segments of items pass the rule of headers too
pub leads_pass : (limits : Limits) (items : List Item) (blocks : Blocks) → Leads limits items blocks → Pass (header_rule limits) (segments_of items)
leads_pass limits [] blocks l = tt
leads_pass limits (segment code contents ∷ items) blocks l = (l.0, header_too limits (segments_of items) code contents l.1, leads_pass limits items blocks l.2)
leads_pass limits (scan contents intervals ∷ items) blocks l = (l.1, header_too limits (segments_of items) 0xda contents l.2, leads_pass limits items l.0 l.3)

-- THE LAW
pub frame_behind : (limits : Limits) (items : List Item) (blocks : Blocks) → Leads limits items blocks → has_frame (segments_of items) ≡ true → Found limits (frame_after limits (segments_of items))
frame_behind limits items blocks l framed = frame_found limits (segments_of items) (leads_pass limits items blocks l) framed
