-- The frame that the code makes for an image is that of the definitions, or the fault of the definitions forbids it.
use Rattle.std.proofs.Common.{◌≡◌, ◌<◌, ◌≤◌, [], Bool, true, false, cond, ◌&&◌, ◌||◌, List, length, map, refl, sym, ap, ◌∙◌, ⊎_elim, Some, None, Ok, Err}
use Rattle.std.specs.Prelude.{find, nat_lt}
use Rattle.std.proofs.lemmas.Bool.{cases_lt}
use Rattle.std.proofs.lemmas.List.Elements.{All-nil}
use Rattle.jpg_spec.specs.Lists.{below}
use Rattle.jpg_spec.specs.FrameHeader.{checked_frame}
use Rattle.jpg_spec.specs.Geometry.{Frame, padded_blocks}
use Rattle.jpg_spec_write.specs.ScansAsked.{asks_progressive, process_due}
use Rattle.jpg_spec_write.specs.Headed.{is_wide}
use Rattle.jpg_spec.specs.Segments.{standard_limits}
use Rattle.jpg_spec_encode.specs.Encoded.{any_process, component_due, components_due, has_fraction}
use Rattle.jpg_spec_encode.specs.EncodingLaws.{IsEncodable}
use Rattle.jpg_spec.specs.declared.fault.Fault.{Fault}
use Rattle.jpg_spec.specs.declared.frame.Component.{Component}
use Rattle.jpg_spec.specs.declared.frame.Limits.{Limits}
use Rattle.jpg_spec.specs.declared.frame.Process.{Process}
use Rattle.jpg_spec.specs.declared.frame.Process.TheVariants.{Baseline, Extended, Progressive}
use Rattle.jpg_spec_write.specs.declared.picture_fault.PictureFault.TheVariants.{TooManyBlocks}
use Rattle.jpg_spec.proofs.Basics.Rows.{map_map}
use Rattle.jpg_spec.proofs.Headers.SameNumbers.{frame_passes}
use Rattle.jpg_base.specs.Frame.{numbers_of}
use Rattle.jpg_spec_image.specs.declared.image.ImageInfo.{ImageInfo}
use Rattle.jpg_color.specs.Encode.{CanSample, fault_due, encoded_frame, encoded_parts, image_of, encoding_request, scans_asked}
use Rattle.jpg_color.specs.EncodeHead.{component_asked, components_asked, fraction_at, process_asked, table_asked}
use Rattle.jpg_color.specs.declared.encode.Encoding.{Encoding as Asked}
use Rattle.jpg_color.proofs.EncodedHead.{fault_of_grids, fractions_same, is_frame, many_grids, sequential_is}

-- WHAT MAY BE ASKED

pub is_encodable : (info : ImageInfo) (a : Asked) → CanSample info a → IsEncodable (encoding_request a) (image_of info [])
is_encodable info a can = record {
  width_low = can.wide;
  width_high = can.wide_few;
  height_low = can.high;
  height_high = can.high_few;
  samples = All-nil (λ s. s < 256);
  factors = can.factors;
  first = can.first;
  others = can.others;
  restart = tt;
}

-- THE NUMBERS

pub components_are : (info : ImageInfo) (a : Asked) → CanSample info a → components_asked a ≡ (encoded_frame info a).components
components_are info a can =
    ap (λ n. map (component_asked a) (below n)) can.pairs
    ∙ sym (map_map (λ c. (let k : Component = record { id = c.id; h = c.h; v = c.v; quant = 0 } in k)) (component_due (encoding_request a)) (below (components_due (encoding_request a) (image_of info []))))

pub process_is : (info : ImageInfo) (a : Asked) → CanSample info a → process_asked a ≡ (encoded_frame info a).process
process_is info a can = by a.progressive
  where
    by : (p : Bool) → cond p Progressive (cond (is_wide (table_asked a 0) || (nat_lt 1 (length a.factors.items) && is_wide (table_asked a 1))) Extended Baseline)
        ≡ process_due (asks_progressive (scans_asked p)) (any_process (encoding_request a) (image_of info []))
    by true = refl
    by false = sequential_is (encoding_request a) (image_of info []) (length a.factors.items) can.pairs

pub numbers_are : (info : ImageInfo) (a : Asked) (p : Process) (cs : List Component) → CanSample info a → p ≡ process_asked a → cs ≡ components_asked a → numbers_of p 8 info.width info.height cs ≡ encoded_frame info a
numbers_are info a p cs can e c =
    ap (λ q. numbers_of q 8 info.width info.height cs) (e ∙ process_is info a can)
    ∙ ap (λ ds. numbers_of (encoded_frame info a).process 8 info.width info.height ds) (c ∙ components_are info a can)

-- THE FAULT

found_due : (info : ImageInfo) (a : Asked) (cs : List Component) → CanSample info a → cs ≡ components_asked a
    → find (fraction_at cs) (below (length cs)) ≡ find (has_fraction (encoded_parts info a)) (below (length (encoded_parts info a).components))
found_due info a cs can e = ap (λ ds. find (fraction_at ds) (below (length ds))) (e ∙ components_are info a can) ∙ fractions_same (encoded_parts info a)

no_fault : (f : Frame) (fault : Fault) → Err fault ≡ Ok f → ⊥
no_fault f fault e = cc

pub many_due : (info : ImageInfo) (a : Asked) (cs : List Component) (limits : Limits) (fault : Fault) (g : Frame) → CanSample info a → cs ≡ components_asked a → find (fraction_at cs) (below (length cs)) ≡ None
    → g ≡ encoded_frame info a → limits ≡ standard_limits → Err fault ≡ checked_frame limits g → fault_due info a ≡ Some TooManyBlocks
many_due info a cs limits fault g can e none same l err =
    fault_of_grids (encoded_parts info a) (sym (found_due info a cs can e) ∙ none)
    ∙ ⊎_elim (λ (many : 8388608 < padded_blocks (encoded_frame info a)). many_grids (encoded_parts info a) many)
    (λ (few : padded_blocks (encoded_frame info a) ≤ 8388608).
    absurd (no_fault (encoded_frame info a) fault
    (err ∙ ap (λ k. checked_frame k g) l ∙ ap (checked_frame standard_limits) same ∙ frame_passes (encoded_frame info a) (is_frame (encoding_request a) (image_of info []) (is_encodable info a can) can.pairs few)))) (cases_lt 8388608 (padded_blocks (encoded_frame info a)))
