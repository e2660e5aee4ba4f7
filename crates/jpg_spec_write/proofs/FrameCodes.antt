-- The codes of frame headers, one for each process.
use Rattle.std.proofs.Common.{◌≡◌, ℕ, true, false, List, refl, arith, Some, None, ◌==◌, Bool, cond}
use Rattle.jpg_spec.specs.Bits.{IsMarkerCode}
use Rattle.jpg_spec.specs.FrameContents.{frame_header}
use Rattle.jpg_spec_write.specs.FileText.{sof_code}
use Rattle.jpg_spec.specs.Markers.{Segment, process_of_code, code_fault_if, is_frame_code, is_kept}
use Rattle.jpg_spec.specs.Items.{fault_in}
use Rattle.jpg_spec.specs.Header.{header_rule}
use Rattle.jpg_spec.specs.declared.frame.Process.{Process}
use Rattle.jpg_spec.specs.Geometry.{is_progressive}
use Rattle.jpg_spec.specs.declared.frame.Process.TheVariants.{Baseline, Extended, Progressive}
use Rattle.jpg_spec.specs.declared.frame.Limits.{Limits}

-- without progression either process is sequential
pub either_sequential : (b : Bool) → is_progressive (cond b Extended Baseline) ≡ false
either_sequential true = refl
either_sequential false = refl

pub code_is : (p : Process) → process_of_code (sof_code p) ≡ Some p
code_is Baseline = refl
code_is Extended = refl
code_is Progressive = refl

pub record IsFrameCode (p : Process) : Type 0 where
  pub frame : is_frame_code (sof_code p) ≡ true
  pub scan : (sof_code p == 0xda) ≡ false
  pub restart : (sof_code p == 0xdd) ≡ false
  pub quant : (sof_code p == 0xdb) ≡ false
  pub kept : (before : List Segment) (contents : List ℕ) → is_kept before (sof_code p) contents ≡ false
  pub allowed : code_fault_if false (sof_code p) ≡ None
  pub rule : (limits : Limits) (before : List Segment) (contents : List ℕ) → header_rule limits before (sof_code p) contents ≡ fault_in (frame_header limits p contents)
  pub marker : IsMarkerCode (sof_code p)
  pub eoi : sof_code p ≡ 0xd9 → ⊥

pub frame_code : (p : Process) → IsFrameCode p
frame_code Baseline = record {
  frame = refl;
  scan = refl;
  restart = refl;
  quant = refl;
  kept = λ before contents. refl;
  allowed = refl;
  rule = λ limits before contents. refl;
  marker = (λ e. omega (arith, e), λ e. omega (arith, e));
  eoi = λ e. omega (arith, e);
}
frame_code Extended = record {
  frame = refl;
  scan = refl;
  restart = refl;
  quant = refl;
  kept = λ before contents. refl;
  allowed = refl;
  rule = λ limits before contents. refl;
  marker = (λ e. omega (arith, e), λ e. omega (arith, e));
  eoi = λ e. omega (arith, e);
}
frame_code Progressive = record {
  frame = refl;
  scan = refl;
  restart = refl;
  quant = refl;
  kept = λ before contents. refl;
  allowed = refl;
  rule = λ limits before contents. refl;
  marker = (λ e. omega (arith, e), λ e. omega (arith, e));
  eoi = λ e. omega (arith, e);
}
