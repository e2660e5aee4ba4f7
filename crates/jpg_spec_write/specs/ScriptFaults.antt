-- THE CHECK OF A SCRIPT on a frame: its first fault, entry by entry, and then at its end (T.81, B.2.3, G.1.1.1; release
-- 6b's wizard.txt, "Multiple Scan / Progression Control"); and the script of `-progressive`.
use Rattle.std.specs.Prelude.{ℕ, ◌+◌, Bool, true, not, nat_lt, ◌&&◌, ◌||◌, ◌==◌, if◌then◌else◌, List, [], ◌∷◌, ◌++◌, length, map, flat_map, Option, None, Some, find, option_map}
use Rattle.jpg_spec.specs.Lists.{any_of, all_of, is_empty, below}
use Rattle.jpg_spec.specs.Geometry.{Frame, factor_sum}
use Rattle.jpg_spec.specs.Segments.{ScanHead}
use Rattle.jpg_spec.specs.ScanContents.{are_parameters}
use Rattle.jpg_spec.specs.InForce.{first_some}
use Rattle.jpg_spec.specs.History.{has_begun, known_to, is_known_to, is_next}
use Rattle.jpg_spec_write.specs.Script.{Entry, of_all, all_components, is_progressive_script}
use Rattle.jpg_spec.specs.declared.frame.Colour.{Colour}
use Rattle.jpg_spec.specs.declared.frame.Colour.TheVariants.{Gray, YCbCr, Rgb, Cmyk, Ycck, Unknown}
use Rattle.jpg_spec_write.specs.declared.picture_fault.PictureFault.{PictureFault}
use Rattle.jpg_spec_write.specs.declared.picture_fault.PictureFault.TheVariants.{ScriptComponent, ScriptMcu, ScriptBand, ScriptIncomplete}

-- ONE ENTRY

-- the scan header of an entry, whatever its tables
abbrev pub entry_head : Entry → ScanHead
entry_head e = record { parts = map (λ i. record { component = i; dc = 0; ac = 0 }) e.components; ss = e.ss; se = e.se; ah = e.ah; al = e.al }

-- each number is above the one before it
abbrev pub ascend : List ℕ → Bool
ascend [] = true
ascend (i ∷ []) = true
ascend (i ∷ j ∷ numbers) = nat_lt i j && ascend (j ∷ numbers)

-- no component, one that isn't in the frame, or some that don't ascend
abbrev pub has_wrong_component : Frame → Entry → Bool
has_wrong_component f e = is_empty e.components || (not (all_of (λ i. nat_lt i (length f.components)) e.components) || not (ascend e.components))

-- several components whose MCU has more than ten blocks
abbrev pub has_large_mcu : Frame → Entry → Bool
has_large_mcu f e = nat_lt 1 (length e.components) && nat_lt 10 (factor_sum f e.components)

-- in a sequential script: all coefficients and all their bits, of components that no earlier scan had
abbrev pub is_whole_scan : List ScanHead → Entry → Bool
is_whole_scan heads e = (e.ss == 0 && (e.se == 63 && (e.ah == 0 && e.al == 0))) && not (any_of (has_begun heads) e.components)

-- in a progressive script: parameters of a scan header, next in the history of each component
abbrev pub is_due_scan : Frame → List ScanHead → Entry → Bool
is_due_scan f heads e = are_parameters f (length e.components) (entry_head e) && all_of (is_next heads (entry_head e)) e.components

-- the fault of entry n after scans of these heads, the newest first
abbrev pub entry_fault : Bool → Frame → List ScanHead → ℕ → Entry → Option PictureFault
entry_fault is_prog f heads n e =
    if has_wrong_component f e then Some (ScriptComponent n)
    else if has_large_mcu f e then Some (ScriptMcu n)
    else if (if is_prog then is_due_scan f heads e else is_whole_scan heads e) then None
    else Some (ScriptBand n)

-- AT THE END

-- all coefficients: component by component, each in zigzag order
abbrev pub coefficients : ℕ → List (ℕ × ℕ)
coefficients count = flat_map (λ i. map (λ k. (i, k)) (below 64)) (below count)

-- the first coefficient that isn't known down to bit 0
abbrev pub incomplete : Frame → List ScanHead → Option PictureFault
incomplete f heads =
    option_map (λ c. ScriptIncomplete c.0 c.1 (known_to heads c.0 c.1))
    (find (λ c. not (is_known_to (known_to heads c.0 c.1) 0)) (coefficients (length f.components)))

-- ALL ENTRIES from number n on, after scans of these heads

abbrev pub fault_after : Bool → Frame → List ScanHead → ℕ → List Entry → Option PictureFault
fault_after is_prog f heads n [] = incomplete f heads
fault_after is_prog f heads n (e ∷ script) =
    first_some (entry_fault is_prog f heads n e) (fault_after is_prog f (entry_head e ∷ heads) (n + 1) script)

unfoldable pub script_fault : Frame → List Entry → Option PictureFault
script_fault f script = fault_after (is_progressive_script script) f [] 0 script

-- THE STANDARD SCRIPT

-- a scan of one component
abbrev pub of_one : ℕ → ℕ → ℕ → ℕ → ℕ → Entry
of_one i ss se ah al = record { components = i ∷ []; ss = ss; se = se; ah = ah; al = al }

-- a scan of each component
abbrev pub of_each : Frame → ℕ → ℕ → ℕ → ℕ → List Entry
of_each f ss se ah al = map (λ i. of_one i ss se ah al) (all_components f)

-- release 6b's ten scans of YCbCr: all AC of each chrominance component at once, since they are small
abbrev pub three_colours_script : Frame → List Entry
three_colours_script f =
    of_all f 0 0 0 1
    ++ of_one 0 1 5 0 2 ∷ of_one 2 1 63 0 1 ∷ of_one 1 1 63 0 1 ∷ of_one 0 6 63 0 2 ∷ of_one 0 1 63 2 1 ∷ []
    ++ of_all f 0 0 1 0
    ++ of_one 2 1 63 1 0 ∷ of_one 1 1 63 1 0 ∷ of_one 0 1 63 1 0 ∷ []

-- those of other colours
abbrev pub any_colours_script : Frame → List Entry
any_colours_script f =
    of_all f 0 0 0 1 ++ of_each f 1 5 0 2 ++ of_each f 6 63 0 2 ++ of_each f 1 63 2 1 ++ of_all f 0 0 1 0 ++ of_each f 1 63 1 0

abbrev pub standard_script : Frame → Colour → List Entry
standard_script f YCbCr = three_colours_script f
standard_script f Gray = any_colours_script f
standard_script f Rgb = any_colours_script f
standard_script f Cmyk = any_colours_script f
standard_script f Ycck = any_colours_script f
standard_script f Unknown = any_colours_script f
