use Rattle.std.proofs.Common.{◌≡◌, take, drop}
use Rattle.jpg_spec.specs.Lists.{any_of}
use Rattle.jpg_spec.specs.Geometry.{h_max, v_max}
use Rattle.jpg_spec_image.specs.Pixels.{is_fractional}
use Rattle.jpg_color.specs.Shown.{factors_of}
use Rattle.jpg_color.proofs.decode.kinds.has_partial.Given as goal

abbrev pub invariant-loop-i : goal.invariant-loop-i
invariant-loop-i l =
    any_of (is_fractional (h_max l.fn.frame) (v_max l.fn.frame)) (take l.fn.count (factors_of l.fn.frame))
    ≡ any_of (is_fractional (h_max l.fn.frame) (v_max l.fn.frame)) (drop l.i (take l.fn.count (factors_of l.fn.frame)))
