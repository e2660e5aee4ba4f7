use Rattle.std.proofs.Common.{◌≤◌, true, false, [], ◌∷◌, pos, refl, arith}
use Rattle.jpg_spec.specs.Bits.{bits_of}
use Rattle.jpg_spec.specs.Numbers.{digits}
use Rattle.jpg_spec.specs.Elements.{at_start}
use Rattle.jpg_spec.specs.EarlyExamples.{one_correction, two_bands, two_zero}
use Rattle.jpg_spec.specs.Parts.{in_ends}
use Rattle.jpg_spec.proofs.early_examples.bands_are_whole_with_their_own_corrections.Goals as goal

pub returns : goal.returns
unfolding digits bits_of
returns c =
    let one : 1 ≤ 1 = omega arith in
    let few : 2 ≤ 15 = omega arith in
    record {
      elements = [];
      before = [];
      front = [];
      standing = at_start two_bands;
      unit = two_zero;
      others = [];
      here = pos 3 ∷ pos 0 ∷ [];
      part = one_correction;
      cut = refl;
      covers = (refl, refl, refl);
      same = refl;
      first = refl;
      is_part = in_ends 1
          (record {
            unit = two_zero;
            units = two_zero ∷ [];
            whole = two_zero ∷ [];
            first = [];
            total = 2;
            code = false ∷ [];
            corrections = true ∷ [];
            begun = refl;
            left = refl;
            no_dc = refl;
            coded = (0, omega arith, refl);
            split = refl;
            sum = refl;
            some = one;
            most = few;
            fits = one;
            each = refl;
            told = refl;
          })
          (pos 2, pos 0 ∷ [], refl, refl);
      in_bounds = refl;
    }
