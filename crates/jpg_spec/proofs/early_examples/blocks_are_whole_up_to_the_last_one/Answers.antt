use Rattle.std.proofs.Common.{◌≤◌, true, false, [], ◌∷◌, ◌++◌, pos, refl, arith, inl}
use Rattle.jpg_spec.specs.Bits.{bits_of}
use Rattle.jpg_spec.specs.Numbers.{digits}
use Rattle.jpg_spec.specs.Elements.{Standing, difference, ends, new_unit, predictions_after, zeros}
use Rattle.jpg_spec.specs.Parts.{band_unit, in_code}
use Rattle.jpg_spec.proofs.early_examples.blocks_are_whole_up_to_the_last_one.Goals as goal

last : Standing
last = record {
  predictions = predictions_after (predictions_after (predictions_after (λ i. pos 0) 0 (difference (pos 0))) 0 (ends 1 [])) 0 (difference (pos 0));
  left = band_unit 0 (zeros 63) ∷ [];
}

pub returns : goal.returns
unfolding last bits_of digits
returns c =
    let few : 0 ≤ 11 = omega arith in
    let one : 1 ≤ 1 = omega arith in
    let two : 1 ≤ 2 = omega arith in
    record {
      elements = difference (pos 0) ∷ ends 1 [] ∷ difference (pos 0) ∷ [];
      before = zeros 64 ++ pos 0 ∷ [];
      front = false ∷ false ∷ true ∷ false ∷ true ∷ false ∷ false ∷ false ∷ [];
      standing = last;
      unit = band_unit 0 (zeros 63);
      others = [];
      here = [];
      part = [];
      cut = refl;
      covers = (
        new_unit 0,
        new_unit 0 ∷ [],
        pos 0 ∷ [],
        band_unit 0 (zeros 63) ∷ new_unit 0 ∷ [],
        zeros 63 ++ pos 0 ∷ [],
        false ∷ false ∷ [],
        true ∷ false ∷ true ∷ false ∷ false ∷ false ∷ [],
        refl,
        refl,
        refl,
        (false ∷ false ∷ [], (0, omega arith, refl), refl),
        (pos 0, zeros 63, refl, refl, few, refl, refl, refl),
        refl,
        (
          band_unit 0 (zeros 63),
          new_unit 0 ∷ [],
          zeros 63,
          new_unit 0 ∷ [],
          pos 0 ∷ [],
          true ∷ false ∷ true ∷ false ∷ [],
          false ∷ false ∷ [],
          refl,
          refl,
          refl,
          (true ∷ false ∷ true ∷ false ∷ [], (0, omega arith, refl), refl),
          (refl, one, one, two, refl, refl, refl),
          refl,
          (
            new_unit 0,
            [],
            pos 0 ∷ [],
            band_unit 0 (zeros 63) ∷ [],
            [],
            false ∷ false ∷ [],
            [],
            refl,
            refl,
            refl,
            (false ∷ false ∷ [], (0, omega arith, refl), refl),
            (pos 0, zeros 63, refl, refl, few, refl, refl, refl),
            refl,
            (refl, refl, refl),
          ),
        ),
      );
      same = refl;
      first = refl;
      is_part = in_code (record { left = refl; none = refl; front = inl refl; no_code = λ a b. refl });
      in_bounds = refl;
    }
