use Rattle.std.proofs.Common.{rules, ◌≡◌, pos, ◌+ℤ◌, ◌-ℤ◌, ◌*ℤ◌, to_z, of_z, FitsSigned, ap, ◌∙◌}
use Rattle.std.specs.Int.{w16, int_shr}
use Rattle.std.proofs.lemmas.Int.{to_z-of_z}
use Rattle.jpg_spec_image.specs.RedGreenBlue.{clamped, about_middle, to_rgb}
use Rattle.jpg_color.proofs.Three.{three}
use Rattle.jpg_color.proofs.decode.rgb.to_rgb.Goals as goal

pub returns : goal.returns
unfolding to_rgb
returns c =
    let fb : FitsSigned w16 c.about-b.result = search rules in
    let fr : FitsSigned w16 c.about-r.result = search rules in
    let b : to_z w16 (of_z w16 c.about-b.result) ≡ about_middle c.args.cb = to_z-of_z w16 c.about-b.result fb ∙ c.about-b.ensures.value in
    let r : to_z w16 (of_z w16 c.about-r.result) ≡ about_middle c.args.cr = to_z-of_z w16 c.about-r.result fr ∙ c.about-r.ensures.value in
    let f1 : FitsSigned w16 c.red_part-with_red.result = search rules in
    let f2 : FitsSigned w16 c.green_part-with_green.result = search rules in
    let f3 : FitsSigned w16 c.blue_part-with_blue.result = search rules in
    let p1 : to_z w16 (of_z w16 c.red_part-with_red.result) ≡ int_shr ((about_middle c.args.cr *ℤ pos 91881) +ℤ pos 32768) 16 =
    to_z-of_z w16 c.red_part-with_red.result f1 ∙ c.red_part-with_red.ensures.value ∙ ap (λ x. int_shr ((x *ℤ pos 91881) +ℤ pos 32768) 16) r
    in
    let p2 : to_z w16 (of_z w16 c.green_part-with_green.result) ≡ int_shr ((pos 32768 -ℤ (about_middle c.args.cb *ℤ pos 22554)) -ℤ (about_middle c.args.cr *ℤ pos 46802)) 16 =
    to_z-of_z w16 c.green_part-with_green.result f2 ∙ c.green_part-with_green.ensures.value
    ∙ ap (λ x. int_shr ((pos 32768 -ℤ (x *ℤ pos 22554)) -ℤ (to_z w16 (of_z w16 c.about-r.result) *ℤ pos 46802)) 16) b
    ∙ ap (λ x. int_shr ((pos 32768 -ℤ (about_middle c.args.cb *ℤ pos 22554)) -ℤ (x *ℤ pos 46802)) 16) r
    in
    let p3 : to_z w16 (of_z w16 c.blue_part-with_blue.result) ≡ int_shr ((about_middle c.args.cb *ℤ pos 116130) +ℤ pos 32768) 16 =
    to_z-of_z w16 c.blue_part-with_blue.result f3 ∙ c.blue_part-with_blue.ensures.value ∙ ap (λ x. int_shr ((x *ℤ pos 116130) +ℤ pos 32768) 16) b
    in
    three (c.shown-red.ensures ∙ ap (λ p. clamped (pos c.args.y +ℤ p)) p1)
    (c.shown-green.ensures ∙ ap (λ p. clamped (pos c.args.y +ℤ p)) p2)
    (c.shown-blue.ensures ∙ ap (λ p. clamped (pos c.args.y +ℤ p)) p3)
