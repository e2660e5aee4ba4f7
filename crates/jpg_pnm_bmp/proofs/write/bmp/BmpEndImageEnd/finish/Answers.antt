use Rattle.std.proofs.Common.{arith, ◌≡◌, ◌≤◌, ◌+◌, ◌++◌, ◌*◌, length, true, false, refl, sym, ap, ◌∙◌}
use Rattle.std.specs.Prelude.{nat_lt, if◌then◌else◌}
use Rattle.std.proofs.lemmas.Bool.Decides.{nat_tests}
use Rattle.jpg_pnm_bmp.specs.declared.write.end.Finish.TheVariants.{More, Done}
use Rattle.jpg_spec_image.specs.ImageText.{row_bytes}
use Rattle.jpg_pnm_bmp.specs.EndState.{EndState, is_last, info_given, with_part}
use Rattle.jpg_pnm_bmp.specs.Ends.{bmp_state}
use Rattle.jpg_pnm_bmp.proofs.BmpParts.{last_is, part_appended}
use Rattle.jpg_pnm_bmp.proofs.SomeBytes.{part_some}
use Rattle.jpg_pnm_bmp.proofs.write.bmp.BmpEndImageEnd.finish.Goals as goal
use Rattle.jpg_spec.proofs.Basics.Common.{not_lt_of}

pub returns-then-self : goal.returns-then-self
returns-then-self c =
    let b = c.make_part.new.self in
    let same : bmp_state b ≡ bmp_state c.args.self.now = c.in-Ok.ensures.same in
    let last : nat_lt b.taken (b.parts + 1) ≡ true = grind (arith, nat_tests) in
    let most : b.parts ≤ b.taken = not_lt_of b.taken b.parts (ap (λ (e : EndState). e.done) same ∙ c.requires.before) in (
      sym (ap (λ t. if t then Done else More) (sym (ap is_last same) ∙ last_is b.info b.taken b.parts b.rows.items ∙ last)),
      part_appended b.info b.taken b.parts b.rows.items most ∙ ap with_part same,
      c.in-Ok-push_all.ensures.whole ∙ ap (λ t. c.args.out.now ++ t) (c.as_slice.ensures.value ∙ c.in-Ok.ensures.next),
    )

pub returns : goal.returns
returns c =
    let b = c.make_part.new.self in
    let same : bmp_state b ≡ bmp_state c.args.self.now = c.in-Ok.ensures.same in
    let more : nat_lt b.taken (b.parts + 1) ≡ false = grind (arith, nat_tests) in
    let most : b.parts ≤ b.taken = not_lt_of b.taken b.parts (ap (λ (e : EndState). e.done) same ∙ c.requires.before) in (
      sym (ap (λ t. if t then Done else More) (sym (ap is_last same) ∙ last_is b.info b.taken b.parts b.rows.items ∙ more)),
      part_appended b.info b.taken b.parts b.rows.items most ∙ ap with_part same,
      c.in-Ok-push_all.ensures.whole ∙ ap (λ t. c.args.out.now ++ t) (c.as_slice.ensures.value ∙ c.in-Ok.ensures.next),
    )

pub returns-in-Err : goal.returns-in-Err
returns-in-Err c =
    let b = c.args.self.now in
    let whole : length b.rows.items ≡ b.taken * row_bytes (info_given b.info) = sym b.rows.ok.0 ∙ b.whole in
    (part_some b.info b.taken b.parts b.rows.items whole b.few b.wide c.requires.before, c.in-Err.ensures.same, refl)

pub returns-in-Err-push_all : goal.returns-in-Err-push_all
returns-in-Err-push_all c =
    let b = c.args.self.now in
    let whole : length b.rows.items ≡ b.taken * row_bytes (info_given b.info) = sym b.rows.ok.0 ∙ b.whole in
    (part_some b.info b.taken b.parts b.rows.items whole b.few b.wide c.requires.before, c.in-Ok.ensures.same, c.in-Err-push_all.ensures.same)
