use Rattle.std.proofs.Common.{rules, ◌≡◌, List, ℤ, length, get_or, set, sym, ap, ◌∙◌, subst, arith}
use Rattle.std.specs.Int.{cast_signed, cast_unsigned, w16}
use Rattle.std.proofs.lemmas.Int.{to_z-of_z}
use Rattle.std.proofs.lemmas.List.{length-set}
use Rattle.jpg_spec.specs.Elements.{zeros}
use Rattle.jpg_spec.specs.Geometry.{Frame, padded_blocks}
use Rattle.jpg_base.specs.Cursor.{IsPadded}
use Rattle.jpg_coefs.specs.Picture.{Picture, block_in, block_index}
use Rattle.jpg_coefs.specs.Stored.{by_rows, stored_index}
use Rattle.jpg_coefs.proofs.Stored.{put_stored, read_stored, stored_below}
use Rattle.jpg_coefs.proofs.coefs.Coefs.set_dc.Goals as goal

pub place-place-requires : goal.place-place-requires
place-place-requires c =
    let f = ap (λ (p : Picture). p.frame) c.self.view_is in
    (c.self.inside.frame, c.self.invariant.0, subst (λ (g : Frame). IsPadded g c.args.component c.args.x c.args.y) (sym f) c.requires)

pub set_dc-requires : goal.set_dc-requires
set_dc-requires c =
    let i = c.self.inside in
    let f = ap (λ (p : Picture). p.frame) c.self.view_is in
    let there : IsPadded i.frame c.args.component c.args.x c.args.y = subst (λ (g : Frame). IsPadded g c.args.component c.args.x c.args.y) (sym f) c.requires in
    omega (arith, c.place-place.ensures i.frame c.self.invariant.0 there, stored_below i.frame i.layout.order c.args.component c.args.x c.args.y there, c.self.invariant.1)

pub invariant_of-self : goal.invariant_of-self
invariant_of-self c =
    let blocks = c.self.inside.blocks in let n = c.place-place.result in
    let value = cast_signed w16 (cast_unsigned w16 c.args.value) in
    (c.self.invariant.0, ap (λ (l : List (List ℤ)). length l) c.set_dc.ensures ∙ length-set blocks n (set (get_or blocks n (zeros 64)) 0 value) ∙ c.self.invariant.1)

pub returns : goal.returns
returns c =
    let i = c.self.inside in let k = c.args.component in let x = c.args.x in let y = c.args.y in
    let f = ap (λ (p : Picture). p.frame) c.self.view_is in
    let there : IsPadded i.frame k x y = subst (λ (g : Frame). IsPadded g k x y) (sym f) c.requires in
    let order = i.layout.order in
    let long : length i.blocks ≡ padded_blocks i.frame = omega (arith, c.self.invariant.1) in
    let stored : List (List ℤ) → Picture = λ blocks. record { frame = i.frame; blocks = blocks } in
    let dc : List ℤ → List ℤ = λ b. set b 0 c.args.value in
    let at = stored_index i.frame order k x y in
    ap (λ l. stored (by_rows i.frame order l)) c.set_dc.ensures
    ∙ ap (λ v. stored (by_rows i.frame order (set i.blocks c.place-place.result (set (get_or i.blocks c.place-place.result (zeros 64)) 0 v)))) (to_z-of_z w16 c.args.value (search rules))
    ∙ ap (λ n. stored (by_rows i.frame order (set i.blocks n (dc (get_or i.blocks n (zeros 64)))))) (c.place-place.ensures i.frame c.self.invariant.0 there)
    ∙ ap stored (put_stored i.frame order i.blocks k x y (dc (get_or i.blocks at (zeros 64))) there long)
    ∙ ap (λ b. stored (set (by_rows i.frame order i.blocks) (block_index i.frame k x y) (dc b))) (sym (read_stored i.frame order i.blocks k x y there))
    ∙ ap (λ (p : Picture). (let q : Picture = record p { blocks = set p.blocks (block_index p.frame k x y) (dc (block_in p k x y)) } in q)) c.self.view_is
