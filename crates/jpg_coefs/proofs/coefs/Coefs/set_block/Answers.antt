use Rattle.std.proofs.Common.{◌≡◌, List, ℤ, length, sym, ap, ◌∙◌, subst, arith}
use Rattle.std.specs.Prelude.{slice_set}
use Rattle.std.proofs.lemmas.List.{length-set}
use Rattle.jpg_spec.specs.Geometry.{Frame, padded_blocks}
use Rattle.jpg_base.specs.Cursor.{IsPadded}
use Rattle.jpg_coefs.specs.Picture.{Picture, block_index}
use Rattle.jpg_coefs.specs.Stored.{by_rows}
use Rattle.jpg_coefs.proofs.Stored.{put_stored, stored_below}
use Rattle.jpg_coefs.proofs.coefs.Coefs.set_block.Goals as goal

pub place-place-requires : goal.place-place-requires
place-place-requires c =
    let f = ap (λ (p : Picture). p.frame) c.self.view_is in
    (c.self.inside.frame, c.self.invariant.0, subst (λ (g : Frame). IsPadded g c.args.component c.args.x c.args.y) (sym f) c.requires)

pub set-requires : goal.set-requires
set-requires c =
    let i = c.self.inside in
    let f = ap (λ (p : Picture). p.frame) c.self.view_is in
    let there : IsPadded i.frame c.args.component c.args.x c.args.y = subst (λ (g : Frame). IsPadded g c.args.component c.args.x c.args.y) (sym f) c.requires in
    omega (arith, c.place-place.ensures i.frame c.self.invariant.0 there, stored_below i.frame i.layout.order c.args.component c.args.x c.args.y there, c.self.invariant.1)

pub invariant_of-self : goal.invariant_of-self
invariant_of-self c =
    let blocks = c.self.inside.blocks in
    (c.self.invariant.0, ap (λ (l : List (List ℤ)). length l) c.set.ensures ∙ length-set blocks c.place-place.result c.args.block.now ∙ c.self.invariant.1)

pub returns : goal.returns
returns c =
    let i = c.self.inside in
    let f = ap (λ (p : Picture). p.frame) c.self.view_is in
    let there : IsPadded i.frame c.args.component c.args.x c.args.y = subst (λ (g : Frame). IsPadded g c.args.component c.args.x c.args.y) (sym f) c.requires in
    let order = i.layout.order in
    let long : length i.blocks ≡ padded_blocks i.frame = omega (arith, c.self.invariant.1) in
    let stored : List (List ℤ) → Picture = λ blocks. record { frame = i.frame; blocks = blocks } in
    ap (λ l. stored (by_rows i.frame order l)) c.set.ensures
    ∙ ap (λ n. stored (by_rows i.frame order (slice_set i.blocks n c.args.block.now))) (c.place-place.ensures i.frame c.self.invariant.0 there)
    ∙ ap stored (put_stored i.frame order i.blocks c.args.component c.args.x c.args.y c.args.block.now there long)
    ∙ ap (λ (p : Picture). (let q : Picture = record p { blocks = slice_set p.blocks (block_index p.frame c.args.component c.args.x c.args.y) c.args.block.now } in q)) c.self.view_is
