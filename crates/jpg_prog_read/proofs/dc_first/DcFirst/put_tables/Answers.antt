use Rattle.std.proofs.Common.{◌≡◌, ◌<◌, sym, ap, ◌∙◌, arith}
use Rattle.jpg_spec.specs.Segments.{ScanHead}
use Rattle.jpg_base.proofs.ScanPlaces.{all_parts}
use Rattle.jpg_prog_read.proofs.DcNew.{first_ready}
use Rattle.jpg_prog_read.proofs.dc_first.DcFirst.put_tables.Goals as goal

pub add_tables-requires-clause-small : goal.add_tables-requires-clause-small
add_tables-requires-clause-small c =
    let parts : c.args.head.now.parts ≡ c.as_slice.result.now = sym (c.as_slice.ensures.value ∙ ap (λ (h : ScanHead). h.parts) c.head.view_is) in
    all_parts (λ i. i < 4) c.as_slice.result.now (λ k d h. omega (arith, (rw parts at c.requires.scan.is_head.components.there) k d h, c.checked.ensures.count_high))

pub returns : goal.returns
returns c = λ i o.
    let parts : c.args.head.now.parts ≡ c.as_slice.result.now = sym (c.as_slice.ensures.value ∙ ap (λ (h : ScanHead). h.parts) c.head.view_is) in
    let bare = c.requires.bare in
    first_ready c.args.frame.now c.args.head.now c.args.tables.now _ c.checked.ensures c.requires.scan bare.scan (rw (← parts) at c.add_tables.ensures) c.look_up.ensures bare.cursor bare.four bare.left i o.tables o.in_set o.of_scan o.band
