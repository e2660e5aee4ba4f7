use Rattle.std.proofs.Common.{◌≡◌, ◌<◌, sym, ap, ◌∙◌, arith}
use Rattle.jpg_spec.specs.Segments.{ScanHead}
use Rattle.jpg_base.proofs.ScanPlaces.{all_parts}
use Rattle.jpg_seq.proofs.Machines.{new_ready}
use Rattle.jpg_seq.proofs.reader.SeqReader.put_tables.Goals as goal

pub put_coders-requires-clause-small : goal.put_coders-requires-clause-small
put_coders-requires-clause-small c =
    let parts : c.args.head.now.parts ≡ c.as_slice.result.now = sym (c.as_slice.ensures.value ∙ ap (λ (h : ScanHead). h.parts) c.head.view_is) in
    all_parts (λ i. i < 4) c.as_slice.result.now (λ k d h. omega (arith, (rw parts at c.requires.scan.components.there) k d h, c.checked.ensures.count_high))

pub returns : goal.returns
returns c = λ i of.
    let parts : c.args.head.now.parts ≡ c.as_slice.result.now = sym (c.as_slice.ensures.value ∙ ap (λ (h : ScanHead). h.parts) c.head.view_is) in
    let bare = c.requires.bare in
    new_ready c.args.frame.now c.args.head.now c.args.tables.now _ c.checked.ensures c.requires.scan bare.bounds (rw (← parts) at c.put_coders.ensures) bare.cursor bare.four bare.left i of
