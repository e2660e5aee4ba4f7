use Rattle.std.proofs.Common.{◌∙◌, ap, drop, sym, replicate, take}
use Rattle.std.proofs.lemmas.List.{drop-drop}
use Rattle.jpg_markers.proofs.Continuing.{eight_more, rest_long, same_bytes}
use Rattle.jpg_markers.proofs.whole.filled_groups.Goals as goal
use Rattle.jpg_spec.proofs.Segments.TablesInForce.{affirmed}

pub loop-group-preserved : goal.loop-group-preserved
loop-group-preserved c =
    let bytes = c.args.bytes.now in
    let n = c.loop-group.n in
    let (few, rest, front) = c.loop-group.invariant in
    let (is, tail, size) = c.in-Some.ensures.cases in
    let same = same_bytes c.in-Some.group.now (replicate 8 255) (affirmed _ (sym c.ne.ensures ∙ c.if-ne.false)) in (
      rest_long n bytes c.loop-group.rest.now c.in-Some.tail.now few rest size,
      tail ∙ ap (λ l. drop 8 l) rest ∙ drop-drop 8 n bytes,
      eight_more n bytes c.in-Some.group.now front few (is ∙ ap (λ l. take 8 l) rest) same,
    )
