use Rattle.std.proofs.Common.{◌∙◌, ap, length}
use Rattle.jpg_color.proofs.StripsKept.{row_written}
use Rattle.jpg_color.proofs.decode.part.Part.draw.Goals as goal

pub invariant_of-self : goal.invariant_of-self
invariant_of-self c =
    let had = c.self.invariant in
    record {
      sizes = had.sizes;
      wide = had.wide;
      room = had.room;
      line = ap length (row_written c.upsample.new.out c.self.inside.line.ok.0 c.deref_mut.ensures.value c.upsample.auto.out)
          ∙ c.upsample.auto.out ∙ ap length c.deref_mut.ensures.value ∙ had.line;
    }
