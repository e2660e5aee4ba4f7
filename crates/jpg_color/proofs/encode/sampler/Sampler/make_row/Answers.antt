use Rattle.std.proofs.Common.{◌+◌, ◌-◌, refl, arith}
use Rattle.jpg_color.proofs.Sampling.{keeps_planes, planes_grown, planes_more, rows_made, same_strip, strip_is}
use Rattle.jpg_color.proofs.encode.sampler.Sampler.make_row.Goals as goal

pub put_strip-requires : goal.put_strip-requires
put_strip-requires c =
    let s = c.args.self.now in
    strip_is _ s.info s.encoding s.pending s.made s.keeps.can s.keeps.frame s.keeps.none s.keeps.checked c.requires.whole c.strip_info-info.ensures c.as_slice.ensures

pub invariant_of-self : goal.invariant_of-self
invariant_of-self c =
    let s = c.args.self.now in
    record { keeps = keeps_planes s.frame s.pending c.put_strip.new.planes s.made s.keeps c.requires.none (omega arith) s.keeps.high (planes_grown s.frame (s.made - s.dropped) s.planes c.put_strip.new.planes s.keeps.planes c.put_strip.ensures.grows) }

pub invariant_of-self-2 : goal.invariant_of-self-2
invariant_of-self-2 c =
    let s = c.args.self.now in
    record {
      keeps = keeps_planes s.frame c.clear.new.self c.put_strip.new.planes (s.made + 1) s.keeps c.requires.none (omega arith) (rows_made s.info s.encoding s.frame s.made s.keeps.frame s.keeps.checked c.requires.whole.more)
          (planes_more s.frame s.dropped s.made _ s.planes c.put_strip.new.planes s.keeps.low s.keeps.planes c.put_strip.ensures.grows c.in_ok-put_strip.ensures.rows);
    }

pub returns-clause-makes : goal.returns-clause-makes
returns-clause-makes c = record {
  numbers = refl;
  asked = refl;
  left = c.requires.none;
  pending = c.clear.ensures;
  made = refl;
  dropped = refl;
  planes = same_strip c.args.self.now.frame c.args.self.now.planes c.put_strip.new.planes c.strip_info-info.ensures c.as_slice.ensures c.in_ok-put_strip.ensures.rows;
}
