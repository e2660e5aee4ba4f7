use Rattle.std.proofs.Common.{◌∙◌}
use Rattle.jpg_color.proofs.PixelLanes.{one_of_sixteen}
use Rattle.jpg_color.proofs.encode.ycc.put_three.Goals as goal

pub returns-clause-luminance : goal.returns-clause-luminance
returns-clause-luminance c = record {
  long = c.put_samples.ensures.long;
  here = λ k few.
      c.put_samples.ensures.here k few
      ∙ one_of_sixteen c.args.pixels.now c.part-pixels.result.now c.luminances-y.result 0 c.args.c k few c.part-pixels.ensures.value c.luminances-y.ensures;
  before = c.put_samples.ensures.before;
}

pub returns-clause-blue : goal.returns-clause-blue
returns-clause-blue c = record {
  long = c.put_samples-2.ensures.long;
  here = λ k few.
      c.put_samples-2.ensures.here k few
      ∙ one_of_sixteen c.args.pixels.now c.part-pixels.result.now c.blue_differences-b.result 1 c.args.c k few c.part-pixels.ensures.value c.blue_differences-b.ensures;
  before = c.put_samples-2.ensures.before;
}

pub returns-clause-red : goal.returns-clause-red
returns-clause-red c = record {
  long = c.put_samples-3.ensures.long;
  here = λ k few.
      c.put_samples-3.ensures.here k few
      ∙ one_of_sixteen c.args.pixels.now c.part-pixels.result.now c.red_differences-r.result 2 c.args.c k few c.part-pixels.ensures.value c.red_differences-r.ensures;
  before = c.put_samples-3.ensures.before;
}
