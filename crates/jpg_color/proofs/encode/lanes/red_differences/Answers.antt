use Rattle.std.proofs.Common.{lit≤}
use Rattle.jpg_color.proofs.PixelLanes.{reds_are, reds_fit}
use Rattle.jpg_color.proofs.encode.lanes.red_differences.Goals as goal

pub overflow_cast-less : goal.overflow_cast-less
overflow_cast-less c =
    let fit = reds_fit c.args.pixels.now c.requires c.all_fit.ensures in (
      fit 0 (lit≤ tt),
      (
        fit 1 (lit≤ tt),
        (
          fit 2 (lit≤ tt),
          (
            fit 3 (lit≤ tt),
            (
              fit 4 (lit≤ tt),
              (
                fit 5 (lit≤ tt),
                (
                  fit 6 (lit≤ tt),
                  (
                    fit 7 (lit≤ tt),
                    (
                      fit 8 (lit≤ tt),
                      (
                        fit 9 (lit≤ tt),
                        (
                          fit 10 (lit≤ tt),
                          (
                            fit 11 (lit≤ tt),
                            (fit 12 (lit≤ tt), (fit 13 (lit≤ tt), (fit 14 (lit≤ tt), (fit 15 (lit≤ tt), tt)))),
                          ),
                        ),
                      ),
                    ),
                  ),
                ),
              ),
            ),
          ),
        ),
      ),
    )

pub returns : goal.returns
returns c = reds_are c.args.pixels.now c.requires c.all_fit.ensures
