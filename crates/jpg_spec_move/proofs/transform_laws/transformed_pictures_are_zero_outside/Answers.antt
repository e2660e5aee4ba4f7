use Rattle.std.proofs.Common.{sym, ap}
use Rattle.std.proofs.Math.Path.{fun_ext}
use Rattle.jpg_spec.specs.Scan.{Blocks}
use Rattle.jpg_spec_move.proofs.OutsideZeros.{transformed_real}
use Rattle.jpg_spec_move.proofs.transform_laws.transformed_pictures_are_zero_outside.Goals as goal

pub returns : goal.returns
returns c = λ M t w sampling e. fun_ext (λ i. fun_ext (λ x. fun_ext (λ y. sym (transformed_real M t w sampling.across sampling.down (λ i x y. sym (ap (λ (bs : Blocks). bs i x y) e)) i x y))))
