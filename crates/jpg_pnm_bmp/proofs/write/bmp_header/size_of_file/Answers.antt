use Rattle.std.proofs.Common.{arith}
use Rattle.jpg_pnm_bmp.proofs.FileSize.{rows_fit}
use Rattle.jpg_pnm_bmp.proofs.write.bmp_header.size_of_file.Goals as goal

pub overflow_mul-result : goal.overflow_mul-result
overflow_mul-result c =
    let r = c.requires in
    let fit = rows_fit c.args.info.now.width c.args.info.now.height c.bytes_of_row-long.result c.padding_of.result r.pixels r.height c.bytes_of_row-long.ensures.within c.padding_of.ensures.most in
    omega (arith, fit)

pub overflow_add-result-2 : goal.overflow_add-result-2
overflow_add-result-2 c =
    let r = c.requires in
    let fit = rows_fit c.args.info.now.width c.args.info.now.height c.bytes_of_row-long.result c.padding_of.result r.pixels r.height c.bytes_of_row-long.ensures.within c.padding_of.ensures.most in
    omega (arith, fit, c.offset_of.ensures.most)
