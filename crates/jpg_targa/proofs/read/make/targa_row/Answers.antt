use Rattle.std.proofs.Common.{◌≡◌, ◌≤◌, ◌+◌, ◌*◌, length, ap, arith}
use Rattle.std.proofs.lemmas.Nat.{mul-le}
use Rattle.jpg_spec_image.specs.ImageText.{row_bytes}
use Rattle.jpg_spec_image.specs.TargaFile.{targa_height, targa_info}
use Rattle.jpg_targa.proofs.read.make.targa_row.Goals as goal

pub slice_bounds-result-end : goal.slice_bounds-result-end
slice_bounds-result-end c =
    let head = c.args.head.now in
    let n = row_bytes (targa_info head) in
    let h = targa_height head in
    let at = c.from.result in
    let long = c.row_bytes-long.result in
    let rows : (at + 1) * long ≤ h * long = mul-le (at + 1) long h long (let i = c.line_of-at.ensures.inside in let f = c.from.ensures in omega (arith, i, f)) (omega arith) in
    let same : h * long ≡ h * n = ap (λ m. h * m) c.row_bytes-long.ensures.long in
    let there : h * n ≤ length c.args.pixels.now = c.requires.there in
    omega (arith, rows, same, there)
