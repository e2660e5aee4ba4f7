use Rattle.std.proofs.Common.{◌≡◌, ◌<◌, ◌≤◌, ◌++◌, ◌+◌, take, refl, arith, rules}
use Rattle.std.proofs.lemmas.Bool.Decides.{nat_tests}
use Rattle.std.proofs.lemmas.List.Elements.{All-take}
use Rattle.jpg_color.proofs.RowsEncoded.{bytes_all, has_more}
use Rattle.jpg_color.proofs.encode.row_encoder.RowEncoder.take_some.Goals as goal

pub write_row-requires : goal.write_row-requires
write_row-requires c =
    let r = c.requires.has in
    let self = c.args.self.now in
    let n = c.in_ok-count.count in
    let e = c.in_ok-count.ensures in
    let more : c.take_some.new.self.dropped < c.take_some.new.self.made = grind (arith, nat_tests, c.has_rows.ensures, c.if-has_rows.true) in
    let one : c.take_some.new.self.made ≡ c.take_some.new.self.dropped + 1 = omega (arith, more, e.rows.dropped, e.rows.one, r.4.1) in
    (r.0, r.1, r.2, r.3 ++ take n c.args.samples.now, (has_more r.0 r.1 r.2 r.3 (take n c.args.samples.now) self _ e.adds (All-take (λ s. s < 256) n c.args.samples.now (bytes_all c.args.samples.now (λ i. (let t = c.type_inv.samples i in search (rules, t))))) e.rows.dropped refl refl refl refl r.4.0, one))

pub returns-in_ok-write_row-clause-adds : goal.returns-in_ok-write_row-clause-adds
returns-in_ok-write_row-clause-adds c = λ w info a given has.
    let self = c.args.self.now in
    let n = c.in_ok-count.count in
    let e = c.in_ok-count.ensures in
    let more : c.take_some.new.self.dropped < c.take_some.new.self.made = grind (arith, nat_tests, c.has_rows.ensures, c.if-has_rows.true) in
    let one : c.take_some.new.self.made ≡ c.take_some.new.self.dropped + 1 = omega (arith, more, e.rows.dropped, e.rows.one, has.1) in
    c.in_ok-write_row.ensures.writes w info a (given ++ take n c.args.samples.now)
    (has_more w info a given (take n c.args.samples.now) self _ e.adds (All-take (λ s. s < 256) n c.args.samples.now (bytes_all c.args.samples.now (λ i. (let t = c.type_inv.samples i in search (rules, t))))) e.rows.dropped refl refl refl refl has.0, one)

pub returns-else-has_rows-clause-adds : goal.returns-else-has_rows-clause-adds
returns-else-has_rows-clause-adds c = λ w info a given has.
    let self = c.args.self.now in
    let n = c.in_ok-count.count in
    let e = c.in_ok-count.ensures in
    let none : c.take_some.new.self.made ≤ c.take_some.new.self.dropped = grind (arith, nat_tests, c.has_rows.ensures, c.if-has_rows.false) in
    let same : c.take_some.new.self.made ≡ c.take_some.new.self.dropped = omega (arith, none, e.rows.dropped, e.rows.some, has.1) in
    (has_more w info a given (take n c.args.samples.now) self _ e.adds (All-take (λ s. s < 256) n c.args.samples.now (bytes_all c.args.samples.now (λ i. (let t = c.type_inv.samples i in search (rules, t))))) e.rows.dropped refl refl refl refl has.0, same)
