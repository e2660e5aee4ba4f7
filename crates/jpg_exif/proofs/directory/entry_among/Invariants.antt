use Rattle.std.specs.Prelude.{◌≡◌, ◌≤◌, ◌-◌, length}
use Rattle.jpg_spec_upright.specs.Exif.{entry_among}
use Rattle.jpg_exif.proofs.directory.entry_among.Given as goal

abbrev pub invariant-loop : goal.invariant-loop
invariant-loop l = (entry_among l.little l.contents l.count l.start ≡ entry_among l.little l.contents (l.count - l.counter) l.place) × (l.place ≤ length l.contents)
