use Rattle.std.proofs.Common.{◌≡◌, ◌+◌, ◌≤◌, ◌-◌, length, take}
use Rattle.jpg_color.specs.EncodeRows.{AddsEncoded}
use Rattle.jpg_color.specs.EncodeSampling.{samples_left}
use Rattle.jpg_color.proofs.encode.row_encoder.RowEncoder.feed.Given as goal

abbrev pub invariant-loop-done : goal.invariant-loop-done
invariant-loop-done l =
    (l.done ≤ length l.samples)
    × (samples_left (l.self).sampler + l.done ≡ samples_left (l.fn.self).sampler)
    × AddsEncoded l.fn.self (take l.done l.samples) l.self

abbrev pub decreases-loop-done : goal.decreases-loop-done
decreases-loop-done l = length l.samples - l.done
