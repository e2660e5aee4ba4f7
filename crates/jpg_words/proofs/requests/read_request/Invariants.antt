use Rattle.std.proofs.Common.{◌≡◌, length, map, drop, ◌-◌, string_bytes}
use Rattle.jpg_spec_words.specs.Requests.{request}
use Rattle.jpg_words.specs.Requests.{asked_from}
use Rattle.jpg_words.proofs.requests.read_request.Given as goal

abbrev pub invariant-loop-index : goal.invariant-loop-index
invariant-loop-index g l =
    let a = g.A.Asks in
    request a.tool (a.said l.fn.start) (drop 1 (map string_bytes l.words)) ≡ asked_from a.tool (map string_bytes l.words) l.index (a.said l.said)

abbrev pub decreases-loop-index : goal.decreases-loop-index
decreases-loop-index g l = length l.words - l.index
