use Rattle.std.proofs.Common.{sym}
use Rattle.jpg_markers.proofs.Tables.{pairs_long, bytes_long}
use Rattle.jpg_markers.proofs.quants.entries_of.Goals as goal

pub slice_bounds-from_pairs-end : goal.slice_bounds-from_pairs-end
slice_bounds-from_pairs-end c = sym (pairs_long c.args.head c.args.bytes.now c.requires c.if-head-eq1.true)

pub from_pairs-requires : goal.from_pairs-requires
from_pairs-requires c = pairs_long c.args.head c.args.bytes.now c.requires c.if-head-eq1.true

pub slice_bounds-from_bytes-end : goal.slice_bounds-from_bytes-end
slice_bounds-from_bytes-end c = sym (bytes_long c.args.head c.args.bytes.now c.requires)

pub from_bytes-requires : goal.from_bytes-requires
from_bytes-requires c = bytes_long c.args.head c.args.bytes.now c.requires
