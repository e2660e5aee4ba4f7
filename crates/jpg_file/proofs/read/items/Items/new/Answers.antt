use Rattle.std.proofs.Common.{[], refl, inl}
use Rattle.jpg_file.proofs.read.items.Items.new.Goals as goal

pub returns-clause-between : goal.returns-clause-between
returns-clause-between c = record {
  sent = [];
  stands = c.new.ensures.stands;
  at = inl (record { same = refl; short = inl refl; no_items = refl; blank = refl });
  bounded = c.new.ensures.limits;
  holds = c.new-2.ensures.holds c.args.limits;
}
