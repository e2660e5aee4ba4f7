use Rattle.jpg_prog_write.proofs.bands.Bands.end_bands.Goals as goal

pub returns-clause-item : goal.returns-clause-item
returns-clause-item c = c.ends_item-item.ensures c.args.self.now.waiting.items
