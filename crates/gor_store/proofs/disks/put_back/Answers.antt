use Rattle.std.proofs.Common.{◌∙◌}
use Rattle.gor_store.proofs.DiskOrder.{back_in_front}
use Rattle.gor_store.proofs.disks.put_back.Goals as goal

pub returns : goal.returns
returns g c = back_in_front c.args.others.items c.push_reserved.new.self.items c.swap.new.self.items c.args.disk c.len-last.result c.requires.some c.push_reserved.ensures.items (c.len-last.ensures ∙ c.args.others.ok.0) c.swap.ensures.items
