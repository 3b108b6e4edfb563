use Rattle.gor_recover.specs.Parts.{key_shown}
use Rattle.gor_recover.specs.KeyReads.{IsKeyAt}
use Rattle.gor_recover.proofs.PlacedKeys.{shown_at}
use Rattle.gor_recover.proofs.keys.keys_after.Goals as goal

pub key_after-requires : goal.key_after-requires
key_after-requires c = (shown_at key_shown IsKeyAt c.args.placed.now c.loop-entry.entry-index c.entry-item.result c.requires c.loop-entry-test.true c.entry-item.is).place
