use Rattle.std.proofs.Common.{refl, arith}
use Rattle.gor_journal.proofs.ByteLaws.{closed}
use Rattle.gor_journal.proofs.journal.close.Goals as goal

pub returns : goal.returns
returns c =
    let b = c.args.buffers.now in
    record {
      keys = c.requires.keys;
      log = closed b.changes c.args.next b.log.items c.put_range.new.out.items (omega (arith, c.if-buffers-eq0.false)) c.requires.log c.put_range.ensures.items;
      changes = refl;
      numbers = λ some. (omega (arith, c.requires.numbers), omega (arith, c.requires.numbers));
      top = refl;
      key_place = c.requires.key_place;
      log_place = λ some. let n = c.requires.log_place (omega (arith, some, c.put_range.ensures.len)) in omega (arith, n, c.put_range.ensures.len, c.put_range.ensures.capacity);
    }
