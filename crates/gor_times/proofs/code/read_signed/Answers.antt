use Rattle.std.proofs.Common.{arith, length-drop}
use Rattle.gor_times.proofs.code.read_signed.Goals as goal

pub overflow_add-result : goal.overflow_add-result
overflow_add-result c = omega (arith, c.in_ok-change.ensures.ok.within, length-drop c.args.at c.args.bits.now.bits, c.len-len.ensures)
