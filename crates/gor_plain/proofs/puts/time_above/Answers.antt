use Rattle.std.proofs.Common.{arith, sym, ◌∙◌, ◌-◌}
use Rattle.gor_plain.proofs.Putting.{above_last}
use Rattle.gor_plain.proofs.puts.time_above.Goals as goal

pub returns : goal.returns
returns c = let some = c.if-count-eq0.false in let size = c.len-count.ensures in
    above_last c.args.points.now (c.len-count.result - 1) c.in-Some.last (omega arith) (sym c.get.ensures ∙ c.in-Some.is)
