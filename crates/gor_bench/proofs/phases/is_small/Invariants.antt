use Rattle.std.proofs.Common.{All, take}
use Rattle.gor_bench.specs.Puts.{ArePuts}
use Rattle.gor_bench.proofs.phases.is_small.Given as goal

abbrev pub invariant-loop-lines : goal.invariant-loop-lines
invariant-loop-lines l = All (λ lines. ArePuts lines.items) (take l.lines-index l.lanes)
