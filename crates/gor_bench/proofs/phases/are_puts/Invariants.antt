use Rattle.std.proofs.Common.{◌≡◌, All, take, true}
use Rattle.gor_store.specs.Lines.{is_taken}
use Rattle.gor_bench.proofs.phases.are_puts.Given as goal

abbrev pub invariant-loop-line : goal.invariant-loop-line
invariant-loop-line l = All (λ line. is_taken line ≡ true) (take l.line-index l.lines)
