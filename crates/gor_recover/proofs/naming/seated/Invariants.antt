use Rattle.std.proofs.Common.{◌≡◌, ◌++◌}
use Rattle.std.specs.Prelude.{filter_map}
use Rattle.gor_recover.proofs.naming.seated.Given as goal

abbrev pub invariant-loop-seat : goal.invariant-loop-seat
invariant-loop-seat l = l.rows.items ++ filter_map (λ seat. seat) l.seat-iterator.rest.items ≡ filter_map (λ seat. seat) l.fn.table.seats.items
