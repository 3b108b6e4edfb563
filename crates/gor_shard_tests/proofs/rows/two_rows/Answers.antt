use Rattle.std.proofs.Common.{rules, ◌≡◌, [], ◌∷◌, false, refl}
use Rattle.gor_shard_tests.proofs.Starts.{two_rows_start}
use Rattle.gor_shard_tests.proofs.rows.two_rows.Goals as goal

pub returns : goal.returns
returns c =
    let rows : c.push-2.new.self.items ≡ c.in_ok-first_row.field-0 ∷ c.in_ok-second_row.field-0 ∷ [] = search rules in
    two_rows_start (record { fresh = false; floor = 93600; next = 9; marks = c.new.result; tops = c.new-2.result; rows = c.push-2.new.self }) c.in_ok-first_row.field-0 c.in_ok-second_row.field-0
    refl refl rows c.in_ok-first_row.ensures c.in_ok-second_row.ensures
