use Rattle.std.proofs.Common.{rules}
use Rattle.gor_plain.proofs.Firsts.{directory_first}
use Rattle.gor_plain.proofs.start.first_directory.Goals as goal

pub returns : goal.returns
returns c = directory_first (record { floor = 0; series = c.push.new.self; free = c.new.result }) (search rules) (search rules) (search rules)
