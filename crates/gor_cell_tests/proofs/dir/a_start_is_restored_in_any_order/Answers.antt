use Rattle.std.proofs.Common.{sym, subst, arith}
use Rattle.gor_model.specs.Objects.{Has}
use Rattle.gor_dir.proofs.StartSteps.{starts_free, has_other}
use Rattle.gor_cell_tests.proofs.dir.a_start_is_restored_in_any_order.Goals as goal

pub take_up-requires : goal.take_up-requires
take_up-requires g c = starts_free _ 5 4 c.in_ok-directory.ensures.start (omega arith)

pub take_up-requires-2 : goal.take_up-requires-2
take_up-requires-2 g c = subst (λ l. Has l 1) (sym c.in_ok-take_up.ensures) (has_other _ 1 4 (λ e. omega (arith, e)) (starts_free _ 5 1 c.in_ok-directory.ensures.start (omega arith)))
