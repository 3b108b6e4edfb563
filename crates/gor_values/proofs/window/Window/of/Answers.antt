use Rattle.std.proofs.Common.{◌-◌, arith}
use Rattle.std.specs.Int.Count.{count_trailing_zeros}
use Rattle.gor_values.proofs.WordLaws.{word_below, piece_fits, zeros_apart}
use Rattle.gor_values.proofs.window.Window.of.Goals as goal

pub overflow_sub-result-2 : goal.overflow_sub-result-2
overflow_sub-result-2 c = omega (arith, zeros_apart c.args.x c.requires c.ranges.x.fits, c.min-lead.ensures)

pub invariant_of-result : goal.invariant_of-result
invariant_of-result c =
    let apart = zeros_apart c.args.x c.requires c.ranges.x.fits in
    record { some = omega (arith, c.min-lead.ensures); inside = omega (arith, c.min-lead.ensures) }

pub returns-clause-fits : goal.returns-clause-fits
returns-clause-fits c =
    let apart = zeros_apart c.args.x c.requires c.ranges.x.fits in
    let lead = c.min-lead.result in
    piece_fits c.args.x lead (64 - lead - count_trailing_zeros 64 c.args.x) (word_below c.args.x lead c.ranges.x.fits (omega (arith, c.min-lead.ensures))) (omega (arith, c.min-lead.ensures))
