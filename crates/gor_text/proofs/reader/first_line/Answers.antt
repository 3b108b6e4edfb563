use Rattle.std.proofs.Common.{sym, ◌∙◌}
use Rattle.std.proofs.lemmas.List.{take_rest}
use Rattle.gor_text.proofs.Lines.{starts, line_goes_on, line_ends, line_alone}
use Rattle.gor_text.proofs.reader.first_line.Goals as goal

pub loop-at-init : goal.loop-at-init
loop-at-init c = starts c.args.text.now c.requires

pub loop-at-preserved : goal.loop-at-preserved
loop-at-preserved c = line_goes_on c.args.text.now c.loop-at.at c.loop-at-test.true c.if-byte-eq10.false ∙ c.loop-at.invariant

pub returns-then-byte-eq10-clause-lines : goal.returns-then-byte-eq10-clause-lines
returns-then-byte-eq10-clause-lines c =
    rw take_rest (sym c.loop-at.invariant ∙ line_ends c.args.text.now c.loop-at.at c.loop-at-test.true c.if-byte-eq10.true)

pub returns-clause-lines : goal.returns-clause-lines
returns-clause-lines c = sym c.loop-at.invariant ∙ line_alone c.args.text.now c.loop-at.at c.loop-at-test.false
