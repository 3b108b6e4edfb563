use Rattle.std.proofs.Common.{sym, ◌∙◌}
use Rattle.std.proofs.lemmas.List.{take_rest}
use Rattle.gor_text.proofs.Words.{starts, word_goes_on, word_ends, word_alone}
use Rattle.gor_text.proofs.fields.first_word.Goals as goal

pub loop-at-init : goal.loop-at-init
loop-at-init c = starts c.args.text.now

pub loop-at-preserved : goal.loop-at-preserved
loop-at-preserved c = word_goes_on c.args.text.now c.loop-at.at c.loop-at-test.true c.if-byte-eq32.false ∙ c.loop-at.invariant

pub returns-then-byte-eq32 : goal.returns-then-byte-eq32
returns-then-byte-eq32 c =
    rw take_rest (sym c.loop-at.invariant ∙ word_ends c.args.text.now c.loop-at.at c.loop-at-test.true c.if-byte-eq32.true)

pub returns : goal.returns
returns c = sym c.loop-at.invariant ∙ word_alone c.args.text.now c.loop-at.at c.loop-at-test.false
