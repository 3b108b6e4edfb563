use Rattle.gor_slab.specs.Reading.{zeros_in}
use Rattle.gor_slab.proofs.Zeros.{zeros_more, zeros_stop, zeros_end}
use Rattle.gor_slab.proofs.reading.zeros_of.Goals as goal

pub returns-then-byte-ne0 : goal.returns-then-byte-ne0
returns-then-byte-ne0 c =
    let bytes = c.args.bytes.now in
    rw c.fault.ensures (zeros_stop c.args.at c.loop-index.index bytes (zeros_in c.args.at bytes) c.loop-index-test.true c.if-byte-ne0.true c.loop-index.invariant)

pub loop-index-preserved : goal.loop-index-preserved
loop-index-preserved c =
    let bytes = c.args.bytes.now in
    zeros_more c.args.at c.loop-index.index bytes (zeros_in c.args.at bytes) c.loop-index-test.true c.if-byte-ne0.false c.loop-index.invariant

pub returns : goal.returns
returns c =
    let bytes = c.args.bytes.now in
    zeros_end c.args.at c.loop-index.index bytes (zeros_in c.args.at bytes) c.loop-index-test.false c.loop-index.invariant
