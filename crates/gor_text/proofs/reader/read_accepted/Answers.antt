use Rattle.std.proofs.Common.{arith}
use Rattle.std.specs.Prelude.{map}
use Rattle.gor_text.specs.Workloads.{phase_lines}
use Rattle.gor_text.proofs.Readings.{nothing_read, goes_on}
use Rattle.gor_text.proofs.reader.read_accepted.Goals as goal

pub loop-text-init : goal.loop-text-init
loop-text-init g c = (
  nothing_read (g.A.Accepts.accepts c.args.accept.now) c.args.bytes.now (map phase_lines c.in_ok-reading.reading.ended.items) (phase_lines c.in_ok-reading.reading.current)
      c.in_ok-reading.ensures.ended c.in_ok-reading.ensures.current,
  omega arith,
)

pub loop-text-preserved : goal.loop-text-preserved
loop-text-preserved g c =
    let said = rw c.in-Some.is at c.in_ok-item.ensures.said in (
      goes_on (g.A.Accepts.accepts c.args.accept.now) c.args.bytes.now c.loop-text.text.now c.first_line.result.0.now c.first_line.result.1.now
          (map phase_lines c.loop-text.reading.ended.items) (map phase_lines c.add.new.self.ended.items) (phase_lines c.loop-text.reading.current) (phase_lines c.add.new.self.current)
          c.loop-text.line c.in-Some.item c.loop-text.invariant.0 c.first_line.ensures.lines said.0 said.1 c.in_ok-add.ensures.ended c.in_ok-add.ensures.current,
      omega (arith, c.first_line.ensures.shorter, c.loop-text.invariant.1),
    )
