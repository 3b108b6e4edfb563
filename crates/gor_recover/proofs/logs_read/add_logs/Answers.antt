use Rattle.std.proofs.Common.{◌+◌, ◌-◌, refl, sym, ◌∙◌, subst, arith}
use Rattle.std.specs.List.{range_with_len}
use Rattle.gor_disk.specs.declared.disk.FileId.TheVariants.{Log}
use Rattle.gor_recover.specs.LogReads.{logs_up}
use Rattle.gor_recover.proofs.LogsOn.{LogsSoFar, no_logs_yet, one_more_log, log_stops, next_up}
use Rattle.gor_recover.proofs.OnlyReads.{nothing_read, read_both}
use Rattle.gor_recover.proofs.logs_read.add_logs.Goals as goal

pub loop-log-init : goal.loop-log-init
loop-log-init g c = record {
  logs = subst (λ n. LogsSoFar g.D.Disk.tells (g.D.Disk.view c.args.disk.now).seen n (logs_up c.args.first c.args.current) (range_with_len n (c.args.current + 1 - n)) c.args.base c.args.logs.now.floor c.args.series.now c.args.series.now c.args.logs.now)
      (sym c.from-log.ensures)
      (no_logs_yet g.D.Disk.tells (g.D.Disk.view c.args.disk.now).seen c.args.first (logs_up c.args.first c.args.current) c.args.base c.args.logs.now.floor c.args.series.now c.args.logs.now c.requires.none refl);
  same = λ t. nothing_read (g.D.Disk.view c.args.disk.now);
  cause = refl;
}

pub returns-in-Err-clause-err : goal.returns-in-Err-clause-err
returns-in-Err-clause-err g c = λ t. log_stops g.D.Disk.tells (g.D.Disk.view c.args.disk.now).seen (g.D.Disk.view c.loop-log.disk).seen c.loop-log.log (logs_up c.args.first c.args.current)
    (range_with_len (c.loop-log.log + 1) (c.args.current + 1 - (c.loop-log.log + 1))) c.args.base c.args.logs.now.floor c.args.series.now c.loop-log.series c.loop-log.logs c.in-Err.fault t
    ((c.loop-log.invariant.same t).seen (Log c.loop-log.log))
    (subst (λ l. LogsSoFar g.D.Disk.tells (g.D.Disk.view c.args.disk.now).seen c.loop-log.log (logs_up c.args.first c.args.current) l c.args.base c.args.logs.now.floor c.args.series.now c.loop-log.series c.loop-log.logs)
    (next_up c.loop-log.log c.args.current (let test = c.loop-log-test.true in let end = c.from-log-end.ensures in omega arith)) c.loop-log.invariant.logs)
    (c.in-Err.ensures.err t)

pub loop-log-preserved : goal.loop-log-preserved
loop-log-preserved g c = record {
  logs = one_more_log g.D.Disk.tells (g.D.Disk.view c.args.disk.now).seen (g.D.Disk.view c.loop-log.disk).seen c.loop-log.log (logs_up c.args.first c.args.current)
      (range_with_len (c.loop-log.log + 1) (c.args.current + 1 - (c.loop-log.log + 1))) c.args.base c.args.logs.now.floor c.args.series.now c.loop-log.series c.add_log.new.series c.loop-log.logs c.add_log.new.logs
      (λ t. (c.loop-log.invariant.same t).seen (Log c.loop-log.log))
      (subst (λ l. LogsSoFar g.D.Disk.tells (g.D.Disk.view c.args.disk.now).seen c.loop-log.log (logs_up c.args.first c.args.current) l c.args.base c.args.logs.now.floor c.args.series.now c.loop-log.series c.loop-log.logs)
      (next_up c.loop-log.log c.args.current (let test = c.loop-log-test.true in let end = c.from-log-end.ensures in omega arith)) c.loop-log.invariant.logs)
      c.in_default.ensures.ok;
  same = λ t. read_both (g.D.Disk.view c.args.disk.now) (g.D.Disk.view c.loop-log.disk) (g.D.Disk.view c.add_log.new.disk) (c.loop-log.invariant.same t) (c.add_log.ensures.same t);
  cause = c.in_default.ensures.cause ∙ c.loop-log.invariant.cause;
}
