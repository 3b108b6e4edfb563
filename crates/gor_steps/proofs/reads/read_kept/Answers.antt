use Rattle.std.proofs.Common.{ℕ, List, refl, sym, subst, ◌∙◌, inl, inr}
use Rattle.std.proofs.lemmas.Result.{IfOk-weaker}
use Rattle.gor_model.specs.Names.{key_of}
use Rattle.gor_model.specs.Objects.{Has}
use Rattle.gor_hall.specs.Passes.{view, lane_of}
use Rattle.gor_steps.proofs.FindLaws.{found_holds}
use Rattle.gor_steps.proofs.ViewLaws.{directory_stays}
use Rattle.gor_steps.proofs.PauseLaws.{paused_then}
use Rattle.gor_steps.proofs.reads.read_kept.Goals as goal

pub read_series-read-requires-clause-holds : goal.read_series-read-requires-clause-holds
read_series-read-requires-clause-holds g c = found_holds (view c.args.pass.now) c.requires.sound c.args.directory c.requires.index (key_of c.args.wanted.now.name.now) c.args.slot c.requires.found c.args.cell c.requires.series

pub give_directory-requires-clause-stands : goal.give_directory-requires-clause-stands
give_directory-requires-clause-stands g c =
    let has = subst (λ (z : List ℕ). Has z 1) (sym c.requires.pass.1) (inr (inl refl)) in
    let read = c.read_series-read.ensures in
    directory_stays (view c.args.pass.now) (view c.read_series-read.new.pass) (read.pass.0.start ∙ sym c.requires.pass.0.start) c.args.directory (read.shares 1 has) c.requires.index

pub returns-clause-paused : goal.returns-clause-paused
returns-clause-paused g c =
    IfOk-weaker c.read_series-read.result _ _
    (λ read p. paused_then (λ n. g.P.Pause.called c.args.pause.now (lane_of c.args.pass.now) c.args.place n) c.args.pass.now c.read_series-read.new.pass c.give_directory.new.pass read.number p c.give_directory.ensures.pass.3)
    c.read_series-read.ensures.paused
