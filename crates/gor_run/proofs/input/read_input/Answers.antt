use Rattle.gor_run.proofs.InputParts.{whole_at_end}
use Rattle.gor_run.proofs.input.read_input.Goals as goal

pub returns-then-branch-clause-whole : goal.returns-then-branch-clause-whole
returns-then-branch-clause-whole g c =
    let last = c.in_ok-read_piece.ensures.last (cc) in
    whole_at_end (g.S.Source.left c.args.source.now) (g.S.Source.left c.loop-turn.source) (g.S.Source.left c.read_piece.new.source) _ _ _ _
    c.loop-turn.bytes.items c.read_piece.new.bytes.items _ c.loop-turn.invariant.0 c.in_ok-read_piece.ensures.given last.0 last.1
