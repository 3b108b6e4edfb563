use Rattle.std.proofs.Common.{ℕ, ◌≡◌, ◌+◌, List, drop, length, ◌∙◌, ap, arith, length-drop}
use Rattle.gor_gate.specs.Frames.{Filling}
use Rattle.gor_gate.specs.Gates.{framed}
use Rattle.gor_gate.proofs.Appends.{length-framed}
use Rattle.gor_gate.proofs.Blocks.{reopened}
use Rattle.gor_gate.proofs.FirstBody.{ensured_first, first_is}
use Rattle.gor_gate.proofs.gated.Gated.begin.Goals as goal

pub returns-in_err-outcome-clause-frame : goal.returns-in_err-outcome-clause-frame
returns-in_err-outcome-clause-frame g c =
    let items = c.frame.inside.bytes.items in
    ap (λ (l : List ℕ). drop 8 l) c.truncate.ensures.items
    ∙ reopened _ (drop 8 items) c.len-len.result c.close.ensures.items (omega (arith, c.len-len.ensures, c.frame.invariant.0, length-drop 8 items))
    ∙ ap (λ (v : Filling). v.body) c.frame.view_is

pub returns-clause-frame : goal.returns-clause-frame
returns-clause-frame g c =
    let items = c.frame.inside.bytes.items in
    ap (λ (l : List ℕ). drop 8 l) c.truncate.ensures.items
    ∙ reopened _ (drop 8 items) c.len-len.result c.close.ensures.items (omega (arith, c.len-len.ensures, c.frame.invariant.0, length-drop 8 items))
    ∙ ap (λ (v : Filling). v.body) c.frame.view_is

pub returns-clause-ensured : goal.returns-clause-ensured
returns-clause-ensured g c = λ t.
    let items = c.frame.inside.bytes.items in
    let body = drop 8 items in
    let block : c.as_slice.result.now ≡ framed body = c.as_slice.ensures.value ∙ c.close.ensures.items in
    let long : length c.as_slice.result.now ≡ 9 + length body = length-framed _ body block in
    ensured_first c.args.file c.at.result body c.as_slice.result.now (g.D.Disk.view c.first_block-outcome.new.disk) block (omega (arith, long, c.in_ok-outcome.ensures.fits)) c.at.ensures.file
    (c.at.ensures.gate ∙ omega (arith, c.len-len.ensures, c.frame.invariant.0, length-drop 8 items)) (c.in_ok-outcome.ensures.settled t) (c.in_ok-outcome.ensures.bytes t)

pub returns-clause-list : goal.returns-clause-list
returns-clause-list g c = λ t.
    let items = c.frame.inside.bytes.items in
    let body = drop 8 items in
    let block : c.as_slice.result.now ≡ framed body = c.as_slice.ensures.value ∙ c.close.ensures.items in
    let long : length c.as_slice.result.now ≡ 9 + length body = length-framed _ body block in
    first_is body c.args.frame.now.body c.as_slice.result.now _ block (ap (λ (v : Filling). v.body) c.frame.view_is) (omega (arith, long, c.in_ok-outcome.ensures.fits)) (c.in_ok-outcome.ensures.bytes t)
