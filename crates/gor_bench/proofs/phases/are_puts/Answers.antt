use Rattle.std.proofs.Common.{◌≡◌, All, true, subst, arith, rules}
use Rattle.std.proofs.lemmas.List.{take_all}
use Rattle.std.proofs.lemmas.List.Elements.{All-more, recursion_from_All}
use Rattle.gor_text.specs.declared.workload.Line.{Line}
use Rattle.gor_store.specs.Lines.{is_taken}
use Rattle.gor_bench.proofs.phases.are_puts.Goals as goal

pub loop-line-preserved : goal.loop-line-preserved
loop-line-preserved c =
    All-more (λ (line : Line). is_taken line ≡ true) c.args.lines.now c.loop-line.line-index c.line-item.result c.loop-line-test.true c.loop-line.invariant
    (subst (λ (line : Line). is_taken line ≡ true) c.line-item.is (c.is_call.ensures c.if-not-is_call.false))

pub returns : goal.returns
returns c = λ short. record {
  taken = recursion_from_All (λ (line : Line). is_taken line ≡ true) c.args.lines.now
      (subst (All (λ (line : Line). is_taken line ≡ true)) (take_all c.loop-line.line-index c.args.lines.now (omega (arith, c.loop-line-test.false))) c.loop-line.invariant);
  few = search (rules, short);
}
