use Rattle.std.proofs.Common.{◌≡◌, ◌≤◌, All, List, length, subst, arith, rules, Vec, Global}
use Rattle.std.proofs.lemmas.List.{take_all, length-map}
use Rattle.std.proofs.lemmas.List.Elements.{All-more, All-map, All-weaker, recursion_from_All}
use Rattle.std.proofs.lemmas.List.Sums.{sum_by-le}
use Rattle.std.specs.Prelude.{map}
use Rattle.gor_text.specs.declared.workload.Line.{Line}
use Rattle.gor_store.specs.Lanes.{AreTaken}
use Rattle.gor_bench.specs.Puts.{ArePuts, IsSmall}
use Rattle.gor_bench.proofs.phases.is_small.Goals as goal

all_puts : (lanes : List (Vec Line Global)) → length lanes ≡ 8 → All (λ (lines : Vec Line Global). ArePuts lines.items) lanes → IsSmall (map (λ (lines : Vec Line Global). lines.items) lanes)
all_puts lanes eight puts =
    let all : All ArePuts (map (λ (lines : Vec Line Global). lines.items) lanes) = All-map ArePuts (λ (lines : Vec Line Global). lines.items) lanes puts in
    let long = length-map lanes (λ (lines : Vec Line Global). lines.items) in
    let few = sum_by-le length 300000 (map (λ (lines : Vec Line Global). lines.items) lanes) (All-weaker ArePuts (λ (lines : List Line). length lines ≤ 300000) (λ lines are. are.few) _ all) in record {
      eight = omega (arith, long, eight);
      taken = recursion_from_All AreTaken _ (All-weaker ArePuts AreTaken (λ lines are. are.taken) _ all);
      few = omega (arith, few, long, eight);
    }

pub loop-lines-preserved : goal.loop-lines-preserved
loop-lines-preserved c =
    All-more (λ (lines : Vec Line Global). ArePuts lines.items) c.args.lanes.now c.loop-lines.lines-index c.lines-item.result c.loop-lines-test.true c.loop-lines.invariant
    (subst (λ (lines : Vec Line Global). ArePuts lines.items) c.lines-item.is (subst ArePuts c.deref.ensures.value (c.are_puts.ensures c.if-not-are_puts.false)))

pub returns : goal.returns
returns c = λ eight.
    all_puts c.args.lanes.now (search (rules, eight))
    (subst (All (λ (lines : Vec Line Global). ArePuts lines.items)) (take_all c.loop-lines.lines-index c.args.lanes.now (omega (arith, c.loop-lines-test.false))) c.loop-lines.invariant)
