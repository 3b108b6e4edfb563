use Rattle.std.proofs.Common.{◌≡◌, ℕ, List, Bool, ap, sym, ◌∙◌, arith}
use Rattle.gor_bits.specs.BitString.{BitString}
use Rattle.gor_block.specs.Decoded.{decoded}
use Rattle.gor_block.specs.PointBlock.{PointBlock}
use Rattle.gor_block.proofs.MarkLaws.{few_points, length_few}
use Rattle.gor_block.proofs.DecodedLaws.{length-decoded}
use Rattle.gor_block.proofs.BlockLaws.{shown, push_next, push_found, push_held, push_shown}
use Rattle.gor_block.proofs.block.Block.push_reserved.Goals as goal

pub write-requires-clause-next : goal.write-requires-clause-next
write-requires-clause-next c =
    let q = c.self.inside in
    let room : q.bits.spare ≡ c.args.self.now.room = ap {B = ℕ} (λ (b : PointBlock). b.room) c.self.view_is in
    let seen = ap {B = PointBlock} (λ k. shown q.unit q.window (decoded q.unit q.window q.count q.bits.bits) k) (sym room) ∙ c.self.view_is in
    push_next q.unit q.window q.count q.bits.bits q.running c.args.self.now c.args.point c.self.invariant seen c.requires.next (omega arith)

pub overflow_add-self : goal.overflow_add-self
overflow_add-self c =
    let q = c.self.inside in
    let i = c.self.invariant in
    omega (arith, few_points q.unit q.window (decoded q.unit q.window q.count q.bits.bits) i.chain, length-decoded q.unit q.window q.count q.bits.bits, length_few q.unit)

pub invariant_of-self : goal.invariant_of-self
invariant_of-self c =
    let q = c.self.inside in
    let room : q.bits.spare ≡ c.args.self.now.room = ap {B = ℕ} (λ (b : PointBlock). b.room) c.self.view_is in
    let seen = ap {B = PointBlock} (λ k. shown q.unit q.window (decoded q.unit q.window q.count q.bits.bits) k) (sym room) ∙ c.self.view_is in
    let next = push_next q.unit q.window q.count q.bits.bits q.running c.args.self.now c.args.point c.self.invariant seen c.requires.next (omega arith) in
    push_held q.unit q.window q.count q.bits.bits c.write.new.bits.bits q.running c.write.new.self c.args.point c.self.invariant next (ap {B = List Bool} (λ (b : BitString). b.bits) c.write.ensures.bits) c.write.ensures.state

pub returns : goal.returns
returns c =
    let q = c.self.inside in
    let room : q.bits.spare ≡ c.args.self.now.room = ap {B = ℕ} (λ (b : PointBlock). b.room) c.self.view_is in
    let seen = ap {B = PointBlock} (λ k. shown q.unit q.window (decoded q.unit q.window q.count q.bits.bits) k) (sym room) ∙ c.self.view_is in
    let next = push_next q.unit q.window q.count q.bits.bits q.running c.args.self.now c.args.point c.self.invariant seen c.requires.next (omega arith) in
    let found = push_found q.unit q.window q.count q.bits.bits c.write.new.bits.bits q.running c.args.point c.self.invariant next (ap {B = List Bool} (λ (b : BitString). b.bits) c.write.ensures.bits) in
    push_shown q.unit q.window (decoded q.unit q.window q.count q.bits.bits) _ c.write.new.bits.spare q.bits.spare q.running c.args.self.now c.args.point found c.self.invariant.marked c.self.view_is
    (ap {B = ℕ} (λ (b : BitString). b.spare) c.write.ensures.bits)
