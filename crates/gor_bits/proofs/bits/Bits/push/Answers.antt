use Rattle.std.proofs.Common.{ℕ, ◌≡◌, ◌+◌, ◌-◌, ◌≤◌, ◌^◌, ◌++◌, length, max, ap, arith, length-append}
use Rattle.gor_bits.specs.Spelled.{spelled}
use Rattle.gor_bits.specs.BitString.{BitString}
use Rattle.gor_bits.proofs.Words.{length-spelled}
use Rattle.gor_bits.proofs.bits.Bits.push.Goals as goal

pub returns-clause-limit : goal.returns-clause-limit
returns-clause-limit c =
    let old = c.args.self.now in
    let made = c.in_ok-reserve.ensures.ok in
    let spare : c.reserve.new.self.spare ≡ max old.spare c.args.n = ap {B = ℕ} (λ (b : BitString). b.spare) made in
    let bits : length c.reserve.new.self.bits ≡ length old.bits = ap {B = ℕ} (λ (b : BitString). length b.bits) made in
    let limit : length c.reserve.new.self.bits + c.reserve.new.self.spare ≤ 2 ^ 62 = c.in_ok-reserve.ensures.limit in
    let pushed : length c.push_reserved.new.self.bits ≡ length (c.reserve.new.self.bits ++ spelled c.args.n c.args.value) = ap {B = ℕ} (λ (b : BitString). length b.bits) c.push_reserved.ensures in
    let left : c.push_reserved.new.self.spare ≡ c.reserve.new.self.spare - c.args.n = ap {B = ℕ} (λ (b : BitString). b.spare) c.push_reserved.ensures in
    omega (arith, length-append c.reserve.new.self.bits (spelled c.args.n c.args.value), length-spelled c.args.n c.args.value)
