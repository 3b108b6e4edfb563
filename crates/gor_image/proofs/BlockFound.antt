-- The bytes of a block of seconds are found to be that block.
use Rattle.std.proofs.Common.{◌≡◌, ℕ, zero, suc, ◌+◌, ◌-◌, ◌*◌, ◌^◌, ◌<◌, ◌≤◌, List, [], ◌∷◌, ◌++◌, Bool, true, false, not, Option, Some, None, refl, sym, ap, ◌∙◌, subst, arith, length}
use Rattle.std.specs.Prelude.{nat_le, nat_lt, nat_eq, drop, reverse, replicate}
use Rattle.std.specs.List.{AllByRecursion, list_all}
use Rattle.std.specs.Int.{w32}
use Rattle.std.proofs.Math.Seq.{drop-append_seam}
use Rattle.std.proofs.lemmas.List.{reverse-reverse}
use Rattle.std.proofs.lemmas.Bool.{eq-eqb}
use Rattle.gor_model.specs.Lists.{EachBefore}
use Rattle.gor_model.specs.declared.point.Point.{Point}
use Rattle.gor_model.specs.declared.unit.Unit.{Unit as TimeUnit}
use Rattle.gor_model.specs.declared.unit.Unit.TheVariants.{Second}
use Rattle.gor_model.specs.Windows.{window, window_in, window_length}
use Rattle.gor_model.specs.Fields.{field_in}
use Rattle.gor_model.specs.Codes.{block_bits, CodeBegins}
use Rattle.gor_model.proofs.Lists.{all_places}
use Rattle.gor_bits.specs.Spelled.{bits_of}
use Rattle.gor_bits.proofs.ByteBits.{length-bits_of}
use Rattle.gor_block.specs.PointBlock.{PointBlock, IsBlock, IsBytesOf, code_of}
use Rattle.gor_block.specs.Faults.{IsHeaded}
use Rattle.gor_block.proofs.BytesLaws.{parts_of, headed_of, raw_points}
use Rattle.gor_block.proofs.Finding.{begins_self, begins_starts}
use Rattle.gor_image.specs.Recovery.{is_above}
use Rattle.gor_image.specs.Blocks.{are_in, is_packed, is_block_of, candidates, points_in}

-- ---- points

are_found : (w : ℕ) (last : Option ℕ) (points : List Point) → AllByRecursion (λ p. window_in Second p.time ≡ w) points → AllByRecursion (λ p. p.word < 2 ^ 64) points
    → EachBefore (λ p q. p.time < q.time) points → AllByRecursion (λ p. is_above last p.time ≡ true) points → are_in w last points ≡ true
are_found w last [] inside small rise above = refl
are_found w last (p ∷ points) inside small rise above =
    let a : nat_eq (window p.time) w ≡ true = eq-eqb (window p.time) w inside.0 in
    let b : nat_lt p.word (2 ^ 64) ≡ true = (let h = small.0 in grind arith) in
    let c = are_found w (Some p.time) points inside.1 small.1 rise.1 (later p.time points rise.0) in
    rw (a, above.0, b, c) refl where
      later : (t : ℕ) (ps : List Point) → AllByRecursion (λ q. t < q.time) ps → AllByRecursion (λ q. is_above (Some t) q.time ≡ true) ps
      later t [] all = tt
      later t (q ∷ ps) all = ((let h = all.0 in grind arith), later t ps all.1)

all_first : (points : List Point) → AllByRecursion (λ p. is_above None p.time ≡ true) points
all_first [] = tt
all_first (p ∷ points) = (refl, all_first points)

-- ---- bits

zeros : (n : ℕ) → list_all not (replicate n false) ≡ true
zeros zero = refl
zeros (suc n) = zeros n

packed : (code bits : List Bool) → bits ≡ code ++ replicate (length bits - length code) false → length bits < length code + 8 → is_packed code bits ≡ true
packed code bits whole least =
    let a = begins_starts code bits (subst (λ (xs : List Bool). CodeBegins code xs) (sym whole) (begins_self code (replicate (length bits - length code) false))) in
    let b : nat_lt (length bits) (length code + 8) ≡ true = grind arith in
    let c : drop (length code) bits ≡ replicate (length bits - length code) false = ap (drop (length code)) whole ∙ drop-append_seam code (replicate (length bits - length code) false) in
    let d : list_all not (drop (length code) bits) ≡ true = ap (list_all not) c ∙ zeros (length bits - length code) in
    rw (a, b, d) refl

-- ---- bytes

same_code : (b : PointBlock) → b.unit ≡ Second → code_of b ≡ block_bits Second b.window (reverse b.points)
same_code b unit = ap (λ (u : TimeUnit). block_bits u b.window (reverse b.points)) unit

pub block_found : (b : PointBlock) (bytes : List ℕ) → IsBlock b → b.unit ≡ Second → IsBytesOf b bytes → points_in b.window bytes ≡ Some b.points
unfolding points_in
block_found b bytes block unit h = rw found (rw is_block refl) where
  found : candidates b.window bytes ≡ b.points
  found =
      let p = parts_of b bytes block h in
      ap reverse (raw_points Second bytes b.window (field_in w32 4 bytes) (bits_of (drop 8 bytes)) b
      (record { headed = subst (λ (u : TimeUnit). IsHeaded u bytes) unit (headed_of b bytes block h); window = sym p.window; count_is = refl; bits_is = refl })
      (record { block = block; unit = unit; spelled = h })) ∙ reverse-reverse b.points

  is_block : is_block_of b.window b.points bytes ≡ true
  is_block =
      let p = parts_of b bytes block h in
      let c = block.code h.some in
      let long : nat_le 8 (length bytes) ≡ true = (let l = p.long in grind arith) in
      let own : nat_eq (field_in w32 0 bytes) b.window ≡ true = eq-eqb (field_in w32 0 bytes) b.window p.window in
      let count : nat_eq (field_in w32 4 bytes) (length b.points) ≡ true = eq-eqb (field_in w32 4 bytes) (length b.points) p.count in
      let some : nat_le 1 (length b.points) ≡ true = (let s = h.some in grind arith) in
      let room : length b.points ≤ window_length Second = subst (λ (u : TimeUnit). length b.points ≤ window_length u) unit c.room in
      let few : nat_le (length b.points) (window_length Second) ≡ true = grind arith in
      let inside = subst (λ (u : TimeUnit). AllByRecursion (λ (q : Point). window_in u q.time ≡ b.window) b.points) unit (all_places (λ (q : Point). window_in b.unit q.time ≡ b.window) b.points c.inside) in
      let points = are_found b.window None b.points inside (all_places (λ (q : Point). q.word < 2 ^ 64) b.points block.words) c.rising (all_first b.points) in
      let bits : is_packed (block_bits Second b.window (reverse b.points)) (bits_of (drop 8 bytes)) ≡ true = ap (λ code. is_packed code (bits_of (drop 8 bytes))) (sym (same_code b unit)) ∙ in_bits in
      rw (long, own, count, some, few, points, bits) refl where
        size : length (bits_of (drop 8 bytes)) ≡ 8 * length h.packed
        size = length-bits_of (drop 8 bytes) ∙ ap (λ (xs : List ℕ). 8 * length xs) (parts_of b bytes block h).rest

        in_bits : is_packed (code_of b) (bits_of (drop 8 bytes)) ≡ true
        in_bits = packed (code_of b) (bits_of (drop 8 bytes))
            (ap bits_of (parts_of b bytes block h).rest ∙ h.bits.whole ∙ ap (λ k. code_of b ++ replicate (k - length (code_of b)) false) (sym size))
            (let least = h.bits.least in let s = size in omega arith)
