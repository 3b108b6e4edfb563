-- That points and bits determine each other, and blocks and bytes.
use Rattle.std.specs.Prelude.{◌≡◌, ℕ, ◌^◌, ◌<◌, List, length, All, Bool}
use Rattle.gor_model.specs.declared.point.Point.{Point}
use Rattle.gor_model.specs.declared.unit.Unit.{Unit as TimeUnit}
use Rattle.gor_model.specs.Codes.{BlockCode}
use Rattle.gor_model.specs.Fields.{IsBytes}
use Rattle.gor_block.specs.PointBlock.{PointBlock, IsBlock, IsSame, IsBytesOf}

abbrev pub PointsGiveBits : Type 0
PointsGiveBits = (u : TimeUnit) (w : ℕ) (points : List Point) (a b : List Bool) → BlockCode u w points a → BlockCode u w points b → a ≡ b

abbrev pub BitsGivePoints : Type 0
BitsGivePoints = (u : TimeUnit) (w : ℕ) (p q : List Point) (bits : List Bool) → All (λ x. x.word < 2 ^ 64) p → All (λ x. x.word < 2 ^ 64) q → length p ≡ length q → BlockCode u w p bits → BlockCode u w q bits → p ≡ q

abbrev pub BlocksGiveBytes : Type 0
BlocksGiveBytes = (b : PointBlock) (x y : List ℕ) → IsBytes x → IsBytes y → IsBytesOf b x → IsBytesOf b y → x ≡ y

abbrev pub BytesGiveBlocks : Type 0
BytesGiveBlocks = (a b : PointBlock) (bytes : List ℕ) → IsBlock a → IsBlock b → a.unit ≡ b.unit → IsBytesOf a bytes → IsBytesOf b bytes → IsSame a b
