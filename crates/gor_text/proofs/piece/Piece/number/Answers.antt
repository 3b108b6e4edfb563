use Rattle.std.proofs.Common.{◌≡◌, ◌-◌, length, sym, ap, ◌∙◌, arith, length-drop, length-append}
use Rattle.std.proofs.lemmas.Fmt.{length-decimal-le}
use Rattle.std.specs.Prelude.{decimal}
use Rattle.gor_text.proofs.piece.Piece.number.Goals as goal

pub write_digits-self-inside-requires : goal.write_digits-self-inside-requires
write_digits-self-inside-requires c =
    let p = c.self.inside in
    let here : length c.args.self.now ≡ length p.bytes - p.start = sym (ap length c.self.view_is) ∙ length-drop p.start p.bytes in
    let short = length-decimal-le 20 c.args.number (omega arith) (omega (arith, c.ranges.number.fits)) c.ranges.number.fits in
    (omega (arith, short, here, c.self.told, c.requires.room, c.self.invariant), omega (arith, c.self.told, c.self.invariant))

pub returns-clause-len : goal.returns-clause-len
returns-clause-len c =
    let short = length-decimal-le 20 c.args.number (omega arith) (omega (arith, c.ranges.number.fits)) c.ranges.number.fits in
    let text = ap length c.write_digits-self-inside.ensures.written ∙ length-append (decimal c.args.number) _ in
    let here = ap length c.self.view_is in
    omega (arith, text, here, short)
