use Rattle.std.proofs.Common.{◌≡◌, ◌+◌, ◌-◌, ◌*◌, ◌%◌, ◌^◌, ◌≤◌, sym, ◌∙◌, arith, rules}
use Rattle.gor_model.specs.Codes.{window_for}
use Rattle.gor_values.proofs.WordLaws.{moved, moved_some}
use Rattle.gor_values.proofs.change.made_of.Goals as goal

pub is_made_by-requires : goal.is_made_by-requires
is_made_by-requires c =
    let room : c.args.lead + c.args.len ≤ 64 = omega (arith, c.if-lead-len-gt64.false) in
    let m = moved c.args.lead c.args.len c.args.piece room c.requires.fits in
    let other = c.if-piece-eq0.false in
    let some = moved_some c.args.piece (64 - c.args.lead - c.args.len) (omega arith) in
    omega (arith, m.2, some)

pub returns-clause-some : goal.returns-clause-some
returns-clause-some c =
    let room : c.args.lead + c.args.len ≤ 64 = omega (arith, c.if-lead-len-gt64.false) in
    let m = moved c.args.lead c.args.len c.args.piece room c.requires.fits in
    let other = c.if-piece-eq0.false in
    let some = moved_some c.args.piece (64 - c.args.lead - c.args.len) (omega arith) in
    let x = c.args.piece * 2 ^ (64 - c.args.lead - c.args.len) % 2 ^ 64 in
    let named : (c.args.lead ≡ (window_for x).lead) × (c.args.len ≡ (window_for x).len) = c.if-not-is_made_by.ensures.0 (search rules) in
    let d = c.if-is_held.false in
    let e = c.is_held.ensures in
    record {
      room = room;
      word = m.2;
      some = omega (arith, m.2, some);
      small = omega (arith, m.2, m.1);
      lead_is = named.0;
      len_is = named.1;
      unfit = sym e ∙ d;
    }
