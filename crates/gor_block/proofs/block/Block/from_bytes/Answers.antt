use Rattle.std.proofs.Common.{◌≡◌, true, false, ap, ◌∙◌, subst, arith}
use Rattle.std.proofs.lemmas.List.{take_rest}
use Rattle.std.proofs.lemmas.Result.{err_from_is_err_and}
use Rattle.gor_bits.specs.Spelled.{bits_of}
use Rattle.gor_model.specs.declared.unit.Unit.{Unit as TimeUnit}
use Rattle.gor_block.specs.Decoded.{decoded}
use Rattle.gor_block.specs.PointBlock.{PointBlock, IsBlock, IsBytesOf}
use Rattle.gor_block.specs.Faults.{IsHeaded}
use Rattle.gor_block.proofs.BlockLaws.{chain_block}
use Rattle.gor_block.proofs.BytesLaws.{IsRaw, headed_of, raw_whole, raw_padded, raw_bytes, raw_same, code_fault, end_fault, shown_as}
use Rattle.gor_block.proofs.block.Block.from_bytes.Goals as goal

pub returns-in_err-header-clause-found : goal.returns-in_err-header-clause-found
returns-in_err-header-clause-found c = λ b block unit spelled.
    let headed : IsHeaded c.args.unit c.args.bytes.now = subst (λ (k : TimeUnit). IsHeaded k c.args.bytes.now) unit (headed_of b c.args.bytes.now block spelled) in
    let no : false ≡ true = c.in_err-header.ensures.found headed in
    absurd (cc)

pub returns-in_err-ending-clause-found : goal.returns-in_err-ending-clause-found
returns-in_err-ending-clause-found c = λ b block unit spelled.
    let bytes = c.args.bytes.now in
    let h = c.in_ok-header.header in
    let raw : IsRaw c.args.unit bytes h.window h.count c.in_ok-bits.bits.bits =
    record { headed = c.in_ok-header.ensures.whole; window = c.in_ok-header.ensures.window; count_is = c.in_ok-header.ensures.count; bits_is = c.in_ok-bits.ensures ∙ ap bits_of (take_rest bytes 8) } in
    let no : false ≡ true = c.in_err-ending.ensures.found (raw_whole c.args.unit bytes h.window h.count c.in_ok-bits.bits.bits b raw (record { block = block; unit = unit; spelled = spelled })) in
    absurd (cc)

pub returns-in_err-ending-clause-err : goal.returns-in_err-ending-clause-err
returns-in_err-ending-clause-err c =
    let bytes = c.args.bytes.now in
    let h = c.in_ok-header.header in
    let raw : IsRaw c.args.unit bytes h.window h.count c.in_ok-bits.bits.bits =
    record { headed = c.in_ok-header.ensures.whole; window = c.in_ok-header.ensures.window; count_is = c.in_ok-header.ensures.count; bits_is = c.in_ok-bits.ensures ∙ ap bits_of (take_rest bytes 8) } in
    let e = err_from_is_err_and c.from_residual-in_err-ending.result c.from_residual-in_err-ending.ensures.1 in
    rw (e.1, e.2) (code_fault c.args.unit bytes h.window h.count c.in_ok-bits.bits.bits _ raw c.in_err-ending.ensures.err)

pub returns-in_err-check_padding-clause-found : goal.returns-in_err-check_padding-clause-found
returns-in_err-check_padding-clause-found c = λ b block unit spelled.
    let bytes = c.args.bytes.now in
    let h = c.in_ok-header.header in
    let raw : IsRaw c.args.unit bytes h.window h.count c.in_ok-bits.bits.bits =
    record { headed = c.in_ok-header.ensures.whole; window = c.in_ok-header.ensures.window; count_is = c.in_ok-header.ensures.count; bits_is = c.in_ok-bits.ensures ∙ ap bits_of (take_rest bytes 8) } in
    let e = c.in_ok-ending.ending in
    let read = c.in_ok-ending.ensures.ok in
    let no : false ≡ true =
    c.in_err-check_padding.ensures.found (raw_padded c.args.unit bytes h.window h.count c.in_ok-bits.bits.bits b e.at e.running raw (record { block = block; unit = unit; spelled = spelled }) read) in
    absurd (cc)

pub returns-in_err-check_padding-clause-err : goal.returns-in_err-check_padding-clause-err
returns-in_err-check_padding-clause-err c =
    let bytes = c.args.bytes.now in
    let h = c.in_ok-header.header in
    let raw : IsRaw c.args.unit bytes h.window h.count c.in_ok-bits.bits.bits =
    record { headed = c.in_ok-header.ensures.whole; window = c.in_ok-header.ensures.window; count_is = c.in_ok-header.ensures.count; bits_is = c.in_ok-bits.ensures ∙ ap bits_of (take_rest bytes 8) } in
    let e = c.in_ok-ending.ending in
    let read = c.in_ok-ending.ensures.ok in
    let r = err_from_is_err_and c.from_residual-in_err-check_padding.result c.from_residual-in_err-check_padding.ensures.1 in
    rw (r.1, r.2) (end_fault c.args.unit bytes h.window h.count c.in_ok-bits.bits.bits e.at e.running _ raw read c.in_err-check_padding.ensures.err)

pub returns-clause-bytes : goal.returns-clause-bytes
returns-clause-bytes c =
    let bytes = c.args.bytes.now in
    let h = c.in_ok-header.header in
    let raw : IsRaw c.args.unit bytes h.window h.count c.in_ok-bits.bits.bits =
    record { headed = c.in_ok-header.ensures.whole; window = c.in_ok-header.ensures.window; count_is = c.in_ok-header.ensures.count; bits_is = c.in_ok-bits.ensures ∙ ap bits_of (take_rest bytes 8) } in
    let e = c.in_ok-ending.ending in
    let read = c.in_ok-ending.ensures.ok in
    let found = c.ending_at.result in
    let points = decoded c.args.unit h.window h.count c.in_ok-bits.bits.bits in
    shown_as (λ (b : PointBlock). IsBytesOf b bytes) c.args.unit h.window points found c.ending_at.ensures.unit c.ending_at.ensures.window c.ending_at.ensures.points
    (raw_bytes c.args.unit bytes h.window h.count c.in_ok-bits.bits.bits e.at e.running found.room (λ i. (c.type_inv.bytes i).fits) raw read c.in_ok-check_padding.ensures.ok)

pub returns-clause-sound : goal.returns-clause-sound
returns-clause-sound c =
    let bytes = c.args.bytes.now in
    let h = c.in_ok-header.header in
    let raw : IsRaw c.args.unit bytes h.window h.count c.in_ok-bits.bits.bits =
    record { headed = c.in_ok-header.ensures.whole; window = c.in_ok-header.ensures.window; count_is = c.in_ok-header.ensures.count; bits_is = c.in_ok-bits.ensures ∙ ap bits_of (take_rest bytes 8) } in
    let e = c.in_ok-ending.ending in
    let read = c.in_ok-ending.ensures.ok in
    let found = c.ending_at.result in
    let points = decoded c.args.unit h.window h.count c.in_ok-bits.bits.bits in
    shown_as (λ (b : PointBlock). IsBlock b) c.args.unit h.window points found c.ending_at.ensures.unit c.ending_at.ensures.window c.ending_at.ensures.points
    (chain_block c.args.unit h.window points found.room (omega (arith, raw.window, raw.headed.window)) read.whole.chain)

pub returns-clause-found : goal.returns-clause-found
returns-clause-found c = λ b block unit spelled.
    let bytes = c.args.bytes.now in
    let h = c.in_ok-header.header in
    let raw : IsRaw c.args.unit bytes h.window h.count c.in_ok-bits.bits.bits =
    record { headed = c.in_ok-header.ensures.whole; window = c.in_ok-header.ensures.window; count_is = c.in_ok-header.ensures.count; bits_is = c.in_ok-bits.ensures ∙ ap bits_of (take_rest bytes 8) } in
    raw_same c.args.unit bytes h.window h.count c.in_ok-bits.bits.bits c.ending_at.result b raw (record { block = block; unit = unit; spelled = spelled }) c.ending_at.ensures.unit c.ending_at.ensures.window c.ending_at.ensures.points
