use Rattle.std.proofs.Common.{◌≡◌, ◌-◌, length, arith}
use Rattle.page_types.specs.Encoding.{body_bytes}
use Rattle.page_types.proofs.Framing.{zeros_are, stamp_is, size_is}
use Rattle.page_code.proofs.Sizes.{page_put}
use Rattle.page_code.proofs.writing.encode_page.Goals as goal

pub returns : goal.returns
returns c =
    let stamp = stamp_is c.to_le_bytes.result c.args.page.now.stamp c.to_le_bytes.ensures in
    let sum : c.put_body-end.result - 24 ≡ length (body_bytes c.args.page.now.body) =
    omega (arith, c.put_body-end.ensures.0) in
    let used = size_is c.to_le_bytes-2.result (c.put_body-end.result - 24)
    (length (body_bytes c.args.page.now.body)) c.to_le_bytes-2.ensures sum in
    page_put c.args.page.now c.to_le_bytes.result c.to_le_bytes-2.result c.fill.new.self c.put_body-end.new.out
    c.put_front.new.out c.put.new.out c.put-2.new.out c.requires.page.fits stamp used
    (zeros_are (length c.args.out.now) 8192 c.fill.new.self (c.fill.ensures.after (λ y h. h)) c.requires.size)
    c.put_body-end.ensures.1 c.put_front.ensures c.put.ensures c.put-2.ensures
