use Rattle.std.proofs.Common.{arith}
use Rattle.page_code.proofs.PageLaws.{is_found, is_read}
use Rattle.page_code.proofs.pages.decode_page.Goals as goal

pub returns-clause-found : goal.returns-clause-found
returns-clause-found c =
    is_found c.args.bytes.now c.read_page.result (λ i. omega (arith, c.type_inv.bytes i)) c.read_page.ensures

pub returns-clause-only : goal.returns-clause-only
returns-clause-only c = is_read c.args.bytes.now c.read_page.result c.read_page.ensures
