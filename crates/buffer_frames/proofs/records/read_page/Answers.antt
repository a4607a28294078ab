use Rattle.std.proofs.Common.{◌≡◌, ◌≤◌, ◌-◌, ◌*◌, ◌++◌, ℕ, List, length, take, min, replicate, ap, ◌∙◌, arith}
use Rattle.std.specs.Prelude.{vec_len}
use Rattle.buffer_frames.proofs.Paging.{page_read, cut_to}
use Rattle.buffer_frames.proofs.records.read_page.Goals as goal

pub returns-clause-bytes : goal.returns-clause-bytes
returns-clause-bytes g c = λ told.
    let file : List ℕ = (g.D.Disk.seen c.args.disk.now).pages in
    let buf : List ℕ = c.read.new.buf in
    let n : ℕ = c.in_ok-n.n in
    let got = c.in_ok-n.ensures.bytes told in
    let full : length buf ≡ 8192 =
    c.read.auto.buf ∙ c.deref_mut.ensures.len ∙ c.in_ok-bytes.bytes.ok.0 ∙ c.in_ok-bytes.ensures.size in
    let long : length buf ≡ c.in_ok-bytes.bytes.len = c.read.auto.buf ∙ c.deref_mut.ensures.len in
    let within : n ≤ length buf = omega (arith, got.0) in
    let size : vec_len c.truncate.new.self ≡ min n (length buf) = omega (arith, c.truncate.ensures.len, within, long) in
    c.from_vec.ensures ∙ c.in_ok-resize.ensures.items
    ∙ ap (λ (l : List ℕ). take 8192 l ++ replicate (8192 - vec_len c.truncate.new.self) 0)
    (c.truncate.ensures.items ∙ cut_to buf _ n _ within long)
    ∙ page_read file buf c.args.page _ n (vec_len c.truncate.new.self) full (ap (λ k. k * 8192) c.from.ensures) got.0
    got.1 size
