use Rattle.std.proofs.Common.{◌≡◌, ◌++◌, ◌+◌, length, ap, ◌∙◌, arith}
use Rattle.std.proofs.lemmas.List.{length-append}
use Rattle.page_types.proofs.Framing.{page_written, zeros_are, stamp_is, size_is, length-u64_bytes, length-u16_bytes}
use Rattle.page_types.proofs.edits.put_page.Goals as goal

pub returns : goal.returns
returns c =
    let stamp = stamp_is c.to_le_bytes.result c.args.number c.to_le_bytes.ensures in
    let sum : length c.args.before.now + length c.args.new.now + length c.args.behind.now
    ≡ length (c.args.before.now ++ (c.args.new.now ++ c.args.behind.now)) =
    omega (
      arith,
      length-append c.args.before.now (c.args.new.now ++ c.args.behind.now),
      length-append c.args.new.now c.args.behind.now,
    ) in
    let used =
    size_is c.to_le_bytes-2.result (length c.args.before.now + length c.args.new.now + length c.args.behind.now)
    (length (c.args.before.now ++ (c.args.new.now ++ c.args.behind.now))) c.to_le_bytes-2.ensures sum in
    page_written c.args.front.now c.to_le_bytes.result c.to_le_bytes-2.result c.args.before.now c.args.new.now
    c.args.behind.now c.fill.new.self c.put.new.out c.put-2.new.out c.put-3.new.out c.put-4.new.out c.put-5.new.out
    c.put-6.new.out c.args.number
    (record {
      front_size = omega arith;
      stamp_size = ap length stamp ∙ length-u64_bytes c.args.number;
      used_size =
          ap length used ∙ length-u16_bytes (length (c.args.before.now ++ (c.args.new.now ++ c.args.behind.now)));
      start = zeros_are (length c.args.out.now) 8192 c.fill.new.self (c.fill.ensures.after (λ y h. h)) c.requires.size;
      first = c.put.ensures;
      second = c.put-2.ensures;
      third = c.put-3.ensures;
      fourth = c.put-4.ensures;
      fifth = c.put-5.ensures;
      sixth = c.put-6.ensures;
    }) stamp used
