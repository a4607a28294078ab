use Rattle.std.proofs.Common.{◌≡◌, ◌≢◌, ◌∙◌, ◌+◌, ◌≤◌, ap, sym, List, ℕ, get_or, take, drop, length, arith, refl}
use Rattle.disk_trait.specs.Files.{Files}
use Rattle.wal.specs.Reading.{IsLengthAt}
use Rattle.wal.proofs.Walking.{ended, settled, passed}
use Rattle.wal.proofs.log.Wal.read_batch.Goals as goal

pub returns-in_default-clause-end : goal.returns-in_default-clause-end
returns-in_default-clause-end g c = λ told batches reading _.
    let log : List ℕ = (g.D.Disk.seen c.args.disk.now).log in
    let size : length log ≡ c.args.self.now.size = sym reading.size in
    let unset : get_or log c.args.self.now.end 0 ≢ 1 = rw c.in_default.is at (c.in_ok-len.ensures.closed told size) in
    (ended c.args.self.now log batches reading (c.args.self.now.inside reading.on) unset, reading.place)

pub returns-in_default-clause-settled : goal.returns-in_default-clause-settled
returns-in_default-clause-settled g c = λ told batches reading log_is _.
    let log : List ℕ = (g.D.Disk.seen c.args.disk.now).log in
    let size : length log ≡ c.args.self.now.size = sym reading.size in
    let unset : get_or log c.args.self.now.end 0 ≢ 1 = rw c.in_default.is at (c.in_ok-len.ensures.closed told size) in
    settled g.D.Disk _ _ told c.next_length.ensures.keeps log batches c.args.self.now.end
    (ended c.args.self.now log batches reading (c.args.self.now.inside reading.on) unset) reading.place log_is

pub returns-clause-given : goal.returns-clause-given
returns-clause-given g c = λ told batches reading.
    let log : List ℕ = (g.D.Disk.seen c.args.disk.now).log in
    let end : ℕ = c.args.self.now.end in
    let n : ℕ = c.in-Some.len in
    let size : length log ≡ c.args.self.now.size = sym reading.size in
    let same = ap (λ (f : Files). f.log) (c.next_length.ensures.keeps.same told) in
    let has : (get_or log end 0 ≡ 1) × IsLengthAt log end n = rw c.in-Some.is at (c.in_ok-len.ensures.open told size) in
    let room = rw c.in-Some.is at c.in_ok-len.ensures.size in
    let within : end + 5 + n ≤ length (g.D.Disk.seen c.next_length.new.disk).log =
    omega (arith, room, ap length same, size) in
    let is : c.read_into.new.out.items ≡ take n (drop (end + 5) log) =
    c.in_ok-read_into.ensures.bytes told within ∙ ap (λ (l : List ℕ). take n (drop (end + 5) l)) same in
    passed c.args.self.now _ log batches n c.read_into.new.out.items reading reading.on refl refl has.0 has.1 room.0
    room.2 is c.in_ok-read_into.ensures.len
