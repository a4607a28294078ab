use Rattle.std.proofs.Common.{◌≡◌, ◌-◌, []}
use Rattle.record_code.specs.Reading.{changes_at}
use Rattle.record_code.proofs.records.changes_of.Given as goal

abbrev pub invariant-loop : goal.invariant-loop
invariant-loop l = changes_at l.number (l.count - l.counter) l.changes l.rest ≡ changes_at l.number l.count [] l.bytes
