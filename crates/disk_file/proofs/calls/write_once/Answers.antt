use Rattle.std.proofs.Common.{◌∙◌, sym, length, rules}
use denote.Enum.Bare.{same_true}
use Rattle.std.specs.contracts.io.ErrorKind.{the_type}
use Rattle.disk_file.proofs.Steps.{tears_again}
use Rattle.disk_file.proofs.calls.write_once.Goals as goal

pub returns-in_default-clause-tears : goal.returns-in_default-clause-tears
returns-in_default-clause-tears g c = λ f is.
    tears_again g.F.HostFolder.tells f c.args.at (length c.args.bytes.now) _ _ _ (c.loop.invariant.tears f is)
    (c.write_at.ensures.tears f is)

pub returns-in_default-2-clause-tears : goal.returns-in_default-2-clause-tears
returns-in_default-2-clause-tears g c = λ f is.
    tears_again g.F.HostFolder.tells f c.args.at (length c.args.bytes.now) _ _ _ (c.loop.invariant.tears f is)
    (c.write_at.ensures.tears f is)

pub loop-preserved : goal.loop-preserved
loop-preserved g c = record {
  seen = λ told.
      c.in-Err.ensures.interrupted told
      (sym c.kind.ensures ∙ same_true the_type (search rules) _ _ (sym c.if-eq.ensures))
      ∙ c.loop.invariant.seen told;
  tears = λ f is. tears_again g.F.HostFolder.tells f c.args.at (length c.args.bytes.now) _ _ _
      (c.loop.invariant.tears f is) (c.write_at.ensures.tears f is);
  errs = search rules;
}
