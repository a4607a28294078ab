use Rattle.ginsh.proofs.answer.Goals as goal

pub returns : goal.returns
returns g c = record {
  script = c.new-script.result;
  out = c.new-out.result;
  disk = c.new-disk.result;
  from = record { over = c.new-script.ensures.0; no_fault = c.new-script.ensures.1 };
  into = record { over = c.new-out.ensures.0; no_fault = c.new-out.ensures.1 };
  new = record {
    over = c.new-disk.ensures.over;
    closed = c.new-disk.ensures.closed;
    no_fault = c.new-disk.ensures.counts;
  };
  meets = c.run_shell.ensures;
}
