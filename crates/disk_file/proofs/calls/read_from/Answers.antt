use Rattle.std.proofs.Common.{◌+◌, ◌-◌, ◌∙◌, sym, ap, length, take, drop, arith}
use Rattle.std.proofs.lemmas.List.{drop-drop}
use Rattle.disk_trait.specs.Files.{file_bytes}
use Rattle.disk_file.proofs.Steps.{looks_then}
use Rattle.disk_file.proofs.Putting.{read_more, within_more}
use Rattle.disk_file.proofs.calls.read_from.Goals as goal

pub loop-got-preserved : goal.loop-got-preserved
loop-got-preserved g c = record {
  within = within_more c.loop-got.got c.in-Ok.n (length c.loop-got.buf - c.loop-got.got) c.loop-got.buf
      c.read_once.new.buf c.loop-got.invariant.within c.in-Ok.ensures.bound.0;
  looks = looks_then g.F.HostFolder.tells _ _ _ c.loop-got.invariant.looks c.read_once.ensures.looks;
  later = λ told. omega (arith, c.loop-got.invariant.later told, (c.read_once.ensures.errors told).later);
  no_more = λ told f is. omega (
    arith,
    (c.in-Ok.ensures.bytes told f is).within,
    ap (λ s. length (file_bytes f s)) (c.loop-got.invariant.looks.seen told),
  );
  bytes = λ told f is.
      read_more c.loop-got.got c.in-Ok.n (length c.loop-got.buf - c.loop-got.got) c.loop-got.buf c.read_once.new.buf
      (drop c.args.at (file_bytes f (g.F.HostFolder.state c.args.folder.now).seen)) c.loop-got.invariant.within
      c.in-Ok.ensures.bound.0
      (c.loop-got.invariant.bytes told f is)
      ((c.in-Ok.ensures.bytes told f is).same ∙ ap (λ s. take c.in-Ok.n (drop (c.args.at + c.loop-got.got)
      (file_bytes f s))) (c.loop-got.invariant.looks.seen told) ∙ ap (take c.in-Ok.n)
      (sym (drop-drop c.loop-got.got c.args.at (file_bytes f (g.F.HostFolder.state c.args.folder.now).seen))));
}
