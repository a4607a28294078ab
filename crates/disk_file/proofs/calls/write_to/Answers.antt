use Rattle.std.proofs.Common.{◌≡◌, ℕ, ◌+◌, true, List, length, drop, ap, arith, length-drop}
use Rattle.std.proofs.lemmas.List.{take_rest}
use Rattle.disk_trait.specs.declared.device.File.{File}
use Rattle.disk_file.specs.Folder.{FolderState, OnlyTears}
use Rattle.disk_file.specs.Inner.Turns.{HasWritten}
use Rattle.disk_file.proofs.Steps.{tears_then}
use Rattle.disk_file.proofs.Putting.{put_more}
use Rattle.disk_file.proofs.calls.write_to.Goals as goal

-- what was written, and then the rest of it torn
tears_rest : (tells : Type 0) (locked : File → Type 0) (at put : ℕ) (bytes part : List ℕ) (a b c : FolderState)
    → part ≡ drop put bytes → HasWritten tells locked at put bytes a b
    → ((f : File) → locked f → OnlyTears tells f (at + put) (length part) b c)
    → (f : File) → locked f → OnlyTears tells f at (length bytes) a c
tears_rest tells locked at put bytes part a b c rest was torn f is =
    tears_then tells f at (length bytes) (at + put) (length part) a b c (omega arith)
    (omega (arith, was.within, ap length rest, length-drop put bytes)) (was.tears f is) (torn f is)

pub returns-in-Ok-eq0-clause-tears : goal.returns-in-Ok-eq0-clause-tears
returns-in-Ok-eq0-clause-tears g c =
    tears_rest g.F.HostFolder.tells
    (λ f. g.F.HostFolder.locks c.args.handle.now f ≡ true) c.args.at c.loop-put.put c.args.bytes.now _ _ _ _
    (take_rest c.args.bytes.now c.loop-put.put) c.loop-put.invariant c.write_once.ensures.tears

pub returns-in-Err-clause-tears : goal.returns-in-Err-clause-tears
returns-in-Err-clause-tears g c =
    tears_rest g.F.HostFolder.tells
    (λ f. g.F.HostFolder.locks c.args.handle.now f ≡ true) c.args.at c.loop-put.put c.args.bytes.now _ _ _ _
    (take_rest c.args.bytes.now c.loop-put.put) c.loop-put.invariant c.write_once.ensures.tears

pub loop-put-preserved : goal.loop-put-preserved
loop-put-preserved g c = record {
  within = omega (
    arith,
    c.loop-put.invariant.within,
    c.in-Ok.ensures.bound,
    ap length (take_rest c.args.bytes.now c.loop-put.put),
    length-drop c.loop-put.put c.args.bytes.now,
  );
  tears = tears_rest g.F.HostFolder.tells
      (λ f. g.F.HostFolder.locks c.args.handle.now f ≡ true) c.args.at c.loop-put.put c.args.bytes.now _ _ _ _
      (take_rest c.args.bytes.now c.loop-put.put) c.loop-put.invariant c.write_once.ensures.tears;
  later = λ told. omega (arith, c.loop-put.invariant.later told, (c.write_once.ensures.errors told).later);
  written = λ told f is.
      put_more f c.args.at c.loop-put.put c.in-Ok.n c.args.bytes.now _ _ _ _ c.loop-put.invariant.within (take_rest
      c.args.bytes.now c.loop-put.put) (c.loop-put.invariant.written told f is) (c.in-Ok.ensures.written told f is);
}
