-- What is freed at the end of a run of steps.
use Rattle.std.proofs.Common.{◌≡◌, ◌≤◌, ◌-◌, ℕ, List, ◌++◌, length, take, drop, sym, ap, subst, ◌∙◌, arith}
use Rattle.std.proofs.lemmas.List.{take_all}
use Rattle.std.specs.Prelude.{None}
use Rattle.disk_trait.specs.declared.device.Disk.{Ghosts as Disk}
use Rattle.page_types.specs.declared.page.Head.{Head}
use Rattle.core_state.specs.Log.{Log, Pages, In, Shows, cut}
use Rattle.core_state.specs.Documents.{Doc, Has, head_of, doc_at, placed}
use Rattle.core_state.specs.Legal.{IsLegal}
use Rattle.core_state.specs.Standing.{DocumentsHold}
use Rattle.core_state.proofs.NeverAgain.{placed_then, never_again}
use Rattle.buffer_frames.specs.Frames.{FramesValue}
use Rattle.buffer_frames.specs.Passes.{IsPassOf}
use Rattle.buffer_frames.specs.declared.pass.Pass.{Pass}
use Rattle.buffer_frames.proofs.AtHand.{cut_length, log_length, parts_of}
use Rattle.buffer_frames.proofs.FirstLogs.{shown_by}
use Rattle.buffer_frames.proofs.HistoryParts.{legal_before}
use Rattle.gin_place.proofs.Carrying.{cut_cut}
use Rattle.gin_vacuum.specs.Vacuum.{AreOut, AreFreedSince}
use Rattle.gin_vacuum.specs.Freeing.{WasFree, IsFreeing}
use Rattle.gin_vacuum.specs.declared.freeing.Freeing.{Freeing}
use Rattle.gin_vacuum.proofs.OutOn.{none_some}

legal_cut : (n : ℕ) (R : Log) → IsLegal R → IsLegal (cut n R)
legal_cut n R legal = legal_before (take (length R - n) R) (cut n R) (subst IsLegal (parts_of n R) legal)

-- the log when it had so many records, from when it had fewer
parts_then : (n m : ℕ) (R : Log) → n ≤ m → m ≤ length R
    → cut m R ≡ take (length (cut m R) - n) (cut m R) ++ cut n R
parts_then n m R le most =
    parts_of n (cut m R) ∙ ap (λ (T : Log). take (length (cut m R) - n) (cut m R) ++ T) (cut_cut n m R le most)

-- a document whose slot was free at some time has it no more
gone_since : DocumentsHold → (began m : ℕ) (R : Log) (P F Q : Pages) (d : Doc) (h k : Head) → began ≤ m
    → m ≤ length R → IsLegal R → Shows (cut began R) P → Shows (cut m R) F → Shows R Q → head_of F d.item ≡ None
    → Has P d h → Has Q d k → ⊥
gone_since law began m R P F Q d h k le most legal shown shown_then shown_now free had has =
    let first : In d (placed (cut began R) h.inserted_by) =
    subst (λ (n : ℕ). In (doc_at d.item n) (placed (cut began R) h.inserted_by)) had.serial
    ((law (cut began R) P (legal_cut began R legal) shown).inserted d.item h had.at) in
    let then : In d (placed (cut m R) h.inserted_by) =
    subst (λ (T : Log). In d (placed T h.inserted_by)) (sym (parts_then began m R le most))
    (placed_then (take (length (cut m R) - began) (cut m R)) (cut began R) h.inserted_by d first) in
    let all = subst IsLegal (parts_of m R) legal in
    never_again (take (length R - m) R) (cut m R) F Q h.inserted_by d all.valid shown_then
    (subst (λ (T : Log). Shows T Q) (parts_of m R) shown_now) then
    (λ g has_then. none_some g (head_of F d.item) free has_then.at) k has

module _ {D : Type 0} (device : Disk D) where
  -- at the start no slot is free
  pub begun : (f : FramesValue D) (p : Pass) (items : List ℕ) (c : Freeing) → c.from ≡ 0 → AreOut device f p items
      → IsFreeing device f p p.seen items c
  begun f p items c start out = record {
    began_at = omega arith;
    within = omega (arith, start);
    out = subst (λ (n : ℕ). AreOut device f p (drop n items)) (sym start) out;
    freed = λ t up R stands legal P shown i at.
        absurd (subst (λ (n : ℕ). In i (take n items)) start at);
  }

  -- where no item is left, no document has a slot any more that it had
  pub freed_since : DocumentsHold → (f : FramesValue D) (p : Pass) (began : ℕ) (items : List ℕ) (c : Freeing)
      → IsPassOf f p → length items ≤ c.from → IsFreeing device f p began items c
      → AreFreedSince device began items f
  freed_since law f p began items c of ends x t up R stands legal P Q shown shown_now d h k i had has =
      let long = log_length device f.journal R stands.journal in
      let within : p.seen ≤ length R = omega (arith, of.seen, long) in
      let size : length (cut p.seen R) ≡ p.seen = cut_length p.seen R within in
      let S = shown_by (cut p.seen R) (legal_cut p.seen R legal).valid in
      let w : WasFree began (cut p.seen R) d.item =
      x.freed t up R stands legal S.0 S.1 d.item
      (subst (In d.item) (sym (take_all c.from items ends)) i) in
      let le : w.length_then ≤ p.seen = omega (arith, w.within, size) in
      gone_since law began w.length_then R P w.pages Q d h k w.since (omega (arith, le, within)) legal shown
      (subst (λ (T : Log). Shows T w.pages) (cut_cut w.length_then p.seen R le within) w.shown) shown_now w.free had has
