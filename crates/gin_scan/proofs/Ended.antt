-- The end of a scan, and what it has found then.
use Rattle.std.proofs.Common.{◌≡◌, ◌≢◌, ℕ, Bool, true, false, List, [], ◌∷◌, ◌++◌, length, map, take, refl, sym, ap}
use Rattle.std.proofs.Common.{subst, ◌∙◌, arith, AllPairs, append-nil}
use Rattle.std.specs.Prelude.{Some, None, MatchOption, slice_set}
use Rattle.std.proofs.lemmas.List.{take_all, drop_all}
use Rattle.std.proofs.lemmas.List.Kept.{AllPairs-cons}
use Rattle.disk_trait.specs.declared.device.Disk.{Ghosts as Disk}
use Rattle.ts_base.specs.Vectors.{Vector}
use Rattle.page_types.specs.declared.page.Name.{Name}
use Rattle.core_state.specs.Log.{Log}
use Rattle.core_state.specs.History.{History, docs}
use Rattle.core_state.specs.Legal.{Pin}
use Rattle.core_state.proofs.SnapshotOrder.{apart_rise}
use Rattle.core_state.proofs.Trees.Members.{in_map}
use Rattle.gin_opclass.specs.Class.{Meaning, JudgeIsSound}
use Rattle.buffer_frames.specs.Frames.{FramesValue, Stands, Behind}
use Rattle.buffer_frames.specs.Passes.{IsPassOf, HasAdded, KeepsAllButPin, pin_in}
use Rattle.buffer_frames.specs.declared.pass.Pass.{Pass}
use Rattle.buffer_frames.specs.declared.pass.Pinned.{Pinned}
use Rattle.gin_scan.specs.Calls.{AddsNothing, GivesUp, EndsReading}
use Rattle.gin_scan.specs.Finding.{IsFound, HasFound}
use Rattle.gin_scan.specs.Taking.{AreTaken, first_items, names_of}
use Rattle.gin_scan.specs.Held.{AreLong, ArePages}
use Rattle.gin_scan.specs.Scanning.{HasRead, IsScanOf, Scanning, IsAtEnd}
use Rattle.gin_scan.specs.declared.scan_core.ScanCore.{ScanCore}
use Rattle.gin_scan.specs.declared.found.Found.{Found}
use Rattle.gin_scan.specs.declared.stage.LongVector.{LongVector}
use Rattle.gin_scan.proofs.FoundNames.{of_name}
use Rattle.gin_scan.proofs.Finished.{all_found}
use Rattle.gin_scan.proofs.GoingOn.{kept_pin}
use Rattle.gin_scan.proofs.HeldPages.{pages_since}
use Rattle.gin_scan.proofs.PinCalls.{unpin_once, keeps_work, lie_still}
use Rattle.gin_scan.proofs.PinLaws.{pin_laws}
use Rattle.gin_scan.proofs.ReadCalls.{adds_once, still_works}
use Rattle.gin_scan.proofs.StepsTaken.{same_log}
use Rattle.gin_scan.proofs.TakingMore.{in_all, head_apart, tail_apart}

module _ {D : Type 0} (device : Disk D) (s : ScanCore) where
  -- the pass keeps the snapshot, which it had
  pub ends_still : (f : FramesValue D) (p : Pass) → s.took_pin ≡ false → IsPassOf f p → p.held ≡ 0
      → EndsReading device s f p f p
  ends_still f p took of none = record {
    is_pass = of;
    held = none;
    adds = AddsNothing.stays;
    journal = refl;
    lying = λ n c l. l;
    keeps = still_works device p;
    holds = refl;
    pin = subst (λ (b : Bool). GivesUp b f p f p) (sym took) (refl, refl);
  }

  -- it gives up what the scan took
  pub ends_unpinned : (f f' : FramesValue D) (p p' : Pass) → s.took_pin ≡ true → p.held ≡ 0 → IsPassOf f' p'
      → p'.pin ≡ None
      → MatchOption p.pin (f'.pins ≡ f.pins) (λ (z : Pinned). f'.pins ≡ slice_set f.pins z.place None)
      → KeepsAllButPin device f f' p p' → EndsReading device s f p f' p'
  ends_unpinned f f' p p' took none of gone pins k = record {
    is_pass = of;
    held = k.same.0 ∙ none;
    adds = adds_once device f f' (unpin_once device f f' p.pin pins k.added k.begins k.journal);
    journal = k.journal;
    lying = lie_still f f' k.others;
    keeps = keeps_work p p' k.same.2 k.same.1 k.right.0 k.rises;
    holds = k.holds;
    pin = subst (λ (b : Bool). GivesUp b f p f' p') (sym took) (gone, pins);
  }

-- ── what it has found ──

apart_long : (ns : List Name) (ls : List LongVector)
    → AllPairs (λ (a b : Name). a.serial ≢ b.serial) (ns ++ names_of ls)
    → AllPairs (λ (l m : LongVector). l.name.serial ≢ m.name.serial) ls
apart_long (n ∷ ns) ls h = apart_long ns ls (tail_apart n (ns ++ names_of ls) h)
apart_long [] [] h = λ i j d lt within. absurd (omega (arith, lt, within))
apart_long [] (l ∷ ls) h =
    AllPairs-cons (λ (l m : LongVector). l.name.serial ≢ m.name.serial) l ls
    (in_all (λ (m : LongVector). l.name.serial ≢ m.name.serial) ls (λ m i. head_apart l.name (names_of ls) h m.name
    (in_map (λ (v : LongVector). v.name) m ls i))) (apart_long [] ls (tail_apart l.name (names_of ls) h))

-- the vectors that waited
long_of : (P : Vector → Type 0) (R : Log) (pin : Pin) (H : History) (items : List ℕ) (names : List Name)
    (long : List LongVector) → AreTaken P R pin H items names long → AreLong R pin H items long
long_of P R pin H items names long t = record { each = t.waits; once = apart_long names long t.once }

pub has_found : {D Q : Type 0} (device : Disk D) (M : Meaning Q) (sound : JudgeIsSound M) (q : Q)
    (f f' : FramesValue D) (pass : Pass) (s : ScanCore) (found : Found) → IsPassOf f pass
    → HasAdded device f f' [] → IsAtEnd s → Scanning device M q f pass s → found.names ≡ s.names
    → found.heads_read ≡ s.heads_read → found.candidates ≡ length s.kept.items → found.pages_read ≡ s.pages_read
    → Behind device f' (λ (R : Log). (pin : Pin) → pin_in pass.pin ≡ Some pin
    → HasFound M q R pin found)
has_found device M sound q f f' pass s found of added end scan names heads count pages told up R' stands legal
    pin e =
    let up_old = added.was_up up in
    let b = added.back told up R' stands in
    let one : R' ≡ b.0 = same_log f.journal.owes b.0 R' b.2 in
    let old : Stands device f R' = subst (Stands device f) (sym one) b.1 in
    let keeps = kept_pin device f pass R' pin of told up_old old legal e in
    let o : IsScanOf M q R' pin s = scan told up_old R' old legal pin e in
    let had = subst (HasRead M q R' pin o.from s) end o.read in
    let all : first_items (length s.kept.items) s.kept.items ≡ map (λ (k : ℕ × Bool). k.0) s.kept.items =
    ap (map (λ (k : ℕ × Bool). k.0)) (take_all (length s.kept.items) s.kept.items (omega arith)) in record {
      names = λ H history.
          let t : AreTaken (M.satisfies q) R' pin H (first_items (length s.kept.items) s.kept.items) s.names.items [] =
          subst (λ ls. AreTaken (M.satisfies q) R' pin H (first_items (length s.kept.items) s.kept.items)
          s.names.items ls) (drop_all (length s.long.items) s.long.items (omega arith)) (had.1 H history) in
          subst (λ ns. IsFound (M.satisfies q)
          (docs (take pin.commits H)) ns.items) (sym names)
          (all_found M sound q R' pin legal keeps o.from s had.0 had.1 H history
          (pin_laws R' pin H legal keeps history).rise
          (apart_rise of_name s.names.items had.3 (subst (AllPairs (λ (a b : Name). a.serial ≢ b.serial))
          (append-nil s.names.items) t.once)));
      walk = had.0.walk;
      is_walk = had.0.is_walk;
      kept = s.kept.items;
      are_kept = had.0.kept;
      candidates = count;
      heads_read = omega (arith, heads, count, had.2);
      long = s.long.items;
      are_long = λ H history.
          subst (λ (is : List ℕ). AreLong R' pin H is s.long.items) all
          (long_of (M.satisfies q) R' pin H (first_items (length s.kept.items) s.kept.items) had.5.names s.long.items
          (had.5.taken H history));
      pages_read = subst (λ (n : ℕ). ArePages R' pin.length had.0.walk
          (map (λ (k : ℕ × Bool). k.0) s.kept.items) s.long.items n) (sym pages)
          (subst (λ (is : List ℕ). ArePages R' pin.length had.0.walk is s.long.items s.pages_read) all
          (pages_since R' o.from had.0.walk pin.length (first_items (length s.kept.items) s.kept.items) s.long.items
          s.pages_read o.since had.4));
    }
