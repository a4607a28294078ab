-- What calls add to the log, and what calls one after another do.
use Rattle.std.proofs.Common.{◌≡◌, ℕ, Bool, false, List, [], ◌∷◌, ◌++◌, length, map, refl, sym, ap, subst, ◌∙◌, arith}
use Rattle.std.proofs.Common.{append_assoc, length-append}
use Rattle.std.specs.Prelude.{None, reverse}
use Rattle.std.proofs.lemmas.List.{reverse-append, map-append}
use Rattle.disk_trait.specs.Runs.{images_now}
use Rattle.disk_trait.specs.declared.device.Disk.{Ghosts as Disk}
use Rattle.wal.specs.Waiting.{down_of}
use Rattle.page_types.specs.Records.{kind_number}
use Rattle.page_types.specs.declared.record.Record.{Record}
use Rattle.core_state.specs.Log.{Log}
use Rattle.buffer_frames.specs.NoStore.{CountedAreOne}
use Rattle.buffer_frames.specs.Frames.{FramesValue, Stands, AreFrames}
use Rattle.buffer_frames.specs.Passes.{kinds_of, before_more, still_owed, GoesOnBy, HasAdded}
use Rattle.buffer_frames.proofs.Beginning.{stands_one}

-- a log goes on by no record
pub on_by_none : (owes : Bool) (R : Log) → GoesOnBy owes R R []
on_by_none owes R = record { added = []; log_is = refl; kinds_are = refl }

-- the kinds of more records
kinds_more : (rs ss : Log) → kinds_of (ss ++ rs) ≡ kinds_of rs ++ kinds_of ss
kinds_more rs ss =
    ap (map (λ (r : Record). kind_number r.kind)) (reverse-append ss rs)
    ∙ map-append (λ (r : Record). kind_number r.kind) (reverse rs) (reverse ss)

-- where no kind was added no record was
pub none_by_kinds : (rs : Log) → kinds_of rs ≡ [] → rs ≡ []
none_by_kinds [] e = refl
none_by_kinds (r ∷ rs) e =
    let long : length (kinds_of rs ++ kind_number r.kind ∷ []) ≡ 0 =
    ap length (sym (kinds_more rs (r ∷ [])) ∙ e) in
    absurd (omega (arith, long, length-append (kinds_of rs) (kind_number r.kind ∷ [])))

-- nothing is owed
none_before : (kinds : List ℕ) (R : Log) → before_more false kinds R ≡ R
none_before [] R = refl
none_before (k ∷ kinds) R = refl

owed_in_turn : (owes : Bool) (xs ys : List ℕ) → still_owed (still_owed owes xs) ys ≡ still_owed owes (xs ++ ys)
owed_in_turn owes [] ys = refl
owed_in_turn owes (x ∷ xs) [] = refl
owed_in_turn owes (x ∷ xs) (y ∷ ys) = refl

-- a log goes on by some records, and then by more
pub on_in_turn : (owes : Bool) (R S T : Log) (xs ys : List ℕ) → GoesOnBy owes R S xs
    → GoesOnBy (still_owed owes xs) S T ys → GoesOnBy owes R T (xs ++ ys)
on_in_turn owes R S T [] ys a b = record {
  added = b.added;
  log_is = b.log_is ∙ ap (λ (l : Log). b.added ++ before_more owes ys l)
      (a.log_is ∙ ap (λ (l : Log). l ++ R) (none_by_kinds a.added a.kinds_are));
  kinds_are = b.kinds_are;
}
on_in_turn owes R S T (x ∷ xs) ys a b = record {
  added = b.added ++ a.added;
  log_is =
      b.log_is ∙ ap (λ (l : Log). b.added ++ l) (none_before ys S ∙ a.log_is)
      ∙ sym (append_assoc b.added a.added (before_more owes (x ∷ xs) R));
  kinds_are =
      kinds_more a.added b.added ∙ ap (λ (l : List ℕ). l ++ kinds_of b.added) a.kinds_are
      ∙ ap (λ (l : List ℕ). (x ∷ xs) ++ l) b.kinds_are;
}

module _ {D : Type 0} (device : Disk D) where
  -- calls one after another
  pub added_in_turn : (f g h : FramesValue D) (xs ys : List ℕ) → HasAdded device f g xs → HasAdded device g h ys
      → HasAdded device f h (xs ++ ys)
  added_in_turn f g h xs ys a b = record {
    on = λ R s.
        let m = a.on R s in
        let n = b.on m.0 m.1 in
        (n.0, n.1, then_on R m.0 n.0 m.2 n.2);
    back = λ t up T s.
        let n = b.back t up T s in
        let m = a.back t (b.was_up up) n.0 n.1 in
        (m.0, m.1, then_on m.0 n.0 T m.2 n.2);
    was_up = λ up. a.was_up (b.was_up up);
    owes = b.owes ∙ ap (λ (o : Bool). still_owed o ys) a.owes ∙ owed_in_turn f.journal.owes xs ys;
    longer = omega (arith, a.longer, b.longer);
  }
    where
      then_on : (R S T : Log) → GoesOnBy f.journal.owes R S xs → GoesOnBy g.journal.owes S T ys
          → GoesOnBy f.journal.owes R T (xs ++ ys)
      then_on R S T m n =
          on_in_turn f.journal.owes R S T xs ys m
          (subst (λ (o : Bool). GoesOnBy o S T ys) a.owes n)

  -- a call that logs nothing
  pub none_added : CountedAreOne → (device.tells → (d : D) → images_now device d (device.seen d))
      → (f g : FramesValue D) → AreFrames device f → ((R : Log) → Stands device f R → Stands device g R)
      → (down_of g.journal.wal ≡ None → down_of f.journal.wal ≡ None) → g.journal.owes ≡ f.journal.owes
      → g.journal.state.records ≡ f.journal.state.records → HasAdded device f g []
  none_added one law f g are stands was_up owes length_is = record {
    on = λ R s. (R, stands R s, on_by_none f.journal.owes R);
    back = λ t up S s.
        let same : are.log ≡ S =
        stands_one device one (law t) g.journal are.log S (stands are.log are.stands).journal s.journal t up in
        (S, subst (Stands device f) same are.stands, on_by_none f.journal.owes S);
    was_up = was_up;
    owes = owes;
    longer = omega (arith, length_is);
  }
