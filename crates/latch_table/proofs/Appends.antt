-- The journal may be given back once a step is logged, and where nothing was changed.
use Rattle.std.proofs.Common.{◌≡◌, ◌≤◌, ◌∷◌, length, refl, sym, ap, subst, ◌∙◌, arith}
use Rattle.page_types.specs.declared.record.Kind.TheVariants as kind
use Rattle.core_state.specs.Log.{Log, commits, cut}
use Rattle.core_state.proofs.Newest.{cut_less}
use Rattle.latch_table.specs.declared.slots.Journaled.{Ghosts as Journaled}
use Rattle.latch_table.specs.declared.states.PassState.{PassState}
use Rattle.latch_table.specs.PassStates.{IsLawful}
use Rattle.latch_table.specs.Giving.{Entry, MayAppend}
use Rattle.latch_table.specs.Appending.{StepsMayBeGiven, LooksMayBeGiven}

module _ {J : Type 0} (journal : Journaled J) where
  -- what a pass knows of its store is the same once it has the journal
  lawful_old : (old v : PassState J) → v.start ≡ old.start → IsLawful journal v → IsLawful journal old
  lawful_old old v same l = (l.0, sym same ∙ l.1, l.2)

  pub may_give : StepsMayBeGiven journal
  may_give frames old v b b' e x h a may bounds =
      let seen : v.seen ≡ h.log = ap (λ (w : PassState J). w.seen) h.state in
      let start : v.start ≡ old.start = ap (λ (w : PassState J). w.start) h.state in
      let redo : v.redo ≡ old.redo = ap (λ (w : PassState J). w.redo) h.state in
      let walk : v.walk ≡ old.walk = ap (λ (w : PassState J). w.walk) h.state in
      let within : journal.counted b ≤ length v.seen =
      subst (λ (R : Log). journal.counted b ≤ length R) (sym seen) h.within in
      let counted = a.counted in
      let flushed = a.flushed in
      record {
        stands = a.stands;
        length_is = a.length_is;
        counted = omega arith;
        within = omega arith;
        flushed = omega arith;
        commits_are = λ l.
            flushed ∙ h.flushed (lawful_old old v start l)
            ∙ ap (λ (R : Log). commits (cut (journal.counted b) R)) (sym seen)
            ∙ ap commits (sym (cut_less (journal.counted b) e.logged v.seen within))
            ∙ ap (λ n. commits (cut n (e.logged ∷ v.seen))) (sym counted);
        still_reached = a.reached;
        faults = a.faults;
        write_faults = a.write_faults;
        owes = a.owes;
        begins = λ e' is kind_is.
            let q : e ≡ e' = cc is in a.begins (subst (λ (y : Entry). y.logged.kind ≡ kind.Begin) (sym q) kind_is);
        append = λ l e' is.
            let q : e ≡ e' = cc is in
            let m = may l in
            subst (MayAppend journal v v.seen b) q (MayAppend.of_step m.0 m.1 (a.made l));
        swap = λ s is. cc is;
        places = λ i lt other. a.places i;
        pins = a.pins;
        redo = a.redo;
        walks = a.walks;
        own_redo = λ l y is.
            a.redo l y.number y.written y.synced
            (subst (λ (R : Log). journal.has_redo b R y.number y.written y.synced) (sym seen)
            (h.redo (lawful_old old v start l) y (sym redo ∙ is)));
        own_walk = λ l y is.
            a.walks l y.number y.bound y.passed
            (subst (λ (R : Log). journal.has_walked b R y.number y.bound y.passed) (sym seen)
            (h.walked (lawful_old old v start l) y (sym walk ∙ is)));
        bounds = (x, bounds);
      }

  pub may_look : LooksMayBeGiven journal
  may_look frames old v b x h bounds =
      let seen : v.seen ≡ h.log = ap (λ (w : PassState J). w.seen) h.state in
      let start : v.start ≡ old.start = ap (λ (w : PassState J). w.start) h.state in
      let redo : v.redo ≡ old.redo = ap (λ (w : PassState J). w.redo) h.state in
      let walk : v.walk ≡ old.walk = ap (λ (w : PassState J). w.walk) h.state in
      record {
        stands = subst (journal.stands b) (sym seen) h.stands;
        length_is = h.length_is ∙ ap length (sym seen);
        counted = omega arith;
        within = subst (λ (R : Log). journal.counted b ≤ length R) (sym seen) h.within;
        flushed = omega arith;
        commits_are = λ l.
            h.flushed (lawful_old old v start l) ∙ ap (λ (R : Log). commits (cut (journal.counted b) R)) (sym seen);
        still_reached = λ l clock n t. t;
        faults = omega arith;
        write_faults = omega arith;
        owes = λ e. e;
        begins = λ e' is kind_is. cc is;
        append = λ l e' is. cc is;
        swap = λ s is. cc is;
        places = λ i lt other. refl;
        pins = λ i. refl;
        redo = λ l n written synced t. t;
        walks = λ l n bound passed t. t;
        own_redo = λ l y is.
            subst (λ (R : Log). journal.has_redo b R y.number y.written y.synced) (sym seen)
            (h.redo (lawful_old old v start l) y (sym redo ∙ is));
        own_walk = λ l y is.
            subst (λ (R : Log). journal.has_walked b R y.number y.bound y.passed) (sym seen)
            (h.walked (lawful_old old v start l) y (sym walk ∙ is));
        bounds = (x, bounds);
      }
