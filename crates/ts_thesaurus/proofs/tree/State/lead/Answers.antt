use Rattle.std.proofs.Common.{refl, subst, sym}
use Rattle.std.specs.Prelude.{string_bytes}
use Rattle.ts_thesaurus.specs.declared.tree.State.{State}
use Rattle.ts_thesaurus.specs.Inner.Tree.{word_letter}
use Rattle.ts_thesaurus.specs.Inner.States.{letter_value, LeadsTo}
use Rattle.ts_thesaurus.proofs.Entering.{word_leads}
use Rattle.ts_thesaurus.proofs.tree.State.lead.Goals as goal

pub returns-in_ok-insert-in-Word : goal.returns-in_ok-insert-in-Word
returns-in_ok-insert-in-Word c =
    let old = c.args.self.now in
    let new : State = record { stop = old.stop; words = c.insert.new.self; end = old.end; last = old.last } in
    let r = word_leads old new (string_bytes c.in_ok-word-in-Word.word) c.args.next refl refl refl
    c.in_ok-insert-in-Word.ensures.updates in
    subst (λ l. LeadsTo old new (letter_value l) c.args.next) (sym c.in-Word.is)
    (subst (λ bytes. LeadsTo old new (word_letter bytes) c.args.next) c.in_ok-word-in-Word.ensures.ok r)
