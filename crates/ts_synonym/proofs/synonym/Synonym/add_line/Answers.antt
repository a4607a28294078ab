use Rattle.std.proofs.Common.{◌≡◌, true, ◌++◌, ◌∷◌, [], sym, ap, ◌∙◌, subst, true≢false, is_some, None}
use Rattle.std.specs.Prelude.{string_bytes, map}
use Rattle.indexmap.proofs.CallerLemmas.{insert_entry-new}
use Rattle.ts_base.specs.declared.Found.{Found}
use Rattle.ts_synonym.specs.Synonyms.{cased, given_for, IsBadLine, IsSynonymList, Synonyms, GivesFor}
use Rattle.ts_synonym.specs.Views.{pair}
use Rattle.ts_synonym.proofs.Said.{no_bad}
use Rattle.ts_synonym.proofs.Kept.{looked_up, fewer_words, fewer_stays, present_stays, none_of, view_more, list_grows}
use Rattle.ts_synonym.proofs.Lexemes.{entry_kept}
use Rattle.ts_synonym.proofs.synonym.Synonym.add_line.Goals as goal

pub returns-in_default-clause-taken : goal.returns-in_default-clause-taken
returns-in_default-clause-taken c = record {
  fit = fewer_words c.args.line.now c.in_default.ensures.none;
  each = λ sensitive lines h. fewer_stays sensitive lines c.args.line.now c.args.self.now c.in_default.ensures.none h;
}

pub returns-then-is_bad-clause-fault : goal.returns-then-is_bad-clause-fault
returns-then-is_bad-clause-fault c = record {
  word = c.in-Some.word.now;
  replacement = c.in-Some.replacement.now;
  words = c.in-Some.ensures.some;
  why = c.is_bad.ensures.0 c.if-is_bad.true;
}

pub returns-then-contains_key-clause-taken : goal.returns-then-contains_key-clause-taken
returns-then-contains_key-clause-taken c =
    let text : c.as_str.result.now ≡ cased c.self.inside.sensitive c.in-Some.word.now =
    c.as_str.ensures.value ∙ c.in_ok-word.ensures in
    let good : ¬ IsBadLine c.args.line.now = no_bad c.args.line.now _ _ c.in-Some.ensures.some
    (λ w. true≢false (sym (c.is_bad.ensures.1 w) ∙ c.if-is_bad.false)) in
    let kept : Synonyms =
    record { sensitive = c.self.inside.sensitive; pairs = map pair c.self.inside.pairs.entries } in
    let found : is_some (given_for kept (cased c.self.inside.sensitive c.in-Some.word.now)) ≡ true =
    ap (λ w. is_some (given_for kept w)) (sym text)
    ∙ ap is_some (sym (looked_up c.as_str.result.now c.self.inside.pairs.entries)) ∙ sym c.contains_key.ensures
    ∙ c.if-contains_key.true in
    record {
      fit = good;
      each = λ sensitive lines h.
          let before : IsSynonymList sensitive lines kept =
          subst (IsSynonymList sensitive lines) (sym c.self.view_is) h in
          subst (IsSynonymList sensitive (lines ++ c.args.line.now ∷ [])) c.self.view_is
          (present_stays sensitive lines c.args.line.now _ _ kept c.in-Some.ensures.some good found before);
    }

pub returns-clause-taken : goal.returns-clause-taken
returns-clause-taken c =
    let text : c.as_str.result.now ≡ cased c.self.inside.sensitive c.in-Some.word.now =
    c.as_str.ensures.value ∙ c.in_ok-word.ensures in
    let good : ¬ IsBadLine c.args.line.now = no_bad c.args.line.now _ _ c.in-Some.ensures.some
    (λ w. true≢false (sym (c.is_bad.ensures.1 w) ∙ c.if-is_bad.false)) in
    let kept : Synonyms =
    record { sensitive = c.self.inside.sensitive; pairs = map pair c.self.inside.pairs.entries } in
    let key = c.in_ok-word.word in
    let given : Found = record { lexeme = c.from_string-lexeme.result; prefix = c.without_mark-prefix.result.1 } in
    let lacks : given_for kept (string_bytes key) ≡ None =
    none_of (given_for kept (string_bytes key))
    (ap (λ w. is_some (given_for kept w)) (sym c.as_str.ensures.value)
    ∙ ap is_some (sym (looked_up c.as_str.result.now c.self.inside.pairs.entries)) ∙ sym c.contains_key.ensures
    ∙ c.if-contains_key.false) in
    let entries = c.in_ok-insert.ensures.entries ∙ insert_entry-new _ c.self.inside.pairs key given
    (looked_up (string_bytes key) c.self.inside.pairs.entries ∙ lacks) in
    record {
      fit = good;
      each = λ sensitive lines h.
          let before : IsSynonymList sensitive lines kept =
          subst (IsSynonymList sensitive lines) (sym c.self.view_is) h in
          let gives : GivesFor sensitive c.args.line.now (string_bytes key) given = record {
            written = c.in-Some.word.now;
            replacement = c.in-Some.replacement.now;
            text = c.without_mark-prefix.result.0.now;
            words = c.in-Some.ensures.some;
            marked = c.without_mark-prefix.ensures;
            word_cased = c.in_ok-word.ensures ∙ ap (λ b. cased b c.in-Some.word.now) before.casing;
            lexeme_cased = c.from_string-lexeme.ensures.value ∙ c.in_ok-cased.ensures
                ∙ ap (λ b. cased b c.without_mark-prefix.result.0.now) before.casing;
          } in
          subst (IsSynonymList sensitive (lines ++ c.args.line.now ∷ []))
          (view_more c.self.inside.sensitive c.self.inside.pairs.entries c.insert.new.self.entries key given entries)
          (list_grows sensitive lines c.args.line.now (string_bytes key) given kept gives lacks before good);
    }

pub invariant_of-self-2 : goal.invariant_of-self-2
invariant_of-self-2 c = rw c.in_ok-insert.ensures.entries
    (entry_kept _ c.self.inside.pairs.entries c.in_ok-word.word _ c.self.invariant c.from_string-lexeme.ensures.valid)
