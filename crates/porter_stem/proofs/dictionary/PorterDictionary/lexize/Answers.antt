use Rattle.std.proofs.Common.{rules, ◌≡◌, ◌<◌, ◌≤◌, [], ◌∷◌, ◌++◌, length, false, cond, sym, ◌∙◌, ap, subst, arith}
use Rattle.std.specs.Prelude.{string_bytes}
use Rattle.std.proofs.lemmas.List.{length-map}
use Rattle.std.specs.Char.{to_ascii_lowercase}
use Rattle.std.proofs.lemmas.List.Elements.{All-nil, All-cons}
use Rattle.ts_base.specs.declared.Found.{Found}
use Rattle.ts_base.specs.declared.TheConstants.{LONGEST_LEXEME}
use Rattle.ts_base.specs.Dictionary.{stop_word, word_lexemes, IsWordAnswer}
use Rattle.ts_base.specs.Lexemes.{IsLexeme}
use Rattle.ts_base.specs.Words.{lower}
use Rattle.ts_words.specs.Simple.{is_stop, plain}
use Rattle.porter_stem.specs.Stem.{stem}
use Rattle.porter_stem.proofs.Some.{stem_some}
use Rattle.porter_stem.proofs.Lengths.{stem_length}
use Rattle.porter_stem.proofs.Answering.{porter_valid}
use Rattle.porter_stem.proofs.dictionary.PorterDictionary.lexize.Goals as goal

pub from_string-lexeme-requires-clause-some : goal.from_string-lexeme-requires-clause-some
from_string-lexeme-requires-clause-some c =
    let text : string_bytes c.stem_text.result ≡ stem (lower c.args.word.now) =
    c.stem_text.ensures ∙ ap stem c.in_ok-lowered.ensures in
    let some : 0 < length (lower c.args.word.now) =
    omega (arith, length-map c.args.word.now to_ascii_lowercase, c.requires.some) in
    let h : 1 ≤ length (string_bytes c.stem_text.result) =
    omega (arith, ap length text, stem_some (lower c.args.word.now) some) in
    search rules

pub from_string-lexeme-requires-clause-most : goal.from_string-lexeme-requires-clause-most
from_string-lexeme-requires-clause-most c =
    let text : string_bytes c.stem_text.result ≡ stem (lower c.args.word.now) =
    c.stem_text.ensures ∙ ap stem c.in_ok-lowered.ensures in
    let h : length (string_bytes c.stem_text.result) ≤ LONGEST_LEXEME =
    omega (
      arith,
      ap length text,
      stem_length (lower c.args.word.now),
      length-map c.args.word.now to_ascii_lowercase,
      c.requires.most,
    ) in
    search rules

pub returns-clause-value : goal.returns-clause-value
returns-clause-value c =
    let word = lower c.args.word.now in
    let stops = c.args.self.now.stops in
    let text : string_bytes c.in_ok-lowered.lowered ≡ word = c.in_ok-lowered.ensures in
    let miss : is_stop stops word ≡ false =
    ap (is_stop stops) (sym (c.as_str.ensures.value ∙ text)) ∙ sym c.contains.ensures.value ∙ c.if-contains.false in
    let lexeme : c.from_string-lexeme.result ≡ stem word =
    c.from_string-lexeme.ensures.value ∙ c.stem_text.ensures ∙ ap stem text in
    let items : c.push.new.self.items ≡ plain (stem word) ∷ [] =
    c.in_ok-push.ensures.items ∙ ap (λ z. z ++ (plain c.from_string-lexeme.result ∷ [])) c.new-found.ensures.items
    ∙ ap (λ z. plain z ∷ []) lexeme in
    ap word_lexemes items ∙ sym (ap (λ b. cond b stop_word (word_lexemes (plain (stem word) ∷ []))) miss)

pub returns-clause-valid : goal.returns-clause-valid
returns-clause-valid c =
    let found : Found = plain c.from_string-lexeme.result in
    let items : c.push.new.self.items ≡ found ∷ [] =
    c.in_ok-push.ensures.items ∙ ap (λ z. z ++ (found ∷ [])) c.new-found.ensures.items in
    subst (λ z. IsWordAnswer (word_lexemes z)) (sym items) (
      (λ e. cc),
      All-cons (λ (f : Found). IsLexeme f.lexeme) found [] c.from_string-lexeme.ensures.valid
          (All-nil (λ (f : Found). IsLexeme f.lexeme)),
    )

pub returns-in_err-lowered-clause-named : goal.returns-in_err-lowered-clause-named
returns-in_err-lowered-clause-named c =
    porter_valid c.args.self.now.stops c.args.word.now c.requires.some c.requires.most c.utf8.word

pub returns-then-contains-clause-named : goal.returns-then-contains-clause-named
returns-then-contains-clause-named c =
    porter_valid c.args.self.now.stops c.args.word.now c.requires.some c.requires.most c.utf8.word

pub returns-in_err-push-clause-named : goal.returns-in_err-push-clause-named
returns-in_err-push-clause-named c =
    porter_valid c.args.self.now.stops c.args.word.now c.requires.some c.requires.most c.utf8.word

pub returns-clause-named : goal.returns-clause-named
returns-clause-named c = porter_valid c.args.self.now.stops c.args.word.now c.requires.some c.requires.most c.utf8.word
