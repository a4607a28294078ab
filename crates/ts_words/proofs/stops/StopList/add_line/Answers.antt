use Rattle.std.proofs.Common.{◌∙◌, ap, sym, map, cond, true, arith}
use Rattle.std.specs.Prelude.{string_bytes, bytes_eq}
use Rattle.std.proofs.lemmas.Map.Text.{btree_set_updates_text}
use Rattle.ts_words.specs.Simple.{is_stop}
use Rattle.ts_words.proofs.Members.{asked, one_more}
use Rattle.ts_words.proofs.Words.{adds_nothing, adds_word}
use Rattle.ts_words.proofs.stops.StopList.add_line.Goals as goal

pub returns-in_default-clause-taken : goal.returns-in_default-clause-taken
returns-in_default-clause-taken c = adds_nothing c.args.line.now c.args.self.now c.in_default.ensures.none

pub returns-then-word-gt-LONGEST_LEXEME-clause-fault : goal.returns-then-word-gt-LONGEST_LEXEME-clause-fault
returns-then-word-gt-LONGEST_LEXEME-clause-fault c =
    (c.in-Some.word.now, (c.in-Some.field-0-1.now, c.in-Some.ensures.some), c.if-word-gt-LONGEST_LEXEME.true)

pub returns-clause-taken : goal.returns-clause-taken
returns-clause-taken c =
    let keys = c.self.inside.words.keys in
    let key = string_bytes c.in_ok-word.word in
    let same = λ (w : _). sym (asked w c.insert.new.self.keys)
    ∙ btree_set_updates_text key c.self.inside.words c.insert.new.self true c.in_ok-insert.ensures.updates w
    ∙ ap (λ b. cond (bytes_eq key w) true b) (asked w keys ∙ ap (λ s. is_stop s w) c.self.view_is) in
    adds_word c.args.line.now c.in-Some.word.now key c.args.self.now _
    (c.in-Some.field-0-1.now, c.in-Some.ensures.some) (omega arith) c.in_ok-word.ensures
    (one_more c.args.self.now (map string_bytes c.insert.new.self.keys) key same)
