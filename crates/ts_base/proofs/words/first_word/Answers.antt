use Rattle.std.proofs.Common.{length, arith, ap, subst, sym, ◌∙◌}
use Rattle.std.proofs.lemmas.List.{length-drop}
use Rattle.ts_base.specs.Bytes.{IsBlank, BeginsWithout}
use Rattle.ts_base.proofs.LineWords.{ends_of, blank_whole, whole_rest, cut_word}
use Rattle.ts_base.proofs.words.first_word.Goals as goal

pub returns-then-is_empty-clause-none : goal.returns-then-is_empty-clause-none
returns-then-is_empty-clause-none c =
    let line = c.args.line.now in
    let n = c.blanks_len.result in
    let same = ap length (whole_rest line n) ∙ length-drop n line in
    blank_whole line n c.blanks_len.ensures.within (grind (arith, same)) c.blanks_len.ensures.blank

pub returns-clause-some : goal.returns-clause-some
returns-clause-some c =
    let line = c.args.line.now in
    let n = c.blanks_len.result in
    let same = whole_rest line n in
    let begins = subst (BeginsWithout IsBlank) (sym same) c.blanks_len.ensures.all in
    rw (c.split_at.ensures.front, c.split_at.ensures.back)
    (cut_word line _ n c.word_len.result same c.blanks_len.ensures.blank begins (grind arith) c.word_len.ensures.within
    c.word_len.ensures.word (ends_of _ c.word_len.ensures.all))
