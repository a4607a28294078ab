use Rattle.std.proofs.Common.{◌≡◌, ◌<◌, [], ◌++◌, ◌∙◌, sym, ap, subst, length, arith}
use Rattle.std.proofs.lemmas.Bool.{eqb-true, eqb-false}
use Rattle.std.proofs.lemmas.List.{nil_from_length}
use Rattle.ts_base.specs.Bytes.{BeginsWithout}
use Rattle.ts_base.proofs.LineWords.{IsDark, cut, ends_of, all_blank}
use Rattle.ts_base.proofs.words.front_word.Goals as goal

pub returns-then-is_empty-clause-none : goal.returns-then-is_empty-clause-none
returns-then-is_empty-clause-none c =
    let gap = c.without_blanks-text.ensures.blanks in
    let inner = c.without_blanks-text.result.now in
    let front = c.split_at.result.0.now in
    let back = c.split_at.result.1.now in
    let all = rw (c.as_bytes.ensures.value, ← c.split_at.ensures.back) at c.word_len.ensures.all in
    let none : front ≡ [] = nil_from_length front (eqb-true (length front) 0 (sym c.if-is_empty.ensures)) in
    let same : inner ≡ back = cut inner front back c.word_len.result c.split_at.ensures.front c.split_at.ensures.back
    ∙ ap (λ f. f ++ back) none in
    all_blank c.args.line.now gap.0 inner gap.1 gap.2 c.without_blanks-text.ensures.all
    (subst (BeginsWithout IsDark) (sym same) all)

pub returns-clause-some : goal.returns-clause-some
returns-clause-some c =
    let gap = c.without_blanks-text.ensures.blanks in
    let inner = c.without_blanks-text.result.now in
    let front = c.split_at.result.0.now in
    let back = c.split_at.result.1.now in
    let word = rw (c.as_bytes.ensures.value, ← c.split_at.ensures.front) at c.word_len.ensures.word in
    let all = rw (c.as_bytes.ensures.value, ← c.split_at.ensures.back) at c.word_len.ensures.all in
    let filled = eqb-false (length front) 0 (sym c.if-is_empty.ensures) in
    let some : 0 < length front = omega arith in
    record {
      gap = gap.0;
      blank = gap.1;
      is_word = record { some = some; dark = word };
      text = gap.2 ∙ ap (λ z. gap.0 ++ z)
          (cut inner front back c.word_len.result c.split_at.ensures.front c.split_at.ensures.back);
      ends = ends_of back all;
    }
