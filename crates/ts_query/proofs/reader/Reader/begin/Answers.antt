use Rattle.std.proofs.Common.{◌≢◌, ◌<◌, [], ◌++◌, ap, ◌∙◌, sym, subst, refl, arith, inl, inr}
use Rattle.std.specs.Char.{encode_utf8}
use Rattle.ts_query.specs.Tokens.{bang, opening, EndsOperand}
use Rattle.ts_base.specs.Plain.{IsPlain}
use Rattle.ts_query.specs.Inner.Lexer.{between, in_quoted, in_plain, plain_escaped, Ready}
use Rattle.ts_query.specs.declared.reader.State.TheVariants.{Between, InQuoted, InPlain, PlainEscape}
use Rattle.std.proofs.lemmas.Str.{encode_ascii}
use Rattle.ts_query.proofs.Lexing.{bang_ready, open_ready}
use Rattle.ts_base.proofs.Characters.{one_byte}
use Rattle.ts_query.proofs.Steps.{quote_step, escape_step, plain_step}
use Rattle.ts_query.proofs.Past.{first_far_same, first_long_same}
use Rattle.ts_query.proofs.Standing.{lexer_in, lexer_with, gave, silent_moved, gave_moved, start_stuck}
use Rattle.ts_query.proofs.Beginnings.{BehindOperand, IsBehind, behind_never, behind_starts}
use Rattle.ts_query.proofs.reader.Reader.begin.Goals as goal

pub returns-in-39 : goal.returns-in-39
returns-in-39 c s d h =
    let e = c.begin_word.ensures in
    silent_moved c.args.self.now c.begin_word.new.self s c.args.at _ _ _ h
    (lexer_in c.args.self.now Between c.requires.between)
    (lexer_with c.begin_word.new.self in_quoted _ _ (lexer_in c.begin_word.new.self InQuoted c.begin_word.ensures.state)
    c.begin_word.ensures.start c.begin_word.ensures.word)
    c.begin_word.ensures.keeps.parser c.begin_word.ensures.keeps.far c.begin_word.ensures.keeps.long (λ _. d)
    (quote_step c.args.at c.args.c c.in-39.is)

pub returns-in-92 : goal.returns-in-92
returns-in-92 c s d h =
    silent_moved c.args.self.now c.begin_word-in-92.new.self s c.args.at _ _ _ h
    (lexer_in c.args.self.now Between c.requires.between)
    (lexer_with c.begin_word-in-92.new.self plain_escaped _ _ (lexer_in c.begin_word-in-92.new.self PlainEscape
    c.begin_word-in-92.ensures.state) c.begin_word-in-92.ensures.start c.begin_word-in-92.ensures.word)
    c.begin_word-in-92.ensures.keeps.parser c.begin_word-in-92.ensures.keeps.far c.begin_word-in-92.ensures.keeps.long
    (λ _. d) (escape_step c.args.at c.args.c c.in-92.is)

pub returns-in_ok-negation-in-33 : goal.returns-in_ok-negation-in-33
returns-in_ok-negation-in-33 c s d h =
    let r2 = record c.args.self.now { parser = c.negation.new.self } in
    let e = one_byte c.args.c 33 c.in-33.is (omega arith) in
    gave_moved c.args.self.now (record c.args.self.now { parser = c.negation.new.self }) s c.args.at _ between bang h
    (lexer_in c.args.self.now Between c.requires.between)
    (lexer_in (record c.args.self.now { parser = c.negation.new.self }) Between c.requires.between)
    (gave (record c.args.self.now {
      parser = c.negation.new.self;
    }) s.spot s.tokens bang (c.in_ok-negation-in-33.ensures s.spot d h.tracks.shows)
    (first_far_same s.tokens bang c.args.self.now.far refl h.tracks.far)
    (first_long_same s.tokens bang c.args.self.now.long refl h.tracks.long))
    (λ n u _. subst (λ b. Ready n between bang (b ++ u) u) (sym e) (bang_ready n u))

pub returns-in_ok-open-in-40 : goal.returns-in_ok-open-in-40
returns-in_ok-open-in-40 c s d h =
    let e = one_byte c.args.c 40 c.in-40.is (omega arith) in
    gave_moved c.args.self.now (record c.args.self.now { parser = c.open.new.self }) s c.args.at _ between opening h
    (lexer_in c.args.self.now Between c.requires.between)
    (lexer_in (record c.args.self.now { parser = c.open.new.self }) Between c.requires.between)
    (gave (record c.args.self.now {
      parser = c.open.new.self;
    }) s.spot s.tokens opening (c.in_ok-open-in-40.ensures s.spot d h.tracks.shows)
    (first_far_same s.tokens opening c.args.self.now.far refl h.tracks.far)
    (first_long_same s.tokens opening c.args.self.now.long refl h.tracks.long))
    (λ n u _. subst (λ b. Ready n between opening (b ++ u) u) (sym e) (open_ready n u))

pub returns-in-38 : goal.returns-in-38
returns-in-38 c s d h =
    let b : IsBehind c.args.c = grind arith in
    let small : c.args.c < 128 = grind arith in
    start_stuck c.args.self.now s _ c.args.c [] between BehindOperand (encode_ascii c.args.c small) h
    (lexer_in c.args.self.now Between c.requires.between)
    (λ n u ks. behind_starts n c.args.c u ks b) (λ k. behind_never s.spot k d)

pub returns-in_ok-put-in_default : goal.returns-in_ok-put-in_default
returns-in_ok-put-in_default c s d h =
    let k : IsPlain EndsOperand c.args.c =
    record { no_end = λ x. elim x [ inl w ↦ c.requires.dark w | inr d ↦ grind arith ]; no_escape = omega arith } in
    let m : c.args.c ≢ 39 = omega arith in
    let p = c.in_ok-put-in_default.ensures in
    let b = c.begin_word-in_default.ensures in
    silent_moved c.args.self.now c.put.new.self s c.args.at _ _ _ h
    (lexer_in c.args.self.now Between c.requires.between)
    (lexer_with c.put.new.self in_plain c.args.at (encode_utf8 c.args.c)
    (lexer_in c.put.new.self InPlain c.in_ok-put-in_default.ensures.state)
    (c.in_ok-put-in_default.ensures.start ∙ c.begin_word-in_default.ensures.start)
    (c.in_ok-put-in_default.ensures.word ∙ ap (λ w. w ++ encode_utf8 c.args.c) c.begin_word-in_default.ensures.word))
    (c.in_ok-put-in_default.ensures.keeps.parser ∙ c.begin_word-in_default.ensures.keeps.parser)
    (c.in_ok-put-in_default.ensures.keeps.far ∙ c.begin_word-in_default.ensures.keeps.far)
    (c.in_ok-put-in_default.ensures.keeps.long ∙ c.begin_word-in_default.ensures.keeps.long) (λ _. d)
    (plain_step c.args.at c.args.c k m)
