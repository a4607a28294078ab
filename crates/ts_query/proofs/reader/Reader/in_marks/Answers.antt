use Rattle.std.proofs.Common.{ℕ, ◌≢◌, inl, inr, ◌∷◌, ap, ◌∙◌, true, refl, arith}
use Rattle.std.specs.String.{string_bytes}
use Rattle.ts_base.specs.declared.Weight.{Weight}
use Rattle.ts_query.specs.Tokens.{word, operand, IsMark}
use Rattle.ts_base.specs.Bytes.{IsLetter}
use Rattle.ts_query.specs.Inner.Lexer.{in_marks}
use Rattle.ts_query.specs.declared.reader.State.TheVariants.{InMarks, Between}
use Rattle.ts_base.proofs.Characters.{encode_some}
use Rattle.ts_query.proofs.Lexing.{marks_ready, wide_no_letter}
use Rattle.ts_base.proofs.ByteKinds.{letter_ascii}
use Rattle.ts_query.proofs.Steps.{star_step, letter_step}
use Rattle.ts_query.proofs.Standing.{lexer_in, fits_in, silent_moved, gave_stepped, holds_after}
use Rattle.ts_query.proofs.reader.Reader.in_marks.Goals as goal

pub returns-then-c-eq42 : goal.returns-then-c-eq42
returns-then-c-eq42 c s h =
    silent_moved c.args.self.now _ s c.args.at _ _ _ h (lexer_in c.args.self.now InMarks c.requires)
    (lexer_in (record c.args.self.now { prefix = true }) InMarks c.requires) refl refl refl (λ f. f)
    (star_step c.args.at c.args.self.now.start
    (string_bytes c.args.self.now.word) c.args.self.now.weights c.args.self.now.prefix c.args.c c.if-c-eq42.true)

pub returns-in-Some : goal.returns-in-Some
returns-in-Some c s h =
    silent_moved c.args.self.now _ s c.args.at _ _ _ h (lexer_in c.args.self.now InMarks c.requires)
    (lexer_in (record c.args.self.now { weights = c.with-self.result }) InMarks c.requires ∙ ap (λ w. in_marks
    c.args.self.now.start (string_bytes c.args.self.now.word) w c.args.self.now.prefix) c.with-self.ensures) refl
    refl refl (λ f. f)
    (letter_step c.args.at c.args.self.now.start
    (string_bytes c.args.self.now.word) c.args.self.now.weights c.args.self.now.prefix c.args.c c.in-Some.weight
    (letter_ascii c.args.c c.in-Some.weight c.in-Some.ensures) c.in-Some.ensures)

no_mark : (b : ℕ) → ((w : Weight) → ¬ IsLetter b w) → b ≢ 42 → ¬ IsMark b
no_mark b f m (inl e) = m e
no_mark b f m (inr k) = f k.0 k.1

pub returns : goal.returns
returns c s h =
    let f = encode_some (λ b. ¬ IsMark b) c.args.c (λ _. no_mark c.args.c c.in_default.ensures c.if-c-eq42.false)
    (λ b w. no_mark b (wide_no_letter b w) (λ e. omega arith)) in
    let lexeme = string_bytes c.args.self.now.word in
    let is = lexer_in c.args.self.now InMarks c.requires in
    let g = c.in_ok-end_word.ensures.gave s.spot s.tokens
    (fits_in c.args.self.now s (in_marks c.args.self.now.start (string_bytes c.args.self.now.word)
    c.args.self.now.weights c.args.self.now.prefix) h (lexer_in c.args.self.now InMarks c.requires)) h.tracks in
    gave_stepped c.args.self.now c.end_word.new.self c.between.new.self s c.args.at _ f.0 f.1 c.in_ok-ok.ok (in_marks
    c.args.self.now.start (string_bytes c.args.self.now.word) c.args.self.now.weights c.args.self.now.prefix)
    (word c.args.self.now.start (operand (string_bytes c.args.self.now.word) c.args.self.now.weights
    c.args.self.now.prefix)) f.2 h (lexer_in c.args.self.now InMarks c.requires) g
    (λ n u. marks_ready n c.args.self.now.start
    (string_bytes c.args.self.now.word) c.args.self.now.weights c.args.self.now.prefix (f.0 ∷ u) f.3)
    (c.in_ok-ok.ensures _ (holds_after c.end_word.new.self s (word c.args.self.now.start
    (operand (string_bytes c.args.self.now.word) c.args.self.now.weights c.args.self.now.prefix)) g
    (lexer_in c.end_word.new.self Between c.in_ok-end_word.ensures.state)))
