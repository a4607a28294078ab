use Rattle.std.proofs.Common.{◌+◌, ◌≡◌, ◌∷◌, ◌++◌, length, sym, subst, refl, arith}
use Rattle.ts_query.specs.Queries.{and_joint, or_joint}
use Rattle.ts_query.specs.Tokens.{sign}
use Rattle.ts_query.specs.Inner.Lexer.{between, Ready}
use Rattle.ts_query.specs.declared.reader.State.TheVariants.{Between}
use Rattle.ts_base.proofs.Characters.{encode_some, one_byte}
use Rattle.ts_query.proofs.Climbs.{Begin}
use Rattle.ts_query.proofs.Stacks.{begin_never}
use Rattle.ts_query.proofs.Lexing.{and_ready, or_ready}
use Rattle.ts_query.proofs.Steps.{at_offset, less_step}
use Rattle.ts_query.proofs.Standing.{lexer_in, silent_moved, gave_moved, start_stuck, close_stepped}
use Rattle.ts_query.proofs.Beginnings.{IsOther, other_starts}
use Rattle.ts_query.proofs.reader.Reader.operator.Goals as goal

pub returns-in_ok-end_link-in-38 : goal.returns-in_ok-end_link-in-38
returns-in_ok-end_link-in-38 c s d h =
    let e = one_byte c.args.c 38 c.in-38.is (omega arith) in
    gave_moved c.args.self.now c.end_link.new.self s c.args.at _ between (sign c.args.at and_joint) h
    (lexer_in c.args.self.now Between c.requires.between)
    (lexer_in c.end_link.new.self Between c.in_ok-end_link-in-38.ensures.state)
    (c.in_ok-end_link-in-38.ensures.gave s.spot s.tokens d h.tracks)
    (λ n u x. let size : n ≡ c.args.at + length (38 ∷ u) = subst (λ b. n ≡ c.args.at + length (b ++ u)) e x in
    subst (λ b. Ready n between (sign c.args.at and_joint) (b ++ u) u) (sym e) (subst
    (λ a. Ready n between (sign a and_joint) (38 ∷ u) u) (at_offset n c.args.at (38 ∷ u) size) (and_ready n u)))

pub returns-in_ok-end_link-in-124 : goal.returns-in_ok-end_link-in-124
returns-in_ok-end_link-in-124 c s d h =
    let e = one_byte c.args.c 124 c.in-124.is (omega arith) in
    gave_moved c.args.self.now c.end_link-in-124.new.self s c.args.at _ between (sign c.args.at or_joint) h
    (lexer_in c.args.self.now Between c.requires.between)
    (lexer_in c.end_link-in-124.new.self Between c.in_ok-end_link-in-124.ensures.state)
    (c.in_ok-end_link-in-124.ensures.gave s.spot s.tokens d h.tracks)
    (λ n u x. let size : n ≡ c.args.at + length (124 ∷ u) = subst (λ b. n ≡ c.args.at + length (b ++ u)) e x in
    subst (λ b. Ready n between (sign c.args.at or_joint) (b ++ u) u) (sym e) (subst
    (λ a. Ready n between (sign a or_joint) (124 ∷ u) u) (at_offset n c.args.at (124 ∷ u) size) (or_ready n u)))

pub returns-in-60 : goal.returns-in-60
returns-in-60 c s d h =
    silent_moved c.args.self.now _ s c.args.at _ _ _ h (lexer_in c.args.self.now Between c.requires.between) refl refl
    refl refl (λ _. d) (less_step c.args.at c.args.c c.in-60.is)

pub returns-in_ok-ok-in-41 : goal.returns-in_ok-ok-in-41
returns-in_ok-ok-in-41 c s d h =
    close_stepped c.args.self.now c.close.new.self s c.args.at c.args.c c.in_ok-ok-in-41.ok c.in-41.is h
    (lexer_in c.args.self.now Between c.requires.between)
    (c.in_ok-ok-in-41.ensures s.spot d h.tracks.shows)

pub returns-in_default : goal.returns-in_default
returns-in_default c s d h =
    let k : IsOther c.args.c = record {
      no_white = c.requires.dark;
      no_and = omega arith;
      no_close = omega arith;
      no_or = omega arith;
      no_less = omega arith;
    } in
    let f = encode_some IsOther c.args.c (λ _. k) (λ b w. record {
      no_white = λ x. grind arith;
      no_and = λ e. omega arith;
      no_close = λ e. omega arith;
      no_or = λ e. omega arith;
      no_less = λ e. omega arith;
    }) in
    start_stuck c.args.self.now s _ f.0 f.1 between Begin f.2 h (lexer_in c.args.self.now Between c.requires.between)
    (λ n u ks. other_starts n f.0 u ks f.3) (λ k. begin_never s.spot k d)
