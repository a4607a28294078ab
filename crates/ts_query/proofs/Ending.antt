-- Where a text may end.
use Rattle.std.proofs.Common.{◌≡◌, ℕ, [], map, sym, subst, ◌∙◌, Option, Some, None}
use Rattle.std.proofs.lemmas.List.{append-nil}
use Rattle.ts_query.specs.Tokens.{QueryToken, done}
use Rattle.ts_query.specs.Inner.Parsing as parsing
use Rattle.ts_query.specs.Inner.Lexer.{Lexer, between, LexerRest, Ready}
use Rattle.ts_query.specs.Inner.Reader.{Stand, lexer_of, IsReaderAt, Gave, EndsAs, EndsOrNot}
use Rattle.ts_query.specs.declared.reader.Reader.{Reader}
use Rattle.ts_query.specs.declared.reader.Outcome.{Outcome}
use Rattle.ts_query.specs.Inner.Parsing.{entry_item}
use Rattle.ts_query.proofs.Standing.{stand_lexer, stand_after, ready_to, ready_from}

pub between_whole : (r : Reader) (s : Stand) (o : Outcome) → IsReaderAt r s → lexer_of r ≡ between
    → parsing.SpellsOut s.spot (map entry_item o.entries.items) → o.far ≡ r.far → o.long ≡ r.long → EndsAs s o
between_whole r s o h e w f l = record {
  tokens = s.tokens;
  query = w.query;
  entries = w.is;
  far = f ∙ h.tracks.far;
  long = l ∙ h.tracks.long;
  found = λ n. record {
    tokens = [];
    left = subst (λ x. LexerRest n x [] []) (sym (stand_lexer r s between h e)) (done n);
    all = sym (append-nil s.tokens);
    rest = w.found;
  };
}

module _ (r r2 : Reader) (s : Stand) (lx : Lexer) (k : QueryToken) (h : IsReaderAt r s) (e : lexer_of r ≡ lx)
    (g : Gave s.spot s.tokens k r2) (m : (n : ℕ) → Ready n lx k [] []) where
  pub gave_finished : (o : Option Outcome) → EndsOrNot (stand_after s k g.new) o → EndsOrNot s o
  gave_finished (Some o) w = record {
    tokens = w.tokens;
    query = w.query;
    entries = w.entries;
    far = w.far;
    long = w.long;
    found = λ n. ready_from s lx (stand_lexer r s lx h e) k g.new g.takes n [] [] (w.tokens, w.query) (m n) (w.found n);
  }
  gave_finished None w =
      record { never = λ n v x. w.never n v (ready_to s lx (stand_lexer r s lx h e) k g.new g.takes n [] [] v (m n) x) }
