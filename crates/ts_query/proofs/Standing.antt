-- Steps of a reader: within a token, and where one ends.
use Rattle.std.proofs.Common.{◌≡◌, ℕ, ◌+◌, List, [], ◌∷◌, ◌++◌, length, refl, sym, subst, ap, ◌∙◌, Bool, true, false}
use Rattle.std.proofs.Common.{append_assoc, arith}
use Rattle.ts_query.specs.Tokens.{QueryToken, closing}
use Rattle.ts_query.specs.Limits.{first_far, first_long}
use Rattle.ts_query.specs.Inner.Frames.{Spot, SpotRest}
use Rattle.ts_query.specs.Inner.Parsing.{Takes, Took, Never, TookOrNever}
use Rattle.ts_query.specs.Inner.Lexer.{Lexer, between, LexerRest, Silent, Ready}
use Rattle.ts_query.specs.Inner.Reader.{Reading, Stand, FitsSpot, QueryRest, lexer_at, lexer_of, IsReaderAt, Gave}
use Rattle.ts_query.specs.Inner.Reader.{Moved, MovedOrStuck}
use Rattle.ts_base.specs.Inner.Machine.{Moves, Stuck}
use Rattle.ts_query.specs.declared.reader.State.{State}
use Rattle.ts_query.specs.declared.reader.Reader.{Reader}
use Rattle.ts_query.specs.declared.parser.Parser.{Parser}
use Rattle.std.specs.Char.{encode_utf8}
use Rattle.std.specs.String.{string_bytes}
use Rattle.ts_query.proofs.Lexing.{close_ready}
use Rattle.ts_query.proofs.Past.{first_far_same, first_long_same}
use Rattle.ts_base.proofs.Characters.{one_byte}

-- the lexer of a reader in a known state
pub lexer_in : (r : Reader) (st : State) → r.state ≡ st
    → lexer_of r ≡ lexer_at st r.start (string_bytes r.word) r.weights r.prefix r.distance
lexer_in r st e = ap (λ x. lexer_at x r.start (string_bytes r.word) r.weights r.prefix r.distance) e

pub stand_lexer : (r : Reader) (s : Stand) (lx : Lexer) → IsReaderAt r s → lexer_of r ≡ lx → s.lexer ≡ lx
stand_lexer r s lx h e = h.lexer ∙ e

-- ── within a token ──
silent_moves : (i : ℕ) (s : Stand) (bytes : List ℕ) (lx lx2 : Lexer) → s.lexer ≡ lx → Silent i lx bytes lx2
    → Moves Stand Reading QueryRest i s bytes (record { lexer = lx2; spot = s.spot; tokens = s.tokens })
silent_moves i s bytes lx lx2 e m = record {
  goes_on = λ n u v h r. record {
    tokens = r.tokens;
    left = subst (λ l. LexerRest n l (bytes ++ u) r.tokens) (sym e) (m.from n u r.tokens h r.left);
    all = r.all;
    rest = r.rest;
  };
  came_so = λ n u v h r. record {
    tokens = r.tokens;
    left = m.to n u r.tokens h (subst (λ l. LexerRest n l (bytes ++ u) r.tokens) e r.left);
    all = r.all;
    rest = r.rest;
  };
}

pub silent_moved : (r r2 : Reader) (s : Stand) (i : ℕ) (bytes : List ℕ) (lx lx2 : Lexer) → IsReaderAt r s
    → lexer_of r ≡ lx → lexer_of r2 ≡ lx2
    → r2.parser ≡ r.parser → r2.far ≡ r.far → r2.long ≡ r.long → (FitsSpot lx s.spot → FitsSpot lx2 s.spot)
    → Silent i lx bytes lx2 → Moved i s bytes r2
silent_moved r r2 s i bytes lx lx2 h e e2 p f l fits m = record {
  new = record { lexer = lx2; spot = s.spot; tokens = s.tokens };
  holds = record {
    lexer = sym e2;
    fits = fits (subst (λ x. FitsSpot x s.spot) (stand_lexer r s lx h e) h.fits);
    tracks = record {
      shows = subst (λ x. Rattle.ts_query.specs.Inner.Parsing.Shows x s.spot) (sym p) h.tracks.shows;
      far = f ∙ h.tracks.far;
      long = l ∙ h.tracks.long;
    };
  };
  moves = silent_moves i s bytes lx lx2 (stand_lexer r s lx h e) m;
}

-- ── a token ends ──
pub gave : (r : Reader) (spot : Spot) (tokens : List QueryToken) (k : QueryToken) → Took spot k r.parser
    → r.far ≡ first_far (tokens ++ k ∷ []) → r.long ≡ first_long (tokens ++ k ∷ []) → Gave spot tokens k r
gave r spot tokens k t f l =
    record { new = t.new; tracks = record { shows = t.shows; far = f; long = l }; takes = t.takes }

more_tokens : (all tokens rest : List QueryToken) (k : QueryToken) → all ≡ (tokens ++ k ∷ []) ++ rest
    → all ≡ tokens ++ k ∷ rest
more_tokens all tokens rest k e = e ∙ append_assoc tokens (k ∷ []) rest

one_token : (all tokens ks rest : List QueryToken) (k : QueryToken) → all ≡ tokens ++ ks → ks ≡ k ∷ rest
    → all ≡ (tokens ++ k ∷ []) ++ rest
one_token all tokens ks rest k e f = e ∙ ap (λ x. tokens ++ x) f ∙ sym (append_assoc tokens (k ∷ []) rest)

module _ (s : Stand) (lx : Lexer) (is : s.lexer ≡ lx) (k : QueryToken) (spot : Spot) (takes : Takes s.spot k spot) where
  abbrev pub after : Stand
  after = record { lexer = between; spot = spot; tokens = s.tokens ++ k ∷ [] }

  pub ready_to : (n : ℕ) (u r : List ℕ) (v : Reading) → Ready n lx k u r → QueryRest s n u v → QueryRest after n r v
  ready_to n u r v m h =
      let f = m.to h.tokens (subst (λ l. LexerRest n l u h.tokens) is h.left) in
      record {
        tokens = f.0;
        left = f.2;
        all = one_token v.0 s.tokens h.tokens f.0 k h.all f.1;
        rest = takes.came_so f.0 v.1 (subst (λ x. SpotRest s.spot x v.1) f.1 h.rest);
      }

  pub ready_from : (n : ℕ) (u r : List ℕ) (v : Reading) → Ready n lx k u r → QueryRest after n r v → QueryRest s n u v
  ready_from n u r v m h =
      record {
        tokens = k ∷ h.tokens;
        left = subst (λ l. LexerRest n l u (k ∷ h.tokens)) (sym is) (m.from h.tokens h.left);
        all = more_tokens v.0 s.tokens h.tokens k h.all;
        rest = takes.goes_on h.tokens v.1 h.rest;
      }

-- with these bytes
pub gave_moved : (r r2 : Reader) (s : Stand) (i : ℕ) (bytes : List ℕ) (lx : Lexer) (k : QueryToken) → IsReaderAt r s
    → lexer_of r ≡ lx → lexer_of r2 ≡ between → Gave s.spot s.tokens k r2
    → ((n : ℕ) (u : List ℕ) → n ≡ i + length (bytes ++ u) → Ready n lx k (bytes ++ u) u) → Moved i s bytes r2
gave_moved r r2 s i bytes lx k h e e2 g m = record {
  new = record { lexer = between; spot = g.new; tokens = s.tokens ++ k ∷ [] };
  holds = record { lexer = sym e2; fits = tt; tracks = g.tracks };
  moves = record {
    goes_on = λ n u v c x. ready_from s lx (stand_lexer r s lx h e) k g.new g.takes n (bytes ++ u) u v (m n u c) x;
    came_so = λ n u v c x. ready_to s lx (stand_lexer r s lx h e) k g.new g.takes n (bytes ++ u) u v (m n u c) x;
  };
}

-- before the byte that comes, which is read once more
abbrev pub stand_after : Stand → QueryToken → Spot → Stand
stand_after s k spot = record { lexer = between; spot = spot; tokens = s.tokens ++ k ∷ [] }

pub holds_after : (r2 : Reader) (s : Stand) (k : QueryToken) (g : Gave s.spot s.tokens k r2) → lexer_of r2 ≡ between
    → IsReaderAt r2 (stand_after s k g.new)
holds_after r2 s k g e2 = record { lexer = sym e2; fits = tt; tracks = g.tracks }

passed : (i : ℕ) (s mid : Stand) (b : ℕ) (bs : List ℕ) (ok : Bool) (r : Reader)
    → ((n : ℕ) (u : List ℕ) (v : Reading) → QueryRest s n (b ∷ u) v → QueryRest mid n (b ∷ u) v)
    → ((n : ℕ) (u : List ℕ) (v : Reading) → QueryRest mid n (b ∷ u) v → QueryRest s n (b ∷ u) v)
    → MovedOrStuck i mid (b ∷ bs) ok r → MovedOrStuck i s (b ∷ bs) ok r
passed i s mid b bs true r to from m = record {
  new = m.new;
  holds = m.holds;
  moves = record {
    goes_on = λ n u v c x. from n (bs ++ u) v (m.moves.goes_on n u v c x);
    came_so = λ n u v c x. m.moves.came_so n u v c (to n (bs ++ u) v x);
  };
}
passed i s mid b bs false r to from m = record {
  never = λ c more e n u v x. let f : b ≡ c = cc in
      m.never b bs refl n u v (to n u v (subst (λ y. QueryRest s n (y ∷ u) v) (sym f) x));
}

pub gave_stepped : (r r2 r3 : Reader) (s : Stand) (i : ℕ) (bytes : List ℕ) (b : ℕ) (bs : List ℕ) (ok : Bool)
    (lx : Lexer) (k : QueryToken) → bytes ≡ b ∷ bs → IsReaderAt r s → lexer_of r ≡ lx → (g : Gave s.spot s.tokens k r2)
    → ((n : ℕ) (u : List ℕ) → Ready n lx k (b ∷ u) (b ∷ u)) → MovedOrStuck i (stand_after s k g.new) bytes ok r3
    → MovedOrStuck i s bytes ok r3
gave_stepped r r2 r3 s i bytes b bs ok lx k e h f g m st =
    subst (λ x. MovedOrStuck i s x ok r3) (sym e)
    (passed i s (stand_after s k g.new) b bs ok r3
    (λ n u v x. ready_to s lx (stand_lexer r s lx h f) k g.new g.takes n (b ∷ u) (b ∷ u) v (m n u) x)
    (λ n u v x. ready_from s lx (stand_lexer r s lx h f) k g.new g.takes n (b ∷ u) (b ∷ u) v (m n u) x)
    (subst (λ x. MovedOrStuck i (stand_after s k g.new) x ok r3) e st))

-- ── what can't come ──
head_of : (b c : ℕ) (bs more : List ℕ) → b ∷ bs ≡ c ∷ more → b ≡ c
head_of b c bs more e = cc

pub left_stuck : (r : Reader) (s : Stand) (bytes : List ℕ) (b : ℕ) (bs : List ℕ) (lx : Lexer) → bytes ≡ b ∷ bs
    → IsReaderAt r s → lexer_of r ≡ lx
    → ((n : ℕ) (u : List ℕ) (ks : List QueryToken) → ¬ LexerRest n lx (b ∷ u) ks)
    → Stuck Stand Reading QueryRest s bytes
left_stuck r s bytes b bs lx e h f m = record {
  never = λ c more g n u v x.
      let same : b ≡ c = head_of b c bs more (sym e ∙ g) in
      m n u x.tokens (subst (λ y. LexerRest n lx (y ∷ u) x.tokens) (sym same)
      (subst (λ l. LexerRest n l (c ∷ u) x.tokens) (stand_lexer r s lx h f) x.left));
}

-- the byte can only begin tokens that the parser can't take
pub record Starts (P : QueryToken → Type 0) (ks : List QueryToken) : Type 0 where
  pub k : QueryToken
  pub rest : List QueryToken
  pub is : ks ≡ k ∷ rest
  pub kind : P k

pub start_stuck : (r : Reader) (s : Stand) (bytes : List ℕ) (b : ℕ) (bs : List ℕ) (lx : Lexer) (P : QueryToken → Type 0)
    → bytes ≡ b ∷ bs → IsReaderAt r s → lexer_of r ≡ lx
    → ((n : ℕ) (u : List ℕ) (ks : List QueryToken) → LexerRest n lx (b ∷ u) ks → Starts P ks)
    → ((k : QueryToken) → P k → Never s.spot k) → Stuck Stand Reading QueryRest s bytes
start_stuck r s bytes b bs lx P e h f m never = record {
  never = λ c more g n u v x.
      let same : b ≡ c = head_of b c bs more (sym e ∙ g) in
      let d = m n u x.tokens (subst (λ y. LexerRest n lx (y ∷ u) x.tokens) (sym same)
      (subst (λ l. LexerRest n l (c ∷ u) x.tokens) (stand_lexer r s lx h f) x.left)) in
      let z = never d.k d.kind in z.never d.rest v.1 (subst (λ y. SpotRest s.spot y v.1) d.is x.rest);
}

-- the lexer of a reader whose start and word are known
pub lexer_with : (r : Reader) (make : ℕ → List ℕ → Lexer) (s : ℕ) (a : List ℕ)
    → lexer_of r ≡ make r.start (string_bytes r.word) → r.start ≡ s → string_bytes r.word ≡ a → lexer_of r ≡ make s a
lexer_with r make s a e f g = e ∙ ap (λ x. make x (string_bytes r.word)) f ∙ ap (λ x. make s x) g

pub fits_in : (r : Reader) (s : Stand) (lx : Lexer) → IsReaderAt r s → lexer_of r ≡ lx → FitsSpot lx s.spot
fits_in r s lx h e = subst (λ x. FitsSpot x s.spot) (stand_lexer r s lx h e) h.fits

-- ── a closing bracket ──
close_ready_at : (c : ℕ) → c ≡ 41 → (n : ℕ) (u : List ℕ) → Ready n between closing (encode_utf8 c ++ u) u
close_ready_at c e n u =
    subst (λ b. Ready n between closing (b ++ u) u) (sym (one_byte c 41 e (omega arith))) (close_ready n u)

pub close_stepped : (r : Reader) (p : Parser) (s : Stand) (i c : ℕ) (ok : Bool) → c ≡ 41 → IsReaderAt r s → lexer_of r
    ≡ between → TookOrNever s.spot closing ok p → MovedOrStuck i s (encode_utf8 c) ok (record r { parser = p })
close_stepped r p s i c true e h f t =
    gave_moved r (record r { parser = p }) s i (encode_utf8 c) between closing h f f
    (gave (record r { parser = p }) s.spot s.tokens closing t (first_far_same s.tokens closing r.far refl h.tracks.far)
    (first_long_same s.tokens closing r.long refl h.tracks.long))
    (λ n u _. close_ready_at c e n u)
close_stepped r p s i c false e h f t =
    start_stuck r s (encode_utf8 c) 41 [] between (λ k. k ≡ closing) (one_byte c 41 e (omega arith)) h f
    (λ n u ks w. let m = (close_ready n u).to ks w in record { k = closing; rest = m.0; is = m.1; kind = refl })
    (λ k same. subst (λ x. Never s.spot x) (sym same) t)
