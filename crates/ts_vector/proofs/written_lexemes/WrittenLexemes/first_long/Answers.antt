use Rattle.std.proofs.Common.{◌≡◌, ◌<◌, ◌≤◌, [], length, get_or, sym, ap, subst, ◌∙◌, arith}
use Rattle.std.specs.Prelude.{All}
use Rattle.std.proofs.lemmas.List.{take_all, get_or_read}
use Rattle.std.proofs.lemmas.List.Elements.{All-more}
use Rattle.ts_vector.specs.Text.{Written, written, FirstLong}
use Rattle.ts_vector.specs.Inner.Columns.{entry}
use Rattle.ts_vector.proofs.WrittenFacts.{draft_in, drafts_long, long_step, long_here}
use Rattle.ts_vector.proofs.written_lexemes.WrittenLexemes.first_long.Goals as goal

pub returns-then-lexeme-gt-LONGEST_LEXEME : goal.returns-then-lexeme-gt-LONGEST_LEXEME
returns-then-lexeme-gt-LONGEST_LEXEME c =
    let f = c.self.inside in
    let v = c.args.self.now in
    let k = c.loop-k.k in
    let d = written 0 [] [] in
    let lt : k < length f.starts.items = omega (arith, c.len-k-end.ensures, f.starts.ok.0) in
    let at = draft_in f.starts.items f.entries v c.self.view_is c.self.invariant k 0 (entry [] []) d lt in
    let n = ap (λ (x : Written). length x.lexeme) at.1 in
    let m = ap length (c.lexeme.ensures (entry [] [])) in
    let long : 2046 < length (get_or v k d).lexeme = omega arith in
    let start : (get_or v k d).start ≡ c.index.result.now = ap (λ (x : Written). x.start) at.1
    ∙ sym (get_or_read f.starts.items k c.index.result.now lt c.index.ensures 0) in
    subst (λ n. FirstLong v n) start (long_here v k d at.0 long c.loop-k.invariant.first)

pub loop-k-preserved : goal.loop-k-preserved
loop-k-preserved c =
    let f = c.self.inside in
    let v = c.args.self.now in
    let k = c.loop-k.k in
    let d = written 0 [] [] in
    let lt : k < length f.starts.items = omega (arith, c.len-k-end.ensures, f.starts.ok.0) in
    let at = draft_in f.starts.items f.entries v c.self.view_is c.self.invariant k 0 (entry [] []) d lt in
    let n = ap (λ (x : Written). length x.lexeme) at.1 in
    let m = ap length (c.lexeme.ensures (entry [] [])) in
    let short : length (get_or v k d).lexeme ≤ 2046 = omega arith in
    record {
      fit = All-more (λ item. length item.lexeme ≤ 2046) v k d at.0 c.loop-k.invariant.fit short;
      first = long_step v k d at.0 short c.loop-k.invariant.first;
    }

pub returns : goal.returns
returns c =
    let f = c.self.inside in
    let v = c.args.self.now in
    let n = drafts_long f.starts.items f.entries c.self.invariant in
    let m = ap length c.self.view_is in
    subst (All (λ item. length item.lexeme ≤ 2046))
    (take_all c.loop-k.k v (omega (arith, c.len-k-end.ensures, f.starts.ok.0))) c.loop-k.invariant.fit
