-- What a step leaves that was made sheet by sheet.
use Rattle.std.proofs.Common.{◌≡◌, List, [], ◌∷◌, ◌++◌, ap, ◌∙◌}
use Rattle.core_state.specs.Allowed.{Sheet, Step}

-- one sheet more, and then others
pub left_then : (s0 s1 s2 : Step) (x : Sheet) (ys : List Sheet) → s1 ≡ record s0 { after = s0.after ++ x ∷ [] }
    → s2 ≡ record s1 { after = s1.after ++ ys } → s2 ≡ record s0 { after = (s0.after ++ x ∷ []) ++ ys }
left_then s0 s1 s2 x ys one then = then ∙ ap (λ (s : Step). record s { after = s.after ++ ys }) one
