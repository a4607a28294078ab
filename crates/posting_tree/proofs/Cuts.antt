-- A cut of one thing is a cut of another, where the parts of both are alike.
use Rattle.std.proofs.Common.{◌≡◌, arith}
use Rattle.posting_code.specs.Cutting.{Cutting, IsHalf, IsMost, IsEven, IsCut}
use Rattle.posting_code.specs.declared.dividing.Keep.{Keep}

-- two parts of each, of which the first ones keep and fit alike and have as many members, and the second ones fit alike
pub record AreAlike {A B : Type 0} (c : Cutting A) (d : Cutting B) (f b : A) (l r : B) : Type 0 where
  pub keeps : c.Keeps f → d.Keeps l
  pub kept : d.Keeps l → c.Keeps f
  pub fits : c.Fits f → d.Fits l
  pub fitted : d.Fits l → c.Fits f
  pub rest : c.Fits b → d.Fits r
  pub rested : d.Fits r → c.Fits b
  pub count : c.count f ≡ d.count l

-- all parts of each have some of the other that are alike
pub record DivideAlike {A B : Type 0} (c : Cutting A) (d : Cutting B) : Type 0 where
  pub to : (f b : A) → c.Divides f b → (l : B) × (r : B) × d.Divides l r × AreAlike c d f b l r
  pub from : (l r : B) → d.Divides l r → (f : A) × (b : A) × c.Divides f b × AreAlike c d f b l r

module _ {A B : Type 0} (c : Cutting A) (d : Cutting B) (all : DivideAlike c d) where
  half_there : (f b : A) (l r : B) → AreAlike c d f b l r → d.Divides l r → IsHalf c f b → IsHalf d l r
  half_there f b l r like on h = record {
    divides = on;
    keeps = like.keeps h.keeps;
    least = λ m s at keeps. let w = all.from m s at in
        let le = h.least w.0 w.1 w.2 (w.3.kept keeps) in omega (arith, le, like.count, w.3.count);
  }

  half_back : (f b : A) (l r : B) → AreAlike c d f b l r → c.Divides f b → IsHalf d l r → IsHalf c f b
  half_back f b l r like on h = record {
    divides = on;
    keeps = like.kept h.keeps;
    least = λ g s at keeps. let w = all.to g s at in
        let le = h.least w.0 w.1 w.2 (w.3.keeps keeps) in omega (arith, le, like.count, w.3.count);
  }

  most_there : (f b : A) (l r : B) → AreAlike c d f b l r → d.Divides l r → IsMost c f b → IsMost d l r
  most_there f b l r like on h = record {
    divides = on;
    fits = like.fits h.fits;
    most = λ m s at fits. let w = all.from m s at in
        let le = h.most w.0 w.1 w.2 (w.3.fitted fits) in omega (arith, le, like.count, w.3.count);
  }

  most_back : (f b : A) (l r : B) → AreAlike c d f b l r → c.Divides f b → IsMost d l r → IsMost c f b
  most_back f b l r like on h = record {
    divides = on;
    fits = like.fitted h.fits;
    most = λ g s at fits. let w = all.to g s at in
        let le = h.most w.0 w.1 w.2 (w.3.fits fits) in omega (arith, le, like.count, w.3.count);
  }

  even_there : (f b : A) (l r : B) → AreAlike c d f b l r → d.Divides l r → IsEven c f b → IsEven d l r
  even_there f b l r like on (IsEven.half h fits_f fits_b) =
      IsEven.half (half_there f b l r like on h) (like.fits fits_f) (like.rest fits_b)
  even_there f b l r like on (IsEven.longest none most) =
      IsEven.longest (λ m s h fits_m fits_s. no m s h fits_m fits_s) (most_there f b l r like on most)
    where
      no : (m s : B) → IsHalf d m s → d.Fits m → d.Fits s → ⊥
      no m s h fits_m fits_s =
          let w = all.from m s h.divides in
          none w.0 w.1 (half_back w.0 w.1 m s w.3 w.2 h) (w.3.fitted fits_m) (w.3.rested fits_s)

  pub cut_there : (f b : A) (l r : B) (keep : Keep) → AreAlike c d f b l r → d.Divides l r → IsCut c f b keep
      → IsCut d l r keep
  cut_there f b l r _ like on (IsCut.half even) = IsCut.half (even_there f b l r like on even)
  cut_there f b l r _ like on (IsCut.most most keeps) =
      IsCut.most (most_there f b l r like on most) (like.keeps keeps)
  cut_there f b l r _ like on (IsCut.no_most none even) =
      IsCut.no_most (λ m s most keeps. no m s most keeps) (even_there f b l r like on even)
    where
      no : (m s : B) → IsMost d m s → d.Keeps m → ⊥
      no m s most keeps =
          let w = all.from m s most.divides in
          none w.0 w.1 (most_back w.0 w.1 m s w.3 w.2 most) (w.3.kept keeps)

-- the division of a cut
pub cut_divides : {A : Type 0} (c : Cutting A) (f b : A) (keep : Keep) → IsCut c f b keep → c.Divides f b
cut_divides c f b _ (IsCut.half (IsEven.half h p q)) = h.divides
cut_divides c f b _ (IsCut.half (IsEven.longest none most)) = most.divides
cut_divides c f b _ (IsCut.most most keeps) = most.divides
cut_divides c f b _ (IsCut.no_most none (IsEven.half h p q)) = h.divides
cut_divides c f b _ (IsCut.no_most none (IsEven.longest none_half most)) = most.divides

-- a cut is at half, with two parts that fit, or after the longest first part that fits
pub data CutCases {A : Type 0} (c : Cutting A) (f b : A) : Type 0 where
  half : IsHalf c f b → c.Fits f → c.Fits b → CutCases c f b
  most : IsMost c f b → CutCases c f b

pub cut_cases : {A : Type 0} (c : Cutting A) (f b : A) (keep : Keep) → IsCut c f b keep → CutCases c f b
cut_cases c f b _ (IsCut.half (IsEven.half h p q)) = CutCases.half h p q
cut_cases c f b _ (IsCut.half (IsEven.longest none longest)) = CutCases.most longest
cut_cases c f b _ (IsCut.most longest keeps) = CutCases.most longest
cut_cases c f b _ (IsCut.no_most none (IsEven.half h p q)) = CutCases.half h p q
cut_cases c f b _ (IsCut.no_most none (IsEven.longest none_half longest)) = CutCases.most longest
