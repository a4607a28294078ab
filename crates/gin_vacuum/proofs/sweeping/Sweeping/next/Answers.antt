use Rattle.std.proofs.Common.{refl, sym, ap, subst}
use Rattle.gin_vacuum.specs.Stepping.{IsNext, left_of}
use Rattle.gin_vacuum.specs.declared.sweeping.Stage.{Stage}
use Rattle.gin_vacuum.proofs.sweeping.Sweeping.next.Goals as goal

pub returns-in-Down : goal.returns-in-Down
returns-in-Down c = record {
  page = subst (λ (t : Stage). IsNext t c.in-Down.page) (sym c.in-Down.is) refl;
  left = sym (ap (left_of c.args.self.now) c.in-Down.is);
  some = λ e. cc;
  done = tt;
}

pub returns-in-Leaf : goal.returns-in-Leaf
returns-in-Leaf c = record {
  page = subst (λ (t : Stage). IsNext t c.in-Leaf.page) (sym c.in-Leaf.is) refl;
  left = sym (ap (left_of c.args.self.now) c.in-Leaf.is);
  some = λ e. cc;
  done = tt;
}

pub returns-in-TreeDown : goal.returns-in-TreeDown
returns-in-TreeDown c = record {
  page = subst (λ (t : Stage). IsNext t c.in-TreeDown.page) (sym c.in-TreeDown.is) refl;
  left = sym (ap (left_of c.args.self.now) c.in-TreeDown.is);
  some = λ e. cc;
  done = tt;
}

pub returns-in-Posts : goal.returns-in-Posts
returns-in-Posts c = record {
  page = subst (λ (t : Stage). IsNext t c.in-Posts.page) (sym c.in-Posts.is) refl;
  left = sym (ap (left_of c.args.self.now) c.in-Posts.is);
  some = λ e. cc;
  done = tt;
}

pub returns-in-Parent : goal.returns-in-Parent
returns-in-Parent c = record {
  page = subst (λ (t : Stage). IsNext t c.in-Parent.page) (sym c.in-Parent.is) refl;
  left = sym (ap (left_of c.args.self.now) c.in-Parent.is);
  some = λ e. cc;
  done = tt;
}

pub returns-in-Done : goal.returns-in-Done
returns-in-Done c = record { page = tt; left = tt; some = tt; done = c.in-Done.is }
