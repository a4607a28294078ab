use Rattle.std.proofs.Common.{sym, subst}
use Rattle.gin_cleanup.specs.Inner.Between.{IsKeyStage}
use Rattle.gin_cleanup.proofs.cleanup.Cleanup.go_on.Goals as goal

pub read-requires : goal.read-requires
read-requires g c = record {
  pass = c.requires.pass;
  right = c.requires.right;
  none = c.requires.none;
  some = c.requires.left;
  next = (c.in-Reading.before, c.in-Reading.is);
  cleaning = c.requires.cleaning;
}

pub returns-in-Reading : goal.returns-in-Reading
returns-in-Reading g c = c.read.ensures

pub place-requires : goal.place-requires
place-requires g c = record {
  pass = c.requires.pass;
  right = c.requires.right;
  none = c.requires.none;
  stage = subst IsKeyStage (sym c.in-Placing.is) tt;
  cleaning = c.requires.cleaning;
}

pub returns-in-Placing : goal.returns-in-Placing
returns-in-Placing g c = c.place.ensures

pub shift-requires : goal.shift-requires
shift-requires g c = record {
  pass = c.requires.pass;
  right = c.requires.right;
  none = c.requires.none;
  left = c.requires.left;
  stage = c.in-Shifting.is;
  cleaning = c.requires.cleaning;
}

pub returns-in-Shifting : goal.returns-in-Shifting
returns-in-Shifting g c = c.shift.ensures
