-- Where records leave pages: the ghosts after a record that makes, grows, divides or shortens a
-- tree.
use Rattle.std.specs.Prelude.{ℕ, suc}
use Rattle.ts_base.specs.Keys.{Key}
use Rattle.core_state.specs.Trees.Nodes.{put}
use Rattle.core_state.specs.Trees.Ext.{Ext}
use Rattle.core_state.specs.Trees.Ext.Ext.{least, greatest}
use Rattle.core_state.specs.Inner.Ghosts.{Ghost}
use Rattle.core_state.specs.Inner.Ghosts.Place.{meta, left, entry, post}

-- page 0 is the metapage, and page 1 a leaf, the root of the entry tree
abbrev pub created : Ghost → Ghost
created g =
    record g {
      place = put (put g.place 0 meta) 1 (entry 0);
      low_key = put g.low_key 1 least;
      high_key = put g.high_key 1 greatest;
    }

-- the page is a posting tree of one leaf, and has this key
abbrev pub made_tree : Ghost → ℕ → Key → Ghost
made_tree g new key =
    record g {
      place = put g.place new (post new 0);
      low_item = put g.low_item new least;
      high_item = put g.high_item new greatest;
      key_of = put g.key_of new key;
    }

-- the root of the entry tree, of this height, is one above the new page
abbrev pub grown_entries : Ghost → ℕ → ℕ → Ghost
grown_entries g new h =
    record g {
      place = put (put g.place new (entry h)) 1 (entry (suc h));
      low_key = put g.low_key new least;
      high_key = put g.high_key new greatest;
    }

-- the same of a posting tree's root
abbrev pub grown_posts : Ghost → ℕ → ℕ → ℕ → Ghost
grown_posts g root new h =
    record g {
      place = put (put g.place new (post root h)) root (post root (suc h));
      low_item = put g.low_item new least;
      high_item = put g.high_item new greatest;
    }

-- the new page of this height comes after the page, from m on
abbrev pub split_entries : Ghost → ℕ → ℕ → ℕ → Ext Key → Ghost
split_entries g page new h m =
    record g {
      place = put g.place new (entry h);
      low_key = put g.low_key new m;
      high_key = put (put g.high_key new (g.high_key page)) page m;
    }

-- the same in the posting tree t
abbrev pub split_posts : Ghost → ℕ → ℕ → ℕ → ℕ → Ext ℕ → Ghost
split_posts g page new t h m =
    record g {
      place = put g.place new (post t h);
      low_item = put g.low_item new m;
      high_item = put (put g.high_item new (g.high_item page)) page m;
    }

-- the page is left of the tree t, and the next one begins where it began
abbrev pub deleted_leaf : Ghost → ℕ → ℕ → ℕ → Ghost
deleted_leaf g page next t =
    record g {
      place = put g.place page (left t);
      low_item = put g.low_item next (g.low_item page);
    }
