-- The sums of a node's rows fit a row, and what is bounded is so in parts. Assumes nothing.
use mathlib.Core.Path.{ap}
use mathlib.Core.List.{List, ◌++◌, map}
use Prim.Native.Nat.{ℕ}
use native.Mathlib.Omega.{arith}
use lib.ListN.{length, length-append}
use Rattle.model.specs.Lists.{All}
use Rattle.model.specs.Tree.{Item, Tree}
use Rattle.model.specs.Sound.{Fits}
use Rattle.model.specs.Promises.{flat}
use Rattle.model.proofs.Lists.{all_left, all_right}
use Rattle.model.proofs.Trees.{flat_append}
use Rattle.tree.specs.Bridge.{row_for}
use Rattle.tree.specs.Sums.{Sums}
use Rattle.tree.proofs.Sums as T
use Rattle.batch_share.specs.Promises.{Bounded}

pub sums_fit : (h : ℕ) (n : Tree h) → Bounded h n.items → Sums h (map (row_for h) n.items)
sums_fit h n b = T.sums_fit h n b.small b.fit

pub bounded_left : (h : ℕ) (xs ys : List (Item h)) → Bounded h (xs ++ ys) → Bounded h xs
bounded_left h xs ys b =
    let fit : All Fits (flat h xs ++ flat h ys) = rw (flat_append h xs ys) at b.fit in
    record {
      small = omega (arith, b.small, ap length (flat_append h xs ys), length-append (flat h xs) (flat h ys));
      fit = all_left (flat h xs) (flat h ys) fit;
    }

pub bounded_right : (h : ℕ) (xs ys : List (Item h)) → Bounded h (xs ++ ys) → Bounded h ys
bounded_right h xs ys b =
    let fit : All Fits (flat h xs ++ flat h ys) = rw (flat_append h xs ys) at b.fit in
    record {
      small = omega (arith, b.small, ap length (flat_append h xs ys), length-append (flat h xs) (flat h ys));
      fit = all_right (flat h xs) (flat h ys) fit;
    }
