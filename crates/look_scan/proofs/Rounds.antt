-- The loop over an interior's children, and the step into a child, over plain variables: what the cycle of the scan's functions rests on.
-- Assumes nothing.
use mathlib.Core.Path.{◌≡◌, refl, sym, ap, ◌∙◌, subst}
use mathlib.Core.Bool.{Bool, true, false, cond}
use mathlib.Core.List.{List, [], ◌∷◌, ◌++◌, append-nil}
use Prim.Native.Nat.{ℕ, suc, ◌+◌, ◌*◌, ◌≤◌, ◌<◌}
use native.Mathlib.Omega.{arith}
use lib.ListN.{length, get_or, length-append}
use Rattle.slots_raw.specs.declared.Row.{Row}
use Rattle.slots_raw.specs.Slots.{blank}
use Rattle.slots.specs.Nodes.{nodes, rows_at, Held}
use Rattle.slots.specs.Nodes as S
use Rattle.model.specs.declared.Entry.{Entry}
use Rattle.model.specs.declared.Settings.{Settings}
use Rattle.model.specs.Tree.{Tree, greatest_key}
use Rattle.model.specs.declared.Request.{Request}
use Rattle.model.specs.Look.{entered, openings}
use Rattle.tree.specs.Bridge.{row_for, child_of, Holds, tree_at}
use Rattle.look_output.specs.declared.Scanned.{Scanned}
use Rattle.look_scan.specs.Walk.{row_enters, goes_on, place_in, Walk, walk_at, visit_all, openings_of}
use Rattle.look_scan.specs.Promises.{ToScan, ToEnter}
use Rattle.tree.proofs.Children.{child_row_lem, child_held}
use Rattle.look_scan.proofs.Visits.{rest_of, rest_all, rest_next, rest_end, visit_append, visit_ended, visit_few, inner_visited}

-- INTO A CHILD

module _ (st : Settings) (W : List ℕ) (h : ℕ) (r : Row) (q : Request) (out : List ℕ) (room : ℕ) (w : Scanned) (k : ToEnter st W h r q out room w) where
  abbrev child : Tree h
  child = tree_at (nodes st W) h (child_of r)

  enters_is : row_enters q r ≡ entered q (suc h) child
  enters_is = ap (row_enters q) k.row

  -- a child that is passed over adds nothing
  pub passed_over : row_enters q r ≡ false → walk_at out w ≡ visit_all room (openings_of q h (child ∷ [])) (walk_at out w)
  passed_over e = rw (sym enters_is ∙ e) refl

  child_openings : row_enters q r ≡ true → openings_of q h (child ∷ []) ≡ openings q h child
  child_openings e = rw (sym enters_is ∙ e) (append-nil (openings q h child))

  pub to_child : (s : ℕ) → s ≡ child_of r → row_enters q r ≡ true → ToScan st W h s q out room w
  to_child s e t =
      subst (λ (n : ℕ). ToScan st W h n q out room w) (sym e)
      (record {
        held = k.held;
        tree = k.tree;
        ready = record { fits = k.ready.fits; fresh = k.ready.fresh; few = subst (λ (l : List (List Entry)). w.opened + length l ≤ 16384) (child_openings t) k.ready.few };
      })

  pub from_child : (s : ℕ) (v : Walk) → s ≡ child_of r → row_enters q r ≡ true → v ≡ visit_all room (openings q h (tree_at (nodes st W) h s)) (walk_at out w)
      → v ≡ visit_all room (openings_of q h (child ∷ [])) (walk_at out w)
  from_child s v e t g =
      g ∙ ap (λ (n : ℕ). visit_all room (openings q h (tree_at (nodes st W) h n)) (walk_at out w)) e
      ∙ ap (λ (l : List (List Entry)). visit_all room l (walk_at out w)) (sym (child_openings t))

-- THE LOOP: what is left at turn j, walked from here, gives what the whole gives from the start; and the nodes opened can be counted

pub record Walking (q : Request) (ns : List S.Node) (h : ℕ) (rs : List Row) (room : ℕ) (first : Walk) (out : List ℕ) (at : Scanned) (j : ℕ) : Type 0 where
  pub few : at.opened + length (rest_of q ns h rs j) ≤ 16384
  pub walked : visit_all room (rest_of q ns h rs j) (walk_at out at) ≡ visit_all room (rest_of q ns h rs 0) first

module _ (st : Settings) (W : List ℕ) (h s : ℕ) (q : Request) where
  abbrev ns : List S.Node
  ns = nodes st W

  abbrev rs : List Row
  rs = rows_at st W s

  abbrev r : Request
  r = q

  -- the walk's state behind the interior itself
  abbrev pub opened_by : Scanned → Scanned
  opened_by w = record { written = w.written; more = false; opened = w.opened + 1 }

  module _ (room : ℕ) (out₀ : List ℕ) (w : Scanned) (k : ToScan st W (suc h) s q out₀ room w) where
    openings_long : length (openings r (suc h) (tree_at ns (suc h) s)) ≡ suc (length (rest_of r ns h rs 0))
    openings_long = ap length (rest_all r ns h rs s)

    pub walk_counts : w.opened + 1 + length (rest_of r ns h rs 0) ≤ 16384
    walk_counts = omega (arith, k.ready.few, openings_long)

    pub walk_starts : Walking r ns h rs room (walk_at out₀ (opened_by w)) out₀ (opened_by w) 0
    walk_starts = record { few = walk_counts; walked = refl }

    pub walk_is : (v : Walk) → v ≡ visit_all room (rest_of r ns h rs 0) (walk_at out₀ (opened_by w)) → v ≡ visit_all room (openings r (suc h) (tree_at ns (suc h) s)) (walk_at out₀ w)
    walk_is v e =
        e ∙ inner_visited room (rest_of r ns h rs 0) out₀ w k.ready.fresh ∙ ap (λ (l : List (List Entry)). visit_all room l (walk_at out₀ w)) (sym (rest_all r ns h rs s))

  module _ (k : Holds ns (suc h) (tree_at ns (suc h) s)) (room : ℕ) (first : Walk) (out : List ℕ) (at : Scanned) (j : ℕ) (v : Walking r ns h rs room first out at j) where
    pub walk_ends : length rs ≤ j → walk_at out at ≡ visit_all room (rest_of r ns h rs 0) first
    walk_ends g = ap (λ (l : List (List Entry)). visit_all room l (walk_at out at)) (sym (rest_end r ns h rs j g)) ∙ v.walked

    pub walk_stops : at.more ≡ true → walk_at out at ≡ visit_all room (rest_of r ns h rs 0) first
    walk_stops t = sym (visit_ended room (rest_of r ns h rs j) (walk_at out at) t) ∙ v.walked

    module _ (i : ℕ) (inside : j < length rs) (e : i ≡ place_in q.direction (length rs) j) (lower : i < length rs) (row : Row) (is : row ≡ get_or rs i blank) where
      abbrev kid : Row → Tree h
      kid x = tree_at ns h (child_of x)

      row_is : row ≡ row_for (suc h) (kid row)
      row_is = subst (λ (x : Row). x ≡ row_for (suc h) (kid x)) (sym is) (child_row_lem ns h s k i lower)

      left : rest_of r ns h rs j ≡ openings_of r h (kid row ∷ []) ++ cond (goes_on q row.key) (rest_of r ns h rs (j + 1)) []
      left =
          rest_next r ns h rs j i inside e
          ∙ ap (λ (x : Row). openings_of r h (kid x ∷ []) ++ cond (goes_on q (greatest_key (suc h) (kid x))) (rest_of r ns h rs (j + 1)) []) (sym is)
          ∙ ap (λ (key : ℕ). openings_of r h (kid row ∷ []) ++ cond (goes_on q key) (rest_of r ns h rs (j + 1)) []) (sym (ap (λ (x : Row). x.key) row_is))

      left_long : length (rest_of r ns h rs j) ≡ length (openings_of r h (kid row ∷ [])) + length (cond (goes_on q row.key) (rest_of r ns h rs (j + 1)) [])
      left_long = ap length left ∙ length-append (openings_of r h (kid row ∷ [])) (cond (goes_on q row.key) (rest_of r ns h rs (j + 1)) [])

      pub walk_enters : 24 * room ≤ length out → at.more ≡ false → Held st W → ToEnter st W h row q out room at
      walk_enters fits fresh held =
          record {
            held = held;
            tree = subst (λ (x : Row). Holds ns h (kid x)) (sym is) (child_held ns h s k i lower);
            row = row_is;
            ready = record { fits = fits; fresh = fresh; few = omega (arith, v.few, left_long) };
          }

      module _ (out' : List ℕ) (at' : Scanned) (g : walk_at out' at' ≡ visit_all room (openings_of r h (kid row ∷ [])) (walk_at out at)) where
        on : visit_all room (cond (goes_on q row.key) (rest_of r ns h rs (j + 1)) []) (walk_at out' at') ≡ visit_all room (rest_of r ns h rs 0) first
        on =
            ap (visit_all room (cond (goes_on q row.key) (rest_of r ns h rs (j + 1)) [])) g
            ∙ sym (visit_append room (openings_of r h (kid row ∷ [])) (cond (goes_on q row.key) (rest_of r ns h rs (j + 1)) []) (walk_at out at))
            ∙ ap (λ (l : List (List Entry)). visit_all room l (walk_at out at)) (sym left) ∙ v.walked

        pub walk_leaves : goes_on q row.key ≡ false → walk_at out' at' ≡ visit_all room (rest_of r ns h rs 0) first
        walk_leaves f = subst (λ (b : Bool). visit_all room (cond b (rest_of r ns h rs (j + 1)) []) (walk_at out' at') ≡ visit_all room (rest_of r ns h rs 0) first) f on

        pub walk_goes_on : goes_on q row.key ≡ true → Walking r ns h rs room first out' at' (j + 1)
        walk_goes_on t =
            let long : length (rest_of r ns h rs j) ≡ length (openings_of r h (kid row ∷ [])) + length (rest_of r ns h rs (j + 1)) =
            left_long ∙ ap (λ (b : Bool). length (openings_of r h (kid row ∷ [])) + length (cond b (rest_of r ns h rs (j + 1)) [])) t in
            let more : at'.opened ≤ at.opened + length (openings_of r h (kid row ∷ [])) =
            subst (λ (x : Walk). x.opened ≤ at.opened + length (openings_of r h (kid row ∷ []))) (sym g) (visit_few room (openings_of r h (kid row ∷ [])) (walk_at out at)) in
            record {
              few = omega (arith, v.few);
              walked = subst (λ (b : Bool). visit_all room (cond b (rest_of r ns h rs (j + 1)) []) (walk_at out' at') ≡ visit_all room (rest_of r ns h rs 0) first) t on;
            }
