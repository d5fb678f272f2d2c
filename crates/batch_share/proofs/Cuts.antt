-- What the moves of rows leave of two neighbours: the first hands over, the second, or both are levelled. Assumes nothing.
use mathlib.Core.Path.{◌≡◌, refl, sym, ap, ◌∙◌}
use mathlib.Core.Logic.{◌≢◌}
use mathlib.Core.List.{List, ◌++◌, map}
use Prim.Native.Nat.{ℕ, ◌+◌, ◌-◌, ◌≤◌, ◌<◌, min}
use native.Mathlib.Omega.{arith}
use lib.ListN.{length, take, drop, length-map, length-append, take-append-drop}
use lib.Seq.{set_comm, take-append-add, drop-append-add, take-append-le, drop-append-le}
use Rattle.slots_raw.specs.declared.Row.{Row}
use Rattle.slots.specs.Nodes.{nodes, nth, rows_at, put2, with_rows, back_nodes, forward_nodes}
use Rattle.slots.specs.Promises.{NodesPut}
use Rattle.slots.specs.Nodes as S
use Rattle.slots.proofs.Nodes.{become}
use Rattle.slots_raw.proofs.Over.{map_append, map_take, map_drop}
use Rattle.model.specs.declared.Settings.{Settings}
use Rattle.model.specs.Tree.{Item, Tree, len, refill}
use Rattle.model.specs.Share.{Two, half, cut_at, handed, share_back, share_on}
use Rattle.model.specs.Sound.{InLimits}
use Rattle.model.proofs.Settles.{back_same, on_same}
use Rattle.tree.specs.Bridge.{row_for, node_for}
use Rattle.batch_share.specs.Promises.{Beside}
use Rattle.batch_share.specs.Children.{handed_rows, level_nodes}
use Rattle.batch_share.proofs.Places.{node_len}
use Rattle.batch_share.proofs.Turns.{Recut, Moved, own_lower, own_upper, apart_two}

-- THE CUTS of the model

pub recut_back : (st : Settings) (h : ℕ) (p c : Tree h) → InLimits st → Recut h p c (share_back st p c).lower (share_back st p c).upper
recut_back st h p c lim = record { first = refl; second = refl; items = back_same st lim p c }

pub recut_on : (st : Settings) (h : ℕ) (c n : Tree h) → InLimits st → Recut h c n (share_on st c n).lower (share_on st c n).upper
recut_on st h c n lim = record { first = refl; second = refl; items = on_same st lim c n }

abbrev pub both : (h : ℕ) → Tree h → Tree h → Tree h
both h p c = refill p (p.items ++ c.items)

-- evened out
abbrev pub even : (h : ℕ) → Tree h → Tree h → Two (Item h)
even h p c = cut_at (half (len (both h p c))) (both h p c) c.slot

recut_even : (h : ℕ) (p c : Tree h) → Recut h p c (even h p c).lower (even h p c).upper
recut_even h p c = record { first = refl; second = refl; items = take-append-drop (half (len (both h p c))) (p.items ++ c.items) }

-- ROWS OF TREES

module _ (ns : List S.Node) (h : ℕ) (p c : Tree h) (op : nth ns p.slot ≡ node_for h p) (oc : nth ns c.slot ≡ node_for h c) where
  abbrev f : List (Item h) → List Row
  f xs = map (row_for h) xs

  -- both nodes written by their rows
  abbrev put : List Row → List Row → List S.Node
  put l m = put2 ns p.slot (with_rows (node_for h p) l) c.slot (with_rows (node_for h c) m)

  back_cut : (k : ℕ) → back_nodes ns p.slot c.slot k ≡ put (f (p.items ++ take k c.items)) (f (drop k c.items))
  back_cut k =
      ap (λ (n : S.Node).
      put2 ns p.slot (with_rows n (n.rows ++ take k (nth ns c.slot).rows)) c.slot (with_rows (nth ns c.slot) (drop k (nth ns c.slot).rows))) op
      ∙ ap (λ (n : S.Node). put2 ns p.slot (with_rows (node_for h p) (f p.items ++ take k n.rows)) c.slot (with_rows n (drop k n.rows))) oc
      ∙ ap (λ (l : List Row). put l (drop k (f c.items)))
      (ap (f p.items ++◌) (sym (map_take (row_for h) k c.items)) ∙ sym (map_append (row_for h) p.items (take k c.items)))
      ∙ ap (λ (l : List Row). put (f (p.items ++ take k c.items)) l) (sym (map_drop (row_for h) k c.items))

  on_cut : (k : ℕ) → p.slot ≢ c.slot
      → forward_nodes ns p.slot c.slot k ≡ put (f (take (len p - k) p.items)) (f (drop (len p - k) p.items ++ c.items))
  on_cut k ne =
      let j : ℕ = len p - k in
      let long : length (f p.items) - k ≡ len p - k = ap (◌- k) (length-map p.items (row_for h)) in
      let g : List Row → ℕ → List S.Node =
      λ l m. put2 ns c.slot (with_rows (nth ns c.slot) (drop m l ++ (nth ns c.slot).rows)) p.slot (with_rows (node_for h p) (take m l)) in
      ap (λ (n : S.Node).
      put2 ns c.slot (with_rows (nth ns c.slot) (drop (length n.rows - k) n.rows ++ (nth ns c.slot).rows)) p.slot
      (with_rows n (take (length n.rows - k) n.rows))) op
      ∙ ap (g (f p.items)) long
      ∙ ap (λ (n : S.Node). put2 ns c.slot (with_rows n (drop j (f p.items) ++ n.rows)) p.slot (with_rows (node_for h p) (take j (f p.items)))) oc
      ∙ set_comm ns c.slot p.slot (with_rows (node_for h c) (drop j (f p.items) ++ f c.items)) (with_rows (node_for h p) (take j (f p.items)))
      (λ e. ne (sym e))
      ∙ ap (λ (l : List Row). put l (drop j (f p.items) ++ f c.items)) (sym (map_take (row_for h) j p.items))
      ∙ ap (λ (l : List Row). put (f (take j p.items)) l)
      (ap (◌++ f c.items) (sym (map_drop (row_for h) j p.items)) ∙ sym (map_append (row_for h) (drop j p.items) c.items))

  even_cut : level_nodes ns p.slot c.slot
      ≡ put (f (take (half (len (both h p c))) (p.items ++ c.items))) (f (drop (half (len (both h p c))) (p.items ++ c.items)))
  even_cut =
      let k : ℕ = half (len (both h p c)) in
      let cut : List Row → ℕ → List S.Node = λ l m. put (take m l) (drop m l) in
      let rows : f p.items ++ f c.items ≡ f (p.items ++ c.items) = sym (map_append (row_for h) p.items c.items) in
      let long : half (length (f (p.items ++ c.items))) ≡ half (len (both h p c)) = ap half (length-map (p.items ++ c.items) (row_for h)) in
      ap (λ (n : S.Node). levelled n (nth ns c.slot)) op ∙ ap (λ (n : S.Node). levelled (node_for h p) n) oc
      ∙ ap (λ (l : List Row). cut l (half (length l))) rows ∙ ap (cut (f (p.items ++ c.items))) long
      ∙ ap (λ (l : List Row). put l (drop k (f (p.items ++ c.items)))) (sym (map_take (row_for h) k (p.items ++ c.items)))
      ∙ ap (λ (l : List Row). put (f (take k (p.items ++ c.items))) l) (sym (map_drop (row_for h) k (p.items ++ c.items)))
    where
      levelled : S.Node → S.Node → List S.Node
      levelled m n =
          put2 ns p.slot (with_rows m (take (half (length (m.rows ++ n.rows))) (m.rows ++ n.rows))) c.slot
          (with_rows n (drop (half (length (m.rows ++ n.rows))) (m.rows ++ n.rows)))

-- IN THE POOL, where the code has x and y for the two slots and k for the amount

module _ {st : Settings} {W : List ℕ} {h s i : ℕ} {b : List (Tree h)} {p c : Tree h} {a : List (Tree h)} (t : Beside st W h s i b p c a)
    (W₁ : List ℕ) (x y : ℕ) (ex : x ≡ p.slot) (ey : y ≡ c.slot) where
  abbrev ns : List S.Node
  ns = nodes st W

  abbrev Moves : Tree h → Tree h → Type 0
  Moves p' c' = Moved st W W₁ h p c p' c' x y

  limits : InLimits st
  limits = t.family.held.shape.limits

  long_lower : length (rows_at st W x) ≡ len p
  long_lower = node_len ns h x p (ap (nth ns) ex ∙ own_lower t)

  long_upper : length (rows_at st W y) ≡ len c
  long_upper = node_len ns h y c (ap (nth ns) ey ∙ own_upper t)

  handed_back : handed_rows st W y x ≡ handed st c p
  handed_back =
      ap (λ (m : ℕ). min (st.order - m) (length (rows_at st W y) - st.minimum)) long_lower
      ∙ ap (λ (m : ℕ). min (st.order - len p) (m - st.minimum)) long_upper

  handed_on : handed_rows st W x y ≡ handed st p c
  handed_on =
      ap (λ (m : ℕ). min (st.order - m) (length (rows_at st W x) - st.minimum)) long_upper
      ∙ ap (λ (m : ℕ). min (st.order - len c) (m - st.minimum)) long_lower

  pub gave_back : (k : ℕ) → k ≡ handed_rows st W y x → NodesPut st W W₁ (back_nodes ns x y k) → Moves (share_back st p c).lower (share_back st p c).upper
  gave_back k ek w =
      let e = (λ j. back_nodes ns (ex j) (ey j) ((ek ∙ handed_back) j)) ∙ back_cut ns h p c (own_lower t) (own_upper t) (handed st c p) in
      record { recut = recut_back st h p c limits; lower = ex; upper = ey; now = become st W W₁ _ _ w e }

  pub gave_on : (k : ℕ) → k ≡ handed_rows st W x y → NodesPut st W W₁ (forward_nodes ns x y k) → Moves (share_on st p c).lower (share_on st p c).upper
  gave_on k ek w =
      let e = (λ j. forward_nodes ns (ex j) (ey j) ((ek ∙ handed_on) j)) ∙ on_cut ns h p c (own_lower t) (own_upper t) (handed st p c) (apart_two t) in
      record { recut = recut_on st h p c limits; lower = ex; upper = ey; now = become st W W₁ _ _ w e }

  pub evened : NodesPut st W W₁ (level_nodes ns x y) → Moves (even h p c).lower (even h p c).upper
  evened w =
      let e = (λ j. level_nodes ns (ex j) (ey j)) ∙ even_cut ns h p c (own_lower t) (own_upper t) in
      record { recut = recut_even h p c; lower = ex; upper = ey; now = become st W W₁ _ _ w e }

-- LEVELLED by a move of the right amount, either way

module _ (ns : List S.Node) (p c m n : ℕ) (em : m ≡ length (nth ns p).rows) (en : n ≡ length (nth ns c).rows) (ne : p ≢ c)
    {keep : ℕ} (ek : keep ≡ half (m + n)) where
  abbrev l : List Row
  l = (nth ns p).rows

  abbrev r : List Row
  r = (nth ns c).rows

  pub level_back : m < keep → back_nodes ns p c (keep - m) ≡ level_nodes ns p c
  level_back g =
      let k : ℕ = keep - m in
      let at : half (length (l ++ r)) ≡ length l + k = omega (arith, length-append l r) in
      ap (λ (q : List Row). put2 ns p (with_rows (nth ns p) q) c (with_rows (nth ns c) (drop k r)))
      (sym (ap (λ (z : ℕ). take z (l ++ r)) at ∙ take-append-add l r k))
      ∙ ap (λ (q : List Row). put2 ns p (with_rows (nth ns p) (take (half (length (l ++ r))) (l ++ r))) c (with_rows (nth ns c) q))
      (sym (ap (λ (z : ℕ). drop z (l ++ r)) at ∙ drop-append-add l r k))

  pub level_on : keep ≤ m → forward_nodes ns p c (m - keep) ≡ level_nodes ns p c
  level_on g =
      let k : ℕ = m - keep in
      let at : half (length (l ++ r)) ≡ length l - k = omega (arith, length-append l r) in
      let le : length l - k ≤ length l = omega arith in
      set_comm ns c p (with_rows (nth ns c) (drop (length l - k) l ++ r)) (with_rows (nth ns p) (take (length l - k) l)) (λ e. ne (sym e))
      ∙ ap (λ (q : List Row). put2 ns p (with_rows (nth ns p) q) c (with_rows (nth ns c) (drop (length l - k) l ++ r)))
      (sym (ap (λ (z : ℕ). take z (l ++ r)) at ∙ take-append-le (length l - k) l r le))
      ∙ ap (λ (q : List Row). put2 ns p (with_rows (nth ns p) (take (half (length (l ++ r))) (l ++ r))) c (with_rows (nth ns c) q))
      (sym (ap (λ (z : ℕ). drop z (l ++ r)) at ∙ drop-append-le (length l - k) l r le))
