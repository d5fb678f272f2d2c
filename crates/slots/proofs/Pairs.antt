-- Two nodes changed, one after the other: what the calls leave is what `specs/Nodes.antt` says. Laws of lists of nodes, but for what a call leaves of
-- another node, over the pool. Assumes nothing.
use mathlib.Core.Path.{◌≡◌, ap, ◌∙◌}
use mathlib.Core.Logic.{◌≢◌}
use Prim.Native.Nat.{ℕ, ◌-◌, ◌≤◌, ◌<◌}
use native.Mathlib.Omega.{arith}
use mathlib.Core.List.{List, [], ◌++◌, append-nil}
use lib.ListN.{length, take, drop, set}
use lib.Seq.{set-set, take-length, drop-length}
use Rattle.model.specs.declared.Settings.{Settings}
use Rattle.slots_raw.specs.declared.Row.{Row}
use Rattle.slots_raw.specs.Over.{part}
use Rattle.slots.specs.Nodes.{Node, unused, nodes, nth, rows_at, put_rows, put_kind, put_in, without, put2, with_rows, split_nodes, back_nodes, forward_nodes, join_nodes}
use Rattle.slots.specs.Promises.{NodesPut}
use Rattle.slots.proofs.Pads.{last_part}
use Rattle.slots.proofs.Nodes.{length_nodes, nth_rows, nth_kind, nth_same, nth_put, rows_rows, at_end, first_out, last_out, first_part}

-- ---- what another node keeps, over the pool

module _ (st : Settings) (W₀ W : List ℕ) (s t : ℕ) where
  pub kept_rows : (l : List Row) → NodesPut st W₀ W (put_rows (nodes st W₀) t l) → s ≢ t → rows_at st W s ≡ rows_at st W₀ s
  kept_rows l w ne = ap (λ (ns : List Node). (nth ns s).rows) w.is ∙ ap (λ (n : Node). n.rows) (nth_rows (nodes st W₀) s t l ne)

  pub kept_kind : (k : ℕ) → NodesPut st W₀ W (put_kind (nodes st W₀) t k) → s ≢ t → rows_at st W s ≡ rows_at st W₀ s
  kept_kind k w ne = ap (λ (ns : List Node). (nth ns s).rows) w.is ∙ ap (λ (n : Node). n.rows) (nth_kind (nodes st W₀) s t k ne)

  pub kept_same : (k : ℕ) → NodesPut st W₀ W (put_kind (nodes st W₀) t k) → t < st.nodes → rows_at st W t ≡ rows_at st W₀ t
  unfolding put_kind
  kept_same k w h =
      ap (λ (ns : List Node). (nth ns t).rows) w.is
      ∙ ap (λ (n : Node). n.rows) (nth_same (nodes st W₀) t (record { kind = k; rows = rows_at st W₀ t }) (omega (arith, length_nodes st W₀)))

-- and the rows that are put are there
pub own_rows : (st : Settings) (W₀ W : List ℕ) (s : ℕ) (l : List Row) → NodesPut st W₀ W (put_rows (nodes st W₀) s l) → s < st.nodes → rows_at st W s ≡ l
own_rows st W₀ W s l w h =
    ap (λ (ns : List Node). (nth ns s).rows) w.is ∙ ap (λ (n : Node). n.rows) (nth_put (nodes st W₀) s l (omega (arith, length_nodes st W₀)))

-- ---- what the calls leave

-- a rows of node s from row `from` on put in at place i of node t
abbrev pub into : List Node → ℕ → ℕ → ℕ → ℕ → ℕ → List Node
into ns t i s from a = put_rows ns t (put_in (nth ns t).rows i (part (nth ns s).rows from a))

-- a rows taken out of node s, from row i on
abbrev pub out : List Node → ℕ → ℕ → ℕ → List Node
out ns s i a = put_rows ns s (without (nth ns s).rows i a)

pub released : (ns : List Node) (s n : ℕ) → s < length ns → n ≡ length (nth ns s).rows → put_kind (out ns s 0 n) s 0 ≡ set ns s unused
unfolding put_kind put_rows
released ns s n h e =
    let l = (nth ns s).rows in
    let none : without (nth ns s).rows 0 n ≡ [] = first_out l n ∙ ap (λ (j : ℕ). drop j l) e ∙ drop-length l in
    let x : Node = record { kind = (nth ns s).kind; rows = without l 0 n } in
    ap (λ (m : Node). set (set ns s x) s (record { kind = 0; rows = m.rows })) (nth_same ns s x h)
    ∙ set-set ns s x (record { kind = 0; rows = without l 0 n }) ∙ ap (λ (r : List Row). set ns s (record { kind = 0; rows = r })) none

pub shared_back : (ns : List Node) (prev s a n : ℕ) → s ≢ prev → n ≡ length (nth ns prev).rows → out (into ns prev n s 0 a) s 0 a ≡ back_nodes ns prev s a
shared_back ns prev s a n ne e =
    let l = (nth ns s).rows in
    let p = (nth ns prev).rows in
    rows_rows (λ (r : List Row). without r 0 a) ns s prev (put_in p n (part l 0 a)) (p ++ take a l) (drop a l) ne
    (at_end p (part l 0 a) n e ∙ ap (p ++◌) (first_part l a)) (first_out l a)

pub shared_forward : (ns : List Node) (s next a n : ℕ) → s ≢ next → n ≡ length (nth ns s).rows → a ≤ n
    → out (into ns next 0 s (n - a) a) s (n - a) a ≡ forward_nodes ns s next a
shared_forward ns s next a n ne e h =
    let l = (nth ns s).rows in
    let p = (nth ns next).rows in
    let d : n - a ≡ length l - a = ap (◌- a) e in
    rows_rows (λ (r : List Row). without r (n - a) a) ns s next (put_in p 0 (part l (n - a) a)) (drop (length l - a) l ++ p) (take (length l - a) l) ne
    (ap (◌++ p) (last_part l (n - a) a (omega arith) ∙ ap (λ (j : ℕ). drop j l) d)) (last_out l (n - a) a (omega arith) ∙ ap (λ (j : ℕ). take j l) d)

pub joined : (ns : List Node) (low high n a : ℕ) → n ≡ length (nth ns low).rows → a ≡ length (nth ns high).rows
    → set (into ns low n high 0 a) high unused ≡ join_nodes ns low high
unfolding put_rows
joined ns low high n a en ea =
    let l = (nth ns low).rows in
    let h = (nth ns high).rows in
    let all : part (nth ns high).rows 0 a ≡ (nth ns high).rows = first_part h a ∙ ap (λ (j : ℕ). take j h) ea ∙ take-length h in
    ap (λ (r : List Row). set (set ns low (with_rows (nth ns low) r)) high unused) (at_end l (part h 0 a) n en ∙ ap (l ++◌) all)

-- ---- a split: the new node gets its kind first

put_kind_free : (ns : List Node) (s new k : ℕ) → new < length ns → nth ns new ≡ unused → k ≡ (nth ns s).kind
    → nth (put_kind ns new k) new ≡ record { kind = (nth ns s).kind; rows = [] }
unfolding put_kind
put_kind_free ns s new k h free ek =
    let rows : (nth ns new).rows ≡ [] = ap (λ (n : Node). n.rows) free in
    nth_same ns new (record { kind = k; rows = (nth ns new).rows }) h ∙ (λ j. record { kind = ek j; rows = rows j })

put_kind_twice : (ns : List Node) (new k : ℕ) (a : Node) (s : ℕ) (b : Node) → put2 (put_kind ns new k) new a s b ≡ put2 ns new a s b
unfolding put_kind
put_kind_twice ns new k a s b = ap (λ (l : List Node). set l s b) (set-set ns new (record { kind = k; rows = (nth ns new).rows }) a)

pub parted : (ns : List Node) (s new k n low : ℕ) → s ≢ new → new < length ns → nth ns new ≡ unused → k ≡ (nth ns s).kind → n ≡ length (nth ns s).rows
    → low ≤ n → out (into (put_kind ns new k) new 0 s low (n - low)) s low (n - low) ≡ split_nodes ns s new low
parted ns s new k n low ne h free ek en le =
    let l = (nth ns s).rows in
    let a = n - low in
    let ms = put_kind ns new k in
    let same : nth (put_kind ns new k) s ≡ nth ns s = nth_kind ns s new k ne in
    let here : nth (put_kind ns new k) new ≡ record { kind = (nth ns s).kind; rows = [] } = put_kind_free ns s new k h free ek in
    let filled : put_in (nth ms new).rows 0 (part (nth ms s).rows low a) ≡ drop low l =
    ap (λ (m : Node). put_in (nth ms new).rows 0 (part m.rows low a)) same ∙ ap (λ (m : Node). put_in m.rows 0 (part l low a)) here
    ∙ append-nil (part l low a) ∙ last_part l low a (omega arith) in
    let left : without (nth ms s).rows low a ≡ take low l =
    ap (λ (m : Node). without m.rows low a) same ∙ last_out l low a (omega arith) in
    rows_rows (λ (r : List Row). without r low a) ms s new (put_in (nth ms new).rows 0 (part (nth ms s).rows low a)) (drop low l) (take low l) ne filled left
    ∙ ap (λ (m : Node). put2 ms new (with_rows (nth ms new) (drop low l)) s (with_rows m (take low l))) same
    ∙ ap (λ (m : Node). put2 ms new (with_rows m (drop low l)) s (with_rows (nth ns s) (take low l))) here
    ∙ put_kind_twice ns new k (with_rows (nth ns s) (drop low l)) s (with_rows (nth ns s) (take low l))
