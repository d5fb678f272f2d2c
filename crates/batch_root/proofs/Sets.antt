-- A NODE PUT INTO A SLOT: which slots are unused then, and changes of one slot that are one change. Assumes nothing.
use mathlib.Core.Path.{◌≡◌, refl, ap, ◌∙◌}
use mathlib.Core.Logic.{◌≢◌}
use mathlib.Core.List.{List, [], ◌∷◌, ◌++◌}
use Prim.Native.Nat.{ℕ, zero, suc, ◌<◌}
use lib.ListN.{length, take, drop, set}
use lib.Seq.{set-set, take-length, drop-length}
use borrow.Author.Tests.{ne_eqb}
use Rattle.slots_raw.specs.declared.Row.{Row}
use Rattle.slots.specs.Nodes.{nth, unused, put_rows, put_kind, put2, with_rows, back_nodes, put_in}
use Rattle.slots.specs.Nodes as S
use Rattle.slots.proofs.Nodes.{nth_same, nth_kind}
use Rattle.tree.specs.Bridge.{unused_from, unused_of}
use Rattle.batch_root.specs.Roots.{moved}

-- WHICH SLOTS ARE UNUSED

-- a node in use may be put into any slot
pub no_blank : (n : S.Node) → n.kind ≢ 0 → n.kind ≡ 0 → n ≡ unused
no_blank n u z = absurd (u z)

set_used : (a s : ℕ) (ns : List S.Node) (n : S.Node) → n.kind ≢ 0 → (nth ns s).kind ≢ 0 → unused_from a (set ns s n) ≡ unused_from a ns
set_used a s [] n u v = refl
set_used a zero (m ∷ ns) n u v = rw (ne_eqb n.kind 0 u, ne_eqb m.kind 0 v) refl
set_used a (suc s) (m ∷ ns) n u v = rw (set_used (suc a) s ns n u v) refl

-- a slot in use that stays in use leaves the unused ones as they were
pub unused_same : (ns : List S.Node) (s : ℕ) (n : S.Node) → n.kind ≢ 0 → (nth ns s).kind ≢ 0 → unused_of (set ns s n) ≡ unused_of ns
unused_same ns s n u v = set_used 0 s ns n u v

-- ONE SLOT CHANGED TWICE

pub rows_set : (f : List Row → List Row) (ns : List S.Node) (s : ℕ) (n : S.Node) → s < length ns
    → put_rows (set ns s n) s (f (nth (set ns s n) s).rows) ≡ set ns s (record { kind = n.kind; rows = f n.rows })
unfolding put_rows
rows_set f ns s n h =
    ap (λ (m : S.Node). set (set ns s n) s (record { kind = m.kind; rows = f m.rows })) (nth_same ns s n h)
    ∙ set-set ns s n (record { kind = n.kind; rows = f n.rows })

pub kind_set : (ns : List S.Node) (s : ℕ) (n : S.Node) (k : ℕ) → s < length ns → put_kind (set ns s n) s k ≡ set ns s (record { kind = k; rows = n.rows })
unfolding put_kind
kind_set ns s n k h =
    ap (λ (m : S.Node). set (set ns s n) s (record { kind = k; rows = m.rows })) (nth_same ns s n h) ∙ set-set ns s n (record { kind = k; rows = n.rows })

-- all rows of the root go to an unused slot, which got its kind before
pub moved_all : (r : ℕ) (ns : List S.Node) (new k n : ℕ) → r ≢ new → new < length ns → nth ns new ≡ unused → k ≡ (nth ns r).kind → n ≡ length (nth ns r).rows
    → back_nodes (put_kind ns new k) new r n ≡ moved r ns new
unfolding put_kind
moved_all r ns new k n ne h free ek en =
    let l = (nth ns r).rows in
    let ms = put_kind ns new k in
    let none : (nth ns new).rows ≡ [] = ap (λ (m : S.Node). m.rows) free in
    let same : nth (put_kind ns new k) r ≡ nth ns r = nth_kind ns r new k ne in
    let here : nth (put_kind ns new k) new ≡ record { kind = (nth ns r).kind; rows = [] } =
    nth_same ns new (record { kind = k; rows = (nth ns new).rows }) h ∙ (λ j. record { kind = ek j; rows = none j }) in
    let all : take n (nth ns r).rows ≡ (nth ns r).rows = ap (λ (j : ℕ). take j l) en ∙ take-length l in
    let rest : drop n (nth ns r).rows ≡ [] = ap (λ (j : ℕ). drop j l) en ∙ drop-length l in
    ap (λ (m : S.Node). put2 ms new (with_rows (nth ms new) ((nth ms new).rows ++ take n m.rows)) r (with_rows m (drop n m.rows))) same
    ∙ ap (λ (m : S.Node). put2 ms new (with_rows m (m.rows ++ take n l)) r (with_rows (nth ns r) (drop n l))) here
    ∙ ap (λ (q : List Row). put2 ms new (record { kind = (nth ns r).kind; rows = q }) r (with_rows (nth ns r) (drop n l))) all
    ∙ ap (λ (q : List Row). put2 ms new (nth ns r) r (with_rows (nth ns r) q)) rest
    ∙ ap (λ (z : List S.Node). set z r (with_rows (nth ns r) [])) (set-set ns new (record { kind = k; rows = (nth ns new).rows }) (nth ns r))

-- a node without rows is given a kind and two rows
pub two_rows : (ns : List S.Node) (s k : ℕ) (a b : Row) → s < length ns → (nth ns s).rows ≡ []
    → put_rows (put_rows (put_kind ns s k) s (put_in (nth (put_kind ns s k) s).rows 0 (a ∷ []))) s
    (put_in (nth (put_rows (put_kind ns s k) s (put_in (nth (put_kind ns s k) s).rows 0 (a ∷ []))) s).rows 1 (b ∷ []))
    ≡ set ns s (record { kind = k; rows = a ∷ b ∷ [] })
unfolding put_kind
two_rows ns s k a b h e =
    let f : List Row → List Row = λ l. put_in l 0 (a ∷ []) in
    let g : List Row → List Row = λ l. put_in l 1 (b ∷ []) in
    ap (λ (l : List S.Node). put_rows l s (g (nth l s).rows)) (rows_set f ns s (record { kind = k; rows = (nth ns s).rows }) h)
    ∙ rows_set g ns s (record { kind = k; rows = f (nth ns s).rows }) h
    ∙ ap (λ (l : List Row). set ns s (record { kind = k; rows = g (f l) })) e
