-- From slots to nodes: what is read of a slot of a pool in order is its node's, and a slot that is written as a node is written is that node.
-- Assumes nothing.
use mathlib.Core.Path.{◌≡◌, refl, sym, ap, ◌∙◌}
use mathlib.Core.Logic.{◌≢◌}
use Prim.Native.Nat.{ℕ, ◌+◌, ◌-◌, ◌≤◌, ◌<◌}
use native.Mathlib.Decide.{ℕ_discrete}
use native.Mathlib.Omega.{arith}
use mathlib.Core.List.{List, [], ◌∷◌, ◌++◌, map, append-nil}
use lib.ListN.{length, take, drop, get_or, set, replicate, length-append, length-map, length-set, get_or-map, get_or-append}
use lib.Seq.{get_or-set_same, get_or-set_other, set-get_or, set-set, take-length, drop-length}
use Rattle.model.specs.declared.Settings.{Settings}
use Rattle.slots_raw.specs.declared.Row.{Row}
use Rattle.slots_raw.specs.Over.{over, part}
use Rattle.slots_raw.specs.Slots.{blank, chunks, width, head_len, Raw, raw_of, slot_of, slots, raw_at}
use Rattle.slots_write.specs.Puts.{put_slot_kind, put_cells}
use Rattle.slots_write.specs.Promises.{SlotsPut}
use Rattle.slots.specs.Nodes.{Node, unused, node_of, nodes, nth, rows_at, put_rows, put_kind, pad, raw_for, Canon, Held, put_in, without, put2, with_rows}
use Rattle.slots.specs.Promises.{NodesPut}
use Rattle.slots_raw.proofs.Over.{map_set}
use Rattle.slots_raw.proofs.Chunks.{length_chunks}
use Rattle.slots.proofs.Pads.{take_pad, part_pad, length_put_in, length_without, opening, opened, appended, closing, closed, replaced}

-- ---- slots and nodes

pub length_slots : (st : Settings) (W : List ℕ) → length (slots st W) ≡ st.nodes
unfolding slots
length_slots st W =
    let cs = chunks (width st.rows) st.nodes (drop head_len W) in
    length-map cs (slot_of st) ∙ length_chunks (width st.rows) st.nodes (drop head_len W)

pub length_nodes : (st : Settings) (W : List ℕ) → length (nodes st W) ≡ st.nodes
unfolding nodes
length_nodes st W = length-map (slots st W) node_of ∙ length_slots st W

-- slot s holds node s
pub node_raw : (st : Settings) (W : List ℕ) (s : ℕ) → node_of (raw_at st W s) ≡ nth (nodes st W) s
unfolding nodes node_of raw_at raw_of
node_raw st W s = sym (get_or-map node_of (slots st W) s (raw_of st.rows []))

-- and nothing else
pub raw_node : (st : Settings) (W : List ℕ) (s : ℕ) → Held st W → raw_at st W s ≡ raw_for st.rows (nth (nodes st W) s)
raw_node st W s h = (h.each s).same ∙ ap (raw_for st.rows) (node_raw st W s)

pub fits_node : (st : Settings) (W : List ℕ) (s : ℕ) → Held st W → length (rows_at st W s) ≤ st.rows
fits_node st W s h = rw (node_raw st W s) at (h.each s).fits

-- the slot of a node holds it
pub node_back : (m : ℕ) (n : Node) → node_of (raw_for m n) ≡ n
unfolding node_of raw_for
node_back m n =
    let l = n.rows in
    let e : take (length l) (pad (m) l) ≡ l = take_pad (m) (length l) l (omega arith) ∙ take-length l in
    λ j. record { kind = n.kind; rows = e j }

pub canon_for : (m : ℕ) (n : Node) → length n.rows ≤ m → Canon m (raw_for m n)
canon_for m n h = record { fits = rw (node_back m n) h; same = ap (raw_for m) (sym (node_back m n)) }

-- ---- what is read

pub kind_node : (st : Settings) (W : List ℕ) (s : ℕ) → (raw_at st W s).kind ≡ (nth (nodes st W) s).kind
unfolding node_of
kind_node st W s = ap (λ (n : Node). n.kind) (node_raw st W s)

pub count_node : (st : Settings) (W : List ℕ) (s : ℕ) → Held st W → (raw_at st W s).count ≡ length (rows_at st W s)
unfolding raw_for
count_node st W s h = ap (λ (r : Raw). r.count) (raw_node st W s h)

pub cells_node : (st : Settings) (W : List ℕ) (s : ℕ) → Held st W → (raw_at st W s).cells ≡ pad st.rows (rows_at st W s)
unfolding raw_for
cells_node st W s h = ap (λ (r : Raw). r.cells) (raw_node st W s h)

pub row_node : (st : Settings) (W : List ℕ) (s i : ℕ) → Held st W → i < length (rows_at st W s)
    → get_or (raw_at st W s).cells i blank ≡ get_or (rows_at st W s) i blank
unfolding pad
row_node st W s i h g =
    let l = rows_at st W s in
    ap (λ (r : List Row). get_or r i blank) (cells_node st W s h) ∙ get_or-append l (replicate (st.rows - length l) blank) blank i g

pub part_node : (st : Settings) (W : List ℕ) (s from a : ℕ) → Held st W → from + a ≤ length (rows_at st W s)
    → part (raw_at st W s).cells from a ≡ part (rows_at st W s) from a
part_node st W s from a h g =
    ap (λ (l : List Row). part l from a) (cells_node st W s h) ∙ part_pad st.rows from a (rows_at st W s) g

-- ---- a slot written

module _ (st : Settings) (W₀ W : List ℕ) (s : ℕ) (r : Raw) (e : slots st W ≡ set (slots st W₀) s r) where
  raw_same : s < st.nodes → raw_at st W s ≡ r
  unfolding raw_at
  raw_same h =
      let none = raw_of st.rows [] in
      ap (λ (l : List Raw). get_or l s none) e ∙ get_or-set_same (slots st W₀) s r none (omega (arith, length_slots st W₀))

  pub raw_other : (t : ℕ) → t ≢ s → raw_at st W t ≡ raw_at st W₀ t
  unfolding raw_at
  raw_other t ne =
      let none = raw_of st.rows [] in
      ap (λ (l : List Raw). get_or l t none) e ∙ get_or-set_other (slots st W₀) s t r none ne

-- a slot that is written twice is written once
pub again : (f : Raw → Raw) (st : Settings) (W₀ W₁ W₂ : List ℕ) (s : ℕ) (r : Raw) → s < st.nodes → SlotsPut st W₀ W₁ (set (slots st W₀) s r)
    → SlotsPut st W₁ W₂ (set (slots st W₁) s (f (raw_at st W₁ s))) → SlotsPut st W₀ W₂ (set (slots st W₀) s (f r))
again f st W₀ W₁ W₂ s r h a b = record {
  shape = b.shape;
  is = b.is ∙ ap (λ (q : Raw). set (slots st W₁) s (f q)) (raw_same st W₀ W₁ s r a.is h)
      ∙ ap (λ (l : List Raw). set l s (f r)) a.is ∙ set-set (slots st W₀) s r (f r);
  header = b.header ∙ a.header;
}

each_again : (st : Settings) (W₀ W : List ℕ) (s : ℕ) (n : Node) → s < st.nodes → Held st W₀
    → slots st W ≡ set (slots st W₀) s (raw_for st.rows n) → length n.rows ≤ st.rows → (t : ℕ) → Dec (t ≡ s) → Canon st.rows (raw_at st W t)
each_again st W₀ W s n h held e g t (yes q) =
    rw (ap (raw_at st W) q ∙ raw_same st W₀ W s (raw_for st.rows n) e h) (canon_for st.rows n g)
each_again st W₀ W s n h held e g t (no q) = rw (raw_other st W₀ W s (raw_for st.rows n) e t q) (held.each t)

-- a slot that is written as a node is written is that node
pub settle : (st : Settings) (W₀ W : List ℕ) (s : ℕ) (r : Raw) (n : Node) → s < st.nodes → Held st W₀ → SlotsPut st W₀ W (set (slots st W₀) s r)
    → r ≡ raw_for st.rows n → length n.rows ≤ st.rows → NodesPut st W₀ W (set (nodes st W₀) s n)
unfolding nodes
settle st W₀ W s r n h held w q g =
    let raw = raw_for st.rows n in
    let e : slots st W ≡ set (slots st W₀) s (raw_for st.rows n) = w.is ∙ ap (set (slots st W₀) s) q in
    record {
      held = record { shape = w.shape; each = λ t. each_again st W₀ W s n h held e g t (ℕ_discrete t s) };
      is = ap (map node_of) e ∙ map_set node_of (slots st W₀) s raw ∙ ap (set (map node_of (slots st W₀)) s) (node_back st.rows n);
      header = w.header;
    }

-- ---- what is written: n is the number of rows that node s has

-- the slots with all of slot s written but its kind
abbrev rewritten : Settings → List ℕ → ℕ → ℕ → List Row → List Raw
rewritten st W s c l = set (slots st W) s (record { kind = (raw_at st W s).kind; count = c; cells = l })

module _ (st : Settings) (W₀ W : List ℕ) (s n : ℕ) (h : s < st.nodes) (held : Held st W₀) (en : n ≡ length (rows_at st W₀ s)) where
  rows_now : (cells : List Row) (c : ℕ) (l : List Row) → SlotsPut st W₀ W (rewritten st W₀ s c cells) → cells ≡ pad st.rows l → c ≡ length l
      → c ≤ st.rows → NodesPut st W₀ W (put_rows (nodes st W₀) s l)
  unfolding put_rows raw_for
  rows_now cells c l w e ec g =
      settle st W₀ W s (record { kind = (raw_at st W₀ s).kind; count = c; cells = cells }) (record { kind = (nth (nodes st W₀) s).kind; rows = l }) h held w
      (λ j. record { kind = kind_node st W₀ s j; count = ec j; cells = e j }) (omega arith)

  -- a gap is opened and filled
  pub opened_now : (i a : ℕ) (new : List Row) → i ≤ n → length new ≡ a → n + a ≤ st.rows
      → SlotsPut st W₀ W (rewritten st W₀ s (n + a) (opening n (raw_at st W₀ s).cells i a new)) → NodesPut st W₀ W (put_rows (nodes st W₀) s (put_in (rows_at st W₀ s) i new))
  opened_now i a new hi ea g w =
      let l = rows_at st W₀ s in
      rows_now (opening n (raw_at st W₀ s).cells i a new) (n + a) (put_in l i new) w
      (ap (λ (r : List Row). opening n r i a new) (cells_node st W₀ s held) ∙ opened st.rows i a n l new en hi ea g)
      (omega (arith, length_put_in l i new (omega arith))) g

  -- rows are put after the last
  pub appended_now : (a : ℕ) (new : List Row) → length new ≡ a → n + a ≤ st.rows
      → SlotsPut st W₀ W (rewritten st W₀ s (n + a) (over (raw_at st W₀ s).cells n a new)) → NodesPut st W₀ W (put_rows (nodes st W₀) s (rows_at st W₀ s ++ new))
  appended_now a new ea g w =
      let l = rows_at st W₀ s in
      rows_now (over (raw_at st W₀ s).cells n a new) (n + a) (l ++ new) w
      (ap (λ (r : List Row). over r n a new) (cells_node st W₀ s held) ∙ appended st.rows a n l new en ea g)
      (omega (arith, length-append l new)) g

  -- rows are taken out
  pub closed_now : (i a : ℕ) → i + a ≤ n
      → SlotsPut st W₀ W (rewritten st W₀ s (n - a) (closing n (raw_at st W₀ s).cells i a)) → NodesPut st W₀ W (put_rows (nodes st W₀) s (without (rows_at st W₀ s) i a))
  closed_now i a hi w =
      let l = rows_at st W₀ s in
      let fits : length (rows_at st W₀ s) ≤ st.rows = fits_node st W₀ s held in
      rows_now (closing n (raw_at st W₀ s).cells i a) (n - a) (without l i a) w
      (ap (λ (r : List Row). closing n r i a) (cells_node st W₀ s held) ∙ closed st.rows i a n l en hi (omega arith))
      (omega (arith, length_without l i a (omega arith))) (omega arith)

  -- a row is set
  pub row_now : (i : ℕ) (r : Row) → i < n → SlotsPut st W₀ W (put_cells st W₀ s (over (raw_at st W₀ s).cells i 1 (r ∷ [])))
      → NodesPut st W₀ W (put_rows (nodes st W₀) s (set (rows_at st W₀ s) i r))
  unfolding put_rows raw_for
  row_now i r hi w =
      let q = raw_at st W₀ s in
      let l = rows_at st W₀ s in
      let fits : length (rows_at st W₀ s) ≤ st.rows = fits_node st W₀ s held in
      let size : length (set (rows_at st W₀ s) i r) ≡ length (rows_at st W₀ s) = length-set l i r in
      let count : q.count ≡ length (set l i r) = count_node st W₀ s held ∙ sym size in
      let cells : over q.cells i 1 (r ∷ []) ≡ pad st.rows (set l i r) =
      ap (λ (m : List Row). over m i 1 (r ∷ [])) (cells_node st W₀ s held) ∙ replaced st.rows i l r (omega arith) fits in
      settle st W₀ W s (record { kind = q.kind; count = q.count; cells = over q.cells i 1 (r ∷ []) })
      (record { kind = (nth (nodes st W₀) s).kind; rows = set l i r }) h held w
      (λ j. record { kind = kind_node st W₀ s j; count = count j; cells = cells j }) (omega arith)

-- the kind is set
pub kind_now : (st : Settings) (W₀ W : List ℕ) (s k : ℕ) → s < st.nodes → Held st W₀ → SlotsPut st W₀ W (put_slot_kind st W₀ s k)
    → NodesPut st W₀ W (put_kind (nodes st W₀) s k)
unfolding put_kind raw_for
kind_now st W₀ W s k h held w =
    settle st W₀ W s (record { kind = k; count = (raw_at st W₀ s).count; cells = (raw_at st W₀ s).cells }) (record { kind = k; rows = rows_at st W₀ s }) h held w
    (λ j. record { kind = k; count = count_node st W₀ s held j; cells = cells_node st W₀ s held j }) (fits_node st W₀ s held)

-- ---- a change of nodes, and another

pub then : (f : List Node → List Node) (st : Settings) (W₀ W₁ W₂ : List ℕ) (ns : List Node) → NodesPut st W₀ W₁ ns → NodesPut st W₁ W₂ (f (nodes st W₁))
    → NodesPut st W₀ W₂ (f ns)
then f st W₀ W₁ W₂ ns a b = record { held = b.held; is = b.is ∙ ap f a.is; header = b.header ∙ a.header }

pub become : (st : Settings) (W₀ W : List ℕ) (ns ns' : List Node) → NodesPut st W₀ W ns → ns ≡ ns' → NodesPut st W₀ W ns'
become st W₀ W ns ns' a e = record { held = a.held; is = a.is ∙ e; header = a.header }

-- another node is as it was, after a change of rows or of a kind
pub nth_rows : (ns : List Node) (s t : ℕ) (l : List Row) → s ≢ t → nth (put_rows ns t l) s ≡ nth ns s
unfolding put_rows
nth_rows ns s t l ne = get_or-set_other ns t s (with_rows (nth ns t) l) unused ne

pub nth_kind : (ns : List Node) (s t k : ℕ) → s ≢ t → nth (put_kind ns t k) s ≡ nth ns s
unfolding put_kind
nth_kind ns s t k ne = get_or-set_other ns t s (record { kind = k; rows = (nth ns t).rows }) unused ne

pub nth_same : (ns : List Node) (s : ℕ) (n : Node) → s < length ns → nth (set ns s n) s ≡ n
nth_same ns s n h = get_or-set_same ns s n unused h

-- the rows of one node: put as they are, put and read, and put again
pub put_same : (ns : List Node) (s : ℕ) → put_rows ns s (nth ns s).rows ≡ ns
unfolding put_rows
put_same ns s = set-get_or ns s unused

pub nth_put : (ns : List Node) (s : ℕ) (l : List Row) → s < length ns → nth (put_rows ns s l) s ≡ with_rows (nth ns s) l
unfolding put_rows
nth_put ns s l h = nth_same ns s (with_rows (nth ns s) l) h

pub put_put : (ns : List Node) (s : ℕ) (l m : List Row) → s < length ns → put_rows (put_rows ns s l) s m ≡ put_rows ns s m
unfolding put_rows
put_put ns s l m h =
    ap (λ (n : Node). set (put_rows ns s l) s (with_rows n m)) (nth_put ns s l h) ∙ set-set ns s (with_rows (nth ns s) l) (with_rows (nth ns s) m)

-- the rows of a node change, and those of another after it
pub rows_rows : (f : List Row → List Row) (ns : List Node) (s t : ℕ) (l l' m : List Row) → s ≢ t → l ≡ l' → f (nth ns s).rows ≡ m
    → put_rows (put_rows ns t l) s (f (nth (put_rows ns t l) s).rows) ≡ put2 ns t (with_rows (nth ns t) l') s (with_rows (nth ns s) m)
unfolding put_rows
rows_rows f ns s t l l' m ne el em =
    ap (λ (n : Node). set (put_rows ns t l) s (with_rows n (f n.rows))) (nth_rows ns s t l ne)
    ∙ ap (λ (r : List Row). put2 ns t (with_rows (nth ns t) r) s (with_rows (nth ns s) (f (nth ns s).rows))) el
    ∙ ap (λ (r : List Row). put2 ns t (with_rows (nth ns t) l') s (with_rows (nth ns s) r)) em

-- ---- rows put in and taken out at the ends

pub at_end : (l new : List Row) (n : ℕ) → n ≡ length l → put_in l n new ≡ l ++ new
at_end l new n e = rw (e, take-length l, drop-length l, append-nil (l ++ new))

pub first_out : (l : List Row) (a : ℕ) → without l 0 a ≡ drop a l
first_out l a =
    let z : 0 + a ≡ a = omega arith in
    rw z

pub last_out : (l : List Row) (k a : ℕ) → k + a ≡ length l → without l k a ≡ take k l
last_out l k a e = rw (e, drop-length l, append-nil (take k l))

pub first_part : (l : List Row) (a : ℕ) → part l 0 a ≡ take a l
unfolding part
first_part l a = refl
