-- The nodes of a pool as one tree sees them and as the other does. Assumes nothing.
use mathlib.Core.Path.{◌≡◌, refl, sym, ap, ◌∙◌}
use mathlib.Core.List.{List, [], ◌∷◌, map}
use Prim.Native.Nat.{ℕ}
use lib.ListN.{get_or, drop, get_or-map}
use Rattle.model.specs.declared.Settings.{Settings}
use Rattle.slots_raw.specs.Slots.{chunks, width, head_len, Raw, raw_of, seen, viewed, slot_of, slots, raw_at}
use Rattle.slots_raw.specs.Promises.{Shape}
use Rattle.slots_raw.proofs.Views.{seen_own, seen_back, viewed_back}
use Rattle.slots.specs.Nodes.{Node, unused, node_of, node_seen, nodes, nth, raw_for, Canon, Held}

-- seen from slot 0 a node is as it is stored, and seen twice as it was
pub node_own : (n : Node) → node_seen 0 n ≡ n
node_own n = ap (λ (k : ℕ). record { kind = k; rows = n.rows }) (seen_own n.kind)

pub node_twice : (root : ℕ) (n : Node) → node_seen root (node_seen root n) ≡ n
node_twice root n = ap (λ (k : ℕ). record { kind = k; rows = n.rows }) (seen_back root n.kind)

-- so are some
pub nodes_own : (ns : List Node) → map (node_seen 0) ns ≡ ns
nodes_own [] = refl
nodes_own (n ∷ ns) = rw (node_own n, nodes_own ns)

pub nodes_twice : (root : ℕ) (ns : List Node) → map (node_seen root) (map (node_seen root) ns) ≡ ns
nodes_twice root [] = refl
nodes_twice root (n ∷ ns) = rw (node_twice root n, nodes_twice root ns)

-- an unused one is unused whoever sees it
pub seen_none : (root : ℕ) → node_seen root unused ≡ unused
unfolding seen
seen_none root = refl

pub nth_seen : (root : ℕ) (ns : List Node) (s : ℕ) → nth (map (node_seen root) ns) s ≡ node_seen root (nth ns s)
unfolding seen
nth_seen root ns s = get_or-map (node_seen root) ns s unused

-- TWO TREES of one pool: st is handed to one, and su to that with its root in slot 0

module _ (st su : Settings) (W : List ℕ) (size : st.nodes ≡ su.nodes) (rows : st.rows ≡ su.rows) (first : su.root ≡ 0) where
  -- the slots as they are stored
  abbrev stored : List Raw
  stored = map (raw_of su.rows) (chunks (width su.rows) su.nodes (drop head_len W))

  as_stored : (root : ℕ) (cs : List (List ℕ)) → map node_of (map (λ b. viewed root (raw_of su.rows b)) cs) ≡ map (node_seen root) (map node_of (map (raw_of su.rows) cs))
  unfolding node_of
  as_stored root [] = refl
  as_stored root (c ∷ cs) = ap (λ (l : List Node). node_seen root (node_of (raw_of su.rows c)) ∷ l) (as_stored root cs)

  theirs : nodes su W ≡ map node_of stored
  unfolding nodes slots
  theirs = as_stored su.root (chunks (width su.rows) su.nodes (drop head_len W)) ∙ ap (λ (r : ℕ). map (node_seen r) (map node_of stored)) first ∙ nodes_own (map node_of stored)

  ours : nodes st W ≡ map (node_seen st.root) (map node_of stored)
  unfolding nodes slots
  ours =
      ap (λ (m : ℕ). map node_of (map (λ b. viewed st.root (raw_of m b)) (chunks (width m) st.nodes (drop head_len W)))) rows
      ∙ ap (λ (n : ℕ). map node_of (map (λ b. viewed st.root (raw_of su.rows b)) (chunks (width su.rows) n (drop head_len W)))) size
      ∙ as_stored st.root (chunks (width su.rows) su.nodes (drop head_len W))

  pub seen_nodes : nodes st W ≡ map (node_seen st.root) (nodes su W)
  seen_nodes = ours ∙ ap (map (node_seen st.root)) (sym theirs)

  pub first_nodes : nodes su W ≡ map (node_seen st.root) (nodes st W)
  first_nodes = sym (nodes_twice st.root (nodes su W)) ∙ ap (map (node_seen st.root)) (sym seen_nodes)

-- IN ORDER for one tree, in order for another: a slot holds its node and nothing else whoever sees it

pub canon_seen : (root m : ℕ) (r : Raw) → Canon m r → Canon m (viewed root r)
unfolding node_of raw_for
canon_seen root m r c = record { fits = c.fits; same = ap (viewed root) c.same }

module _ (st su : Settings) (W : List ℕ) (size : st.nodes ≡ su.nodes) (rows : st.rows ≡ su.rows) where
  -- a slot as one tree sees it and as the other does
  raw_seen : (s : ℕ) → raw_at st W s ≡ viewed st.root (viewed su.root (raw_at su W s))
  unfolding raw_at slots raw_of seen
  raw_seen s =
      ap (λ (m : ℕ). get_or (map (λ b. viewed st.root (raw_of m b)) (chunks (width m) st.nodes (drop head_len W))) s (raw_of m [])) rows
      ∙ ap (λ (n : ℕ). get_or (map (λ b. viewed st.root (raw_of su.rows b)) (chunks (width su.rows) n (drop head_len W))) s (raw_of su.rows [])) size
      ∙ get_or-map (λ b. viewed st.root (raw_of su.rows b)) cs s []
      ∙ ap (viewed st.root) (sym (viewed_back su.root (raw_of su.rows (get_or cs s []))))
      ∙ ap (λ (r : Raw). viewed st.root (viewed su.root r)) (sym (get_or-map (slot_of su) cs s []))
    where
      cs : List (List ℕ)
      cs = chunks (width su.rows) su.nodes (drop head_len W)

  pub canon_other : (s : ℕ) → Canon su.rows (raw_at su W s) → Canon st.rows (raw_at st W s)
  canon_other s c = rw (raw_seen s, rows) (canon_seen st.root su.rows _ (canon_seen su.root su.rows _ c))

  pub held_seen : Shape st W → Held su W → Held st W
  held_seen sh h = record { shape = sh; each = λ s. canon_other s (h.each s) }
