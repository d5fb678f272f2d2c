-- A sound pool gives what the calls ask, and what they have listed and counted is what the model says of its index. Assumes nothing.
use mathlib.Core.Path.{◌≡◌, refl, sym, ap, ◌∙◌, subst}
use mathlib.Core.Logic.{◌≢◌}
use mathlib.Core.Bool.{false}
use mathlib.Core.List.{List, []}
use Prim.Native.Nat.{ℕ, zero, suc, ◌/◌, ◌<◌}
use native.Mathlib.Omega.{arith}
use lib.ListN.{length}
use Rattle.words.specs.Words.{words}
use Rattle.slots.specs.Nodes.{nodes, nth, rows_at}
use Rattle.slots.specs.Nodes as S
use Rattle.model.specs.declared.Entry.{Entry}
use Rattle.model.specs.declared.Settings.{Settings}
use Rattle.model.specs.Lists.{concat}
use Rattle.model.specs.Tree.{Tree, len, entries, entries_of, totals_of}
use Rattle.model.specs.declared.Request.{Request}
use Rattle.model.specs.Look.{listing, get_all, found, openings, due_in}
use Rattle.model.specs.Look as M
use Rattle.model.specs.Sound.{Rooted, Sound}
use Rattle.model.proofs.Lists.{all_head}
use Rattle.model.proofs.Layers.{handed_root}
use Rattle.model.proofs.Scans.{openings_few, openings_law}
use Rattle.tree.specs.Bridge.{node_for, tree_at}
use Rattle.tree.specs.Sums.{sum_rows, Sums}
use Rattle.tree.specs.Promises.{ToWeigh, InPool}
use Rattle.tree.specs.Pool.{given_in, settings_in, nodes_in, index_of, forest_of}
use Rattle.model.specs.Forest.{elsewhere}
use Rattle.tree.proofs.Sums.{rows_total, sums_fit}
use Rattle.tree.proofs.Few.{used_few, entries_most}
use Rattle.tree.proofs.Pools.{sound_held, sound_holds_index, sound_index}
use Rattle.tree.proofs.SoundHolds.{slot_read}
use Rattle.look_output.specs.declared.Listed.{Listed}
use Rattle.look_output.specs.declared.Scanned.{Scanned}
use Rattle.look_output.specs.Output.{room_in, page, enlist_all, fresh_page}
use Rattle.look_scan.specs.Walk.{Walk, walk_at, visit_all}
use Rattle.look_scan.specs.Promises.{ToScan}
use Rattle.look.specs.Promises.{ToDescend, Written}
use Rattle.look_output.proofs.Outputs.{Shows, shows_none, shows_all}
use Rattle.look_scan.proofs.Visits.{visits_show, visits_count}

-- A SOUND POOL

rooted_some : (st : Settings) (h : ℕ) (n : Tree h) → Rooted st h n → h ≢ 0 → 0 < len n
rooted_some st zero n r ne = absurd (ne refl)
rooted_some st (suc h) n r ne = omega (arith, r.0)

module _ (l : List ℕ) (st : Settings) (height : ℕ) (k : InPool l st height) where
  -- what holds of the pool's own settings and height holds of st and height
  own : (P : Settings → ℕ → Type 0) → P (settings_in l st.root) (index_of l st.root).height → P st height
  own P p = subst (λ (s : Settings). P s height) (sym k.own) (subst (P (settings_in l st.root)) (sym k.tall) p)

  sound : Sound (settings_in l st.root) (elsewhere st.root (forest_of l)) (index_of l st.root)
  sound = sound_index l k.sound st.root

  -- the root's rows are those of its children
  root_node : nth (nodes_in l st.root) (settings_in l st.root).root ≡ node_for (index_of l st.root).height (index_of l st.root).root
  root_node = ap (nth (nodes_in l st.root)) (sym (slot_read (nodes_in l st.root) (index_of l st.root).height (settings_in l st.root).root)) ∙ all_head (sound_holds_index l k.sound st.root).tree

  root_few : length (entries_of (index_of l st.root)) < 1048576
  root_few = omega (arith, entries_most (settings_in l st.root) (index_of l st.root) sound)

  pub pool_weighs : ToWeigh st (words l) height st.root
  pool_weighs =
      own (λ s h. ToWeigh s (words l) h s.root)
      (record {
        held = sound_held l k.sound st.root;
        slot = handed_root (given_in l) k.sound.settings st.root;
        sums =
            subst (λ (n : S.Node). Sums (index_of l st.root).height n.rows) (sym root_node) (sums_fit (index_of l st.root).height (index_of l st.root).root root_few sound.fit);
      })

  pub pool_totals : sum_rows height (rows_at st (words l) st.root) ≡ totals_of (index_of l st.root)
  pool_totals =
      own (λ s h. sum_rows h (rows_at s (words l) s.root) ≡ totals_of (index_of l st.root))
      (ap (λ (n : S.Node). sum_rows (index_of l st.root).height n.rows) root_node ∙ rows_total (index_of l st.root).height (index_of l st.root).root.items root_few)

  pool_entries : entries (suc height) (tree_at (nodes st (words l)) height st.root) ≡ entries_of (index_of l st.root)
  pool_entries = own (λ s h. entries (suc h) (tree_at (nodes s (words l)) h s.root) ≡ entries_of (index_of l st.root)) refl

  pool_openings : (q : Request) → openings q height (tree_at (nodes st (words l)) height st.root) ≡ openings q (index_of l st.root).height (index_of l st.root).root
  pool_openings q = own (λ s h. openings q h (tree_at (nodes s (words l)) h s.root) ≡ openings q (index_of l st.root).height (index_of l st.root).root) refl

  pub pool_grown : ToDescend st (words l) height st.root
  pool_grown =
      own (λ s h. ToDescend s (words l) h s.root)
      (record {
        pool = sound_held l k.sound st.root;
        tree = (sound_holds_index l k.sound st.root).tree;
        some = rooted_some (settings_in l st.root) (index_of l st.root).height (index_of l st.root).root sound.rooted;
        whole = sound.whole;
        sorted = sound.sorted;
      })

  -- nothing is listed or opened yet
  abbrev pub start : Scanned
  start = record { written = 0; more = false; opened = 0 }

  pub pool_scan : (q : Request) (out : List ℕ) → ToScan st (words l) height st.root q out (length out / 24) start
  pool_scan q out =
      own (λ s h. ToScan s (words l) h s.root q out (length out / 24) start)
      (record {
        held = sound_held l k.sound st.root;
        tree = (sound_holds_index l k.sound st.root).tree;
        ready = record {
          fits = omega arith;
          fresh = refl;
          few = omega (
            arith,
            openings_few q (settings_in l st.root) (index_of l st.root).height (index_of l st.root).root sound.whole sound.sorted,
            used_few (settings_in l st.root) (index_of l st.root) sound,
          );
        };
      })

  -- WHAT WAS LISTED AND COUNTED

  shown : (room : ℕ) (out o : List ℕ) (es : List Entry) (r : Listed) → Shows room out es (page o r) → Written (listing room es) out r.written r.more o
  shown room out o es r s = record { count = s.written; due = s.more; bytes = s.bytes }

  pub pool_got : (keys out o : List ℕ) (r : Listed)
      → page o r ≡ enlist_all (length out / 24) (found keys (entries (suc height) (tree_at (nodes st (words l)) height st.root))) (fresh_page out)
      → Written (get_all keys (room_in out) (index_of l st.root)) out r.written r.more o
  pool_got keys out o r e =
      let room : ℕ = length out / 24 in
      let is : page o r ≡ enlist_all room (found keys (entries_of (index_of l st.root))) (fresh_page out) =
      e ∙ ap (λ (es : List Entry). enlist_all room (found keys es) (fresh_page out)) pool_entries in
      shown room out o (found keys (entries_of (index_of l st.root))) r
      (subst (Shows room out (found keys (entries_of (index_of l st.root)))) (sym is)
      (shows_all room out [] (found keys (entries_of (index_of l st.root))) (fresh_page out) (shows_none room out)))

  module _ (q : Request) (out o : List ℕ) (r : Scanned)
      (e : walk_at o r ≡ visit_all (length out / 24) (openings q height (tree_at (nodes st (words l)) height st.root)) (walk_at out start)) where
    walked : walk_at o r ≡ visit_all (length out / 24) (openings q (index_of l st.root).height (index_of l st.root).root) (walk_at out start)
    walked = e ∙ ap (λ (ns : List (List Entry)). visit_all (length out / 24) ns (walk_at out start)) (pool_openings q)

    pub pool_scanned : Written (M.scan q (room_in out) (index_of l st.root)).listed out r.written r.more o
    pool_scanned =
        let room : ℕ = length out / 24 in
        let law : concat (openings q (index_of l st.root).height (index_of l st.root).root) ≡ due_in q (entries_of (index_of l st.root)) =
        openings_law q (settings_in l st.root) (index_of l st.root).height (index_of l st.root).root sound.whole sound.sorted in
        let all : Shows room out (concat (openings q (index_of l st.root).height (index_of l st.root).root))
        (visit_all room (openings q (index_of l st.root).height (index_of l st.root).root) (walk_at out start)).page =
        visits_show room out [] (openings q (index_of l st.root).height (index_of l st.root).root) (walk_at out start) (shows_none room out) in
        shown room out o (due_in q (entries_of (index_of l st.root))) (record { written = r.written; more = r.more })
        (subst (λ (es : List Entry). Shows room out es (walk_at o r).page) law
        (subst (λ (w : Walk). Shows room out (concat (openings q (index_of l st.root).height (index_of l st.root).root)) w.page) (sym walked) all))

    pub pool_opened : r.opened ≡ (M.scan q (room_in out) (index_of l st.root)).opened
    pool_opened =
        let room : ℕ = length out / 24 in
        ap (λ (w : Walk). w.opened) walked
        ∙ visits_count room out (openings q (index_of l st.root).height (index_of l st.root).root) (walk_at out start) (shows_none room out) refl
