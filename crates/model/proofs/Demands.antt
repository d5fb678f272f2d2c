-- Every statement of specs/Demands.antt, proved. Assumes nothing.
use mathlib.Core.Path.{◌≡◌, sym, ap, ◌∙◌}
use mathlib.Core.Logic.{◌≢◌}
use mathlib.Core.List.{List, map}
use Prim.Native.Nat.{ℕ, zero, suc, suc-le-suc}
use native.Mathlib.Omega.{arith}
use Rattle.model.specs.declared.Entry.{Entry}
use Rattle.model.specs.declared.Settings.{Settings}
use Rattle.model.specs.Lists.{All}
use Rattle.model.specs.Tree.{Index, Tree, slots_of, entries_of, adds, sum_of}
use Rattle.model.specs.Plain.{Task, references, plain_list, plain_counts, no_counts}
use Rattle.model.specs.Change.{batch}
use Rattle.model.specs.Look.{listing, found, due_in}
use Rattle.model.specs.Refuse.{Call, tasks_of, refusal}
use Rattle.model.specs.Sound.{Rooted, Sound}
use Rattle.model.specs.Demands.{Lent, OneBatch, RemoveTakesNone, NoInteriorPasses, AnswersFrom, Swap, Demands}
use Rattle.model.specs.Promises.{Ready}
use Rattle.model.proofs.Lists.{all_map, all_swap, times_append}
use Rattle.model.proofs.Plain.{list_sorted, list_all, Differs, list_swap, counts_swap}
use Rattle.model.proofs.Trees.{total_list}
use Rattle.model.proofs.Batches.{Fine, BatchOwes, batch_law}
use Rattle.model.proofs.Calls.{Passes, passes, removing, all_keys}
use Rattle.model.proofs.Scans.{openings_law}
use Rattle.model.proofs.OverFull.{over_full_child_lem}
use Rattle.model.proofs.Separators.{shared_separators_lem, sound_separators_lem}
use Rattle.model.proofs.Interiors.{uncrowded, root_given}
use Rattle.model.proofs.Frames.{read_written, write_read}
use Rattle.model.proofs.Readable.{frames_read_lem}

-- ONE BATCH

rooted_ready : (st : Settings) (h : ℕ) (n : Tree h) → Rooted st h n → Ready st h n
rooted_ready st zero n r = r
rooted_ready st (suc h) n r = record { some = omega (arith, r.0); few = r.1 }

pub sound_fine : (st : Settings) {elsewhere : List ℕ} (x : Index) → Sound st elsewhere x → Fine st x
sound_fine st x s = record { whole = s.whole; sorted = s.sorted; ready = rooted_ready st x.height x.root s.rooted }

module _ (st : Settings) (c : Call) {elsewhere : List ℕ} (x : Index) (s : Sound st elsewhere x) (lent : Lent c) (accepted : refusal st c x ≡ 0) where
  call : Passes st c x
  call = passes st c x s lent accepted

  pub owes : BatchOwes st s.settings x (tasks_of c) (batch st (tasks_of c) x)
  owes = batch_law st s.settings x (tasks_of c) call.short (sound_fine st x s) call.rising call.low

  -- whatever is in use elsewhere stays so
  pub batch_sound : Sound st elsewhere (batch st (tasks_of c) x).index
  batch_sound =
      record {
        settings = s.settings;
        root_slot = owes.root_slot ∙ s.root_slot;
        once = λ i.
            omega (
              arith,
              s.once i,
              owes.slots call.room i,
              times_append i elsewhere (slots_of x),
              times_append i elsewhere (slots_of (batch st (tasks_of c) x).index),
            );
        shallow = suc-le-suc (owes.shallow call.headroom);
        rooted = owes.rooted;
        whole = owes.whole;
        sorted = rw owes.list (list_sorted (tasks_of c) s.sorted);
        fit = rw owes.list (list_all _ call.grants s.fit);
        ascending = owes.up s.ascending;
      }

pub one_batch_lem : OneBatch
one_batch_lem st elsewhere c x s lent q =
    let o = owes st c x s lent q in
    record { list = o.list; counts = o.counts; left = o.left; sound = batch_sound st c x s lent q }

pub remove_takes_none_lem : RemoveTakesNone
remove_takes_none_lem st elsewhere c x s lent q e =
    let o = owes st c x s lent q in
    let rem = removing c.operation (references c.places c.sizes) c.keys e in
    (o.grows rem, suc-le-suc (o.lower rem))

pub no_interior_passes_lem : NoInteriorPasses
no_interior_passes_lem st elsewhere c x s lent q calls =
    let p : Passes st c x = passes st c x s lent q in
    uncrowded st s.settings _ _ _ _
    (root_given st s.settings calls x (tasks_of c) no_counts p.short (sound_fine st x s) p.rising p.low)

-- WHAT A TREE ANSWERS FROM

pub answers_from : (x : Index) (es : List Entry) → entries_of x ≡ es → AnswersFrom es x
answers_from x es e =
    record {
      holds = e;
      gets = λ ks room. ap (λ (fs : List Entry). listing room (found ks fs)) e;
      scans = λ q room. ap (λ (fs : List Entry). listing room (due_in q fs)) e;
      totals = total_list (suc x.height) x.root ∙ ap (λ (fs : List Entry). sum_of (map adds fs)) e;
    }

-- TWO NEIGHBOURS

differ : (ts us : List Task) → All (λ k. All (λ j. k ≢ j) (map (λ u. u.key) us)) (map (λ t. t.key) ts) → All (λ t. Differs t us) ts
differ ts us h = all_map (λ t g. all_keys (λ j. t.key ≢ j) us g) (all_keys (λ k. All (λ j. k ≢ j) (map (λ u. u.key) us)) ts h)

pub swap : Swap
swap st elsewhere c d x s lc ld apart qc qcd qd qdc =
    let cx = one_batch_lem st elsewhere c x s lc qc in
    let dx = one_batch_lem st elsewhere d x s ld qd in
    let cd = one_batch_lem st elsewhere d (batch st (tasks_of c) x).index cx.sound ld qcd in
    let dc = one_batch_lem st elsewhere c (batch st (tasks_of d) x).index dx.sound lc qdc in
    let pc = passes st c x s lc qc in
    let pd = passes st d x s ld qd in
    let far : All (λ t. Differs t (tasks_of d)) (tasks_of c) = differ (tasks_of c) (tasks_of d) (rw (pc.keys, pd.keys) apart) in
    let near : All (λ t. Differs t (tasks_of c)) (tasks_of d) = differ (tasks_of d) (tasks_of c) (rw (pc.keys, pd.keys) (all_map (λ j g. all_map (λ k ne e. ne (sym e)) g) (all_swap apart))) in
    record {
      first = cx.counts ∙ sym (dc.counts ∙ ap (λ (fs : List Entry). plain_counts (tasks_of c) fs no_counts) dx.list ∙ counts_swap no_counts far s.sorted);
      second = cd.counts ∙ ap (λ (fs : List Entry). plain_counts (tasks_of d) fs no_counts) cx.list ∙ counts_swap no_counts near s.sorted ∙ sym dx.counts;
      same = answers_from (batch st (tasks_of d) (batch st (tasks_of c) x).index).index (entries_of (batch st (tasks_of c) (batch st (tasks_of d) x).index).index)
          (cd.list ∙ ap (plain_list (tasks_of d)) cx.list ∙ list_swap far s.sorted ∙ sym (dc.list ∙ ap (plain_list (tasks_of c)) dx.list));
    }

-- ALL

pub demands : Demands
demands =
    record {
      one_batch = one_batch_lem;
      remove_takes_none = remove_takes_none_lem;
      no_interior_passes = no_interior_passes_lem;
      over_full_child = over_full_child_lem;
      shared_separators = shared_separators_lem;
      sound_separators = sound_separators_lem;
      swap = swap;
      openings_list = λ st elsewhere q x s. openings_law q st x.height x.root s.whole s.sorted;
      read_undoes_write = read_written;
      write_undoes_read = write_read;
      frames_read = frames_read_lem;
    }
