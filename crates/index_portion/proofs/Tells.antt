-- What is made of a scan's answer keeps the promise of a portion; and what is known of a portion that was done. Assumes nothing.
use mathlib.Core.Path.{◌≡◌, sym, ap, ◌∙◌}
use mathlib.Core.List.{List}
use Prim.Native.Nat.{ℕ, ◌*◌, ◌≤◌}
use native.Mathlib.Omega.{arith}
use lib.ListN.{length, take, length-take}
use lib.Dec.{ltb}
use Rattle.words.specs.Words.{words}
use Rattle.std.specs.Prelude.{Result, Ok}
use Rattle.model.specs.declared.Refusal.{Refusal}
use Rattle.model.specs.declared.Entry.{Entry}
use Rattle.model.specs.declared.Bound.{Bound}
use Rattle.model.specs.declared.Sift.{Sift}
use Rattle.model.specs.Tree.{entries_of}
use Rattle.model.specs.Answer.{done}
use Rattle.model.specs.Look.{Scanned, due, due_in, scan}
use Rattle.model.specs.Sound.{Sorted}
use Rattle.model.proofs.Lists.{all_take, keep_each}
use Rattle.tree.specs.Pool.{SoundPool, index_of}
use Rattle.tree.proofs.Pools.{sound_index}
use Rattle.look_output.specs.declared.Scanned as Told
use Rattle.look_output.specs.Output.{read_entries, room_in, output_of}
use Rattle.look_output.proofs.Outputs.{read_back, output_long}
use Rattle.look_portion.specs.declared.Portion.{Portion}
use Rattle.look_portion.specs.Portion.{upwards, next_start, ends_listing, Shown, portion}
use Rattle.look_portion.specs.Promises.{portion_in}
use Rattle.index_promise.specs.Promise.{holds, ◌leaving◌, leaves, written, shown, Scans, Portions}
use Rattle.index_promise.proofs.Dones.{named_is, ScanDone, scan_done, PortionDone, portion_done}

module _ (l : List ℕ) (i : ℕ) (start end : Bound) (sift : Sift) (out : List ℕ) where
  -- the model's scan, and the entries that it lists
  abbrev swept_by : Scanned
  swept_by = scan (upwards start end sift) (room_in out) (index_of l i)

  abbrev listed_by : List Entry
  listed_by = take (room_in out) (due_in (upwards start end sift) (entries_of (index_of l i)))

  listed_fits : 24 * length listed_by ≤ length out
  listed_fits = omega (arith, length-take (room_in out) (due_in (upwards start end sift) (entries_of (index_of l i))))

  -- they stand in the output that a scan of a sound pool left
  pub listed_stand : SoundPool l → (n : ℕ) (out' : List ℕ) → n ≡ length listed_by → out' ≡ output_of listed_by out → read_entries n (words out') ≡ listed_by
  listed_stand s n out' e f =
      ap (λ (k : ℕ). read_entries k (words out')) e ∙ ap (λ (o : List ℕ). read_entries (length listed_by) (words o)) f
      ∙ read_back listed_by out (all_take (room_in out) (keep_each (due (upwards start end sift)) (sound_index l s i).fit))

  -- FROM THE SCAN

  module _ {s : Told.Scanned} {out' : List ℕ} (scans : Scans l i (upwards start end sift) out (Ok s) out') where
    abbrev known : ScanDone l i (upwards start end sift) out s out'
    known = scan_done l i (upwards start end sift) out scans

    number : s.written ≡ length listed_by
    number = ap (λ (x : Told.Scanned). x.written) known.tells

    same_length : length out' ≡ length out
    same_length = ap length known.leaves ∙ output_long listed_by out listed_fits

    pub shown_fits : 24 * s.written ≤ length out'
    shown_fits = omega (arith, number, same_length, listed_fits)

    pub scan_stands : read_entries s.written (words out') ≡ listed_by
    scan_stands = listed_stand known.sound s.written out' number known.leaves

    pub scan_more : s.more ≡ ltb (room_in out) (length (due_in (upwards start end sift) (entries_of (index_of l i))))
    scan_more = ap (λ (x : Told.Scanned). x.more) known.tells

    told_is : portion_in start s out' ≡ shown (portion start end sift (room_in out) (index_of l i))
    told_is =
        let stands = scan_stands in
        let room : room_in out' ≡ room_in out = omega (arith, same_length) in
        ap (λ (es : List Entry). record { scanned = s; next = next_start start es; ended = ends_listing (room_in out') s.more }) stands
        ∙ ap (λ (n : ℕ). record { scanned = s; next = next_start start listed_by; ended = ends_listing n s.more }) room
        ∙ ap (λ (x : Told.Scanned). record { scanned = x; next = next_start start listed_by; ended = ends_listing (room_in out) x.more }) known.tells

    -- what the call answers is named beside what was told, so that an answer that is another is refused at once
    pub portion_told : (r : Result Portion Refusal) (p : Portion) → r ≡ Ok p → p ≡ portion_in start s out' → Portions l i start end sift out r out'
    portion_told r p is e =
        let q : Shown = portion start end sift (room_in out) (index_of l i) in
        rw is
        (holds known.sound
        (ap (λ (x : Portion). done x leaving out') (e ∙ told_is) ∙ ap (λ (o : List ℕ). done (shown q) leaving o) known.leaves
        ∙ ap (leaves shown (λ x. written out x.scanned.listed) out) (sym (named_is i (done q) known.tree))))

  -- OF ONE THAT WAS DONE: the tree is in order, and what is shown, the next start and the end follow from what is due in it

  pub record Right (p : Portion) (out' : List ℕ) : Type 0 where
    pub known : PortionDone l i start end sift out p out'
    pub sorted : Sorted (entries_of (index_of l i))
    pub shows : read_entries p.scanned.written (words out') ≡ listed_by
    pub next : p.next ≡ next_start start listed_by
    pub ended : p.ended ≡ ends_listing (room_in out) p.scanned.more
    pub more : p.scanned.more ≡ ltb (room_in out) (length (due_in (upwards start end sift) (entries_of (index_of l i))))

  pub right : {p : Portion} {out' : List ℕ} → Portions l i start end sift out (Ok p) out' → Right p out'
  right {p} {out'} portions =
      let d : PortionDone l i start end sift out p out' = portion_done l i start end sift out portions in
      let more : p.scanned.more ≡ swept_by.listed.more = ap (λ (x : Portion). x.scanned.more) d.tells in
      record {
        known = d;
        sorted = (sound_index l d.sound i).sorted;
        shows = listed_stand d.sound p.scanned.written out' (ap (λ (x : Portion). x.scanned.written) d.tells) d.leaves;
        next = ap (λ (x : Portion). x.next) d.tells;
        ended = ap (λ (x : Portion). x.ended) d.tells ∙ ap (ends_listing (room_in out)) (sym more);
        more = more;
      }
