-- The statements of specs/Listings, proved of whatever keeps the promises. Assumes nothing.
use mathlib.Core.Path.{◌≡◌, refl, sym, ap, ◌∙◌, subst}
use mathlib.Core.Bool.{Bool, true}
use mathlib.Core.List.{List, [], ◌∷◌, ◌++◌, append-nil}
use Prim.Native.Nat.{ℕ, ◌+◌, ◌<◌}
use native.Mathlib.Omega.{arith}
use native.Mathlib.Decide.{dec_lt}
use lib.ListN.{length, take, drop, take-append-drop}
use lib.Seq.{take_all, take-add}
use lib.Dec.{ltb}
use borrow.Author.Tests.{ltb-true, ltb-false, lt-ltb, not-true}
use Rattle.model.specs.declared.Entry.{Entry}
use Rattle.model.specs.declared.Bound.{Bound}
use Rattle.model.specs.declared.Sift.{Sift}
use Rattle.model.specs.Lists.{times, All, none, one, nil}
use Rattle.model.specs.Tree.{entries_of}
use Rattle.model.specs.Answer.{done}
use Rattle.model.specs.Look.{Scanned, starts, due, due_in, scan}
use Rattle.model.specs.Sound.{Sorted}
use Rattle.model.proofs.Lists.{both_left, both_right, all_append, all_map, all_swap, all_take, keep_ordered, ordered_append, ordered_left}
use Rattle.tree.specs.Pool.{index_of}
use Rattle.look_output.specs.Output.{room_in, output_of}
use Rattle.look_output.proofs.Outputs.{shows_none}
use Rattle.look_portion.specs.declared.Portion.{Portion}
use Rattle.look_portion.specs.Portion.{upwards, next_start, ends_listing, entry_keys}
use Rattle.look_portion.proofs.Starts.{times_joined, of_key, once, started, rest_due, still_due, next_above}
use Rattle.index_promise.specs.Promise.{leaves, swept, written}
use Rattle.index_promise.proofs.Unique.{by_sound, parts}
use Rattle.index_promise.proofs.Dones.{named_is}
use Rattle.index_portion.specs.Listings.{Moment, size_of, shown_at, sizes, shown_in, held_in, DoneAt, InPortions, begun, goes_on, over, due_of, DueAt}
use Rattle.index_portion.specs.Listings.{EachRight, StartsAfter, Joined, JoinedSoFar, ShownOnce, NeverTwice, EndsThere, EndsFirst, SizeZero}
use Rattle.index_portion.proofs.Tells.{Right, right, scan_stands, scan_more}

-- ONE PORTION

module _ (i : ℕ) (end : Bound) (sift : Sift) (start : Bound) (m : Moment) (d : DoneAt i end sift start m) where
  abbrev is : Right m.pool i start end sift m.out m.told m.after
  is = right m.pool i start end sift m.out d

  -- the entries due at its moment, from its start on, and how many it shows
  abbrev now : List Entry
  now = due_of i end sift start m.pool

  abbrev size : ℕ
  size = size_of m

  now_sorted : Sorted now
  now_sorted = keep_ordered (due (upwards start end sift)) is.sorted

  shows : shown_at m ≡ take size now
  shows = is.shows

  shown_sorted : Sorted (shown_at m)
  shown_sorted = subst Sorted (sym shows) (ordered_left (take size now) (drop size now) (subst Sorted (sym (take-append-drop size now)) now_sorted))

  shown_started : All (λ e. starts start e.key ≡ true) (shown_at m)
  shown_started = subst (All (λ e. starts start e.key ≡ true)) (sym shows) (all_take size (started end sift start (entries_of (index_of m.pool i))))

  next_is : m.told.next ≡ next_start start (shown_at m)
  next_is = is.next ∙ ap (next_start start) (sym shows)

  -- what is due from the next start on is what is left
  rest : due_of i end sift m.told.next m.pool ≡ drop size now
  rest =
      ap (λ (b : Bound). due_of i end sift b m.pool) is.next
      ∙ rest_due end sift start (take size now) (drop size now) is.sorted (sym (take-append-drop size now))

  ends_there : EndsThere m
  ends_there =
      record {
        ended = λ e.
            let both = sym is.ended ∙ e in
            (ltb-true 0 size (both_left (ltb 0 size) _ both), not-true m.told.scanned.more (both_right (ltb 0 size) _ both));
        ends = λ some no. is.ended ∙ rw (lt-ltb 0 size some, no) refl;
      }

  -- where it ended the listing it shows all
  shows_all : m.told.ended ≡ true → shown_at m ≡ now
  shows_all e = shows ∙ take_all size now (ltb-false size (length now) (sym is.more ∙ (ends_there.ended e).1))

-- SEVERAL

module _ (i : ℕ) (end : Bound) (sift : Sift) where
  -- every key shown is one that the first start lets pass
  all_started : (start : Bound) {b : Bool} {ms : List Moment} → InPortions i end sift start b ms → All (λ e. starts start e.key ≡ true) (shown_in ms)
  all_started start begun = none
  all_started start (goes_on {m = m} d e on) =
      all_append (shown_started i end sift start m d)
      (all_map (λ f h. (next_above start f.key (shown_sorted i end sift start m d) (shown_started i end sift start m d)
      (subst (λ (b : Bound). starts b f.key ≡ true) (next_is i end sift start m d) h)).0) (all_started m.told.next on))
  all_started start (over {m = m} d e) = all_append (shown_started i end sift start m d) none

  ascends : (start : Bound) {b : Bool} {ms : List Moment} → InPortions i end sift start b ms → Sorted (shown_in ms)
  ascends start begun = nil
  ascends start (goes_on {m = m} d e on) =
      ordered_append (shown_sorted i end sift start m d) (ascends m.told.next on)
      (all_swap (all_map (λ f h. (next_above start f.key (shown_sorted i end sift start m d) (shown_started i end sift start m d)
      (subst (λ (b : Bound). starts b f.key ≡ true) (next_is i end sift start m d) h)).1) (all_started m.told.next on)))
  ascends start (over {m = m} d e) = ordered_append (shown_sorted i end sift start m d) nil (all_map (λ x h. none) (shown_started i end sift start m d))

  -- a key that is due at every moment is shown
  is_shown : (start : Bound) (k : ℕ) {ms : List Moment} → InPortions i end sift start true ms → All (DueAt i end sift start k) ms
      → 0 < times k (entry_keys (shown_in ms))
  is_shown start k (goes_on {m = m} {ms = ms} d e on) (one h hs) = by (dec_lt 0 (times k (entry_keys (shown_at m)))) (is_shown m.told.next k on)
    where
      all : times k (entry_keys (shown_in (m ∷ ms))) ≡ times k (entry_keys (shown_at m)) + times k (entry_keys (shown_in ms))
      all = times_joined k (shown_at m) (shown_in ms)

      by : Dec (0 < times k (entry_keys (shown_at m))) → (All (DueAt i end sift m.told.next k) ms → 0 < times k (entry_keys (shown_in ms)))
          → 0 < times k (entry_keys (shown_in (m ∷ ms)))
      by (yes here) after = omega (arith, all, here)
      by (no later) after =
          let D : List Entry = due_of i end sift start m.pool in
          let n : ℕ = size_of m in
          let cut : times k (entry_keys D) ≡ times k (entry_keys (take n D)) + times k (entry_keys (drop n D)) =
          ap (λ (es : List Entry). times k (entry_keys es)) (sym (take-append-drop n D)) ∙ times_joined k (take n D) (drop n D) in
          let left : times k (entry_keys (due_of i end sift m.told.next m.pool)) ≡ times k (entry_keys (drop n D)) =
          ap (λ (es : List Entry). times k (entry_keys es)) (rest i end sift start m d) in
          let front : times k (entry_keys (shown_at m)) ≡ times k (entry_keys (take n D)) =
          ap (λ (es : List Entry). times k (entry_keys es)) (shows i end sift start m d) in
          let passes : starts m.told.next k ≡ true =
          of_key (λ j. starts m.told.next j ≡ true) k (started end sift m.told.next (held_in i m.pool))
          (omega (arith, h, cut, left, front, later)) in
          omega (
            arith,
            all,
            after
                (all_map (λ x g. omega (arith, g, still_due end sift start m.told.next k (entries_of (index_of x.pool i)) passes)) hs),
          )
  is_shown start k (over {m = m} d e) (one h none) =
      omega (arith, h, times_joined k (shown_at m) [], ap (λ (es : List Entry). times k (entry_keys es)) (shows_all i end sift start m d e))

  -- where the tree holds at every moment what it holds in l
  module _ (l : List ℕ) where
    abbrev SameAt : Moment → Type 0
    SameAt m = held_in i m.pool ≡ held_in i l

    -- a portion shows the first entries due of l, and leaves the others due
    front : (start : Bound) (m : Moment) → DoneAt i end sift start m → SameAt m → shown_at m ≡ take (size_of m) (due_of i end sift start l)
    front start m d q = shows i end sift start m d ∙ ap (λ (es : List Entry). take (size_of m) (due_in (upwards start end sift) es)) q

    left : (start : Bound) (m : Moment) → DoneAt i end sift start m → SameAt m
        → due_of i end sift m.told.next l ≡ drop (size_of m) (due_of i end sift start l)
    left start m d q =
        ap (due_in (upwards m.told.next end sift)) (sym q) ∙ rest i end sift start m d
        ∙ ap (λ (es : List Entry). drop (size_of m) (due_in (upwards start end sift) es)) q

    so_far : (start : Bound) {b : Bool} {ms : List Moment} → InPortions i end sift start b ms → All SameAt ms
        → shown_in ms ≡ take (sizes ms) (due_of i end sift start l)
    so_far start begun none = refl
    so_far start (goes_on {m = m} {ms = ms} d e on) (one q qs) =
        let D : List Entry = due_of i end sift start l in
        ap (◌++ shown_in ms) (front start m d q)
        ∙ ap (take (size_of m) D ++◌) (so_far m.told.next on qs ∙ ap (take (sizes ms)) (left start m d q)) ∙ sym (take-add (size_of m) (sizes ms) D)
    so_far start (over {m = m} d e) (one q none) =
        let alone : size_of m ≡ size_of m + 0 = omega arith in
        append-nil (shown_at m) ∙ front start m d q ∙ ap (λ (n : ℕ). take n (due_of i end sift start l)) alone

    whole : (start : Bound) {ms : List Moment} → InPortions i end sift start true ms → All SameAt ms → shown_in ms ≡ due_of i end sift start l
    whole start (goes_on {m = m} {ms = ms} d e on) (one q qs) =
        let D : List Entry = due_of i end sift start l in
        ap (◌++ shown_in ms) (front start m d q) ∙ ap (take (size_of m) D ++◌) (whole m.told.next on qs ∙ left start m d q)
        ∙ take-append-drop (size_of m) D
    whole start (over {m = m} d e) (one q none) = append-nil (shown_at m) ∙ shows_all i end sift start m d e ∙ ap (due_in (upwards start end sift)) q

-- THE STATEMENTS

pub each_right : EachRight
each_right i start end sift m r out' d scans =
    let k = is i end sift start m d in
    let s : Scanned = scan (upwards start end sift) (size_of m) (index_of m.pool i) in
    let e = parts (by_sound k.known.sound scans ∙ ap (leaves swept (λ x. written m.out x.listed) m.out) (named_is i (done s) k.known.tree)) in
    (e.0 ∙ ap (λ (p : Portion). done p.scanned) (sym k.known.tells), e.1 ∙ sym k.known.leaves)

pub starts_after : StartsAfter
starts_after i start end sift m d = next_is i end sift start m d

pub joined : Joined
joined i start end sift ms l out s out' on same scans all =
    let D : List Entry = due_of i end sift start l in
    whole i end sift l start on same
    ∙ sym (scan_stands l i start end sift out scans
    ∙ take_all (room_in out) D (ltb-false (room_in out) (length D) (sym (scan_more l i start end sift out scans) ∙ all)))

pub joined_so_far : JoinedSoFar
joined_so_far i start end sift b ms l on same = so_far i end sift l start on same

pub shown_once : ShownOnce
shown_once i start end sift ms k on dues = once k (ascends i end sift start on) (is_shown i end sift start k on dues)

pub never_twice : NeverTwice
never_twice i start end sift b ms on = ascends i end sift start on

pub ends_first : EndsFirst
ends_first i start end sift m d = ends_there i end sift start m d

pub size_zero : SizeZero
size_zero i start end sift m d zero =
    let k = is i end sift start m d in
    let D : List Entry = due_of i end sift start m.pool in
    record {
      none = ap (λ (p : Portion). p.scanned.written) k.known.tells ∙ ap (λ (n : ℕ). length (take n D)) zero;
      output = k.known.leaves ∙ ap (λ (n : ℕ). output_of (take n D) m.out) zero ∙ sym (shows_none 0 m.out).bytes;
      start = k.next ∙ ap (λ (n : ℕ). next_start start (take n D)) zero;
      onwards = k.ended ∙ ap (λ (n : ℕ). ends_listing n m.told.scanned.more) zero;
    }
