-- The statements of specs/LiveSizes, proved of whatever keeps the promises. Assumes nothing.
use mathlib.Core.Path.{◌≡◌, refl, ap, ◌∙◌, subst}
use mathlib.Core.List.{List, [], ◌∷◌, map}
use lib.ListN.{length}
use native.Mathlib.Omega.{arith}
use borrow.Author.Tests.{eq-eqb}
use Rattle.std.specs.Prelude.{Ok}
use Rattle.model.specs.declared.Entry.{Entry}
use Rattle.model.specs.declared.Totals.{Totals}
use Rattle.model.specs.Forest.{elsewhere}
use Rattle.model.specs.Lists.{none, one}
use Rattle.model.specs.Tree.{adds, sum_of}
use Rattle.model.specs.Plain.{plain_list}
use Rattle.model.specs.Refuse.{tasks_of}
use Rattle.model.specs.Look.{Listing, Scanned, scan}
use Rattle.model.specs.LiveSizes.{clear, scan_by_all}
use Rattle.model.proofs.LiveSizes.{clear_frees, lists_stay, opens_no_more}
use Rattle.tree.specs.Pool.{settings_in, index_of, forest_of}
use Rattle.tree.proofs.Pools.{sound_index}
use Rattle.look_output.specs.declared.Scanned as Told
use Rattle.look_output.specs.Output.{room_in}
use Rattle.index_promise.specs.Promise.{written}
use Rattle.index_promise.proofs.Dones.{done_is, ScanDone, scan_done}
use Rattle.index.specs.Register.{AnswersFrom, Turn, rest, next, plain_turn}
use Rattle.index.specs.LiveSizes.{ClearingFrees, ScanLists}
use Rattle.index.proofs.Register.{onwards}

-- CLEARING

pub clearing_frees : ClearingFrees
clearing_frees i es l m k size r c before after low a h live lent b p q =
    let t : Turn = record { tree = i; call = clear (k ∷ []) size; answer = Ok c } in
    let own : plain_turn i t es ≡ plain_list (tasks_of (clear (k ∷ []) size)) es = rw (eq-eqb i i refl) refl in
    let now : AnswersFrom i (plain_list (tasks_of (clear (k ∷ []) size)) es) m =
    subst (λ (fs : List Entry). AnswersFrom i fs m) own (onwards i es l m (t ∷ []) low (one lent none) a (next b rest)).0 in
    let was : before ≡ sum_of (map adds es) = done_is (a.totals (Ok before) p) in
    let is : after ≡ sum_of (map adds (plain_list (tasks_of (clear (k ∷ []) size)) es)) = done_is (now.totals (Ok after) q) in
    omega (arith, ap (λ (t : Totals). t.size) was, ap (λ (t : Totals). t.size) is, clear_frees k size es r h live)

-- SCANS

pub scan_lists : ScanLists
scan_lists l i q out told out' scans =
    let now : Scanned = scan q (room_in out) (index_of l i) in
    let d : ScanDone l i q out told out' = scan_done l i q out scans in
    let list : now.listed ≡ (scan_by_all q (room_in out) (index_of l i)).listed =
    lists_stay (settings_in l i) (elsewhere i (forest_of l)) q (room_in out) (index_of l i) (sound_index l d.sound i) in
    record {
      bytes = d.leaves ∙ ap (written out) list;
      number = ap (λ (t : Told.Scanned). t.written) d.tells ∙ ap (λ (g : Listing). length g.written) list;
      more = ap (λ (t : Told.Scanned). t.more) d.tells ∙ ap (λ (g : Listing). g.more) list;
      opened = omega (arith, opens_no_more q (room_in out) (index_of l i), ap (λ (t : Told.Scanned). t.opened) d.tells);
    }
