-- What the layers below have done keeps the promises of the calls: a refused search for the tree does, and what is told of the tree that was found.
-- Assumes nothing.
use Prim.Native.Nat.{ℕ}
use mathlib.Core.Path.{◌≡◌, refl, sym, ap, ◌∙◌, subst}
use mathlib.Core.Bool.{Bool, true, false, cond}
use mathlib.Core.List.{List, ◌++◌}
use lib.ListN.{length, drop}
use Rattle.model.specs.declared.Totals.{Totals}
use Rattle.model.specs.Tree.{totals_of}
use Rattle.std.specs.Prelude.{Result, Ok, Err}
use Rattle.model.specs.declared.Refusal.{Refusal}
use Rattle.model.specs.declared.Refusal.TheVariants.{KeysDescend}
use Rattle.model.specs.Answer.{Answer, refused, done, unless, number}
use Rattle.model.proofs.Refusals.{number_some}
use Rattle.model.specs.declared.Request.{Request}
use Rattle.model.specs.Look.{Listing, Scanned, get_all, scan}
use Rattle.model.specs.Refuse.{descend, get}
use Rattle.model.specs.Frame.{write_node}
use Rattle.model.specs.Forest.{named}
use Rattle.tree.specs.Pool.{index_of}
use Rattle.look_output.specs.declared.Listed.{Listed}
use Rattle.look_output.specs.declared.Scanned as Told
use Rattle.look_output.specs.Output.{room_in}
use Rattle.look.specs.Promises.{Written}
use Rattle.frame_text.specs.Answers.{length_in, line_after}
use Rattle.frame_text.specs.Answers as Line
use Rattle.index_promise.specs.Promise.{holds, Left, ◌leaving◌, leaves, Totalling, Gets, Scans, Frames, listed, swept, written}
use Rattle.index_named.specs.declared.Named.{Named}
use Rattle.index_named.specs.Promises.{TreeFound, Refused}
use Rattle.index_named.proofs.Trees.{answers, not_there, not_left, late_named}

-- NO SUCH TREE, or no sound pool

module _ {l : List ℕ} (i : ℕ) (why : Refusal) (r : Refused l i (number why)) where
  pub totals_refused : Totalling l i (Err why)
  totals_refused = not_there i (named i (done (totals_of (index_of l i)))) (late_named i (done (totals_of (index_of l i)))) r (number_some why)

  pub get_refused : (ks out : List ℕ) → Gets l i ks out (Err why) out
  get_refused ks out =
      let a : Answer Listing = get ks (room_in out) (index_of l i) in
      not_left i (named i a) (late_named i a) listed (written out) out r (number_some why)

  pub scan_refused : (q : Request) (out : List ℕ) → Scans l i q out (Err why) out
  scan_refused q out =
      let a : Answer Scanned = done (scan q (room_in out) (index_of l i)) in
      not_left i (named i a) (late_named i a) swept (λ s. written out s.listed) out r (number_some why)

  pub frame_refused : (j : ℕ) (line : List ℕ) → Frames l i j line (Err why) line
  frame_refused j line =
      let a : Answer (List ℕ) = write_node j (length line) (index_of l i) in
      not_left i (named i a) (late_named i a) length (λ s. s ++ drop (length s) line) line r (number_some why)

-- what was written, and told of it
get_left : (g : Listing) (r : Listed) (out out' : List ℕ) → Written g out r.written r.more out'
    → (done r leaving out') ≡ (done (listed g) leaving written out g)
get_left g r out out' w =
    let same : r ≡ listed g =
    ap (λ (n : ℕ). record { written = n; more = r.more }) w.count ∙ ap (λ (b : Bool). record { written = length g.written; more = b }) w.due in
    ap (λ (x : Listed). done x leaving out') same ∙ ap (λ (o : List ℕ). done (listed g) leaving o) w.bytes

scan_left : (s : Scanned) (r : Told.Scanned) (out out' : List ℕ) → Written s.listed out r.written r.more out' → r.opened ≡ s.opened
    → (done r leaving out') ≡ (done (swept s) leaving written out s.listed)
scan_left s r out out' w o =
    let same : r ≡ swept s =
    ap (λ (n : ℕ). record { written = n; more = r.more; opened = r.opened }) w.count
    ∙ ap (λ (b : Bool). record { written = length s.listed.written; more = b; opened = r.opened }) w.due
    ∙ ap (λ (n : ℕ). record { written = length s.listed.written; more = s.listed.more; opened = n }) o in
    ap (λ (x : Told.Scanned). done x leaving out') same ∙ ap (λ (b : List ℕ). done (swept s) leaving b) w.bytes

-- OF THE TREE THAT WAS FOUND. What the call answers is named beside what was told, so that an answer that is another is refused at once.

module _ {l : List ℕ} {i : ℕ} {at : Named} (t : TreeFound l i at) where
  -- its number is the slot of its root
  abbrev root : ℕ
  root = at.settings.root

  pub totals_told : (r : Result Totals Refusal) (x : Totals) → r ≡ Ok x → x ≡ totals_of (index_of l root) → Totalling l i r
  totals_told r x is e =
      rw is
      (holds t.pool.sound (ap done (e ∙ ap (λ (j : ℕ). totals_of (index_of l j)) t.number) ∙ sym (answers t (done (totals_of (index_of l i))))))

  module _ (ks out : List ℕ) where
    abbrev due : Bool → Left Listed
    due b = leaves listed (written out) out (unless (cond b 5 0) (get_all ks (room_in out) (index_of l i)))

    promised : {b : Bool} → descend ks ≡ b → due b ≡ leaves listed (written out) out (named i (get ks (room_in out) (index_of l i)))
    promised d = ap due (sym d) ∙ ap (leaves listed (written out) out) (sym (answers t (get ks (room_in out) (index_of l i))))

    pub get_descends : descend ks ≡ true → Gets l i ks out (Err KeysDescend) out
    get_descends d = holds t.pool.sound (promised d)

    pub get_told : (r : Result Listed Refusal) (g : Listed) (out' : List ℕ) → r ≡ Ok g → descend ks ≡ false
        → Written (get_all ks (room_in out) (index_of l root)) out g.written g.more out' → Gets l i ks out r out'
    get_told r g out' is d w =
        rw is
        (holds t.pool.sound
        (get_left (get_all ks (room_in out) (index_of l i)) g out out'
        (subst (λ (j : ℕ). Written (get_all ks (room_in out) (index_of l j)) out g.written g.more out') t.number w) ∙ promised d))

  pub scan_told : (q : Request) (out : List ℕ) (r : Result Told.Scanned Refusal) (x : Told.Scanned) (out' : List ℕ) → r ≡ Ok x
      → Written (scan q (room_in out) (index_of l root)).listed out x.written x.more out' → x.opened ≡ (scan q (room_in out) (index_of l root)).opened
      → Scans l i q out r out'
  scan_told q out r x out' is w o =
      let s : Scanned = scan q (room_in out) (index_of l i) in
      rw is
      (holds t.pool.sound
      (scan_left s x out out' (subst (λ (j : ℕ). Written (scan q (room_in out) (index_of l j)).listed out x.written x.more out') t.number w)
      (o ∙ ap (λ (j : ℕ). (scan q (room_in out) (index_of l j)).opened) t.number)
      ∙ ap (leaves swept (λ y. written out y.listed) out) (sym (answers t (done s)))))

  pub frame_told_lem : (n : ℕ) (line : List ℕ) (r : Result ℕ Refusal) (line' : List ℕ) → Line.Writes (write_node n (length line) (index_of l root)) line r line'
      → Frames l i n line r line'
  frame_told_lem n line r line' w =
      let a : Answer (List ℕ) = write_node n (length line) (index_of l i) in
      let own : Line.Writes a line r line' = subst (λ (j : ℕ). Line.Writes (write_node n (length line) (index_of l j)) line r line') t.number w in
      holds t.pool.sound
      (ap (λ (x : Answer ℕ). x leaving line') own.answer ∙ ap (λ (b : List ℕ). length_in a leaving b) own.line ∙ by a
      ∙ ap (leaves length (λ s. s ++ drop (length s) line) line) (sym (answers t a)))
    where
      by : (a : Answer (List ℕ)) → (length_in a leaving line_after a line) ≡ leaves length (λ s. s ++ drop (length s) line) line a
      by (refused n) = refl
      by (done s) = refl
