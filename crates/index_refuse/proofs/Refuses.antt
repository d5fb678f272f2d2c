-- The refusals of a batch in the table's order, those of the call and those of the tree, and keys that descend. Assumes nothing.
use Prim.Native.Nat.{ℕ, suc, ◌+◌, ◌-◌, ◌*◌, ◌<◌, ◌≤◌, max}
use native.Mathlib.Omega.{arith}
use native.Mathlib.Numerals.{add-one}
use mathlib.Core.Path.{◌≡◌, refl, ap, sym, ◌∙◌}
use mathlib.Core.Bool.{Bool, true, false, cond}
use mathlib.Core.List.{List, [], ◌∷◌}
use lib.Dec.{leb, ltb}
use lib.ListN.{length, get_or, drop, length-drop}
use lib.Seq.{drop-cons}
use borrow.Author.Tests.{lt-ltb, le-ltb, lt-leb, le-leb}
use Rattle.model.specs.declared.Settings.{Settings}
use Rattle.model.specs.Tree.{Index}
use Rattle.model.specs.Refuse.{Call, call_refusal, tree_refusal, descend, needed}
use Rattle.model.proofs.Calls.{formed}
use Rattle.model.specs.declared.Operation.{Operation}
use Rattle.index_refuse.specs.Refusals.{miscounts, exempts, TreeRefused}

-- KEYS

module _ (ks : List ℕ) (i : ℕ) (h : 1 ≤ i) where
  two : i < length ks → drop (i - 1) ks ≡ get_or ks (i - 1) 0 ∷ (get_or ks i 0 ∷ drop (i + 1) ks)
  two k =
      let e : suc (i - 1) ≡ i = omega arith in
      drop-cons ks (i - 1) 0 (omega arith) ∙ ap (λ l. get_or ks (i - 1) 0 ∷ l) (ap (λ n. drop n ks) e ∙ rw add-one (drop-cons ks i 0 k))

  pub falls : i < length ks → get_or ks i 0 < get_or ks (i - 1) 0 → descend (drop (i - 1) ks) ≡ true
  falls k d = rw (two k) (simp (lt-ltb _ _ d) refl)

  pub rises : i < length ks → get_or ks (i - 1) 0 ≤ get_or ks i 0 → descend (drop (i + 1 - 1) ks) ≡ descend (drop (i - 1) ks)
  rises k d =
      let e : i + 1 - 1 ≡ i = omega arith in
      let one : drop i ks ≡ get_or ks i 0 ∷ drop (i + 1) ks = rw add-one (drop-cons ks i 0 k) in
      let on : descend (get_or ks (i - 1) 0 ∷ (get_or ks i 0 ∷ drop (i + 1) ks)) ≡ descend (get_or ks i 0 ∷ drop (i + 1) ks) = simp (le-ltb _ _ d) refl in
      rw (two k, e) (ap descend one ∙ sym on)

  pub last : length ks ≤ i → descend (drop (i - 1) ks) ≡ false
  last k = short (drop (i - 1) ks) (omega (arith, length-drop (i - 1) ks))
    where
      short : (l : List ℕ) → length l ≤ 1 → descend l ≡ false
      short [] g = refl
      short (a ∷ []) g = refl
      short (a ∷ (b ∷ l)) g = absurd (omega arith)

-- THE NODES that a batch wants

pub needed_low : (n d : ℕ) → d < 2 → n * 2 + 4 ≡ needed n d
needed_low n d h = let e : max d 2 ≡ 2 = omega arith in rw e refl

pub needed_high : (n d : ℕ) → 2 ≤ d → n * d + 4 ≡ needed n d
needed_high n d h = let e : max d 2 ≡ d = omega arith in rw e refl

-- THE CALL ALONE

module _ (st : Settings) (c : Call) (m : ℕ) where
  pub call_3 : st.order < length c.keys → 3 ≡ call_refusal st c m
  call_3 h = simp (lt-ltb _ _ h) refl

  module _ (few : length c.keys ≤ st.order) where
    pub call_4 : miscounts c.operation (length c.places) (length c.sizes) (length c.keys) ≡ true → 4 ≡ call_refusal st c m
    call_4 h = simp (le-ltb _ _ few, h) refl

    module _ (matched : miscounts c.operation (length c.places) (length c.sizes) (length c.keys) ≡ false) where
      pub call_5 : descend c.keys ≡ true → 5 ≡ call_refusal st c m
      call_5 h = simp (le-ltb _ _ few, matched, h) refl

      pub call_passed : descend c.keys ≡ false → m ≡ call_refusal st c m
      call_passed h = simp (le-ltb _ _ few, matched, h) refl

-- THE TREE

module _ (c : Call) (x : Index) where
  pub tree_exempt : exempts c.operation (length c.keys) ≡ true → 0 ≡ tree_refusal c x
  tree_exempt h = simp h refl

  module _ (weighed : exempts c.operation (length c.keys) ≡ false) where
    pub tree_6 : 7 ≤ x.height → 6 ≡ tree_refusal c x
    tree_6 h =
        let d : 8 ≤ suc x.height = omega arith in
        simp (weighed, le-leb _ _ d) refl

    module _ (low : x.height < 7) (m : ℕ) (e : m ≡ needed (length c.keys) (x.height + 1)) where
      deep : leb 8 (suc x.height) ≡ false
      deep = let d : suc x.height < 8 = omega arith in lt-leb _ _ d

      wants : needed (length c.keys) (suc x.height) ≡ m
      wants = ap (needed (length c.keys)) (sym (add-one x.height)) ∙ sym e

      pub tree_7 : length x.unused < m → 7 ≡ tree_refusal c x
      tree_7 g =
          let h : length x.unused < needed (length c.keys) (suc x.height) = rw wants g in
          simp (weighed, deep, lt-ltb _ _ h) refl

      pub tree_passed : m ≤ length x.unused → 0 ≡ tree_refusal c x
      tree_passed g =
          let h : needed (length c.keys) (suc x.height) ≤ length x.unused = rw wants g in
          simp (weighed, deep, le-ltb _ _ h) refl

-- A BATCH: the call's number, or else the tree's

module _ (st : Settings) (c : Call) (m n : ℕ) (e : n ≡ call_refusal st c 0) where
  pub by_call : (n ≡ 0 → ⊥) → n ≡ call_refusal st c m
  by_call some = by (ltb st.order (length c.keys)) (miscounts c.operation (length c.places) (length c.sizes) (length c.keys)) (descend c.keys) e
    where
      by : (a b d : Bool) → n ≡ cond a 3 (cond b 4 (cond d 5 0)) → n ≡ cond a 3 (cond b 4 (cond d 5 m))
      by true b d q = q
      by false true d q = q
      by false false true q = q
      by false false false q = absurd (some q)

  pub by_tree : n ≡ 0 → m ≡ call_refusal st c m
  by_tree none =
      let f = (formed st c 0 (sym e ∙ none)).0 in
      call_passed st c m f.few f.matched f.rising

-- refusal 6, of whatever tree of this height a batch by this operation is for
pub deep_6 : (op : Operation) (n height unused : ℕ) → exempts op n ≡ false → 7 ≤ height → TreeRefused height unused op n 6
deep_6 op n height unused weighed h b x o k e f = tree_6 b x (rw (o, k) weighed) (rw e h)
