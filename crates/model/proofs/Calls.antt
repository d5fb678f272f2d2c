-- What a call that is not refused may rely on, and that a new index is sound. Assumes nothing.
use mathlib.Core.Path.{◌≡◌, refl, sym, ap, ◌∙◌}
use mathlib.Core.Logic.{◌⊎◌, inl, inr}
use mathlib.Core.Bool.{Bool, true, false, ◌&&◌, ◌||◌, not, true≢false}
use mathlib.Core.List.{List, [], ◌∷◌, ◌++◌, map}
use Prim.Native.Nat.{ℕ, suc, ◌-◌, ◌^◌, ◌≤◌, ◌<◌}
use native.Mathlib.Omega.{arith}
use lib.Dec.{leb, ltb, eqb}
use lib.ListN.{length, length-map}
use borrow.Author.Tests.{ltb-false, leb-false, eqb-true, not-false}
use Rattle.model.specs.declared.Reference.{Reference}
use Rattle.model.specs.declared.Settings.{Settings}
use Rattle.model.specs.declared.Action.{Action}
use Rattle.model.specs.declared.Action.TheVariants as Do
use Rattle.model.specs.declared.Operation.{Operation}
use Rattle.model.specs.declared.Operation.TheVariants as Op
use Rattle.model.specs.Lists.{All, none, one, nil, cons}
use Rattle.model.specs.Tree.{Index, depth}
use Rattle.model.specs.declared.Wish.{Wish}
use Rattle.model.specs.declared.Wish.TheVariants.{Always}
use Rattle.model.specs.Plain.{references, Task, each, pairs, tasks_for}
use Rattle.model.specs.Change.{no_ceiling}
use Rattle.model.specs.Refuse.{Call, tasks_of, is_remove, is_each, descend, needed, call_refusal, tree_refusal, refusal}
use Rattle.model.specs.Sound.{InLimits, Ascending, Once, Sound, Fits}
use Rattle.model.specs.Demands.{ReferenceFits, ActionFits, OperationFits, Lent}
use Rattle.model.specs.Forest.{index_with, bare_leaf}
use Rattle.model.specs.Promises.{Rising, Removing, Grants}
use Rattle.model.proofs.Lists.{by_test, both_left, both_right, or_left, or_right, all_map}
use Rattle.model.proofs.Batches.{Room, Headroom}

-- WHAT NO REFUSAL SAYS

-- of the call ..
pub record Formed (st : Settings) (c : Call) : Type 0 where
  pub few : length c.keys ≤ st.order
  pub matched : (is_each c.operation && not (eqb (length c.places) (length c.keys) && eqb (length c.sizes) (length c.keys))) ≡ false
  pub rising : descend c.keys ≡ false

pub formed : (st : Settings) (c : Call) (m : ℕ) → call_refusal st c m ≡ 0 → Formed st c × (m ≡ 0)
formed st c m =
    let n : ℕ = length c.keys in
    by_test (λ (r : ℕ). r ≡ 0 → Formed st c × (m ≡ 0)) (ltb st.order n) (λ e q. absurd (omega arith)) (λ a.
    by_test (λ (r : ℕ). r ≡ 0 → Formed st c × (m ≡ 0)) (is_each c.operation && not (eqb (length c.places) n && eqb (length c.sizes) n))
    (λ e q. absurd (omega arith)) (λ b.
    by_test (λ (r : ℕ). r ≡ 0 → Formed st c × (m ≡ 0)) (descend c.keys) (λ e q. absurd (omega arith))
    (λ d q. (record { few = ltb-false _ _ a; matched = b; rising = d }, q))))

-- .. and of the tree
abbrev Roomy : Call → Index → Type 0
Roomy c x = ((eqb (length c.keys) 0 || is_remove c.operation) ≡ true) ⊎ ((depth x < 8) × (needed (length c.keys) (depth x) ≤ length x.unused))

roomy : (c : Call) (x : Index) → tree_refusal c x ≡ 0 → Roomy c x
roomy c x =
    let n : ℕ = length c.keys in
    by_test (λ (r : ℕ). r ≡ 0 → Roomy c x) (eqb n 0 || is_remove c.operation) (λ e q. inl e) (λ f.
    by_test (λ (r : ℕ). r ≡ 0 → Roomy c x) (leb 8 (depth x)) (λ e q. absurd (omega arith)) (λ g.
    by_test (λ (r : ℕ). r ≡ 0 → Roomy c x) (ltb (length x.unused) (needed n (depth x))) (λ e q. absurd (omega arith))
    (λ k q. inr (leb-false _ _ g, ltb-false _ _ k))))

pub record Admitted (st : Settings) (c : Call) (x : Index) : Type 0 where
  pub few : length c.keys ≤ st.order
  pub matched : (is_each c.operation && not (eqb (length c.places) (length c.keys) && eqb (length c.sizes) (length c.keys))) ≡ false
  pub rising : descend c.keys ≡ false
  pub room : Roomy c x

pub admitted : (st : Settings) (c : Call) (x : Index) → refusal st c x ≡ 0 → Admitted st c x
admitted st c x q =
    let (f, none-of-it) = formed st c (tree_refusal c x) q in
    record { few = f.few; matched = f.matched; rising = f.rising; room = roomy c x none-of-it }

-- THE TASKS OF A CALL: their keys are its keys

each_keys : (w : Wish) (ks : List ℕ) → map (λ t. t.key) (each w ks) ≡ ks
each_keys w [] = refl
each_keys w (k ∷ ks) = ap (k ∷◌) (each_keys w ks)

pairs_keys : (rs : List Reference) (ks : List ℕ) → length rs ≡ length ks → map (λ t. t.key) (pairs rs ks) ≡ ks
pairs_keys [] [] e = refl
pairs_keys [] (k ∷ ks) e = absurd (omega arith)
pairs_keys (r ∷ rs) [] e = absurd (omega arith)
pairs_keys (r ∷ rs) (k ∷ ks) e = ap (k ∷◌) (pairs_keys rs ks (omega arith))

-- as many references as places and sizes, where those are as many
references_count : (ps zs : List ℕ) → length ps ≡ length zs → length (references ps zs) ≡ length ps
references_count [] [] e = refl
references_count [] (z ∷ zs) e = refl
references_count (p ∷ ps) [] e = absurd (omega arith)
references_count (p ∷ ps) (z ∷ zs) e = ap suc (references_count ps zs (omega arith))

matched_count : (ps zs ks : List ℕ) → not (eqb (length ps) (length ks) && eqb (length zs) (length ks)) ≡ false → length (references ps zs) ≡ length ks
matched_count ps zs ks e =
    let both : (eqb (length ps) (length ks) && eqb (length zs) (length ks)) ≡ true = not-false _ e in
    let p : length ps ≡ length ks = eqb-true _ _ (both_left (eqb (length ps) (length ks)) (eqb (length zs) (length ks)) both) in
    let z : length zs ≡ length ks = eqb-true _ _ (both_right (eqb (length ps) (length ks)) (eqb (length zs) (length ks)) both) in
    references_count ps zs (p ∙ sym z) ∙ p

task_keys : (o : Operation) (ps zs ks : List ℕ) → (is_each o && not (eqb (length ps) (length ks) && eqb (length zs) (length ks))) ≡ false
    → map (λ t. t.key) (tasks_for o (references ps zs) ks) ≡ ks
task_keys (Op.Set r) ps zs ks e = each_keys _ ks
task_keys Op.SetEach ps zs ks e = pairs_keys (references ps zs) ks (matched_count ps zs ks e)
task_keys Op.Remove ps zs ks e = each_keys _ ks
task_keys (Op.Compare x a) ps zs ks e = each_keys _ ks

pub all_keys : (P : ℕ → Type 0) (ts : List Task) → All P (map (λ t. t.key) ts) → All (λ t. P t.key) ts
all_keys P [] none = none
all_keys P (t ∷ ts) (one g gs) = one g (all_keys P ts gs)

above_first : (b : ℕ) (ts : List Task) → descend (b ∷ map (λ t. t.key) ts) ≡ false → All (λ u. b ≤ u.key) ts
above_first b [] e = none
above_first b (t ∷ ts) e =
    let le : b ≤ t.key = ltb-false _ _ (or_left (ltb t.key b) (descend (t.key ∷ map (λ t. t.key) ts)) e) in
    one le (all_map (λ u g. omega arith) (above_first t.key ts (or_right (ltb t.key b) (descend (t.key ∷ map (λ t. t.key) ts)) e)))

descend_tail : (k : ℕ) (ks : List ℕ) → descend (k ∷ ks) ≡ false → descend ks ≡ false
descend_tail k [] e = refl
descend_tail k (j ∷ ks) e = or_right (ltb j k) (descend (j ∷ ks)) e

rising_of : (ts : List Task) → descend (map (λ t. t.key) ts) ≡ false → Rising ts
rising_of [] e = nil
rising_of (t ∷ ts) e = cons (above_first t.key ts e) (rising_of ts (descend_tail t.key (map (λ t. t.key) ts) e))

-- a Remove's tasks are removals, and so are none
each_removes : (ks : List ℕ) → Removing (each (Always Do.Remove) ks)
each_removes [] = none
each_removes (k ∷ ks) = one refl (each_removes ks)

pub removing : (o : Operation) (rs : List Reference) (ks : List ℕ) → is_remove o ≡ true → Removing (tasks_for o rs ks)
removing Op.Remove rs ks e = each_removes ks
removing (Op.Set r) rs ks e = absurd (true≢false (sym e))
removing Op.SetEach rs ks e = absurd (true≢false (sym e))
removing (Op.Compare x a) rs ks e = absurd (true≢false (sym e))

none_removes : (ts : List Task) → length ts ≡ 0 → Removing ts
none_removes [] e = none
none_removes (t ∷ ts) e = absurd (omega arith)

either : (a b : Bool) → (a || b) ≡ true → (a ≡ true) ⊎ (b ≡ true)
either true b q = inl refl
either false b q = inr q

-- WHAT THE TASKS PUT IN FITS

each_grants : (w : Wish) → ((k : ℕ) → k < 2 ^ 64 → Grants Fits (record { key = k; wish = w })) → {ks : List ℕ} → All (λ k. k < 2 ^ 64) ks → All (Grants Fits) (each w ks)
each_grants w f none = none
each_grants w f (one {x = k} g gs) = one (f k g) (each_grants w f gs)

action_grants : (a : Action) (k : ℕ) → ActionFits a → k < 2 ^ 64 → Grants Fits (record { key = k; wish = Always a })
action_grants (Do.Set r) k h g = record { key = g; place = h.place; size = h.size }
action_grants Do.Remove k h g = tt

pairs_grants : {rs : List Reference} {ks : List ℕ} → All ReferenceFits rs → All (λ k. k < 2 ^ 64) ks → All (Grants Fits) (pairs rs ks)
pairs_grants none none = none
pairs_grants none (one g gs) = none
pairs_grants (one h hs) none = none
pairs_grants (one {x = r} h hs) (one {x = k} g gs) = one (action_grants (Do.Set r) k h g) (pairs_grants hs gs)

task_grants : (o : Operation) (rs : List Reference) (ks : List ℕ) → OperationFits o → All ReferenceFits rs → All (λ k. k < 2 ^ 64) ks → All (Grants Fits) (tasks_for o rs ks)
task_grants (Op.Set r) rs ks h hs g = each_grants _ (λ k q. action_grants (Do.Set r) k h q) g
task_grants Op.SetEach rs ks h hs g = pairs_grants hs g
task_grants Op.Remove rs ks h hs g = each_grants _ (λ k q. tt) g
task_grants (Op.Compare e a) rs ks h hs g = each_grants _ (λ k q. action_grants a k h q) g

references_fit : {ps zs : List ℕ} → All (λ p. p < 2 ^ 64) ps → All (λ z. z < 2 ^ 32) zs → All ReferenceFits (references ps zs)
references_fit none none = none
references_fit none (one h hs) = none
references_fit (one g gs) none = none
references_fit (one {x = p} g gs) (one {x = z} h hs) = let fit : ReferenceFits (record { place = p; size = z }) = record { place = g; size = h } in one fit (references_fit gs hs)

-- A CALL THAT IS NOT REFUSED

pub record Passes (st : Settings) (c : Call) (x : Index) : Type 0 where
  pub keys : map (λ t. t.key) (tasks_of c) ≡ c.keys
  pub short : length (tasks_of c) ≤ st.order
  pub rising : Rising (tasks_of c)
  pub low : All (λ t. t.key ≤ no_ceiling) (tasks_of c)
  pub grants : All (Grants Fits) (tasks_of c)
  pub room : Room x (tasks_of c)
  pub headroom : Headroom x (tasks_of c)

pub passes : (st : Settings) (c : Call) {elsewhere : List ℕ} (x : Index) → Sound st elsewhere x → Lent c → refusal st c x ≡ 0 → Passes st c x
passes st c x s lent q =
    let a : Admitted st c x = admitted st c x q in
    let ts : List Task = tasks_of c in
    let keys : map (λ t. t.key) ts ≡ c.keys = task_keys c.operation c.places c.sizes c.keys a.matched in
    let same : length ts ≡ length c.keys = sym (length-map ts (λ t. t.key)) ∙ ap length keys in
    let lows : All (λ k. k ≤ no_ceiling) c.keys = all_map (λ k g. omega arith) lent.keys in
    record {
      keys = keys;
      short = rw same a.few;
      rising = rising_of ts (ap descend keys ∙ a.rising);
      low = all_keys (λ k. k ≤ no_ceiling) ts (rw keys lows);
      grants = task_grants c.operation (references c.places c.sizes) c.keys lent.operation (references_fit lent.places lent.sizes) lent.keys;
      room = by_room same a.room;
      headroom = by_headroom same a.room;
    }
  where
    removes : length (tasks_of c) ≡ length c.keys → (eqb (length c.keys) 0 ≡ true) ⊎ (is_remove c.operation ≡ true) → Removing (tasks_of c)
    removes e (inl z) = none_removes (tasks_of c) (e ∙ eqb-true _ _ z)
    removes e (inr r) = removing c.operation (references c.places c.sizes) c.keys r

    by_room : length (tasks_of c) ≡ length c.keys
        → ((eqb (length c.keys) 0 || is_remove c.operation) ≡ true) ⊎ ((depth x < 8) × (needed (length c.keys) (depth x) ≤ length x.unused))
        → Room x (tasks_of c)
    by_room e (inl r) = inr (removes e (either (eqb (length c.keys) 0) (is_remove c.operation) r))
    by_room e (inr g) = inl (rw e g.1)

    by_headroom : length (tasks_of c) ≡ length c.keys
        → ((eqb (length c.keys) 0 || is_remove c.operation) ≡ true) ⊎ ((depth x < 8) × (needed (length c.keys) (depth x) ≤ length x.unused))
        → Headroom x (tasks_of c)
    by_headroom e (inl r) = inr (omega (arith, s.shallow), removes e (either (eqb (length c.keys) 0) (is_remove c.operation) r))
    by_headroom e (inr g) = inl (omega (arith, g.0))

-- A NEW TREE IS SOUND

-- an empty leaf in the root's slot is, whatever is in use elsewhere, where each slot is used once or unused once
pub bare_sound : (st : Settings) (away us : List ℕ) → InLimits st → Once st.nodes (away ++ (st.root ∷ [])) us → Ascending us
    → Sound st away (index_with (bare_leaf st.root) us)
bare_sound st away us lim once up =
    record {
      settings = lim;
      root_slot = refl;
      once = once;
      shallow = omega arith;
      rooted = omega arith;
      whole = none;
      sorted = nil;
      fit = none;
      ascending = up;
    }
