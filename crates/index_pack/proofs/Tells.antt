-- The same of what the code has: pools as their surveys found them, settings as they were handed, plans as they were made. Assumes nothing.
use Rattle.std.specs.Prelude.{Some, Ok, Err}
use Rattle.model.specs.declared.Refusal.TheVariants as Why
use Prim.Native.Nat.{ℕ, ◌+◌, ◌≤◌, ◌<◌}
use mathlib.Core.Path.{◌≡◌, refl, sym, ap, ◌∙◌, subst}
use mathlib.Core.Bool.{Bool, true, false}
use mathlib.Core.List.{List}
use native.Mathlib.Omega.{arith}
use lib.ListN.{length}
use Rattle.words.specs.Words.{words}
use Rattle.words.proofs.Laws.{Bytes}
use Rattle.model.specs.declared.PoolSettings.{PoolSettings}
use Rattle.model.specs.declared.Settings.{Settings}
use Rattle.model_pack.specs.PackForest.{is_new_forest, forests_differ}
use Rattle.model.specs.Sound.{root_for, handed}
use Rattle.tree.specs.Pool.{SoundPool, given_in, settings_in, forest_of}
use Rattle.survey.specs.declared.Findings.{Findings}
use Rattle.survey.specs.Promises.{Surveyed}
use Rattle.survey.proofs.Steps.{handed_is}
use Rattle.survey.proofs.Founds.{sound, found}
use Rattle.pack.specs.Build.{entries_in, tree_for}
use Rattle.pack.specs.Promises.{ToBuild, Built}
use Rattle.index_promise.specs.Promise.{Packs}
use Rattle.index_pack.specs.declared.Plan.{Plan}
use Rattle.index_pack.specs.Plan.{plan_for, piece_of}
use Rattle.index_pack.specs.Promises.{ToCopy}
use Rattle.index_pack.proofs.Plans.{plan_few}
use Rattle.index_pack.proofs.Builds.{first_asks, second_asks, both_built}
use Rattle.index_pack.proofs.Keeps as keeps

-- THE TESTS before the trees are copied

module _ {l m : List ℕ} {f g : Findings} (a : Surveyed l (Some f)) (b : Surveyed m (Some g)) (d : Bool) (is : d ≡ forests_differ f.given g.given) where
  differ_is : d ≡ forests_differ (given_in l) (given_in m)
  differ_is = is ∙ ap (λ (v : PoolSettings). forests_differ v g.given) (found a).given ∙ ap (forests_differ (given_in l)) (found b).given

  pub told_17 : d ≡ true → Packs l m (Err Why.SettingsDiffer) m
  told_17 on = keeps.refused_17 l m (sound a) (sound b) (sym differ_is ∙ on)

  module _ (off : d ≡ false) (n : Bool) (tells : n ≡ is_new_forest (forest_of m)) where
    pub told_18 : n ≡ false → Packs l m (Err Why.TargetNotNew) m
    told_18 old = keeps.refused_18 l m (sound a) (sound b) (sym differ_is ∙ off) (sym tells ∙ old)

    pub to_copy : n ≡ true → ToCopy l f m g
    to_copy new = record { source = a; target = b; alike = sym differ_is ∙ off; new = sym tells ∙ new }

-- A PLANNED TREE

-- what holds of some settings and a plan holds of their equals
along : (P : Settings → Plan → Type 0) {u v : Settings} {p q : Plan} → u ≡ v → p ≡ q → P u p → P v q
along P {v = v} {p = p} eu ep h = subst (P v) ep (subst (λ (w : Settings). P w p) eu h)

-- a planned tree with its other nodes from slot `next` on: what is asked, and what is left
abbrev Asks : List ℕ → List ℕ → ℕ → Settings → Plan → Type 0
Asks l W next st p = ToBuild st W p.source (words l) p.height (piece_of p st.root next)

abbrev Leaves : List ℕ → List ℕ → List ℕ → ℕ → ℕ → Settings → Plan → Type 0
Leaves l W W' next r st p = Built st W W' p.height (tree_for st (entries_in p.source (words l)) p.height (piece_of p st.root next)) next r

module _ {l m : List ℕ} {f g : Findings} (k : ToCopy l f m g) where
  abbrev s : SoundPool l
  s = sound k.source

  abbrev t : SoundPool m
  t = sound k.target

  orders : (i : ℕ) → (settings_in l i).order ≡ (settings_in m i).order
  orders = keeps.orders l m s t k.alike

  -- a plan is made with the source's order, which is the target's too
  pub plan_is : (i : ℕ) (st : Settings) → st ≡ handed f.given i → (p : Plan) → p ≡ plan_for l st.root st.order
      → p ≡ plan_for l (root_for i) (settings_in m i).order
  plan_is i st e p is =
      is ∙ ap (λ (u : Settings). plan_for l u.root u.order) (handed_is l i e (found k.source).given) ∙ ap (plan_for l (root_for i)) (orders i)

  -- BOTH PLANS

  module _ (p q : Plan) (ep : p ≡ plan_for l 0 (settings_in m 0).order) (eq : q ≡ plan_for l 1 (settings_in m 1).order) where
    p_nodes : p.nodes ≡ (plan_for l 0 (settings_in m 0).order).nodes
    p_nodes = ap (λ (x : Plan). x.nodes) ep

    q_nodes : q.nodes ≡ (plan_for l 1 (settings_in m 1).order).nodes
    q_nodes = ap (λ (x : Plan). x.nodes) eq

    pub nodes_few : p.nodes + q.nodes ≤ 8000000
    nodes_few =
        omega (
          arith,
          p_nodes,
          q_nodes,
          plan_few l s 0 (settings_in m 0).order (orders 0),
          plan_few l s 1 (settings_in m 1).order (orders 1),
        )

    -- THE FIRST TREE, with the settings su

    module _ (su : Settings) (handed_first : su ≡ handed g.given 0) where
      first_is : su ≡ settings_in m 0
      first_is = handed_is m 0 handed_first (found k.target).given

      size : su.nodes ≡ (settings_in m 0).nodes
      size = ap (λ (u : Settings). u.nodes) first_is

      pub told_7 : su.nodes < p.nodes + q.nodes → Packs l m (Err Why.TooFewUnused) m
      told_7 lt = keeps.refused_7 l m s t k.alike k.new (omega (arith, lt, size, p_nodes, q_nodes))

      module _ (fits : p.nodes + q.nodes ≤ su.nodes) where
        room : (plan_for l 0 (settings_in m 0).order).nodes + (plan_for l 1 (settings_in m 1).order).nodes ≤ (settings_in m 0).nodes
        room = omega (arith, fits, size, p_nodes, q_nodes)

        pub first_ready : Asks l (words m) 2 su p
        first_ready = along (Asks l (words m) 2) (sym first_is) (sym ep) (first_asks l m s t orders k.new room)

        -- THE SECOND, with the settings sv

        module _ (X : List ℕ) (r : ℕ) (d : Leaves l (words m) X 2 r su p) (sv : Settings) (handed_second : sv ≡ handed g.given 1) where
          second_is : sv ≡ settings_in m 1
          second_is = handed_is m 1 handed_second (found k.target).given

          first_done : Leaves l (words m) X 2 r (settings_in m 0) (plan_for l 0 (settings_in m 0).order)
          first_done = along (Leaves l (words m) X 2 r) first_is ep d

          pub second_ready : Asks l X r sv q
          second_ready = along (Asks l X r) (sym second_is) (sym eq) (second_asks l m s t orders k.new room X r first_done)

          pub told_done : (m' : List ℕ) (y : ℕ) → Leaves l X (words m') r y sv q → length m' ≡ length m → Bytes m' → Packs l m (Ok tt) m'
          told_done m' y e len bytes =
              keeps.packs_done l m s t k.alike k.new room m'
              (both_built l m s t orders k.new room X r first_done (words m') y (along (Leaves l X (words m') r y) second_is eq e) m' refl len bytes)
