-- Soundness is decidable: each part of it is, and the parts are those that the survey tests. Assumes nothing.
use Rattle.std.specs.Prelude.{None}
use mathlib.Core.Path.{◌≡◌, refl, sym}
use mathlib.Core.Bool.{Bool, true, false, true≢false}
use mathlib.Core.List.{List, [], ◌∷◌}
use Prim.Native.Nat.{ℕ, zero, suc, ◌+◌, ◌-◌, ◌*◌, ◌/◌, ◌≤◌, ◌<◌}
use native.Mathlib.Nat.{not-suc-le-zero}
use native.Mathlib.Omega.{arith}
use native.Mathlib.Decide.{map_dec, ℕ_discrete, dec_le, dec_lt}
use lib.ListN.{length, get_or}
use Rattle.words.specs.Words.{words}
use Rattle.slots_raw.specs.declared.Row.{Row}
use Rattle.slots_raw.specs.Slots.{width, head_len, raw_at}
use Rattle.slots_raw.specs.Promises.{Shape}
use Rattle.slots_pool.specs.Header.{layout_number, layout_of}
use Rattle.slots.specs.Nodes.{nodes, nth}
use Rattle.slots.specs.Nodes as S
use Rattle.slots_raw.proofs.Raws.{base_of}
use Rattle.slots_pool.proofs.Canons.{canon_zero, canon_count, past_raw}
use Rattle.slots_pool.proofs.Zeros.{tail_tells, slot_tells}
use Rattle.model.specs.declared.Entry.{Entry}
use Rattle.model.specs.declared.Settings.{Settings}
use Rattle.model.specs.Answer.{Tells}
use Rattle.model.specs.Lists.{All, none, one, Ordered, nil, cons}
use Rattle.model.specs.Tree.{Item, Tree, len, entries, slots, total, greatest_key}
use Rattle.model.specs.Sound.{InLimits, Whole, Fits}
use Rattle.model.proofs.Lists.{all_head, all_tail, all_every}
use Rattle.tree.specs.Bridge.{child_of, child_totals, tree_at}
use Rattle.tree.specs.Pool.{pool_len, given_in, height_at, settings_in, Kinds, EachChild, Separates, Totalled, SoundPool}
use Rattle.tree.proofs.Sums.{totals_discrete}
use Rattle.survey.specs.Promises.{Headed, Idle}
use Rattle.survey_node.specs.Promises.{Tail, Right, SoundTree}
use Rattle.survey_node.specs.Parts.{least_root}
use Rattle.survey_node.proofs.Heads.{tail_told}
use Rattle.survey.proofs.Steps.{shaped}
use Rattle.survey.proofs.Verdicts.{right_passable, passable_right, Counted, sound_pool, pool_headed, pool_idle, pool_tree, pool_counted}

-- OF DECISIONS

dec_tells : {P : Type 0} (r : Bool) → Tells r P → Dec P
dec_tells true t = yes (t.holds refl)
dec_tells false t = no (λ p. true≢false (sym (t.told p)))

dec_both : {A B : Type 0} → Dec A → Dec B → Dec (A × B)
dec_both (yes a) (yes b) = yes (a, b)
dec_both (yes a) (no b) = no (λ p. b p.1)
dec_both (no a) d = no (λ p. a p.0)

dec_all : {A : Type 0} {P : A → Type 0} → ((x : A) → Dec (P x)) → (xs : List A) → Dec (All P xs)
dec_all f [] = yes none
dec_all f (x ∷ xs) = map_dec (λ p. one p.0 p.1) (λ a. (all_head a, all_tail a)) (dec_both (f x) (dec_all f xs))

ordered_parts : {A : Type 0} {R : A → A → Type 0} {x : A} {xs : List A} → Ordered R (x ∷ xs) → All (R x) xs × Ordered R xs
ordered_parts (cons h s) = (h, s)

dec_ordered : {A : Type 0} {R : A → A → Type 0} → ((x y : A) → Dec (R x y)) → (xs : List A) → Dec (Ordered R xs)
dec_ordered f [] = yes nil
dec_ordered f (x ∷ xs) = map_dec (λ p. cons p.0 p.1) ordered_parts (dec_both (dec_all (f x) xs) (dec_ordered f xs))

-- of every number below n
dec_below : (P : ℕ → Type 0) → ((s : ℕ) → Dec (P s)) → (n : ℕ) → Dec ((s : ℕ) → s < n → P s)
dec_below P f zero = yes (λ s lt. absurd (not-suc-le-zero lt))
dec_below P f (suc n) = map_dec there (λ g. ((λ s lt. g s (omega arith)), g n (omega arith))) (dec_both (dec_below P f n) (f n))
  where
    there : ((s : ℕ) → s < n → P s) × P n → (s : ℕ) → s < suc n → P s
    there g s lt = by (dec_lt s n)
      where
        by : Dec (s < n) → P s
        by (yes low) = g.0 s low
        by (no high) = let e : n ≡ s = omega arith in rw (sym e) g.1

-- OF TREES

dec_kinds : (ns : List S.Node) (h s : ℕ) → Dec (Kinds ns h s)
dec_kinds ns zero s = ℕ_discrete (nth ns s).kind 1
dec_kinds ns (suc h) s = dec_both (ℕ_discrete (nth ns s).kind 2) (dec_all (λ (r : Row). dec_kinds ns h (child_of r)) (nth ns s).rows)

dec_whole : (st : Settings) (h : ℕ) (i : Item h) → Dec (Whole st h i)
dec_whole st zero e = yes tt
dec_whole st (suc h) n =
    dec_both (map_dec (λ p. record { some = p.0; few = p.1 }) (λ q. (q.some, q.few)) (dec_both (dec_lt 0 (len n)) (dec_le (len n) st.order)))
    (dec_all (dec_whole st h) n.items)

dec_fits : (e : Entry) → Dec (Fits e)
dec_fits e =
    map_dec (λ p. record { key = p.0; place = p.1.0; size = p.1.1 }) (λ f. (f.key, (f.place, f.size)))
    (dec_both (dec_lt e.key 18446744073709551616) (dec_both (dec_lt e.place 18446744073709551616) (dec_lt e.size 4294967296)))

module _ (P : (h : ℕ) → Row → Tree h → Type 0) (f : (h : ℕ) (r : Row) (t : Tree h) → Dec (P h r t)) where
  dec_each : (ns : List S.Node) (h s : ℕ) → Dec (EachChild P ns h s)
  dec_each ns zero s = yes tt
  dec_each ns (suc h) s = dec_all (λ (r : Row). dec_both (f h r (tree_at ns h (child_of r))) (dec_each ns h (child_of r))) (nth ns s).rows

-- OF SLOTS

module _ (st : Settings) (W : List ℕ) (sh : Shape st W) where
  dec_tail : (s : ℕ) → Dec (Tail st W s)
  dec_tail s = by (dec_lt s st.nodes) (dec_le (raw_at st W s).count st.rows)
    where
      by : Dec (s < st.nodes) → Dec ((raw_at st W s).count ≤ st.rows) → Dec (Tail st W s)
      by (yes lt) (yes le) =
          dec_tells _ (tail_told st W s (raw_at st W s).count _ refl le
          (tail_tells st W s (head_len + s * width st.rows) sh lt (base_of st W s sh lt) (raw_at st W s).count le))
      by (yes lt) (no gt) = no (λ z. gt (canon_count st.rows (raw_at st W s) z))
      by (no ge) d = yes (canon_zero st W s (past_raw st W s ge))

  dec_idle : (s : ℕ) → Dec (Idle st W s)
  dec_idle s = by (dec_lt s st.nodes) (ℕ_discrete (nth (nodes st W) s).kind 0)
    where
      by : Dec (s < st.nodes) → Dec ((nth (nodes st W) s).kind ≡ 0) → Dec (Idle st W s)
      by (yes lt) (yes z) = map_dec (λ e q. e) (λ f. f z) (dec_tells _ (slot_tells st W s (head_len + s * width st.rows) sh lt (base_of st W s sh lt)))
      by (yes lt) (no used) = yes (λ q. absurd (used q))
      by (no ge) d = yes (λ q. past_raw st W s ge)

  dec_all_idle : Dec ((s : ℕ) → Idle st W s)
  dec_all_idle = map_dec (λ f s. by f s (dec_lt s st.nodes)) (λ f s lt. f s) (dec_below (Idle st W) dec_idle st.nodes)
    where
      by : ((s : ℕ) → s < st.nodes → Idle st W s) → (s : ℕ) → Dec (s < st.nodes) → Idle st W s
      by f s (yes lt) = f s lt
      by f s (no ge) = λ q. past_raw st W s ge

  -- a tree, where no key was met before it
  dec_right : (h s least left : ℕ) → Dec (Right st W h s least None left)
  dec_right h s least left =
      map_dec
      (λ p. record {
        kinds = p.0;
        some = p.1.0;
        few = p.1.1.0;
        whole = p.1.1.1.0;
        sorted = p.1.1.1.1.0;
        beyond = all_every (entries (suc h) (tree_at (nodes st W) h s)) (λ e. tt);
        fit = p.1.1.1.1.1.0;
        separators = p.1.1.1.1.1.1.0;
        totals = p.1.1.1.1.1.1.1.0;
        tails = p.1.1.1.1.1.1.1.1.0;
        most = p.1.1.1.1.1.1.1.1.1;
      })
      (λ g. (g.kinds, (g.some, (g.few, (g.whole, (g.sorted, (g.fit, (g.separators, (g.totals, (g.tails, g.most))))))))))
      (dec_both (dec_kinds ns h s) (dec_both (dec_le least (len t)) (dec_both (dec_le (len t) st.order) (dec_both (dec_all (dec_whole st h) t.items)
      (dec_both (dec_ordered (λ (e f : Entry). dec_lt e.key f.key) es) (dec_both (dec_all dec_fits es) (dec_both (dec_each Separates dec_separates ns h s)
      (dec_both (dec_each Totalled dec_totalled ns h s) (dec_both (dec_all dec_tail (slots (suc h) t)) (dec_le (length (slots (suc h) t)) left))))))))))
    where
      ns : List S.Node
      ns = nodes st W

      t : Tree h
      t = tree_at (nodes st W) h s

      es : List Entry
      es = entries (suc h) (tree_at (nodes st W) h s)

      dec_separates : (h : ℕ) (r : Row) (c : Tree h) → Dec (Separates h r c)
      dec_separates h r c = ℕ_discrete r.key (greatest_key (suc h) c)

      dec_totalled : (h : ℕ) (r : Row) (c : Tree h) → Dec (Totalled h r c)
      dec_totalled h r c = totals_discrete (child_totals r) (total (suc h) c)

  -- the tree from the root: its height, and its own nodes
  abbrev high : ℕ
  high = height_at (nodes st W) 8 st.root

  abbrev many : ℕ
  many = length (slots (suc high) (tree_at (nodes st W) high st.root))

  dec_tree : Dec (SoundTree st W)
  dec_tree = by (dec_le high 7) (dec_right high st.root (least_root high) many)
    where
      by : Dec (high ≤ 7) → Dec (Right st W high st.root (least_root high) None many) → Dec (SoundTree st W)
      by (yes le) (yes g) = yes (right_passable st W many le g).tree
      by (no gt) d = no (λ t. gt (omega (arith, t.sound.shallow)))
      by (yes le) (no wrong) = no (λ t. wrong (passable_right st W many (record { tree = t; most = omega arith })))

-- OF POOLS

dec_limits : (st : Settings) → Dec (InLimits st)
dec_limits st =
    map_dec (λ p. record { many = p.0; bounded = p.1.0; wide = p.1.1.0; narrow = p.1.1.1.0; some = p.1.1.1.1.0; least = p.1.1.1.1.1 })
    (λ q. (q.many, (q.bounded, (q.wide, (q.narrow, (q.some, q.least))))))
    (dec_both (dec_le 8 st.nodes) (dec_both (dec_le st.nodes 16384) (dec_both (dec_le 4 st.order) (dec_both (dec_le st.order 32)
    (dec_both (dec_le 1 st.minimum) (dec_le st.minimum ((st.order + 1) / 2)))))))

dec_headed : (l : List ℕ) → Dec (Headed l)
dec_headed l =
    map_dec (λ p. record { layout = p.0; reserved = p.1.0; settings = p.1.1.0; exact = p.1.1.1 }) (λ h. (h.layout, (h.reserved, (h.settings, h.exact))))
    (dec_both (ℕ_discrete (layout_of (words l)) layout_number)
    (dec_both (dec_both (ℕ_discrete (get_or (words l) 4 0) 0) (ℕ_discrete (get_or (words l) 7 0) 0))
    (dec_both (dec_both (dec_limits (settings_in l 0)) (dec_limits (settings_in l 1))) (ℕ_discrete (length l) (pool_len (given_in l))))))

-- any bytes are a sound pool, or are not
pub sound_decided : (l : List ℕ) → Dec (SoundPool l)
sound_decided l = by (dec_headed l)
  where
    rest : Headed l → Dec ((s : ℕ) → Idle (settings_in l 0) (words l) s) → Dec (SoundTree (settings_in l 0) (words l)) → Dec (SoundTree (settings_in l 1) (words l))
        → Dec (Counted l) → Dec (SoundPool l)
    rest h (yes idle) (yes a) (yes b) (yes n) = yes (sound_pool l h idle a b n)
    rest h (no wrong) d e n = no (λ s. wrong (pool_idle l s))
    rest h (yes idle) (no wrong) e n = no (λ s. wrong (pool_tree l s 0))
    rest h (yes idle) (yes a) (no wrong) n = no (λ s. wrong (pool_tree l s 1))
    rest h (yes idle) (yes a) (yes b) (no wrong) = no (λ s. wrong (pool_counted l s))

    by : Dec (Headed l) → Dec (SoundPool l)
    by (no wrong) = no (λ s. wrong (pool_headed l s))
    by (yes h) =
        rest h (dec_all_idle (settings_in l 0) (words l) (shaped h 0)) (dec_tree (settings_in l 0) (words l) (shaped h 0))
        (dec_tree (settings_in l 1) (words l) (shaped h 1))
        (ℕ_discrete _ _)
