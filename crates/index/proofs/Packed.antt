-- What packing has done, of the calls: the target is packed, each tree of it answers from the source's list and goes on from there; and a target as large
-- as the source has room. Assumes nothing.
use Prim.Native.Nat.{ℕ, zero, suc}
use mathlib.Core.Path.{◌≡◌, refl, sym, ap, ◌∙◌, subst}
use mathlib.Core.List.{List}
use native.Mathlib.Omega.{arith}
use Rattle.std.specs.Prelude.{Result, Ok, Err}
use Rattle.model.specs.declared.Entry.{Entry}
use Rattle.model.specs.declared.Refusal.{Refusal}
use Rattle.model.specs.declared.Refusal.TheVariants.{TooFewUnused}
use Rattle.model.specs.Tree.{entries_of}
use Rattle.model.specs.Answer.{Answer, refused, done, unless}
use Rattle.model_pack.specs.Packing.{Over, Least}
use Rattle.model.specs.Forest.{Forest, tree_of, elsewhere, SoundForest}
use Rattle.model_pack.specs.PackForest.{packed_from, pack_forest_refusal, IsPackedForest, PacksForest}
use Rattle.model.proofs.Answers.{refused_done}
use Rattle.model_pack.proofs.PackForest.{UnrefusedForest, unrefused_forest, packing_forest, pack_forest_room}
use Rattle.tree.specs.Pool.{SoundPool, given_in, settings_in, index_of, forest_of, image_of}
use Rattle.tree.proofs.Pools.{sound_index, sound_forest, image_sound, image_forest, image_index, image_given}
use Rattle.index_promise.specs.Promise.{holds, fails, Left, ◌leaving◌, leaves, Packs}
use Rattle.index.specs.Register.{AnswersFrom}
use Rattle.index.specs.Packed.{PackedInto, PackDone, PackedOnwards, PackFits}
use Rattle.index.proofs.Register.{answers_from, onwards}

module _ (l m : List ℕ) where
  -- the entries of tree i of the source
  abbrev es : ℕ → List Entry
  es i = entries_of (index_of l i)

  abbrev target : Forest
  target = packed_from (given_in m) (forest_of l)

  abbrev refusal : ℕ
  refusal = pack_forest_refusal (given_in l) (given_in m) (forest_of l) (forest_of m)

  abbrev left : Answer Forest → Left (Unit {0})
  left = leaves (λ f. tt) (image_of (given_in m)) m

  -- it was done
  record Done (m' : List ℕ) : Type 0 where
    source : SoundPool l
    room : SoundPool m
    passed : UnrefusedForest (given_in l) (given_in m) (forest_of l) (forest_of m)
    bytes : m' ≡ image_of (given_in m) target

  done_by : (m' : List ℕ) → Packs l m (Ok tt) m' → Done m'
  done_by m' (fails u e) = absurd (refused_done 2 tt (sym (ap (λ (w : Left (Unit {0})). w.answer) e)))
  done_by m' (holds s e) = by refusal refl e
    where
      by : (n : ℕ) → refusal ≡ n → (done tt leaving m') ≡ left (unless n target) → Done m'
      by zero q f =
          record {
            source = s.0;
            room = s.1;
            passed = unrefused_forest (given_in l) (given_in m) (forest_of l) (forest_of m) q;
            bytes = ap (λ (w : Left (Unit {0})). w.bytes) f;
          }
      by (suc n) q f = absurd (refused_done (suc n) tt (sym (ap (λ (w : Left (Unit {0})). w.answer) f)))

  module _ (m' : List ℕ) (d : Done m') where
    -- each tree of the source is an index over its own entries
    over : (i : ℕ) → Over (settings_in m i).order (es i) (index_of l i)
    over i =
        record {
          settings = settings_in l i;
          elsewhere = elsewhere i (forest_of l);
          order = d.passed.order i;
          sound = sound_index l d.source i;
          entries = refl;
        }

    law : PacksForest (given_in m) (es 0) (es 1)
    law = packing_forest (given_in m) (es 0) (es 1) (index_of l 0) (index_of l 1) d.room.settings (over 0) (over 1)

    sound : SoundForest (given_in m) target
    sound = law.sound d.passed.room

    forest_now : forest_of m' ≡ target
    forest_now = ap forest_of d.bytes ∙ image_forest (given_in m) target sound

    index_now : (i : ℕ) → index_of m' i ≡ tree_of i target
    index_now i = ap (λ (k : List ℕ). index_of k i) d.bytes ∙ image_index (given_in m) target sound i

    least : (i : ℕ) → Least (settings_in m i).order (es i) (tree_of i target)
    least zero = law.least_first
    least (suc i) = law.least_second

    packed_into : PackedInto l m m'
    packed_into =
        record {
          settings = ap given_in d.bytes ∙ image_given (given_in m) target sound;
          sound = subst SoundPool (sym d.bytes) (image_sound (given_in m) target sound);
          packed = subst (IsPackedForest (given_in m) (es 0) (es 1)) (sym forest_now) law.packed;
          least = λ i. subst (Least (settings_in m i).order (es i)) (sym (index_now i)) (least i);
        }

pub pack_done : PackDone
pack_done l m m' p = packed_into l m m' (done_by l m m' p)

-- each tree has the source's entries
same_entries : (l m m' : List ℕ) → PackedInto l m m' → (i : ℕ) → entries_of (index_of m' i) ≡ entries_of (index_of l i)
same_entries l m m' p zero = p.packed.first.same
same_entries l m m' p (suc i) = p.packed.second.same

pub packed_onwards : PackedOnwards
packed_onwards i es l m m' now ts low a p lent runs =
    let into : PackedInto l m m' = pack_done l m m' p in
    let from : AnswersFrom i es m' = answers_from i es m' low into.sound (same_entries l m m' into i ∙ a.holds) in
    (from, onwards i es m' now ts low lent from runs)

-- an answer's number, 0 where it was done
abbrev number : Answer (Unit {0}) → ℕ
number (refused n) = n
number (done a) = 0

-- refused as 7: the packed trees have more nodes than the target
module _ (l m m' : List ℕ) where
  short : Packs l m (Err TooFewUnused) m' → refusal l m ≡ 7
  short (fails u e) = absurd (let q : ◌≡◌ {A = ℕ} 7 2 = ap (λ (w : Left (Unit {0})). number w.answer) e in omega (arith, q))
  short (holds s e) = by (refusal l m) e
    where
      by : (n : ℕ) → (refused 7 leaving m') ≡ left l m (unless n (target l m)) → n ≡ 7
      by zero f = let q : ◌≡◌ {A = ℕ} 7 0 = ap (λ (w : Left (Unit {0})). number w.answer) f in absurd (omega (arith, q))
      by (suc n) f = let q : 7 ≡ suc n = ap (λ (w : Left (Unit {0})). number w.answer) f in omega (arith, q)

pub pack_fits : PackFits
pack_fits l m m' r s le p e =
    pack_forest_room (given_in l) (given_in m) (forest_of l) (forest_of m) (sound_forest l s) le
    (short l m m' (subst (λ (a : Result (Unit {0}) Refusal). Packs l m a m') e p))
