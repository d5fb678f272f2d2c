-- Whatever keeps the promise of a C call is one result, one small buffer, and one state of the lent bytes. Assumes nothing.
use Prim.Native.Nat.{ℕ}
use mathlib.Core.Path.{◌≡◌, refl, sym, ap, ◌∙◌}
use mathlib.Core.List.{List}
use lib.ListN.{length}
use Rattle.model.specs.declared.PoolSettings.{PoolSettings}
use Rattle.model.specs.declared.Totals.{Totals}
use Rattle.std.specs.Prelude.{Result}
use Rattle.model.specs.declared.Refusal.{Refusal}
use Rattle.model.specs.Answer.{Answer, told, code}
use Rattle.model.specs.declared.Bound.{Bound}
use Rattle.model.specs.declared.Sift.{Sift}
use Rattle.model.specs.declared.Request.{Request}
use Rattle.model.specs.Refuse.{Call}
use Rattle.model.specs.Frame.{Frame, write_frame}
use Rattle.model.specs.Sound.{PoolLimits}
use Rattle.tree.specs.Pool.{pool_len}
use Rattle.frame.proofs.Undoes.{one_written}
use Rattle.index_promise.specs.Promise.{Where}
use Rattle.index_promise.proofs.Unique.{where_unique, one_opening, one_totals, one_batch_lem, one_get, one_scan, one_portion, one_frame, one_pack}
use Rattle.index_c_told.specs.Told.{total_numbers, count_numbers, listed_numbers, scanned_numbers, PortionBuffers, buffers_after}
use Rattle.index_c_given.specs.Given.{start_for}
use Rattle.index_c_fields.specs.Fields.{Fields, frame_fields}
use Rattle.index_c.specs.Calls.{Kept, OpenCall, PackCall, TotalsCall, BatchCall, GetCall, ScanCall, PortionCall, FrameCall, WriteCall, ReadCall}
use Rattle.index_c_told.proofs.Reported.{one_report}

pub one_pool_len : (given : PoolSettings) (r q : ℕ) → Where (PoolLimits given) (pool_len given) 0 r → Where (PoolLimits given) (pool_len given) 0 q → r ≡ q
one_pool_len given r q = where_unique

pub one_open_call : (given : PoolSettings) (l k m : List ℕ) (r q : ℕ) → OpenCall given l r k → OpenCall given l q m → (r ≡ q) × (k ≡ m)
one_open_call given l k m r q x y =
    let u = one_opening given l k m x.0 y.0 x.1.0 y.1.0 in (x.1.1 ∙ ap (λ (a : Result (Unit {0}) Refusal). code a) u.0 ∙ sym y.1.1, u.1)

pub one_pack_call : (l m k k' : List ℕ) (r q : ℕ) → PackCall l m r k → PackCall l m q k' → (r ≡ q) × (k ≡ k')
one_pack_call l m k k' r q x y =
    let u = one_pack l m k k' x.0 y.0 x.1.0 y.1.0 in (x.1.1 ∙ ap (λ (a : Result (Unit {0}) Refusal). code a) u.0 ∙ sym y.1.1, u.1)

pub one_totals_call : (l : List ℕ) (i : ℕ) (b b' b'' : List ℕ) (r q : ℕ) → TotalsCall l i b r b' → TotalsCall l i b q b'' → (r ≡ q) × (b' ≡ b'')
one_totals_call l i b b' b'' r q x y =
    one_report total_numbers _ _ b b' b'' r q (ap (λ (a : Result Totals Refusal). told a) (one_totals l i x.0 y.0 x.1.0 y.1.0)) x.1.1 y.1.1

-- a promise that leaves one answer and one state of the lent bytes, kept by what is reported
one_kept : {A B : Type 0} {P Q : Result A Refusal → Type 0} {k m : List ℕ} (f : A → B) (b b' b'' : B) (r q : ℕ)
    → ((a c : Result A Refusal) → P a → Q c → (a ≡ c) × (k ≡ m)) → Kept P f b r b' → Kept Q f b q b'' → ((r ≡ q) × (b' ≡ b'')) × (k ≡ m)
one_kept {A = A} f b b' b'' r q one x y =
    let u = one x.0 y.0 x.1.0 y.1.0 in
    (one_report f _ _ b b' b'' r q (ap (λ (a : Result A Refusal). told a) u.0) x.1.1 y.1.1, u.1)

pub one_batch_call : (i : ℕ) (c : Call) (l k m b b' b'' : List ℕ) (r q : ℕ) → BatchCall i c l b r k b' → BatchCall i c l b q m b''
    → ((r ≡ q) × (b' ≡ b'')) × (k ≡ m)
one_batch_call i c l k m b b' b'' r q = one_kept count_numbers b b' b'' r q (one_batch_lem i c l k m)

pub one_get_call : (l : List ℕ) (i : ℕ) (ks out k m b b' b'' : List ℕ) (r q : ℕ) → GetCall l i ks out b r k b' → GetCall l i ks out b q m b''
    → ((r ≡ q) × (b' ≡ b'')) × (k ≡ m)
one_get_call l i ks out k m b b' b'' r q = one_kept listed_numbers b b' b'' r q (one_get l i ks out k m)

pub one_scan_call : (l : List ℕ) (i : ℕ) (p : Request) (out k m b b' b'' : List ℕ) (r q : ℕ) → ScanCall l i p out b r k b' → ScanCall l i p out b q m b''
    → ((r ≡ q) × (b' ≡ b'')) × (k ≡ m)
one_scan_call l i p out k m b b' b'' r q = one_kept scanned_numbers b b' b'' r q (one_scan l i p out k m)

pub one_portion_call : (l : List ℕ) (i : ℕ) (end : Bound) (sift : Sift) (out k m : List ℕ) (b b' b'' : PortionBuffers) (r q : ℕ)
    → PortionCall l i end sift out b r k b' → PortionCall l i end sift out b q m b'' → ((r ≡ q) × (b' ≡ b'')) × (k ≡ m)
one_portion_call l i end sift out k m b b' b'' r q =
    one_kept (buffers_after b.from) b b' b'' r q (one_portion l i (start_for b.from) end sift out k m)

pub one_frame_call : (l : List ℕ) (i n : ℕ) (line k m : List ℕ) (b b' b'' r q : ℕ) → FrameCall l i n line b r k b' → FrameCall l i n line b q m b''
    → ((r ≡ q) × (b' ≡ b'')) × (k ≡ m)
one_frame_call l i n line k m b b' b'' r q = one_kept (λ n. n) b b' b'' r q (one_frame l i n line k m)

pub one_write_call : (f : Frame) (line k m : List ℕ) (b b' b'' r q : ℕ) → WriteCall f line b r k b' → WriteCall f line b q m b'' → ((r ≡ q) × (b' ≡ b'')) × (k ≡ m)
one_write_call f line k m b b' b'' r q = one_kept (λ n. n) b b' b'' r q (one_written (write_frame (length line) f) line k m)

pub one_read_call : (a : Answer Frame) (b b' b'' : Fields) (r q : ℕ) → ReadCall a b r b' → ReadCall a b q b'' → (r ≡ q) × (b' ≡ b'')
one_read_call a b b' b'' r q x y = one_report frame_fields a a b b' b'' r q refl x y
