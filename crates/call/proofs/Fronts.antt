-- Words at the front of others, and more put behind them; lists over numbers in a row, in two parts.
use Prim.Native.Nat.{ℕ, zero, suc, ◌+◌, ◌-◌, ◌≤◌, ◌<◌}
use native.Mathlib.Nat.{add-zero}
use native.Mathlib.Omega.{arith}
use mathlib.Core.Path.{◌≡◌, sym, ap, ◌∙◌}
use mathlib.Core.List.{List, ◌++◌, map}
use lib.ListN.{length, get_or, drop, length-append, length-drop, get_or-append}
use lib.Seq.{get_or-drop, get_or-append-add, ext_get_or}
use lib.Dec.{ltb}
use borrow.Author.Tests.{ltb-true, ltb-false}
use Rattle.meaning.specs.Lists.{range}
use Rattle.meaning.proofs.Points.{Tested, passed, failed, tested}
use Rattle.entries.specs.Appended.{WordsPut, at_front}
use Rattle.call.specs.Blocks.{ListPut}

-- ---- numbers in a row

pub listed_at : (f : ℕ → ℕ) (a n i : ℕ) → i < n → get_or (map f (range a n)) i 0 ≡ f (a + i)
listed_at f a zero i u = absurd (omega arith)
listed_at f a (suc n) zero u = ap f (sym (add-zero a))
listed_at f a (suc n) (suc i) u =
    let e : suc a + i ≡ a + suc i = omega arith in
    rw e at (listed_at f (suc a) n i (omega arith))

-- ---- a list's words put at a place

pub list_put : {old new : List ℕ} {k n : ℕ} {f : ℕ → ℕ} (ws : List ℕ) → WordsPut old k new n f → length ws ≡ n → ((i : ℕ) → i < n → f i ≡ get_or ws i 0) → ListPut old k new ws
list_put ws h e same =
    record { long = h.long; below = h.below; there = λ i u. h.there i (omega arith) ∙ same i (omega arith); behind = λ j u. h.behind j (omega arith) }

-- and then another's behind them
pub put_two : {old mid new : List ℕ} {k : ℕ} (ws us : List ℕ) → ListPut old k mid ws → ListPut mid (k + length ws) new us → ListPut old k new (ws ++ us)
put_two {old} {mid} {new} {k} ws us g h =
    let e : length (ws ++ us) ≡ length ws + length us = length-append ws us in
    record {
      long = h.long ∙ g.long;
      below = λ j u. h.below j (omega arith) ∙ g.below j u;
      there = λ i u. there i (omega arith) (tested (ltb i (length ws)));
      behind = λ j u. h.behind j (omega arith) ∙ g.behind j (omega arith);
    }
  where
    there : (i : ℕ) → i < length ws + length us → Tested (ltb i (length ws)) → get_or new (k + i) 0 ≡ get_or (ws ++ us) i 0
    there i u (passed t) =
        let v : i < length ws = ltb-true i (length ws) t in
        h.below (k + i) (omega arith) ∙ g.there i v ∙ sym (get_or-append ws us 0 i v)
    there i u (failed t) =
        let v : length ws ≤ i = ltb-false i (length ws) t in
        let p : k + i ≡ k + length ws + (i - length ws) = omega arith in
        let q : length ws + (i - length ws) ≡ i = omega arith in
        ap (λ j. get_or new j 0) p ∙ h.there (i - length ws) (omega arith) ∙ sym (get_or-append-add ws us (i - length ws) 0) ∙ ap (λ j. get_or (ws ++ us) j 0) q

-- ---- words at the front

front_long : (ws old : List ℕ) → length ws ≤ length old → length (at_front ws old) ≡ length old
front_long ws old l = simp (length-append, length-drop) (omega arith)

front-within : (ws old : List ℕ) (i : ℕ) → i < length ws → get_or (at_front ws old) i 0 ≡ get_or ws i 0
front-within ws old i u = get_or-append ws (drop (length ws) old) 0 i u

front_behind : (ws old : List ℕ) (i : ℕ) → length ws ≤ i → get_or (at_front ws old) i 0 ≡ get_or old i 0
front_behind ws old i u =
    let e : length ws + (i - length ws) ≡ i = omega arith in
    ap (λ j. get_or (at_front ws old) j 0) (sym e) ∙ get_or-append-add ws (drop (length ws) old) (i - length ws) 0 ∙ get_or-drop (length ws) old (i - length ws) 0 ∙ ap (λ j. get_or old j 0) e

-- a list's words put behind those at the front are at the front with them
pub front_more : (ws us old : List ℕ) {new : List ℕ} → ListPut (at_front ws old) (length ws) new us → length ws + length us ≤ length old → new ≡ at_front (ws ++ us) old
front_more ws us old {new} h l =
    ext_get_or 0 new (at_front (ws ++ us) old) (h.long ∙ front_long ws old (omega arith) ∙ sym (front_long (ws ++ us) old (omega (arith, e))))
    (λ i o. go i (tested (ltb i (length ws))) (tested (ltb i (length ws + length us))))
  where
    e : length (ws ++ us) ≡ length ws + length us
    e = length-append ws us

    go : (i : ℕ) → Tested (ltb i (length ws)) → Tested (ltb i (length ws + length us)) → get_or new i 0 ≡ get_or (at_front (ws ++ us) old) i 0
    go i (passed s) t =
        let v : i < length ws = ltb-true i (length ws) s in
        h.below i v ∙ front-within ws old i v ∙ sym (get_or-append ws us 0 i v) ∙ sym (front-within (ws ++ us) old i (omega (arith, e)))
    go i (failed s) (passed t) =
        let v : length ws ≤ i = ltb-false i (length ws) s in
        let o : i < length ws + length us = ltb-true i (length ws + length us) t in
        let q : length ws + (i - length ws) ≡ i = omega arith in
        ap (λ j. get_or new j 0) (sym q) ∙ h.there (i - length ws) (omega arith) ∙ sym (get_or-append-add ws us (i - length ws) 0)
        ∙ ap (λ j. get_or (ws ++ us) j 0) q ∙ sym (front-within (ws ++ us) old i (omega (arith, e)))
    go i (failed s) (failed t) =
        let v : length ws ≤ i = ltb-false i (length ws) s in
        let o : length ws + length us ≤ i = ltb-false i (length ws + length us) t in
        h.behind i o ∙ front_behind ws old i v ∙ sym (front_behind (ws ++ us) old i (omega (arith, e)))
