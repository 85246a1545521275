-- Words put at the front of others.
use Prim.Native.Nat.{ℕ, ◌+◌, ◌-◌, ◌≤◌, ◌<◌}
use native.Mathlib.Omega.{arith}
use mathlib.Core.Path.{◌≡◌, sym, ap, ◌∙◌}
use mathlib.Core.List.{List, ◌++◌}
use lib.ListN.{length, get_or, take, drop, length-append, length-drop, get_or-append}
use lib.Seq.{length-take-le, get_or-take, get_or-drop, get_or-append-add, ext_get_or, take-append_seam}
use lib.Dec.{ltb}
use borrow.Author.Tests.{ltb-true, ltb-false}
use Rattle.meaning.proofs.Points.{Tested, passed, failed, tested}
use Rattle.entries.specs.Appended.{WordsPut, at_front}
use Rattle.figures.specs.Fronts.{front}
use Rattle.figures.proofs.Slices.{front-take}

pub front_long : (words old : List ℕ) → length words ≤ length old → length (at_front words old) ≡ length old
front_long words old l = simp (length-append, length-drop) (omega arith)

-- they are read back, whatever is behind them
pub front_read : (words rest : List ℕ) → front (length words) (words ++ rest) ≡ words
front_read words rest = front-take (length words) (words ++ rest) (simp length-append (omega arith)) ∙ take-append_seam words rest

-- the first n words copied
pub put_front : (from : List ℕ) {old new : List ℕ} {n : ℕ} → WordsPut old 0 new n (λ k. get_or from k 0) → n ≤ length old → n ≤ length from → new ≡ at_front (take n from) old
put_front from {old} {new} {n} h l m = ext_get_or 0 new (at_front (take n from) old) (h.long ∙ sym (front_long (take n from) old (omega (arith, long)))) (λ i o. go i (tested (ltb i n)))
  where
    long : length (take n from) ≡ n
    long = length-take-le n from m

    go : (i : ℕ) → Tested (ltb i n) → get_or new i 0 ≡ get_or (at_front (take n from) old) i 0
    go i (passed t) =
        let u : i < n = ltb-true i n t in
        let z : 0 + i ≡ i = omega arith in
        (rw z at (h.there i u)) ∙ sym (get_or-take n from i 0 u) ∙ sym (get_or-append (take n from) (drop (length (take n from)) old) 0 i (omega (arith, long)))
    go i (failed t) =
        let u : n ≤ i = ltb-false i n t in
        let e : length (take n from) + (i - n) ≡ i = omega (arith, long) in
        h.behind i (omega arith) ∙ ap (λ k. get_or old k 0) (sym e) ∙ sym (get_or-drop (length (take n from)) old (i - n) 0)
        ∙ sym (get_or-append-add (take n from) (drop (length (take n from)) old) (i - n) 0) ∙ ap (λ k. get_or (at_front (take n from) old) k 0) e
