-- Searches in runs of what an accessor gives, of rows or of pairs: turn by turn; from where one may begin; what its answer says of the run; and that the next may begin near where this one has ended.
use Rattle.std.specs.Prelude.{Ok, Err}
use Rattle.std.specs.Ordering.{is_lt}
use Rattle.std.specs.declared.cmp.Ordering.TheVariants.{Less, Equal, Greater}
use Prim.Native.Nat.{ℕ, ◌+◌, ◌-◌, ◌≤◌, ◌<◌}
use native.Mathlib.Nat.{zero-add, eq-or-lt_of_le}
use native.Mathlib.Omega.{arith}
use mathlib.Core.Path.{◌≡◌, refl, sym, ap, ap₂, ◌∙◌}
use mathlib.Core.Logic.{◌⊎◌, inl, inr}
use mathlib.Core.Bool.{Bool, true, false, true≢false}
use mathlib.Core.List.{List, [], ◌∷◌, ◌++◌, map}
use lib.ListN.{length, get_or, get_or-append}
use lib.Seq.{get_or-append_seam}
use Rattle.meaning.specs.Lists.{range, same_row}
use Rattle.meaning.specs.Order.{before}
use Rattle.meaning.specs.Evaluator.{insert}
use Rattle.meaning.specs.LookUp.{onward, look_up, Passes}
use Rattle.meaning.proofs.Points.{Tested, passed, failed, tested}
use Rattle.meaning.proofs.Rows.{before_transitive, same_row_lem}
use Rattle.meaning.proofs.Order.{asymmetric, total, after_other}
use Rattle.meaning.proofs.LookUp.{look_on, look_there, look_absent, onward_twice, looks_up, insert_absent}
use Rattle.rowset.specs.Rows.{compared_by, compared}
use Rattle.rowset.specs.Sets.{AnsweredAlike, AllBefore, Led}
use Rattle.rowset.proofs.Runs.{run_first, run_end, run_append, run_same, run_length, run_at, run_split, run_take, run_drop, run_of_length}

-- what their comparison tells of two rows
told_before : (less same : Bool) → compared_by less same ≡ Less → less ≡ true
told_before true same d = refl
told_before false true d = cc
told_before false false d = cc

told_same : (less same : Bool) → compared_by less same ≡ Equal → (less ≡ false) × (same ≡ true)
told_same true same d = cc
told_same false true d = (refl, refl)
told_same false false d = cc

told_after : (less same : Bool) → compared_by less same ≡ Greater → (less ≡ false) × (same ≡ false)
told_after true same d = cc
told_after false true d = cc
told_after false false d = (refl, refl)

told_less : (less same : Bool) → is_lt (compared_by less same) ≡ less
told_less true same = refl
told_less false true = refl
told_less false false = refl

module _ (lowest : ℕ) (x y : List ℕ) where
  pub by_less : is_lt (compared lowest x y) ≡ before lowest x y
  by_less = told_less (before lowest x y) (same_row x y)

  pub by_before : compared lowest x y ≡ Less → before lowest x y ≡ true
  by_before e = told_before (before lowest x y) (same_row x y) e

  pub by_same : compared lowest x y ≡ Equal → (before lowest x y ≡ false) × (same_row x y ≡ true)
  by_same e = told_same (before lowest x y) (same_row x y) e

  pub by_after : compared lowest x y ≡ Greater → (before lowest x y ≡ false) × (same_row x y ≡ false)
  by_after e = told_after (before lowest x y) (same_row x y) e

-- a run up to item q, the item, and the rest
run_around : (at : ℕ → List ℕ) (from to q : ℕ) → from ≤ q → q < to → map at (range from (to - from)) ≡ map at (range from (q - from)) ++ at q ∷ map at (range (q + 1) (to - (q + 1)))
run_around at from to q l m =
    let y : q - from + (to - q) ≡ to - from = omega arith in
    let z : from + (q - from) ≡ q = omega arith in
    (rw (y, z) at (run_append at from (q - from) (to - q))) ∙ ap (λ us. map at (range from (q - from)) ++ us) (run_first at to q m)

pub answered_alike : AnsweredAlike
answered_alike lowest at at' x from to to' q l m m' same larger =
    ap (look_up lowest x) (run_around at from to q l m)
    ∙ looks_up.alike lowest x (map at (range from (q - from))) (at q) (map at (range (q + 1) (to - (q + 1)))) (map at' (range (q + 1) (to' - (q + 1)))) larger
    ∙ ap (look_up lowest x)
    (sym
    (run_around at' from to' q l m'
    ∙ ap₂ (λ us u. us ++ u ∷ map at' (range (q + 1) (to' - (q + 1)))) (run_same at' at from (q - from) (λ k a b. sym (same k a (omega arith)))) (sym (same q l (omega arith)))))

module _ (lowest : ℕ) (at : ℕ → List ℕ) (x : List ℕ) (long : (k : ℕ) → length (at k) ≡ length x) where
  -- a search at item i of those up to to
  module _ (to i : ℕ) where
    pub seek_on : i < to → compared lowest (at i) x ≡ Less → onward i (look_up lowest x (map at (range i (to - i)))) ≡ onward (i + 1) (look_up lowest x (map at (range (i + 1) (to - (i + 1)))))
    seek_on l e =
        ap (λ us. onward i (look_up lowest x us)) (run_first at to i l)
        ∙ ap (onward i) (look_on lowest x (at i) (map at (range (i + 1) (to - (i + 1)))) (by_before lowest (at i) x e))
        ∙ onward_twice i 1 (look_up lowest x (map at (range (i + 1) (to - (i + 1)))))

    pub seek_there : i < to → compared lowest (at i) x ≡ Equal → onward i (look_up lowest x (map at (range i (to - i)))) ≡ Ok i
    seek_there l e =
        let z : i + 0 ≡ i = omega arith in
        ap (λ us. onward i (look_up lowest x us)) (run_first at to i l)
        ∙ ap (onward i) (look_there lowest x (at i) (map at (range (i + 1) (to - (i + 1)))) (by_same lowest (at i) x e).1)
        ∙ ap Ok z

    larger : compared lowest (at i) x ≡ Greater → before lowest x (at i) ≡ true
    larger e = go (tested (before lowest x (at i)))
      where
        go : Tested (before lowest x (at i)) → before lowest x (at i) ≡ true
        go (passed p) = p
        go (failed p) = absurd (true≢false (sym (total lowest (at i) x (long i) (by_after lowest (at i) x e).0 p) ∙ (by_after lowest (at i) x e).1))

    pub seek_absent : i < to → compared lowest (at i) x ≡ Greater → onward i (look_up lowest x (map at (range i (to - i)))) ≡ Err i
    seek_absent l e =
        let z : i + 0 ≡ i = omega arith in
        ap (λ us. onward i (look_up lowest x us)) (run_first at to i l)
        ∙ ap (onward i) (look_absent lowest x (at i) (map at (range (i + 1) (to - (i + 1)))) (larger e))
        ∙ ap Err z

    pub seek_end : to ≤ i → onward i (look_up lowest x (map at (range i (to - i)))) ≡ Err i
    seek_end l =
        let z : i + 0 ≡ i = omega arith in
        ap (λ us. onward i (look_up lowest x us)) (run_end at to i l) ∙ ap Err z

  -- where a search may begin, by the item p that those before it lead up to
  module _ (p : ℕ) (led : Led lowest at p) where
    pub start_behind : compared lowest (at p) x ≡ Less → AllBefore lowest at (p + 1) x
    start_behind e k l = go (eq-or-lt_of_le (omega arith))
      where
        go : (k ≡ p) ⊎ (k < p) → before lowest (at k) x ≡ true
        go (inl q) = rw q (by_before lowest (at p) x e)
        go (inr v) = before_transitive lowest (at k) (at p) x (led k v) (by_before lowest (at p) x e)

    start_there : compared lowest (at p) x ≡ Equal → AllBefore lowest at p x
    start_there e k l = sym (ap (before lowest (at k)) ((same_row_lem (at p) x).0 (by_same lowest (at p) x e).1)) ∙ led k l

  -- a search that begins there answers as one from the front
  pub from_start : (n s : ℕ) → s ≤ n → AllBefore lowest at s x → onward s (look_up lowest x (map at (range s (n - s)))) ≡ look_up lowest x (map at (range 0 n))
  from_start n s l h =
      let front : List (List ℕ) = map at (range 0 s) in
      let rest : List (List ℕ) = map at (range s (n - s)) in
      sym
      (ap (look_up lowest x) (run_split at n s l)
      ∙ looks_up.behind lowest x front rest (λ k m. passed_by k (omega (arith, run_length at 0 s)))
      ∙ ap (λ j. onward j (look_up lowest x rest)) (run_length at 0 s))
    where
      passed_by : (k : ℕ) → k < s → (before lowest x (get_or (map at (range 0 s)) k []) ≡ false) × (same_row x (get_or (map at (range 0 s)) k []) ≡ false)
      passed_by k m =
          let z : 0 + k ≡ k = omega arith in
          rw (run_at at [] 0 s k m, z) (asymmetric lowest (at k) x (h k m), after_other lowest x (at k) (h k m))

  -- and where it begins at the item itself, it is there
  pub start_found : (n p : ℕ) → p < n → Led lowest at p → compared lowest (at p) x ≡ Equal → look_up lowest x (map at (range 0 n)) ≡ Ok p
  start_found n p l led e = sym (from_start n p (omega arith) (start_there p led e)) ∙ seek_there n p l e

  -- what the answer says of the first n items
  module _ (n p : ℕ) where
    all_passed : p ≤ n → Passes lowest x (map at (range 0 n)) p → AllBefore lowest at p x
    all_passed l h k m = go (tested (before lowest (at k) x)) (rw (run_at at [] 0 n k (omega arith), zero-add) at (h k m))
      where
        go : Tested (before lowest (at k) x) → (before lowest x (at k) ≡ false) × (same_row x (at k) ≡ false) → before lowest (at k) x ≡ true
        go (passed b) f = b
        go (failed b) f = absurd (true≢false (sym (total lowest x (at k) (sym (long k)) f.0 b) ∙ f.1))

    module _ (e : look_up lowest x (map at (range 0 n)) ≡ Ok p) where
      there_within : p < n
      there_within = omega (arith, (looks_up.there lowest x (map at (range 0 n)) p e).0, run_length at 0 n)

      pub there_led : Led lowest at p
      there_led k l =
          let z : 0 + p ≡ p = omega arith in
          let q : at p ≡ x = sym (ap at z) ∙ sym (run_at at [] 0 n p there_within) ∙ (looks_up.there lowest x (map at (range 0 n)) p e).1 in
          ap (before lowest (at k)) q ∙ all_passed (omega (arith, there_within)) (looks_up.there lowest x (map at (range 0 n)) p e).2 k l

    module _ (e : look_up lowest x (map at (range 0 n)) ≡ Err p) where
      pub absent_within : p ≤ n
      absent_within = omega (arith, (looks_up.absent lowest x (map at (range 0 n)) p e).0, run_length at 0 n)

      pub absent_goes : insert lowest x (map at (range 0 n)) ≡ map at (range 0 p) ++ x ∷ map at (range p (n - p))
      absent_goes =
          insert_absent lowest x (map at (range 0 n)) p (run_of_length at (length x) long 0 n) e
          ∙ ap₂ (λ us vs. us ++ x ∷ vs) (run_take at n p absent_within) (run_drop at n p absent_within)

      -- and once it is put in there
      pub put_led : (at' : ℕ → List ℕ) → map at' (range 0 (n + 1)) ≡ map at (range 0 p) ++ x ∷ map at (range p (n - p)) → Led lowest at' p
      put_led at' h k l = ap₂ (before lowest) (below k l) here ∙ all_passed absent_within (looks_up.absent lowest x (map at (range 0 n)) p e).2 k l
        where
          item : (j : ℕ) → j < n + 1 → at' j ≡ get_or (map at (range 0 p) ++ x ∷ map at (range p (n - p))) j []
          item j m =
              let z : 0 + j ≡ j = omega arith in
              sym (ap at' z) ∙ sym (run_at at' [] 0 (n + 1) j m) ∙ ap (λ us. get_or us j []) h

          below : (j : ℕ) → j < p → at' j ≡ at j
          below j m =
              let z : 0 + j ≡ j = omega arith in
              let u = absent_within in
              item j (omega arith) ∙ get_or-append (map at (range 0 p)) (x ∷ map at (range p (n - p))) [] j (omega (arith, run_length at 0 p)) ∙ run_at at [] 0 p j m ∙ ap at z

          here : at' p ≡ x
          here =
              let u = absent_within in
              item p (omega arith)
              ∙ ap (λ j. get_or (map at (range 0 p) ++ x ∷ map at (range p (n - p))) j []) (sym (run_length at 0 p))
              ∙ get_or-append_seam (map at (range 0 p)) x (map at (range p (n - p))) []
