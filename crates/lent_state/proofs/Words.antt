-- Entries read back from their words, the owners, the numbers and the values each in a list of its own with others behind them.
use Prim.Native.Nat.{ℕ, suc, ◌+◌, ◌*◌, ◌<◌}
use native.Mathlib.Omega.{arith}
use mathlib.Core.Path.{◌≡◌, refl, ap, ◌∙◌}
use mathlib.Core.List.{List, [], ◌∷◌, ◌++◌, map, Memᴰ, append_assoc}
use lib.ListN.{length}
use Rattle.meaning.specs.Lists.{gather}
use Rattle.meaning.specs.Kept.{Entry, entry_of}
use Rattle.method.proofs.Rowed.{Rowed}
use Rattle.entries.specs.Entries.{owned_by, entry_at, entries_from}
use Rattle.entries.proofs.Listed.{listed_moved}
use Rattle.entries.proofs.Entries.{owned_by_lem}
use Rattle.call.specs.Stores.{owner_of}

entries_cons : (o n a b c d : ℕ) (os ns vs : List ℕ) (k : ℕ) → entries_from (o ∷ os) (n ∷ ns) (a ∷ b ∷ c ∷ d ∷ vs) 0 (suc k) ≡ owned_by o n (a ∷ b ∷ c ∷ d ∷ []) ∷ entries_from os ns vs 0 k
unfolding entries_from
entries_cons o n a b c d os ns vs k = ap (λ es. owned_by o n (a ∷ b ∷ c ∷ d ∷ []) ∷ es) (listed_moved (entry_at (o ∷ os) (n ∷ ns) (a ∷ b ∷ c ∷ d ∷ vs)) (entry_at os ns vs) 1 0 k (λ j l. on j))
  where
    on : (j : ℕ) → entry_at (o ∷ os) (n ∷ ns) (a ∷ b ∷ c ∷ d ∷ vs) (1 + j) ≡ entry_at os ns vs (0 + j)
    on j =
        let e : 1 + j ≡ suc j = omega arith in
        let z : 0 + j ≡ j = omega arith in
        let f : suc j * 4 ≡ suc (suc (suc (suc (j * 4)))) = omega arith in
        let g : (i : ℕ) → suc (suc (suc (suc (j * 4)))) + i ≡ suc (suc (suc (suc (j * 4 + i)))) = λ i. omega arith in
        rw (e, z, f, g 1, g 2, g 3)

back_one : (x mark number : ℕ) (u : List ℕ) → mark < 2 → length u ≡ 4 → (os ns vs : List ℕ) (k : ℕ)
    → entries_from ((x * 2 + mark) ∷ os) (number ∷ ns) (u ++ vs) 0 (suc k) ≡ entry_of x mark number u ∷ entries_from os ns vs 0 k
back_one x mark number [] l e os ns vs k = absurd (omega arith)
back_one x mark number (a ∷ []) l e os ns vs k = absurd (omega arith)
back_one x mark number (a ∷ b ∷ []) l e os ns vs k = absurd (omega arith)
back_one x mark number (a ∷ b ∷ c ∷ []) l e os ns vs k = absurd (omega arith)
back_one x mark number (a ∷ b ∷ c ∷ d ∷ []) l e os ns vs k = entries_cons (x * 2 + mark) number a b c d os ns vs k ∙ ap (λ f. f ∷ entries_from os ns vs 0 k) (owned_by_lem x mark number (a ∷ b ∷ c ∷ d ∷ []) l)
back_one x mark number (a ∷ b ∷ c ∷ d ∷ f ∷ u) l e os ns vs k = absurd (omega arith)

pub entries_back : (es : List Entry) → ((e : Entry) → Memᴰ e es → Rowed e) → (os ns vs : List ℕ)
    → entries_from (map owner_of es ++ os) (map (λ e. e.number) es ++ ns) (gather (λ e. e.values) es ++ vs) 0 (length es) ≡ es
unfolding entries_from
entries_back [] h os ns vs = refl
entries_back (e ∷ es) h os ns vs =
    let (mark, four) = h e (Memᴰ.head refl) in
    ap (λ ws. entries_from (map owner_of (e ∷ es) ++ os) (map (λ f. f.number) (e ∷ es) ++ ns) ws 0 (suc (length es))) (append_assoc e.values (gather (λ f. f.values) es) vs)
    ∙ back_one e.node e.mark e.number e.values mark four (map owner_of es ++ os) (map (λ f. f.number) es ++ ns) (gather (λ f. f.values) es ++ vs) (length es)
    ∙ ap (λ fs. e ∷ fs) (entries_back es (λ f m. h f (Memᴰ.tail m)) os ns vs)
