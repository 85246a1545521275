-- What the trees of a rule's nodes need, from the sizes of the nodes: it is small where they are, and sizes that agree on the rule's nodes need the same.
use Prim.Native.Nat.{ℕ, ◌+◌, ◌*◌, ◌≤◌, ◌<◌, max}
use native.Mathlib.Omega.{arith}
use mathlib.Core.Path.{◌≡◌, refl, sym, ◌∙◌}
use mathlib.Core.Bool.{true, false, cond}
use mathlib.Core.List.{List, [], ◌∷◌, Memᴰ}
use lib.ListN.{length, get_or}
use lib.Dec.{ltb}
use borrow.Author.Tests.{lt-ltb, le-ltb}
use Rattle.meaning.specs.Outcome.{given}
use Rattle.meaning.specs.RuleFile.{Accepted, checking, node_count, node_at, children_of}
use Rattle.meaning.specs.declared.Children.{Children}
use Rattle.meaning.specs.declared.Children.TheVariants.{None, One, Two}
use Rattle.meaning.specs.View.{children_in}
use Rattle.meaning.proofs.Accepted.{nodes_most}
use Rattle.method.specs.Room.{others_in, heavier, lighter, need_of_two, need_of, need}
use Rattle.method.proofs.Bounds.{below, by_children}
use Rattle.method.proofs.Inputs.{one, two}
use Rattle.method.proofs.Weights.{both_sides, need_step}
use Rattle.node_step.specs.Figures.{weight_in}
use Rattle.figures.specs.Tables.{TableOf, rows_in, Weighty}
use Rattle.figures.specs.Sizes.{Sized}

-- what a node needs, from equal sizes and needs
needs_same : (b : List ℕ) (size size' f g : ℕ → ℕ) (x : ℕ) (ys : List ℕ) → size x ≡ size' x → ((y : ℕ) → Memᴰ y ys → (size y ≡ size' y) × (f y ≡ g y)) → need_of b size f x ys ≡ need_of b size' g x ys
needs_same b size size' f g x [] s e = s
needs_same b size size' f g x (a ∷ []) s e = rw (s, (e a one).0, (e a one).1)
needs_same b size size' f g x (a ∷ c ∷ cs) s e = let p = both_sides b a c (λ y. (size y ≡ size' y) × (f y ≡ g y)) (e a one) (e c two) in rw (s, p.0.0, p.0.1, p.1.0, p.1.1)

-- a node needs no more than 4096 above what the children need, and three times 4096 where they need less
needs_few : (b : List ℕ) (size f : ℕ → ℕ) (x : ℕ) (ys : List ℕ) → size x ≤ 4096 → ((y : ℕ) → Memᴰ y ys → (y < x) × (size y ≤ 4096) × (f y ≤ 4096 * (y + 3))) → need_of b size f x ys ≤ 4096 * (x + 3)
needs_few b size f x [] s e = omega arith
needs_few b size f x (a ∷ []) s e = let p = e a one in omega (arith, p.0, p.1, p.2)
needs_few b size f x (a ∷ c ∷ cs) s e =
    let p = both_sides b a c (λ y. (y < x) × (size y ≤ 4096) × (f y ≤ 4096 * (y + 3))) (e a one) (e c two) in
    omega (arith, p.0.0, p.0.1, p.0.2, p.1.0, p.1.1, p.1.2)

-- what `Weighty` says of the weights, from what stands in the table
pub weights_there : (b masks lows before after wants begins pairs weights f : List ℕ) → TableOf (node_count b) masks lows before after wants begins pairs weights f → ((x : ℕ) → x < node_count b → get_or weights x 0 ≡ others_in b x) → (x : ℕ) → x < node_count b → weight_in f x ≡ others_in b x
weights_there b masks lows before after wants begins pairs weights f t w x o = t.weight x o ∙ w x o

-- the heavier child first, by words that are the weights
module _ (F : ℕ → ℕ → ℕ) (c d : ℕ) {u v u' v' r : ℕ} where
  pub right_first : u' ≡ u → v' ≡ v → u' < v' → r ≡ F d c → r ≡ F (cond (ltb u v) d c) (cond (ltb u v) c d)
  right_first p q l e = let t : ltb u v ≡ true = lt-ltb u v (omega arith) in rw t e

  pub left_first : u' ≡ u → v' ≡ v → v' ≤ u' → r ≡ F c d → r ≡ F (cond (ltb u v) d c) (cond (ltb u v) c d)
  left_first p q l e = let t : ltb u v ≡ false = le-ltb u v (omega arith) in rw t e

module _ (b : List ℕ) (a : Accepted) (ok : checking b ≡ given a) where
  -- two sizes that agree on the rule's nodes need the same
  pub need_agrees : (size size' : ℕ → ℕ) → ((y : ℕ) → y < node_count b → size y ≡ size' y) → (x : ℕ) → x < node_count b → need b size x ≡ need b size' x
  need_agrees size size' same =
      by_children b a ok (λ x. need b size x ≡ need b size' x)
      (λ x o h. need_step b a ok size x o ∙ needs_same b size size' (need b size) (need b size') x (children_of (node_at b x)) (same x o) (λ y m. (same y (omega (arith, below b a ok x o y m)), h y m)) ∙ sym (need_step b a ok size' x o))

  pub need_few : (size : ℕ → ℕ) → ((y : ℕ) → y < node_count b → size y ≤ 4096) → (x : ℕ) → x < node_count b → need b size x ≤ 4096 * (x + 3)
  need_few size few =
      by_children b a ok (λ x. need b size x ≤ 4096 * (x + 3))
      (λ x o h. rw (need_step b a ok size x o) (needs_few b size (need b size) x (children_of (node_at b x)) (few x o) (λ y m. let l = below b a ok x o y m in (l, few y (omega arith), h y m))))

  -- ---- node x, where the needs of the lower nodes are known
  module _ (f : List ℕ) (h : Weighty b f) where
    pub sized : (y : ℕ) → y < node_count b → Sized f y
    sized y o = record { there = omega (arith, h.there); few = h.few y o }

    module _ (ns : List ℕ) (x : ℕ) (o : x < node_count b) (low : (y : ℕ) → y < x → get_or ns y 0 ≡ need b (rows_in f) y) where
      step : need b (rows_in f) x ≡ need_of b (rows_in f) (λ y. get_or ns y 0) x (children_of (node_at b x))
      step =
          need_step b a ok (rows_in f) x o
          ∙ needs_same b (rows_in f) (rows_in f) (need b (rows_in f)) (λ y. get_or ns y 0) x (children_of (node_at b x)) refl (λ y m. (refl, sym (low y (below b a ok x o y m))))

      pub child_sized : {cs : List ℕ} → cs ≡ children_of (node_at b x) → node_count b ≤ length ns → (c : ℕ) → Memᴰ c cs → Sized f c × (c < length ns) × (get_or ns c 0 ≤ 143360)
      child_sized e l c m =
          let u : c < x = below b a ok x o c (rw e at m) in
          (sized c (omega arith), omega arith, omega (arith, low c u, need_few (rows_in f) h.few c (omega arith), nodes_most b a ok))

      pub need_none : {l : Children} {v : ℕ} → children_in l ≡ children_of (node_at b x) → l ≡ None → v ≡ rows_in f x → v ≡ need b (rows_in f) x
      need_none e n v = let c : children_of (node_at b x) ≡ [] = rw n at (sym e) in v ∙ sym (rw c at step)

      pub need_one : {l : Children} {c v : ℕ} → children_in l ≡ children_of (node_at b x) → l ≡ One c → v ≡ max (get_or ns c 0) (rows_in f c + rows_in f x) → v ≡ need b (rows_in f) x
      need_one {l} {c} e n v = let s : children_of (node_at b x) ≡ c ∷ [] = rw n at (sym e) in v ∙ sym (rw s at step)

      pub need_two : {l : Children} {c d v : ℕ} → children_in l ≡ children_of (node_at b x) → l ≡ Two c d
          → v ≡ need_of_two [] (rows_in f) (λ y. get_or ns y 0) x (cond (ltb (weight_in f c) (weight_in f d)) d c) (cond (ltb (weight_in f c) (weight_in f d)) c d)
          → v ≡ need b (rows_in f) x
      need_two {l} {c} {d} {v} e n q =
          let s : children_of (node_at b x) ≡ c ∷ d ∷ [] = rw n at (sym e) in
          let wc : weight_in f c ≡ others_in b c = h.weight c (omega (arith, below b a ok x o c (rw s one))) in
          let wd : weight_in f d ≡ others_in b d = h.weight d (omega (arith, below b a ok x o d (rw s two))) in
          let q' : v ≡ need_of_two [] (rows_in f) (λ y. get_or ns y 0) x (heavier b c d) (lighter b c d) = rw (wc, wd) at q in
          q' ∙ sym (rw s at step)
