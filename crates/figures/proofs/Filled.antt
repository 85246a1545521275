-- A table filled node by node: the words of one more node, and those before it.
use Prim.Native.Nat.{ℕ, zero, suc, ◌+◌, ◌*◌, ◌≤◌, ◌<◌}
use native.Mathlib.Nat.{eq-or-lt_of_le}
use native.Mathlib.Omega.{arith}
use mathlib.Core.Path.{◌≡◌, refl, sym, ◌∙◌, ap}
use mathlib.Core.Logic.{◌⊎◌, inl, inr}
use mathlib.Core.List.{List, [], ◌∷◌}
use lib.ListN.{length, get_or, set, length-set}
use lib.Seq.{get_or-set_same, get_or-set_other}
use Rattle.node_step.specs.Figures.{figure}
use Rattle.figures.specs.Tables.{TableOf}
use Rattle.figures.specs.Words.{put_from}

pub put-length : (f : List ℕ) (at k : ℕ) (ws : List ℕ) → length (put_from f at k ws) ≡ length f
put-length f at k [] = refl
put-length f at k (w ∷ ws) = put-length (set f (at + k) w) at (suc k) ws ∙ length-set f (at + k) w

-- the first word's place written as `at` alone
pub put_first : (f : List ℕ) (at w : ℕ) (ws : List ℕ) → put_from (set f at w) at 1 ws ≡ put_from f at 0 (w ∷ ws)
put_first f at w ws = let z : at + 0 ≡ at = omega arith in ap (λ k. put_from (set f k w) at 1 ws) (sym z)

-- words before them stay
put-before : (f : List ℕ) (at k : ℕ) (ws : List ℕ) (i : ℕ) → i < at + k → get_or (put_from f at k ws) i 0 ≡ get_or f i 0
put-before f at k [] i u = refl
put-before f at k (w ∷ ws) i u = put-before (set f (at + k) w) at (suc k) ws i (omega arith) ∙ get_or-set_other f (at + k) i w 0 (λ z. absurd (omega arith))

put_at : (f : List ℕ) (at k : ℕ) (ws : List ℕ) (j : ℕ) → at + k + length ws ≤ length f → j < length ws → get_or (put_from f at k ws) (at + (k + j)) 0 ≡ get_or ws j 0
put_at f at k [] j u o = absurd (omega arith)
put_at f at k (w ∷ ws) zero u o =
    let z : k + 0 ≡ k = omega arith in
    rw z (put-before (set f (at + k) w) at (suc k) ws (at + k) (omega arith) ∙ get_or-set_same f (at + k) w 0 (omega arith))
put_at f at k (w ∷ ws) (suc j) u o =
    let z : k + suc j ≡ suc k + j = omega arith in
    let l : length (set f (at + k) w) ≡ length f = length-set f (at + k) w in
    rw z (put_at (set f (at + k) w) at (suc k) ws j (omega arith) (omega arith))

module _ (masks lows before after wants begins pairs weights : List ℕ) where
  pub table_none : (f : List ℕ) → TableOf 0 masks lows before after wants begins pairs weights f
  table_none f =
      record {
        mask = λ x o. absurd (omega arith);
        low = λ x o. absurd (omega arith);
        before_call = λ x o. absurd (omega arith);
        after_call = λ x o. absurd (omega arith);
        want = λ x o. absurd (omega arith);
        begin = λ x o. absurd (omega arith);
        pair = λ x o. absurd (omega arith);
        end = λ x o. absurd (omega arith);
        weight = λ x o. absurd (omega arith);
      }

  -- the nine words of node x
  abbrev pub words_of : ℕ → List ℕ
  words_of x = get_or masks x 0 ∷ get_or lows x 0 ∷ get_or before x 0 ∷ get_or after x 0 ∷ get_or wants x 0 ∷ get_or begins x 0 ∷ get_or pairs x 0 ∷ get_or begins (x + 1) 0 ∷ get_or weights x 0 ∷ []

  module _ (f : List ℕ) (x : ℕ) (room : x * 9 + 9 ≤ length f) where
    -- word k of each node so far, where F says what it has to be
    word : (k : ℕ) (F : ℕ → ℕ) → k < 9 → get_or (words_of x) k 0 ≡ F x → ((y : ℕ) → y < x → figure f y k ≡ F y) → (y : ℕ) → y < x + 1 → figure (put_from f (x * 9) 0 (words_of x)) y k ≡ F y
    word k F l e low y u = let le : y ≤ x = omega arith in go (eq-or-lt_of_le le)
      where
        go : (y ≡ x) ⊎ (y < x) → figure (put_from f (x * 9) 0 (words_of x)) y k ≡ F y
        go (inl q) = let z : 0 + k ≡ k = omega arith in rw q ((rw z at (put_at f (x * 9) 0 (words_of x) k (omega arith) l)) ∙ e)
        go (inr q) = put-before f (x * 9) 0 (words_of x) (y * 9 + k) (omega arith) ∙ low y q

    pub table_more : TableOf x masks lows before after wants begins pairs weights f → TableOf (x + 1) masks lows before after wants begins pairs weights (put_from f (x * 9) 0 (words_of x))
    table_more t =
        record {
          mask = word 0 (λ y. get_or masks y 0) (omega arith) refl t.mask;
          low = word 1 (λ y. get_or lows y 0) (omega arith) refl t.low;
          before_call = word 2 (λ y. get_or before y 0) (omega arith) refl t.before_call;
          after_call = word 3 (λ y. get_or after y 0) (omega arith) refl t.after_call;
          want = word 4 (λ y. get_or wants y 0) (omega arith) refl t.want;
          begin = word 5 (λ y. get_or begins y 0) (omega arith) refl t.begin;
          pair = word 6 (λ y. get_or pairs y 0) (omega arith) refl t.pair;
          end = word 7 (λ y. get_or begins (y + 1) 0) (omega arith) refl t.end;
          weight = word 8 (λ y. get_or weights y 0) (omega arith) refl t.weight;
        }

    -- the same with the mask and the table as the code has them
    pub table_next : {m : ℕ} {f' : List ℕ} → TableOf x masks lows before after wants begins pairs weights f → m ≡ get_or masks x 0
        → f' ≡ put_from f (x * 9) 0 (m ∷ get_or lows x 0 ∷ get_or before x 0 ∷ get_or after x 0 ∷ get_or wants x 0 ∷ get_or begins x 0 ∷ get_or pairs x 0 ∷ get_or begins (x + 1) 0 ∷ get_or weights x 0 ∷ [])
        → TableOf (x + 1) masks lows before after wants begins pairs weights f'
    table_next t e q = rw (q, e) (table_more t)

  pub table_all : {n x : ℕ} {f : List ℕ} → n ≤ x → TableOf x masks lows before after wants begins pairs weights f → TableOf n masks lows before after wants begins pairs weights f
  table_all l t =
      record {
        mask = λ y o. t.mask y (omega arith);
        low = λ y o. t.low y (omega arith);
        before_call = λ y o. t.before_call y (omega arith);
        after_call = λ y o. t.after_call y (omega arith);
        want = λ y o. t.want y (omega arith);
        begin = λ y o. t.begin y (omega arith);
        pair = λ y o. t.pair y (omega arith);
        end = λ y o. t.end y (omega arith);
        weight = λ y o. t.weight y (omega arith);
      }
