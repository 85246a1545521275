-- Facts on lists that proofs share: runs of points, selections from gathered lists, lists put end to end. Nothing here is about rules or logs.
use Prim.Native.Nat.{ℕ, zero, suc, ◌+◌, ◌-◌, ◌*◌, ◌≤◌, ◌<◌}
use native.Mathlib.Nat.{eq-or-lt_of_le, zero-add, add-zero, mul-suc, mul-zero}
use native.Mathlib.Omega.{arith}
use mathlib.Core.Path.{◌≡◌, refl, sym, ◌∙◌, ap, ap₂}
use mathlib.Core.Bool.{Bool, true, false, cond, ◌&&◌}
use mathlib.Core.Logic.{◌⊎◌, inl, inr}
use mathlib.Core.List.Memᴰ
use mathlib.Core.List.{List, [], ◌∷◌, ◌++◌, map, append-nil, append_assoc, Memᴰ}
use lib.ListN.{length, length-append}
use lib.Dec.{ltb, leb}
use borrow.Author.Tests.{le-leb, lt-ltb, le-ltb, lt-leb}
use Rattle.meaning.specs.Lists.{any, select, gather, range}
use Rattle.meaning.specs.Log.{point, point_before, points_from}
use Rattle.meaning.specs.declared.Point.{Point}
use Rattle.meaning.proofs.Rows.{both_ways, any_at, any_of, range_at, range_of}
use Rattle.meaning.proofs.Points.{select_append, select_none, points_from_append}
use Rattle.method.specs.Settle.{back_from}

-- a test that some number of a run passes, decided by what it comes to
pub any_is : (q : ℕ → Bool) (n : ℕ) (t : Bool) → ((i : ℕ) → i < n → q i ≡ true → t ≡ true) → (t ≡ true → (i : ℕ) × (i < n) × (q i ≡ true)) → any q (range 0 n) ≡ t
any_is q n t down up =
    both_ways (any q (range 0 n)) t
    (λ e. let (i, m, h) = any_at q (range 0 n) e in let r = range_at 0 n m in down i (omega (arith, r.1)) h)
    (λ e. let (i, o, h) = up e in any_of q (range_of 0 n (omega arith) (omega arith)) h)

pub select_no : {A : Type 0} (p : A → Bool) (xs : List A) → ((x : A) → Memᴰ x xs → p x ≡ false) → select p xs ≡ []
select_no p [] h = refl
select_no p (x ∷ xs) h = rw (h x (Memᴰ.head refl)) (select_no p xs (λ y m. h y (Memᴰ.tail m)))

pub select_yes : {A : Type 0} (p : A → Bool) (xs : List A) → ((x : A) → p x ≡ true) → select p xs ≡ xs
select_yes p [] h = refl
select_yes p (x ∷ xs) h = rw (h x) (ap (λ ys. x ∷ ys) (select_yes p xs h))

pub select_all : (p : Point → Bool) (a n : ℕ) → ((j : Point) → a ≤ j.0 → j.0 < a + n → p j ≡ true) → select p (points_from (point a) n) ≡ points_from (point a) n
select_all p a zero h = refl
select_all p a (suc n) h = rw (h (point a) (omega arith) (omega arith)) (ap (λ ps. point a ∷ ps) (select_all p (suc a) n (λ j u o. h j (omega arith) (omega arith))))

-- the points that a test on both ends selects
pub select_run : (p : Point → Bool) (n lo hi : ℕ) → lo ≤ hi → hi ≤ n → ((j : Point) → j.0 < n → p j ≡ (leb lo j.0 && ltb j.0 hi)) → select p (points_from (point 0) n) ≡ points_from (point lo) (hi - lo)
select_run p n lo hi a b h = ap (select p) parts ∙ select_append p (points_from (point 0) lo) (points_from (point lo) (hi - lo) ++ points_from (point hi) (n - hi)) ∙ rest
  where
    parts : points_from (point 0) n ≡ points_from (point 0) lo ++ (points_from (point lo) (hi - lo) ++ points_from (point hi) (n - hi))
    parts =
        let e : n ≡ lo + ((hi - lo) + (n - hi)) = omega arith in
        let k : 0 + lo ≡ lo = omega arith in
        let m : lo + (hi - lo) ≡ hi = omega arith in
        ap (points_from (point 0)) e ∙ points_from_append (point 0) lo ((hi - lo) + (n - hi)) ∙ ap (λ z. points_from (point 0) lo ++ points_from (point z) ((hi - lo) + (n - hi))) k
        ∙ ap (λ ps. points_from (point 0) lo ++ ps) (points_from_append (point lo) (hi - lo) (n - hi) ∙ ap (λ z. points_from (point lo) (hi - lo) ++ points_from (point z) (n - hi)) m)

    rest : select p (points_from (point 0) lo) ++ select p (points_from (point lo) (hi - lo) ++ points_from (point hi) (n - hi)) ≡ points_from (point lo) (hi - lo)
    rest =
        rw (
          select_none p 0 lo (λ j u o. h j (omega arith) ∙ (rw (lt-leb lo j.0 (omega arith)))),
          select_append p (points_from (point lo) (hi - lo)) (points_from (point hi) (n - hi)),
          select_none p hi (n - hi) (λ j u o. h j (omega arith) ∙ (rw (le-leb lo j.0 (omega arith), le-ltb j.0 hi (omega arith)))),
          append-nil,
        )
        (select_all p lo (hi - lo) (λ j u o. h j (omega arith) ∙ (rw (le-leb lo j.0 (omega arith), lt-ltb j.0 hi (omega arith)))))

-- the points from start on up to i, the last first
back_run : {j : Point} (i : Point) (n : ℕ) → n ≤ suc i.0 → Memᴰ j (back_from i n) → (suc i.0 ≤ j.0 + n) × (j.0 ≤ i.0)
back_run i zero h m = absurd (Memᴰ.not-nil m)
back_run {j} i (suc n) h m = go (Memᴰ.cases_cons m) (back_run (point_before i) n (omega arith))
  where
    go : (j ≡ i) ⊎ Memᴰ j (back_from (point_before i) n) → (Memᴰ j (back_from (point_before i) n) → (suc (i.0 - 1) ≤ j.0 + n) × (j.0 ≤ i.0 - 1)) → (suc i.0 ≤ j.0 + suc n) × (j.0 ≤ i.0)
    go (inl e) below = let d : j.0 ≡ i.0 = ap (λ (p : Point). p.0) e in omega arith
    go (inr k) below = let r = below k in omega (arith, r.0, r.1)

pub back_at : {j : Point} (start i : Point) → start.0 ≤ i.0 → Memᴰ j (back_from i (suc i.0 - start.0)) → (start.0 ≤ j.0) × (j.0 ≤ i.0)
back_at start i h m = let r = back_run i (suc i.0 - start.0) (omega arith) m in omega (arith, r.0, r.1)

run_back : {j : Point} (i : Point) (n : ℕ) → j.0 ≤ i.0 → suc i.0 ≤ j.0 + n → Memᴰ j (back_from i n)
run_back i zero u o = absurd (omega arith)
run_back {j} i (suc n) u o = go (eq-or-lt_of_le u) (λ v. run_back (point_before i) n (omega arith) (omega arith))
  where
    go : (j.0 ≡ i.0) ⊎ (j.0 < i.0) → (j.0 < i.0 → Memᴰ j (back_from (point_before i) n)) → Memᴰ j (back_from i (suc n))
    go (inl e) below = Memᴰ.head (ap point e)
    go (inr v) below = Memᴰ.tail (below v)

pub back_of_lem : {j : Point} (start i : Point) → start.0 ≤ j.0 → j.0 ≤ i.0 → Memᴰ j (back_from i (suc i.0 - start.0))
back_of_lem start i u o = run_back i (suc i.0 - start.0) o (omega arith)

module _ {A B : Type 0} where
  pub select_gather : (q : B → Bool) (f : A → List B) (xs : List A) → select q (gather f xs) ≡ gather (λ x. select q (f x)) xs
  select_gather q f [] = refl
  select_gather q f (x ∷ xs) = select_append q (f x) (gather f xs) ∙ ap (λ ys. select q (f x) ++ ys) (select_gather q f xs)

  -- two tests and two functions that give the same at every element
  pub gather_chosen : (p q : A → Bool) (f g : A → List B) (xs : List A) → ((x : A) → Memᴰ x xs → (p x ≡ q x) × (f x ≡ g x)) → gather f (select p xs) ≡ gather g (select q xs)
  gather_chosen p q f g [] h = refl
  gather_chosen p q f g (x ∷ xs) h = let e = h x (Memᴰ.head refl) in rw e.0 (go e.1 (gather_chosen p q f g xs (λ y m. h y (Memᴰ.tail m))) (q x))
    where
      go : f x ≡ g x → gather f (select p xs) ≡ gather g (select q xs) → (t : Bool) → gather f (cond t (x ∷ select p xs) (select p xs)) ≡ gather g (cond t (x ∷ select q xs) (select q xs))
      go e rest true = ap₂ (λ s t. s ++ t) e rest
      go e rest false = rest

  pub select_map : (q : B → Bool) (f : A → B) (xs : List A) → select q (map f xs) ≡ map f (select (λ x. q (f x)) xs)
  select_map q f [] = refl
  select_map q f (x ∷ xs) = go (q (f x)) (select_map q f xs)
    where
      go : (t : Bool) → select q (map f xs) ≡ map f (select (λ y. q (f y)) xs) → cond t (f x ∷ select q (map f xs)) (select q (map f xs)) ≡ map f (cond t (x ∷ select (λ y. q (f y)) xs) (select (λ y. q (f y)) xs))
      go true e = ap (λ ys. f x ∷ ys) e
      go false e = e

  pub map_gather : {C : Type 0} (g : B → C) (f : A → List B) (xs : List A) → map g (gather f xs) ≡ gather (λ x. map g (f x)) xs
  map_gather g f [] = refl
  map_gather g f (x ∷ xs) = go (f x) ∙ ap (λ ys. map g (f x) ++ ys) (map_gather g f xs)
    where
      go : (us : List B) → map g (us ++ gather f xs) ≡ map g us ++ map g (gather f xs)
      go [] = refl
      go (u ∷ us) = ap (λ ys. g u ∷ ys) (go us)

  pub map-map : {C : Type 0} (g : B → C) (f : A → B) (xs : List A) → map g (map f xs) ≡ map (λ x. g (f x)) xs
  map-map g f [] = refl
  map-map g f (x ∷ xs) = ap (λ ys. g (f x) ∷ ys) (map-map g f xs)

pub map_id : {A : Type 0} (f : A → A) (xs : List A) → ((x : A) → Memᴰ x xs → f x ≡ x) → map f xs ≡ xs
map_id f [] h = refl
map_id f (x ∷ xs) h = ap₂ (λ y ys. y ∷ ys) (h x (Memᴰ.head refl)) (map_id f xs (λ y m. h y (Memᴰ.tail m)))

pub map_same : {A : Type 0} (xs : List A) → map (λ x. x) xs ≡ xs
map_same xs = map_id (λ x. x) xs (λ x m. refl)

-- a run of lists of which one alone isn't empty
pub gather_none : {B : Type 0} (f : ℕ → List B) (a n : ℕ) → ((y : ℕ) → a ≤ y → y < a + n → f y ≡ []) → gather f (range a n) ≡ []
gather_none f a zero h = refl
gather_none f a (suc n) h = rw (h a (omega arith) (omega arith)) (gather_none f (suc a) n (λ y u o. h y (omega arith) (omega arith)))

pub gather_one : {B : Type 0} (f : ℕ → List B) (x a n : ℕ) → a ≤ x → x < a + n → ((y : ℕ) → a ≤ y → y < a + n → (y ≡ x → ⊥) → f y ≡ []) → gather f (range a n) ≡ f x
gather_one f x a zero u o h = absurd (omega arith)
gather_one f x a (suc n) u o h = go (eq-or-lt_of_le u) (λ v. gather_one f x (suc a) n v (omega arith) (λ y p q r. h y (omega arith) (omega arith) r))
  where
    go : (a ≡ x) ⊎ (a < x) → (a < x → gather f (range (suc a) n) ≡ f x) → f a ++ gather f (range (suc a) n) ≡ f x
    go (inl e) rest = rw (gather_none f (suc a) n (λ y p q. h y (omega arith) (omega arith) (λ d. omega arith)), append-nil) (ap f e)
    go (inr e) rest = rw (h a (omega arith) (omega arith) (λ d. omega arith)) (rest e)

-- the same over points
pub gather_points : {B : Type 0} (f : Point → List B) (a n : ℕ) → gather f (points_from (point a) n) ≡ gather (λ y. f (point y)) (range a n)
gather_points f a zero = refl
gather_points f a (suc n) = ap (λ ys. f (point a) ++ ys) (gather_points f (suc a) n)

pub gather_each : {B : Type 0} (f g : ℕ → List B) (a n : ℕ) → ((y : ℕ) → a ≤ y → y < a + n → f y ≡ g y) → gather f (range a n) ≡ gather g (range a n)
gather_each f g a zero h = refl
gather_each f g a (suc n) h = ap₂ (λ s t. s ++ t) (h a (omega arith) (omega arith)) (gather_each f g (suc a) n (λ y u o. h y (omega arith) (omega arith)))

pub map_each : {B : Type 0} (f g : ℕ → B) (a n : ℕ) → ((y : ℕ) → a ≤ y → y < a + n → f y ≡ g y) → map f (range a n) ≡ map g (range a n)
map_each f g a zero h = refl
map_each f g a (suc n) h = ap₂ (λ s t. s ∷ t) (h a (omega arith) (omega arith)) (map_each f g (suc a) n (λ y u o. h y (omega arith) (omega arith)))

-- ---- lists put end to end: how long they are, of a list that a function gives, in two parts, and with one more

module _ {A B : Type 0} (f : A → List B) where
  pub gather_length : (n : ℕ) → ((x : A) → length (f x) ≡ n) → (xs : List A) → length (gather f xs) ≡ n * length xs
  gather_length n h [] = sym (mul-zero n)
  gather_length n h (x ∷ xs) =
      rw (length-append (f x) (gather f xs), mul-suc n (length xs))
      (omega (arith, h x, gather_length n h xs))

pub gather_map : {A B C : Type 0} (f : B → List C) (g : A → B) (xs : List A) → gather f (map g xs) ≡ gather (λ x. f (g x)) xs
gather_map f g [] = refl
gather_map f g (x ∷ xs) = ap (λ us. f (g x) ++ us) (gather_map f g xs)

pub gather_split : {B : Type 0} (f : ℕ → List B) (a m n : ℕ) → gather f (range a (m + n)) ≡ gather f (range a m) ++ gather f (range (a + m) n)
gather_split f a zero n = rw (zero-add, add-zero)
gather_split f a (suc m) n =
    let e : suc m + n ≡ suc (m + n) = omega arith in
    let g : suc a + m ≡ a + suc m = omega arith in
    rw e (ap (λ xs. f a ++ xs) (rw g at (gather_split f (suc a) m n)) ∙ sym (append_assoc (f a) (gather f (range (suc a) m)) (gather f (range (a + suc m) n))))

pub gather_more : {B : Type 0} (f : ℕ → List B) (n : ℕ) → gather f (range 0 (n + 1)) ≡ gather f (range 0 n) ++ f n
gather_more f n = gather_split f 0 n 1 ∙ ap (λ xs. gather f (range 0 n) ++ xs) (rw (zero-add n) (append-nil (f n)))
