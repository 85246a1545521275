-- Loops that put rows into a set: what was put in and what is still to come make up the whole, from the first turn to the last.
-- Then what the set holds in the end, whatever the order in which rows were put in.
use Prim.Native.Nat.{ℕ, ◌+◌, ◌-◌, ◌*◌, ◌≤◌, ◌<◌}
use mathlib.Core.Path.{◌≡◌, refl, sym, ap, subst, ◌∙◌}
use mathlib.Core.Bool.{Bool, true, false, cond}
use mathlib.Core.Logic.{◌↔◌}
use mathlib.Core.List.{List, [], ◌∷◌, ◌++◌, map, append-nil, append_assoc, Memᴰ}
use native.Mathlib.Omega.{arith}
use lib.ListN.{length}
use lib.Dec.{leb}
use borrow.Author.Tests.{leb-true, leb-false}
use Rattle.meaning.specs.Lists.{range, select}
use Rattle.meaning.specs.Order.{ascending, OfLength}
use Rattle.meaning.specs.Evaluator.{insert_all, set_of}
use Rattle.meaning.proofs.Points.{Tested, passed, failed, tested}
use Rattle.meaning.proofs.Rows.{insert_all_same}
use Rattle.rowset.specs.declared.Gathered.{Gathered}
use Rattle.rowset.specs.Rows.{rows_from, most_held, add_capped, add_all_capped}
use Rattle.rowset.specs.Sets.{SetRoom, Added, SetMade, from_front, GatherRoom, Gathers}
use Rattle.rowset.proofs.Saturation.{in_turn, full_stays, insert_all_longer, exact_from, full_from}
use Rattle.rowset.proofs.Runs.{run_first, run_end, rows_none, rows_length, rows_of_length}

-- a loop at item i of those up to to: some rows are put in, and with those that the items still to come give they are all.
-- Put says of rows that they are put in, and gives what rows a list of items gives
pub record Turns {A : Type 0} (at : ℕ → A) (gives : List A → List (List ℕ)) (to : ℕ) (all : List (List ℕ)) (Put : List (List ℕ) → Type 0) (i : ℕ) : Type 0 where
  pub reached : i ≤ to
  pub done : List (List ℕ)
  pub parts : done ++ gives (map at (range i (to - i))) ≡ all
  pub put : Put done

module _ {A : Type 0} {at : ℕ → A} {gives : List A → List (List ℕ)} {to : ℕ} {Put : List (List ℕ) → Type 0} where
  pub starts : {i : ℕ} → i ≤ to → Put [] → Turns at gives to (gives (map at (range i (to - i)))) Put i
  starts l h = record { reached = l; done = []; parts = refl; put = h }

  pub starts_all : Put [] → Turns at gives to (gives (map at (range 0 to))) Put 0
  starts_all h =
      let e : to - 0 ≡ to = omega arith in
      rw e at (starts {i = 0} (omega arith) h)

  module _ {all : List (List ℕ)} {i : ℕ} (t : Turns at gives to all Put i) where
    -- a turn puts in what one item gives
    pub goes_on : (one : A → List (List ℕ)) → ((x : A) (xs : List A) → gives (x ∷ xs) ≡ one x ++ gives xs) → i < to
        → {Put' : List (List ℕ) → Type 0} {rows : List (List ℕ)} → ((xs : List (List ℕ)) → Put xs → Put' (xs ++ rows)) → rows ≡ one (at i) → Turns at gives to all Put' (i + 1)
    goes_on one splits l {Put'} step r =
        let rest : List A = map at (range (i + 1) (to - (i + 1))) in
        record {
          reached = omega arith;
          done = t.done ++ one (at i);
          parts = append_assoc t.done (one (at i)) (gives rest) ∙ ap (λ us. t.done ++ us) (sym (splits (at i) rest) ∙ ap gives (sym (run_first at to i l))) ∙ t.parts;
          put = subst (λ us. Put' (t.done ++ us)) r (step t.done t.put);
        }

    pub ended : gives [] ≡ [] → to ≤ i → Put all
    ended none l = subst Put (sym (append-nil t.done) ∙ ap (λ us. t.done ++ us) (sym (ap gives (run_end at to i l) ∙ none)) ∙ t.parts) t.put

-- rows put into a set: none, and one list after another
pub added_none : {lowest : ℕ} {ws : List ℕ} {n : ℕ} → SetRoom ws n → Added lowest ws n ws n []
added_none h = record { most = h.most; long = refl; set = refl }

pub added_then : {lowest : ℕ} {old : List ℕ} {n : ℕ} {mid : List ℕ} {m : ℕ} {new : List ℕ} {k : ℕ} {xs ys : List (List ℕ)} → Added lowest old n mid m xs → Added lowest mid m new k ys → Added lowest old n new k (xs ++ ys)
added_then {lowest} {old} {n} {xs = xs} {ys = ys} g h =
    record { most = h.most; long = h.long ∙ g.long; set = h.set ∙ ap (λ s. add_all_capped lowest s ys) g.set ∙ sym (in_turn (add_all_capped lowest) (add_capped lowest) (λ s. refl) (λ s x xs. refl) (rows_from old 0 n) xs ys) }

-- a loop that puts rows into a set of n, which now has k
abbrev pub Through : ℕ → {A : Type 0} → (ℕ → A) → (List A → List (List ℕ)) → ℕ → List ℕ → ℕ → List (List ℕ) → List ℕ → ℕ → ℕ → Type 0
Through lowest at gives to old n all new k i = Turns at gives to all (Added lowest old n new k) i

module _ {A : Type 0} {lowest : ℕ} {at : ℕ → A} {gives : List A → List (List ℕ)} {to : ℕ} {old : List ℕ} {n : ℕ} where
  pub begun : {i : ℕ} → i ≤ to → SetRoom old n → Through lowest at gives to old n (gives (map at (range i (to - i)))) old n i
  begun l h = starts l (added_none h)

  pub begun_all : SetRoom old n → Through lowest at gives to old n (gives (map at (range 0 to))) old n 0
  begun_all h = starts_all (added_none h)

  pub turned : {all : List (List ℕ)} {new : List ℕ} {k i : ℕ} → Through lowest at gives to old n all new k i → (one : A → List (List ℕ)) → ((x : A) (xs : List A) → gives (x ∷ xs) ≡ one x ++ gives xs) → i < to
      → {new' : List ℕ} {k' : ℕ} {rows : List (List ℕ)} → Added lowest new k new' k' rows → rows ≡ one (at i) → Through lowest at gives to old n all new' k' (i + 1)
  turned t one splits l h r = goes_on t one splits l (λ xs g. added_then g h) r

-- the rows put in, written in another way
pub added_as : {lowest : ℕ} {old : List ℕ} {n : ℕ} {new : List ℕ} {k : ℕ} {rows rows' : List (List ℕ)} → Added lowest old n new k rows → rows ≡ rows' → Added lowest old n new k rows'
added_as {lowest} {old} {n} h e = record { most = h.most; long = h.long; set = h.set ∙ ap (add_all_capped lowest (rows_from old 0 n)) e }

-- a set with rows put in has room still
pub room_after : {lowest : ℕ} {old : List ℕ} {n : ℕ} {new : List ℕ} {k : ℕ} {rows : List (List ℕ)} → SetRoom old n → Added lowest old n new k rows → SetRoom new k
room_after h g = record { most = g.most; there = omega (arith, h.there, g.long) }

-- a loop that gathers rows in a set, which is now this one
abbrev pub Gathering : ℕ → {A : Type 0} → (ℕ → A) → (List A → List (List ℕ)) → ℕ → List ℕ → Gathered → List (List ℕ) → List ℕ → Gathered → ℕ → Type 0
Gathering lowest at gives to old set all new set' i = Turns at gives to all (Gathers lowest old set new set') i

pub gathered_none : {lowest : ℕ} {ws : List ℕ} {set : Gathered} → GatherRoom lowest ws set → Gathers lowest ws set ws set []
gathered_none h = record { added = added_none h.room; led = h.led }

-- a set of n rows, in which the first is looked for from the front
pub gather_from : {lowest : ℕ} {ws : List ℕ} {n : ℕ} → SetRoom ws n → GatherRoom lowest ws (from_front n)
gather_from h = record { room = h; led = λ k l. absurd (omega arith) }

pub gather_room : {lowest : ℕ} {old : List ℕ} {set : Gathered} {new : List ℕ} {set' : Gathered} {rows : List (List ℕ)} → most_held * 4 ≤ length old → Gathers lowest old set new set' rows → GatherRoom lowest new set'
gather_room l g = record { room = record { most = g.added.most; there = omega (arith, g.added.long) }; led = g.led }

module _ {A : Type 0} {lowest : ℕ} {at : ℕ → A} {gives : List A → List (List ℕ)} {to : ℕ} {old : List ℕ} {set : Gathered} where
  pub gathers_from : {i : ℕ} → i ≤ to → GatherRoom lowest old set → Gathering lowest at gives to old set (gives (map at (range i (to - i)))) old set i
  gathers_from l h = starts l (gathered_none h)

  pub gathers_all : GatherRoom lowest old set → Gathering lowest at gives to old set (gives (map at (range 0 to))) old set 0
  gathers_all h = starts_all (gathered_none h)

  pub gathers_on : {all : List (List ℕ)} {new : List ℕ} {set' : Gathered} {i : ℕ} → Gathering lowest at gives to old set all new set' i → (one : A → List (List ℕ)) → ((x : A) (xs : List A) → gives (x ∷ xs) ≡ one x ++ gives xs) → i < to
      → {new' : List ℕ} {set'' : Gathered} {rows : List (List ℕ)} → Gathers lowest new set' new' set'' rows → rows ≡ one (at i) → Gathering lowest at gives to old set all new' set'' (i + 1)
  gathers_on t one splits l h r = goes_on t one splits l (λ xs g. record { added = added_then g.added h.added; led = h.led }) r

-- rows put into a set: up to 32 rows it is the set of them all, and a count of 33 says that they are more
module _ {lowest : ℕ} {old : List ℕ} {n : ℕ} {new : List ℕ} {k : ℕ} {set rows : List (List ℕ)} (s : SetMade old n set) (h : Added lowest old n new k rows) where
  counted : length (add_all_capped lowest (rows_from old 0 n) rows) ≡ k
  counted = ap length (sym h.set) ∙ rows_length new 0 k

  -- a set that is too large stays so
  stays_full : 32 < n → k ≡ n
  stays_full l = sym counted ∙ ap length (full_stays lowest (rows_from old 0 n) rows (omega (arith, rows_length old 0 n))) ∙ rows_length old 0 n

  few_then : n ≤ 32 → length (insert_all lowest set rows) ≤ 32 → rows_from new 0 k ≡ insert_all lowest set rows
  few_then l m = h.set ∙ ap (λ us. add_all_capped lowest us rows) (s.few l) ∙ exact_from lowest set rows (omega arith)

  many_then : n ≤ 32 → 32 < length (insert_all lowest set rows) → k ≡ 33
  many_then l m =
      let e : length set ≡ n = ap length (sym (s.few l)) ∙ rows_length old 0 n in
      sym counted ∙ ap (λ us. length (add_all_capped lowest us rows)) (s.few l) ∙ full_from lowest set rows (omega arith) (omega arith)

  pub made_more : SetMade new k (insert_all lowest set rows)
  made_more =
      record {
        most = h.most;
        few = λ l. few (tested (leb n 32)) (tested (leb (length (insert_all lowest set rows)) 32)) l;
        many = λ l. many (tested (leb n 32)) (tested (leb (length (insert_all lowest set rows)) 32)) l;
      }
    where
      few : Tested (leb n 32) → Tested (leb (length (insert_all lowest set rows)) 32) → k ≤ 32 → rows_from new 0 k ≡ insert_all lowest set rows
      few (passed d) (passed e) l = few_then (leb-true n 32 d) (leb-true (length (insert_all lowest set rows)) 32 e)
      few (passed d) (failed e) l = absurd (omega (arith, many_then (leb-true n 32 d) (leb-false (length (insert_all lowest set rows)) 32 e)))
      few (failed d) e l = absurd (omega (arith, leb-false n 32 d, stays_full (leb-false n 32 d)))

      many : Tested (leb n 32) → Tested (leb (length (insert_all lowest set rows)) 32) → 32 < k → 32 < length (insert_all lowest set rows)
      many d (failed e) l = leb-false (length (insert_all lowest set rows)) 32 e
      many (passed d) (passed e) l =
          let m = leb-true (length (insert_all lowest set rows)) 32 e in
          absurd (omega (arith, rows_length new 0 k, ap length (few_then (leb-true n 32 d) m)))
      many (failed d) (passed e) l = absurd (omega (arith, s.many (leb-false n 32 d), insert_all_longer lowest set rows, leb-true (length (insert_all lowest set rows)) 32 e))

none_made : (ws : List ℕ) → SetMade ws 0 []
none_made ws = record { most = omega arith; few = λ l. rows_none ws; many = λ l. absurd (omega arith) }

-- rows put into nothing
pub set_made : {lowest : ℕ} {old new : List ℕ} {k : ℕ} {rows : List (List ℕ)} → Added lowest old 0 new k rows → SetMade new k (set_of lowest rows)
set_made {old} h = made_more (none_made old) h

-- rows put in in another order
pub made_same : {lowest : ℕ} {old : List ℕ} {n : ℕ} {new : List ℕ} {k : ℕ} {set order : List (List ℕ)} (rows : List (List ℕ)) → ascending lowest set ≡ true → OfLength 4 order → ((u : List ℕ) → Memᴰ u order ↔ Memᴰ u rows) → SetMade old n set → Added lowest old n new k order
    → SetMade new k (insert_all lowest set rows)
made_same {lowest} {old} {n} {new} {k} {set} {order} rows up wide same s h = go (tested (leb n 32))
  where
    go : Tested (leb n 32) → SetMade new k (insert_all lowest set rows)
    go (passed d) =
        let long : OfLength 4 set = subst (OfLength 4) (s.few (leb-true n 32 d)) (rows_of_length old 0 n) in
        subst (SetMade new k) (insert_all_same lowest 4 set order rows up long wide same) (made_more s h)
    go (failed d) =
        let l = leb-false n 32 d in
        record { most = h.most; few = λ m. absurd (omega (arith, stays_full s h l)); many = λ m. omega (arith, s.many l, insert_all_longer lowest set rows) }

-- what one item gives where some are chosen
module _ {A : Type 0} (p : A → Bool) where
  pub select_one : (x : A) (xs : List A) → select p (x ∷ xs) ≡ cond (p x) (x ∷ []) [] ++ select p xs
  select_one x xs = go (p x)
    where
      go : (t : Bool) → cond t (x ∷ select p xs) (select p xs) ≡ cond t (x ∷ []) [] ++ select p xs
      go true = refl
      go false = refl

  pub map_select_one : {B : Type 0} (f : A → B) (x : A) (xs : List A) → map f (select p (x ∷ xs)) ≡ cond (p x) (f x ∷ []) [] ++ map f (select p xs)
  map_select_one f x xs = go (p x)
    where
      go : (t : Bool) → map f (cond t (x ∷ select p xs) (select p xs)) ≡ cond t (f x ∷ []) [] ++ map f (select p xs)
      go true = refl
      go false = refl

  -- a test and a row that the code computed from a row like x
  pub chosen : (f : A → List ℕ) {t : Bool} {r : List ℕ} {w x : A} → t ≡ p w → r ≡ f w → w ≡ x → cond t (r ∷ []) [] ≡ cond (p x) (f x ∷ []) []
  chosen f {t} {r} {w} {x} e g h =
      ap (λ b. cond b (r ∷ []) []) e ∙ ap (λ v. cond (p w) (v ∷ []) []) g ∙ ap (λ v. cond (p v) (f v ∷ []) []) h
