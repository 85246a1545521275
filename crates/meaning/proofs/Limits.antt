-- The exact conditions of 9 to 16, as specs/Limits.antt states them.
use Prim.Native.Nat.{ℕ, zero, suc, ◌+◌, ◌-◌, ◌*◌, ◌≤◌, ◌<◌}
use mathlib.Core.Path.{◌≡◌, refl, sym, ◌∙◌, ap}
use mathlib.Core.Bool.{Bool, true, false, not, ◌&&◌}
use mathlib.Core.Logic.{◌↔◌, ◌⊎◌, inl, inr}
use mathlib.Core.List.{List, [], ◌∷◌}
use lib.ListN.{length, get_or, take, drop, length-take, length-drop}
use lib.Seq.{get_or-take, get_or-drop}
use lib.Dec.{ltb, leb, eqb}
use borrow.Author.Tests.{ltb-true, leb-true, eqb-true, not-true, lt-ltb, le-ltb, le-leb, lt-leb, eq-eqb}
use native.Mathlib.Nat.{eq-or-lt_of_le}
use native.Mathlib.Omega.{arith}
use Rattle.meaning.specs.Lists.{all, any, range, select}
use Rattle.meaning.specs.Outcome.{Outcome, refused, given, when}
use Rattle.meaning.specs.Log.{Log, size, points_of}
use Rattle.meaning.specs.Evaluator.{vals}
use Rattle.meaning.specs.Settled.{settled}
use Rattle.meaning.specs.RuleFile.{relation_count, arity, formula_at}
use Rattle.meaning.specs.Event.{row_count, relation_of, is_event, row_fits, columns_of}
use Rattle.meaning.specs.Keeper.{notice, newly_settled, weigh_rows, weigh_crowds, admitted, admits, weighed, crowded_at}
use Rattle.meaning.specs.Limits.{EventForm, RowForm, EventFits, Admits, AdmitsNotice, Weighs, Crowded}
use Rattle.meaning.proofs.Points.{both, first, second}
use Rattle.meaning.proofs.Rows.{any_at, any_of, select_at, select_of, points_at, points_of_lem}
use Rattle.meaning.specs.declared.Point.{Point}
use Rattle.meaning.specs.declared.Stamp.{Stamp}

untrue : (t : Bool) → (t ≡ true → ⊥) → t ≡ false
untrue true h = absurd (h refl)
untrue false h = refl

-- ---- 9 and 10 of an event

module _ (w : List ℕ) where
  -- its three tests
  abbrev two : Bool
  two = leb 2 (length w)

  abbrev few : Bool
  few = leb (row_count w) 32

  abbrev long : Bool
  long = eqb (length w) (2 + 5 * row_count w)

  event_at : is_event w ≡ true → EventForm w
  unfolding is_event
  event_at e =
      let f : two && few ≡ true = first (two && few) long e in
      record { words = leb-true 2 (length w) (first two few f); rows = leb-true (row_count w) 32 (second two few f); long = eqb-true (length w) (2 + 5 * row_count w) (second (two && few) long e) }

  event_of_lem : EventForm w → is_event w ≡ true
  unfolding is_event
  event_of_lem f = both (both (le-leb 2 (length w) f.words) (le-leb (row_count w) 32 f.rows)) (eq-eqb (length w) (2 + 5 * row_count w) f.long)

zeros_at : (xs : List ℕ) → all (eqb 0) xs ≡ true → (i : ℕ) → get_or xs i 0 ≡ 0
zeros_at [] e i = refl
zeros_at (x ∷ xs) e zero = sym (eqb-true 0 x (first (eqb 0 x) _ e))
zeros_at (x ∷ xs) e (suc i) = zeros_at xs (second (eqb 0 x) _ e) i

zeros_of : (xs : List ℕ) → ((i : ℕ) → i < length xs → get_or xs i 0 ≡ 0) → all (eqb 0) xs ≡ true
zeros_of [] h = refl
zeros_of (x ∷ xs) h = both (eq-eqb 0 x (sym (h 0 (omega arith)))) (zeros_of xs (λ i o. h (suc i) (omega arith)))

-- a column of the four from word n on, of those past the first a
column : (w : List ℕ) (n a i : ℕ) → a + i < 4 → get_or (drop a (take 4 (drop n w))) i 0 ≡ get_or w (n + (a + i)) 0
column w n a i h = get_or-drop a (take 4 (drop n w)) i 0 ∙ get_or-take 4 (drop n w) (a + i) 0 h ∙ get_or-drop n w (a + i) 0

module _ (b w : List ℕ) (k : ℕ) where
  -- its relation and arity, and its first word
  abbrev r : ℕ
  r = relation_of w k

  abbrev a : ℕ
  a = arity b r

  abbrev n : ℕ
  n = 2 + row_count w + 4 * k

  abbrev unused : List ℕ
  unused = drop a (columns_of w k)

  row_at_lem : row_fits b w k ≡ true → RowForm b w k
  unfolding row_fits
  row_at_lem e =
      let zeros : all (eqb 0) unused ≡ true = second (ltb r (relation_count b)) (all (eqb 0) unused) e in
      record {
        relation = ltb-true r (relation_count b) (first (ltb r (relation_count b)) (all (eqb 0) unused) e);
        unused = λ c u o. let q : a + (c - a) ≡ c = omega arith in rw q at (sym (column w n a (c - a) (omega arith)) ∙ zeros_at unused zeros (c - a));
      }

  row_of : RowForm b w k → row_fits b w k ≡ true
  unfolding row_fits
  row_of f =
      both (lt-ltb r (relation_count b) f.relation)
      (zeros_of unused
      (λ i o. let h : a + i < 4 = omega (arith, length-drop a (columns_of w k), length-take 4 (drop n w)) in column w n a i h ∙ f.unused (a + i) (omega arith) h))

-- ---- the first of several refusals of one number

abbrev weigh_each : (ℕ → Bool) → ℕ → List ℕ → Outcome ℕ → Outcome ℕ
weigh_each fails number [] rest = rest
weigh_each fails number (x ∷ xs) rest = when (fails x) number x (weigh_each fails number xs rest)

rows_each : (b w ks : List ℕ) (rest : Outcome ℕ) → weigh_rows b w ks rest ≡ weigh_each (λ k. not (row_fits b w k)) 10 ks rest
rows_each b w [] rest = refl
rows_each b w (k ∷ ks) rest = rw (rows_each b w ks rest)

crowds_each : (crowds : ℕ → Bool) (xs : List ℕ) (rest : Outcome ℕ) → weigh_crowds crowds xs rest ≡ weigh_each crowds 13 xs rest
crowds_each crowds [] rest = refl
crowds_each crowds (x ∷ xs) rest = rw (crowds_each crowds xs rest)

module _ (fails : ℕ → Bool) (number : ℕ) (rest : Outcome ℕ) where
  none_fails : (a n : ℕ) → ((x : ℕ) → a ≤ x → x < a + n → fails x ≡ false) → weigh_each fails number (range a n) rest ≡ rest
  none_fails a zero h = refl
  none_fails a (suc n) h = rw (h a (omega arith) (omega arith)) (none_fails (suc a) n (λ x u o. h x (omega arith) (omega arith)))

  first_fails : (a n x : ℕ) → a ≤ x → x < a + n → fails x ≡ true → ((y : ℕ) → a ≤ y → y < x → fails y ≡ false) → weigh_each fails number (range a n) rest ≡ refused number x
  first_fails a zero x u o e h = absurd (omega arith)
  first_fails a (suc n) x u o e h = go (λ l. first_fails (suc a) n x l (omega arith) e (λ y v p. h y (omega arith) p)) (eq-or-lt_of_le u)
    where
      go : (suc a ≤ x → weigh_each fails number (range (suc a) n) rest ≡ refused number x) → (a ≡ x) ⊎ (a < x) → when (fails a) number a (weigh_each fails number (range (suc a) n) rest) ≡ refused number x
      go below (inl d) = rw (d, e)
      go below (inr l) = rw (h a (omega arith) l) (below l)

-- ---- 9 to 12

module _ (b w : List ℕ) (last : Stamp) (points : ℕ) (rest : Outcome ℕ) where
  -- past 9, and past 10
  event_passed : EventForm w → admitted b w last points rest ≡ weigh_each (λ k. not (row_fits b w k)) 10 (range 0 (row_count w)) (when (ltb (get_or w 0 0) last.0) 11 0 (when (leb 10000000 points) 12 0 rest))
  unfolding admitted
  event_passed f = rw (event_of_lem w f) (rows_each b w (range 0 (row_count w)) _)

  rows_passed : EventFits b w → admitted b w last points rest ≡ when (ltb (get_or w 0 0) last.0) 11 0 (when (leb 10000000 points) 12 0 rest)
  rows_passed f = event_passed f.event ∙ none_fails (λ k. not (row_fits b w k)) 10 _ 0 (row_count w) (λ k u o. ap not (row_of b w k (f.rows k (omega arith))))

  pub admitted_exact : Admits b w last points rest (admitted b w last points rest)
  unfolding admitted
  admitted_exact =
      record {
        not_an_event = λ no. rw (untrue (is_event w) (λ e. no (event_at w e)));
        row_out = λ f k o no lower.
            event_passed f
            ∙ first_fails (λ k. not (row_fits b w k)) 10 _ 0 (row_count w) k (omega arith) (omega arith) (ap not (untrue (row_fits b w k) (λ e. no (row_at_lem b w k e)))) (λ j u p. ap not (row_of b w j (lower j p)));
        time_falls = λ f h. rows_passed f ∙ rw (lt-ltb (get_or w 0 0) last.0 h);
        log_full = λ f h m. rows_passed f ∙ rw (le-ltb (get_or w 0 0) last.0 h, le-leb 10000000 points m);
        passed = λ f h m. rows_passed f ∙ rw (le-ltb (get_or w 0 0) last.0 h, lt-leb 10000000 points m);
      }

pub notice_exact : (b : List ℕ) (t : ℕ) (last : Stamp) (points : ℕ) (rest : Outcome ℕ) → AdmitsNotice t last rest (admits b (notice t) last points rest)
notice_exact b t last points rest = record { time_falls = λ h. rw (lt-ltb t last.0 h); passed = λ h. rw (le-ltb t last.0 h) }

-- ---- 13 to 16

module _ (crowds : ℕ → Bool) (nodes unsettled entries words room : ℕ) where
  -- past 13
  calm : ((x : ℕ) → x < nodes → crowds x ≡ false) → weighed crowds nodes unsettled entries words room ≡ when (ltb 32 unsettled) 14 0 (when (ltb 512 entries) 15 0 (when (ltb room words) 16 words (given words)))
  unfolding weighed
  calm h = crowds_each crowds (range 0 nodes) _ ∙ none_fails crowds 13 _ 0 nodes (λ x u o. h x (omega arith))

  pub weighed_exact : Weighs crowds nodes unsettled entries words room (weighed crowds nodes unsettled entries words room)
  unfolding weighed
  weighed_exact =
      record {
        crowded = λ x o e lower. crowds_each crowds (range 0 nodes) _ ∙ first_fails crowds 13 _ 0 nodes x (omega arith) (omega arith) e (λ y u p. lower y p);
        backlog = λ h u. calm h ∙ rw (lt-ltb 32 unsettled u);
        kept_over = λ h u k. calm h ∙ rw (le-ltb 32 unsettled u, lt-ltb 512 entries k);
        buffer_short = λ h u k s. calm h ∙ rw (le-ltb 32 unsettled u, le-ltb 512 entries k, lt-ltb room words s);
        passed = λ h u k s. calm h ∙ rw (le-ltb 32 unsettled u, le-ltb 512 entries k, le-ltb room words s);
      }

-- 13's test of a node
module _ (b : List ℕ) (l l' : Log) (x : ℕ) where
  abbrev many : Point → Bool
  many i = ltb 32 (length (vals l' (formula_at b x) i))

  abbrev new : Point → Bool
  new i = settled l' (formula_at b x) i && not (settled l (formula_at b x) i)

  pub crowded_exact : (crowded_at b l l' x ≡ true) ↔ Crowded b l l' x
  unfolding crowded_at newly_settled
  crowded_exact = (to, λ c. any_of many (select_of new (points_of_lem 0 (size l') (omega arith) (omega (arith, c.there))) (both c.settled_now (ap not c.not_before))) (lt-ltb 32 _ c.many))
    where
      to : any many (select new (points_of l')) ≡ true → Crowded b l l' x
      to e =
          let (i, m, t) = any_at many (select new (points_of l')) e in
          let (p, s) = select_at new (points_of l') m in
          record {
            at = i;
            there = omega (arith, (points_at 0 (size l') p).1);
            settled_now = first (settled l' (formula_at b x) i) (not (settled l (formula_at b x) i)) s;
            not_before = not-true (settled l (formula_at b x) i) (second (settled l' (formula_at b x) i) (not (settled l (formula_at b x) i)) s);
            many = ltb-true 32 (length (vals l' (formula_at b x) i)) t;
          }
