-- "Take an event": the conditions of 9 to 16 with 01's figures, as laws of `admitted`, `weighed` and `crowded_at` (shown in proofs/Limits.antt). Keeper and method share these definitions, so no theorem that sets the two side by side would tell a wrong limit in them.
-- In each record the conditions are laid out to exclude one another and to leave nothing out, so that each is exact.
use Rattle.std.specs.Prelude.{ℕ, ◌+◌, ◌*◌, ◌≤◌, ◌<◌, ◌≡◌, Bool, true, false, List, length, get_or}
use Rattle.meaning.specs.Outcome.{Outcome, refused, given}
use Rattle.meaning.specs.Log.{Log, size}
use Rattle.meaning.specs.Evaluator.{vals}
use Rattle.meaning.specs.Settled.{settled}
use Rattle.meaning.specs.RuleFile.{relation_count, arity, formula_at}
use Rattle.meaning.specs.declared.Point.{Point}
use Rattle.meaning.specs.declared.Stamp.{Stamp}

-- "9: under 2 words, m above 32, or wrong length": none of these
pub record EventForm (w : List ℕ) : Type 0 where
  pub words : 2 ≤ length w
  pub rows : get_or w 1 0 ≤ 32
  pub long : length w ≡ 2 + 5 * get_or w 1 0

-- "10: a relation not below R or an unused column not 0": neither, of row k
pub record RowForm (b w : List ℕ) (k : ℕ) : Type 0 where
  pub relation : get_or w (2 + k) 0 < relation_count b
  pub unused : (c : ℕ) → arity b (get_or w (2 + k) 0) ≤ c → c < 4 → get_or w (2 + get_or w 1 0 + 4 * k + c) 0 ≡ 0

-- the event passes 9 and 10
pub record EventFits (b w : List ℕ) : Type 0 where
  pub event : EventForm w
  pub rows : (k : ℕ) → k < get_or w 1 0 → RowForm b w k

-- 9 to 12, by the latest time and the number of points; rest is what follows
pub record Admits (b w : List ℕ) (last : Stamp) (points : ℕ) (rest answer : Outcome ℕ) : Type 0 where
  pub not_an_event : (EventForm w → ⊥) → answer ≡ refused 9 0
  -- "place is the first such row, from 0"
  pub row_out : EventForm w → (k : ℕ) → k < get_or w 1 0 → (RowForm b w k → ⊥) → ((j : ℕ) → j < k → RowForm b w j) → answer ≡ refused 10 k
  -- "11: time below the last point's"; "later events below" a notice "meet 11"
  pub time_falls : EventFits b w → get_or w 0 0 < last.0 → answer ≡ refused 11 0
  -- "12: 10,000,000 points already"
  pub log_full : EventFits b w → last.0 ≤ get_or w 0 0 → 10000000 ≤ points → answer ≡ refused 12 0
  pub passed : EventFits b w → last.0 ≤ get_or w 0 0 → points < 10000000 → answer ≡ rest

-- 11 of a notice, by the latest known time; rest is what follows
pub record AdmitsNotice (t : ℕ) (last : Stamp) (rest answer : Outcome ℕ) : Type 0 where
  pub time_falls : t < last.0 → answer ≡ refused 11 0
  pub passed : last.0 ≤ t → answer ≡ rest

-- 13 to 16, by the nodes that are crowded, the points left unsettled (0 on a notice, so that 14 doesn't meet it), the entries kept, the report's words and the buffer's
pub record Weighs (crowds : ℕ → Bool) (nodes unsettled entries words room : ℕ) (answer : Outcome ℕ) : Type 0 where
  -- "place the lowest such node"
  pub crowded : (x : ℕ) → x < nodes → crowds x ≡ true → ((y : ℕ) → y < x → crowds y ≡ false) → answer ≡ refused 13 x
  -- "14, over 32 points unsettled for the last node"
  pub backlog : ((x : ℕ) → x < nodes → crowds x ≡ false) → 32 < unsettled → answer ≡ refused 14 0
  -- "15, kept over 512"
  pub kept_over : ((x : ℕ) → x < nodes → crowds x ≡ false) → unsettled ≤ 32 → 512 < entries → answer ≡ refused 15 0
  -- "16, report buffer too short, place the words needed"
  pub buffer_short : ((x : ℕ) → x < nodes → crowds x ≡ false) → unsettled ≤ 32 → entries ≤ 512 → room < words → answer ≡ refused 16 words
  -- "Otherwise .. the words written"
  pub passed : ((x : ℕ) → x < nodes → crowds x ≡ false) → unsettled ≤ 32 → entries ≤ 512 → words ≤ room → answer ≡ given words

-- "13, some node has over 32 valuations at a point newly settled for it": at such a point
pub record Crowded (b : List ℕ) (l l' : Log) (x : ℕ) : Type 0 where
  pub at : Point
  pub there : at.0 < size l'
  pub settled_now : settled l' (formula_at b x) at ≡ true
  pub not_before : settled l (formula_at b x) at ≡ false
  pub many : 32 < length (vals l' (formula_at b x) at)
