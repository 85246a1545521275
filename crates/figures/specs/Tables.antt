-- The table of a call's figures, made from lists of them, and the rows that each node has at most.
use Rattle.std.specs.Prelude.{ℕ, ◌+◌, ◌-◌, ◌*◌, ◌≤◌, ◌<◌, ◌≡◌, List, [], ◌∷◌, ◌++◌, length, get_or, take}
use Rattle.meaning.specs.Outcome.{most_rows}
use Rattle.meaning.specs.RuleFile.{node_count, last_node}
use Rattle.method.specs.Stored.{Stored}
use Rattle.method.specs.Step.{wanted_from, counts_after, count_after}
use Rattle.method.specs.Room.{others_in, need}
use Rattle.node_step.specs.Figures.{mask_in, low_in, before_in, after_in, want_in, begin_in, pairs_in, end_in, weight_in, node_words}

-- the figures of n nodes stand in the table
pub record TableOf (n : ℕ) (masks lows before after wants begins pairs weights f : List ℕ) : Type 0 where
  pub mask : (x : ℕ) → x < n → mask_in f x ≡ get_or masks x 0
  pub low : (x : ℕ) → x < n → low_in f x ≡ get_or lows x 0
  pub before_call : (x : ℕ) → x < n → before_in f x ≡ get_or before x 0
  pub after_call : (x : ℕ) → x < n → after_in f x ≡ get_or after x 0
  pub want : (x : ℕ) → x < n → want_in f x ≡ get_or wants x 0
  pub begin : (x : ℕ) → x < n → begin_in f x ≡ get_or begins x 0
  pub pair : (x : ℕ) → x < n → pairs_in f x ≡ get_or pairs x 0
  pub end : (x : ℕ) → x < n → end_in f x ≡ get_or begins (x + 1) 0
  pub weight : (x : ℕ) → x < n → weight_in f x ≡ get_or weights x 0

-- by the table, node x's rows at most: those that are kept, and 32 in each new set
abbrev pub rows_in : List ℕ → ℕ → ℕ
rows_in f x = (pairs_in f x - begin_in f x) + most_rows * (after_in f x - before_in f x)

-- the table has the weights of the rule's nodes, and no node has many rows
pub record Weighty (b f : List ℕ) : Type 0 where
  pub there : node_count b * node_words ≤ length f
  pub weight : (x : ℕ) → x < node_count b → weight_in f x ≡ others_in b x
  pub few : (x : ℕ) → x < node_count b → rows_in f x ≤ 4096

-- the figures of a call with the words w, whose retained times are those of s: the stamps with that of what is fed behind them, how many points each node has then settled, the table of all figures, and how many rows the call needs
pub record CallTable (s : Stored) (w masks counts lows begins pairs stamps after f : List ℕ) (needed : ℕ) : Type 0 where
  pub stamps_are_now : take (length s.times + 1) stamps ≡ s.times ++ get_or w 0 0 ∷ []
  pub counts_now : take (node_count s.rule) after ≡ counts_after s w
  pub mask : (x : ℕ) → x < node_count s.rule → mask_in f x ≡ get_or masks x 0
  pub low : (x : ℕ) → x < node_count s.rule → low_in f x ≡ get_or lows x 0
  pub before_call : (x : ℕ) → x < node_count s.rule → before_in f x ≡ get_or counts x 0
  pub after_call : (x : ℕ) → x < node_count s.rule → after_in f x ≡ count_after s w x
  pub want : (x : ℕ) → x < node_count s.rule → want_in f x ≡ (wanted_from s.rule (count_after s w) x).0
  pub begin : (x : ℕ) → x < node_count s.rule → begin_in f x ≡ get_or begins x 0
  pub pair : (x : ℕ) → x < node_count s.rule → pairs_in f x ≡ get_or pairs x 0
  pub end : (x : ℕ) → x < node_count s.rule → end_in f x ≡ get_or begins (x + 1) 0
  pub weight : (x : ℕ) → x < node_count s.rule → weight_in f x ≡ others_in s.rule x
  pub needed_is : needed ≡ need s.rule (rows_in f) (last_node s.rule)
