-- One node's block of entries put behind those that are stored, and the last node's newly settled points by the figures of a call.
use Rattle.std.specs.Prelude.{ℕ, ◌+◌, ◌-◌, ◌*◌, ◌^◌, ◌≤◌, ◌<◌, ◌≡◌, List, map, length, get_or}
use Rattle.meaning.specs.Lists.{gather}
use Rattle.meaning.specs.Kept.{Entry}
use Rattle.meaning.specs.Log.{point}
use Rattle.meaning.specs.Outcome.{most_points, most_nodes}
use Rattle.meaning.specs.RuleFile.{node_count, last_node}
use Rattle.method.specs.Step.{points_added}
use Rattle.entries.specs.Appended.{WordsPut}
use Rattle.writer.specs.declared.Points.{Points}
use Rattle.writer.specs.Words.{words, Reportable}
use Rattle.node_step.specs.Figures.{mask_in, low_in, before_in, after_in, node_words}
use Rattle.node_step.specs.Walks.{set_words, block_word}
use Rattle.call.specs.Stores.{owner_of}

-- the words of a list put at word k and on
abbrev pub ListPut : List ℕ → ℕ → List ℕ → List ℕ → Type 0
ListPut old k new ws = WordsPut old k new (length ws) (λ i. get_or ws i 0)

-- entries put behind k others; next is the entry behind them
pub record EntriesPut (os ns vs os' ns' vs' : List ℕ) (k : ℕ) (es : List Entry) (next : ℕ) : Type 0 where
  pub counted : next ≡ k + length es
  pub owners : ListPut os k os' (map owner_of es)
  pub numbers : ListPut ns k ns' (map (λ e. e.number) es)
  pub values : ListPut vs (k * 4) vs' (gather (λ e. e.values) es)

-- how many entries node x's block has
abbrev pub block_size : List ℕ → ℕ → ℕ
block_size bl x = block_word bl x 2 - block_word bl x 0

-- node x's block stands in the out words, and behind k entries there is room for it
pub record BlockStorable (on ov bl : List ℕ) (x : ℕ) (os ns vs : List ℕ) (k : ℕ) : Type 0 where
  pub node : x < most_nodes
  pub table : set_words + x * 3 + 3 ≤ length bl
  pub rows_first : block_word bl x 0 ≤ block_word bl x 1
  pub pairs_last : block_word bl x 1 ≤ block_word bl x 2
  pub numbers_are_there : block_word bl x 2 ≤ length on
  pub rows_there : block_word bl x 2 * 4 ≤ length ov
  pub owners_room : k + block_size bl x ≤ length os
  pub numbers_room : k + block_size bl x ≤ length ns
  pub values_room : (k + block_size bl x) * 4 ≤ length vs

-- the last node's newly settled points, by its figures; its sets stand from set 0 on
abbrev pub last_points : List ℕ → List ℕ → ℕ → List ℕ → Points
last_points b f points stamps =
    let x = last_node b in
    record { from = point (before_in f x); count = after_in f x - before_in f x; first = 0; low = point (low_in f x); base = point (points + 1 - length stamps); mask = mask_in f x }

-- the report on them can be written
pub record LastReady (b f : List ℕ) (points : ℕ) (w stamps rows at : List ℕ) : Type 0 where
  pub byte : 2 < length b
  pub some : 0 < node_count b
  pub nodes : node_count b ≤ most_nodes
  pub figures_there : node_count b * node_words ≤ length f
  pub grown : before_in f (last_node b) ≤ after_in f (last_node b)
  pub settled : after_in f (last_node b) ≤ points + points_added w
  pub not_full : points + points_added w ≤ most_points
  pub retained : length stamps ≤ points + 1
  pub mask_small : mask_in f (last_node b) < 256
  pub sets : Reportable rows at (last_points b f points stamps)
  pub few_words : length (words rows at stamps (last_points b f points stamps)) < 2 ^ 32
