-- The table of a call: that no node has many rows, and what it says once it is filled.
use Prim.Native.Nat.{ℕ, ◌-◌, ◌≤◌, ◌<◌}
use native.Mathlib.Omega.{arith}
use mathlib.Core.Path.{◌≡◌, sym, ◌∙◌, ap}
use mathlib.Core.List.{List}
use lib.ListN.{length, get_or}
use lib.Seq.{get_or-take}
use Rattle.meaning.specs.RuleFile.{node_count, last_node}
use Rattle.meaning.proofs.Accepted.{nodes_most}
use Rattle.meaning.specs.declared.LogEnd.{LogEnd}
use Rattle.method.specs.Step.{counts_stored, count_before, count_after}
use Rattle.method.specs.Room.{others_in, need}
use Rattle.method.proofs.Counted.{counts_length}
use Rattle.method.proofs.Bounds.{new_few}
use Rattle.node_step.specs.Figures.{before_in, after_in, weight_in}
use Rattle.figures.specs.Counts.{bare, Counting, Figured}
use Rattle.figures.specs.Tables.{TableOf, rows_in, Weighty, CallTable}

-- there is a count for each node
pub counts_many : {b : List ℕ} {l : LogEnd} {times counts : List ℕ} → Counting (bare b l times) counts → length counts ≡ node_count b
unfolding counts_stored
counts_many {b} {l} c = ap length c.counts ∙ counts_length b _ l _ (node_count b)

module _ {b : List ℕ} {l : LogEnd} {times counts : List ℕ} (c : Counting (bare b l times) counts) (w : List ℕ) {masks lows begins pairs stamps after wants weights f : List ℕ}
    (g : Figured (bare b l times) w stamps after wants) (h : (x : ℕ) → x < node_count b → get_or weights x 0 ≡ others_in b x) (n : ℕ) (e : n ≡ node_count b)
    (t : TableOf n masks lows counts after wants begins pairs weights f) where
  after_is : (x : ℕ) → x < node_count b → after_in f x ≡ count_after (bare b l times) w x
  unfolding count_after
  after_is x o = t.after_call x (omega arith) ∙ sym (get_or-take (node_count b) after x 0 o) ∙ ap (λ cs. get_or cs x 0) g.counts_now

  before_is : (x : ℕ) → x < node_count b → before_in f x ≡ count_before (bare b l times) x
  unfolding count_before
  before_is x o = t.before_call x (omega arith) ∙ ap (λ cs. get_or cs x 0) c.counts

  weight_is : (x : ℕ) → x < node_count b → weight_in f x ≡ others_in b x
  weight_is x o = t.weight x (omega arith) ∙ h x o

  pub weighty : ((x : ℕ) → x < node_count b → get_or pairs x 0 - get_or begins x 0 ≤ 512) → 288 ≤ length f → Weighty b f
  weighty few long =
      let (a, ok) = c.accepted in
      record {
        there = omega (arith, nodes_most b a ok);
        weight = weight_is;
        few = λ x o. omega (arith, few x o, t.pair x (omega arith), t.begin x (omega arith), after_is x o, before_is x o, new_few (bare b l times) a ok c.few_times c.times_many w x o);
      }

  pub tabled : {needed : ℕ} → needed ≡ need b (rows_in f) (last_node b) → CallTable (bare b l times) w masks counts lows begins pairs stamps after f needed
  tabled r =
      record {
        stamps_are_now = g.times_now;
        counts_now = g.counts_now;
        mask = λ x o. t.mask x (omega arith);
        low = λ x o. t.low x (omega arith);
        before_call = λ x o. t.before_call x (omega arith);
        after_call = after_is;
        want = λ x o. t.want x (omega arith) ∙ g.wants_now x o;
        begin = λ x o. t.begin x (omega arith);
        pair = λ x o. t.pair x (omega arith);
        end = λ x o. t.end x (omega arith);
        weight = weight_is;
        needed_is = r;
      }
