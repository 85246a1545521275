-- One call's step on what is stored: the nodes in turn, lowest first, what is then kept, and the answer.
use Rattle.std.specs.Prelude.{ℕ, zero, suc, ◌+◌, ◌-◌, min, Bool, cond, length, eqb}
use mathlib.Core.List.{List, [], ◌∷◌, ◌++◌, map}
use lib.ListN.{get_or, drop}
use lib.Dec.{ltb}
use Rattle.meaning.specs.Lists.{any, range, select, gather}
use Rattle.meaning.specs.Outcome.{Outcome, refused, given, most_rows}
use Rattle.meaning.specs.Log.{point, stamp, relation_in, points_from}
use Rattle.meaning.specs.Formula.{free, variables, lowest_of}
use Rattle.meaning.specs.View.{view_of}
use Rattle.meaning.specs.RuleFile.{node_count, node_at, formula_at, last_node, pattern, one_if}
use Rattle.meaning.specs.Kept.{Entry, entry_of, parent_of}
use Rattle.meaning.specs.Event.{point_of}
use Rattle.meaning.specs.Report.{Reported, report_words}
use Rattle.meaning.specs.Keeper.{Fed, event, notice, Taking, Given, report_row, admits, weighed, backlog_of, buffer_after}
use Rattle.meaning.specs.declared.Point.{Point}
use Rattle.meaning.specs.declared.Stamp.{Stamp}
use Rattle.meaning.specs.declared.LogEnd.{LogEnd}
use Rattle.meaning.specs.declared.Node.{Node}
use Rattle.meaning.specs.declared.Times.{Times}
use Rattle.meaning.specs.declared.Times.TheVariants.{Here, Before, After, Past, Future}
use Rattle.method.specs.Stored.{Stored, end_of, base_of, stamp_in, held, held_pairs, first_retained}
use Rattle.method.specs.Counts.{counts_to}
use Rattle.method.specs.Settle.{Inputs, settle, pairs_after, Turn, rows_of_turn}

-- the first point of a child that an unsettled point of its parent consults, with p points of the parent settled
abbrev pub first_wanted : Times → ℕ → Point
first_wanted Here p = point p
first_wanted Before p = point (p - 1)
first_wanted After p = point (p + 1)
first_wanted Past p = point p
first_wanted Future p = point p

-- the first point from which node x keeps its rows; the last node keeps none
unfoldable pub wanted_from : List ℕ → (ℕ → ℕ) → ℕ → Point
wanted_from b count x = point (cond (eqb x (last_node b)) (count x) (min (count x) (first_wanted (view_of (node_at b (parent_of b x))).times (count (parent_of b x))).0))

-- a node's rows at newly settled points, and its pairs at the last of them
abbrev pub new_rows : Inputs → ℕ → Node → Point → ℕ → List (List ℕ) → List (List (List ℕ))
new_rows v lowest node start count held = map (λ i. settle v lowest held start i node) (points_from start count)

abbrev pub new_pairs : Inputs → ℕ → Node → Point → ℕ → List (List ℕ) → List (List ℕ)
new_pairs v lowest node start zero held = held
new_pairs v lowest node start (suc count) held = pairs_after v lowest held start (point (start.0 + count)) (view_of node)

-- the turn of node x, which had settled as many points as before says and now has as many as after says
unfoldable pub turn_of : List ℕ → List Entry → (ℕ → ℕ) → (ℕ → ℕ) → Inputs → ℕ → Turn
turn_of b es before after v x =
    record {
      low = wanted_from b before x;
      rows = map (held es x) (points_from (wanted_from b before x) (before x - (wanted_from b before x).0)) ++ new_rows v (lowest_of (free (formula_at b x))) (node_at b x) (point (before x)) (after x - before x) (held_pairs es x);
      pairs = new_pairs v (lowest_of (free (formula_at b x))) (node_at b x) (point (before x)) (after x - before x) (held_pairs es x);
    }

abbrev pub no_turn : Turn
no_turn = record { low = point 0; rows = []; pairs = [] }

-- what node x can look at, after the turns of the nodes below it
abbrev pub inputs_of : List ℕ → (Point → Stamp) → (ℕ → ℕ) → (ℕ → List (List ℕ)) → List Turn → Inputs
inputs_of b τ after read turns = record { stamps = τ; free = λ y. free (formula_at b y); count = after; rows = λ y. rows_of_turn (get_or turns y no_turn); event = read }

-- the turns of the first nodes, as many as the last argument says
abbrev pub turns_to : List ℕ → List Entry → (Point → Stamp) → (ℕ → ℕ) → (ℕ → ℕ) → (ℕ → List (List ℕ)) → ℕ → List Turn
turns_to b es τ before after read zero = []
turns_to b es τ before after read (suc x) =
    turns_to b es τ before after read x ++ turn_of b es before after (inputs_of b τ after read (turns_to b es τ before after read x)) x ∷ []

-- how many points each node has settled
unfoldable pub counts_stored : Stored → List ℕ
counts_stored s = counts_to s.rule (stamp_in (base_of s) s.times) (end_of s) (λ x. (base_of s).0) (node_count s.rule)

unfoldable pub count_before : Stored → ℕ → ℕ
count_before s x = get_or (counts_stored s) x 0

-- the figures `kept` and `open`
abbrev pub kept_stored : Stored → ℕ
kept_stored s = length s.entries

unfoldable pub open_stored : Stored → ℕ
open_stored s = s.points - count_before s (last_node s.rule)

-- the words of what is fed: an event's, or of a notice its time alone
abbrev pub words_of : Fed → List ℕ
words_of (event w) = w
words_of (notice t) = t ∷ []

-- whether a point is added, told by the words: an event has two or more, a notice one
abbrev pub points_added : List ℕ → ℕ
points_added w = one_if (ltb 1 (length w))

-- the time of the point that is added
abbrev pub times_added : List ℕ → List ℕ
times_added w = cond (ltb 1 (length w)) (get_or w 0 0 ∷ []) []

-- the rows of the event by relation; a notice has none
abbrev pub rows_taken : List ℕ → List ℕ → ℕ → List (List ℕ)
rows_taken b w r = relation_in r (point_of b w).rows

-- One call, with the words of what is fed.
module _ (s : Stored) (w : List ℕ) where
  -- the retained times, and behind them the time of what is fed: of the point that is added, or of the notice
  unfoldable pub stamps_now : Point → Stamp
  stamps_now = stamp_in (base_of s) (s.times ++ get_or w 0 0 ∷ [])

  -- where the log then ends
  abbrev pub end_now : LogEnd
  end_now = record { points = s.points + points_added w; latest = stamp (get_or w 0 0) }

  unfoldable pub counts_after : List ℕ
  unfolding stamps_now
  counts_after = counts_to s.rule stamps_now end_now (count_before s) (node_count s.rule)

  unfoldable pub count_after : ℕ → ℕ
  unfolding counts_after
  count_after x = get_or counts_after x 0

  unfoldable pub turn : ℕ → Turn
  unfolding stamps_now count_after
  turn x = get_or (turns_to s.rule s.entries stamps_now (count_before s) count_after (rows_taken s.rule w) (node_count s.rule)) x no_turn

  -- what node x keeps
  unfoldable pub entries_now : ℕ → List Entry
  unfolding count_after turn
  entries_now x =
      gather (λ j. map (entry_of x 0 j.0) (rows_of_turn (turn x) j)) (points_from (wanted_from s.rule count_after x) (count_after x - (wanted_from s.rule count_after x).0))
      ++ map (λ p. entry_of x 1 (get_or p 0 0) (drop 1 p)) (turn x).pairs

  unfoldable pub stored_now : Stored
  unfolding counts_after entries_now
  stored_now =
      record {
        rule = s.rule;
        points = s.points + points_added w;
        latest = stamp (get_or w 0 0);
        times = drop ((first_retained (s.points + points_added w) counts_after).0 - (base_of s).0) (s.times ++ times_added w);
        entries = gather entries_now (range 0 (node_count s.rule));
      }

  -- a newly settled point of node x has too many rows
  unfoldable pub crowded_now : ℕ → Bool
  unfolding count_after turn
  crowded_now x = any (λ j. ltb most_rows (length (rows_of_turn (turn x) j))) (points_from (point (count_before s x)) (count_after x - count_before s x))

  -- the newly settled points of the last node, with their times and rows
  abbrev pub reported_now : List Reported
  reported_now =
      map (λ i. record { at = i; time = stamps_now i; rows = map (report_row (free (pattern s.rule))) (rows_of_turn (turn (last_node s.rule)) i) })
      (points_from (point (count_before s (last_node s.rule))) (count_after (last_node s.rule) - count_before s (last_node s.rule)))

  unfoldable pub report_now : List ℕ
  unfolding stamps_now count_after turn
  report_now = report_words (length (select (free (pattern s.rule)) variables)) reported_now

  -- the state after the call: kept on a refusal
  unfoldable abbrev pub stored_after : Outcome ℕ → Stored
  unfolding stored_now
  stored_after (refused number place) = s
  stored_after (given words) = stored_now

-- what is fed, answered: 13 to 16 are reckoned from what is stored
unfoldable pub answer_now : Stored → Fed → ℕ → Outcome ℕ
unfolding count_after stored_now crowded_now report_now
answer_now s f room =
    let w = words_of f in
    admits s.rule f s.latest s.points
    (weighed (crowded_now s w) (node_count s.rule) (backlog_of f (s.points + points_added w - count_after s w (last_node s.rule))) (length (stored_now s w).entries) (length (report_now s w)) room)

-- What a taking gives back, and what is then stored.
unfoldable pub given_by : Stored → Taking → Given
given_by s t =
    record {
      answer = answer_now s t.fed (length t.buffer);
      buffer = buffer_after (answer_now s t.fed (length t.buffer)) (report_now s (words_of t.fed)) t.buffer;
    }

unfoldable pub stored_by : Stored → Taking → Stored
stored_by s t = stored_after s (words_of t.fed) (answer_now s t.fed (length t.buffer))

-- over a list of takings, each given what the last handed back
abbrev pub given_run : Stored → List Taking → List Given
given_run s [] = []
given_run s (t ∷ ts) = given_by s t ∷ given_run (stored_by s t) ts

abbrev pub stored_run : Stored → List Taking → Stored
stored_run s [] = s
stored_run s (t ∷ ts) = stored_run (stored_by s t) ts
